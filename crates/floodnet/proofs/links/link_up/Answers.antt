-- `floodnet::links::link_up` meets its contract. Assumes nothing.
use Rattle.std.proofs.Common.{rules}
use Rattle.sets.specs.Set.{puts}
use Rattle.floodnet.specs.Topics.{noted}
use Rattle.floodnet.proofs.CodeLinks.{link_up_law}
use Rattle.floodnet.proofs.links.link_up.Goals as goal

pub returns : goal.returns
unfolding noted puts
returns c =
    link_up_law _ _ _ c.union.ensures
    (c.each.ensures _ (λ w r b k. search rules))
    (c.in_rows.ensures _ (λ w r b k. search rules))
    c.learn.ensures
