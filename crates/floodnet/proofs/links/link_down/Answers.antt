-- `floodnet::links::link_down` meets its contract. Assumes nothing.
use Rattle.std.proofs.Common.{rules}
use Rattle.sets.specs.Set.{strikes}
use Rattle.floodnet.proofs.CodeLinks.{link_down_law}
use Rattle.floodnet.proofs.links.link_down.Goals as goal

pub returns : goal.returns
unfolding strikes
returns c =
    link_down_law _ _ _ c.minus.ensures
    (c.each.ensures _ (λ w r b k. search rules))
    (c.whole_rows.ensures _ (λ w r b k. search rules))
    (c.whole_row.ensures _ (λ w r b k. search rules))
