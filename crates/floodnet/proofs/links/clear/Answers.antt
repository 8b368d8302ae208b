-- `floodnet::links::clear` meets its contract. Assumes nothing.
use Rattle.std.proofs.Common.{rules}
use Rattle.sets.specs.Set.{empties}
use Rattle.floodnet.specs.Links.{cleared}
use Rattle.floodnet.proofs.links.clear.Goals as goal

pub returns : goal.returns
unfolding cleared empties
returns c = search (rules, c.whole_row.ensures empties (λ w r b k. search rules))
