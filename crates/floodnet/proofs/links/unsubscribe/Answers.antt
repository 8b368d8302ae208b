-- `floodnet::links::unsubscribe` meets its contract. Assumes nothing.
use Rattle.std.proofs.Common.{rules}
use Rattle.sets.specs.Set.{only, strikes}
use Rattle.floodnet.specs.Topics.{struck, unsubscribed_from}
use Rattle.floodnet.proofs.links.unsubscribe.Goals as goal

pub returns : goal.returns
unfolding unsubscribed_from struck strikes
returns c = search (rules, c.in_rows.ensures (strikes (only c.args.p.0)) (λ w r b k. search rules))
