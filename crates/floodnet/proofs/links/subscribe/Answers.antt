-- `floodnet::links::subscribe` meets its contract. Assumes nothing.
use Rattle.std.proofs.Common.{rules}
use Rattle.sets.specs.Set.{only, puts}
use Rattle.floodnet.specs.Topics.{noted, subscribed_to}
use Rattle.floodnet.proofs.links.subscribe.Goals as goal

pub returns : goal.returns
unfolding subscribed_to noted puts
returns c = search (rules, c.in_rows.ensures (puts (only c.args.p.0)) (λ w r b k. search rules))
