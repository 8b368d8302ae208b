-- `drain::sorted::topics_of` meets its contract. The loop has the topics of the messages visited. Assumes nothing.
use Rattle.std.proofs.Common.{rules}
use Rattle.drain.proofs.Filing.{using_none, using_more, using_done}
use Rattle.drain.proofs.sorted.topics_of.Goals as goal

pub loop-m-init : goal.loop-m-init
loop-m-init c = using_none (search rules) (search rules)

pub loop-m-preserved : goal.loop-m-preserved
loop-m-preserved c =
    using_more c.loop-m.invariant c.in-Some.ensures.steps (c.requires _) c.with-r.ensures

pub returns : goal.returns
returns c = using_done c.loop-m.invariant c.in-None.ensures.steps.0
