-- `drain::sorted::by_topic` meets its contract. The loop has put the messages visited into the words of their topics. Assumes nothing.
use Rattle.std.proofs.Common.{rules}
use Rattle.drain.proofs.Filing.{sorting_none, sorting_more, sorting_done}
use Rattle.drain.proofs.sorted.by_topic.Goals as goal

pub loop-m-init : goal.loop-m-init
loop-m-init c = sorting_none (search rules) (search rules)

pub loop-m-preserved : goal.loop-m-preserved
loop-m-preserved c =
    sorting_more c.loop-m.invariant c.in-Some.ensures.steps (c.requires _) c.with.ensures

pub returns : goal.returns
returns c = sorting_done c.loop-m.invariant c.in-None.ensures.steps.0
