-- `floodnet::arrays::lacking` meets its contract. Assumes nothing.
use Rattle.std.proofs.Common.{rules}
use Rattle.sets.proofs.laws.Visits.{visit_none}
use Rattle.floodnet.proofs.CodeArrays.{lacking_more, lacking_done}
use Rattle.floodnet.proofs.arrays.lacking.Goals as goal

pub loop-q-init : goal.loop-q-init
loop-q-init c = visit_none (search rules) (search rules)

pub loop-q-preserved : goal.loop-q-preserved
loop-q-preserved c =
    lacking_more _ _ _ c.loop-q.invariant c.in-Some.ensures.steps
    c.union-words.ensures c.has.ensures c.with_if-r.ensures

pub returns : goal.returns
returns c = lacking_done _ _ _ c.loop-q.invariant c.in-None.ensures.steps.0 (search rules)
