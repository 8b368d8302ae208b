-- The invariants of `floodnet::arrays::lacking`. Assumes nothing.
use Rattle.sets.proofs.laws.Visits.{Visit}
use Rattle.floodnet.proofs.CodeArrays.{lacks}
use Rattle.floodnet.proofs.arrays.lacking.Given as goal

abbrev pub invariant-loop-q : goal.invariant-loop-q
invariant-loop-q l = Visit 32 l.s l.q-iterator.left l.r (lacks l.pending l.seen l.i)
