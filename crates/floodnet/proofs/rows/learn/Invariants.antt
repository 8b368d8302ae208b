-- The invariants of `floodnet::rows::learn`. Assumes nothing.
use Rattle.floodnet.proofs.CodeVisit.{Along}
use Rattle.floodnet.specs.Lent.{learnt}
use Rattle.floodnet.proofs.rows.learn.Given as goal

abbrev pub invariant-loop-q : goal.invariant-loop-q
invariant-loop-q l = Along l.who l.q-iterator.left (learnt l.p.0 l.subs) l.initial.known l.known
