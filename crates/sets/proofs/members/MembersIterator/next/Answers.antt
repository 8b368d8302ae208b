-- `Members::next` takes the least of the members that are left. Assumes nothing.
use Rattle.std.proofs.Common.{sym, ap, ◌∙◌, eqb-true, arith, length}
use Rattle.sets.proofs.laws.Rising.{members_takes}
use Rattle.sets.proofs.members.MembersIterator.next.Goals as goal

pub returns-then-is_empty-clause-steps : goal.returns-then-is_empty-clause-steps
returns-then-is_empty-clause-steps g c = let e = eqb-true _ 0 (sym c.is_empty.ensures ∙ c.if-is_empty.true) in (e, e)

pub returns-clause-steps : goal.returns-clause-steps
returns-clause-steps g c = record {
  some = omega arith;
  least = c.lowest-least.ensures.least;
  below = c.lowest-least.ensures.bound;
  rest = c.rest-self.ensures.rest;
}

pub returns-clause-goes : goal.returns-clause-goes
returns-clause-goes g c =
    let e = ap length (members_takes (returns-clause-steps g c)) in
    record { on = λ _. (tt, tt, omega (arith, e)); keeps = tt; rests = λ _. tt }
