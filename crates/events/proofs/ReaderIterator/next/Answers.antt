-- The step of a reader: a record that was found stands within the bytes, so one fewer is left. Assumes nothing.
use Rattle.std.proofs.Common.{arith}
use Rattle.events.specs.laws.ReadingLaws.{found_inside}
use Rattle.events.proofs.ReaderIterator.next.Goals as goal

pub overflow_add-self : goal.overflow_add-self
overflow_add-self c = omega (arith, c.type_inv.self, found_inside _ _ _ c.in_ok-read.ensures)

pub returns-clause-goes : goal.returns-clause-goes
returns-clause-goes c =
    let inside = found_inside _ _ _ c.in_ok-read.ensures in
    record { on = λ u. (tt, tt, (omega (arith, inside))); keeps = tt; rests = λ u. tt }
