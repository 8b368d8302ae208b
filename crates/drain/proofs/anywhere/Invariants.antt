-- The invariants of `drain::anywhere`. Assumes nothing.
use Rattle.std.specs.Prelude.{◌≡◌}
use Rattle.drain.specs.AtOnce.{anywhere_of}
use Rattle.drain.proofs.anywhere.Given as goal

abbrev pub invariant-loop-w : goal.invariant-loop-w
invariant-loop-w l = l.all ≡ anywhere_of l.pending l.w-index
