-- The invariants of `broadcastnet::underway`. Assumes nothing.
use Rattle.std.specs.Prelude.{◌≡◌}
use Rattle.broadcastnet.specs.Commit.{together}
use Rattle.broadcastnet.proofs.underway.Given as goal

abbrev pub invariant-loop-had : goal.invariant-loop-had
invariant-loop-had l = l.w ≡ together l.had-index l.pending
