-- The invariants of `network::load::put_row`. Assumes nothing.
use Rattle.std.specs.Prelude.{◌≡◌, length}
use Rattle.network.specs.Layout.{RowStored}
use Rattle.network.proofs.load.put_row.Given as goal

abbrev pub invariant-loop-t : goal.invariant-loop-t
invariant-loop-t l = ((length l.known ≡ 1024) × RowStored l.t l.i l.w-items l.initial.known l.known)
