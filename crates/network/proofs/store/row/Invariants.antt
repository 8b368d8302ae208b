-- The invariants of `network::store::row`. Assumes nothing.
use Rattle.std.specs.Prelude.{◌≡◌, length}
use Rattle.network.specs.Storing.{put_row}
use Rattle.network.proofs.store.row.Given as goal

abbrev pub invariant-loop-t : goal.invariant-loop-t
invariant-loop-t l = ((length l.state ≡ 5120) × (l.state ≡ put_row l.t l.initial.state l.w-items l.i))
