-- The invariants of `network::load::fill_known`. Assumes nothing.
use Rattle.std.specs.Prelude.{◌*◌}
use Rattle.lists.specs.Tab.{Filled}
use Rattle.network.specs.State.{known_in}
use Rattle.network.proofs.load.fill_known.Given as goal

abbrev pub invariant-loop-p : goal.invariant-loop-p
invariant-loop-p l = Filled 1024 (known_in l.state) (32 * l.p) l.known
