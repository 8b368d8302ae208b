-- The invariants of `network::Network::save`. Assumes nothing.
use Rattle.std.specs.Prelude.{◌*◌}
use Rattle.lists.specs.Tab.{Filled}
use Rattle.network.specs.State.{byte_of}
use Rattle.network.proofs.Network.save.Given as goal

abbrev pub invariant-loop-i : goal.invariant-loop-i
invariant-loop-i l = Filled 5120 (byte_of l.self) (160 * l.i) l.state
