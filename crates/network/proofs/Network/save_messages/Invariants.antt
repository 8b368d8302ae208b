-- The invariants of `network::Network::save_messages`. Assumes nothing.
use Rattle.std.specs.Prelude.{◌≡◌, length}
use Rattle.network.specs.Storing.{put_messages}
use Rattle.network.proofs.Network.save_messages.Given as goal

abbrev pub invariant-loop-p : goal.invariant-loop-p
invariant-loop-p l = (length l.state ≡ 5120) × (l.state ≡ put_messages l.p l.initial.state l.self.pending l.self.seen)
