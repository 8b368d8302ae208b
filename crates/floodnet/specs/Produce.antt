-- Who holds a message, when it is new, and what produce does. Assumes nothing.
use Rattle.std.specs.Prelude.{Bool, ◌||◌, ℕ, eqb, set}
use Rattle.sets.specs.Set.{union, only, sift}
use Rattle.network.specs.declared.Peer.{Peer}
use Rattle.network.specs.declared.Message.{Message}
use Rattle.network.specs.declared.Network.{Network}
use Rattle.network.specs.Network.{with_pending, peer, pending, saw, pending_of}

-- those of the peers s that have m pending or seen
unfoldable pub holders : Network → ℕ → Message → ℕ
holders n s m = sift 32 s (λ q. pending n (peer q) m || saw n (peer q) m)

-- "Message m is new when no present peer has it pending or seen (004)."
unfoldable pub is_new : Network → Message → Bool
is_new n m = eqb (holders n n.present m) 0

-- produce: "message becomes pending at its origin" (p, by condition 10)
unfoldable pub produced : Network → Peer → Message → Network
produced n p m = with_pending n (set n.pending p.0 (union (pending_of n p) (only m.0)))
