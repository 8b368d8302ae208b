-- The drain by rounds, over a network and its message table (document 01, "Drain by rounds"). Assumes nothing.
--   "A round forwards every pair that was pending when the round began, peers rising, messages rising within a peer; what becomes
--   pending meanwhile waits. The drain stops when nothing is pending or the budget is spent. It answers the forwards made, the rounds
--   finished, and whether nothing is pending. A round whose last pair was just forwarded is finished."
-- Rounds and the drain are those of flooding (its specs/Machine.antt), over what it sees of the network, `view`, and the network's own
-- forward, `fwd` (floodnet's specs/View.antt).
use Rattle.std.specs.Prelude.{Bool, ℕ, eqb}
use Rattle.sets.specs.Any.{all}
use Rattle.flooding.specs.Machine.{Drained, drain, rounds}
use Rattle.network.specs.declared.Network.{Network}
use Rattle.network.specs.declared.Table.{Table}
use Rattle.network.specs.Network.{peer, pending_of}
use Rattle.floodnet.specs.View.{view, fwd}

-- the network after k full rounds
unfoldable pub rounds_of : Table → ℕ → Network → Network
rounds_of b k n = rounds (view b) (fwd b) 32 64 k n

-- the drain of n with a budget of forwards: the network at its end, the forwards made, the rounds finished; 32 rounds are always enough
unfoldable pub drain_of : Table → ℕ → Network → Drained Network
drain_of b budget n = drain (view b) (fwd b) 32 64 32 budget n

-- the same of any network, sound or not, where 32 rounds need not be enough: each round that is finished forwards a pair, so that as many
-- rounds as the budget has forwards are; of a sound network it is `drain_of` (`drain_within_lem`, specs/laws/DrainLaws.antt)
unfoldable pub drain_within : Table → ℕ → Network → Drained Network
drain_within b budget n = drain (view b) (fwd b) 32 64 budget budget n

-- "whether nothing is pending": every peer's word is empty
unfoldable pub quiet_of : Network → Bool
quiet_of n = all 32 (λ (p : ℕ). eqb (pending_of n (peer p)) 0)
