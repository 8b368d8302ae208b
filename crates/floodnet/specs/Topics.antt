-- Subscribe and unsubscribe: "topics join subs; neighbours' records follow", "topics leave subs; neighbours' records
-- follow". Assumes nothing.
use Rattle.std.specs.Prelude.{◌&&◌, List, ℕ, ◌/◌, ◌%◌, set}
use Rattle.sets.specs.Set.{has, union, minus, only, when, strikes, with_if}
use Rattle.lists.specs.Edit.{edit}
use Rattle.network.specs.declared.Peer.{Peer}
use Rattle.network.specs.declared.Network.{Network}
use Rattle.network.specs.Network.{with_subs, with_known, subs_of, neighbours_of}

-- The known subscribers with p put in, or struck out, at each peer of `who` for each topic of `topics`. The word of topic t
-- at peer q stands at q * 32 + t.
unfoldable pub noted : ℕ → ℕ → Peer → List ℕ → List ℕ
noted who topics p known = edit (λ i w. with_if (has who (i / 32) && has topics (i % 32)) p.0 w) known

unfoldable pub struck : ℕ → ℕ → Peer → List ℕ → List ℕ
struck who topics p known = edit (λ i w. when (has who (i / 32) && has topics (i % 32)) (strikes (only p.0)) w) known

unfoldable pub subscribed_to : Network → Peer → ℕ → Network
subscribed_to n p topics =
    with_known (with_subs n (set n.subs p.0 (union (subs_of n p) topics))) (noted (neighbours_of n p) topics p n.known)

unfoldable pub unsubscribed_from : Network → Peer → ℕ → Network
unsubscribed_from n p topics =
    with_known (with_subs n (set n.subs p.0 (minus (subs_of n p) topics))) (struck (neighbours_of n p) topics p n.known)
