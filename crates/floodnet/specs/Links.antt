-- Join and leave, from "both sides record" and "both sides forget" over a set of peers. Assumes nothing.
use Rattle.std.specs.Prelude.{◌&&◌, ℕ, ◌/◌, ◌%◌, eqb, set}
use Rattle.sets.specs.Set.{has, union, minus, only, when, puts, strikes, empties, with_if, sift}
use Rattle.lists.specs.Edit.{edit}
use Rattle.network.specs.declared.Peer.{Peer}
use Rattle.network.specs.declared.Network.{Network}
use Rattle.network.specs.Network.{with_present, with_pubs, with_subs, with_neighbours, with_known, with_all, peer, topic, subs_of, neighbours_of, subscribed}

-- "both sides record link and subscriptions": p and each peer of `who` list each other; each of `who` knows p for each of
-- p's topics, and p knows each of `who` for each of theirs.
unfoldable pub link_up : Network → Peer → ℕ → Network
link_up n p who =
    with_known (with_neighbours n (edit (λ q w. with_if (has who q) p.0 (when (eqb q p.0) (puts who) w)) n.neighbours))
    (edit
    (λ i w. when (eqb (i / 32) p.0) (puts (sift 32 who (λ q. subscribed n (peer q) (topic (i % 32)))))
    (with_if (has who (i / 32) && has (subs_of n p) (i % 32)) p.0 w)) n.known)

-- Both sides forget: p and each peer of `who` no longer list each other, nor know each other for any topic.
unfoldable pub link_down : Network → Peer → ℕ → Network
link_down n p who =
    with_known (with_neighbours n (edit (λ q w. when (has who q) (strikes (only p.0)) (when (eqb q p.0) (strikes who) w)) n.neighbours))
    (edit (λ i w. when (eqb (i / 32) p.0) (strikes who) (when (has who (i / 32)) (strikes (only p.0)) w)) n.known)

-- "record becomes zero"
unfoldable pub cleared : Network → Peer → Network
cleared n p =
    with_all n (minus n.present (only p.0)) (set n.pubs p.0 0) (set n.subs p.0 0) (set n.neighbours p.0 0)
    (set n.pending p.0 0) (set n.seen p.0 0)
    (edit (λ i w. when (eqb (i / 32) p.0) empties w) n.known)

-- p is present, with these topics
unfoldable pub placed : Network → Peer → ℕ → ℕ → Network
placed n p subs pubs =
    with_subs (with_pubs (with_present n (union n.present (only p.0))) (set n.pubs p.0 pubs)) (set n.subs p.0 subs)

-- leave: "record becomes zero; neighbours drop the peer and its subscriptions"
unfoldable pub left : Network → Peer → Network
left n p = cleared (link_down n p (neighbours_of n p)) p

-- join: "record made with nothing pending or seen; both sides record link and subscriptions"
unfoldable pub joined : Network → Peer → ℕ → ℕ → ℕ → Network
joined n p subs pubs who = link_up (placed (cleared n p) p subs pubs) p who
