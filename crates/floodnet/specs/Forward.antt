-- Forward (document 01): "Forward of m by p: m moves from pending to seen at p; then each known subscriber of m's topic at
-- p gets m pending, unless m is pending or seen there. Each peer so changed is one delivery, [..] origin and previous sender
-- have no exemption." What is reported (document 02, E2): "the set of peers that newly hold the message; the count becomes the
-- size of that set." Assumes nothing.
use Rattle.std.specs.Prelude.{ℕ, set}
use Rattle.sets.specs.Set.{has, union, minus, only, with_if}
use Rattle.lists.specs.Edit.{edit}
use Rattle.network.specs.declared.Peer.{Peer}
use Rattle.network.specs.declared.Message.{Message}
use Rattle.network.specs.declared.Network.{Network}
use Rattle.network.specs.declared.Table.{Table}
use Rattle.network.specs.Network.{with_pending, with_seen, pending_of, seen_of, known_of, topic_of}
use Rattle.floodnet.specs.Produce.{holders}

-- "m moves from pending to seen at p"
unfoldable pub moved : Network → Peer → Message → Network
moved n p m =
    with_seen (with_pending n (set n.pending p.0 (minus (pending_of n p) (only m.0))))
    (set n.seen p.0 (union (seen_of n p) (only m.0)))

-- who newly holds m: the known subscribers of m's topic at p that do not hold m, once it has moved
unfoldable pub receivers : Network → Table → Peer → Message → ℕ
receivers n b p m = minus (known_of n p (topic_of b m)) (holders (moved n p m) (known_of n p (topic_of b m)) m)

-- m becomes pending at each peer of r (which the code visits, the least first: `forwarded_visits`, specs/laws/DeliveryLaws.antt)
unfoldable pub given : Network → ℕ → Message → Network
given n r m = with_pending n (edit (λ q w. with_if (has r q) m.0 w) n.pending)

unfoldable pub forwarded : Network → Table → Peer → Message → Network
forwarded n b p m = given (moved n p m) (receivers n b p m) m
