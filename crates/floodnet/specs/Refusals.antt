-- What each event asks before it acts (document 01, "Events"): the number of the first condition that fails, or 0. The rows
-- are 01's; the conditions stand in their order, each with its number (`need`, network's specs/Rules.antt). Assumes nothing.
use Rattle.std.specs.Prelude.{not, ℕ, eqb}
use Rattle.sets.specs.Set.{has, minus}
use Rattle.network.specs.declared.Peer.{Peer}
use Rattle.network.specs.declared.Message.{Message}
use Rattle.network.specs.declared.Network.{Network}
use Rattle.network.specs.declared.Table.{Table}
use Rattle.network.specs.Network.{present, publishes, pending, pending_of, topic_of, origin_of}
use Rattle.network.specs.Rules.{need}
use Rattle.floodnet.specs.Produce.{is_new}

-- "1 | produce | peer, message | 8, 10, 11, 12": 8 "peer absent", 10 "producing peer isn't the message's origin", 11 "topic not
-- in the peer's pubs", 12 "message not new"
unfoldable pub refusal_produce : Network → Table → Peer → Message → ℕ
refusal_produce n b p m =
    need (present n p) 8 (need (eqb (origin_of b m).0 p.0) 10 (need (publishes n p (topic_of b m)) 11 (need (is_new n m) 12 0)))

-- "2 | forward | peer, message | 8, 13": 13 "message not pending at this peer"
unfoldable pub refusal_forward : Network → Peer → Message → ℕ
refusal_forward n p m = need (present n p) 8 (need (pending n p m) 13 0)

-- "3 | subscribe | peer, topics | 8" and "4 | unsubscribe | peer, topics | 8"
unfoldable pub refusal_topics : Network → Peer → ℕ
refusal_topics n p = need (present n p) 8 0

-- "5 | leave | peer | 8, 14": 14 "leaver has something pending"
unfoldable pub refusal_leave : Network → Peer → ℕ
refusal_leave n p = need (present n p) 8 (need (eqb (pending_of n p) 0) 14 0)

-- "6 | join | peer, subs, pubs, neighbours | 9, 15, 16": 9 "joining peer already present", 15 "joining peer names itself as
-- neighbour", 16 "a named neighbour is absent"
unfoldable pub refusal_join : Network → Peer → ℕ → ℕ
refusal_join n p who = need (not (present n p)) 9 (need (not (has who p.0)) 15 (need (eqb (minus who n.present) 0) 16 0))
