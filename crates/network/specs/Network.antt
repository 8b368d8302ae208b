-- The working state and what can be observed of it (document 01, "Numbers and state"). Assumes nothing.
--   "Peers 0 to 31, topics 0 to 31, messages 0 to 63. [..] A set of these is a word in which bit i stands for number i."
--   "Each peer has: present or not; pubs and subs (topics); neighbours (peers); pending and seen (messages); for each
--   topic, the known subscribers among its neighbours."
use Rattle.std.specs.Prelude.{◌≡◌, Bool, List, ℕ, ◌+◌, ◌*◌, ◌^◌, ◌<◌, length, get_or}
use Rattle.sets.specs.Set.{has}
use Rattle.network.specs.declared.Peer.{Peer}
use Rattle.network.specs.declared.Topic.{Topic}
use Rattle.network.specs.declared.Message.{Message}
use Rattle.network.specs.declared.Network.{Network}
use Rattle.network.specs.declared.Table.{Table}

-- the number i, as a peer, a topic or a message
abbrev pub peer : ℕ → Peer
peer i = record { 0 = i }

abbrev pub topic : ℕ → Topic
topic i = record { 0 = i }

abbrev pub message : ℕ → Message
message i = record { 0 = i }

-- a network by its parts
abbrev pub mk : ℕ → List ℕ → List ℕ → List ℕ → List ℕ → List ℕ → List ℕ → Network
mk present pubs subs neighbours pending seen known =
    record { present = present; pubs = pubs; subs = subs; neighbours = neighbours; pending = pending; seen = seen; known = known }

-- n with other parts in place of its own, one or all
abbrev pub with_all : Network → ℕ → List ℕ → List ℕ → List ℕ → List ℕ → List ℕ → List ℕ → Network
with_all n present pubs subs neighbours pending seen known = mk present pubs subs neighbours pending seen known

abbrev pub with_present : Network → ℕ → Network
with_present n x = with_all n x n.pubs n.subs n.neighbours n.pending n.seen n.known

abbrev pub with_pubs : Network → List ℕ → Network
with_pubs n x = with_all n n.present x n.subs n.neighbours n.pending n.seen n.known

abbrev pub with_subs : Network → List ℕ → Network
with_subs n x = with_all n n.present n.pubs x n.neighbours n.pending n.seen n.known

abbrev pub with_neighbours : Network → List ℕ → Network
with_neighbours n x = with_all n n.present n.pubs n.subs x n.pending n.seen n.known

abbrev pub with_pending : Network → List ℕ → Network
with_pending n x = with_all n n.present n.pubs n.subs n.neighbours x n.seen n.known

abbrev pub with_seen : Network → List ℕ → Network
with_seen n x = with_all n n.present n.pubs n.subs n.neighbours n.pending x n.known

abbrev pub with_known : Network → List ℕ → Network
with_known n x = with_all n n.present n.pubs n.subs n.neighbours n.pending n.seen x

-- The words: peer p's pubs, subs, neighbours, pending and seen; and where its known subscribers of topic t stand.
abbrev pub pubs_of : Network → Peer → ℕ
pubs_of n p = get_or n.pubs p.0 0

abbrev pub subs_of : Network → Peer → ℕ
subs_of n p = get_or n.subs p.0 0

abbrev pub neighbours_of : Network → Peer → ℕ
neighbours_of n p = get_or n.neighbours p.0 0

abbrev pub pending_of : Network → Peer → ℕ
pending_of n p = get_or n.pending p.0 0

abbrev pub seen_of : Network → Peer → ℕ
seen_of n p = get_or n.seen p.0 0

abbrev pub spot : Peer → Topic → ℕ
spot p t = p.0 * 32 + t.0

abbrev pub known_of : Network → Peer → Topic → ℕ
known_of n p t = get_or n.known (spot p t) 0

-- The observations: p is present; p publishes t; p is subscribed to t; p lists q as a neighbour; m is pending at p;
-- p has seen m; p knows q to subscribe to t.
abbrev pub present : Network → Peer → Bool
present n p = has n.present p.0

abbrev pub publishes : Network → Peer → Topic → Bool
publishes n p t = has (pubs_of n p) t.0

abbrev pub subscribed : Network → Peer → Topic → Bool
subscribed n p t = has (subs_of n p) t.0

abbrev pub linked : Network → Peer → Peer → Bool
linked n p q = has (neighbours_of n p) q.0

abbrev pub pending : Network → Peer → Message → Bool
pending n p m = has (pending_of n p) m.0

abbrev pub saw : Network → Peer → Message → Bool
saw n p m = has (seen_of n p) m.0

abbrev pub knows : Network → Peer → Topic → Peer → Bool
knows n p t q = has (known_of n p t) q.0

-- The shape of every Network that code can hold: so many words, each in its range.
pub record Shaped (n : Network) : Type 0 where
  pub present : n.present < 2 ^ 32
  pub pubs : length n.pubs ≡ 32
  pub subs : length n.subs ≡ 32
  pub neighbours : length n.neighbours ≡ 32
  pub pending : length n.pending ≡ 32
  pub seen : length n.seen ≡ 32
  pub known : length n.known ≡ 1024
  pub pubs_fit : (i : ℕ) → get_or n.pubs i 0 < 2 ^ 32
  pub subs_fit : (i : ℕ) → get_or n.subs i 0 < 2 ^ 32
  pub neighbours_fit : (i : ℕ) → get_or n.neighbours i 0 < 2 ^ 32
  pub pending_fit : (i : ℕ) → get_or n.pending i 0 < 2 ^ 64
  pub seen_fit : (i : ℕ) → get_or n.seen i 0 < 2 ^ 64
  pub known_fit : (i : ℕ) → get_or n.known i 0 < 2 ^ 32

-- A message's topic and origin, and the shape of a table whose rows were accepted.
abbrev pub topic_of : Table → Message → Topic
topic_of b m = topic (get_or b.topics m.0 0)

abbrev pub origin_of : Table → Message → Peer
origin_of b m = peer (get_or b.origins m.0 0)

-- a table by its parts
abbrev pub table : List ℕ → List ℕ → Table
table topics origins = record { topics = topics; origins = origins }

pub record Rows (b : Table) : Type 0 where
  pub topics : length b.topics ≡ 64
  pub origins : length b.origins ≡ 64
  pub topics_fit : (i : ℕ) → get_or b.topics i 0 < 32
  pub origins_fit : (i : ℕ) → get_or b.origins i 0 < 32
