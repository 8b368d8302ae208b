-- THE CLIENT'S PAGE OF UNSOUND STATES: document 02's E1, "the rule that failed, in 01's order", "the lowest unsound record comes first, then its
-- lowest rule", "23 to 25 also give the lowest peer or topic at fault (0 otherwise)". `fault_page` (specs/laws/FaultPageLaws.antt) proves it of
-- `relay_check` for all bytes, `write_page` of writing, and `accident_refused` the last line; specs/StartPage.antt says that run, forward and drain pass this answer on,
-- specs/UntouchedPage.antt the same of image and copy.
-- How to read it: `x ≡ y`: x is y; `×`: and; `↔`: exactly if; `→`: then; `→ ⊥`: never, or not. Each line of `Breaks` is one way to break a
-- rule, with what it asks before the last arrow, and the number and the detail answered behind it. Assumes nothing.
use Rattle.std.specs.Prelude.{◌≡◌, ◌↔◌, true, false, not, ◌&&◌, List, ℕ, ◌+◌, ◌*◌, ◌<◌, get_or}
use Rattle.network.specs.declared.Peer.{Peer}
use Rattle.network.specs.declared.Topic.{Topic}
use Rattle.network.specs.declared.Message.{Message}
use Rattle.network.specs.declared.Network.{Network}
use Rattle.network.specs.declared.Checked.{Checked}
use Rattle.network.specs.Network.{peer, present, subscribed, linked, pending, saw, knows}
use Rattle.network.specs.Sound.{Empty}
use Rattle.network.specs.Rules.{checked}
use Rattle.network.specs.State.{net_of, write_of}
use Rattle.engine.specs.Alone.{check_of}

-- ---- the rules of the record of peer p in a network n, in 01's order, in observations

-- of a neighbour q: "each neighbour q is present", "and lists p"; of a topic t: "the known subscribers are exactly the neighbours subscribed to t"
abbrev pub NearKept : Network → Peer → Peer → Type 0
NearKept n p q = linked n p q ≡ true → present n q ≡ true

abbrev pub BackKept : Network → Peer → Peer → Type 0
BackKept n p q = linked n p q ≡ true → linked n q p ≡ true

abbrev pub KnownKept : Network → Peer → Topic → Type 0
KnownKept n p t = (q : Peer) → knows n p t q ≡ linked n p q && subscribed n q t

-- the rules before "known subscribers" and before "pending also seen": p is present and isn't its own neighbour, and each neighbour is as it should be
pub record LinksKept (n : Network) (p : Peer) : Type 0 where
  pub here : present n p ≡ true
  pub own : linked n p p ≡ false
  pub near : (q : Peer) → NearKept n p q
  pub back : (q : Peer) → BackKept n p q

abbrev pub AllKnown : Network → Peer → Type 0
AllKnown n p = (t : Topic) → t.0 < 32 → KnownKept n p t

-- p's record keeps every rule: it is absent and empty, or present and keeps the five rules of a present one
pub data Keeps (n : Network) (p : Peer) : Type 0 where
  empty_record : present n p ≡ false → Empty n p → Keeps n p
  sound_record : LinksKept n p → AllKnown n p → ((m : Message) → pending n p m ≡ true → saw n p m ≡ false) → Keeps n p

-- p's record breaks a rule and keeps the earlier ones: the ways, each with its number and its detail
pub data Breaks (n : Network) (p : Peer) : ℕ → ℕ → Type 0 where
  -- 21 "absent record not empty"
  not_empty : present n p ≡ false → (Empty n p → ⊥) → Breaks n p 21 0
  -- 22 "own neighbour"
  own_neighbour : present n p ≡ true → linked n p p ≡ true → Breaks n p 22 0
  -- 23 "neighbour absent": d is the lowest
  neighbour_absent : present n p ≡ true → linked n p p ≡ false
      → (d : Peer) → linked n p d ≡ true → present n d ≡ false → ((q : Peer) → q.0 < d.0 → NearKept n p q) → Breaks n p 23 d.0
  -- 24 "neighbour doesn't list back": d is the lowest
  not_listed_back : present n p ≡ true → linked n p p ≡ false → ((q : Peer) → NearKept n p q)
      → (d : Peer) → linked n p d ≡ true → linked n d p ≡ false → ((q : Peer) → q.0 < d.0 → BackKept n p q) → Breaks n p 24 d.0
  -- 25 "known subscribers wrong": of topic t, the lowest; q is known and should not be, or should be and is not
  subscribers_wrong : LinksKept n p → (t : Topic) → t.0 < 32 → (q : Peer) → knows n p t q ≡ not (linked n p q && subscribed n q t)
      → ((u : Topic) → u.0 < t.0 → KnownKept n p u) → Breaks n p 25 t.0
  -- 26 "pending also seen"
  pending_and_seen : LinksKept n p → AllKnown n p → (m : Message) → pending n p m ≡ true → saw n p m ≡ true → Breaks n p 26 0

-- ---- the same of a record of a state's bytes s: its first four bytes come before all

-- "byte 0 is 0 or 1 and bytes 1-3 are zero"
pub record HeadKept (s : List ℕ) (p : ℕ) : Type 0 where
  pub byte_0 : get_or s (160 * p) 0 < 2
  pub byte_1 : get_or s (160 * p + 1) 0 ≡ 0
  pub byte_2 : get_or s (160 * p + 2) 0 ≡ 0
  pub byte_3 : get_or s (160 * p + 3) 0 ≡ 0

-- then those of the network that the words say, where a peer is present if its byte 0 is 1, whatever bytes 1-3 are: with 2 it is absent
abbrev pub RecordKeeps : List ℕ → ℕ → Type 0
RecordKeeps s p = HeadKept s p × Keeps (net_of s) (peer p)

pub data RecordBreaks (s : List ℕ) (p : ℕ) : ℕ → ℕ → Type 0 where
  -- 20 "presence byte or zero bytes"
  head : (HeadKept s p → ⊥) → RecordBreaks s p 20 0
  rule : {number detail : ℕ} → HeadKept s p → Breaks (net_of s) (peer p) number detail → RecordBreaks s p number detail

-- ---- what an answer says

-- K i: record i keeps every rule. B i number detail: it breaks one. c: the answer.
pub record Says (K : ℕ → Type 0) (B : ℕ → ℕ → ℕ → Type 0) (c : Checked) : Type 0 where
  -- 0 is answered exactly if every record keeps every rule; the place and the detail are then 0
  pub sound : (c.number ≡ 0) ↔ ((i : ℕ) → i < 32 → K i)
  pub zeros : c.number ≡ 0 → c ≡ checked 0 0 0
  -- any other answer is given exactly if the record at its place breaks that rule with that detail, and every lower record keeps every rule
  pub fault : (number place detail : ℕ) → (number ≡ 0 → ⊥)
      → (c ≡ checked number place detail) ↔ ((place < 32) × B place number detail × ((i : ℕ) → i < place → K i))
  -- only 23, 24 and 25 have a detail
  pub others : (c.number ≡ 23 → ⊥) → (c.number ≡ 24 → ⊥) → (c.number ≡ 25 → ⊥) → c.detail ≡ 0

-- reading: what `relay_check` answers for 5,120 bytes s
abbrev pub FaultPage : List ℕ → Type 0
FaultPage s = Says (RecordKeeps s) (RecordBreaks s) (check_of s)

-- writing: what is answered for a network n and a buffer b of 5,120 bytes
abbrev pub WritePage : Network → List ℕ → Type 0
WritePage n b = Says (λ (i : ℕ). Keeps n (peer i)) (λ (i : ℕ). Breaks n (peer i)) (write_of n b)

-- The accident of the minutes: the neighbours "still listed the old desk's subscriptions". A state of which some record knows a subscriber that
-- doesn't subscribe is accepted by no entry point.
abbrev pub AccidentRefused : List ℕ → Type 0
AccidentRefused s =
    (p : Peer) (t : Topic) (q : Peer) → p.0 < 32 → t.0 < 32 → knows (net_of s) p t q ≡ true → subscribed (net_of s) q t ≡ false → (check_of s).number ≡ 0 → ⊥
