-- THE CLIENT'S PAGE: demand 3 of the minutes, sentence by sentence, and what document 01 says of rounds and of the drain, over a network n and
-- its message table b; a desk is a peer. `reach` (specs/laws/ReachLaws.antt) proves the whole page of every sound network and every table of accepted
-- rows. The entry points' bytes are joined to it in the crate pages (specs/ReachPage.antt, specs/laws/DrainingReach.antt). Assumes nothing.
--   How to read it: `x ≡ true` says that x holds, and `x ≡ false` that it does not; `A → B`, if A then B; `(x : A) → B`, B for every x of A;
--   `A × B`, A and B; `(x : A) × B`, there is an x of A with B; `A ⊎ B`, A or B; `A ↔ B`, A exactly if B; `A → ⊥`, A never.
--   `refusal_forward n p m ≡ 0` says that the forward of m by p is accepted; `drain_of b budget n` has the network at the drain's end, `.end`, and
--   its answer, `.forwards` and `.rounds`; `quiet_of` of the end is the answer's third part.
use Rattle.std.specs.Prelude.{◌≡◌, ◌⊎◌, ◌↔◌, true, false, not, cond, ◌&&◌, List, [], ◌∷◌, ◌++◌, ℕ, zero, suc, ◌+◌, ◌≤◌, ◌<◌, length, take}
use Rattle.sets.specs.Set.{digit}
use Rattle.sets.specs.Sums.{sum}
use Rattle.network.specs.declared.Peer.{Peer}
use Rattle.network.specs.declared.Message.{Message}
use Rattle.network.specs.declared.Network.{Network}
use Rattle.network.specs.declared.Table.{Table}
use Rattle.network.specs.Network.{peer, message, present, subscribed, linked, pending, saw, topic_of}
use Rattle.network.specs.Sound.{Sound}
use Rattle.floodnet.specs.Forward.{forwarded}
use Rattle.floodnet.specs.Refusals.{refusal_forward}
use Rattle.drain.specs.Drain.{rounds_of, drain_of, quiet_of}

-- ---- the words of the demand

-- One forward: of a message, by a desk.
pub data Forward : Type 0 where
  by : Peer → Message → Forward

-- The network after a list of forwards, each the engine's own.
unfoldable pub after : Table → Network → List Forward → Network
after b n [] = n
after b n (by p m ∷ l) = after b (forwarded n b p m) l

-- "let only accepted forwards follow": none of the list is refused where its turn comes.
abbrev pub Accepted : Table → Network → List Forward → Type 0
Accepted b n [] = Unit {0}
Accepted b n (by p m ∷ l) = (refusal_forward n p m ≡ 0) × Accepted b (forwarded n b p m) l

-- "the count of unseen pairs, present desk with message"
unfoldable pub unseen : Network → ℕ
unseen n = sum 32 (λ p. sum 64 (λ m. digit (present n (peer p) && not (saw n (peer p) (message m)))))

-- "Once none is pending"
abbrev pub Quiet : Network → Type 0
Quiet n = (p : Peer) (m : Message) → pending n p m ≡ false

-- "a chain of links from a pending holder, each later desk subscribed to its topic and not having seen it at the start": a chain of d links
-- for m that ends at q.
pub data Reaches (b : Table) (n : Network) (m : Message) : Peer → ℕ → Type 0 where
  holder : {q : Peer} → pending n q m ≡ true → Reaches b n m q zero
  onward : {p q : Peer} {d : ℕ} → Reaches b n m p d → linked n p q ≡ true → subscribed n q (topic_of b m) ≡ true → saw n q m ≡ false → Reaches b n m q (suc d)

-- "a desk whose shortest such chain has d links (0 for a holder)"
pub record Shortest (b : Table) (n : Network) (m : Message) (q : Peer) (d : ℕ) : Type 0 where
  pub chain : Reaches b n m q d
  pub least : (k : ℕ) → k < d → Reaches b n m q k → ⊥

-- Document 01: "A round forwards every pair that was pending when the round began, peers rising, messages rising within a peer". What is pending
-- at p of the messages below k, in their order; at the peers below p, in theirs; and so the forwards of a round that begins in n.
unfoldable pub due_at : Network → Peer → ℕ → List Forward
due_at n p zero = []
due_at n p (suc k) = due_at n p k ++ cond (pending n p (message k)) (by p (message k) ∷ []) []

unfoldable pub due_below : Network → ℕ → List Forward
due_below n zero = []
due_below n (suc p) = due_below n p ++ due_at n (peer p) 64

abbrev pub due_of : Network → List Forward
due_of n = due_below n 32

-- ---- the demand

pub record Reach (b : Table) (n : Network) : Type 0 where
  -- "From any sound network let only accepted forwards follow." The network stays sound.
  pub stays_sound : (l : List Forward) → Accepted b n l → Sound (after b n l)
  -- "Each lowers the count of unseen pairs, present desk with message, by exactly one."
  pub each_lowers : (p : Peer) (m : Message) → refusal_forward n p m ≡ 0 → unseen n ≡ suc (unseen (forwarded n b p m))
  pub counts : (l : List Forward) → Accepted b n l → length l + unseen (after b n l) ≡ unseen n
  -- "Once none is pending, in whatever order, a desk has seen a message exactly if it had at the start, held it pending, or is reached by a chain
  -- of links from a pending holder, each later desk subscribed to its topic and not having seen it at the start."
  pub seen_at_end : (l : List Forward) → Accepted b n l → Quiet (after b n l) → (q : Peer) (m : Message)
      → (saw (after b n l) q m ≡ true) ↔ ((saw n q m ≡ true) ⊎ ((pending n q m ≡ true) ⊎ ((d : ℕ) × Reaches b n m q (suc d))))
  -- The same of one message that is pending nowhere, while others may still be.
  pub seen_at_rest : (l : List Forward) → Accepted b n l → (m : Message) → ((p : Peer) → pending (after b n l) p m ≡ false) → (q : Peer)
      → (saw (after b n l) q m ≡ true) ↔ ((saw n q m ≡ true) ⊎ ((pending n q m ≡ true) ⊎ ((d : ℕ) × Reaches b n m q (suc d))))
  -- What is pending can be forwarded, and nothing else can: a host can go on until nothing is pending.
  pub goes_on : (p : Peer) (m : Message) → (refusal_forward n p m ≡ 0) ↔ (pending n p m ≡ true)
  -- a desk that is reached is present
  pub reached_present : (m : Message) (q : Peer) (d : ℕ) → Reaches b n m q d → present n q ≡ true
  -- "The end state is the same for every order." So is the number of forwards.
  pub same_end : (l r : List Forward) → Accepted b n l → Accepted b n r → Quiet (after b n l) → Quiet (after b n r) → after b n l ≡ after b n r
  pub same_count : (l r : List Forward) → Accepted b n l → Accepted b n r → Quiet (after b n l) → Quiet (after b n r) → length l ≡ length r
  -- "Forwarding by rounds, a desk whose shortest such chain has d links (0 for a holder) has seen the message after d+1 full rounds and not after d."
  pub by_rounds : (m : Message) (q : Peer) (d : ℕ) → Shortest b n m q d → (saw (rounds_of b (suc d) n) q m ≡ true) × (saw (rounds_of b d n) q m ≡ false)
  pub holders : (m : Message) (q : Peer) → pending n q m ≡ true → Shortest b n m q 0
  -- a desk that is reached has a shortest chain, below 32 links; and after k rounds the desks at k links are those where it is pending
  pub nearest : (m : Message) (q : Peer) (k : ℕ) → Reaches b n m q k → (d : ℕ) × (d < 32) × Shortest b n m q d
  pub pending_after : (m : Message) (q : Peer) (k : ℕ) → (pending (rounds_of b k n) q m ≡ true) ↔ Shortest b n m q k
  -- Document 01: "A round forwards every pair that was pending when the round began, [..]; what becomes pending meanwhile waits."
  pub no_round : rounds_of b 0 n ≡ n
  pub one_more_round : (k : ℕ) → rounds_of b (suc k) n ≡ after b (rounds_of b k n) (due_of (rounds_of b k n))
  -- Document 01: "At most 2,048 forwards and 32 rounds are ever needed."
  pub few_forwards : (l : List Forward) → Accepted b n l → length l ≤ 2048
  pub few_rounds : Quiet (rounds_of b 32 n)
  -- A drain, whatever its budget, is a list of accepted forwards, as many as it answers; so it ends in a sound network.
  pub drain_path : (budget : ℕ) → (l : List Forward) × Accepted b n l × ((drain_of b budget n).end ≡ after b n l) × ((drain_of b budget n).forwards ≡ length l)
  pub drain_sound : (budget : ℕ) → Sound (drain_of b budget n).end
  -- It makes as many full rounds as it answers, and then of the next round the first `part` pairs. Document 01: "A round whose last pair was just
  -- forwarded is finished": so that part is not all of them, unless nothing is pending.
  pub drain_course : (budget : ℕ)
      → (let last = rounds_of b (drain_of b budget n).rounds n in
      (part : ℕ) × ((drain_of b budget n).end ≡ after b last (take part (due_of last))) × ((part < length (due_of last)) ⊎ Quiet last))
  -- So a desk at fewer links than the rounds answered has seen the message, and a desk at more has not.
  pub drain_seen : (budget : ℕ) (m : Message) (q : Peer) (d : ℕ) → Shortest b n m q d
      → (d < (drain_of b budget n).rounds → saw (drain_of b budget n).end q m ≡ true) × ((drain_of b budget n).rounds < d → saw (drain_of b budget n).end q m ≡ false)
  -- Document 01: "whether nothing is pending".
  pub quiet_means : (budget : ℕ) → (quiet_of (drain_of b budget n).end ≡ true) ↔ Quiet (drain_of b budget n).end
  -- Document 01: "demand 3's statement on rounds holds for one drain with enough budget": it ends quiet, in as many full rounds as it answers. Of a
  -- drain with any budget, each round had something to forward.
  pub drain_quiet : (budget : ℕ) → 2048 ≤ budget → Quiet (drain_of b budget n).end
  pub drain_rounds : (budget : ℕ) → 2048 ≤ budget → (drain_of b budget n).end ≡ rounds_of b (drain_of b budget n).rounds n
  pub drain_needed : (budget k : ℕ) → k < (drain_of b budget n).rounds → Quiet (rounds_of b k n) → ⊥
  -- Document 01: "The drain stops when nothing is pending or the budget is spent."
  pub drain_stops : (budget : ℕ) → Quiet (drain_of b budget n).end ⊎ ((drain_of b budget n).forwards ≡ budget)
  pub drain_few : (budget : ℕ) → ((drain_of b budget n).forwards ≤ budget) × ((drain_of b budget n).forwards ≤ 2048) × ((drain_of b budget n).rounds ≤ 32)
  -- What it drains is what any host that forwards in any order ends with, by as many forwards.
  pub drain_any_order : (budget : ℕ) → 2048 ≤ budget → (l : List Forward) → Accepted b n l → Quiet (after b n l)
      → (after b n l ≡ (drain_of b budget n).end) × (length l ≡ (drain_of b budget n).forwards)
