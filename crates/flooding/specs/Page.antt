-- THE THEORY'S PAGE: demand 3 of the minutes, sentence by sentence, and what document 01 says of the counts and of the drain, of any type S of
-- states that shows a network of N peers and M messages. The client's page, over the engine's own networks, is specs/Reach.antt of the crate drain.
-- A desk is a peer; s is the start, a sound state. proofs/laws/Floods.antt, proofs/laws/Drain.antt and proofs/laws/Within.antt prove the whole page of every sound
-- state of every Machine; proofs/laws/Settled.antt, that Drains leaves one answer. Assumes nothing.
--   How to read it: `x ≡ true` says that x holds, and `x ≡ false` that it does not; `A → B`, if A then B; `(x : A) → B`, B for every x of A;
--   `A × B`, A and B; `(x : A) × B`, there is an x of A with B; `A ⊎ B`, A or B; `A ↔ B`, A exactly if B; `A → ⊥`, A never.
use Rattle.std.specs.Prelude.{◌≡◌, ◌⊎◌, ◌↔◌, true, false, List, ℕ, suc, ◌+◌, ◌*◌, ◌≤◌, ◌<◌, length, take}
use Rattle.flooding.specs.Network.{Net, Sound, Quiet, Reached, Linked, Shortest}
use Rattle.flooding.specs.Counts.{unseen_pairs, pending_pairs, delivers, deliveries}
use Rattle.flooding.specs.Machine as machine
use Rattle.flooding.specs.Machine.{Pair, Drained, due}

module _ {S : Type 0} (view : S → Net) (fwd : S → ℕ → ℕ → S) (N M : ℕ) where
  -- Three words of S: the state after a list of forwards; each of them is accepted in its turn; the state after k full rounds.
  abbrev run : S → List Pair → S
  run s l = machine.run fwd s l

  abbrev Accepts : S → List Pair → Type 0
  Accepts s l = machine.Accepts view fwd s l

  abbrev rounds : ℕ → S → S
  rounds k s = machine.rounds view fwd N M k s

  pub record Floods (s : S) : Type 0 where
    -- Demand 3: "From any sound network let only accepted forwards follow."
    pub stays_sound : (l : List Pair) → Accepts s l → Sound N M (view (run s l))
    -- Demand 3: "Each lowers the count of unseen pairs, present desk with message, by exactly one."
    pub each_lowers : (p m : ℕ) → (view s).pending p m ≡ true → unseen_pairs N M (view s) ≡ suc (unseen_pairs N M (view (fwd s p m)))
    pub counts : (l : List Pair) → Accepts s l → length l + unseen_pairs N M (view (run s l)) ≡ unseen_pairs N M (view s)
    -- Demand 3: "Once none is pending, in whatever order, a desk has seen a message exactly if it had at the start, held it pending, or is reached by a
    -- chain of links from a pending holder, each later desk subscribed to its topic and not having seen it at the start."
    pub seen_at_end : (l : List Pair) → Accepts s l → Quiet (view (run s l)) → (q m : ℕ)
        → ((view (run s l)).seen q m ≡ true) ↔ (((view s).seen q m ≡ true) ⊎ (((view s).pending q m ≡ true) ⊎ Linked (view s) m q))
    -- the same of one message that is pending nowhere, while others may be; a holder is a chain of 0 links
    pub seen_at_rest : (l : List Pair) → Accepts s l → (m : ℕ) → ((p : ℕ) → (view (run s l)).pending p m ≡ false) → (q : ℕ)
        → ((view (run s l)).seen q m ≡ true) ↔ (((view s).seen q m ≡ true) ⊎ Reached (view s) m q)
    -- Demand 3: "The end state is the same for every order." So is the number of forwards; and no list of accepted forwards is longer.
    pub same_end : (l r : List Pair) → Accepts s l → Accepts s r → Quiet (view (run s l)) → Quiet (view (run s r)) → run s l ≡ run s r
    pub same_count : (l r : List Pair) → Accepts s l → Accepts s r → Quiet (view (run s l)) → Quiet (view (run s r)) → length l ≡ length r
    pub no_more : (l r : List Pair) → Accepts s l → Accepts s r → Quiet (view (run s r)) → length l ≤ length r
    -- Demand 3: "Forwarding by rounds, a desk whose shortest such chain has d links (0 for a holder) has seen the message after d+1 full rounds and not after d."
    pub by_rounds : (m q d : ℕ) → Shortest (view s) m q d → ((view (rounds (suc d) s)).seen q m ≡ true) × ((view (rounds d s)).seen q m ≡ false)
    pub holder : (m q : ℕ) → (view s).pending q m ≡ true → Shortest (view s) m q 0
    -- a desk that is reached has a shortest chain, below N links; and after k rounds the desks at k links are those where it is pending
    pub nearest : (m q : ℕ) → Reached (view s) m q → (d : ℕ) × (d < N) × Shortest (view s) m q d
    pub pending_by_rounds : (m q k : ℕ) → ((view (rounds k s)).pending q m ≡ true) ↔ Shortest (view s) m q k
    -- Document 01: "Pending pairs at the end = pending pairs at the start + produced + deliveries - forwards." (Nothing is produced here.)
    pub each_balances : (p m : ℕ) → (view s).pending p m ≡ true → suc (pending_pairs N M (view (fwd s p m))) ≡ pending_pairs N M (view s) + delivers N (view s) p m
    pub balance : (l : List Pair) → Accepts s l → pending_pairs N M (view (run s l)) + length l ≡ pending_pairs N M (view s) + deliveries N (view s) l
    -- Document 01: "At most 2,048 forwards and 32 rounds are ever needed." (N is 32, M is 64.)
    pub few_forwards : (l : List Pair) → Accepts s l → length l ≤ N * M
    pub few_rounds : Quiet (view (rounds N s))

  -- What a drain from s with budget b does, in at most `fuel` rounds. Two answers of which all this is true are equal (`drains_settle`).
  pub record Drains (s : S) (b fuel : ℕ) (r : Drained S) : Type 0 where
    -- "It answers the forwards made": they are accepted, and lead from s to the end; "a budget of forwards".
    pub path : List Pair
    pub accepted : Accepts s path
    pub ends : r.end ≡ run s path
    pub made : r.forwards ≡ length path
    pub within : r.forwards ≤ b
    -- "The drain stops when nothing is pending or the budget is spent."
    pub stops : Quiet (view r.end) ⊎ (r.forwards ≡ b)
    -- "the rounds finished": each had something to forward, and of the round after them the first `part` pairs were forwarded.
    pub few : r.rounds ≤ fuel
    pub needed : (j : ℕ) → j < r.rounds → Quiet (view (rounds j s)) → ⊥
    pub part : ℕ
    pub whole : r.end ≡ run (rounds r.rounds s) (take part (due N M (view (rounds r.rounds s))))
    -- "A round whose last pair was just forwarded is finished": so a part is not all, unless nothing was pending.
    pub unfinished : (part < length (due N M (view (rounds r.rounds s)))) ⊎ Quiet (view (rounds r.rounds s))

  -- For any budget, by the rounds that it answers: a desk at fewer links has seen the message, and a desk at more has not.
  pub record Within (s : S) (r : Drained S) : Type 0 where
    pub nearer : (m q d : ℕ) → Shortest (view s) m q d → d < r.rounds → (view r.end).seen q m ≡ true
    pub farther : (m q d : ℕ) → Shortest (view s) m q d → r.rounds < d → (view r.end).seen q m ≡ false

  -- "demand 3's statement on rounds holds for one drain with enough budget": it makes full rounds until nothing is pending.
  pub record Finishes (s : S) (r : Drained S) : Type 0 where
    pub ends : r.end ≡ rounds r.rounds s
    pub quiet : Quiet (view r.end)
