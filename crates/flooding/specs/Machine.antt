-- Runs, rounds and the drain, of any type S of states that shows a network, `view`, and has a forward of its own, `fwd`.
-- A network is such a state itself, with `itself` and `forward`. Assumes nothing.
use Rattle.std.specs.Prelude.{◌≡◌, true, cond, List, [], ◌∷◌, ◌++◌, ℕ, zero, suc, ◌+◌, ◌-◌, eqb, leb, length, take}
use Rattle.flooding.specs.Network.{Net}

-- A pair of a peer and a message: one forward to make.
pub data Pair : Type 0 where
  pair : ℕ → ℕ → Pair

-- A list of forwards, one after another.
unfoldable pub run : {S : Type 0} → (S → ℕ → ℕ → S) → S → List Pair → S
run fwd s [] = s
run fwd s (pair p m ∷ l) = run fwd (fwd s p m) l

-- Each forward of the list is accepted where its turn comes: its message is pending at its peer.
abbrev pub Accepts : {S : Type 0} → (S → Net) → (S → ℕ → ℕ → S) → S → List Pair → Type 0
Accepts view fwd s [] = Unit {0}
Accepts view fwd s (pair p m ∷ l) = ((view s).pending p m ≡ true) × Accepts view fwd (fwd s p m) l

-- The pairs that are pending in s, peers rising and messages rising within a peer: of peer p the messages below m; of all peers below p.
unfoldable pub row : Net → ℕ → ℕ → List Pair
row s p zero = []
row s p (suc m) = row s p m ++ cond (s.pending p m) (pair p m ∷ []) []

unfoldable pub todo : ℕ → Net → ℕ → List Pair
todo M s zero = []
todo M s (suc p) = todo M s p ++ row s p M

-- The pairs that a round which begins in s has to forward.
abbrev pub due : ℕ → ℕ → Net → List Pair
due N M s = todo M s N

-- What a drain answers: the state at its end, the forwards made, the rounds finished.
pub record Drained (S : Type 0) : Type 0 where
  pub end : S
  pub forwards : ℕ
  pub rounds : ℕ

-- Nothing was left to do; the budget b ended within a round, in s; a round of n forwards was finished, and then came r.
abbrev pub stopped : {S : Type 0} → S → Drained S
stopped s = record { end = s; forwards = 0; rounds = 0 }

abbrev pub cut : {S : Type 0} → S → ℕ → Drained S
cut s b = record { end = s; forwards = b; rounds = 0 }

abbrev pub more : {S : Type 0} → ℕ → Drained S → Drained S
more n r = record { end = r.end; forwards = n + r.forwards; rounds = suc r.rounds }

module _ {S : Type 0} (view : S → Net) (fwd : S → ℕ → ℕ → S) (N M : ℕ) where
  -- A round forwards every pair that was pending when it began; what becomes pending meanwhile waits.
  unfoldable pub round : S → S
  round s = run fwd s (due N M (view s))

  -- k rounds.
  unfoldable pub rounds : ℕ → S → S
  rounds zero s = s
  rounds (suc k) s = round (rounds k s)

  -- Drain with a budget of b forwards, in at most `fuel` rounds: stop where nothing is pending; make a whole round if the budget has it; else as
  -- much of it as the budget has. A round whose last pair takes the last of the budget is finished.
  unfoldable pub drain : ℕ → ℕ → S → Drained S
  drain zero b s = stopped s
  drain (suc fuel) b s =
      let l = due N M (view s) in
      cond (eqb (length l) 0) (stopped s)
      (cond (leb (length l) b) (more (length l) (drain fuel (b - length l) (round s)))
      (cut (run fwd s (take b l)) b))
