-- For the loops of a drain, whatever the state: lists of forwards, the steps of a drain, and any fuel that its budget makes enough. Assumes nothing.
use Rattle.std.specs.Prelude.{◌≡◌, ◌⊎◌, Bool, true, false, cond, List, [], ◌∷◌, ◌++◌, leb, take, ℕ, zero, suc, ◌+◌, ◌-◌, ◌≤◌, ◌<◌}
use Rattle.std.proofs.Common.{sym, ap, ◌∙◌, inl, inr, arith, length-append, le-leb, leb-true, leb-false}
use Rattle.std.proofs.Math.Path.{refl}
use Rattle.std.proofs.Math.ListN.{length}
use Rattle.std.proofs.lemmas.Bool.{lt-leb}
use Rattle.sets.proofs.laws.Bools.{ne_eqb}
use Rattle.sets.specs.Set.{digit}
use Rattle.sets.specs.Sums.{sum}
use Rattle.flooding.specs.Network.{Net}
use Rattle.flooding.specs.Counts.{pending_pairs}
use Rattle.flooding.specs.Machine.{Pair, pair, run, row, todo, due, round, Drained, drain, stopped, more, cut}

-- A round has as many pairs to forward as are pending.
row_length : (s : Net) (p m : ℕ) → length (row s p m) ≡ sum m (λ n. digit (s.pending p n))
unfolding row sum
row_length s p zero = refl
row_length s p (suc m) = length-append (row s p m) _ ∙ rw (row_length s p m) (first (s.pending p m))
  where
    first : (b : Bool) → sum m (λ n. digit (s.pending p n)) + length (cond b (pair p m ∷ []) []) ≡ sum m (λ n. digit (s.pending p n)) + digit b
    first true = refl
    first false = refl

pub due_length : (N M : ℕ) (s : Net) → length (due N M s) ≡ pending_pairs N M s
unfolding todo pending_pairs sum
due_length zero M s = refl
due_length (suc N) M s = length-append (todo M s N) (row s N M) ∙ rw (due_length N M s, row_length s N M)

-- One list of forwards, and then another; one forward more.
pub run_append : {S : Type 0} (fwd : S → ℕ → ℕ → S) (s : S) (l r : List Pair) → run fwd s (l ++ r) ≡ run fwd (run fwd s l) r
unfolding run
run_append fwd s [] r = refl
run_append fwd s (pair p m ∷ l) r = run_append fwd (fwd s p m) l r

pub run_snoc : {S : Type 0} (fwd : S → ℕ → ℕ → S) (s : S) (l : List Pair) (p m : ℕ) → run fwd s (l ++ (pair p m ∷ [])) ≡ fwd (run fwd s l) p m
unfolding run
run_snoc fwd s l p m = run_append fwd s l (pair p m ∷ [])

-- A round has nothing to do, or the budget has all of it, or not all.
pub ways : (n b : ℕ) → (n ≡ 0) ⊎ (((0 < n) × (n ≤ b)) ⊎ (b < n))
ways zero b = inl refl
ways (suc n) b = inr (first (leb (suc n) b) refl)
  where
    first : (y : Bool) → leb (suc n) b ≡ y → ((0 < suc n) × (suc n ≤ b)) ⊎ (b < suc n)
    first true e = inl (omega arith, leb-true (suc n) b e)
    first false e = inr (leb-false (suc n) b e)

-- The second and the third of three ways.
second_way : {X : Type 0} {b : X} {x y : Bool} (a c : X) → x ≡ false → y ≡ true → cond x a (cond y b c) ≡ b
second_way a c e f = rw (e, f)

third_way : {X : Type 0} {c : X} {x y : Bool} (a b : X) → x ≡ false → y ≡ false → cond x a (cond y b c) ≡ c
third_way a b e f = rw (e, f)

-- The steps of a drain that has rounds left: nothing is due; the budget has the whole round; it has not.
module _ {S : Type 0} (view : S → Net) (fwd : S → ℕ → ℕ → S) (N M : ℕ) (fuel b : ℕ) (s : S) where
  pub drain_stop : length (due N M (view s)) ≡ 0 → drain view fwd N M (suc fuel) b s ≡ stopped s
  unfolding drain
  drain_stop e = rw e

  pub drain_round : 0 < length (due N M (view s)) → length (due N M (view s)) ≤ b
      → drain view fwd N M (suc fuel) b s ≡ more (length (due N M (view s))) (drain view fwd N M fuel (b - length (due N M (view s))) (round view fwd N M s))
  unfolding drain
  drain_round h l = second_way (stopped s) (cut (run fwd s (take b (due N M (view s)))) b) (ne_eqb (λ (e : length (due N M (view s)) ≡ 0). omega arith)) (le-leb (length (due N M (view s))) b l)

  pub drain_cut : b < length (due N M (view s)) → drain view fwd N M (suc fuel) b s ≡ cut (run fwd s (take b (due N M (view s)))) b
  unfolding drain
  drain_cut l =
      third_way (stopped s) (more (length (due N M (view s))) (drain view fwd N M fuel (b - length (due N M (view s))) (round view fwd N M s))) (ne_eqb (λ (e : length (due N M (view s)) ≡ 0). omega arith)) (lt-leb (length (due N M (view s))) b l)

-- Whatever the state, sound or not, a drain ends for want of budget: each round that is finished takes of it.
module _ {S : Type 0} (view : S → Net) (fwd : S → ℕ → ℕ → S) (N M : ℕ) where
  -- A budget of nothing drains nothing.
  pub drain_none : (fuel : ℕ) (s : S) → drain view fwd N M fuel 0 s ≡ stopped s
  unfolding drain run
  drain_none zero s = refl
  drain_none (suc fuel) s = first (ways (length (due N M (view s))) 0)
    where
      first : (length (due N M (view s)) ≡ 0) ⊎ (((0 < length (due N M (view s))) × (length (due N M (view s)) ≤ 0)) ⊎ (0 < length (due N M (view s)))) → drain view fwd N M (suc fuel) 0 s ≡ stopped s
      first (inl e) = drain_stop view fwd N M fuel 0 s e
      first (inr (inl h)) = absurd (omega arith)
      first (inr (inr h)) = drain_cut view fwd N M fuel 0 s h

  -- So fuel for as many rounds as the budget has forwards, and any more, gives one answer.
  pub drain_budget : (i j b : ℕ) (s : S) → b ≤ i → b ≤ j → drain view fwd N M i b s ≡ drain view fwd N M j b s
  drain_budget zero j b s h k =
      let e : b ≡ 0 = omega arith in
      rw e (drain_none 0 s ∙ sym (drain_none j s))
  drain_budget (suc i) zero b s h k =
      let e : b ≡ 0 = omega arith in
      rw e (drain_none (suc i) s ∙ sym (drain_none 0 s))
  drain_budget (suc i) (suc j) b s h k = first (ways (length d) b) (λ x y. drain_budget i j (b - length d) (round view fwd N M s) x y)
    where
      d : List Pair
      d = due N M (view s)

      first : (length d ≡ 0) ⊎ (((0 < length d) × (length d ≤ b)) ⊎ (b < length d))
          → (b - length d ≤ i → b - length d ≤ j → drain view fwd N M i (b - length d) (round view fwd N M s) ≡ drain view fwd N M j (b - length d) (round view fwd N M s))
          → drain view fwd N M (suc i) b s ≡ drain view fwd N M (suc j) b s
      first (inl e) ih = drain_stop view fwd N M i b s e ∙ sym (drain_stop view fwd N M j b s e)
      first (inr (inl l)) ih =
          drain_round view fwd N M i b s l.0 l.1 ∙ ap (λ (r : Drained S). more (length d) r) (ih (omega arith) (omega arith))
          ∙ sym (drain_round view fwd N M j b s l.0 l.1)
      first (inr (inr l)) ih = drain_cut view fwd N M i b s l ∙ sym (drain_cut view fwd N M j b s l)
