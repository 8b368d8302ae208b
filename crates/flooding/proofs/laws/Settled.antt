-- The page's record Drains settles the answer: two answers of which it is true are equal. Assumes nothing.
use Rattle.std.specs.Prelude.{◌≡◌, refl, ◌⊎◌, Bool, true, false, List, [], ◌∷◌, leb, length, take, ℕ, zero, suc, ◌+◌, ◌≤◌, ◌<◌}
use Rattle.std.proofs.Common.{sym, ◌∙◌, inl, inr, arith, leb-true, leb-false, length-take}
use Rattle.std.proofs.Math.Path.{ap}
use Rattle.std.proofs.Math.Decide.{le_ind}
use Rattle.flooding.specs.Network.{Net, Quiet}
use Rattle.flooding.specs.Counts.{unseen_pairs}
use Rattle.flooding.specs.Machine.{Pair, run, due, round, rounds, Drained, drain}
use Rattle.flooding.proofs.laws.Machine.{Machine}
use Rattle.flooding.specs.Page.{Drains}
use Rattle.flooding.proofs.laws.Run.{accepts_take}
use Rattle.flooding.proofs.laws.Floods.{due_accepts, rounds_ok, floods}
use Rattle.flooding.proofs.laws.Drain.{drain_law}

-- Two numbers of which neither is below the other.
neither : (a b : ℕ) → (a < b → ⊥) → (b < a → ⊥) → a ≡ b
neither a b f g = first (leb a b) refl (leb b a) refl
  where
    first : (x : Bool) → leb a b ≡ x → (y : Bool) → leb b a ≡ y → a ≡ b
    first true e true h = omega (arith, leb-true a b e, leb-true b a h)
    first true e false h = absurd (f (leb-false b a h))
    first false e y h = absurd (g (leb-false a b e))

-- Two fronts of one list, equally long.
take_same : (a b : ℕ) (l : List Pair) → length (take a l) ≡ length (take b l) → take a l ≡ take b l
take_same zero zero l e = refl
take_same zero (suc b) [] e = refl
take_same zero (suc b) (x ∷ l) e = absurd (omega arith)
take_same (suc a) zero [] e = refl
take_same (suc a) zero (x ∷ l) e = absurd (omega arith)
take_same (suc a) (suc b) [] e = refl
take_same (suc a) (suc b) (x ∷ l) e = ap (λ (t : List Pair). x ∷ t) (take_same a b l (omega arith))

module _ {S : Type 0} (view : S → Net) (fwd : S → ℕ → ℕ → S) (N M : ℕ) (ok : S → Type 0) (𝓜 : Machine view fwd N M ok) (s : S) (k : ok s) (b : ℕ) where
  -- After j rounds: the state, the pairs due, the unseen pairs.
  abbrev R : ℕ → S
  R j = rounds view fwd N M j s

  abbrev D : ℕ → List Pair
  D j = due N M (view (R j))

  abbrev U : ℕ → ℕ
  U j = unseen_pairs N M (view (R j))

  -- Every round lowers the unseen pairs by its forwards.
  falls : (j : ℕ) → length (D j) + U (suc j) ≡ U j
  unfolding rounds round
  falls j = (floods view fwd N M ok 𝓜 (R j) (rounds_ok view fwd N M ok 𝓜 j s k)).counts (D j) (due_accepts view fwd N M ok 𝓜 (R j) (rounds_ok view fwd N M ok 𝓜 j s k))

  below : (i j : ℕ) → i ≤ j → U j ≤ U i
  below i j h = le_ind (λ n. U n ≤ U i) (omega arith) (λ n l x. omega (arith, falls n)) j h

  -- The forwards made: those of the rounds finished, and a part of the next.
  made : (fuel : ℕ) (r : Drained S) (x : Drains view fwd N M s b fuel r) → r.forwards + U r.rounds ≡ U 0 + length (take x.part (D r.rounds))
  unfolding rounds
  made fuel r x =
      let n : ℕ = r.rounds in
      let y = rounds_ok view fwd N M ok 𝓜 n s k in
      let c = (floods view fwd N M ok 𝓜 s k).counts x.path x.accepted in
      let e = (floods view fwd N M ok 𝓜 (R n) y).counts (take x.part (D n)) (accepts_take view fwd x.part (R n) (D n) (due_accepts view fwd N M ok 𝓜 (R n) y)) in
      let f : view (run fwd s x.path) ≡ view (run fwd (R n) (take x.part (D n))) = ap view (sym x.ends ∙ x.whole) in
      omega (arith, c, e, ap (λ (t : Net). unseen_pairs N M t) f, x.made)

  module _ (i j : ℕ) (r t : Drained S) (x : Drains view fwd N M s b i r) (y : Drains view fwd N M s b j t) where
    as_many : t.forwards ≤ r.forwards
    as_many = first x.stops
      where
        first : Quiet (view r.end) ⊎ (r.forwards ≡ b) → t.forwards ≤ r.forwards
        first (inl q) = omega (arith, (floods view fwd N M ok 𝓜 s k).no_more y.path x.path y.accepted x.accepted (rw x.ends at q), x.made, y.made)
        first (inr e) = omega (arith, y.within)

    not_fewer : r.forwards ≡ t.forwards → r.rounds < t.rounds → ⊥
    not_fewer e l = first x.unfinished
      where
        first : (x.part < length (D r.rounds)) ⊎ Quiet (view (R r.rounds)) → ⊥
        first (inl h) =
            omega (arith, made i r x, made j t y, falls r.rounds, below (suc r.rounds) t.rounds l, length-take x.part (D r.rounds))
        first (inr q) = y.needed r.rounds l q

  -- THE ANSWER IS SETTLED.
  pub drains_settle : (i j : ℕ) (r t : Drained S) → Drains view fwd N M s b i r → Drains view fwd N M s b j t → r ≡ t
  drains_settle i j r t x y =
      λ c. record { end = same_end c; forwards = same_forwards c; rounds = same_rounds c }
    where
      same_forwards : r.forwards ≡ t.forwards
      same_forwards = omega (arith, as_many i j r t x y, as_many j i t r y x)

      same_rounds : r.rounds ≡ t.rounds
      same_rounds = neither r.rounds t.rounds (not_fewer i j r t x y same_forwards) (not_fewer j i t r y x (sym same_forwards))

      same_length : length (take x.part (D r.rounds)) ≡ length (take y.part (D r.rounds))
      same_length =
          let e : t.forwards + U r.rounds ≡ U 0 + length (take y.part (D r.rounds)) = rw same_rounds (made j t y) in
          omega (arith, made i r x, same_forwards)

      same_end : r.end ≡ t.end
      same_end =
          x.whole
          ∙ ap (λ (l : List Pair). run fwd (R r.rounds) l) (take_same x.part y.part (D r.rounds) same_length)
          ∙ ap (λ (n : ℕ). run fwd (R n) (take y.part (D n))) same_rounds
          ∙ sym y.whole

  -- So what Drains allows is the drain's answer, and nothing else.
  pub drain_only : (i : ℕ) (r : Drained S) → Drains view fwd N M s b i r → r ≡ drain view fwd N M N b s
  drain_only i r x = drains_settle i N r (drain view fwd N M N b s) x (drain_law view fwd N M ok 𝓜 b s k)
