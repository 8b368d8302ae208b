-- Laws of specs/Pairs.antt. Assumes nothing.
use Rattle.std.specs.Prelude.{◌≡◌, refl, ◌⊎◌, Bool, true, cond, ◌&&◌, eqb, get_or, List, [], ◌∷◌, ◌++◌, ℕ, zero, suc, ◌+◌, ◌-◌, ◌^◌, ◌≤◌, ◌<◌}
use Rattle.std.proofs.Common.{◌∙◌, ap₂, inl, inr, ⊎_elim, eqb-true, eq-eqb, arith}
use Rattle.std.proofs.Math.Path.{sym, ap}
use Rattle.std.proofs.Math.Nat.{sub-zero, eq-zero-or-pos}
use Rattle.std.proofs.Math.ListN.{length, take, length-take}
use Rattle.std.proofs.Math.Seq.{take-nil}
use Rattle.sets.specs.Set.{has, only, lowest, count, digit}
use Rattle.sets.specs.Rising.{rising, Takes}
use Rattle.sets.proofs.laws.Bools.{bool_ext, and_both, and_yes}
use Rattle.sets.proofs.laws.Members.{has_none}
use Rattle.sets.proofs.laws.Bounds.{minus_lt}
use Rattle.sets.proofs.laws.Rising.{rising_empty, rising_lowest, length_rising}
use Rattle.flooding.specs.Machine.{Pair, pair, run, todo, row}
use Rattle.sets.proofs.laws.Sums.{sum_same, sum_zero}
use Rattle.sets.proofs.laws.Counts.{size_count, size_empty}
use Rattle.flooding.specs.Network.{Net}
use Rattle.drain.specs.Pairs.{pairs_of, list_of}

-- ---- forwards of one peer, while the budget lasts

-- The pairs of one peer are as many as the messages of its word.
pub pairs_count : (p w : ℕ) → length (pairs_of p w 64) ≡ count 64 (has w)
pairs_count p w = length_rising (λ m. pair p m ∷ []) (λ m. refl) 64 w

-- After the last of the first n: n are left to forward no more, or no message is.
pub walk_last : {rest left n : ℕ} {A : Type 0} → n ≤ left → (0 < n → (rest ≡ 0) × A) → (rest ≡ 0) ⊎ (left - n ≡ left)
walk_last {n = n} b h = ⊎_elim (λ z. inr (omega arith)) (λ x. inl (h x).0) (eq-zero-or-pos n)

-- Where there are more than are taken, as many are taken as were asked for.
pub pairs_taken : (p todo left : ℕ) {k : ℕ} → k ≡ count 64 (has todo) → left < k → left ≡ length (take left (pairs_of p todo 64))
pairs_taken p todo left h l = omega (arith, length-take left (pairs_of p todo 64), pairs_count p todo)

-- What such a loop keeps: the pairs of `rest` are still to be forwarded, as far as what is left of the budget goes; then all is done.
module _ {S : Type 0} (fwd : S → ℕ → ℕ → S) (start : S) (p todo left : ℕ) where
  pub record Walk (now : S) (rest made : ℕ) : Type 0 where
    pub below : rest < 2 ^ 64
    pub within : made ≤ left
    pub state : run fwd now (take (left - made) (pairs_of p rest 64)) ≡ run fwd start (take left (pairs_of p todo 64))
    pub count : made + length (take (left - made) (pairs_of p rest 64)) ≡ length (take left (pairs_of p todo 64))

  -- before the loop
  pub walk_none : todo < 2 ^ 64 → Walk start todo 0
  walk_none h =
      record {
        below = h;
        within = omega arith;
        state = rw (sub-zero left);
        count = rw (sub-zero left) (omega arith);
      }

  -- one forward more, of the least that is left
  pub walk_more : {now now' : S} {rest rest' made m : ℕ} → Walk now rest made → made < left → Takes 64 rest m rest'
      → now' ≡ fwd now p m → Walk now' rest' (made + 1)
  unfolding run
  walk_more {now} {now'} {rest} {rest'} {made} {m} v l t e =
      record {
        below = rw t.rest (minus_lt 64 rest (only (lowest 64 rest)) v.below);
        within = omega arith;
        state = rw e (ap (λ (x : List Pair). run fwd now x) (sym front) ∙ v.state);
        count = omega (arith, ap length front, v.count);
      }
    where
      front : take (left - made) (pairs_of p rest 64) ≡ pair p m ∷ take (left - (made + 1)) (pairs_of p rest' 64)
      front =
          let k : left - made ≡ suc (left - (made + 1)) = omega arith in
          rw (k, rising_lowest (λ i. pair p i ∷ []) 64 rest t.some v.below, t.least, t.rest)

  -- after it: nothing is left, or the budget is spent
  pub walk_done : {now : S} {rest made : ℕ} → Walk now rest made → (rest ≡ 0) ⊎ (made ≡ left)
      → (made ≡ length (take left (pairs_of p todo 64))) × (now ≡ run fwd start (take left (pairs_of p todo 64)))
  unfolding run
  walk_done {now} {rest} {made} v o =
      let e : take (left - made) (pairs_of p rest 64) ≡ [] = empty o in
      (omega (arith, ap length e, v.count), sym (ap (λ (x : List Pair). run fwd now x) e) ∙ v.state)
    where
      empty : (rest ≡ 0) ⊎ (made ≡ left) → take (left - made) (pairs_of p rest 64) ≡ []
      empty (inl d) = rw (d, rising_empty (λ i. pair p i ∷ []) 64) (take-nil (left - made))
      empty (inr d) =
          let k : left - made ≡ 0 = omega arith in
          rw k

-- ---- how many are pending

-- An empty word has no members, and a word without members is empty.
count_none : (k : ℕ) → count k (has 0) ≡ 0
unfolding count
count_none k = sum_same k (λ (i : ℕ). digit (has 0 i)) (λ (i : ℕ). 0) (λ i l. ap digit (has_none i)) ∙ sum_zero k

-- With one word more, k is added to their number a; it stays 0 exactly if that word is empty.
pub empty_more : (a w : ℕ) {k : ℕ} {b : Bool} → w < 2 ^ 64 → k ≡ count 64 (has w) → eqb a 0 ≡ b → eqb (a + k) 0 ≡ b && eqb w 0
empty_more a w {k} {b} l h e = bool_ext there back
  where
    there : eqb (a + k) 0 ≡ true → b && eqb w 0 ≡ true
    there x =
        let z : a + k ≡ 0 = eqb-true (a + k) 0 x in
        let y : k ≡ 0 = omega arith in
        and_both (sym e ∙ eq-eqb a 0 (omega arith)) (eq-eqb w 0 (size_empty w (size_count 64 w l ∙ sym h ∙ y)))

    back : b && eqb w 0 ≡ true → eqb (a + k) 0 ≡ true
    back x =
        let y = and_yes b (eqb w 0) x in
        let z : k ≡ 0 = h ∙ ap (λ (v : ℕ). count 64 (has v)) (eqb-true w 0 y.1) ∙ count_none 64 in
        let u : a ≡ 0 = eqb-true a 0 (e ∙ y.0) in
        eq-eqb (a + k) 0 (omega arith)

-- ---- a round's list

-- A row of it has the pairs of p's word of pending messages.
pub row_pairs : (s : Net) (p w k : ℕ) → ((m : ℕ) → s.pending p m ≡ has w m) → row s p k ≡ pairs_of p w k
unfolding row rising
row_pairs s p w zero h = refl
row_pairs s p w (suc k) h = ap₂ (λ (l : List Pair) (b : Bool). l ++ cond b (pair p k ∷ []) []) (row_pairs s p w k h) (h k)

-- All rows: the pairs of all words.
pub todo_list : (s : Net) (l : List ℕ) → ((p m : ℕ) → s.pending p m ≡ has (get_or l p 0) m) → (p : ℕ) → todo 64 s p ≡ list_of l p
unfolding todo list_of
todo_list s l h zero = refl
todo_list s l h (suc p) = ap₂ ◌++◌ (todo_list s l h p) (row_pairs s p (get_or l p 0) 64 (h p))
