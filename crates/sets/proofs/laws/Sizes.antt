-- How many members a set has. Assumes nothing.
use Rattle.std.specs.Prelude.{◌≡◌, refl, true, false, ℕ, suc, ◌+◌, ◌*◌, ◌/◌, ◌^◌, ◌≤◌, ◌<◌}
use Rattle.std.proofs.Common.{ap, ◌∙◌, arith, pow_pos}
use Rattle.std.proofs.Math.Arith.{bin_ind}
use Rattle.std.specs.Int.Bits.{bit_and, bit_or, and_step, or_step, or_add_and}
use Rattle.std.proofs.lemmas.Nat.{and_shr, or_shr, ones_cat, ones-le}
use Rattle.std.specs.Int.Count.{ones, ones_step}
use Rattle.sets.specs.Set.{has, union, meet, minus, only, size, lowest}
use Rattle.sets.proofs.laws.Bools.{split_whole, split_none}
use Rattle.sets.proofs.laws.Members.{has_union, has_meet, ext, has_minus}
use Rattle.sets.proofs.laws.Lowest.{lowest_has, none_empty, meet_only, meet_only_none}

-- The empty set has none.
pub size_none : size 0 ≡ 0
unfolding size ones
size_none = refl

-- A set of one has one.
pub size_only : (i : ℕ) → size (only i) ≡ 1
unfolding size only ones
size_only i = let e : 2 ^ i ≡ 1 * 2 ^ i + 0 = omega arith in ap ones e ∙ ones_cat i 1 0 (pow_pos i)

-- A word of k bits has at most k.
pub size_le : (k w : ℕ) → w < 2 ^ k → size w ≤ k
unfolding size
size_le = ones-le

-- Those of the two sets, each counted once for each set that has it.
pub size_union_meet : (a b : ℕ) → size (union a b) + size (meet a b) ≡ size a + size b
unfolding size union meet
size_union_meet = bin_ind (λ (a : ℕ). (b : ℕ) → ones (bit_or a b) + ones (bit_and a b) ≡ ones a + ones b) (λ b. omega arith) step
  where
    step : (a : ℕ) → ((b : ℕ) → ones (bit_or (a / 2) b) + ones (bit_and (a / 2) b) ≡ ones (a / 2) + ones b) → (b : ℕ)
        → ones (bit_or a b) + ones (bit_and a b) ≡ ones a + ones b
    step a ih b =
        omega (
          arith,
          ih (b / 2),
          ones_step a,
          ones_step b,
          ones_step (bit_or a b),
          ones_step (bit_and a b),
          or_step a b,
          and_step a b,
          ap ones (or_shr a b 1),
          ap ones (and_shr a b 1),
        )

-- What b takes from a, and what it leaves.
pub size_minus_meet : (a b : ℕ) → size (minus a b) + size (meet a b) ≡ size a
size_minus_meet a b =
    let whole : union (minus a b) (meet a b) ≡ a =
    ext (union (minus a b) (meet a b)) a (λ i. simp (has_union, has_minus, has_meet) (split_whole (has a i) (has b i))) in
    let none : meet (minus a b) (meet a b) ≡ 0 =
    none_empty (meet (minus a b) (meet a b)) (λ i. simp (has_minus, has_meet) (split_none (has a i) (has b i))) in
    omega (arith, size_union_meet (minus a b) (meet a b), ap size whole, ap size none, size_none)

-- One more.
pub size_with : (w i : ℕ) → has w i ≡ false → size (union w (only i)) ≡ suc (size w)
size_with w i h = omega (arith, size_union_meet w (only i), ap size (meet_only_none w i h), size_none, size_only i)

-- One less.
pub size_without : (w i : ℕ) → has w i ≡ true → suc (size (minus w (only i))) ≡ size w
size_without w i h = omega (arith, size_minus_meet w (only i), ap size (meet_only w i h), size_only i)

-- One that was there is put in.
pub with_member : (w i : ℕ) → has w i ≡ true → union w (only i) ≡ w
unfolding union meet
with_member w i h = omega (arith, or_add_and w (only i), meet_only w i h)

-- One that was not there is taken out.
pub without_stranger : (w i : ℕ) → has w i ≡ false → minus w (only i) ≡ w
unfolding minus
without_stranger w i h = omega (arith, meet_only_none w i h)

-- The least member is taken away.
pub size_rest : (k w : ℕ) → 0 < w → w < 2 ^ k → suc (size (minus w (only (lowest k w)))) ≡ size w
size_rest k w p h = size_without w (lowest k w) (lowest_has k w p h)

-- So what is left has fewer: the measure of a loop over the members.
pub size_less : {w r : ℕ} (k : ℕ) → 0 < w → w < 2 ^ k → r ≡ minus w (only (lowest k w)) → size r < size w
size_less {w} k p h e = omega (arith, ap size e, size_rest k w p h)
