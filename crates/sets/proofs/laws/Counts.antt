-- A size is a count of members. Assumes nothing.
use Rattle.std.specs.Prelude.{◌≡◌, refl, Bool, true, false, ℕ, zero, suc, ◌+◌, ◌/◌, ◌%◌, ◌^◌, ◌≤◌, ◌<◌, eqb}
use Rattle.std.proofs.Common.{sym, ap, ◌∙◌, zero-le, le_refl, zero-lt-suc, mod-lt, arith}
use Rattle.std.specs.Int.Count.{ones, ones_step}
use Rattle.sets.specs.Set.{has, size, lowest, digit, count}
use Rattle.sets.specs.Sums.{sum}
use Rattle.sets.proofs.laws.Sums.{sum_same, sum_first, sum_bound}
use Rattle.sets.proofs.laws.Members.{has_first, has_rest, half_lt, below_pow}
use Rattle.sets.proofs.laws.Lowest.{lowest_has}
use Rattle.sets.proofs.laws.Sizes.{size_without}

-- ---- counts

-- Tests that agree below n.
pub count_ext : (n : ℕ) (f g : ℕ → Bool) → ((i : ℕ) → i < n → f i ≡ g i) → count n f ≡ count n g
unfolding count
count_ext n f g e = sum_same n _ _ (λ i l. ap digit (e i l))

-- The first, and the others.
pub count_first : (n : ℕ) (f : ℕ → Bool) → count (suc n) f ≡ digit (f 0) + count n (λ (i : ℕ). f (suc i))
unfolding count
count_first n f = sum_first n (λ (i : ℕ). digit (f i))

-- At most n pass.
pub count_bound : (n : ℕ) (f : ℕ → Bool) → count n f ≤ n
unfolding count
count_bound n f = let b = sum_bound n 1 (λ (i : ℕ). digit (f i)) (λ i. go (f i)) in omega arith
  where
    go : (x : Bool) → digit x ≤ 1
    go true = le_refl 1
    go false = zero-le

-- ---- sizes

-- A size is the sum of the digits.
pub size_sum : (k w : ℕ) → w < 2 ^ k → size w ≡ sum k (λ (i : ℕ). digit (has w i))
unfolding size ones sum
size_sum zero w h = let e : w ≡ 0 = omega arith in ap ones e
size_sum (suc k) w h =
    let low : w % 2 ≡ digit (has w 0) = one_digit (w % 2) (mod-lt w (zero-lt-suc 1)) ∙ ap digit (sym (has_first w)) in
    let rest : sum k (λ (i : ℕ). digit (has w (suc i))) ≡ sum k (λ (i : ℕ). digit (has (w / 2) i)) = sum_same k _ _ (λ i l. ap digit (has_rest w i)) in
    omega (arith, ones_step w, size_sum k (w / 2) (half_lt k w h), sum_first k (λ (i : ℕ). digit (has w i)))
  where
    one_digit : (p : ℕ) → p < 2 → p ≡ digit (eqb p 1)
    one_digit zero l = refl
    one_digit (suc zero) l = refl
    one_digit (suc (suc p)) l = absurd (omega arith)

-- A size is a count of members.
pub size_count : (k w : ℕ) → w < 2 ^ k → size w ≡ count k (has w)
unfolding count
size_count = size_sum

-- Only the empty set has none.
pub size_empty : (w : ℕ) → size w ≡ 0 → w ≡ 0
size_empty zero e = refl
size_empty (suc n) e = absurd (omega (arith, size_without (suc n) (lowest (suc n) (suc n)) (lowest_has (suc n) (suc n) (zero-lt-suc n) (below_pow (suc n)))))
