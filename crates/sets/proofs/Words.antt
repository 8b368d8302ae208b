-- What the code computes, `a & !b`, `w | (1 << i)` and the others, is what the definitions say. Stated once, over the width k. Assumes nothing.
use Rattle.std.specs.Prelude.{◌≡◌, Bool, true, false, not, ◌&&◌, ℕ, zero, suc, ◌-◌, ◌*◌, ◌/◌, ◌%◌, ◌^◌, ◌<◌, eqb, bit_and, bit_or, bit_xor}
use Rattle.std.proofs.Common.{sym, ap, ◌∙◌, not-suc-le-zero, le_of_suc-le-suc, mod-eq_of_lt, one-mul, arith, pow_pos}
use lib.Pow.{pow-lt}
use lib.Bits.{or_zero_r, xor_add_and, and_mask}
use Rattle.sets.proofs.laws.Bools.{apart, apart_true}
use Rattle.sets.specs.Set.{has, union, meet, minus, only, when, puts, with_if, digit, lowest}
use Rattle.sets.proofs.laws.Members.{has_first, has_rest, has_meet, has_xor, ext_below, has_minus}
use Rattle.sets.proofs.laws.Bounds.{meet_lt, minus_lt}
use Rattle.sets.proofs.laws.Lowest.{lowest_has, only_le, minus_only, and_pred}

-- A word of k bits that are all set has every number below k.
pub has_all : (k i : ℕ) → i < k → has (2 ^ k - 1) i ≡ true
has_all zero i h = absurd (not-suc-le-zero h)
has_all (suc k) zero h = has_first (2 ^ suc k - 1) ∙ ap (λ (x : ℕ). eqb x 1) (odd_all k)
  where
    odd_all : (k : ℕ) → (2 ^ suc k - 1) % 2 ≡ 1
    odd_all k = omega (arith, pow_pos k)
has_all (suc k) (suc i) h = has_rest (2 ^ suc k - 1) i ∙ ap (λ (x : ℕ). has x i) (half_all k) ∙ has_all k i (le_of_suc-le-suc h)
  where
    half_all : (k : ℕ) → (2 ^ suc k - 1) / 2 ≡ 2 ^ k - 1
    half_all k = omega (arith, pow_pos k)

-- `!b` turns each of its k bits.
rest_xor : (k b : ℕ) → b < 2 ^ k → (2 ^ k - 1) - b ≡ bit_xor b (2 ^ k - 1)
rest_xor k b h = omega (arith, xor_add_and b (2 ^ k - 1), and_mask b k, mod-eq_of_lt h)

-- `!b` has the numbers below k that b has not.
pub has_rest_of : (k b i : ℕ) → b < 2 ^ k → i < k → has ((2 ^ k - 1) - b) i ≡ not (has b i)
has_rest_of k b i h l =
    ap (λ (x : ℕ). has x i) (rest_xor k b h) ∙ has_xor b (2 ^ k - 1) i ∙ ap (apart (has b i)) (has_all k i l) ∙ apart_true (has b i)

-- `a & !b` is the difference.
pub and_not : (k a b : ℕ) → a < 2 ^ k → b < 2 ^ k → bit_and a ((2 ^ k - 1) - b) ≡ minus a b
unfolding meet
and_not k a b ha hb =
    ext_below k (meet a ((2 ^ k - 1) - b)) (minus a b) (meet_lt k a ((2 ^ k - 1) - b) ha) (minus_lt k a b ha)
    (λ i l. has_meet a ((2 ^ k - 1) - b) i ∙ ap (λ (y : Bool). has a i && y) (has_rest_of k b i hb l) ∙ sym (has_minus a b i))

-- `1 << i` is the set of i.
pub shl_only : (k i : ℕ) → i < k → (1 * 2 ^ i) % 2 ^ k ≡ only i
unfolding only
shl_only k i h = let l : 1 * 2 ^ i < 2 ^ k = omega (arith, pow-lt h) in mod-eq_of_lt l ∙ one-mul (2 ^ i)

-- `w | (1 << i)` is w with i.
pub or_shl : (k w i : ℕ) → i < k → bit_or w ((1 * 2 ^ i) % 2 ^ k) ≡ union w (only i)
unfolding union
or_shl k w i h = ap (union w) (shl_only k i h)

-- `w & !(w - 1)` is the set of the least member.
pub and_not_pred : (k w : ℕ) → 0 < w → w < 2 ^ k → bit_and w ((2 ^ k - 1) - (w - 1)) ≡ only (lowest k w)
unfolding minus meet only
and_not_pred k w p h =
    let e = and_pred k w p h ∙ minus_only w (lowest k w) (lowest_has k w p h) in
    let b = only_le w (lowest k w) (lowest_has k w p h) in
    and_not k w (w - 1) h (omega arith) ∙ omega (arith, e, b)

-- `w | (b as u64) << i` is w with i where b is true.
pub or_shl_if : (k w i : ℕ) (b : Bool) → i < k → bit_or w ((digit b * 2 ^ i) % 2 ^ k) ≡ with_if b i w
unfolding when puts
or_shl_if k w i true h = or_shl k w i h
or_shl_if k w i false h = let z : (0 * 2 ^ i) % 2 ^ k ≡ 0 = omega (arith, pow_pos k) in ap (bit_or w) z ∙ or_zero_r w

-- `v | x * (b as u64)` is v with i where b is true, x being the set of i.
pub or_times : (v x i : ℕ) (b : Bool) → x ≡ only i → bit_or v (x * digit b) ≡ with_if b i v
unfolding when puts union
or_times v x i true e = let z : x * 1 ≡ x = omega arith in ap (bit_or v) (z ∙ e)
or_times v x i false e = let z : x * 0 ≡ 0 = omega arith in ap (bit_or v) z ∙ or_zero_r v

-- Such a product fits where x does.
pub times_lt : (k x : ℕ) (b : Bool) → x < 2 ^ k → x * digit b < 2 ^ k
times_lt k x true h = omega arith
times_lt k x false h = omega (arith, pow_pos k)
