-- Which numbers are in what the operations give; a set is its members (extensionality). Assumes nothing.
use Rattle.std.specs.Prelude.{◌≡◌, refl, Bool, true, false, not, ◌&&◌, ◌||◌, ℕ, zero, suc, ◌+◌, ◌*◌, ◌/◌, ◌%◌, ◌^◌, ◌<◌, min, max}
use Rattle.std.proofs.Common.{sym, ◌∙◌, true≢false, suc-le-suc, lt_of_lt_of_le, zero-lt-suc, div-one, one-add, arith, pow_mono, shr-shr}
use Rattle.std.proofs.Math.Path.{ap}
use Rattle.std.proofs.lemmas.Bool.{false≢true}
use Rattle.std.proofs.Math.Bool.{and-true, and-false, or-true, or-false, and_self_left}
use Rattle.std.proofs.Math.Nat.{mod-lt, zero-div}
use Rattle.std.proofs.Math.Dec.{eqb, eqb-suc-suc, eqb-zero-suc, eqb-suc-zero}
use Rattle.std.proofs.Math.Arith.{digits_mod}
use Rattle.std.specs.Int.Bits.{bit_and, bit_or, bit_xor, differ, and_step, or_step, xor_step, xor_add_and}
use Rattle.std.proofs.lemmas.Nat.{and_shr, or_shr, xor_shr, and_le_l}
use Rattle.sets.specs.Set.{has, union, meet, minus, only}
use Rattle.sets.proofs.laws.Bools.{apart_and, eqb_same, ne_eqb}
pub use Rattle.sets.proofs.laws.Bools.{apart}

-- ---- a bit of the halves

-- 0 is a member of an odd number.
pub has_first : (w : ℕ) → has w 0 ≡ eqb (w % 2) 1
unfolding has
has_first w = ap (λ (x : ℕ). eqb (x % 2) 1) (div-one w)

-- The others are the members of its half, moved by one.
pub has_rest : (w i : ℕ) → has w (suc i) ≡ has (w / 2) i
unfolding has
has_rest w i = ap (λ (x : ℕ). eqb (x % 2) 1) (sym (shr-shr w 1 i ∙ ap (λ (x : ℕ). w / 2 ^ x) (one-add i)))

-- ---- members of what the operations give
module _ (op f : ℕ → ℕ → ℕ) (g : Bool → Bool → Bool)
    (shr : (a b k : ℕ) → op a b / 2 ^ k ≡ op (a / 2 ^ k) (b / 2 ^ k))
    (step : (a b : ℕ) → op a b ≡ op (a / 2) (b / 2) * 2 + f (a % 2) (b % 2))
    (small : (p q : ℕ) → p < 2 → q < 2 → f p q < 2)
    (same : (p q : ℕ) → p < 2 → q < 2 → eqb (f p q) 1 ≡ g (eqb p 1) (eqb q 1)) where
  -- An operation that works digit by digit.
  has_op : (a b i : ℕ) → has (op a b) i ≡ g (has a i) (has b i)
  unfolding has
  has_op a b i =
      let x = a / 2 ^ i in
      let y = b / 2 ^ i in
      let hx : x % 2 < 2 = mod-lt x (zero-lt-suc 1) in
      let hy : y % 2 < 2 = mod-lt y (zero-lt-suc 1) in
      ap (λ (n : ℕ). eqb (n % 2) 1) (shr a b i ∙ step x y)
      ∙ ap (λ (n : ℕ). eqb n 1) (digits_mod (op (x / 2) (y / 2)) (small (x % 2) (y % 2) hx hy))
      ∙ same (x % 2) (y % 2) hx hy

-- A fact of two digits, by its four cases.
digits2 : (P : ℕ → ℕ → Type 0) → P 0 0 → P 0 1 → P 1 0 → P 1 1 → (p q : ℕ) → p < 2 → q < 2 → P p q
digits2 P a b c d zero zero hp hq = a
digits2 P a b c d zero (suc zero) hp hq = b
digits2 P a b c d (suc zero) zero hp hq = c
digits2 P a b c d (suc zero) (suc zero) hp hq = d
digits2 P a b c d (suc (suc p)) q hp hq = absurd (omega arith)
digits2 P a b c d zero (suc (suc q)) hp hq = absurd (omega arith)
digits2 P a b c d (suc zero) (suc (suc q)) hp hq = absurd (omega arith)

-- The union has what one of the two has.
pub has_union : (a b i : ℕ) → has (union a b) i ≡ has a i || has b i
unfolding union
has_union =
    has_op bit_or max ◌||◌ or_shr or_step
    (λ p q hp hq. omega arith)
    (digits2 (λ (p q : ℕ). eqb (max p q) 1 ≡ eqb p 1 || eqb q 1) refl refl refl refl)

-- The meet has what both have.
pub has_meet : (a b i : ℕ) → has (meet a b) i ≡ has a i && has b i
unfolding meet
has_meet =
    has_op bit_and min ◌&&◌ and_shr and_step
    (λ p q hp hq. omega arith)
    (digits2 (λ (p q : ℕ). eqb (min p q) 1 ≡ eqb p 1 && eqb q 1) refl refl refl refl)

-- `a ^ b` has what one of the two has, and not the other.
pub has_xor : (a b i : ℕ) → has (bit_xor a b) i ≡ apart (has a i) (has b i)
has_xor =
    has_op bit_xor differ apart xor_shr xor_step
    (digits2 (λ (p q : ℕ). differ p q < 2) (omega arith) (omega arith) (omega arith) (omega arith))
    (digits2 (λ (p q : ℕ). eqb (differ p q) 1 ≡ apart (eqb p 1) (eqb q 1)) refl refl refl refl)

-- 0 is the empty set.
pub has_none : (i : ℕ) → has 0 i ≡ false
unfolding has
has_none i = ap (λ (x : ℕ). eqb (x % 2) 1) (zero-div (2 ^ i))

even_pow : (i : ℕ) → 2 ^ suc i % 2 ≡ 0
even_pow i = omega arith

half_pow : (i : ℕ) → 2 ^ suc i / 2 ≡ 2 ^ i
half_pow i = omega arith

-- The one member of `only i` is i.
pub has_only : (i j : ℕ) → has (only i) j ≡ eqb i j
unfolding has only
has_only zero zero = refl
has_only zero (suc j) = has_rest 1 j ∙ has_none j ∙ sym (eqb-zero-suc j)
has_only (suc i) zero = has_first (2 ^ suc i) ∙ ap (λ (x : ℕ). eqb x 1) (even_pow i) ∙ sym (eqb-suc-zero i)
has_only (suc i) (suc j) = has_rest (2 ^ suc i) j ∙ ap (λ (x : ℕ). has x j) (half_pow i) ∙ has_only i j ∙ sym (eqb-suc-suc i j)

-- ---- a set is its members

odd_eq : (a b : ℕ) → eqb (a % 2) 1 ≡ eqb (b % 2) 1 → a % 2 ≡ b % 2
odd_eq a b =
    digits2 (λ (p q : ℕ). eqb p 1 ≡ eqb q 1 → p ≡ q) (λ e. refl) (λ e. absurd (false≢true e)) (λ e. absurd (true≢false e)) (λ e. refl)
    (a % 2) (b % 2) (omega arith) (omega arith)

-- Half a word has one bit less.
pub half_lt : (k a : ℕ) → a < 2 ^ suc k → a / 2 < 2 ^ k
half_lt k a h = omega arith

-- Two sets of numbers below k with the same members are equal.
pub ext_below : (k a b : ℕ) → a < 2 ^ k → b < 2 ^ k → ((i : ℕ) → i < k → has a i ≡ has b i) → a ≡ b
ext_below zero a b ha hb e = omega arith
ext_below (suc k) a b ha hb e =
    let halves : a / 2 ≡ b / 2 =
    ext_below k (a / 2) (b / 2) (half_lt k a ha) (half_lt k b hb) (λ i l. sym (has_rest a i) ∙ e (suc i) (suc-le-suc l) ∙ has_rest b i) in
    let odds : a % 2 ≡ b % 2 = odd_eq a b (sym (has_first a) ∙ e 0 (zero-lt-suc k) ∙ has_first b) in
    omega arith

-- A number is below its power of two.
pub below_pow : (n : ℕ) → n < 2 ^ n
below_pow zero = zero-lt-suc 0
below_pow (suc n) = let ih = below_pow n in omega arith

-- Two sets with the same members are equal: extensionality.
pub ext : (a b : ℕ) → ((i : ℕ) → has a i ≡ has b i) → a ≡ b
ext a b e =
    ext_below (a + b) a b
    (lt_of_lt_of_le (below_pow a) (pow_mono (omega arith)))
    (lt_of_lt_of_le (below_pow b) (pow_mono (omega arith)))
    (λ i l. e i)

-- ---- a and not b

meet_inside : (a b : ℕ) → bit_and a (meet a b) ≡ meet a b
unfolding meet
meet_inside a b = ext (meet a (meet a b)) (meet a b) (λ i. simp has_meet (and_self_left (has a i) (has b i)))

-- `a ^ (a & b)` is the difference.
pub xor_minus : (a b : ℕ) → bit_xor a (bit_and a b) ≡ minus a b
unfolding minus meet
xor_minus a b = omega (arith, xor_add_and a (bit_and a b), meet_inside a b, and_le_l a b)

-- The difference has what a has and b has not.
pub has_minus : (a b i : ℕ) → has (minus a b) i ≡ has a i && not (has b i)
unfolding meet
has_minus a b i =
    ap (λ (x : ℕ). has x i) (sym (xor_minus a b)) ∙ has_xor a (meet a b) i ∙ ap (apart (has a i)) (has_meet a b i)
    ∙ apart_and (has a i) (has b i)

-- ---- one member more, one less

-- i is in w with i.
pub has_with : (w i : ℕ) → has (union w (only i)) i ≡ true
has_with w i = simp (has_union, has_only, eqb_same i) (or-true (has w i))

-- Another is, if it was.
pub has_with_other : (w i j : ℕ) → (i ≡ j → ⊥) → has (union w (only i)) j ≡ has w j
has_with_other w i j d = simp (has_union, has_only, ne_eqb d) (or-false (has w j))

-- i is not in w without i.
pub has_without : (w i : ℕ) → has (minus w (only i)) i ≡ false
has_without w i = simp (has_minus, has_only, eqb_same i) (and-false (has w i))

-- Another is, if it was.
pub has_without_other : (w i j : ℕ) → (i ≡ j → ⊥) → has (minus w (only i)) j ≡ has w j
has_without_other w i j d = simp (has_minus, has_only, ne_eqb d) (and-true (has w j))

-- The members of the operations' results, for `simp`.
pub ruleset membership = (has_union, has_meet, has_minus, has_none, has_only)
