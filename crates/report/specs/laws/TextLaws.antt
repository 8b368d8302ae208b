-- Decimals: how they are made, that they say their number, that none has a leading zero, how long they are. Assumes nothing.
use Rattle.std.specs.Prelude.{◌≡◌, refl, List, [], ◌∷◌, ◌++◌, ℕ, zero, suc, ◌+◌, ◌-◌, ◌*◌, ◌/◌, ◌%◌, ◌^◌, ◌≤◌, ◌<◌, length, get_or}
use Rattle.std.proofs.Common.{sym, ap, ◌∙◌, pow-suc, div-add-mod', arith, length-append, lt-ltb, le-ltb}
use Rattle.std.proofs.Math.Decide.{dec_lt}
use Rattle.std.proofs.lemmas.Fmt.{decimal_by_steps}
use Rattle.std.specs.Fmt.{decimal as std_decimal}
use Rattle.report.specs.Text.{figure, digits, decimal, spaced}

-- ---- how they are made

-- below 10: the one digit
digits_small : (k x : ℕ) → x < 10 → digits (suc k) x ≡ figure x
unfolding digits
digits_small k x h = rw (lt-ltb x 10 h)

-- from 10 on: the digits of x / 10, then x % 10
digits_more : (k x : ℕ) → 10 ≤ x → digits (suc k) x ≡ digits k (x / 10) ++ figure (x % 10)
unfolding digits
digits_more k x h = rw (le-ltb x 10 h)

-- Any two counts of digits that are enough give the same.
pub digits_same : (j k x : ℕ) → x < j → x < k → digits j x ≡ digits k x
digits_same zero k x p q = absurd (omega arith)
digits_same (suc j) zero x p q = absurd (omega arith)
digits_same (suc j) (suc k) x p q = go (dec_lt x 10) (λ h. digits_same j k (x / 10) (omega arith) (omega arith))
  where
    go : Dec (x < 10) → (10 ≤ x → digits j (x / 10) ≡ digits k (x / 10)) → digits (suc j) x ≡ digits (suc k) x
    go (yes h) ih = digits_small j x h ∙ sym (digits_small k x h)
    go (no h) ih =
        let l : 10 ≤ x = omega arith in
        digits_more j x l ∙ ap (λ (r : List ℕ). r ++ figure (x % 10)) (ih l) ∙ sym (digits_more k x l)

-- The two equations of decimals.
pub decimal_small : (x : ℕ) → x < 10 → decimal x ≡ figure x
unfolding decimal
decimal_small x h = digits_small x x h

pub decimal_more : (x : ℕ) → 10 ≤ x → decimal x ≡ decimal (x / 10) ++ figure (x % 10)
unfolding decimal
decimal_more x h =
    digits_more x x h ∙ ap (λ (r : List ℕ). r ++ figure (x % 10)) (digits_same x (suc (x / 10)) (x / 10) (omega arith) (omega arith))

-- What holds below 10, and of x where it holds of x / 10, holds of every number.
pub by_digits : (P : ℕ → Type 0) → ((x : ℕ) → x < 10 → P x) → ((x : ℕ) → 10 ≤ x → P (x / 10) → P x) → (x : ℕ) → P x
by_digits P small more x = go (suc x) x (omega arith)
  where
    either : (x : ℕ) → Dec (x < 10) → (10 ≤ x → P (x / 10)) → P x
    either x (yes l) ih = small x l
    either x (no l) ih = let m : 10 ≤ x = omega arith in more x m (ih m)

    go : (k x : ℕ) → x < k → P x
    go zero x h = absurd (omega arith)
    go (suc k) x h = either x (dec_lt x 10) (λ m. go k (x / 10) (omega arith))

-- What the library prints of a number of 64 bits.
pub decimal_std : (x : ℕ) → x < 2 ^ 64 → std_decimal x ≡ decimal x
decimal_std =
    decimal_by_steps (λ (x : ℕ) (ds : List ℕ). ds ≡ decimal x)
    (λ x h. sym (decimal_small x h))
    (λ x ds h e. ap (λ (r : List ℕ). r ++ figure (x % 10)) e ∙ sym (decimal_more x h))

-- ---- what they say

-- the number that digits say, a being what those before them said
unfoldable pub said : ℕ → List ℕ → ℕ
said a [] = a
said a (d ∷ l) = said (a * 10 + (d - 48)) l

said_append : (a : ℕ) (l r : List ℕ) → said a (l ++ r) ≡ said (said a l) r
unfolding said
said_append a [] r = refl
said_append a (d ∷ l) r = said_append (a * 10 + (d - 48)) l r

-- A decimal says its number.
pub said_decimal : (x : ℕ) → said 0 (decimal x) ≡ x
unfolding said
said_decimal = by_digits (λ (x : ℕ). said 0 (decimal x) ≡ x) small more
  where
    small : (x : ℕ) → x < 10 → said 0 (decimal x) ≡ x
    small x h = rw (decimal_small x h) (omega arith)

    more : (x : ℕ) → 10 ≤ x → said 0 (decimal (x / 10)) ≡ x / 10 → said 0 (decimal x) ≡ x
    more x h ih = rw (decimal_more x h, said_append 0 (decimal (x / 10)) (figure (x % 10)), ih) (omega (arith, div-add-mod' x 10))

-- "without leading zeros": the first digit of a number that is not 0 is not '0'.
pub decimal_lead : (x : ℕ) → 0 < x → 48 < get_or (decimal x) 0 0
decimal_lead = by_digits (λ (x : ℕ). 0 < x → 48 < get_or (decimal x) 0 0) small more
  where
    small : (x : ℕ) → x < 10 → 0 < x → 48 < get_or (decimal x) 0 0
    small x h p = rw (decimal_small x h) (omega arith)

    first : (l r : List ℕ) → 48 < get_or l 0 0 → 48 < get_or (l ++ r) 0 0
    first [] r h = absurd (omega arith)
    first (d ∷ l) r h = h

    more : (x : ℕ) → 10 ≤ x → (0 < x / 10 → 48 < get_or (decimal (x / 10)) 0 0) → 0 < x → 48 < get_or (decimal x) 0 0
    more x h ih p = rw (decimal_more x h) (first (decimal (x / 10)) (figure (x % 10)) (ih (omega arith)))

-- ---- how long they are

-- a tenth has a digit less
tenth : (k x : ℕ) → x < 10 ^ suc (suc k) → x / 10 < 10 ^ suc k
tenth k x h = omega (arith, pow-suc 10 (suc k))

-- One digit more.
pub length_more : (x : ℕ) → 10 ≤ x → length (decimal x) ≡ length (decimal (x / 10)) + 1
length_more x h = rw (decimal_more x h) (length-append (decimal (x / 10)) (figure (x % 10)))

-- One digit.
pub length_small : (x : ℕ) → x < 10 → length (decimal x) ≡ 1
length_small x h = rw (decimal_small x h)

-- A number below 10 ^ k has at most k digits, or one.
pub length_below : (k x : ℕ) → x < 10 ^ suc k → length (decimal x) ≤ suc k
length_below zero x h = let l : x < 10 = omega (arith, pow-suc 10 0) in omega (arith, length_small x l)
length_below (suc k) x h = go (dec_lt x 10) (length_below k (x / 10) (tenth k x h))
  where
    go : Dec (x < 10) → length (decimal (x / 10)) ≤ suc k → length (decimal x) ≤ suc (suc k)
    go (yes l) ih = omega (arith, length_small x l)
    go (no l) ih = let m : 10 ≤ x = omega arith in omega (arith, length_more x m)

-- The numbers that are printed: a count of at most 99, a byte, a number of 64 bits.
pub length_count : (x : ℕ) → x < 100 → length (decimal x) ≤ 2
length_count x h = length_below 1 x h

pub length_byte : (x : ℕ) → x < 256 → length (decimal x) ≤ 3
length_byte x h = length_below 2 x (omega arith)

pub length_long : (x : ℕ) → x < 2 ^ 64 → length (decimal x) ≤ 20
length_long x h = length_below 19 x (omega arith)

-- So many digits are enough: k of them for a number below 10 ^ k.
pub digits_enough : (k x : ℕ) → x < 10 ^ suc k → digits (suc k) x ≡ decimal x
digits_enough zero x h = let l : x < 10 = omega (arith, pow-suc 10 0) in digits_small 0 x l ∙ sym (decimal_small x l)
digits_enough (suc k) x h = go (dec_lt x 10) (digits_enough k (x / 10) (tenth k x h))
  where
    go : Dec (x < 10) → digits (suc k) (x / 10) ≡ decimal (x / 10) → digits (suc (suc k)) x ≡ decimal x
    go (yes l) ih = digits_small (suc k) x l ∙ sym (decimal_small x l)
    go (no l) ih =
        let m : 10 ≤ x = omega arith in
        digits_more (suc k) x m ∙ ap (λ (r : List ℕ). r ++ figure (x % 10)) ih ∙ sym (decimal_more x m)

-- A number of 64 bits has at most 20 digits, so 20 are enough.
pub digits_long : (x : ℕ) → x < 2 ^ 64 → digits 20 x ≡ decimal x
digits_long x h = digits_enough 19 x (omega arith)

-- With the space before it.
pub length_spaced : (x : ℕ) → length (spaced x) ≡ length (decimal x) + 1
unfolding spaced
length_spaced x = omega arith

pub spaced_count : (x : ℕ) → x < 100 → length (spaced x) ≤ 3
spaced_count x h = omega (arith, length_spaced x, length_count x h)

pub spaced_long : (x : ℕ) → x < 2 ^ 64 → length (spaced x) ≤ 21
spaced_long x h = omega (arith, length_spaced x, length_long x h)
