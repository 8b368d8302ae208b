-- What is done to a set where a test is true, the comprehension `set_of`, and the loop that fills a word place by place. Assumes nothing.
use Rattle.std.specs.Prelude.{◌≡◌, refl, ◌⊎◌, Bool, true, false, not, ◌&&◌, ◌||◌, ℕ, zero, suc, ◌+◌, ◌^◌, ◌≤◌, ◌<◌, eqb, ltb}
use Rattle.std.proofs.Common.{sym, ap, ◌∙◌, inl, inr, le_refl, zero-lt-suc, not-suc-le-zero, le_of_suc-le-suc, eq-or-lt_of_le, add-one, arith, ltb-true, ltb-false}
use Rattle.std.proofs.Math.Bool.{and-true, and-false, or-false}
use Rattle.sets.specs.Set.{has, union, only, when, puts, strikes, empties, with_if, set_of, sift}
use Rattle.sets.proofs.laws.Bools.{either, eqb_same, ne_eqb}
use Rattle.sets.proofs.laws.Members.{has_union, has_minus, has_none, has_only, ext_below}
use Rattle.sets.proofs.laws.Bounds.{has_out, union_lt, minus_lt, only_lt}

-- ---- what is done where b is true

-- The members with s put in, without s, and none.
pub has_puts : (b : Bool) (s w j : ℕ) → has (when b (puts s) w) j ≡ has w j || (b && has s j)
unfolding when puts
has_puts true s w j = has_union w s j
has_puts false s w j = sym (or-false (has w j))

pub has_strikes : (b : Bool) (s w j : ℕ) → has (when b (strikes s) w) j ≡ has w j && not (b && has s j)
unfolding when strikes
has_strikes true s w j = has_minus w s j
has_strikes false s w j = sym (and-true (has w j))

pub has_empties : (b : Bool) (w j : ℕ) → has (when b empties w) j ≡ not b && has w j
unfolding when empties
has_empties true w j = has_none j
has_empties false w j = refl

-- The same for one number, put in or struck out.
pub has_with_if : (b : Bool) (i w j : ℕ) → has (with_if b i w) j ≡ has w j || (b && eqb i j)
has_with_if b i w j = has_puts b (only i) w j ∙ ap (λ (y : Bool). has w j || (b && y)) (has_only i j)

pub has_without_if : (b : Bool) (i w j : ℕ) → has (when b (strikes (only i)) w) j ≡ has w j && not (b && eqb i j)
has_without_if b i w j = has_strikes b (only i) w j ∙ ap (λ (y : Bool). has w j && not (b && y)) (has_only i j)

-- A word of k bits stays one.
pub puts_lt : (k : ℕ) (b : Bool) (s w : ℕ) → s < 2 ^ k → w < 2 ^ k → when b (puts s) w < 2 ^ k
unfolding when puts
puts_lt k true s w l h = union_lt k w s h l
puts_lt k false s w l h = h

pub strikes_lt : (k : ℕ) (b : Bool) (s w : ℕ) → w < 2 ^ k → when b (strikes s) w < 2 ^ k
unfolding when strikes
strikes_lt k true s w h = minus_lt k w s h
strikes_lt k false s w h = h

pub empties_lt : (k : ℕ) (b : Bool) (w : ℕ) → w < 2 ^ k → when b empties w < 2 ^ k
unfolding when empties
empties_lt k true w h = omega arith
empties_lt k false w h = h

pub with_if_lt : (k : ℕ) (b : Bool) (i w : ℕ) → i < k → w < 2 ^ k → with_if b i w < 2 ^ k
with_if_lt k b i w l h = puts_lt k b (only i) w (only_lt k i l) h

-- ---- a comprehension

-- A comprehension of numbers below n has n bits.
pub set_of_lt : (n : ℕ) (f : ℕ → Bool) → set_of n f < 2 ^ n
unfolding set_of
set_of_lt zero f = zero-lt-suc 0
set_of_lt (suc n) f = with_if_lt (suc n) (f n) n (set_of n f) (le_refl (suc n)) (let ih = set_of_lt n f in omega arith)

-- No number from n on is in a comprehension below n.
pub has_set_of_out : (n : ℕ) (f : ℕ → Bool) (i : ℕ) → n ≤ i → has (set_of n f) i ≡ false
has_set_of_out n f i h = has_out n (set_of n f) i (set_of_lt n f) h

-- A number below n is in it if f says so.
pub has_set_of : (n : ℕ) (f : ℕ → Bool) (i : ℕ) → i < n → has (set_of n f) i ≡ f i
unfolding set_of
has_set_of zero f i h = absurd (not-suc-le-zero h)
has_set_of (suc n) f i h = has_with_if (f n) n (set_of n f) i ∙ go (eq-or-lt_of_le (le_of_suc-le-suc h)) (has_set_of n f i)
  where
    go : (i ≡ n) ⊎ (i < n) → (i < n → has (set_of n f) i ≡ f i) → has (set_of n f) i || (f n && eqb n i) ≡ f i
    go (inl e) ih = rw (has_set_of_out n f i (omega arith), e, eqb_same n) (and-true (f n))
    go (inr l) ih = rw (ne_eqb (λ (e : n ≡ i). omega arith), and-false (f n), or-false (has (set_of n f) i)) (ih l)

-- A word that agrees with f at each place is the comprehension of f.
pub is_set_of : (n : ℕ) (f : ℕ → Bool) (w : ℕ) → w < 2 ^ n → ((i : ℕ) → i < n → has w i ≡ f i) → w ≡ set_of n f
is_set_of n f w h e = ext_below n w (set_of n f) h (set_of_lt n f) (λ i l. e i l ∙ sym (has_set_of n f i l))

-- A word is the comprehension of its members.
pub set_of_has : (n w : ℕ) → w < 2 ^ n → set_of n (has w) ≡ w
set_of_has n w h = sym (is_set_of n (has w) w h (λ i l. refl))

-- Tests that agree below n have one comprehension.
pub set_of_same : (n : ℕ) (f g : ℕ → Bool) → ((i : ℕ) → i < n → f i ≡ g i) → set_of n f ≡ set_of n g
set_of_same n f g e = is_set_of n g (set_of n f) (set_of_lt n f) (λ i l. has_set_of n f i l ∙ e i l)

-- ---- the members that pass a test

-- They are those of s that pass.
pub has_sift : (n s : ℕ) (p : ℕ → Bool) (i : ℕ) → i < n → has (sift n s p) i ≡ has s i && p i
unfolding sift
has_sift n s p = has_set_of n (λ (i : ℕ). has s i && p i)

-- They are below n.
pub sift_lt : (n s : ℕ) (p : ℕ → Bool) → sift n s p < 2 ^ n
unfolding sift
sift_lt n s p = set_of_lt n (λ (i : ℕ). has s i && p i)

-- Wherever they are looked for, if s has n bits.
pub has_sifted : (n s : ℕ) (p : ℕ → Bool) → s < 2 ^ n → (i : ℕ) → has (sift n s p) i ≡ has s i && p i
has_sifted n s p b i = go (either (ltb i n))
  where
    go : (ltb i n ≡ true) ⊎ (ltb i n ≡ false) → has (sift n s p) i ≡ has s i && p i
    go (inl l) = has_sift n s p i (ltb-true i n l)
    go (inr l) =
        let o = ltb-false i n l in
        has_out n (sift n s p) i (sift_lt n s p) o ∙ sym (ap (λ (x : Bool). x && p i) (has_out n s i b o))

-- ---- a loop that fills a word place by place: `for q in 0..n { if f(q) { r = with(r, q) } }` keeps r ≡ set_of q f

-- nothing is asked yet
pub fill_none : (f : ℕ → Bool) → 0 ≡ set_of 0 f
unfolding set_of
fill_none f = refl

-- one place more
pub fill_more : (n : ℕ) (f : ℕ → Bool) → set_of (n + 1) f ≡ with_if (f n) n (set_of n f)
unfolding set_of
fill_more n f = ap (λ (x : ℕ). set_of x f) (add-one n)

-- where f is true, it is put in
pub fill_yes : {r r' : ℕ} (n : ℕ) (f : ℕ → Bool) → r ≡ set_of n f → f n ≡ true → r' ≡ union r (only n) → r' ≡ set_of (n + 1) f
unfolding when puts
fill_yes n f e y e' = e' ∙ ap (λ (x : ℕ). union x (only n)) e ∙ sym (fill_more n f ∙ ap (λ (b : Bool). with_if b n (set_of n f)) y)

-- where f is false, nothing changes
pub fill_no : {r : ℕ} (n : ℕ) (f : ℕ → Bool) → r ≡ set_of n f → f n ≡ false → r ≡ set_of (n + 1) f
unfolding when puts
fill_no n f e y = e ∙ sym (fill_more n f ∙ ap (λ (b : Bool). with_if b n (set_of n f)) y)
