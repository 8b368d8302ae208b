-- Laws of specs/Any.antt. Assumes nothing.
use Rattle.std.specs.Prelude.{◌≡◌, refl, ◌⊎◌, Bool, true, false, ◌&&◌, ◌||◌, ℕ, zero, suc, ◌+◌, ◌<◌}
use Rattle.std.proofs.Common.{◌∙◌, ap, ap₂, inl, inr, add-one, arith}
use Rattle.sets.proofs.laws.Bools.{clash, not_false, and_both, and_yes, or_left, or_right, or_yes, below_suc}
use Rattle.sets.specs.Any.{any, all}

-- ---- any

-- The one that passes.
pub any_yes : (n : ℕ) (f : ℕ → Bool) (i : ℕ) → i < n → f i ≡ true → any n f ≡ true
unfolding any
any_yes zero f i b h = absurd (omega arith)
any_yes (suc n) f i b h = first (below_suc i n b) (λ b'. any_yes n f i b' h)
  where
    first : (i < n) ⊎ (i ≡ n) → (i < n → any n f ≡ true) → (any n f || f n) ≡ true
    first (inl b') ih = or_left (f n) (ih b')
    first (inr e) ih = or_right (any n f) (rw e at h)

-- Which it is.
pub any_why : (n : ℕ) (f : ℕ → Bool) → any n f ≡ true → (i : ℕ) × (i < n) × (f i ≡ true)
unfolding any
any_why zero f h = clash h refl
any_why (suc n) f h = first (or_yes (any n f) (f n) h) (any_why n f)
  where
    first : (any n f ≡ true) ⊎ (f n ≡ true) → (any n f ≡ true → (i : ℕ) × (i < n) × (f i ≡ true)) → (i : ℕ) × (i < suc n) × (f i ≡ true)
    first (inl x) ih =
        let y = ih x in
        (y.0, omega arith, y.2)
    first (inr x) ih = (n, omega arith, x)

-- Tests that agree below n.
pub any_same : (n : ℕ) (f g : ℕ → Bool) → ((i : ℕ) → i < n → f i ≡ g i) → any n f ≡ any n g
unfolding any
any_same zero f g h = refl
any_same (suc n) f g h = ap₂ ◌||◌ (any_same n f g λ i b. h i (omega arith)) (h n (omega arith))

-- None passes.
pub any_none : (n : ℕ) (f : ℕ → Bool) → ((i : ℕ) → i < n → f i ≡ false) → any n f ≡ false
any_none n f h = not_false λ e. let w = any_why n f e in clash w.2 (h w.0 w.1)

-- And back.
pub any_no : (n : ℕ) (f : ℕ → Bool) → any n f ≡ false → (i : ℕ) → i < n → f i ≡ false
any_no n f h i b = not_false λ e. clash (any_yes n f i b e) h

-- ---- all

-- Each passes.
pub all_yes : (n : ℕ) (f : ℕ → Bool) → ((i : ℕ) → i < n → f i ≡ true) → all n f ≡ true
unfolding all
all_yes zero f h = refl
all_yes (suc n) f h = and_both (all_yes n f λ i b. h i (omega arith)) (h n (omega arith))

-- And back.
pub all_why : (n : ℕ) (f : ℕ → Bool) → all n f ≡ true → (i : ℕ) → i < n → f i ≡ true
unfolding all
all_why zero f h i b = absurd (omega arith)
all_why (suc n) f h i b = first (below_suc i n b) (and_yes (all n f) (f n) h) (λ e b'. all_why n f e i b')
  where
    first : (i < n) ⊎ (i ≡ n) → (all n f ≡ true) × (f n ≡ true) → (all n f ≡ true → i < n → f i ≡ true) → f i ≡ true
    first (inl b') p ih = ih p.0 b'
    first (inr e) p ih = ap f e ∙ p.1

-- One that fails.
pub all_no : (n : ℕ) (f : ℕ → Bool) (i : ℕ) → i < n → f i ≡ false → all n f ≡ false
all_no n f i b h = not_false λ e. clash (all_why n f e i b) h

-- Tests that agree below n.
pub all_same : (n : ℕ) (f g : ℕ → Bool) → ((i : ℕ) → i < n → f i ≡ g i) → all n f ≡ all n g
unfolding all
all_same zero f g h = refl
all_same (suc n) f g h = ap₂ ◌&&◌ (all_same n f g λ i b. h i (omega arith)) (h n (omega arith))

-- ---- a loop that asks the numbers one by one: it keeps r ≡ any q f, or r ≡ all q f

pub any_more : (n : ℕ) (f : ℕ → Bool) → any (n + 1) f ≡ any n f || f n
unfolding any
any_more n f = ap (λ (x : ℕ). any x f) (add-one n)

pub all_start : (f : ℕ → Bool) → true ≡ all 0 f
unfolding all
all_start f = refl

pub all_more : (n : ℕ) (f : ℕ → Bool) → all (n + 1) f ≡ all n f && f n
unfolding all
all_more n f = ap (λ (x : ℕ). all x f) (add-one n)
