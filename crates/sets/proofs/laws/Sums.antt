-- Laws of specs/Sums.antt. Assumes nothing.
use Rattle.std.specs.Prelude.{◌≡◌, refl, ◌⊎◌, ℕ, zero, suc, ◌+◌, ◌*◌, ◌≤◌, ◌<◌}
use Rattle.std.proofs.Common.{sym, ◌∙◌, ap, ap₂, inl, inr, add-one, arith}
use Rattle.sets.proofs.laws.Bools.{below_suc}
use Rattle.sets.specs.Sums.{sum}

-- ---- a loop that adds up: `for q in 0..n { r += f(q) }` keeps r ≡ sum q f

pub sum_start : (f : ℕ → ℕ) → 0 ≡ sum 0 f
unfolding sum
sum_start f = refl

pub sum_more : (n : ℕ) (f : ℕ → ℕ) → sum (n + 1) f ≡ sum n f + f n
unfolding sum
sum_more n f = ap (λ (x : ℕ). sum x f) (add-one n)

-- ---- equal sums

-- Terms that are equal have equal sums.
pub sum_same : (n : ℕ) (f g : ℕ → ℕ) → ((i : ℕ) → i < n → f i ≡ g i) → sum n f ≡ sum n g
unfolding sum
sum_same zero f g h = refl
sum_same (suc n) f g h = ap₂ ◌+◌ (sum_same n f g λ i b. h i (omega arith)) (h n (omega arith))

-- The first term, and the others.
pub sum_first : (n : ℕ) (f : ℕ → ℕ) → sum (suc n) f ≡ f 0 + sum n (λ i. f (suc i))
unfolding sum
sum_first zero f = omega arith
sum_first (suc n) f = omega (arith, sum_first n f)

-- A sum of nothing but zeros.
pub sum_zero : (n : ℕ) → sum n (λ i. 0) ≡ 0
unfolding sum
sum_zero zero = refl
sum_zero (suc n) = omega (arith, sum_zero n)

-- The sum of term by term sums.
pub sum_add : (n : ℕ) (f g : ℕ → ℕ) → sum n (λ i. f i + g i) ≡ sum n f + sum n g
unfolding sum
sum_add zero f g = omega arith
sum_add (suc n) f g = omega (arith, sum_add n f g)

-- A table summed by rows, and by columns.
pub sum_swap : (n m : ℕ) (f : ℕ → ℕ → ℕ) → sum n (λ i. sum m (λ j. f i j)) ≡ sum m (λ j. sum n (λ i. f i j))
unfolding sum
sum_swap zero m f = sym (sum_zero m)
sum_swap (suc n) m f =
    ap (λ (x : ℕ). x + sum m (f n)) (sum_swap n m f) ∙ sym (sum_add m (λ (j : ℕ). sum n (λ i. f i j)) (f n))

-- ---- one place changed

-- One place changed, by what a and b tell.
pub sum_change : (n : ℕ) (f g : ℕ → ℕ) (i a b : ℕ) → i < n → ((j : ℕ) → (j ≡ i → ⊥) → f j ≡ g j)
    → f i + a ≡ g i + b → sum n f + a ≡ sum n g + b
unfolding sum
sum_change zero f g i a b h same change = absurd (omega arith)
sum_change (suc n) f g i a b h same change = first (below_suc i n h) (λ h'. sum_change n f g i a b h' same change)
  where
    first : (i < n) ⊎ (i ≡ n) → (i < n → sum n f + a ≡ sum n g + b) → sum n f + f n + a ≡ sum n g + g n + b
    first (inl h') ih =
        let y : f n ≡ g n = same n (λ (e : n ≡ i). omega arith) in
        omega (arith, ih h')
    first (inr e) ih =
        let x : sum n f ≡ sum n g = sum_same n f g (λ j b'. same j (λ (e' : j ≡ i). omega arith)) in
        let y : f n + a ≡ g n + b = rw e at change in
        omega arith

-- One place less by one.
pub sum_drop : (n : ℕ) (f g : ℕ → ℕ) (i : ℕ) → i < n → ((j : ℕ) → (j ≡ i → ⊥) → f j ≡ g j) → f i ≡ suc (g i) → sum n f ≡ suc (sum n g)
sum_drop n f g i b same drop = omega (arith, sum_change n f g i 0 1 b same (omega arith))

-- ---- sums compared

-- Terms that are at most those of g, below n.
pub sum_le_below : (n : ℕ) (f g : ℕ → ℕ) → ((j : ℕ) → j < n → f j ≤ g j) → sum n f ≤ sum n g
unfolding sum
sum_le_below zero f g h = omega arith
sum_le_below (suc n) f g h = omega (arith, sum_le_below n f g (λ j b. h j (omega arith)), h n (omega arith))

-- Terms that are at most those of g.
pub sum_le : (n : ℕ) (f g : ℕ → ℕ) → ((j : ℕ) → f j ≤ g j) → sum n f ≤ sum n g
sum_le n f g h = sum_le_below n f g (λ j b. h j)

-- And one of them is less.
pub sum_lt : (n : ℕ) (f g : ℕ → ℕ) (i : ℕ) → i < n → ((j : ℕ) → f j ≤ g j) → f i < g i → sum n f < sum n g
unfolding sum
sum_lt zero f g i b h l = absurd (omega arith)
sum_lt (suc n) f g i b h l = first (below_suc i n b) (λ b'. sum_lt n f g i b' h l)
  where
    first : (i < n) ⊎ (i ≡ n) → (i < n → sum n f < sum n g) → sum n f + f n < sum n g + g n
    first (inl b') ih = omega (arith, ih b', h n)
    first (inr e) ih =
        let y : f n < g n = rw e at l in
        omega (arith, sum_le n f g h)

-- Each at most c.
pub sum_bound : (n c : ℕ) (f : ℕ → ℕ) → ((j : ℕ) → f j ≤ c) → sum n f ≤ n * c
unfolding sum
sum_bound zero c f h = omega arith
sum_bound (suc n) c f h = omega (arith, sum_bound n c f h, h n)

-- One term is at most the sum.
pub sum_member : (n : ℕ) (f : ℕ → ℕ) (i : ℕ) → i < n → f i ≤ sum n f
unfolding sum
sum_member zero f i b = absurd (omega arith)
sum_member (suc n) f i b = first (below_suc i n b) (λ b'. sum_member n f i b')
  where
    first : (i < n) ⊎ (i ≡ n) → (i < n → f i ≤ sum n f) → f i ≤ sum n f + f n
    first (inl b') ih = omega (arith, ih b')
    first (inr e) ih = rw e (omega arith)
