-- Every member of one set is in the other. Assumes nothing.
use Rattle.std.specs.Prelude.{◌≡◌, true, false, not, ℕ, ◌≤◌, ◌<◌}
use Rattle.std.proofs.Common.{sym, ap, ◌∙◌, ⊎_elim, arith}
use Rattle.sets.specs.Set.{has, union, meet, minus, Subset, size}
use Rattle.sets.proofs.laws.Bools.{clash, bool_ext, not_no, and_both, and_yes, and_no, and_fails, or_left, or_yes}
use Rattle.sets.proofs.laws.Members.{has_union, has_meet, has_none, ext, has_minus}
use Rattle.sets.proofs.laws.Lowest.{none_empty}
use Rattle.sets.proofs.laws.Sizes.{size_minus_meet, size_without}

-- The union has each of the two.
pub subset_union : (a b : ℕ) → Subset a (union a b)
unfolding Subset
subset_union a b i e = has_union a b i ∙ or_left (has b i) e

-- The union of two that are in c is in c.
pub union_subset : (a b c : ℕ) → Subset a c → Subset b c → Subset (union a b) c
unfolding Subset
union_subset a b c h k i e = ⊎_elim (h i) (k i) (or_yes (has a i) (has b i) (sym (has_union a b i) ∙ e))

-- The difference is in a.
pub subset_minus : (a b : ℕ) → Subset (minus a b) a
unfolding Subset
subset_minus a b i e = (and_yes (has a i) (not (has b i)) (sym (has_minus a b i) ∙ e)).0

-- The meet is in each of the two.
pub subset_meet : (a b : ℕ) → Subset (meet a b) a
unfolding Subset
subset_meet a b i e = (and_yes (has a i) (has b i) (sym (has_meet a b i) ∙ e)).0

pub subset_meet_right : (a b : ℕ) → Subset (meet a b) b
unfolding Subset
subset_meet_right a b i e = (and_yes (has a i) (has b i) (sym (has_meet a b i) ∙ e)).1

-- The empty set is in every set.
pub subset_none : (a : ℕ) → Subset 0 a
unfolding Subset
subset_none a i e = clash e (has_none i)

-- In b, which is in c.
pub subset_trans : (a b c : ℕ) → Subset a b → Subset b c → Subset a c
unfolding Subset
subset_trans a b c h k i e = k i (h i e)

-- Sets that are in each other are equal.
pub subset_eq : (a b : ℕ) → Subset a b → Subset b a → a ≡ b
unfolding Subset
subset_eq a b h k = ext a b (λ i. bool_ext (h i) (k i))

-- ---- tests for the empty set

-- `a & !b == 0`: all of a is in b.
pub subset_of_minus : (a b : ℕ) → minus a b ≡ 0 → Subset a b
unfolding Subset
subset_of_minus a b e i h =
    not_no (has b i) (and_fails (has a i) (not (has b i)) (sym (has_minus a b i) ∙ ap (λ (x : ℕ). has x i) e ∙ has_none i) h)

-- And back.
pub minus_of_subset : (a b : ℕ) → Subset a b → minus a b ≡ 0
unfolding Subset
minus_of_subset a b h = none_empty (minus a b) (λ i. has_minus a b i ∙ and_no (has a i) (not (has b i)) (λ e. ap not (h i e)))

-- `a & b == 0`: they have nothing in common.
pub disjoint_of_meet : (a b : ℕ) → meet a b ≡ 0 → (i : ℕ) → has a i ≡ true → has b i ≡ false
disjoint_of_meet a b e i h = and_fails (has a i) (has b i) (sym (has_meet a b i) ∙ ap (λ (x : ℕ). has x i) e ∙ has_none i) h

-- And back.
pub meet_none : (a b : ℕ) → ((i : ℕ) → has a i ≡ true → has b i ≡ false) → meet a b ≡ 0
meet_none a b h = none_empty (meet a b) (λ i. has_meet a b i ∙ and_no (has a i) (has b i) (h i))

-- ---- sizes

-- What a has in common with a part of it is that part.
pub meet_of_subset : (a b : ℕ) → Subset b a → meet a b ≡ b
unfolding Subset
meet_of_subset a b h = subset_eq (meet a b) b (subset_meet_right a b) (λ i e. has_meet a b i ∙ and_both (h i e) e)

-- A part has no more members than the whole;
pub size_part : (a b : ℕ) → Subset b a → size b ≤ size a
size_part a b h = omega (arith, size_minus_meet a b, ap size (meet_of_subset a b h))

-- fewer, where it lacks one.
pub size_part_lt : (a b i : ℕ) → Subset b a → has a i ≡ true → has b i ≡ false → size b < size a
size_part_lt a b i h x y =
    let z : has (minus a b) i ≡ true = has_minus a b i ∙ rw (x, y) in
    omega (arith, size_minus_meet a b, ap size (meet_of_subset a b h), size_without (minus a b) i z)
