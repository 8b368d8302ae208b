-- A loop that visits the members of s, the least first, with what is left of s in `left`: what has been visited is minus s left. Assumes nothing.
use Rattle.std.specs.Prelude.{◌≡◌, refl, Bool, true, false, not, ◌&&◌, ◌||◌, ℕ, ◌^◌, ◌<◌, eqb}
use Rattle.std.proofs.Common.{sym, ap, ◌∙◌, subst, ⊎_elim, eqb-true, pow_pos}
use Rattle.std.proofs.Math.Bool.{and-true, and-false, or-true, or-false, and-not_self}
use Rattle.std.proofs.lemmas.Bool.{eqb-false}
use Rattle.sets.specs.Set.{has, union, minus, only, when, puts, with_if, set_of, sift, Subset, lowest}
use Rattle.sets.specs.Rising.{Takes}
use Rattle.sets.proofs.laws.Bools.{clash, or_right, or_yes, eqb_same, ne_eqb}
use Rattle.sets.proofs.laws.Members.{has_union, has_none, has_only, ext, has_minus, membership}
use Rattle.sets.proofs.laws.Bounds.{minus_lt}
use Rattle.sets.proofs.laws.Build.{has_with_if, with_if_lt, set_of_lt, has_set_of, is_set_of, sift_lt}
use Rattle.sets.proofs.laws.Lowest.{lowest_has, lowest_lt, none_empty}
use Rattle.sets.proofs.laws.Subsets.{subset_minus, subset_trans}

-- ---- what has been visited

-- Nothing, at the start.
pub minus_self : (s : ℕ) → minus s s ≡ 0
minus_self s = none_empty (minus s s) (λ i. has_minus s s i ∙ and-not_self (has s i))

-- All, at the end.
pub minus_none : (s : ℕ) → minus s 0 ≡ s
minus_none s = ext (minus s 0) s (λ i. simp membership (and-true (has s i)))

-- What is left is a part of s: at the start, and after a step.
pub subset_self : (s : ℕ) → Subset s s
unfolding Subset
subset_self s i e = e

pub subset_step : (left s x : ℕ) → Subset left s → Subset (minus left x) s
subset_step left s x h = subset_trans (minus left x) left s (subset_minus left x) h

-- q, which is left, is visited.
pub visit_step : (left s q : ℕ) → Subset left s → has left q ≡ true → minus s (minus left (only q)) ≡ union (minus s left) (only q)
unfolding Subset
visit_step left s q h e = ext (minus s (minus left (only q))) (union (minus s left) (only q)) (λ i. simp membership (go i (eqb q i) refl))
  where
    go : (i : ℕ) (x : Bool) → eqb q i ≡ x → has s i && not (has left i && not x) ≡ (has s i && not (has left i)) || x
    go i true t = rw (ap (has s) (sym (eqb-true q i t)) ∙ h q e, and-false (has left i), or-true (not (has left i)))
    go i false t = rw (and-true (has left i), or-false (has s i && not (has left i)))

-- The members then: those before, and q.
pub visit_has : (left s q : ℕ) → Subset left s → has left q ≡ true → (i : ℕ)
    → has (minus s (minus left (only q))) i ≡ has (minus s left) i || eqb q i
visit_has left s q h e i = ap (λ (x : ℕ). has x i) (visit_step left s q h e) ∙ simp (has_union, has_only)

-- It had not been visited.
pub visit_new : (left s q : ℕ) → has left q ≡ true → has (minus s left) q ≡ false
visit_new left s q e = has_minus s left q ∙ rw e (and-false (has s q))

-- ---- comprehensions over what has been visited

-- A comprehension whose test changes at one place, where it was false.
pub set_of_at : (n q : ℕ) (f g : ℕ → Bool) → q < n → ((i : ℕ) → (i ≡ q → ⊥) → g i ≡ f i) → f q ≡ false → set_of n g ≡ with_if (g q) q (set_of n f)
set_of_at n q f g h e z =
    sym (is_set_of n g (with_if (g q) q (set_of n f)) (with_if_lt n (g q) q (set_of n f) h (set_of_lt n f))
    (λ i l. has_with_if (g q) q (set_of n f) i ∙ ap (λ (b : Bool). b || (g q && eqb q i)) (has_set_of n f i l) ∙ go i (eqb q i) refl))
  where
    go : (i : ℕ) (x : Bool) → eqb q i ≡ x → f i || (g q && x) ≡ g i
    go i true t = rw (sym (eqb-true q i t), z) (and-true (g q))
    go i false t = rw (and-false (g q), or-false (f i)) (sym (e i (λ (d : i ≡ q). eqb-false q i t (sym d))))

-- A comprehension of a test that nothing passes.
pub set_of_none : (n : ℕ) (f : ℕ → Bool) → ((i : ℕ) → f i ≡ false) → set_of n f ≡ 0
set_of_none n f e = sym (is_set_of n f 0 (pow_pos n) (λ i l. has_none i ∙ sym (e i)))

-- The members of s that pass p, once q, which was left, is visited too.
pub sift_step : (k left s q : ℕ) (p : ℕ → Bool) → q < k → Subset left s → has left q ≡ true
    → sift k (minus s (minus left (only q))) p ≡ with_if (p q) q (sift k (minus s left) p)
unfolding sift
sift_step k left s q p h w e =
    set_of_at k q (λ (i : ℕ). has (minus s left) i && p i) (λ (i : ℕ). has (minus s (minus left (only q))) i && p i) h
    (λ i d. rw (visit_has left s q w e i, ne_eqb (λ (x : q ≡ i). d (sym x)), or-false (has (minus s left) i)))
    (rw (visit_new left s q e))
    ∙ ap (λ (b : Bool). with_if (b && p q) q (set_of k (λ (i : ℕ). has (minus s left) i && p i))) here
  where
    here : has (minus s (minus left (only q))) q ≡ true
    here = visit_has left s q w e q ∙ or_right (has (minus s left) q) (eqb_same q)

-- ---- the loop

-- What such a loop keeps, over a word of k bits: `left` is a part of s, and r has the members of s that are not left and that pass p.
pub record Visit (k s left r : ℕ) (p : ℕ → Bool) : Type 0 where
  pub below : left < 2 ^ k
  pub within : Subset left s
  pub filled : r ≡ sift k (minus s left) p

-- Before the loop.
pub visit_none : {k s left : ℕ} {p : ℕ → Bool} → s < 2 ^ k → left ≡ s → Visit k s left 0 p
unfolding sift
visit_none {k} {s} {p = p} h e = record {
  below = rw e h;
  within = rw e (subset_self s);
  filled = rw e (sym (set_of_none k (λ (i : ℕ). has (minus s s) i && p i) (λ i. rw (minus_self s, has_none i))));
}

-- q, the least that is left, is visited, and put in if it passes.
pub visit_put : {k s left left' r r' q : ℕ} {p : ℕ → Bool} → Visit k s left r p → Takes k left q left'
    → r' ≡ with_if (p q) q r → Visit k s left' r' p
visit_put {k} {s} {left} {left'} {r} {r'} {q} {p} v t er = record {
  below = rw t.rest (minus_lt k left (only (lowest k left)) v.below);
  within = rw t.rest (subset_step left s (only (lowest k left)) v.within);
  filled =
      er ∙ ap (with_if (p q) q) v.filled
      ∙ rw (t.rest, t.least) (sym (sift_step k left s (lowest k left) p (lowest_lt k left t.some v.below) v.within (lowest_has k left t.some v.below)));
}

-- It passes.
pub visit_yes : {k s left left' r r' q : ℕ} {p : ℕ → Bool} → Visit k s left r p → Takes k left q left'
    → p q ≡ true → r' ≡ union r (only q) → Visit k s left' r' p
unfolding when puts
visit_yes {r = r} {q = q} v t y er = visit_put v t (er ∙ ap (λ (b : Bool). with_if b q r) (sym y))

-- It does not.
pub visit_no : {k s left left' r q : ℕ} {p : ℕ → Bool} → Visit k s left r p → Takes k left q left'
    → p q ≡ false → Visit k s left' r p
unfolding when puts
visit_no {r = r} {q = q} v t y = visit_put v t (ap (λ (b : Bool). with_if b q r) (sym y))

-- What is in r are numbers of k bits.
pub visit_lt : {k s left r : ℕ} {p : ℕ → Bool} → Visit k s left r p → r < 2 ^ k
visit_lt {k} {s} {left} {p = p} v = rw v.filled (sift_lt k (minus s left) p)

-- After the loop.
pub visit_done : {k s left r : ℕ} {p : ℕ → Bool} → Visit k s left r p → left ≡ 0 → r ≡ sift k s p
visit_done {k} {s} {left} {r} {p} v e = v.filled ∙ ap (λ (x : ℕ). sift k x p) (ap (minus s) e ∙ minus_none s)

-- ---- what holds of every member that has been visited, or of every member

-- Nothing has been visited.
pub visited_none : (s : ℕ) (P : ℕ → Type 0) (i : ℕ) → has (minus s s) i ≡ true → P i
visited_none s P i e = clash e (ap (λ (x : ℕ). has x i) (minus_self s) ∙ has_none i)

-- q is visited: what held of those before still does, and P q.
pub visited_more : (left s q : ℕ) (P : ℕ → Type 0) → Subset left s → has left q ≡ true → ((i : ℕ) → has (minus s left) i ≡ true → P i) → P q
    → (i : ℕ) → has (minus s (minus left (only q))) i ≡ true → P i
visited_more left s q P w h all here i e =
    ⊎_elim (all i) (λ t. subst P (eqb-true q i t) here) (or_yes (has (minus s left) i) (eqb q i) (sym (visit_has left s q w h i) ∙ e))

-- Nothing is left.
pub visited_all : (s left : ℕ) (P : ℕ → Type 0) → left ≡ 0 → ((i : ℕ) → has (minus s left) i ≡ true → P i) → (i : ℕ) → has s i ≡ true → P i
visited_all s left P e all i h = all i (ap (λ (x : ℕ). has x i) (ap (minus s) e ∙ minus_none s) ∙ h)
