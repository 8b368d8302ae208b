-- "Exactly if", from equations of truth values: what the laws of the events say by `||`, `&&` and `not`, in words. Assumes nothing.
use Rattle.std.specs.Prelude.{◌≡◌, refl, ◌⊎◌, ◌↔◌, Bool, true, false, ◌&&◌, ◌||◌, not, cond, ℕ, ◌<◌, eqb}
use Rattle.std.proofs.Common.{sym, ◌∙◌, inl, inr, ⊎_elim, arith, eqb-true, eq-eqb}
use Rattle.std.proofs.lemmas.Bool.{eqb-false}
use Rattle.sets.proofs.laws.Bools.{clash, and_both, and_yes, or_left, or_right, or_yes, ne_eqb}
use Rattle.sets.specs.Set.{has, lowest}
use Rattle.sets.proofs.laws.Members.{has_none, below_pow}
use Rattle.sets.proofs.laws.Lowest.{lowest_has, none_empty}
use Rattle.network.specs.Rules.{need}

-- ---- several at once

pub three : {X A B C : Type 0} → X ↔ (A × (B × C)) → X ↔ (A × B × C)
three h = ((λ x. let y = h.0 x in (y.0, y.1.0, y.1.1)), λ y. h.1 (y.0, (y.1, y.2)))

pub four : {X A B C D : Type 0} → X ↔ (A × (B × (C × D))) → X ↔ (A × B × C × D)
four h = ((λ x. let y = h.0 x in (y.0, y.1.0, y.1.1.0, y.1.1.1)), λ y. h.1 (y.0, (y.1, (y.2, y.3))))

-- ---- truth values

-- a is b, and b holds exactly if B
pub by : {a b : Bool} {B : Type 0} → a ≡ b → (b ≡ true) ↔ B → (a ≡ true) ↔ B
by e h = ((λ x. h.0 (sym e ∙ x)), λ y. e ∙ h.1 y)

pub yes_if : {a : Bool} → (a ≡ true) ↔ (a ≡ true)
yes_if = ((λ x. x), λ x. x)

pub or_if : {a b : Bool} {A B : Type 0} → (a ≡ true) ↔ A → (b ≡ true) ↔ B → (a || b ≡ true) ↔ (A ⊎ B)
or_if {a} {b} h k = ((λ x. ⊎_elim (λ y. inl (h.0 y)) (λ y. inr (k.0 y)) (or_yes a b x)), ⊎_elim (λ y. or_left b (h.1 y)) (λ y. or_right a (k.1 y)))

pub and_if : {a b : Bool} {A B : Type 0} → (a ≡ true) ↔ A → (b ≡ true) ↔ B → (a && b ≡ true) ↔ (A × B)
and_if {a} {b} h k = ((λ x. let y = and_yes a b x in (h.0 y.0, k.0 y.1)), λ y. and_both (h.1 y.0) (k.1 y.1))

pub and3_if : {a b c : Bool} {A B C : Type 0} → (a ≡ true) ↔ A → (b ≡ true) ↔ B → (c ≡ true) ↔ C → (a && (b && c) ≡ true) ↔ (A × B × C)
and3_if h k l = three (and_if h (and_if k l))

pub not_if : {a : Bool} {A : Type 0} → (a ≡ true) ↔ A → (not a ≡ true) ↔ (A → ⊥)
not_if {a = true} h = ((λ x y. clash {X = ⊥} x refl), λ f. absurd (f (h.0 refl)))
not_if {a = false} h = ((λ x y. clash {X = ⊥} (h.1 y) refl), λ f. refl)

pub no_if : {a : Bool} → (not a ≡ true) ↔ (a ≡ false)
no_if {a = true} = ((λ x. clash x refl), λ x. clash refl x)
no_if {a = false} = ((λ x. refl), λ x. refl)

pub yes_not : {a : Bool} → (not a ≡ false) ↔ (a ≡ true)
yes_not {a = true} = ((λ x. refl), λ x. refl)
yes_not {a = false} = ((λ x. clash refl x), λ x. clash x refl)

pub eq_if : {i j : ℕ} → (eqb i j ≡ true) ↔ (i ≡ j)
eq_if {i} {j} = (eqb-true i j, eq-eqb i j)

pub ne_if : {i j : ℕ} → (eqb i j ≡ false) ↔ (i ≡ j → ⊥)
ne_if {i} {j} = (eqb-false i j, λ h. ne_eqb h)

-- the one where a condition holds, the other where it does not
pub cond_if : {c a b : Bool} {C A B : Type 0} → (c ≡ true) ↔ C → (a ≡ true) ↔ A → (b ≡ true) ↔ B → (cond c a b ≡ true) ↔ ((C × A) ⊎ ((C → ⊥) × B))
cond_if {c = true} h k l = ((λ x. inl (h.0 refl, k.0 x)), ⊎_elim (λ y. k.1 y.1) (λ y. absurd (y.0 (h.0 refl))))
cond_if {c = false} h k l = ((λ x. inr ((λ y. clash (h.1 y) refl), l.0 x)), ⊎_elim (λ y. clash (h.1 y.0) refl) (λ y. l.1 y.1))

-- ---- conditions in order

-- the number of a condition is answered exactly if it fails
pub need_is : (x : Bool) (k r : ℕ) → (r ≡ k → ⊥) → (need x k r ≡ k) ↔ (x ≡ false)
unfolding need
need_is true k r h = ((λ e. absurd (h e)), λ e. clash refl e)
need_is false k r h = ((λ e. refl), λ e. refl)

-- another number is answered exactly if it holds and what comes after it answers that number
pub need_on : (x : Bool) (k r j : ℕ) → (k ≡ j → ⊥) → (need x k r ≡ j) ↔ ((x ≡ true) × (r ≡ j))
unfolding need
need_on true k r j h = ((λ e. (refl, e)), λ e. e.1)
need_on false k r j h = ((λ e. absurd (h e)), λ e. clash e.0 refl)

-- what comes after it answers none of the earlier numbers
pub need_not : (x : Bool) (k r j : ℕ) → (k ≡ j → ⊥) → (r ≡ j → ⊥) → need x k r ≡ j → ⊥
unfolding need
need_not true k r j h i e = i e
need_not false k r j h i e = h e

-- the last condition holds
pub need_last : {X A : Type 0} → X ↔ A → (X × (◌≡◌ {A = ℕ} 0 0)) ↔ A
need_last h = ((λ x. h.0 x.0), λ y. (h.1 y, refl))

-- ---- sets

-- a set is empty exactly if it has no member; it is not exactly if it has one
pub empty_if : {w : ℕ} → (w ≡ 0) ↔ ((i : ℕ) → has w i ≡ false)
empty_if {w} = ((λ e i. rw e (has_none i)), none_empty w)

pub some_if : {w : ℕ} → (w ≡ 0 → ⊥) ↔ ((i : ℕ) × (has w i ≡ true))
some_if {w} =
    ((λ h. let l : 0 < w = omega arith in (lowest w w, lowest_has w w l (below_pow w))), λ x e. clash x.1 (rw e (has_none x.0)))
