-- Booleans as facts, `b ≡ true` and `b ≡ false`: the one house of Boolean lemmas. The equations of `&&`, `||` and `not` are the library's
-- (mathlib.Core.Bool: and-true, or-false, and-comm ..), and so is what a test of numbers tells (borrow.Author.Tests: eqb-true, eqb-false, ltb-true ..).
-- Assumes nothing.
use Rattle.std.specs.Prelude.{◌≡◌, refl, ◌⊎◌, Bool, true, false, not, ◌&&◌, ◌||◌, ℕ, suc, ◌<◌, eqb}
use Rattle.std.proofs.Common.{sym, ap, ◌∙◌, inl, inr, true≢false, arith, eq-eqb, eqb-true}
use Rattle.std.proofs.lemmas.Bool.{false≢true}
use Rattle.std.proofs.Math.Bool.{and-false}
use Rattle.std.proofs.Math.Decide.{ℕ_discrete}

-- ---- one Boolean

-- A Boolean is true or false.
pub either : (b : Bool) → (b ≡ true) ⊎ (b ≡ false)
either true = inl refl
either false = inr refl

-- It is not both.
pub clash {ℓ} : {X : Type ℓ} {b : Bool} → b ≡ true → b ≡ false → X
clash {X} {b} p q =
    let z : true ≡ false = cc in
    absurd (true≢false z)

-- What is not true is false.
pub not_false : {b : Bool} → (b ≡ true → ⊥) → b ≡ false
not_false {b = true} f = absurd (f refl)
not_false {b = false} f = refl

-- Two Booleans are equal where each makes the other true.
pub bool_ext : {a b : Bool} → (a ≡ true → b ≡ true) → (b ≡ true → a ≡ true) → a ≡ b
bool_ext {a = true} {b = b} f g = sym (f refl)
bool_ext {a = false} {b = true} f g = g refl
bool_ext {a = false} {b = false} f g = refl

-- The negation is true: it is false.
pub not_yes : (a : Bool) → not a ≡ true → a ≡ false
not_yes true h = absurd (false≢true h)
not_yes false h = refl

-- The negation is false: it is true.
pub not_no : (a : Bool) → not a ≡ false → a ≡ true
not_no true h = refl
not_no false h = absurd (true≢false h)

-- ---- two Booleans

-- A fact of two Booleans, by its four cases.
pub bool2 : (P : Bool → Bool → Type 0) → P false false → P false true → P true false → P true true → (x y : Bool) → P x y
bool2 P a b c d false false = a
bool2 P a b c d false true = b
bool2 P a b c d true false = c
bool2 P a b c d true true = d

-- Both hold: so does the conjunction.
pub and_both : {a b : Bool} → a ≡ true → b ≡ true → (a && b) ≡ true
and_both {a} {b} p q = ap (λ (x : Bool). x && b) p ∙ q

-- A conjunction that holds: both do.
pub and_yes : (a b : Bool) → (a && b) ≡ true → (a ≡ true) × (b ≡ true)
and_yes true b h = (refl, h)
and_yes false b h = absurd (false≢true h)

-- A conjunction fails where its first part rules its second out.
pub and_no : (a b : Bool) → (a ≡ true → b ≡ false) → (a && b) ≡ false
and_no true b f = f refl
and_no false b f = refl

-- A conjunction that fails: where the first part holds, the second does not.
pub and_fails : (a b : Bool) → (a && b) ≡ false → a ≡ true → b ≡ false
and_fails true b h p = h
and_fails false b h p = absurd (false≢true p)

-- The first holds: so does the disjunction.
pub or_left : {a : Bool} (b : Bool) → a ≡ true → (a || b) ≡ true
or_left b h = ap (λ (x : Bool). x || b) h

-- The second holds: so does the disjunction.
pub or_right : (a : Bool) {b : Bool} → b ≡ true → (a || b) ≡ true
or_right true h = refl
or_right false h = h

-- A disjunction that holds: one of the two does.
pub or_yes : (a b : Bool) → (a || b) ≡ true → (a ≡ true) ⊎ (b ≡ true)
or_yes true b h = inl refl
or_yes false b h = inr h

-- A disjunction that fails: both do.
pub or_no : (a b : Bool) → (a || b) ≡ false → (a ≡ false) × (b ≡ false)
or_no true b h = absurd (true≢false h)
or_no false b h = (refl, h)

-- What has b and what has not are all, and have nothing in common.
pub split_whole : (a b : Bool) → (a && not b) || (a && b) ≡ a
split_whole = bool2 (λ (a b : Bool). (a && not b) || (a && b) ≡ a) refl refl refl refl

pub split_none : (a b : Bool) → (a && not b) && (a && b) ≡ false
split_none = bool2 (λ (a b : Bool). (a && not b) && (a && b) ≡ false) refl refl refl refl

-- It is not so that the first brings the second.
pub and_or_not : (a b : Bool) → a && not b ≡ not (not a || b)
and_or_not = bool2 (λ (a b : Bool). a && not b ≡ not (not a || b)) refl refl refl refl

-- One of the two and not both.
abbrev pub apart : Bool → Bool → Bool
apart true b = not b
apart false b = b

pub apart_true : (a : Bool) → apart a true ≡ not a
apart_true true = refl
apart_true false = refl

pub apart_and : (a b : Bool) → apart a (a && b) ≡ a && not b
apart_and = bool2 (λ (a b : Bool). apart a (a && b) ≡ a && not b) refl refl refl refl

-- Two that differ, or do not.
pub apart_not : (a b : Bool) → apart a b ≡ true → a ≡ not b
apart_not true true h = sym h
apart_not true false h = refl
apart_not false true h = refl
apart_not false false h = h

pub apart_same : (a b : Bool) → apart a b ≡ false → a ≡ b
apart_same true true h = refl
apart_same true false h = h
apart_same false true h = sym h
apart_same false false h = refl

pub not_own : (a : Bool) → a ≡ not a → ⊥
not_own true h = clash refl h
not_own false h = clash h refl

-- `not a || b`: b holds where a does; both ways, and where it fails.
pub implied : (a : Bool) {b : Bool} → not a || b ≡ true → a ≡ true → b ≡ true
implied true k e = k
implied false k e = clash e refl

pub implies : (a : Bool) {b : Bool} → (a ≡ true → b ≡ true) → not a || b ≡ true
implies true h = h refl
implies false h = refl

pub implied_not : (a b : Bool) → not a || b ≡ false → (a ≡ true) × (b ≡ false)
implied_not a b h = let e = or_no (not a) b h in (not_no a e.0, e.1)

pub implies_not : {a b : Bool} → a ≡ true → b ≡ false → not a || b ≡ false
implies_not e f = rw (e, f)

-- ---- equal numbers

-- A number equals itself.
pub eqb_same : (a : ℕ) → eqb a a ≡ true
eqb_same a = eq-eqb a a refl

-- Different numbers.
pub ne_eqb : {a b : ℕ} → (a ≡ b → ⊥) → eqb a b ≡ false
ne_eqb {a} {b} f = not_false λ e. f (eqb-true a b e)

-- Where the numbers are equal, what is asked of one may be asked of the other.
pub and_eqb : (f : ℕ → Bool) (i j : ℕ) → f j && eqb i j ≡ f i && eqb i j
and_eqb f i j = first (either (eqb i j))
  where
    first : (eqb i j ≡ true) ⊎ (eqb i j ≡ false) → f j && eqb i j ≡ f i && eqb i j
    first (inl e) = rw (eqb-true i j e)
    first (inr e) = rw (e, and-false (f j), and-false (f i))

-- Below n + 1: below n, or n.
pub below_suc : (i n : ℕ) → i < suc n → (i < n) ⊎ (i ≡ n)
below_suc i n h = first (ℕ_discrete i n)
  where
    first : Dec (i ≡ n) → (i < n) ⊎ (i ≡ n)
    first (yes e) = inr e
    first (no f) = inl (omega arith)
