-- The loop `learn` of src/rows.rt: whom a peer comes to know. Assumes nothing.
use Rattle.std.specs.Prelude.{◌≡◌, refl, Bool, true, false, ◌&&◌, List, ℕ, ◌/◌, ◌%◌, eqb, get_or}
use Rattle.std.proofs.Common.{sym, ap, ◌∙◌}
use Rattle.std.proofs.Math.Bool.{or-false, or_assoc}
use Rattle.sets.specs.Set.{has, union, minus, only, when, puts, with_if, sift}
use Rattle.sets.proofs.laws.Members.{membership, has_none, ext}
use Rattle.sets.proofs.laws.Build.{has_with_if}
use Rattle.sets.specs.Rising.{Takes}
use Rattle.sets.proofs.laws.Lowest.{takes_has}
use Rattle.sets.proofs.laws.Visits.{set_of_none, visit_step, sift_step}
use Rattle.lists.specs.Edit.{edit}
use Rattle.lists.specs.laws.Edit.{edit_then}
use Rattle.floodnet.proofs.CodeVisit.{Along, along_more}
use Rattle.floodnet.specs.Lent.{learnt}

-- of nobody, nothing is learnt
pub learnt_none : (p : ℕ) (subs : List ℕ) (i x : ℕ) → learnt p subs 0 i x ≡ x
unfolding learnt when puts sift
learnt_none p subs i x = go (eqb (i / 32) p)
  where
    empty : sift 32 0 (λ q. has (get_or subs q 0) (i % 32)) ≡ 0
    empty = set_of_none 32 (λ q. has 0 q && has (get_or subs q 0) (i % 32)) (λ q. ap (λ (b : Bool). b && has (get_or subs q 0) (i % 32)) (has_none q))

    or_none : union x 0 ≡ x
    or_none = ext (union x 0) x (λ j. simp membership (or-false (has x j)))

    go : (b : Bool) → when b (puts (sift 32 0 (λ q. has (get_or subs q 0) (i % 32)))) x ≡ x
    go true = ap (union x) empty ∙ or_none
    go false = refl

-- q is put in after the others
with_later : (b : Bool) (q w s : ℕ) → with_if b q (union w s) ≡ union w (with_if b q s)
with_later b q w s = ext (with_if b q (union w s)) (union w (with_if b q s)) (λ j. simp (membership, has_with_if) (or_assoc (has w j) (has s j) (b && eqb q j)))

-- a turn of `learn`
pub learning : {s left left' q : ℕ} {l₀ l l' : List ℕ} (p : ℕ) (subs : List ℕ) → Along s left (learnt p subs) l₀ l → Takes 32 left q left'
    → l' ≡ edit (λ i. when (eqb (i / 32) p && has (get_or subs q 0) (i % 32)) (puts (only q))) l → Along s left' (learnt p subs) l₀ l'
unfolding learnt when puts
learning {s} {left} {left'} {q} {l₀} {l} {l'} p subs a takes e =
    along_more a takes (e ∙ ap (edit note) a.made ∙ edit_then (learnt p subs t) note (learnt p subs (union t (only q))) l₀ step)
  where
    t : ℕ
    t = minus s left

    note : ℕ → ℕ → ℕ
    note i w = with_if (eqb (i / 32) p && has (get_or subs q 0) (i % 32)) q w

    mine : has left q ≡ true
    mine = takes_has a.below takes

    grown : (i : ℕ) → sift 32 (union t (only q)) (λ j. has (get_or subs j 0) i) ≡ with_if (has (get_or subs q 0) i) q (sift 32 t (λ j. has (get_or subs j 0) i))
    grown i =
        ap (λ (x : ℕ). sift 32 x (λ j. has (get_or subs j 0) i)) (sym (visit_step left s q a.within mine))
        ∙ sift_step 32 left s q (λ j. has (get_or subs j 0) i) takes.below a.within mine

    step : (i x : ℕ) → note i (learnt p subs t i x) ≡ learnt p subs (union t (only q)) i x
    step i x = go (eqb (i / 32) p)
      where
        go : (c : Bool) → with_if (c && has (get_or subs q 0) (i % 32)) q (when c (puts (sift 32 t (λ j. has (get_or subs j 0) (i % 32)))) x)
            ≡ when c (puts (sift 32 (union t (only q)) (λ j. has (get_or subs j 0) (i % 32)))) x
        go true =
            with_later (has (get_or subs q 0) (i % 32)) q x (sift 32 t (λ j. has (get_or subs j 0) (i % 32))) ∙ ap (union x) (sym (grown (i % 32)))
        go false = refl
