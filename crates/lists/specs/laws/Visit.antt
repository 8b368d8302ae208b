-- Laws of specs/Visit.antt: the visits of a set's members are an edit at exactly these places; and a loop that makes such visits, the least
-- member first. Assumes nothing.
use Rattle.std.specs.Prelude.{◌≡◌, refl, Bool, true, false, cond, ◌&&◌, List, [], ◌∷◌, ◌++◌, ℕ, zero, suc, ◌^◌, ◌<◌, ltb, get_or, set}
use Rattle.std.proofs.Common.{sym, ap, ◌∙◌, arith, lt-ltb, le-ltb, ltb-true}
use Rattle.std.proofs.Math.Bool.{and-false}
use Rattle.std.proofs.Math.Decide.{dec_lt, ℕ_discrete}
use Rattle.sets.specs.Set.{has, only, when, lowest}
use Rattle.sets.specs.Rising.{rising, members, Takes}
use Rattle.sets.proofs.laws.Bools.{bool_ext}
use Rattle.sets.proofs.laws.Bounds.{has_out, minus_lt}
use Rattle.sets.proofs.laws.Lowest.{takes_narrow}
use Rattle.sets.proofs.laws.Rising.{rising_empty, members_takes}
use Rattle.lists.specs.Edit.{edit}
use Rattle.lists.specs.Visit.{visits}
use Rattle.lists.specs.laws.Edit.{edit_none, edit_alike, edit_store}

-- Some places, then others.
visits_append : (f : ℕ → ℕ → ℕ) (a b l : List ℕ) → visits f (a ++ b) l ≡ visits f b (visits f a l)
unfolding visits
visits_append f [] b l = refl
visits_append f (q ∷ a) b l = visits_append f a b (set l q (f q (get_or l q 0)))

-- The visits of the members of s below k.
visits_below : (f : ℕ → ℕ → ℕ) (k s : ℕ) (l : List ℕ) → visits f (members k s) l ≡ edit (λ q x. when (ltb q k && has s q) (f q) x) l
unfolding rising visits when
visits_below f zero s l = edit_none _ l (λ i. ap (λ (b : Bool). when (b && has s i) (f i) (get_or l i 0)) (le-ltb i 0 (omega arith)))
visits_below f (suc k) s l =
    visits_append f (members k s) (cond (has s k) (k ∷ []) []) l ∙ ap (visits f (cond (has s k) (k ∷ []) [])) (visits_below f k s l) ∙ last (has s k) refl
  where
    old : ℕ → ℕ → ℕ
    old q x = when (ltb q k && has s q) (f q) x

    new : ℕ → ℕ → ℕ
    new q x = when (ltb q (suc k) && has s q) (f q) x

    other : (i : ℕ) → (i ≡ k → ⊥) → ltb i (suc k) ≡ ltb i k
    other i d = bool_ext (λ e. lt-ltb i k (omega (arith, ltb-true i (suc k) e))) (λ e. lt-ltb i (suc k) (omega (arith, ltb-true i k e)))

    here : (x : ℕ) → old k x ≡ x
    here x = ap (λ (b : Bool). when (b && has s k) (f k) x) (le-ltb k k (omega arith))

    last : (b : Bool) → has s k ≡ b → visits f (cond b (k ∷ []) []) (edit old l) ≡ edit new l
    last true e =
        edit_store old new (f k) l k
        (λ i d x. ap (λ (b : Bool). when (b && has s i) (f i) x) (other i d))
        (λ x. ap (λ (b : Bool). when (b && has s k) (f k) x) (lt-ltb k (suc k) (omega arith)) ∙ ap (λ (b : Bool). when b (f k) x) e ∙ ap (f k) (sym (here x)))
    last false e = edit_alike old new l (λ i x. same i x (ℕ_discrete i k))
      where
        same : (i x : ℕ) → Dec (i ≡ k) → old i x ≡ new i x
        same i x (yes z) = rw (z, e, and-false (ltb k k), and-false (ltb k (suc k)))
        same i x (no d) = ap (λ (b : Bool). when (b && has s i) (f i) x) (sym (other i d))

-- THE VISITS OF THE MEMBERS OF S ARE AN EDIT AT EXACTLY THESE PLACES: f q at each q in s, and nothing elsewhere.
pub visits_edit : (f : ℕ → ℕ → ℕ) (k s : ℕ) (l : List ℕ) → s < 2 ^ k → visits f (members k s) l ≡ edit (λ q x. when (has s q) (f q) x) l
visits_edit f k s l h = visits_below f k s l ∙ edit_alike _ _ l (λ q x. ap (λ (b : Bool). when b (f q) x) (within q (dec_lt q k)))
  where
    within : (q : ℕ) → Dec (q < k) → ltb q k && has s q ≡ has s q
    within q (yes b) = ap (λ (x : Bool). x && has s q) (lt-ltb q k b)
    within q (no b) = rw (has_out k s q h (omega arith), and-false (ltb q k))

-- ---- a loop that visits the members of s, the least first

-- What it keeps, with `left` for those not yet visited: their visits make of l what the visits of all of s make of l₀.
pub record Visiting (k s left : ℕ) (f : ℕ → ℕ → ℕ) (l₀ l : List ℕ) : Type 0 where
  pub below : left < 2 ^ k
  pub same : visits f (members k left) l ≡ visits f (members k s) l₀

-- before the first turn
pub visiting_none : {k s left : ℕ} {f : ℕ → ℕ → ℕ} {l : List ℕ} → s < 2 ^ k → left ≡ s → Visiting k s left f l l
visiting_none {k} {f = f} {l = l} h e = record { below = rw e h; same = ap (λ (x : ℕ). visits f (members k x) l) e }

-- a turn: q, the least of those left, is visited
pub visiting_more : {k s left left' q v : ℕ} {f : ℕ → ℕ → ℕ} {l₀ l : List ℕ} → Visiting k s left f l₀ l → Takes k left q left'
    → v ≡ f q (get_or l q 0) → Visiting k s left' f l₀ (set l q v)
unfolding visits
visiting_more {k} {left = left} {f = f} {l = l} a t ev = record {
  below = rw t.rest (minus_lt k left (only (lowest k left)) a.below);
  same = rw ev (sym (ap (λ (x : List ℕ). visits f x l) (members_takes t)) ∙ a.same);
}

-- the same, where those left, numbers below 32, stand in a word of 64 bits
pub visiting_wide : {s left left' q v : ℕ} {f : ℕ → ℕ → ℕ} {l₀ l : List ℕ} → Visiting 32 s left f l₀ l → Takes 64 left q left'
    → v ≡ f q (get_or l q 0) → Visiting 32 s left' f l₀ (set l q v)
visiting_wide a t ev = visiting_more a (takes_narrow a.below t) ev

-- after the last turn
pub visiting_done : {k s left : ℕ} {f : ℕ → ℕ → ℕ} {l₀ l : List ℕ} → Visiting k s left f l₀ l → left ≡ 0 → l ≡ visits f (members k s) l₀
unfolding visits
visiting_done {k} {f = f} {l = l} a e = sym (ap (λ (x : List ℕ). visits f x l) (ap (members k) e ∙ rising_empty (λ i. i ∷ []) k)) ∙ a.same
