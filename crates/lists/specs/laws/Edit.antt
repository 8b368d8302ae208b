-- Laws of specs/Edit.antt. Assumes nothing.
use Rattle.std.specs.Prelude.{◌≡◌, refl, List, [], ◌∷◌, ℕ, zero, suc, ◌≤◌, ◌<◌, length, get_or, set}
use Rattle.std.proofs.Common.{sym, ap, ◌∙◌, arith, length-set, get_or-set_same, get_or-set_other, ext_get_or}
use Rattle.std.proofs.Math.Decide.{dec_lt, ℕ_discrete}
use Rattle.std.proofs.Math.ListN.{get_or-eq_default}
use Rattle.lists.specs.Edit.{edit}

pub length_edit : (f : ℕ → ℕ → ℕ) (l : List ℕ) → length (edit f l) ≡ length l
unfolding edit
length_edit f [] = refl
length_edit f (x ∷ l) = ap suc (length_edit (λ i. f (suc i)) l)

pub get_or_edit : (f : ℕ → ℕ → ℕ) (l : List ℕ) (i : ℕ) → i < length l → get_or (edit f l) i 0 ≡ f i (get_or l i 0)
unfolding edit
get_or_edit f [] i h = absurd (omega arith)
get_or_edit f (x ∷ l) zero h = refl
get_or_edit f (x ∷ l) (suc i) h = get_or_edit (λ j. f (suc j)) l i (omega arith)

pub get_or_edit_out : (f : ℕ → ℕ → ℕ) (l : List ℕ) (i : ℕ) → length l ≤ i → get_or (edit f l) i 0 ≡ 0
get_or_edit_out f l i h =
    let k : length (edit f l) ≤ i = omega (arith, length_edit f l) in
    get_or-eq_default (edit f l) 0 k

-- a list that has f i of the other's number at each place
pub is_edit : (f : ℕ → ℕ → ℕ) (l r : List ℕ) → length r ≡ length l → ((i : ℕ) → i < length l → get_or r i 0 ≡ f i (get_or l i 0)) → r ≡ edit f l
is_edit f l r e h = ext_get_or 0 r (edit f l) (e ∙ sym (length_edit f l)) λ i b. h i (omega arith) ∙ sym (get_or_edit f l i (omega arith))

-- where f changes nothing
pub edit_none : (f : ℕ → ℕ → ℕ) (l : List ℕ) → ((i : ℕ) → f i (get_or l i 0) ≡ get_or l i 0) → l ≡ edit f l
edit_none f l h = is_edit f l l refl λ i b. sym (h i)

-- where f and g do the same
pub edit_same : (f g : ℕ → ℕ → ℕ) (l : List ℕ) → ((i : ℕ) → i < length l → f i (get_or l i 0) ≡ g i (get_or l i 0)) → edit f l ≡ edit g l
edit_same f g l h = is_edit g l (edit f l) (length_edit f l) λ i b. get_or_edit f l i b ∙ h i b

-- One store more: g is f at every place but k, and at k it is v of what f gives there. Past the end both leave the list as it is.
pub edit_more : (f g : ℕ → ℕ → ℕ) (l : List ℕ) (k v : ℕ) → ((i : ℕ) → (i ≡ k → ⊥) → (x : ℕ) → g i x ≡ f i x) → v ≡ g k (get_or l k 0) → set (edit f l) k v ≡ edit g l
edit_more f g l k v same e = is_edit g l (set (edit f l) k v) (length-set (edit f l) k v ∙ length_edit f l) λ i b. go i b (ℕ_discrete i k)
  where
    go : (i : ℕ) → i < length l → Dec (i ≡ k) → get_or (set (edit f l) k v) i 0 ≡ g i (get_or l i 0)
    go i b (yes z) =
        let c : k < length (edit f l) = omega (arith, length_edit f l) in
        let s : get_or (set (edit f l) k v) k 0 ≡ v = get_or-set_same (edit f l) k v 0 c in
        rw z (s ∙ e)
    go i b (no z) = get_or-set_other (edit f l) k i v 0 z ∙ get_or_edit f l i b ∙ sym (same i z (get_or l i 0))

-- a store is an edit of one place
pub set_is_edit : (f : ℕ → ℕ → ℕ) (l : List ℕ) (k v : ℕ) → ((i : ℕ) → (i ≡ k → ⊥) → (x : ℕ) → f i x ≡ x) → v ≡ f k (get_or l k 0) → set l k v ≡ edit f l
set_is_edit f l k v same e = ap (λ (r : List ℕ). set r k v) (edit_none (λ i x. x) l λ i. refl) ∙ edit_more (λ i x. x) f l k v same e

-- an edit of an edit
pub edit_edit : (f g : ℕ → ℕ → ℕ) (l : List ℕ) → edit g (edit f l) ≡ edit (λ i x. g i (f i x)) l
unfolding edit
edit_edit f g [] = refl
edit_edit f g (x ∷ l) = ap (λ (r : List ℕ). g 0 (f 0 x) ∷ r) (edit_edit (λ i. f (suc i)) (λ i. g (suc i)) l)

-- what is edited by f, then by g, is edited by both
pub edit_then : (f g h : ℕ → ℕ → ℕ) (l : List ℕ) → ((i x : ℕ) → g i (f i x) ≡ h i x) → edit g (edit f l) ≡ edit h l
edit_then f g h l e = edit_edit f g l ∙ edit_same (λ i x. g i (f i x)) h l (λ i b. e i (get_or l i 0))

-- two edits that do the same at every place
pub edit_alike : (f g : ℕ → ℕ → ℕ) (l : List ℕ) → ((i x : ℕ) → f i x ≡ g i x) → edit f l ≡ edit g l
edit_alike f g l e = edit_same f g l (λ i b. e i (get_or l i 0))

-- one store, of h of what stands at k: g is f at every other place, and h of what f gives at k
pub edit_store : (f g : ℕ → ℕ → ℕ) (h : ℕ → ℕ) (l : List ℕ) (k : ℕ) → ((i : ℕ) → (i ≡ k → ⊥) → (x : ℕ) → g i x ≡ f i x) → ((x : ℕ) → g k x ≡ h (f k x))
    → set (edit f l) k (h (get_or (edit f l) k 0)) ≡ edit g l
edit_store f g h l k same e = is_edit g l r (length-set (edit f l) k v ∙ length_edit f l) λ i b. go i b (ℕ_discrete i k)
  where
    v : ℕ
    v = h (get_or (edit f l) k 0)

    r : List ℕ
    r = set (edit f l) k v

    go : (i : ℕ) → i < length l → Dec (i ≡ k) → get_or r i 0 ≡ g i (get_or l i 0)
    go i b (yes z) =
        let c : k < length (edit f l) = omega (arith, length_edit f l) in
        let s : get_or r k 0 ≡ v = get_or-set_same (edit f l) k v 0 c in
        let d : k < length l = omega arith in
        let t : v ≡ h (f k (get_or l k 0)) = ap h (get_or_edit f l k d) in
        rw z (s ∙ t ∙ sym (e (get_or l k 0)))
    go i b (no z) = get_or-set_other (edit f l) k i v 0 z ∙ get_or_edit f l i b ∙ sym (same i z (get_or l i 0))

-- a bound on every number, past the end too
pub edit_below : (f : ℕ → ℕ → ℕ) (l : List ℕ) (b : ℕ) → 0 < b → ((i : ℕ) → i < length l → f i (get_or l i 0) < b) → (i : ℕ) → get_or (edit f l) i 0 < b
edit_below f l b z h i = go (dec_lt i (length l))
  where
    go : Dec (i < length l) → get_or (edit f l) i 0 < b
    go (yes c) = rw (get_or_edit f l i c) (h i c)
    go (no c) = rw (get_or_edit_out f l i (omega arith)) z
