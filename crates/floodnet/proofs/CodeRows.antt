-- One row of `known`, the word of one topic after the other, and the rows of the members of a set. Assumes nothing.
use Rattle.std.specs.Prelude.{◌≡◌, refl, Bool, true, false, ◌&&◌, List, ℕ, ◌+◌, ◌*◌, ◌/◌, ◌%◌, ◌^◌, ◌<◌, eqb, ltb, get_or, set}
use Rattle.std.proofs.Common.{sym, ap, ◌∙◌, arith, eqb-true, lt-ltb, le-ltb, ltb-true}
use Rattle.std.proofs.Math.Bool.{and-true, and-false}
use Rattle.std.proofs.lemmas.Bool.{eqb-false}
use Rattle.sets.specs.Set.{has, union, minus, only, when}
use Rattle.sets.specs.Rising.{Takes}
use Rattle.sets.proofs.laws.Bools.{eqb_same, bool_ext}
use Rattle.sets.proofs.laws.Members.{has_none, has_with, has_with_other}
use Rattle.sets.proofs.laws.Lowest.{takes_has}
use Rattle.sets.proofs.laws.Visits.{visit_new}
use Rattle.lists.specs.Edit.{edit}
use Rattle.lists.specs.laws.Edit.{edit_none, edit_alike, edit_store, edit_then}
use Rattle.floodnet.proofs.CodeVisit.{Along, along_none, along_more}

-- ---- one row: h is done to the words of the topics that c picks

abbrev pub in_row : ℕ → (ℕ → Bool) → (ℕ → ℕ) → List ℕ → List ℕ
in_row r c h l = edit (λ i. when (eqb (i / 32) r && c (i % 32)) h) l

-- no topic
row_none : (r : ℕ) (c : ℕ → Bool) (h : ℕ → ℕ) (i x : ℕ) → ((t : ℕ) → c t ≡ false) → when (eqb (i / 32) r && c (i % 32)) h x ≡ x
unfolding when
row_none r c h i x e = rw (e (i % 32), and-false (eqb (i / 32) r)) refl

-- one topic more, q: d picks it and what c picks, which leaves it out
row_store : (r q : ℕ) (c d : ℕ → Bool) (h : ℕ → ℕ) (l : List ℕ) {k v : ℕ} {l' : List ℕ} → q < 32 → c q ≡ false → d q ≡ true → ((t : ℕ) → (t ≡ q → ⊥) → d t ≡ c t)
    → l' ≡ in_row r c h l → k ≡ r * 32 + q → v ≡ h (get_or l' k 0) → set l' k v ≡ in_row r d h l
unfolding when
row_store r q c d h l {k} {v} {l'} small off on others el ek ev =
    ap (set l' k) ev ∙ ap (λ (x : List ℕ). set x k (h (get_or x k 0))) el
    ∙ edit_store (λ i. when (eqb (i / 32) r && c (i % 32)) h) (λ i. when (eqb (i / 32) r && d (i % 32)) h) h l k
    (λ i z x. ap (λ (b : Bool). when b h x) (go i z (eqb (i / 32) r) refl))
    (λ x. rw (row, topic, on, off, eqb_same r) refl)
  where
    row : k / 32 ≡ r
    row = omega (arith, ek)

    topic : k % 32 ≡ q
    topic = omega (arith, ek)

    go : (i : ℕ) → (i ≡ k → ⊥) → (b : Bool) → eqb (i / 32) r ≡ b → b && d (i % 32) ≡ b && c (i % 32)
    go i z true e =
        let same : i / 32 ≡ r = eqb-true (i / 32) r e in
        others (i % 32) (λ (y : i % 32 ≡ q). z (omega arith))
    go i z false e = refl

-- ---- a row, by the members of a set of topics

abbrev pub Topical : ℕ → ℕ → ℕ → (ℕ → ℕ) → List ℕ → List ℕ → Type 0
Topical r s left h l₀ l = Along s left (λ t i. when (eqb (i / 32) r && has t (i % 32)) h) l₀ l

-- before the first turn
pub topics_none : {s left : ℕ} (r : ℕ) (h : ℕ → ℕ) (l : List ℕ) → s < 2 ^ 32 → left ≡ s → Topical r s left h l l
topics_none r h l b e = along_none _ l b e (λ i x. row_none r (has 0) h i x has_none)

-- the word of q, the least topic left
pub topics_more : {s left left' q k v : ℕ} {l₀ l : List ℕ} (r : ℕ) (h : ℕ → ℕ) → Topical r s left h l₀ l → Takes 32 left q left'
    → k ≡ r * 32 + q → v ≡ h (get_or l k 0) → Topical r s left' h l₀ (set l k v)
topics_more {s} {left} {q = q} {l₀ = l₀} r h a takes ek ev =
    along_more a takes
    (row_store r q (has t) (has (union t (only q))) h l₀ takes.below (visit_new left s q (takes_has a.below takes)) (has_with t q)
    (λ j d. has_with_other t q j (λ (y : q ≡ j). d (sym y))) a.made ek ev)
  where
    t : ℕ
    t = minus s left

-- ---- a row, word by word

-- before the first word
pub row_start : (r : ℕ) (h : ℕ → ℕ) (l : List ℕ) → l ≡ in_row r (λ t. ltb t 0) h l
row_start r h l = edit_none _ l (λ i. row_none r (λ t. ltb t 0) h i (get_or l i 0) (λ t. le-ltb t 0 (omega arith)))

-- one word more
pub row_more : (r n : ℕ) (h : ℕ → ℕ) (l₀ : List ℕ) {k v : ℕ} {l : List ℕ} → n < 32 → l ≡ in_row r (λ t. ltb t n) h l₀ → k ≡ r * 32 + n → v ≡ h (get_or l k 0)
    → set l k v ≡ in_row r (λ t. ltb t (n + 1)) h l₀
row_more r n h l₀ small =
    row_store r n (λ t. ltb t n) (λ t. ltb t (n + 1)) h l₀ small (le-ltb n n (omega arith)) (lt-ltb n (n + 1) (omega arith))
    (λ t d. bool_ext (λ e. lt-ltb t n (omega (arith, ltb-true t (n + 1) e))) (λ e. lt-ltb t (n + 1) (omega (arith, ltb-true t n e))))

-- the whole row
pub row_all : (r n : ℕ) (h : ℕ → ℕ) (l₀ : List ℕ) {l : List ℕ} → l ≡ in_row r (λ t. ltb t n) h l₀ → n ≡ 32 → l ≡ edit (λ i. when (eqb (i / 32) r) h) l₀
row_all r n h l₀ e z =
    e ∙ edit_alike _ _ l₀ (λ i x. ap (λ (b : Bool). when (eqb (i / 32) r && b) h x) (lt-ltb (i % 32) n (omega (arith, z))) ∙ ap (λ (b : Bool). when b h x) (and-true (eqb (i / 32) r)))

-- ---- the rows of the members of a set: g i is done to the word at i

abbrev pub Rowing : ℕ → ℕ → (ℕ → ℕ → ℕ) → List ℕ → List ℕ → Type 0
Rowing s left g l₀ l = Along s left (λ t i. when (has t (i / 32)) (g i)) l₀ l

-- before the first turn
pub rows_none : {s left : ℕ} (g : ℕ → ℕ → ℕ) (l : List ℕ) → s < 2 ^ 32 → left ≡ s → Rowing s left g l l
unfolding when
rows_none g l b e = along_none _ l b e (λ i x. ap (λ (y : Bool). when y (g i) x) (has_none (i / 32)))

-- the row of q, the least peer left; no row is visited twice
pub rows_more : {s left left' q : ℕ} {l₀ l l' : List ℕ} (g : ℕ → ℕ → ℕ) → Rowing s left g l₀ l → Takes 32 left q left'
    → l' ≡ edit (λ i. when (eqb (i / 32) q) (g i)) l → Rowing s left' g l₀ l'
unfolding when
rows_more {s} {left} {q = q} {l₀ = l₀} g a takes e =
    along_more a takes (e ∙ ap (edit row) a.made ∙ edit_then _ row _ l₀ (λ i x. go i x (eqb (i / 32) q) refl))
  where
    t : ℕ
    t = minus s left

    row : ℕ → ℕ → ℕ
    row i = when (eqb (i / 32) q) (g i)

    go : (i x : ℕ) (b : Bool) → eqb (i / 32) q ≡ b → when b (g i) (when (has t (i / 32)) (g i) x) ≡ when (has (union t (only q)) (i / 32)) (g i) x
    go i x true d =
        let same : i / 32 ≡ q = eqb-true (i / 32) q d in
        rw (same, visit_new left s q (takes_has a.below takes), has_with t q) refl
    go i x false d = ap (λ (y : Bool). when y (g i) x) (sym (has_with_other t q (i / 32) (λ (y : q ≡ i / 32). eqb-false (i / 32) q d (sym y))))

-- words that two tests pick are those that the second picks of those that the first does
pub both : (b c : ℕ → Bool) (h : ℕ → ℕ) (l : List ℕ) → edit (λ i. when (b i && c i) h) l ≡ edit (λ i. when (b i) (when (c i) h)) l
unfolding when
both b c h l = edit_alike _ _ l (λ i x. go (b i) (c i) x)
  where
    go : (y z : Bool) (x : ℕ) → when (y && z) h x ≡ when y (when z h) x
    go true z x = refl
    go false z x = refl
