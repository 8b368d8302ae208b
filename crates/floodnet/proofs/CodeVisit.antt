-- A loop that visits the members of s, the least first, and edits a list on the way: once the members t are visited, the
-- list is edit (f t) of what it was. Assumes nothing.
use Rattle.std.specs.Prelude.{◌≡◌, true, List, ℕ, ◌^◌, ◌<◌, get_or}
use Rattle.std.proofs.Common.{sym, ap, ◌∙◌}
use Rattle.sets.specs.Set.{has, union, minus, only, Subset, lowest}
use Rattle.sets.proofs.laws.Bounds.{minus_lt}
use Rattle.sets.specs.Rising.{Takes}
use Rattle.sets.proofs.laws.Lowest.{takes_has}
use Rattle.sets.proofs.laws.Visits.{minus_self, minus_none, subset_self, subset_step, visit_step}
use Rattle.lists.specs.Edit.{edit}
use Rattle.lists.specs.laws.Edit.{edit_none}

-- What such a loop keeps: `left` is a part of s, and l is l₀ edited by what has been visited.
pub record Along (s left : ℕ) (f : ℕ → ℕ → ℕ → ℕ) (l₀ l : List ℕ) : Type 0 where
  pub below : left < 2 ^ 32
  pub within : Subset left s
  pub made : l ≡ edit (f (minus s left)) l₀

-- before the first turn
pub along_none : {s left : ℕ} (f : ℕ → ℕ → ℕ → ℕ) (l : List ℕ) → s < 2 ^ 32 → left ≡ s → ((i x : ℕ) → f 0 i x ≡ x) → Along s left f l l
along_none {s} f l b e h = record {
  below = rw e b;
  within = rw e (subset_self s);
  made = rw e (edit_none (f (minus s s)) l (λ i. ap (λ (v : ℕ). f v i (get_or l i 0)) (minus_self s) ∙ h i (get_or l i 0)));
}

-- q, the least of what was left, is visited
pub along_more : {s left left' q : ℕ} {f : ℕ → ℕ → ℕ → ℕ} {l₀ l l' : List ℕ} → Along s left f l₀ l → Takes 32 left q left'
    → l' ≡ edit (f (union (minus s left) (only q))) l₀ → Along s left' f l₀ l'
along_more {s} {left} {left'} {q} {f} {l₀} {l} {l'} a t e = record {
  below = rw t.rest (minus_lt 32 left (only (lowest 32 left)) a.below);
  within = rw t.rest (subset_step left s (only (lowest 32 left)) a.within);
  made = e ∙ ap (λ (v : ℕ). edit (f v) l₀) (sym (visit_step left s q a.within mine) ∙ ap (minus s) (sym gone));
}
  where
    mine : has left q ≡ true
    mine = takes_has a.below t

    gone : left' ≡ minus left (only q)
    gone = t.rest ∙ ap (λ (x : ℕ). minus left (only x)) (sym t.least)

-- after the last turn
pub along_done : {s left : ℕ} {f : ℕ → ℕ → ℕ → ℕ} {l₀ l : List ℕ} → Along s left f l₀ l → left ≡ 0 → l ≡ edit (f s) l₀
along_done {s} {left} {f} {l₀} {l} a e = a.made ∙ ap (λ (v : ℕ). edit (f v) l₀) (ap (minus s) e ∙ minus_none s)
