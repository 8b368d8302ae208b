-- Laws of specs/Tab.antt. Assumes nothing.
use Rattle.std.specs.Prelude.{◌≡◌, refl, ◌⊎◌, List, ℕ, zero, suc, ◌+◌, ◌<◌, length, get_or, set}
use Rattle.std.proofs.Common.{sym, ap, ◌∙◌, inl, inr, arith, add-one, length-set, get_or-set_same, get_or-set_other, ext_get_or}
use Rattle.sets.proofs.laws.Bools.{below_suc}
use Rattle.lists.specs.Tab.{tab, Filled}

pub length_tab : (n : ℕ) (f : ℕ → ℕ) → length (tab n f) ≡ n
unfolding tab
length_tab zero f = refl
length_tab (suc n) f = ap suc (length_tab n λ i. f (suc i))

pub get_or_tab : (n : ℕ) (f : ℕ → ℕ) (i : ℕ) → i < n → get_or (tab n f) i 0 ≡ f i
unfolding tab
get_or_tab zero f i h = absurd (omega arith)
get_or_tab (suc n) f zero h = refl
get_or_tab (suc n) f (suc i) h = get_or_tab n (λ j. f (suc j)) i (omega arith)

-- a list of n numbers that has f i at each place is the table of f
pub is_tab : (n : ℕ) (f : ℕ → ℕ) (l : List ℕ) → length l ≡ n → ((i : ℕ) → i < n → get_or l i 0 ≡ f i) → l ≡ tab n f
is_tab n f l e h = ext_get_or 0 l (tab n f) (e ∙ sym (length_tab n f)) λ i b. h i (omega arith) ∙ sym (get_or_tab n f i (omega arith))

-- two tables with the same numbers are one
pub tab_same : (n : ℕ) (f g : ℕ → ℕ) → ((i : ℕ) → i < n → f i ≡ g i) → tab n f ≡ tab n g
tab_same n f g h = is_tab n g (tab n f) (length_tab n f) λ i b. get_or_tab n f i b ∙ h i b

-- a bound on every number of a table, past its end too
pub tab_below : (n : ℕ) (f : ℕ → ℕ) (b : ℕ) → 0 < b → ((i : ℕ) → i < n → f i < b) → (i : ℕ) → get_or (tab n f) i 0 < b
unfolding tab
tab_below zero f b z h i = z
tab_below (suc n) f b z h zero = h 0 (omega arith)
tab_below (suc n) f b z h (suc i) = tab_below n (λ j. f (suc j)) b z (λ j l. h (suc j) (omega arith)) i

pub filled_none : (n : ℕ) (f : ℕ → ℕ) (l : List ℕ) → length l ≡ n → Filled n f 0 l
filled_none n f l e = record { long = e; front = λ i h. absurd (omega arith) }

-- one more, stored at k
pub filled_more : {n : ℕ} {f : ℕ → ℕ} {k : ℕ} {l : List ℕ} (v : ℕ) → Filled n f k l → k < n → v ≡ f k → Filled n f (k + 1) (set l k v)
filled_more {n} {f} {k} {l} v h b e =
    record {
      long = length-set l k v ∙ h.long;
      front = λ i c. go i (below_suc i k (rw add-one at c));
    }
  where
    go : (i : ℕ) → (i < k) ⊎ (i ≡ k) → get_or (set l k v) i 0 ≡ f i
    go i (inl c) = get_or-set_other l k i v 0 (λ (z : i ≡ k). omega arith) ∙ h.front i c
    go i (inr c) =
        let s : get_or (set l k v) k 0 ≡ v = get_or-set_same l k v 0 (omega (arith, h.long)) in
        rw c (s ∙ e)

-- all of them
pub filled_all : {n : ℕ} {f : ℕ → ℕ} {l : List ℕ} → Filled n f n l → l ≡ tab n f
filled_all {n} {f} {l} h = is_tab n f l h.long h.front
