-- Laws of specs/Least.antt. Assumes nothing.
use Rattle.std.specs.Prelude.{◌≡◌, refl, ◌⊎◌, Bool, true, false, cond, not, ℕ, zero, suc, ◌+◌, ◌≤◌, ◌<◌, eqb}
use Rattle.std.proofs.Common.{sym, ◌∙◌, ap, inl, inr, arith, eq-eqb, eqb-true}
use Rattle.sets.proofs.laws.Bools.{clash, bool_ext, not_no, below_suc}
use Rattle.sets.specs.Any.{all}
use Rattle.sets.proofs.laws.Any.{all_yes, all_why}
use Rattle.sets.specs.Least.{lowest_of}

-- It is at most n.
pub lowest_of_le : (n : ℕ) (f : ℕ → Bool) → lowest_of n f ≤ n
unfolding lowest_of
lowest_of_le zero f = omega arith
lowest_of_le (suc n) f = go (f 0) (lowest_of_le n (λ (i : ℕ). f (suc i)))
  where
    go : (b : Bool) {m : ℕ} → m ≤ n → cond b 0 (suc m) ≤ suc n
    go true l = omega arith
    go false l = omega arith

-- Where it is below n, it passes.
pub lowest_of_lt_holds : (n : ℕ) (f : ℕ → Bool) → lowest_of n f < n → f (lowest_of n f) ≡ true
unfolding lowest_of
lowest_of_lt_holds zero f l = absurd (omega arith)
lowest_of_lt_holds (suc n) f l = go (f 0) refl l (lowest_of_lt_holds n (λ (i : ℕ). f (suc i)))
  where
    go : (b : Bool) {m : ℕ} → f 0 ≡ b → cond b 0 (suc m) < suc n → (m < n → f (suc m) ≡ true) → f (cond b 0 (suc m)) ≡ true
    go true e l ih = e
    go false e l ih = ih (omega arith)

-- What is below it does not.
pub lowest_of_least : (n : ℕ) (f : ℕ → Bool) (j : ℕ) → j < lowest_of n f → f j ≡ false
unfolding lowest_of
lowest_of_least zero f j l = absurd (omega arith)
lowest_of_least (suc n) f j l = go (f 0) refl j l (lowest_of_least n (λ (i : ℕ). f (suc i)))
  where
    go : (b : Bool) {m : ℕ} → f 0 ≡ b → (j : ℕ) → j < cond b 0 (suc m) → ((i : ℕ) → i < m → f (suc i) ≡ false) → f j ≡ false
    go true e j l ih = absurd (omega arith)
    go false e zero l ih = e
    go false e (suc j) l ih = ih j (omega arith)

-- It is n where none passes.
pub lowest_of_none : (n : ℕ) (f : ℕ → Bool) → ((i : ℕ) → i < n → f i ≡ false) → lowest_of n f ≡ n
lowest_of_none n f h =
    let no : lowest_of n f < n → ⊥ = λ l. clash (lowest_of_lt_holds n f l) (h (lowest_of n f) l) in
    omega (arith, lowest_of_le n f)

-- One that passes, with none below it, is the least.
pub lowest_of_is : (n : ℕ) (f : ℕ → Bool) (i : ℕ) → i < n → f i ≡ true → ((j : ℕ) → j < i → f j ≡ false) → lowest_of n f ≡ i
lowest_of_is n f i b h none =
    let below : lowest_of n f < i → ⊥ = λ l. clash (lowest_of_lt_holds n f (omega arith)) (none (lowest_of n f) l) in
    let above : i < lowest_of n f → ⊥ = λ l. clash h (lowest_of_least n f i l) in
    omega arith

-- Tests that agree below n.
pub lowest_of_same : (n : ℕ) (f g : ℕ → Bool) → ((i : ℕ) → i < n → f i ≡ g i) → lowest_of n f ≡ lowest_of n g
unfolding lowest_of
lowest_of_same zero f g h = refl
lowest_of_same (suc n) f g h = rw (h 0 (omega arith)) (ap (λ (m : ℕ). cond (g 0) 0 (suc m)) (lowest_of_same n _ _ (λ i b. h (suc i) (omega arith))))

-- ---- the first that fails a test: it is n exactly where all pass

pub lowest_of_all : (n : ℕ) (f : ℕ → Bool) → all n f ≡ true → lowest_of n (λ (i : ℕ). not (f i)) ≡ n
lowest_of_all n f h = lowest_of_none n _ λ i b. ap not (all_why n f h i b)

pub lowest_of_is_all : (n : ℕ) (f : ℕ → Bool) → eqb (lowest_of n (λ (i : ℕ). not (f i))) n ≡ all n f
lowest_of_is_all n f =
    bool_ext
    (λ h. let e = eqb-true (lowest_of n (λ (i : ℕ). not (f i))) n h in all_yes n f λ i b. not_no (f i) (lowest_of_least n (λ (j : ℕ). not (f j)) i (omega arith)))
    (λ h. eq-eqb _ n (lowest_of_all n f h))

-- ---- a loop that walks up from 0 and stops at the first that passes: it keeps q ≡ lowest_of q f

pub lowest_of_start : (f : ℕ → Bool) → 0 ≡ lowest_of 0 f
unfolding lowest_of
lowest_of_start f = refl

-- q does not pass: on to the next
pub lowest_of_on : (q : ℕ) (f : ℕ → Bool) → q ≡ lowest_of q f → f q ≡ false → q + 1 ≡ lowest_of (q + 1) f
lowest_of_on q f e h = sym (lowest_of_none (q + 1) f (λ i b. first i (below_suc i q (omega arith))))
  where
    first : (i : ℕ) → (i < q) ⊎ (i ≡ q) → f i ≡ false
    first i (inl b) = lowest_of_least q f i (omega arith)
    first i (inr d) = ap f d ∙ h

-- q passes: it is the answer
pub lowest_of_found : (n q : ℕ) (f : ℕ → Bool) → q ≡ lowest_of q f → q < n → f q ≡ true → q ≡ lowest_of n f
lowest_of_found n q f e b h = sym (lowest_of_is n f q b h (λ j l. lowest_of_least q f j (omega arith)))

-- all are asked, and none passed
pub lowest_of_end : (n q : ℕ) (f : ℕ → Bool) → q ≡ lowest_of q f → q ≡ n → q ≡ lowest_of n f
lowest_of_end n q f e h = e ∙ ap (λ (x : ℕ). lowest_of x f) h
