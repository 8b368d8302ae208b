-- A set visited: its members one after the other, the least first. Assumes nothing.
use Rattle.std.specs.Prelude.{cond, List, [], ◌∷◌, ◌++◌, ◌⊎◌, ◌≡◌, ℕ, zero, suc, ◌<◌, Option, Some, None}
use Rattle.sets.specs.Set.{has, minus, only, lowest}

-- what f gives for each member of w below n, rising
unfoldable pub rising : {A : Type 0} → (ℕ → List A) → ℕ → ℕ → List A
rising f zero w = []
rising f (suc n) w = rising f n w ++ cond (has w n) (f n) []

-- the members of w, a set of numbers below n, as a list
abbrev pub members : ℕ → ℕ → List ℕ
members n w = rising (λ i. i ∷ []) n w

-- q stands in the list l
unfoldable pub In : ℕ → List ℕ → Type 0
In q [] = ⊥
In q (x ∷ l) = (q ≡ x) ⊎ In q l

-- each number of the list is less than all that follow; so none stands there twice
unfoldable pub Rising : List ℕ → Type 0
Rising [] = Unit {0}
Rising (x ∷ l) = ((q : ℕ) → In q l → x < q) × Rising l

-- A step through w, a set of numbers below k: q, its least member, is taken away, and w' is left.
pub record Takes (k w q w' : ℕ) : Type 0 where
  pub some : 0 < w
  pub least : q ≡ lowest k w
  pub below : q < k
  pub rest : w' ≡ minus w (only (lowest k w))

-- What is given of w: nothing, where it has no member; else its least one.
abbrev pub Gives : ℕ → ℕ → Option ℕ → ℕ → Type 0
Gives k w None w' = (w ≡ 0) × (w' ≡ 0)
Gives k w (Some q) w' = Takes k w q w'
