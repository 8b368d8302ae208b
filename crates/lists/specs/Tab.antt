-- A list by its places, and an array that a loop fills from the front. Assumes nothing.
use Rattle.std.specs.Prelude.{◌≡◌, List, [], ◌∷◌, ℕ, zero, suc, ◌<◌, length, get_or}

-- the list f 0, f 1, .., f (n - 1)
unfoldable pub tab : ℕ → (ℕ → ℕ) → List ℕ
tab zero f = []
tab (suc n) f = f 0 ∷ tab n (λ i. f (suc i))

-- What a loop keeps that fills an array of n numbers from the front: the first k are those of f.
pub record Filled (n : ℕ) (f : ℕ → ℕ) (k : ℕ) (l : List ℕ) : Type 0 where
  pub long : length l ≡ n
  pub front : (i : ℕ) → i < k → get_or l i 0 ≡ f i
