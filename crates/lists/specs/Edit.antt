-- A list changed place by place: what stands at i becomes f i of it. Assumes nothing.
use Rattle.std.specs.Prelude.{List, [], ◌∷◌, ℕ, suc}

-- f i put to what stands at place i, for every place
unfoldable pub edit : (ℕ → ℕ → ℕ) → List ℕ → List ℕ
edit f [] = []
edit f (x ∷ l) = f 0 x ∷ edit (λ i. f (suc i)) l
