-- A list visited at some places, one after the other: what stands at a place q when it is visited becomes f q of it. Assumes nothing.
use Rattle.std.specs.Prelude.{List, [], ◌∷◌, ℕ, get_or, set}

-- the list l after the visits of these places, the first of them first
unfoldable pub visits : (ℕ → ℕ → ℕ) → List ℕ → List ℕ → List ℕ
visits f [] l = l
visits f (q ∷ places) l = visits f places (set l q (f q (get_or l q 0)))
