-- Where a word stands in the state, and loops that fill by words. Assumes nothing.
use Rattle.std.specs.Prelude.{◌≡◌, List, ℕ, ◌+◌, ◌*◌, ◌<◌, get_or}
use Rattle.lists.specs.Tab.{Filled}

-- What storing the first k words of row p does: whatever f the array is filled by, where the rows before p are there and the row is f's.
pub record RowStored (k p : ℕ) (row known known' : List ℕ) : Type 0 where
  pub fills : (f : ℕ → ℕ) → Filled 1024 f (32 * p) known → ((t : ℕ) → t < 32 → get_or row t 0 ≡ f (32 * p + t)) → Filled 1024 f (32 * p + k) known'
