-- Reading a message table: what the code has worked out is what `list_of` says, and what it accepts. Assumes nothing.
use Rattle.std.specs.Prelude.{◌≡◌, List, ℕ, ◌<◌}
use Rattle.network.specs.Rows.{byte_in}

-- what a right row has
pub record Right (b : List ℕ) (r : ℕ) : Type 0 where
  pub topic : byte_in b r 0 < 32
  pub origin : byte_in b r 1 < 32
  pub third : byte_in b r 2 ≡ 0
  pub fourth : byte_in b r 3 ≡ 0
