-- What the entry points make of zero bytes: "A blank network is 5,120 zero bytes", and a table of 256 zero bytes has all rows zero. A run, a drain
-- and an image from there are those of the blank network and the blank table. Assumes nothing.
use Rattle.std.specs.Prelude.{List, ℕ, replicate}

-- the blank state and the blank table, as bytes
abbrev pub blank_state : List ℕ
blank_state = replicate 5120 0

abbrev pub blank_rows : List ℕ
blank_rows = replicate 256 0
