-- The message table read through words: each row as one number, and what the code asks of the numbers in place of specs/Rows.antt.
-- Assumes nothing.
use Rattle.std.specs.Prelude.{Bool, not, ◌&&◌, List, ℕ, ◌*◌, ◌/◌, ◌%◌, ltb, get_or}
use Rattle.sets.specs.Least.{lowest_of}
use Rattle.lists.specs.Tab.{tab}
use Rattle.endian.specs.Le.{le}
use Rattle.network.specs.declared.Table.{Table}
use Rattle.network.specs.Network.{table}

-- the four bytes of row r as a number, the lowest first
unfoldable pub row_word : List ℕ → ℕ → ℕ
row_word b r = le 4 b (4 * r)

-- what is asked of that number: bytes 2 and 3 are zero and byte 1 is below 32 where it is below 32 * 256
unfoldable pub word_right : ℕ → Bool
word_right w = ltb w 8192 && ltb (w % 256) 32

-- the lowest row whose number is not right, and the table that the numbers say
unfoldable pub bad_word : List ℕ → ℕ
bad_word ws = lowest_of 64 (λ (r : ℕ). not (word_right (get_or ws r 0)))

unfoldable pub words_table : List ℕ → Table
words_table ws = table (tab 64 (λ (r : ℕ). get_or ws r 0 % 256)) (tab 64 (λ (r : ℕ). get_or ws r 0 / 256 % 256))
