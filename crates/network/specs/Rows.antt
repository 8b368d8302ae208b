-- The message table as bytes (document 01, "Records", "Numbers returned"): 64 rows of 4 bytes, "0 topic; 1 origin; 2-3 zero".
-- A message is its row's number: "Rows with equal topic and origin are still two messages." Assumes nothing.
use Rattle.std.specs.Prelude.{Bool, cond, not, ◌&&◌, Result, List, ℕ, ◌+◌, ◌*◌, eqb, ltb, length, get_or, replicate}
use Rattle.sets.specs.Least.{lowest_of}
use Rattle.lists.specs.Tab.{tab}
use Rattle.network.specs.declared.Table.{Table}
use Rattle.network.specs.declared.Refused.{Refused}
use Rattle.network.specs.Network.{table}
use Rattle.network.specs.Refused.{checked_as}

-- byte j of row r
abbrev pub byte_in : List ℕ → ℕ → ℕ → ℕ
byte_in b r j = get_or b (4 * r + j) 0

-- not "a message row has topic or origin above 31, or bytes 2-3 not zero"
unfoldable pub row_right : List ℕ → ℕ → Bool
row_right b r = ltb (byte_in b r 0) 32 && (ltb (byte_in b r 1) 32 && (eqb (byte_in b r 2) 0 && eqb (byte_in b r 3) 0))

-- "lowest such row", 64 where there is none
unfoldable pub bad_row : List ℕ → ℕ
bad_row b = lowest_of 64 (λ (r : ℕ). not (row_right b r))

-- the table that the rows say, and the one that a refused reading answers
unfoldable pub table_of : List ℕ → Table
table_of b = table (tab 64 (λ (r : ℕ). byte_in b r 0)) (tab 64 (λ (r : ℕ). byte_in b r 1))

unfoldable pub blank_table : Table
blank_table = table (replicate 64 0) (replicate 64 0)

-- What reading a message table answers: the number, the row at fault, and the table; zeros where the number is not 0.
pub record Listed : Type 0 where
  pub number : ℕ
  pub place : ℕ
  pub table : Table

abbrev pub listed : ℕ → ℕ → Table → Listed
listed number place t = record { number = number; place = place; table = t }

-- refused by 2, then 4 with the lowest bad row
unfoldable pub list_of : List ℕ → Listed
list_of b = cond (eqb (length b) 256) (cond (ltb (bad_row b) 64) (listed 4 (bad_row b) blank_table) (listed 0 0 (table_of b))) (listed 2 0 blank_table)

-- an answer of the code, with the table that it left, in these words
abbrev pub listed_as : {A : Type 0} → Result A Refused → Table → Listed
listed_as r t = let c = checked_as r in listed c.number c.place t
