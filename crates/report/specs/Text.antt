-- Printed text as a list of bytes (document 01, "The run program"). Assumes nothing.
--   "Numbers are decimal without leading zeros. Single spaces; each line ends in one newline."
use Rattle.std.specs.Prelude.{cond, List, [], ◌∷◌, ◌++◌, ℕ, zero, suc, ◌+◌, ◌/◌, ◌%◌, ltb}

-- the byte of a digit: '0' is 48
abbrev pub figure : ℕ → List ℕ
figure d = (48 + d) ∷ []

-- The decimal digits of x: below 10 the one digit; from 10 on those of x / 10, then the digit x % 10.
-- The first number counts how many digits are left to write at most; specs/laws/TextLaws.antt says that any that is enough gives the same.
unfoldable pub digits : ℕ → ℕ → List ℕ
digits zero x = []
digits (suc k) x = cond (ltb x 10) (figure x) (digits k (x / 10) ++ figure (x % 10))

-- x in decimal: no number has more digits than itself and one
unfoldable pub decimal : ℕ → List ℕ
decimal x = digits (suc x) x

-- a single space, then x in decimal
unfoldable pub spaced : ℕ → List ℕ
spaced x = 32 ∷ decimal x

-- "each line ends in one newline"
abbrev pub newline : List ℕ
newline = 10 ∷ []
