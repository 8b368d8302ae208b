-- Document 01's example of what the run program prints, and the largest number. Assumes nothing.
use Rattle.std.specs.Prelude.{◌≡◌, refl, true, List, [], ◌∷◌, ◌++◌, ℕ, replicate}
use Rattle.std.proofs.Common.{sym, arith}
use Rattle.std.specs.Int.Count.{ones_in, ones}
use Rattle.sets.specs.Set.{has, size}
use Rattle.sets.specs.Rising.{rising}
use Rattle.network.specs.declared.Network.{Network}
use Rattle.network.specs.Network.{mk}
use Rattle.report.specs.Text.{digits, decimal, spaced}
use Rattle.report.specs.laws.TextLaws.{digits_long}
use Rattle.report.specs.Report.{flood, peer_word, first_line, count_line, peer_line, peer_lines, report_of}

-- 2 ^ 64 - 1 is printed as 18446744073709551615
largest : decimal 18446744073709551615 ≡ 49 ∷ 56 ∷ 52 ∷ 52 ∷ 54 ∷ 55 ∷ 52 ∷ 52 ∷ 48 ∷ 55 ∷ 51 ∷ 55 ∷ 48 ∷ 57 ∷ 53 ∷ 53 ∷ 49 ∷ 54 ∷ 49 ∷ 53 ∷ []
unfolding digits
largest = sym (digits_long 18446744073709551615 (omega arith))

-- the network after "H, produce 0/5, forward 0/5, forward 1/5": peers 0 to 2 are present, 1 and 2 subscribe to topic 0, message 5 is
-- pending at 2 and was seen by 0 and 1
after : Network
after =
    mk 7
    (1 ∷ replicate 31 0)
    (0 ∷ 1 ∷ 1 ∷ replicate 29 0)
    (2 ∷ 5 ∷ 2 ∷ replicate 29 0)
    (0 ∷ 0 ∷ 32 ∷ replicate 29 0)
    (32 ∷ 32 ∷ replicate 30 0)
    (2 ∷ replicate 31 0 ++ (4 ∷ replicate 31 0) ++ (2 ∷ replicate 959 0))

-- the lines FLOOD 0 0 6, PEER 0 0 0 1, PEER 1 1 0 1 and PEER 2 1 1 0
printed : List ℕ
printed =
    70 ∷ 76 ∷ 79 ∷ 79 ∷ 68 ∷ 32 ∷ 48 ∷ 32 ∷ 48 ∷ 32 ∷ 54 ∷ 10
    ∷ 80 ∷ 69 ∷ 69 ∷ 82 ∷ 32 ∷ 48 ∷ 32 ∷ 48 ∷ 32 ∷ 48 ∷ 32 ∷ 49 ∷ 10
    ∷ 80 ∷ 69 ∷ 69 ∷ 82 ∷ 32 ∷ 49 ∷ 32 ∷ 49 ∷ 32 ∷ 48 ∷ 32 ∷ 49 ∷ 10
    ∷ 80 ∷ 69 ∷ 69 ∷ 82 ∷ 32 ∷ 50 ∷ 32 ∷ 49 ∷ 32 ∷ 49 ∷ 32 ∷ 48 ∷ 10
    ∷ []

-- "For blank, a zero table, and H, produce 0/5, forward 0/5, forward 1/5"
example : report_of 0 0 6 after true ≡ printed
unfolding after printed report_of peer_lines rising peer_line count_line first_line flood peer_word spaced decimal digits size has ones ones_in
example = refl
