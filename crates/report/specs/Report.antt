-- What the run program prints (document 01, "The run program"). Assumes nothing.
--   "Its first line begins with the fixed bytes `FLOOD `, then number, place, accepted. For 0 and any refused event follows, for each
--   present peer rising, `PEER `, its number, and how many topics it subscribes to, messages are pending, messages seen."
use Rattle.std.specs.Prelude.{◌≡◌, Bool, cond, ◌&&◌, ◌||◌, List, [], ◌∷◌, ◌++◌, ℕ, ◌≤◌, eqb, leb, ltb, length, drop}
use Rattle.sets.specs.Set.{size}
use Rattle.sets.specs.Rising.{rising}
use Rattle.network.specs.declared.Peer.{Peer}
use Rattle.network.specs.declared.Network.{Network}
use Rattle.network.specs.Network.{peer, subs_of, pending_of, seen_of}
use Rattle.report.specs.Text.{decimal, spaced, newline}

-- "the fixed bytes `FLOOD `", and "`PEER `"
unfoldable pub flood : List ℕ
flood = 70 ∷ 76 ∷ 79 ∷ 79 ∷ 68 ∷ 32 ∷ []

unfoldable pub peer_word : List ℕ
peer_word = 80 ∷ 69 ∷ 69 ∷ 82 ∷ 32 ∷ []

-- "`FLOOD `, then number, place, accepted"
unfoldable pub first_line : ℕ → ℕ → ℕ → List ℕ
first_line number place accepted = flood ++ decimal number ++ spaced place ++ spaced accepted ++ newline

-- "`PEER `, its number" and three counts
unfoldable pub count_line : ℕ → ℕ → ℕ → ℕ → List ℕ
count_line p subs pending seen = peer_word ++ decimal p ++ spaced subs ++ spaced pending ++ spaced seen ++ newline

-- "how many topics it subscribes to, messages are pending, messages seen"
unfoldable pub peer_line : Network → Peer → List ℕ
peer_line n p = count_line p.0 (size (subs_of n p)) (size (pending_of n p)) (size (seen_of n p))

-- "for each present peer rising"
unfoldable pub peer_lines : Network → List ℕ
peer_lines n = rising (λ p. peer_line n (peer p)) 32 n.present

-- "For 0 and any refused event": a run's number that is followed by the peers. The numbers of refused events are 6 to 16.
unfoldable pub shown_for : ℕ → Bool
shown_for number = eqb number 0 || (leb 6 number && leb number 16)

-- all that is printed
unfoldable pub report_of : ℕ → ℕ → ℕ → Network → Bool → List ℕ
report_of number place accepted n shown = first_line number place accepted ++ cond shown (peer_lines n) []

-- The buffer b after a text was put there: the text, then the bytes that stood behind it. A buffer below 1,024 bytes is left as it was:
-- what is printed is never longer (proofs/ReportLaws.antt).
unfoldable pub put_in : List ℕ → List ℕ → List ℕ
put_in text b = cond (ltb (length b) 1024) b (text ++ drop (length text) b)

-- how many bytes were put
unfoldable pub count_in : List ℕ → List ℕ → ℕ
count_in text b = cond (ltb (length b) 1024) 0 (length text)

-- What `report` promises of its answer and of the buffer at entry and exit.
pub record Reported (number place accepted : ℕ) (n : Network) (shown : Bool) (entry exit : List ℕ) (answer : ℕ) : Type 0 where
  pub count : answer ≡ count_in (report_of number place accepted n shown) entry
  pub bytes : exit ≡ put_in (report_of number place accepted n shown) entry
  pub room : answer ≤ 1024
