-- Soundness, record by record and rule by rule in document 01's order ("Records"). Assumes nothing.
--   "A fault belongs to the record p under test: if p lists q but q doesn't list p, p is unsound on that ground and q isn't."
-- So each rule is a test of one record p of a network; h is the number that the record's first four bytes make.
use Rattle.std.specs.Prelude.{Bool, true, false, cond, not, ◌&&◌, ◌||◌, ℕ, eqb, ltb}
use Rattle.sets.specs.Set.{meet, set_of, digit}
use Rattle.sets.specs.Any.{all}
use Rattle.sets.specs.Least.{lowest_of}
use Rattle.network.specs.declared.Peer.{Peer}
use Rattle.network.specs.declared.Network.{Network}
use Rattle.network.specs.declared.Checked.{Checked}
use Rattle.network.specs.Network.{peer, topic, pubs_of, subs_of, neighbours_of, pending_of, seen_of, known_of, present, subscribed, linked}

-- "byte 0 is 0 or 1 and bytes 1-3 are zero": the four bytes, little-endian, make 0 or 1
abbrev pub head_right : ℕ → Bool
head_right h = ltb h 2

-- "if absent, all its bytes are zero"
unfoldable pub empty_right : Network → Peer → Bool
empty_right n p =
    eqb (pubs_of n p) 0 && (eqb (subs_of n p) 0 && (eqb (neighbours_of n p) 0 && (eqb (pending_of n p) 0 && (eqb (seen_of n p) 0 && all 32 (λ (t : ℕ). eqb (known_of n p (topic t)) 0)))))

-- "p isn't its own neighbour"
unfoldable pub own_right : Network → Peer → Bool
own_right n p = not (linked n p p)

-- "each neighbour q is present"
abbrev pub near_at : Network → Peer → ℕ → Bool
near_at n p q = not (linked n p (peer q)) || present n (peer q)

unfoldable pub near_right : Network → Peer → Bool
near_right n p = all 32 (near_at n p)

-- "and lists p"
abbrev pub back_at : Network → Peer → ℕ → Bool
back_at n p q = not (linked n p (peer q)) || linked n (peer q) p

unfoldable pub back_right : Network → Peer → Bool
back_right n p = all 32 (back_at n p)

-- "for every topic t, the known subscribers are exactly the neighbours subscribed to t"
abbrev pub known_at : Network → Peer → ℕ → Bool
known_at n p t = eqb (known_of n p (topic t)) (set_of 32 (λ (q : ℕ). linked n p (peer q) && subscribed n (peer q) (topic t)))

unfoldable pub known_right : Network → Peer → Bool
known_right n p = all 32 (known_at n p)

-- "pending and seen share no message"
unfoldable pub apart_right : Network → Peer → Bool
apart_right n p = eqb (meet (pending_of n p) (seen_of n p)) 0

-- a condition and its number: where the condition holds, what comes after it decides, and else the number is answered
unfoldable pub need : Bool → ℕ → ℕ → ℕ
need true k rest = rest
need false k rest = k

-- The number of the first rule that fails, and 0 where none does (document 02, E1): "presence byte or zero bytes; absent record not
-- empty; own neighbour; neighbour absent; neighbour doesn't list back; known subscribers wrong; pending also seen", 20 to 26.
unfoldable pub absent_fault : Network → Peer → ℕ
absent_fault n p = need (empty_right n p) 21 0

unfoldable pub present_fault : Network → Peer → ℕ
present_fault n p = need (own_right n p) 22 (need (near_right n p) 23 (need (back_right n p) 24 (need (known_right n p) 25 (need (apart_right n p) 26 0))))

unfoldable pub fault_of : ℕ → Network → Peer → ℕ
fault_of h n p = need (head_right h) 20 (cond (eqb h 0) (absent_fault n p) (present_fault n p))

-- "23 to 25 also give the lowest peer or topic at fault (0 otherwise)": the detail that goes with a number
unfoldable pub lowest_wrong : (ℕ → Bool) → ℕ
lowest_wrong right = lowest_of 32 (λ (i : ℕ). not (right i))

unfoldable pub detail_of : ℕ → Network → Peer → ℕ
detail_of number n p =
    cond (eqb number 23) (lowest_wrong (near_at n p)) (cond (eqb number 24) (lowest_wrong (back_at n p)) (cond (eqb number 25) (lowest_wrong (known_at n p)) 0))

-- "A peer is present when byte 0 is 1": the first word of p's record as it is written
abbrev pub head_of : Network → Peer → ℕ
head_of n p = digit (present n p)

-- Record p has a fault, `heads i` being the first word of record i; and the "lowest unsound record", 32 where there is none.
unfoldable pub faulty : (ℕ → ℕ) → Network → ℕ → Bool
faulty heads n p = not (eqb (fault_of (heads p) n (peer p)) 0)

unfoldable pub lowest_by : (ℕ → ℕ) → Network → ℕ
lowest_by heads n = lowest_of 32 (faulty heads n)

-- The verdict on a network: "the lowest unsound record comes first, then its lowest rule"; number 0 where no record has a fault. Of the
-- working state the first words can't be wrong, so that 20 is never given.
abbrev pub checked : ℕ → ℕ → ℕ → Checked
checked number place detail = record { number = number; detail = detail; place = place }

unfoldable pub fault_as : (ℕ → ℕ) → Network → ℕ → Checked
fault_as heads n p = let k = fault_of (heads p) n (peer p) in checked k p (detail_of k n (peer p))

unfoldable pub verdict_by : (ℕ → ℕ) → Network → Checked
verdict_by heads n = cond (ltb (lowest_by heads n) 32) (fault_as heads n (lowest_by heads n)) (checked 0 0 0)

abbrev pub verdict_of : Network → Checked
verdict_of n = verdict_by (λ (p : ℕ). head_of n (peer p)) n
