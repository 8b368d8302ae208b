-- A state as bytes (document 01, "Records"): 32 records of 160 bytes, read as 40 words of 4 bytes each. Assumes nothing.
--   "numbers are little-endian"; "A state is 32 peer records, 5,120 bytes"; a peer record has "0 present (0 or 1); 1-3 zero;
--   4-7 pubs; 8-11 subs; 12-15 neighbours; 16-23 pending; 24-31 seen; 32-159 known subscribers for topics 0 to 31, 4 bytes each".
-- So word 0 of a record is its head, 1 pubs, 2 subs, 3 neighbours, 4-5 pending, 6-7 seen, 8-39 known subscribers.
use Rattle.std.specs.Prelude.{◌≡◌, cond, Result, List, ℕ, zero, suc, ◌+◌, ◌*◌, ◌/◌, ◌%◌, ◌^◌, eqb, length, replicate}
use Rattle.sets.specs.Set.{set_of}
use Rattle.lists.specs.Tab.{tab}
use Rattle.endian.specs.Le.{le}
use Rattle.network.specs.declared.Peer.{Peer}
use Rattle.network.specs.declared.Network.{Network}
use Rattle.network.specs.declared.Checked.{Checked}
use Rattle.network.specs.declared.Refused.{Refused}
use Rattle.network.specs.Network.{peer, topic, mk, pubs_of, subs_of, neighbours_of, pending_of, seen_of, known_of}
use Rattle.network.specs.Rules.{fault_of, head_of, checked, verdict_by, verdict_of}
use Rattle.network.specs.Refused.{checked_as}

-- ---- reading

-- word j of the state, and word j of record p; where a number has 8 bytes, the two words from j on
unfoldable pub word : List ℕ → ℕ → ℕ
word b j = le 4 b (4 * j)

abbrev pub word_in : List ℕ → ℕ → ℕ → ℕ
word_in b p j = word b (40 * p + j)

unfoldable pub long : List ℕ → ℕ → ℕ
long b j = le 8 b (4 * j)

abbrev pub long_in : List ℕ → ℕ → ℕ → ℕ
long_in b p j = long b (40 * p + j)

-- where the known subscribers stand: topic t of peer p, at 32 * p + t in the working state, is word 8 + t of record p
abbrev pub known_in : List ℕ → ℕ → ℕ
known_in b i = word_in b (i / 32) (8 + i % 32)

-- the network that the words say: "A peer is present when byte 0 is 1."
unfoldable pub net_of : List ℕ → Network
net_of b =
    mk
    (set_of 32 (λ (p : ℕ). eqb (word_in b p 0 % 256) 1))
    (tab 32 (λ (p : ℕ). word_in b p 1))
    (tab 32 (λ (p : ℕ). word_in b p 2))
    (tab 32 (λ (p : ℕ). word_in b p 3))
    (tab 32 (λ (p : ℕ). long_in b p 4))
    (tab 32 (λ (p : ℕ). long_in b p 6))
    (tab 1024 (known_in b))

-- the fault of record p, and the verdict on all
abbrev pub fault_at : List ℕ → Peer → ℕ
fault_at b p = fault_of (word_in b p.0 0) (net_of b) p

abbrev pub verdict_at : List ℕ → Checked
verdict_at b = verdict_by (λ (p : ℕ). word_in b p 0) (net_of b)

-- "A blank network is 5,120 zero bytes."
unfoldable pub blank_net : Network
blank_net = mk 0 (replicate 32 0) (replicate 32 0) (replicate 32 0) (replicate 32 0) (replicate 32 0) (replicate 1024 0)

-- What reading a state answers: the number of document 01 ("Numbers returned") or 02 (E1), the record at fault, the detail, and the network;
-- the blank one where the number is not 0.
pub record Opened : Type 0 where
  pub number : ℕ
  pub place : ℕ
  pub detail : ℕ
  pub network : Network

abbrev pub opened : ℕ → ℕ → ℕ → Network → Opened
opened number place detail n = record { number = number; place = place; detail = detail; network = n }

-- an answer with the network that goes with it: "a refused read answers the blank state"
unfoldable pub opened_by : Checked → Network → Opened
opened_by c n = opened c.number c.place c.detail (cond (eqb c.number 0) n blank_net)

-- "Reading and writing refuse by 1, then" 20 to 26, "and by nothing else"
unfoldable pub open_of : List ℕ → Opened
open_of b = cond (eqb (length b) 5120) (opened_by (verdict_at b) (net_of b)) (opened 1 0 0 blank_net)

-- an answer of the code, with the network that it left, in these words
abbrev pub read_as : {A : Type 0} → Result A Refused → Network → Opened
read_as r n = let c = checked_as r in opened c.number c.place c.detail n

-- Opening a network: its answer, with the network n that is then there in the place of the one read; and that network, from the one that
-- was there: what the words say, refused or not, where there are 5,120 bytes.
abbrev pub opened_as : {A : Type 0} → Result A Refused → Network → Opened
opened_as r n = opened_by (checked_as r) n

unfoldable pub over_of : List ℕ → Network → Network
over_of b old = cond (eqb (length b) 5120) (net_of b) old

pub record Opens {A : Type 0} (b : List ℕ) (old : Network) (r : Result A Refused) (n : Network) : Type 0 where
  pub answer : opened_as r n ≡ open_of b
  pub arrays : n ≡ over_of b old

-- ---- writing

-- word j of p's record
unfoldable pub word_at : Network → Peer → ℕ → ℕ
word_at n p zero = head_of n p
word_at n p (suc zero) = pubs_of n p
word_at n p (suc (suc zero)) = subs_of n p
word_at n p (suc (suc (suc zero))) = neighbours_of n p
word_at n p (suc (suc (suc (suc zero)))) = pending_of n p % 2 ^ 32
word_at n p (suc (suc (suc (suc (suc zero))))) = pending_of n p / 2 ^ 32
word_at n p (suc (suc (suc (suc (suc (suc zero)))))) = seen_of n p % 2 ^ 32
word_at n p (suc (suc (suc (suc (suc (suc (suc zero))))))) = seen_of n p / 2 ^ 32
word_at n p (suc (suc (suc (suc (suc (suc (suc (suc t)))))))) = known_of n p (topic t)

-- word j of the state
unfoldable pub word_of : Network → ℕ → ℕ
word_of n j = word_at n (peer (j / 40)) (j % 40)

-- byte i of the state, and all of them
unfoldable pub byte_of : Network → ℕ → ℕ
byte_of n i = word_of n (i / 4) / 256 ^ (i % 4) % 256

unfoldable pub bytes_of : Network → List ℕ
bytes_of n = tab 5120 (byte_of n)

-- the answer, and the buffer afterwards: "a refused write leaves its buffer untouched"
unfoldable pub write_of : Network → List ℕ → Checked
write_of n b = cond (eqb (length b) 5120) (verdict_of n) (checked 1 0 0)

unfoldable pub written_of : Network → List ℕ → List ℕ
written_of n b = cond (eqb (write_of n b).number 0) (bytes_of n) b
