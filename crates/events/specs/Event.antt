-- What stands at a place of the event bytes, in 01's numbers and values (document 01, "Records", "Events"). Assumes nothing.
--   "An event read is one of seven kinds and carries only its own fields. Fields that a kind doesn't use must be zero.
--   Codes 7 to 255 are refused."
use Rattle.std.specs.Prelude.{ℕ, ◌+◌, ◌*◌, ◌/◌, List, Bool, true, false, ◌&&◌, cond, length, get_or, ltb, eqb, Option, None, Some, Result, Ok, Err}
use Rattle.endian.specs.Le.{le}
use Rattle.network.specs.declared.refusal.Refusal.{Refusal}
use Rattle.network.specs.declared.refusal.Refusal.TheVariants.{UnknownCode, Unfit}
use Rattle.network.specs.Refusal.{number_of}
use Rattle.network.specs.Network.{peer, message}
use Rattle.events.specs.declared.Fields.{Fields}
use Rattle.events.specs.declared.Joining.{Joining}
use Rattle.events.specs.declared.Event.{Event}
use Rattle.events.specs.declared.Event.TheVariants.{Skip, Produce, Forward, Subscribe, Unsubscribe, Leave, Join}

-- What reading answers: an event or its refusal, or no record any more.
abbrev pub Read : Type 0
Read = Option (Result Event Refusal)

-- A reading in 01's numbers and values: whether a record was there, its number, and its event. A record was there, and its event
-- is taken (0) or refused by a number; or no record was there (0). Where no event is taken it is skip.
pub record Reading : Type 0 where
  pub found : Bool
  pub number : ℕ
  pub event : Event

abbrev pub taken : Event → Reading
taken e = record { found = true; number = 0; event = e }

abbrev pub refused : ℕ → Reading
refused number = record { found = true; number = number; event = Skip }

abbrev pub ended : Reading
ended = record { found = false; number = 0; event = Skip }

-- 01's number and values for each case of what reading answers: a refusal has its number (6 is an unknown code, 7 what does not
-- fit). The promises of reading are stated through this.
unfoldable pub reading_of : Read → Reading
reading_of (Some (Ok e)) = taken e
reading_of (Some (Err refusal)) = refused (number_of refusal)
reading_of None = ended

-- the case that a reading of bytes is of: it is taken, or refused by 6 or 7, or ended
unfoldable pub read_of : Reading → Read
read_of r = cond r.found (Some (cond (eqb r.number 0) (Ok r.event) (Err (cond (eqb r.number 6) UnknownCode Unfit)))) None

-- "Unused byte not zero": the words from byte 8 on are zero; all three are; message and byte 3 are.
unfoldable pub no_more : Fields → Bool
no_more f = eqb f.pubs 0 && eqb f.neighbours 0

unfoldable pub no_sets : Fields → Bool
no_sets f = eqb f.subs 0 && no_more f

unfoldable pub no_message : Fields → Bool
no_message f = eqb f.message 0 && eqb f.zero 0

-- What 7 asks of each kind: a used peer is at most 31, a used message at most 63, the rest is zero.
unfoldable pub skip_ok : Fields → Bool
skip_ok f = eqb f.peer 0 && (no_message f && no_sets f)

unfoldable pub pair_ok : Fields → Bool
pair_ok f = ltb f.peer 32 && (ltb f.message 64 && (eqb f.zero 0 && no_sets f))

unfoldable pub topics_ok : Fields → Bool
topics_ok f = ltb f.peer 32 && (no_message f && no_more f)

unfoldable pub leave_ok : Fields → Bool
leave_ok f = ltb f.peer 32 && (no_message f && no_sets f)

unfoldable pub join_ok : Fields → Bool
join_ok f = ltb f.peer 32 && no_message f

-- the event, or 7
unfoldable pub or_seven : Bool → Event → Reading
or_seven ok e = cond ok (taken e) (refused 7)

-- the three sets of a join
abbrev pub joining_of : Fields → Joining
joining_of f = record { subs = f.subs; pubs = f.pubs; neighbours = f.neighbours }

-- The code decides: seven kinds, and every other code is refused by 6, before 7 is tested.
unfoldable pub decode_of : Fields → Reading
decode_of f =
    cond (eqb f.code 0) (or_seven (skip_ok f) Skip)
    (cond (eqb f.code 1) (or_seven (pair_ok f) (Produce (peer f.peer) (message f.message)))
    (cond (eqb f.code 2) (or_seven (pair_ok f) (Forward (peer f.peer) (message f.message)))
    (cond (eqb f.code 3) (or_seven (topics_ok f) (Subscribe (peer f.peer) f.subs))
    (cond (eqb f.code 4) (or_seven (topics_ok f) (Unsubscribe (peer f.peer) f.subs))
    (cond (eqb f.code 5) (or_seven (leave_ok f) (Leave (peer f.peer)))
    (cond (eqb f.code 6) (or_seven (join_ok f) (Join (peer f.peer) (joining_of f)))
    (refused 6)))))))

-- "0 code; 1 peer; 2 message; 3 zero; 4-7 subs or topics; 8-11 pubs; 12-15 neighbours", from byte `at` on
unfoldable pub fields_at : List ℕ → ℕ → Fields
fields_at l at =
    record {
      code = get_or l at 0;
      peer = get_or l (at + 1) 0;
      message = get_or l (at + 2) 0;
      zero = get_or l (at + 3) 0;
      subs = le 4 l (at + 4);
      pubs = le 4 l (at + 8);
      neighbours = le 4 l (at + 12);
    }

-- What stands at a place, which counts records: past the last whole record, no record.
unfoldable pub reading_at : List ℕ → ℕ → Reading
reading_at l place = cond (ltb place (length l / 16)) (decode_of (fields_at l (place * 16))) ended

-- the same as a case, for definitions that go by cases
unfoldable pub read_at : List ℕ → ℕ → Read
read_at l place = read_of (reading_at l place)
