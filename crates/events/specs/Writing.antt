-- The record of an event: reading's mirror (document 01, "Records"). Assumes nothing.
use Rattle.std.specs.Prelude.{ℕ, ◌+◌, ◌*◌, ◌/◌, List, cond, length, set, replicate, ltb}
use Rattle.endian.specs.Le.{put_le}
use Rattle.events.specs.declared.Fields.{Fields}
use Rattle.events.specs.declared.Event.{Event}
use Rattle.events.specs.declared.Event.TheVariants.{Skip, Produce, Forward, Subscribe, Unsubscribe, Leave, Join}

-- fields by their values; byte 3 is zero
abbrev pub fields_mk : ℕ → ℕ → ℕ → ℕ → ℕ → ℕ → Fields
fields_mk code peer message subs pubs neighbours =
    record { code = code; peer = peer; message = message; zero = 0; subs = subs; pubs = pubs; neighbours = neighbours }

-- the fields of each kind: its code, what it uses, and zero elsewhere
unfoldable pub fields_of : Event → Fields
fields_of Skip = fields_mk 0 0 0 0 0 0
fields_of (Produce p m) = fields_mk 1 p.0 m.0 0 0 0
fields_of (Forward p m) = fields_mk 2 p.0 m.0 0 0 0
fields_of (Subscribe p t) = fields_mk 3 p.0 0 t 0 0
fields_of (Unsubscribe p t) = fields_mk 4 p.0 0 t 0 0
fields_of (Leave p) = fields_mk 5 p.0 0 0 0 0
fields_of (Join p j) = fields_mk 6 p.0 0 j.subs j.pubs j.neighbours

-- the bytes with a record's first four stored from byte `at` on
unfoldable pub put_head : List ℕ → ℕ → Fields → List ℕ
put_head l at f = set (set (set (set l at f.code) (at + 1) f.peer) (at + 2) f.message) (at + 3) f.zero

-- the bytes with all the fields stored from byte `at` on
unfoldable pub put_fields : List ℕ → ℕ → Fields → List ℕ
put_fields l at f = put_le 4 (put_le 4 (put_le 4 (put_head l at f) (at + 4) f.subs) (at + 8) f.pubs) (at + 12) f.neighbours

-- the 16 bytes of an event
unfoldable pub record_of : Event → List ℕ
record_of e = put_fields (replicate 16 0) 0 (fields_of e)

-- the bytes with an event's record at a place; where it does not fit, the bytes as they were
unfoldable pub written_at : List ℕ → ℕ → Event → List ℕ
written_at l place e = cond (ltb place (length l / 16)) (put_fields l (place * 16) (fields_of e)) l
