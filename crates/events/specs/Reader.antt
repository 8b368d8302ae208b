-- The reader of the event bytes. Assumes nothing.
use Rattle.std.specs.Prelude.{◌≡◌, ℕ, ◌+◌, ◌-◌, ◌/◌, length, None, Some}
use Rattle.events.specs.declared.Reader.{Reader}
use Rattle.events.specs.Event.{Read, reading_of, reading_at}

-- the records from the reader's place on
abbrev pub records_left : Reader → ℕ
records_left r = length r.bytes.now / 16 - r.place

-- the reader afterwards: over the same bytes, at the next place where a record was there, else where it was
abbrev pub stepped : Reader → Read → Reader
stepped r (Some taken) = record { bytes = r.bytes; place = r.place + 1 }
stepped r None = r

-- The answer is what stands at the reader's place, and then the reader steps on.
pub record NextRead (old : Reader) (read : Read) (new : Reader) : Type 0 where
  pub answer : reading_of read ≡ reading_at old.bytes.now old.place
  pub reader : new ≡ stepped old read
