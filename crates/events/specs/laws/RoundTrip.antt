-- What is read is in range, what was written is read, and 16 bytes that are read are what writing gives. Assumes nothing.
use Rattle.std.specs.Prelude.{ℕ, ◌*◌, ◌/◌, ◌<◌, ◌≡◌, refl, Bool, true, false, cond, List, ltb, length, replicate, Some, Ok}
use Rattle.std.proofs.Common.{arith, sym, ap, subst, ◌∙◌, true≢false, lt-ltb}
use Rattle.events.specs.declared.Fields.{Fields}
use Rattle.events.specs.declared.Event.{Event}
use Rattle.events.specs.Event.{Reading, taken, ended, decode_of, fields_at, reading_at, read_at}
use Rattle.events.specs.laws.ReadingLaws.{reads_as, reading_taken}
use Rattle.events.specs.Writing.{fields_of, put_fields, record_of, written_at}
use Rattle.events.specs.Fits.{EventFits}
use Rattle.events.specs.laws.Fits.{WordsFit, small_fits, fits_words}
use Rattle.events.specs.laws.Decoded.{decode_fields, decode_gave}
use Rattle.endian.specs.laws.Le.{Bytes}
use Rattle.events.specs.laws.Bytes.{words_fit, length_put_fields, fields_put, put_fields_lem, same_record}

-- before the end, the record at the place decides
pub read_inside : (l : List ℕ) (place : ℕ) → place < length l / 16 → reading_at l place ≡ decode_of (fields_at l (place * 16))
unfolding reading_at
read_inside l place h = simp (lt-ltb _ _ h)

-- an event that was taken stood in a record that reads as it
read_taken : (l : List ℕ) (place : ℕ) (e : Event) → read_at l place ≡ Some (Ok e) → decode_of (fields_at l (place * 16)) ≡ taken e
unfolding reading_at
read_taken l place e k = first (ltb place (length l / 16)) (reading_taken l place e k)
  where
    first : (b : Bool) → cond b (decode_of (fields_at l (place * 16))) ended ≡ taken e → decode_of (fields_at l (place * 16)) ≡ taken e
    first true h = h
    first false h = absurd (true≢false (sym (ap (λ (r : Reading). r.found) h)))

-- An event that is read from bytes is in range.
pub read_fits : (l : List ℕ) (place : ℕ) (e : Event) → Bytes l → read_at l place ≡ Some (Ok e) → EventFits e
read_fits l place e b h =
    let g = decode_gave _ e (read_taken l place e h) in
    small_fits e g.small (subst (λ (f : Fields). WordsFit f) (sym g.fields) (words_fit l (place * 16) b))

-- What was written is read.
pub read_written : (l : List ℕ) (place : ℕ) (e : Event) → place < length l / 16 → EventFits e → read_at (written_at l place e) place ≡ Some (Ok e)
unfolding written_at
read_written l place e h f =
    let n = length_put_fields l (place * 16) (fields_of e) in
    simp (lt-ltb _ _ h)
    (reads_as _ place e
    (read_inside _ place (rw n h)
    ∙ (ap decode_of (fields_put l (place * 16) (fields_of e) (omega arith) (fits_words e f)) ∙ decode_fields e f)))

-- A record has 16 bytes.
pub record_length : (e : Event) → length (record_of e) ≡ 16
unfolding record_of
record_length e = length_put_fields (replicate 16 0) 0 (fields_of e)

-- The record of an event reads as the event.
pub read_record : (e : Event) → EventFits e → read_at (record_of e) 0 ≡ Some (Ok e)
unfolding written_at record_of
read_record e f = read_written (replicate 16 0) 0 e (omega arith) f

-- 16 bytes that read as an event are the event's record.
pub record_read : (r : List ℕ) (e : Event) → length r ≡ 16 → Bytes r → read_at r 0 ≡ Some (Ok e) → r ≡ record_of e
unfolding record_of
record_read r e n b h =
    let g = decode_gave _ e (read_taken r 0 e h) in
    sym (put_fields_lem r 0 b) ∙ (ap (put_fields r 0) (sym g.fields) ∙ same_record r (replicate 16 0) (fields_of e) n refl)
