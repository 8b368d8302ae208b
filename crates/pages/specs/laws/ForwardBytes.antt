-- The event bytes of a list of forwards, their records one after another: they read as these forwards, so that every list that the client's page
-- speaks of is a run (specs/ReachPage.antt). Assumes nothing.
use Rattle.std.specs.Prelude.{◌≡◌, List, [], ◌∷◌, ◌++◌, length, get_or, ℕ, zero, suc, ◌+◌, ◌*◌, ◌/◌, ◌<◌}
use Rattle.std.proofs.Common.{◌∙◌, get_or-append-add, arith}
use Rattle.std.proofs.Math.Path.{sym, ap, ap₂}
use Rattle.std.proofs.Math.ListN.{length-append, get_or-append}
use Rattle.endian.specs.Le.{le}
use Rattle.endian.specs.laws.Le.{Bytes, le_same}
use Rattle.network.specs.declared.Network.{Network}
use Rattle.network.specs.declared.Table.{Table}
use Rattle.network.specs.Network.{Rows}
use Rattle.network.specs.Sound.{Sound}
use Rattle.network.specs.laws.SoundLaws.{pending_peer, pending_message}
use Rattle.events.specs.declared.Event.TheVariants as events
use Rattle.events.specs.Event.{fields_at, decode_of, read_of, read_at}
use Rattle.events.specs.Writing.{record_of}
use Rattle.events.specs.laws.RoundTrip.{read_inside, record_length, read_record}
use Rattle.drain.specs.Reach.{Forward, by, after, Accepted}
use Rattle.drain.specs.laws.ReachWords.{accepted_pending}
use Rattle.drain.specs.laws.ReachLaws.{reach}
use Rattle.engine.specs.declared.Answer.{Answer}
use Rattle.engine.specs.declared.Tally.{Tally}
use Rattle.engine.specs.Start.{begin_of}
use Rattle.engine.specs.Run.{run_of}
use Rattle.engine.specs.laws.DrainingLaws.{begun_rows, begun_sound}
use Rattle.engine.specs.laws.ForwardAlone.{forward_fits}
use Rattle.pages.specs.ReachPage.{ForwardsAt, ForwardRecords, ForwardsLeave}
use Rattle.pages.specs.laws.ReachPageLaws.{run_accepts, run_forwards}
use Rattle.events.specs.laws.ReadingLaws.{taken_inside}

unfoldable pub records_of : List Forward → List ℕ
records_of [] = []
records_of (by p m ∷ l) = record_of (events.Forward p m) ++ records_of l

-- Their peers and messages are in range.
abbrev pub InRange : List Forward → Type 0
InRange [] = Unit {0}
InRange (by p m ∷ l) = (p.0 < 32) × (m.0 < 64) × InRange l

-- ---- a record r before other event bytes

module _ (r ev : List ℕ) (h : length r ≡ 16) where
  -- it is read first
  first_at : (i : ℕ) → i < 16 → get_or (r ++ ev) i 0 ≡ get_or r i 0
  first_at i l = get_or-append r ev 0 i (omega arith)

  first_fields : fields_at (r ++ ev) 0 ≡ fields_at r 0
  unfolding fields_at
  first_fields =
      λ i. record {
        code = first_at 0 (omega arith) i;
        peer = first_at 1 (omega arith) i;
        message = first_at 2 (omega arith) i;
        zero = first_at 3 (omega arith) i;
        subs = le_same 4 (r ++ ev) r 4 (λ j a c. first_at j (omega arith)) i;
        pubs = le_same 4 (r ++ ev) r 8 (λ j a c. first_at j (omega arith)) i;
        neighbours = le_same 4 (r ++ ev) r 12 (λ j a c. first_at j (omega arith)) i;
      }

  read_first : read_at (r ++ ev) 0 ≡ read_at r 0
  unfolding read_at
  read_first = ap read_of (read_inside (r ++ ev) 0 (omega (arith, length-append r ev)) ∙ ap decode_of first_fields ∙ sym (read_inside r 0 (omega arith)))

  -- and the others after it
  next_at : (i : ℕ) → get_or (r ++ ev) (16 + i) 0 ≡ get_or ev i 0
  next_at i = rw h at (get_or-append-add r ev i 0)

  next_le : (k i : ℕ) → le k (r ++ ev) (16 + i) ≡ le k ev i
  unfolding le
  next_le zero i = omega arith
  next_le (suc k) i =
      let e : suc (16 + i) ≡ 16 + suc i = omega arith in
      ap₂ (λ (x y : ℕ). x + 256 * y) (next_at i) (ap (le k (r ++ ev)) e ∙ next_le k (suc i))

  next_fields : (i : ℕ) → fields_at (r ++ ev) (16 + i) ≡ fields_at ev i
  unfolding fields_at
  next_fields i =
      λ j. record {
        code = next_at i j;
        peer = at 1 j;
        message = at 2 j;
        zero = at 3 j;
        subs = word 4 j;
        pubs = word 8 j;
        neighbours = word 12 j;
      }
    where
      on : (k : ℕ) → 16 + i + k ≡ 16 + (i + k)
      on k = omega arith

      at : (k : ℕ) → get_or (r ++ ev) (16 + i + k) 0 ≡ get_or ev (i + k) 0
      at k = rw (on k) (next_at (i + k))

      word : (k : ℕ) → le 4 (r ++ ev) (16 + i + k) ≡ le 4 ev (i + k)
      word k = rw (on k) (next_le 4 (i + k))

  read_next : (place : ℕ) → place < length ev / 16 → read_at (r ++ ev) (place + 1) ≡ read_at ev place
  unfolding read_at
  read_next place l =
      let e : (place + 1) * 16 ≡ 16 + place * 16 = omega arith in
      ap read_of
      (read_inside (r ++ ev) (place + 1) (omega (arith, length-append r ev)) ∙ ap (λ (k : ℕ). decode_of (fields_at (r ++ ev) k)) e
      ∙ ap decode_of (next_fields (place * 16)) ∙ sym (read_inside ev place l))

  later : (place : ℕ) (l : List Forward) → ForwardsAt ev place l → ForwardsAt (r ++ ev) (place + 1) l
  later place [] f = tt
  later place (by p m ∷ l) f = (read_next place (taken_inside ev place _ f.0) ∙ f.0, later (place + 1) l f.1)

-- ---- the records of a list

pub records_read : (l : List Forward) → InRange l → ForwardRecords (records_of l) l
unfolding records_of
records_read [] k = record { long = omega arith; each = tt }
records_read (by p m ∷ l) k =
    let r : List ℕ = record_of (events.Forward p m) in
    let x = records_read l k.2 in
    let long = record_length (events.Forward p m) in
    record {
      long = omega (arith, length-append r (records_of l), long, x.long);
      each = (
        read_first r (records_of l) long ∙ read_record (events.Forward p m) (forward_fits p.0 m.0 (omega (arith, k.0)) (omega (arith, k.1))),
        later r (records_of l) long 0 l x.each,
      );
    }

-- Accepted forwards are in range.
in_range : {b : Table} {n : Network} → Sound n → Rows b → (l : List Forward) → Accepted b n l → InRange l
unfolding after
in_range {b} {n} s rows [] a = tt
in_range {b} {n} s rows (by p m ∷ l) a =
    let e = accepted_pending n p m a.0 in
    (pending_peer s.shaped p m e, pending_message s.shaped p m e, in_range {b = b} {n = after b n (by p m ∷ [])} ((reach s rows).stays_sound (by p m ∷ []) (a.0, tt)) rows l a.1)

-- EVERY LIST OF ACCEPTED FORWARDS IS A RUN, which answers 0 and leaves what the page says.
pub records_run : (s t : List ℕ) (old : Tally) (l : List Forward) → Bytes s → (begin_of s t 0).number ≡ 0 → Accepted (begin_of s t 0).table (begin_of s t 0).network l
    → ForwardsLeave s t (begin_of s t 0).table (begin_of s t 0).network l (run_of s t (records_of l) old).state
records_run s t old l h z a =
    let r = records_read l (in_range (begun_sound s t h) (begun_rows s t) l a) in
    run_forwards s t (records_of l) old l r h (ap (λ (x : Answer). x.number) (run_accepts s t (records_of l) old l r z a))
