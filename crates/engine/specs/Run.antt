-- A run over a list of events (document 01, "Numbers returned"). Assumes nothing.
--   "Then events from place 0, each tested 6, 7, then its conditions. At the first refusal the run stops; the state buffer
--   holds the state after the accepted events."
--   "The host lends a tally record that the engine updates event by event: produced, forwards, deliveries, 64 bits each. It
--   starts from zero in each run that gets past" the refusals before any event.
use Rattle.std.specs.Prelude.{◌≡◌, cond, Some, None, Ok, Err, List, ℕ, zero, suc, ◌+◌, ◌/◌, ◌^◌, ◌<◌, eqb, length}
use Rattle.sets.specs.Set.{size}
use Rattle.network.specs.declared.Network.{Network}
use Rattle.network.specs.declared.Table.{Table}
use Rattle.network.specs.State.{bytes_of}
use Rattle.network.specs.Refusal.{number_of}
use Rattle.events.specs.declared.kind.Kind.{Kind}
use Rattle.events.specs.declared.kind.Kind.TheVariants.{Skip, Produce, Forward, Subscribe, Unsubscribe, Leave, Join}
use Rattle.floodnet.specs.Step.{after, turned_of, Numbered}
use Rattle.engine.specs.declared.Tally.{Tally}
use Rattle.engine.specs.declared.Answer.{Answer}
use Rattle.engine.specs.Start.{Beginning, begin_of}
use Rattle.events.specs.declared.Event.TheVariants.{Skip, Produce, Forward, Subscribe, Unsubscribe, Leave, Join}
use Rattle.events.specs.Fits.{EventFits}
use Rattle.events.specs.Event.{Read, read_at}

-- ---- the tally

abbrev pub tally : ℕ → ℕ → ℕ → Tally
tally produced forwards deliveries = record { produced = produced; forwards = forwards; deliveries = deliveries }

abbrev pub zero_tally : Tally
zero_tally = tally 0 0 0

-- there is room for one event more with d deliveries
pub record Room (t : Tally) (d : ℕ) : Type 0 where
  pub produced : t.produced + 1 < 2 ^ 64
  pub forwards : t.forwards + 1 < 2 ^ 64
  pub deliveries : t.deliveries + d < 2 ^ 64

-- "Produced and forwards are the accepted events of those kinds; deliveries is the sum of theirs." d: the deliveries of the event
unfoldable pub tallied_of : Tally → Kind → ℕ → Tally
tallied_of t Skip d = t
tallied_of t Produce d = tally (t.produced + 1) t.forwards t.deliveries
tallied_of t Forward d = tally t.produced (t.forwards + 1) (t.deliveries + d)
tallied_of t Subscribe d = t
tallied_of t Unsubscribe d = t
tallied_of t Leave d = t
tallied_of t Join d = t

-- ---- one event

pub record Outcome : Type 0 where
  pub turned : Numbered
  pub network : Network

-- there was no event: refused by a number, or the end (0); its kind is that of doing nothing
abbrev pub refused_by : ℕ → Numbered
refused_by number = record { number = number; kind = Skip; receivers = 0 }

-- what was read is done, or refused by its number, 6 or 7
unfoldable pub turn_of : Table → Network → Read → Outcome
turn_of b n (Some (Ok e)) = record { turned = turned_of n b e; network = after n b e }
turn_of b n (Some (Err refusal)) = record { turned = refused_by (number_of refusal); network = n }
turn_of b n None = record { turned = refused_by 0; network = n }

-- m and r are what becomes of n, and its answer
abbrev pub Turn : Table → Network → Read → Network → Numbered → Type 0
Turn b n read m r = (m ≡ (turn_of b n read).network) × (r ≡ (turn_of b n read).turned)

-- ---- a run

-- "The answer of a run is a number, a place and the count of accepted events"; and E1's detail, 0 where an event is refused or none.
abbrev pub answered : ℕ → ℕ → ℕ → ℕ → Answer
answered number place detail accepted = record { number = number; detail = detail; place = place; accepted = accepted }

-- how a run ends: its answer, the tally and the network
pub record Final : Type 0 where
  pub answer : Answer
  pub tally : Tally
  pub network : Network

-- the run stops at a refused event; all events are done
abbrev pub stops_at : ℕ → ℕ → Tally → Network → Final
stops_at number place t n = record { answer = answered number place 0 place; tally = t; network = n }

abbrev pub all_done : ℕ → Tally → Network → Final
all_done count t n = record { answer = answered 0 0 0 count; tally = t; network = n }

-- k events from place on; an event's deliveries are the size of the set of its receivers (document 02, E2)
unfoldable pub run_from : ℕ → List ℕ → ℕ → Table → Network → Tally → Final
run_from zero ev place b n t = all_done place t n
run_from (suc k) ev place b n t =
    let o = turn_of b n (read_at ev place) in
    cond (eqb o.turned.number 0)
    (run_from k ev (place + 1) b o.network (tallied_of t o.turned.kind (size o.turned.receivers)))
    (stops_at o.turned.number place t n)

-- every event of a list, from a network that was read
unfoldable pub run_all : List ℕ → Table → Network → Final
run_all ev b n = run_from (length ev / 16) ev 0 b n zero_tally

-- how a run over events ended: its answer, and the network then
pub record Ran : Type 0 where
  pub answer : Answer
  pub network : Network

-- the same, by its parts
abbrev pub ran : Answer → Network → Ran
ran r n = record { answer = r; network = n }

-- what a function that runs events answers and leaves
pub record RunsTo (r : Ran) (t : Tally) (f : Final) : Type 0 where
  pub answer : r.answer ≡ f.answer
  pub network : r.network ≡ f.network
  pub tally : t ≡ f.tally

-- ---- the whole: bytes in, bytes out

-- how the entry point ends: the answer, the tally and the state's bytes
pub record Ending : Type 0 where
  pub answer : Answer
  pub tally : Tally
  pub state : List ℕ

-- refused before any event: "the accepted count is 0 and all buffers, the tally included, stay untouched"
abbrev pub untouched : Beginning → Tally → List ℕ → Ending
untouched g old s = record { answer = answered g.number g.place g.detail 0; tally = old; state = s }

abbrev pub written : Final → Ending
written f = record { answer = f.answer; tally = f.tally; state = bytes_of f.network }

unfoldable pub run_of : List ℕ → List ℕ → List ℕ → Tally → Ending
run_of s t ev old =
    let g = begin_of s t (length ev) in
    cond (eqb g.number 0) (written (run_all ev g.table g.network)) (untouched g old s)

-- what an entry point that runs events answers and leaves: its answer, the state's bytes and the tally
pub record Ends (r : Answer) (s : List ℕ) (t : Tally) (e : Ending) : Type 0 where
  pub answer : r ≡ e.answer
  pub state : s ≡ e.state
  pub tally : t ≡ e.tally

-- what was read from bytes is an event in range, or none
unfoldable pub ReadFits : Read → Type 0
ReadFits (Some (Ok e)) = EventFits e
ReadFits (Some (Err refusal)) = Unit {0}
ReadFits None = Unit {0}
