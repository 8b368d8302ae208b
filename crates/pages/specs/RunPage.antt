-- THE CLIENT'S PAGE OF A RUN: demand 1 of the minutes, "A refused event stops the list: the state is that after the events before it", and
-- document 01's tally. `run_page` (specs/laws/RunPageLaws.antt) proves it of every outcome that satisfies what `relay_run` promises (`Ends .. (run_of ..)`).
-- How to read it: `x ≡ y`: x is y; `x ≡ true`: x holds; `×`: and, or, with a name in front, there is; `⊎`: or; `↔`: exactly if; `→`: then;
-- `→ ⊥`: never, or not. What follows a colon is what is claimed, and the line above it says it in words. Assumes nothing.
use Rattle.std.specs.Prelude.{◌≡◌, ◌↔◌, ◌⊎◌, List, ℕ, suc, ◌+◌, ◌*◌, ◌/◌, ◌≤◌, ◌<◌, length, take, Some, Ok, Err}
use Rattle.sets.specs.Set.{count, size}
use Rattle.sets.specs.Sums.{sum}
use Rattle.network.specs.declared.Network.{Network}
use Rattle.network.specs.declared.Table.{Table}
use Rattle.network.specs.Sound.{Sound}
use Rattle.network.specs.State.{open_of, opened}
use Rattle.network.specs.Rows.{list_of}
use Rattle.events.specs.declared.Event.{Event}
use Rattle.events.specs.declared.kind.Kind.{Kind}
use Rattle.events.specs.Kind.{alike}
use Rattle.floodnet.specs.Step.{refusal, effect, receivers_of}
use Rattle.transitions.specs.Page.{FloodnetPage}
use Rattle.floodnet.specs.View.{pairs}
use Rattle.engine.specs.declared.Tally.{Tally}
use Rattle.engine.specs.declared.Answer.{Answer}
use Rattle.engine.specs.Start.{begin_of}
use Rattle.engine.specs.Run.{answered, run_of}
use Rattle.engine.specs.RunCounts.{kind_at}
use Rattle.pages.specs.RunReached.{reached, turn_at}
use Rattle.network.specs.declared.refusal.Refusal.{Refusal}
use Rattle.network.specs.declared.refusal.Refusal.TheVariants.{UnknownCode, Unfit}
use Rattle.events.specs.Event.{read_at}

-- The network that a state's bytes say, and the table that a table's bytes say.
abbrev pub net_in : List ℕ → Network
net_in s = (open_of s).network

abbrev pub table_in : List ℕ → Table
table_in t = (list_of t).table

-- s, t, ev: the state's, the table's and the events' bytes that were lent; old: the tally. r: the answer; s', new: the state's bytes and
-- the tally afterwards. How many records there are: length ev / 16.

-- Refused before any event (specs/StartPage.antt says by which number exactly if what).
pub record RunRefused (s t ev : List ℕ) (old : Tally) (r : Answer) (s' : List ℕ) (new : Tally) : Type 0 where
  -- the number, the place and the detail are the refusal's, and no event was accepted
  pub number : r.number ≡ (begin_of s t (length ev)).number
  pub place : r.place ≡ (begin_of s t (length ev)).place
  pub detail : r.detail ≡ (begin_of s t (length ev)).detail
  pub accepted : r.accepted ≡ 0
  -- "all buffers, the tally included, stay untouched"
  pub state : s' ≡ s
  pub tally : new ≡ old

-- Past them. `reached ev b n i` is the network that the record at place i meets, from the network n that was read and with the table b;
-- `turn_at ev b n i` is what becomes of that record there: its number, 0 if it is accepted, and its receivers.
pub record RunDone (s t ev : List ℕ) (old : Tally) (r : Answer) (s' : List ℕ) (new : Tally) : Type 0 where
  -- the state written is accepted by every later reading, and holds a sound network
  pub reads : open_of s' ≡ opened 0 0 0 (net_in s')
  pub sound : Sound (net_in s')
  -- each event before the accepted count was accepted, in the network that the ones before it left; the state holds the last of these networks
  pub each : (i : ℕ) → i < r.accepted → (turn_at ev (table_in t) (net_in s) i).number ≡ 0
  pub state : net_in s' ≡ reached ev (table_in t) (net_in s) r.accepted
  pub within : r.accepted ≤ length ev / 16
  -- 0 is answered exactly if all were accepted; the place is then 0. The detail is of unsound states alone
  pub all : (r.number ≡ 0) ↔ (r.accepted ≡ length ev / 16)
  pub place : r.number ≡ 0 → r.place ≡ 0
  pub detail : r.detail ≡ 0
  -- any other number is that of the event at that place, in the network reached there: the run stops at it
  pub stops : (r.number ≡ 0 → ⊥)
      → (r.place ≡ r.accepted) × (r.accepted < length ev / 16) × (r.number ≡ (turn_at ev (table_in t) (net_in s) r.place).number)
  -- "the state is that after the events before it": these, run alone on the same bytes, are all accepted, with the same state and tally
  pub before : run_of s t (take (16 * r.accepted) ev) old ≡ record { answer = answered 0 0 0 r.accepted; tally = new; state = s' }
  -- the tally is of the accepted events alone: how many are produces, how many forwards, and, over all forwards, how many received it
  pub produced : new.produced ≡ count r.accepted (λ i. alike (kind_at ev i) Kind.Produce)
  pub forwards : new.forwards ≡ count r.accepted (λ i. alike (kind_at ev i) Kind.Forward)
  pub deliveries : new.deliveries ≡ sum r.accepted (λ i. size (turn_at ev (table_in t) (net_in s) i).receivers)
  -- "Pending pairs at the end = pending pairs at the start + produced + deliveries - forwards"
  pub balance : pairs (net_in s') + new.forwards ≡ pairs (net_in s) + (new.produced + new.deliveries)

-- What becomes of a record, in the network m that it meets: i is its place.
pub record TurnPage (ev : List ℕ) (b : Table) (n : Network) (i : ℕ) (m : Network) : Type 0 where
  -- bytes that are no event are refused: by 6 for an unknown code, by 7 for a number out of range or an unused byte that is not zero; by no other
  pub unknown : read_at ev i ≡ Some (Err UnknownCode) → (turn_at ev b n i).number ≡ 6
  pub unfit : read_at ev i ≡ Some (Err Unfit) → (turn_at ev b n i).number ≡ 7
  pub no_other : (refusal : Refusal) → read_at ev i ≡ Some (Err refusal) → (refusal ≡ UnknownCode) ⊎ (refusal ≡ Unfit)
  -- an event is refused by the number of the first of its conditions that fails, 0 if none does (specs/Page.antt of the crate transitions)
  pub event : (e : Event) → read_at ev i ≡ Some (Ok e) → (turn_at ev b n i).number ≡ refusal m b e
  -- an accepted event does what its kind does, and its receivers are those of its kind (of a forward, specs/Receivers.antt of transitions)
  pub does : (e : Event) → read_at ev i ≡ Some (Ok e) → refusal m b e ≡ 0 → (reached ev b n (suc i) ≡ effect m b e) × ((turn_at ev b n i).receivers ≡ receivers_of m b e)

-- b, n: the table and the network that were read; every network on the way is sound, and one of which floodnet's page speaks
pub record AlongPage (ev : List ℕ) (b : Table) (n : Network) : Type 0 where
  pub turn : (i : ℕ) → TurnPage ev b n i (reached ev b n i)
  -- "Soundness holds after every accepted event"
  pub sound : (i : ℕ) → Sound (reached ev b n i)
  -- demand 2: each of the seven events is refused there exactly when its conditions fail, and does there what its record says
  pub events : (i : ℕ) → FloodnetPage (reached ev b n i) b

pub record RunPage (s t ev : List ℕ) (old : Tally) (r : Answer) (s' : List ℕ) (new : Tally) : Type 0 where
  pub refused : ((begin_of s t (length ev)).number ≡ 0 → ⊥) → RunRefused s t ev old r s' new
  pub done : (begin_of s t (length ev)).number ≡ 0 → RunDone s t ev old r s' new
  pub along : AlongPage ev (table_in t) (net_in s)
