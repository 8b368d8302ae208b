-- DEMAND 3 FOR FORWARDS OVER BYTES, however a host makes them: by one run over forward records, or by single forwards, one call after another.
-- The client's page (the crate drain's specs/Reach.antt, which opens with a legend) holds of the bytes that they leave: once nothing is pending
-- these are the drain's, for every order (`same_bytes`). specs/laws/ReachPageLaws.antt proves it of what `relay_run` and `relay_forward` promise:
-- `run_forwards`, `alone_forwards`; and that they refuse none that the page accepts: `run_accepts`, `alone_accepts`. specs/laws/ForwardBytes.antt:
-- every list of accepted forwards has such records (`records_run`). Assumes nothing.
use Rattle.std.specs.Prelude.{◌≡◌, List, [], ◌∷◌, ℕ, ◌+◌, ◌*◌, ◌≤◌, length, Some, Ok}
use Rattle.network.specs.declared.Network.{Network}
use Rattle.network.specs.declared.Table.{Table}
use Rattle.network.specs.State.{bytes_of, opened, open_of}
use Rattle.events.specs.declared.Event.TheVariants as events
use Rattle.drain.specs.Reach.{Forward, by, after, Accepted, Quiet}
use Rattle.engine.specs.Alone.{forward_of}
use Rattle.engine.specs.Draining.{drain_end_of}
use Rattle.events.specs.Event.{read_at}

-- The records from `place` on are those of the forwards l, one by one; the event bytes are those of l, and no more.
abbrev pub ForwardsAt : List ℕ → ℕ → List Forward → Type 0
ForwardsAt ev place [] = Unit {0}
ForwardsAt ev place (by p m ∷ l) = (read_at ev place ≡ Some (Ok (events.Forward p m))) × ForwardsAt ev (place + 1) l

pub record ForwardRecords (ev : List ℕ) (l : List Forward) : Type 0 where
  pub long : length ev ≡ 16 * length l
  pub each : ForwardsAt ev 0 l

-- The state's bytes after single forwards, each called on what the one before it left; none of them is refused.
unfoldable pub forwards_of : List ℕ → List ℕ → List Forward → List ℕ
forwards_of s t [] = s
forwards_of s t (by p m ∷ l) = forwards_of (forward_of s t p.0 m.0).state t l

abbrev pub AllPass : List ℕ → List ℕ → List Forward → Type 0
AllPass s t [] = Unit {0}
AllPass s t (by p m ∷ l) = ((forward_of s t p.0 m.0).answer.number ≡ 0) × AllPass (forward_of s t p.0 m.0).state t l

-- What the page says of the bytes `left` by the forwards l, over the table b and the network n that the state s and the table t say.
pub record ForwardsLeave (s t : List ℕ) (b : Table) (n : Network) (l : List Forward) (left : List ℕ) : Type 0 where
  -- each was accepted in its turn, as the page asks, and the bytes are those of the network after them, and are read as it
  pub accepted : Accepted b n l
  pub leaves : left ≡ bytes_of (after b n l)
  pub reads : open_of left ≡ opened 0 0 0 (after b n l)
  -- "The end state is the same for every order": once nothing is pending, the bytes are those of the drain with enough budget, by as many forwards
  pub at_rest : Quiet (open_of left).network → (budget : ℕ) → 2048 ≤ budget → (left ≡ (drain_end_of s t budget).state) × (length l ≡ (drain_end_of s t budget).answer.forwards)
