-- Laws of a run: its steps, where it stops, what it counts. Assumes nothing.
use Rattle.std.specs.Prelude.{List, ℕ}
use Rattle.sets.specs.Set.{size}
use Rattle.network.specs.declared.Network.{Network}
use Rattle.network.specs.declared.Table.{Table}
use Rattle.engine.specs.declared.Tally.{Tally}
use Rattle.engine.specs.Run.{tallied_of, Outcome, turn_of}
use Rattle.events.specs.Event.{read_at}

-- the outcome of the event at a place, and the tally after it
abbrev pub outcome_at : List ℕ → ℕ → Table → Network → Outcome
outcome_at ev place b n = turn_of b n (read_at ev place)

abbrev pub tally_after : Outcome → Tally → Tally
tally_after o t = tallied_of t o.turned.kind (size o.turned.receivers)
