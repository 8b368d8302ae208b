-- The drain by rounds as an entry point (document 01, "Drain by rounds"). Assumes nothing.
--   "Input: state, table, a budget of forwards (a 32-bit number). Refusals 1, 2, 4," 20 to 26 "as above with counts 0, not quiet,
--   buffers untouched. [..] It answers the forwards made, the rounds finished, and whether nothing is pending."
use Rattle.std.specs.Prelude.{Bool, false, cond, Result, Ok, Err, List, ℕ, eqb}
use Rattle.network.specs.declared.Refused.{Refused}
use Rattle.network.specs.Refusal.{number_of}
use Rattle.network.specs.State.{bytes_of}
use Rattle.drain.specs.declared.Drains.{Drains}
use Rattle.drain.specs.Drain.{drain_of, quiet_of}
use Rattle.engine.specs.declared.Drained.{Drained}
use Rattle.engine.specs.Start.{begin_of}

-- an answer, and the buffer that goes with it
pub record Drainage : Type 0 where
  pub answer : Drained
  pub state : List ℕ

abbrev pub drained : ℕ → ℕ → Bool → Drained
drained forwards rounds quiet = record { number = 0; detail = 0; place = 0; forwards = forwards; rounds = rounds; quiet = quiet }

-- refused: "counts 0, not quiet"
abbrev pub refused_drain : ℕ → ℕ → ℕ → Drained
refused_drain number place detail = record { number = number; detail = detail; place = place; forwards = 0; rounds = 0; quiet = false }

-- the answer for what was drained, or for a refusal
abbrev pub drained_as : Result Drains Refused → Drained
drained_as (Ok d) = drained d.forwards d.rounds d.quiet
drained_as (Err r) = refused_drain (number_of r.refusal) r.place r.detail

-- the drain of what was read, `drain_of` of the crate drain, or the refusal, "buffers untouched"; without events nothing is refused by 3
unfoldable pub drain_end_of : List ℕ → List ℕ → ℕ → Drainage
drain_end_of s t budget =
    let g = begin_of s t 0 in
    let d = drain_of g.table budget g.network in
    cond (eqb g.number 0)
    (record { answer = drained d.forwards d.rounds (quiet_of d.end); state = bytes_of d.end })
    (record { answer = refused_drain g.number g.place g.detail; state = s })
