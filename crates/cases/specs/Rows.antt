-- The rows of document 01's proved table, and what each says, over what the entry points promise: a run of `relay_run` (`run_of`) from 5,120 zero bytes
-- and 256 zero bytes, then what was written, read on by `relay_drain` (`drain_end_of`), `relay_image` (`imaged_of`) or a later reading (`open_of`).
-- How to read it: `x ≡ y`: x is y; `×`: and; `→`: then. Assumes nothing.
use Rattle.std.specs.Prelude.{◌≡◌, Bool, List, [], ◌∷◌, ◌++◌, ℕ, length, replicate}
use Rattle.network.specs.Network.{peer, neighbours_of}
use Rattle.network.specs.State.{open_of}
use Rattle.events.specs.declared.Fields.{Fields}
use Rattle.events.specs.Writing.{fields_mk, put_fields}
use Rattle.engine.specs.declared.Tally.{Tally}
use Rattle.engine.specs.Run.{answered, Ending, run_of}
use Rattle.engine.specs.Draining.{drained, drain_end_of}
use Rattle.engine.specs.Imaging.{imaged_of}
use Rattle.pages.specs.FromBlank.{blank_state, blank_rows}

-- ---- events as 01 writes them

unfoldable pub join : ℕ → ℕ → ℕ → ℕ → Fields
join p subs pubs neighbours = fields_mk 6 p 0 subs pubs neighbours

unfoldable pub produce : ℕ → ℕ → Fields
produce p m = fields_mk 1 p m 0 0 0

unfoldable pub forward : ℕ → ℕ → Fields
forward p m = fields_mk 2 p m 0 0 0

unfoldable pub leave : ℕ → Fields
leave p = fields_mk 5 p 0 0 0 0

-- "H: blank network, then join 0 (pubs {0}), join 1 (subs {0}, neighbours {0}), join 2 (subs {0}, neighbours {1})."
unfoldable pub h_then : List Fields → List Fields
h_then more = join 0 0 1 0 ∷ join 1 1 0 1 ∷ join 2 1 0 2 ∷ more

-- the bytes of their records
unfoldable pub bytes : List Fields → List ℕ
bytes [] = []
bytes (f ∷ l) = put_fields (replicate 16 0) 0 f ++ bytes l

-- ---- the rows

pub data Row : Type 0 where
  answers : List Fields → ℕ → ℕ → ℕ → Row
  image_as : List Fields → List Fields → Row
  neighbours : List Fields → ℕ → ℕ → Row
  drains : List Fields → ℕ → ℕ → ℕ → Bool → Row

-- the run of a list of records from zero bytes, whatever the tally was: "All message rows zero"
abbrev pub ran : List Fields → Tally → Ending
ran l old = run_of blank_state blank_rows (bytes l) old

-- what a row says: the run's number, place and accepted count, without a detail; the same image after two lists, in a buffer of 5,120 bytes; a peer's neighbours
-- in the state after a list; the answer of the drain after a list, with a budget: done, forwards, rounds, quiet
unfoldable pub Holds : Row → Type 0
Holds (answers l number place accepted) = (old : Tally) → (ran l old).answer ≡ answered number place 0 accepted
Holds (image_as l r) = (old : Tally) (image : List ℕ) → length image ≡ 5120 → imaged_of (ran l old).state image ≡ imaged_of (ran r old).state image
Holds (neighbours l p who) = (old : Tally) → neighbours_of (open_of (ran l old).state).network (peer p) ≡ who
Holds (drains l budget forwards rounds quiet) = (old : Tally) → (drain_end_of (ran l old).state blank_rows budget).answer ≡ drained forwards rounds quiet

-- every row of a list
unfoldable pub Each : List Row → Type 0
Each [] = Unit {0}
Each (r ∷ l) = Holds r × Each l
