-- THE CLIENT'S PAGE OF THE REFUSALS BEFORE ANY EVENT: demand 1 of the minutes, "Bad lengths, tables and states are refused by number", and document
-- 01's "1 to 5 are tested in that order before any event", with 02's 20 to 26 in the place of 5 (E1). Every entry point with a table begins
-- this way (`begin_of`); one without events has 0 for their length. `start_page` (specs/laws/StartPageLaws.antt) proves it for all bytes.
-- How to read it: `x ≡ y`: x is y; `×`: and, or, with a name in front, there is; `↔`: exactly if; `→`: then; `→ ⊥`: never, or not. Each line
-- below is one way to begin, with what it asks before the last arrow, and the number, the place and the detail answered behind it. Assumes nothing.
use Rattle.std.specs.Prelude.{◌≡◌, ◌↔◌, List, ℕ, ◌%◌, ◌<◌, length}
use Rattle.network.specs.Listing.{Right}
use Rattle.engine.specs.Start.{begin_of}
use Rattle.engine.specs.Alone.{check_of}

-- s, t: the state's and the table's bytes; events: the length of the events' bytes. A row of the table is `Right` where its topic and origin
-- are below 32 and its last two bytes 0. What `relay_check` answers of the state's bytes, `check_of`, is in specs/FaultPage.antt.

-- every row of the table is right; the three lengths are right
abbrev pub RowsRight : List ℕ → Type 0
RowsRight t = (r : ℕ) → r < 64 → Right t r

pub record Lengths (s t : List ℕ) (events : ℕ) : Type 0 where
  pub state : length s ≡ 5120
  pub table : length t ≡ 256
  pub records : events % 16 ≡ 0

-- the ways to begin, each with its number, its place and its detail
pub data Starts (s t : List ℕ) (events : ℕ) : ℕ → ℕ → ℕ → Type 0 where
  -- 0: nothing is refused
  all_right : Lengths s t events → RowsRight t → (check_of s).number ≡ 0 → Starts s t events 0 0 0
  -- "1 | state isn't 5,120 bytes | 0"
  state_length : (length s ≡ 5120 → ⊥) → Starts s t events 1 0 0
  -- "2 | message table isn't 256 bytes | 0"
  table_length : length s ≡ 5120 → (length t ≡ 256 → ⊥) → Starts s t events 2 0 0
  -- "3 | event bytes aren't a multiple of 16 | 0"
  events_length : length s ≡ 5120 → length t ≡ 256 → (events % 16 ≡ 0 → ⊥) → Starts s t events 3 0 0
  -- "4 | a message row has topic or origin above 31, or bytes 2-3 not zero | lowest such row"
  wrong_row : Lengths s t events → (r : ℕ) → r < 64 → (Right t r → ⊥) → ((i : ℕ) → i < r → Right t i) → Starts s t events 4 r 0
  -- 20 to 26: the state is unsound, and refused as `relay_check` refuses it
  unsound : Lengths s t events → RowsRight t → ((check_of s).number ≡ 0 → ⊥) → Starts s t events (check_of s).number (check_of s).place (check_of s).detail

-- A number, a place and a detail are answered exactly if they are those of the first test that fails.
abbrev pub StartPage : List ℕ → List ℕ → ℕ → Type 0
StartPage s t events =
    (number place detail : ℕ) → (((begin_of s t events).number ≡ number) × ((begin_of s t events).place ≡ place) × ((begin_of s t events).detail ≡ detail)) ↔ Starts s t events number place detail
