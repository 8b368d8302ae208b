-- What every entry point tests before it begins (document 01, "Numbers returned"; document 02, E1): 1 to 4, then 20 to 26 are tested in that
-- order before any event. An entry point without events passes 0 for their length, and is never refused by 3. Assumes nothing.
use Rattle.std.specs.Prelude.{cond, Result, Ok, Err, List, ℕ, ◌%◌, eqb, length}
use Rattle.network.specs.declared.Network.{Network}
use Rattle.network.specs.declared.Table.{Table}
use Rattle.network.specs.declared.Refused.{Refused}
use Rattle.network.specs.Refusal.{number_of}
use Rattle.network.specs.State.{blank_net, open_of}
use Rattle.network.specs.Rows.{list_of, blank_table}
use Rattle.engine.specs.declared.Begun.{Begun}

-- What an entry point begins with: zeros and what was read, or the number, place and detail of a refusal.
pub record Beginning : Type 0 where
  pub number : ℕ
  pub place : ℕ
  pub detail : ℕ
  pub network : Network
  pub table : Table

-- refused by a number at a place, with a detail: nothing was read
abbrev pub refused_at : ℕ → ℕ → ℕ → Beginning
refused_at number place detail = record { number = number; place = place; detail = detail; network = blank_net; table = blank_table }

-- both were read
abbrev pub read_both : Network → Table → Beginning
read_both n b = record { number = 0; place = 0; detail = 0; network = n; table = b }

-- the number and values of the code's answer, where what is read is lent: the network and the table that are then there are the ones read;
-- where reading is refused they are not read on
abbrev pub begun_as : {A : Type 0} → Result A Refused → Network → Table → Beginning
begun_as (Ok a) n b = read_both n b
begun_as (Err r) n b = refused_at (number_of r.refusal) r.place r.detail

-- the same where the answer has what was read
abbrev pub begun_of : Result Begun Refused → Beginning
begun_of (Ok g) = read_both g.network g.table
begun_of (Err r) = refused_at (number_of r.refusal) r.place r.detail

-- "1 state isn't 5,120 bytes; 2 message table isn't 256 bytes; 3 event bytes aren't a multiple of 16; 4 a message row has topic or
-- origin above 31, or bytes 2-3 not zero (lowest such row)"; and E1's numbers of an unsound state. The last two are what reading the table and
-- reading the state answer.
unfoldable pub begin_of : List ℕ → List ℕ → ℕ → Beginning
begin_of s t events =
    cond (eqb (length s) 5120)
    (cond (eqb (length t) 256)
    (cond (eqb (events % 16) 0)
    (cond (eqb (list_of t).number 0)
    (cond (eqb (open_of s).number 0)
    (read_both (open_of s).network (list_of t).table)
    (refused_at (open_of s).number (open_of s).place (open_of s).detail))
    (refused_at (list_of t).number (list_of t).place 0))
    (refused_at 3 0 0))
    (refused_at 2 0 0))
    (refused_at 1 0 0)
