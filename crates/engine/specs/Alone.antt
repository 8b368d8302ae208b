-- The single forward, and reading and writing, as entry points (document 01, "Events", "Records"). Assumes nothing.
use Rattle.std.specs.Prelude.{cond, Result, Ok, Err, ◌&&◌, List, ℕ, eqb, ltb, length, ◌≡◌}
use Rattle.sets.specs.Set.{size}
use Rattle.network.specs.declared.Network.{Network}
use Rattle.network.specs.declared.Table.{Table}
use Rattle.network.specs.declared.Checked.{Checked}
use Rattle.network.specs.declared.Refused.{Refused}
use Rattle.network.specs.Refusal.{number_of}
use Rattle.network.specs.Network.{peer, message}
use Rattle.network.specs.Rules.{checked}
use Rattle.network.specs.State.{open_of, bytes_of}
use Rattle.floodnet.specs.Refusals.{refusal_forward}
use Rattle.floodnet.specs.Forward.{forwarded, receivers}
use Rattle.engine.specs.declared.Forwarded.{Forwarded}
use Rattle.engine.specs.Start.{begin_of}

-- an answer by its parts: "the set of peers that newly hold the message; the count becomes the size of that set" (document 02, E2)
abbrev pub forwarded_by : ℕ → ℕ → ℕ → ℕ → Forwarded
forwarded_by number place detail to = record { number = number; detail = detail; place = place; deliveries = size to; receivers = to }

-- the answer for the receivers of a forward, or for its refusal: nobody newly holds the message, "0 if refused"
abbrev pub forwarded_as : Result ℕ Refused → Forwarded
forwarded_as (Ok to) = forwarded_by 0 0 0 to
forwarded_as (Err r) = forwarded_by (number_of r.refusal) r.place r.detail 0

-- an answer, and the buffer that goes with it
pub record Forwards : Type 0 where
  pub answer : Forwarded
  pub state : List ℕ

-- refused: nobody newly holds it, "0 if refused", "buffers untouched"
abbrev pub no_forward : ℕ → ℕ → ℕ → List ℕ → Forwards
no_forward number place detail s = record { answer = forwarded_by number place detail 0; state = s }

-- past the refusals of what was read, on the network n and the table b: 7 for a number out of range, then the forward's own conditions
unfoldable pub forward_on : List ℕ → Network → Table → ℕ → ℕ → Forwards
forward_on s n b p m =
    let k = refusal_forward n (peer p) (message m) in
    cond (ltb p 32 && ltb m 64)
    (cond (eqb k 0)
    (record {
      answer = forwarded_by 0 0 0 (receivers n b (peer p) (message m));
      state = bytes_of (forwarded n b (peer p) (message m));
    })
    (no_forward k 0 0 s))
    (no_forward 7 0 0 s)

-- "Called alone on a state, table, peer and message, it refuses by 1, 2, 4," 20 to 26, "7, 8, 13 in this order, place 0 for the last
-- three, buffers untouched."
unfoldable pub forward_of : List ℕ → List ℕ → ℕ → ℕ → Forwards
forward_of s t p m =
    let g = begin_of s t 0 in
    cond (eqb g.number 0) (forward_on s g.network g.table p m) (no_forward g.number g.place g.detail s)

-- reading alone: "Reading and writing refuse by 1, then" 20 to 26, "and by nothing else"
unfoldable pub check_of : List ℕ → Checked
check_of s = checked (open_of s).number (open_of s).place (open_of s).detail

-- reading one buffer and writing another: a refused read leaves the other untouched, and so does a refused write
unfoldable pub copy_of : List ℕ → List ℕ → Checked
copy_of s to = cond (eqb (open_of s).number 0) (cond (eqb (length to) 5120) (checked 0 0 0) (checked 1 0 0)) (check_of s)

unfoldable pub copied_of : List ℕ → List ℕ → List ℕ
copied_of s to = cond (eqb (open_of s).number 0) (cond (eqb (length to) 5120) (bytes_of (open_of s).network) to) to

-- what the function answers and leaves
abbrev pub Gives : Forwarded → List ℕ → Forwards → Type 0
Gives r s f = (r ≡ f.answer) × (s ≡ f.state)
