-- THE CLIENT'S PAGE OF THE RECEIVERS (document 02, E2): "a single forward reports only how many. It should report the set of peers that newly hold the
-- message; the count becomes the size of that set." `receivers_page` (specs/laws/ReceiversPageLaws.antt) proves it of every outcome that satisfies what
-- `relay_forward` promises (`Gives .. (forward_of ..)`); `forward_is_run` (specs/laws/ForwardRun.antt), that a run of the one event has the same receivers, and
-- their number in its tally.
-- How to read it: `x ≡ y`: x is y; `×`: and; `→`: then; `→ ⊥`: never, or not. `has w i`: the set w has the member i. Assumes nothing.
use Rattle.std.specs.Prelude.{◌≡◌, List, ℕ}
use Rattle.sets.specs.Set.{has, size, count}
use Rattle.network.specs.Network.{peer, message}
use Rattle.network.specs.Sound.{Sound}
use Rattle.transitions.specs.Receivers.{Receives}
use Rattle.engine.specs.declared.Forwarded.{Forwarded}
use Rattle.pages.specs.RunPage.{net_in, table_in}

-- s, t: the state's and the table's bytes that were lent; p, m: the peer and the message. r: the answer; s': the state's bytes afterwards.
pub record ReceiversPage (s t : List ℕ) (p m : ℕ) (r : Forwarded) (s' : List ℕ) : Type 0 where
  -- the count is the size of the set, whatever is answered: so many of the numbers 0 to 31 are in it
  pub size_of : r.deliveries ≡ size r.receivers
  pub counted : r.deliveries ≡ count 32 (has r.receivers)
  -- refused: nobody newly holds the message, and the state is as it was
  pub refused : (r.number ≡ 0 → ⊥) → (r.receivers ≡ 0) × (r.deliveries ≡ 0) × (s' ≡ s)
  -- accepted: the states before and after are sound, and who receives it is as specs/Receivers.antt of the crate transitions says, in observations of the two
  pub sound : r.number ≡ 0 → Sound (net_in s) × Sound (net_in s')
  pub accepted : r.number ≡ 0 → Receives (net_in s) (net_in s') (table_in t) (peer p) (message m) r.receivers
