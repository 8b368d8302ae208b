-- THE CLIENT'S PAGE OF THE VISITS (document 02, E4): "Most installations have three desks, yet a delivery walks through 32 numbers. Take the receiving set's
-- lowest member, found by the count of trailing zeros, until the set is empty." `visits_page` (specs/laws/VisitsPageLaws.antt) proves it of every outcome that
-- satisfies what `relay_forward` promises (`Gives .. (forward_of ..)`). Who is in the set says specs/ReceiversPage.antt. The code that makes these visits is
-- `give` in floodnet's src/arrays.rt, whose promise has the words of `made`.
-- How to read it: `x ≡ y`: x is y; `×`: and; `→`: then; `↔`: exactly if. `has w i`: the set w has the member i; `members 32 w`: its members as a list;
-- `In q l`: q stands in the list l; `Rising l`: each number of the list l is less than all that follow; `visits f l a`: what becomes of the array a when
-- the places of the list l are visited one after the other, and what stands at q then becomes f q of it; `puts (only m)`: the set with m. Assumes nothing.
use Rattle.std.specs.Prelude.{◌≡◌, true, ◌↔◌, List, ℕ, ◌≤◌, ◌<◌, length}
use Rattle.sets.specs.Set.{has, only, puts, size}
use Rattle.sets.specs.Rising.{members, In, Rising}
use Rattle.lists.specs.Visit.{visits}
use Rattle.network.specs.Network.{peer, message, known_of, topic_of}
use Rattle.floodnet.specs.Forward.{moved}
use Rattle.engine.specs.declared.Forwarded.{Forwarded}
use Rattle.pages.specs.RunPage.{net_in, table_in}

-- s, t: the state's and the table's bytes that were lent; p, m: the peer and the message. r: the answer; s': the state's bytes afterwards.
pub record VisitsPage (s t : List ℕ) (p m : ℕ) (r : Forwarded) (s' : List ℕ) : Type 0 where
  -- the members of the receiving set as a list: exactly these, each once, the least first; as many as are reported, and none if refused
  pub who : (q : ℕ) → In q (members 32 r.receivers) ↔ (has r.receivers q ≡ true)
  pub rising : Rising (members 32 r.receivers)
  pub many : length (members 32 r.receivers) ≡ r.deliveries
  -- accepted: m moves from pending to seen at p; then exactly these peers are visited, in this order, and each gets m pending
  pub made : r.number ≡ 0
      → (net_in s').pending ≡ visits (λ q. puts (only m)) (members 32 r.receivers) (moved (net_in s) (peer p) (message m)).pending
  -- few: to find the set p's known subscribers of m's topic are asked, who are fewer than the desks that are present; and those who get it are no more. So of
  -- three desks two are asked at most, and two are visited at most
  pub few : r.number ≡ 0 → (r.deliveries ≤ size (known_of (net_in s) (peer p) (topic_of (table_in t) (message m))))
      × (size (known_of (net_in s) (peer p) (topic_of (table_in t) (message m))) < size (net_in s).present)
