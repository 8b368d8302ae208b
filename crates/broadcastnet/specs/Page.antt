-- THE CLIENT'S PAGE: demand 2 of the minutes, "Seen through the commitment map, it is one Broadcastnet step or no change, as tabled."
-- The table is document 01's ("Commitment map"). n is the network before an event, o the network after it; Broadcastnet's state and steps
-- are in specs/Broadcast.antt, the image in specs/Commit.antt. An event that fits has its numbers in range, as every event that is read; it is
-- accepted where `refusal` is 0. proofs/laws/Refines.antt proves the whole page. Assumes nothing.
-- How to read it: `x ≡ y`: x is y; `≡ true`: it holds; `×`: and, or, with a name in front, there is; `⊎`: or; `→`: then; `→ ⊥`: never.
use Rattle.std.specs.Prelude.{◌≡◌, true, false, List, [], ◌∷◌, ℕ}
use Rattle.sets.specs.Set.{has}
use Rattle.network.specs.declared.Peer.{Peer}
use Rattle.network.specs.declared.Message.{Message}
use Rattle.network.specs.declared.Network.{Network}
use Rattle.network.specs.declared.Table.{Table}
use Rattle.network.specs.Network.{subs_of, pending}
use Rattle.network.specs.Sound.{Sound}
use Rattle.events.specs.declared.Event.{Event}
use Rattle.events.specs.declared.Event.TheVariants.{Skip, Produce, Forward, Subscribe, Unsubscribe, Leave, Join}
use Rattle.events.specs.Fits.{EventFits}
use Rattle.floodnet.specs.Step.{refusal, effect}
use Rattle.broadcastnet.specs.Broadcast.{Broadcastnet, present_in, broadcast_partial, subscribe, unsubscribe, leave, join, MayBroadcastPartly, Step}
use Rattle.broadcastnet.specs.Commit.{somewhere, who_saw, image}

-- ---- the table, row by row

-- "forward, m still pending somewhere | unchanged"; "forward, m pending nowhere after | one partial broadcast of m to all who have seen it; m
-- was new in the image, and nothing else is asked: its origin may have left". The sender is one of them, so that the step changes something.
pub record ForwardRow (n o : Network) (p : Peer) (m : Message) : Type 0 where
  pub still : somewhere o m ≡ true → image o ≡ image n
  pub done : somewhere o m ≡ false → image o ≡ broadcast_partial m (who_saw o m) (image n)
  pub may : MayBroadcastPartly (image n) m (who_saw o m)
  pub sender : has (who_saw o m) p.0 ≡ true

-- "subscribe, unsubscribe, leave, join | the same step; unchanged if the topics change nothing". What the step asks holds in the image.
pub record SubscribeRow (n o : Network) (p : Peer) (topics : ℕ) : Type 0 where
  pub step : image o ≡ subscribe p topics (image n)
  pub may : present_in (image n) p ≡ true
  pub same : subs_of o p ≡ subs_of n p → image o ≡ image n

pub record UnsubscribeRow (n o : Network) (p : Peer) (topics : ℕ) : Type 0 where
  pub step : image o ≡ unsubscribe p topics (image n)
  pub may : present_in (image n) p ≡ true
  pub same : subs_of o p ≡ subs_of n p → image o ≡ image n

pub record LeaveRow (n o : Network) (p : Peer) : Type 0 where
  pub step : image o ≡ leave p (image n)
  pub may : present_in (image n) p ≡ true

pub record JoinRow (n o : Network) (p : Peer) (pubs subs : ℕ) : Type 0 where
  pub step : image o ≡ join p pubs subs (image n)
  pub may : present_in (image n) p ≡ false

-- "skip, produce | unchanged", and the rows above
unfoldable pub Row : Network → Network → Event → Type 0
Row n o Skip = image o ≡ image n
Row n o (Produce p m) = image o ≡ image n
Row n o (Forward p m) = ForwardRow n o p m
Row n o (Subscribe p topics) = SubscribeRow n o p topics
Row n o (Unsubscribe p topics) = UnsubscribeRow n o p topics
Row n o (Leave p) = LeaveRow n o p
Row n o (Join p j) = JoinRow n o p j.pubs j.subs

-- ---- lists of events

-- each event of a list is accepted where its turn comes
unfoldable pub Accepted : Network → Table → List Event → Type 0
Accepted n b [] = Unit {0}
Accepted n b (e ∷ l) = EventFits e × (refusal n b e ≡ 0) × Accepted (effect n b e) b l

-- the network after a list of events
unfoldable pub effects : Network → Table → List Event → Network
effects n b [] = n
effects n b (e ∷ l) = effects (effect n b e) b l

-- the images of the states after each event, in order
unfoldable pub images : Network → Table → List Event → List Broadcastnet
images n b [] = []
images n b (e ∷ l) = image (effect n b e) ∷ images (effect n b e) b l

-- a computation of Broadcastnet from s to u: one step leads from s to the first state of the list, one from each to the next, and the last is u
unfoldable pub Path : Table → Broadcastnet → List Broadcastnet → Broadcastnet → Type 0
Path b s [] u = u ≡ s
Path b s (v ∷ l) u = Step b s v × Path b v l u

-- ---- what is promised

-- 004's rel-wf, the relation of a Floodnet state and a Broadcastnet state: the first is sound, and the second is its image
pub record Related (n : Network) (w : Broadcastnet) : Type 0 where
  pub sound : Sound n
  pub shown : w ≡ image n

-- Of a message table whose rows were accepted, and of every sound network:
pub record Refines (b : Table) : Type 0 where
  -- Each accepted event does to the image what the table says of it.
  pub tabled : (n : Network) → Sound n → (e : Event) → EventFits e → refusal n b e ≡ 0 → Row n (effect n b e) e
  -- So it is one step of Broadcastnet; no change is Broadcastnet's own skip.
  pub one_step : (n : Network) → Sound n → (e : Event) → EventFits e → refusal n b e ≡ 0 → Step b (image n) (image (effect n b e))
  -- Over a list of events the images of the states, in order, are a computation of Broadcastnet.
  pub follows : (n : Network) → Sound n → (l : List Event) → Accepted n b l → Path b (image n) (images n b l) (image (effects n b l))
  -- 004's WFS1 and WFS3: a state is related to its image; and if n is related to w and an event leads from n to o, then a step leads from w to a
  -- state that o is related to.
  pub maps : (n : Network) → Sound n → Related n (image n)
  pub simulates : (n : Network) (w : Broadcastnet) → Related n w → (e : Event) → EventFits e → refusal n b e ≡ 0
      → (v : Broadcastnet) × Step b w v × Related (effect n b e) v
  -- Nothing is held back for good: where nothing is pending, the image shows all that was seen.
  pub at_rest : (n : Network) → ((p : Peer) (m : Message) → pending n p m ≡ false) → (image n).seen ≡ n.seen
