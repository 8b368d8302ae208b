-- THE CLIENT'S PAGE, ONE LINE MORE: document 01's image table says of subscribe and unsubscribe "unchanged if the topics change nothing". Here it is
-- said of the event's own topics: topics to which the peer is subscribed already, or to none of which it is. n is the network before the
-- event, o the network after it. How to read it: `x ≡ true`: x holds; `x ≡ false`: x does not; `→`: then. Assumes nothing.
use Rattle.std.specs.Prelude.{◌≡◌, true, false, ℕ}
use Rattle.sets.specs.Set.{has}
use Rattle.network.specs.declared.Peer.{Peer}
use Rattle.network.specs.declared.Topic.{Topic}
use Rattle.network.specs.declared.Network.{Network}
use Rattle.network.specs.Network.{subscribed}
use Rattle.events.specs.declared.Event.{Event}
use Rattle.events.specs.declared.Event.TheVariants.{Skip, Produce, Forward, Subscribe, Unsubscribe, Leave, Join}
use Rattle.broadcastnet.specs.Commit.{image}

-- p is subscribed to each of the topics; to none of them
abbrev pub AllHeld : Network → Peer → ℕ → Type 0
AllHeld n p topics = (t : Topic) → has topics t.0 ≡ true → subscribed n p t ≡ true

abbrev pub NoneHeld : Network → Peer → ℕ → Type 0
NoneHeld n p topics = (t : Topic) → has topics t.0 ≡ true → subscribed n p t ≡ false

unfoldable pub Unchanged : Network → Network → Event → Type 0
Unchanged n o (Subscribe p topics) = AllHeld n p topics → image o ≡ image n
Unchanged n o (Unsubscribe p topics) = NoneHeld n p topics → image o ≡ image n
Unchanged n o Skip = Unit {0}
Unchanged n o (Produce p m) = Unit {0}
Unchanged n o (Forward p m) = Unit {0}
Unchanged n o (Leave p) = Unit {0}
Unchanged n o (Join p j) = Unit {0}
