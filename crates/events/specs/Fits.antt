-- Events in range, and the fields whose words are. Assumes nothing.
use Rattle.std.specs.Prelude.{◌^◌, ◌<◌}
use Rattle.events.specs.declared.Event.{Event}
use Rattle.events.specs.declared.Event.TheVariants.{Skip, Produce, Forward, Subscribe, Unsubscribe, Leave, Join}

-- each peer is below 32, each message below 64, each set below 2 ^ 32
unfoldable pub EventFits : Event → Type 0
EventFits Skip = Unit {0}
EventFits (Produce p m) = (p.0 < 32) × (m.0 < 64)
EventFits (Forward p m) = (p.0 < 32) × (m.0 < 64)
EventFits (Subscribe p t) = (p.0 < 32) × (t < 2 ^ 32)
EventFits (Unsubscribe p t) = (p.0 < 32) × (t < 2 ^ 32)
EventFits (Leave p) = p.0 < 32
EventFits (Join p j) = (p.0 < 32) × (j.subs < 2 ^ 32) × (j.pubs < 2 ^ 32) × (j.neighbours < 2 ^ 32)
