-- The kind of an event. Assumes nothing.
use Rattle.std.specs.Prelude.{Bool, ℕ, eqb}
use Rattle.events.specs.declared.Event.{Event}
use Rattle.events.specs.declared.Event.TheVariants.{Skip, Produce, Forward, Subscribe, Unsubscribe, Leave, Join}
use Rattle.events.specs.declared.kind.Kind.{Kind}

-- which of the seven an event is
unfoldable pub kind_of : Event → Kind
kind_of Skip = Kind.Skip
kind_of (Produce p m) = Kind.Produce
kind_of (Forward p m) = Kind.Forward
kind_of (Subscribe p topics) = Kind.Subscribe
kind_of (Unsubscribe p topics) = Kind.Unsubscribe
kind_of (Leave p) = Kind.Leave
kind_of (Join p j) = Kind.Join

-- the paper's code for each
unfoldable pub code_of : Kind → ℕ
code_of Kind.Skip = 0
code_of Kind.Produce = 1
code_of Kind.Forward = 2
code_of Kind.Subscribe = 3
code_of Kind.Unsubscribe = 4
code_of Kind.Leave = 5
code_of Kind.Join = 6

-- the same kind
unfoldable pub alike : Kind → Kind → Bool
alike a b = eqb (code_of a) (code_of b)
