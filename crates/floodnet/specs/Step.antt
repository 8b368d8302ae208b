-- One event on a network, as document 01's table has it: by what number it is refused, what it does, the network after it, and
-- what is answered. Assumes nothing.
use Rattle.std.specs.Prelude.{◌≡◌, ℕ, zero, suc, Result, Ok, Err}
use Rattle.network.specs.declared.Network.{Network}
use Rattle.network.specs.declared.Table.{Table}
use Rattle.network.specs.declared.refusal.Refusal.{Refusal}
use Rattle.network.specs.Refusal.{number}
use Rattle.events.specs.declared.Event.{Event}
use Rattle.events.specs.declared.Event.TheVariants.{Skip, Produce, Forward, Subscribe, Unsubscribe, Leave, Join}
use Rattle.events.specs.declared.kind.Kind.{Kind}
use Rattle.events.specs.Kind.{kind_of}
use Rattle.floodnet.specs.declared.Turned.{Turned}
use Rattle.floodnet.specs.Produce.{produced}
use Rattle.floodnet.specs.Forward.{forwarded, receivers}
use Rattle.floodnet.specs.Topics.{subscribed_to, unsubscribed_from}
use Rattle.floodnet.specs.Links.{left, joined}
use Rattle.floodnet.specs.Refusals.{refusal_produce, refusal_forward, refusal_topics, refusal_leave, refusal_join}

-- the number of the first condition that fails, or 0
unfoldable pub refusal : Network → Table → Event → ℕ
refusal n b Skip = 0
refusal n b (Produce p m) = refusal_produce n b p m
refusal n b (Forward p m) = refusal_forward n p m
refusal n b (Subscribe p topics) = refusal_topics n p
refusal n b (Unsubscribe p topics) = refusal_topics n p
refusal n b (Leave p) = refusal_leave n p
refusal n b (Join p j) = refusal_join n p j.neighbours

-- what an accepted event does
unfoldable pub effect : Network → Table → Event → Network
effect n b Skip = n
effect n b (Produce p m) = produced n p m
effect n b (Forward p m) = forwarded n b p m
effect n b (Subscribe p topics) = subscribed_to n p topics
effect n b (Unsubscribe p topics) = unsubscribed_from n p topics
effect n b (Leave p) = left n p
effect n b (Join p j) = joined n p j.subs j.pubs j.neighbours

-- x where nothing was refused, else n
unfoldable pub if_accepted : ℕ → Network → Network → Network
if_accepted zero x n = x
if_accepted (suc k) x n = n

-- the network after the event; a refused event changes nothing
unfoldable pub after : Network → Table → Event → Network
after n b e = if_accepted (refusal n b e) (effect n b e) n

-- to whom an accepted event delivers: only a forward has receivers
unfoldable pub receivers_of : Network → Table → Event → ℕ
receivers_of n b Skip = 0
receivers_of n b (Produce p m) = 0
receivers_of n b (Forward p m) = receivers n b p m
receivers_of n b (Subscribe p topics) = 0
receivers_of n b (Unsubscribe p topics) = 0
receivers_of n b (Leave p) = 0
receivers_of n b (Join p j) = 0

-- the answer in 01's numbers: the number, the kind of the event, and its receivers
pub record Numbered : Type 0 where
  pub number : ℕ
  pub kind : Kind
  pub receivers : ℕ

-- a refused event has no receivers
unfoldable pub turned : ℕ → Kind → ℕ → Numbered
turned zero kind to = record { number = 0; kind = kind; receivers = to }
turned (suc k) kind to = record { number = suc k; kind = kind; receivers = 0 }

unfoldable pub turned_of : Network → Table → Event → Numbered
turned_of n b e = turned (refusal n b e) (kind_of e) (receivers_of n b e)

-- what the code answers, in 01's numbers
abbrev pub received : Result ℕ Refusal → ℕ
received (Ok to) = to
received (Err refusal) = 0

abbrev pub numbered : Turned → Numbered
numbered r = record { number = number r.outcome; kind = r.kind; receivers = received r.outcome }

-- the answer to e with this outcome
abbrev pub answer_to : Event → Result ℕ Refusal → Turned
answer_to e outcome = record { kind = kind_of e; outcome = outcome }

-- the event e made n' of n and was answered by r
pub record Stepped (n n' : Network) (b : Table) (e : Event) (r : Turned) : Type 0 where
  pub state : n' ≡ after n b e
  pub answer : numbered r ≡ turned_of n b e
