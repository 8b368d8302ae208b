-- Who newly holds the message of a forward (document 02, E2): by links and subscriptions, and by what is pending before and after. Assumes nothing.
use Rattle.std.specs.Prelude.{◌≡◌, refl, Bool, true, false, not, ◌&&◌, ◌||◌, ◌<◌, eqb}
use Rattle.std.proofs.Common.{sym, ap, ◌∙◌}
use Rattle.std.proofs.Math.Bool.{and_assoc}
use Rattle.sets.specs.Set.{has}
use Rattle.sets.proofs.laws.Bools.{eqb_same}
use Rattle.network.specs.declared.Peer.{Peer}
use Rattle.network.specs.declared.Message.{Message}
use Rattle.network.specs.declared.Network.{Network}
use Rattle.network.specs.declared.Table.{Table}
use Rattle.network.specs.Network.{subscribed, linked, pending, saw, knows, topic_of, Shaped, Rows}
use Rattle.network.specs.Sound.{Sound}
use Rattle.network.specs.laws.SoundLaws.{pending_peer}
use Rattle.floodnet.specs.Forward.{receivers, forwarded}
use Rattle.floodnet.specs.laws.ForwardLaws.{has_receivers, receivers_pending, forwarded_pending}

-- In a sound network: the neighbours that are subscribed to m's topic, unless m is pending or seen there.
pub receivers_linked : {n : Network} → Sound n → {b : Table} → Rows b → (p : Peer) (m : Message) → pending n p m ≡ true → (q : Peer)
    → has (receivers n b p m) q.0 ≡ linked n p q && (subscribed n q (topic_of b m) && (not (pending n q m) && not (saw n q m)))
receivers_linked {n} s {b} rows p m a q =
    receivers_pending s.shaped b p m a q
    ∙ ap (λ (x : Bool). x && (not (pending n q m) && not (saw n q m))) (s.knows p (topic_of b m) q (pending_peer s.shaped p m a) (rows.topics_fit m.0))
    ∙ and_assoc (linked n p q) (subscribed n q (topic_of b m)) _

-- With k: known, e: p itself, x: pending, y: seen.
new : (k e x y : Bool) → k && (not e && (not x && not y)) ≡ (not (e && true) && (x || (not y && (true && k)))) && not x
new false true x y = refl
new false false true y = refl
new false false false true = refl
new false false false false = refl
new true true x y = refl
new true false true y = refl
new true false false true = refl
new true false false false = refl

-- Where m is pending after the forward and was not before.
pub receivers_new : {n : Network} → Shaped n → (b : Table) (p : Peer) (m : Message) → p.0 < 32 → (q : Peer)
    → has (receivers n b p m) q.0 ≡ pending (forwarded n b p m) q m && not (pending n q m)
receivers_new {n} s b p m h q =
    has_receivers s b p m h q
    ∙ new (knows n p (topic_of b m) q) (eqb q.0 p.0) (pending n q m) (saw n q m)
    ∙ sym (rw (forwarded_pending s b p m h q m, eqb_same m.0))
