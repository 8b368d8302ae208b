-- Laws of a step: "refused exactly when its conditions fail" opened up, "Soundness holds after every accepted event", and what an
-- event does to the pairs pending. Assumes nothing.
use Rattle.std.specs.Prelude.{◌≡◌, refl, true, false, not, ℕ, zero, suc, ◌+◌, eqb, set}
use Rattle.std.proofs.Common.{sym, ap, ◌∙◌, arith, eqb-true}
use Rattle.std.proofs.lemmas.List.{set-get_or}
use Rattle.sets.proofs.laws.Bools.{not_yes}
use Rattle.sets.specs.Set.{has, minus, digit, size}
use Rattle.sets.proofs.laws.Sizes.{size_none}
use Rattle.network.specs.declared.Peer.{Peer}
use Rattle.network.specs.declared.Message.{Message}
use Rattle.network.specs.declared.Network.{Network}
use Rattle.network.specs.declared.Table.{Table}
use Rattle.network.specs.Network.{present, pending, publishes, pending_of, topic_of, origin_of, Rows}
use Rattle.network.specs.Sound.{Sound}
use Rattle.events.specs.declared.Event.{Event}
use Rattle.events.specs.declared.Event.TheVariants.{Skip, Produce, Forward, Subscribe, Unsubscribe, Leave, Join}
use Rattle.events.specs.declared.kind.Kind.{Kind}
use Rattle.events.specs.Kind.{kind_of, code_of, alike}
use Rattle.events.specs.Fits.{EventFits}
use Rattle.network.specs.laws.Faults.{need_met}
use Rattle.floodnet.specs.Produce.{is_new}
use Rattle.floodnet.specs.Links.{left, link_down, cleared}
use Rattle.floodnet.specs.Topics.{subscribed_to, unsubscribed_from}
use Rattle.floodnet.specs.Refusals.{refusal_produce, refusal_forward, refusal_topics, refusal_leave, refusal_join}
use Rattle.floodnet.specs.Step.{refusal, effect, if_accepted, after, receivers_of, turned}
use Rattle.floodnet.specs.laws.ProduceLaws.{produced_sound, new_why}
use Rattle.floodnet.specs.laws.ForwardLaws.{forwarded_sound}
use Rattle.floodnet.specs.laws.TopicsLaws.{subscribed_sound, unsubscribed_sound}
use Rattle.floodnet.specs.laws.LeaveJoin.{left_sound, joined_sound, pending_joined}
use Rattle.floodnet.specs.View.{pairs}
use Rattle.floodnet.specs.laws.ViewCounts.{produced_pairs, forwarded_pairs}

-- ---- what an accepted event met

pub produce_met : (n : Network) (b : Table) (p : Peer) (m : Message) → refusal_produce n b p m ≡ 0
    → (present n p ≡ true) × ((origin_of b m).0 ≡ p.0) × (publishes n p (topic_of b m) ≡ true) × (is_new n m ≡ true)
unfolding refusal_produce
produce_met n b p m h =
    let x = need_met (present n p) 7 _ h in
    let y = need_met (eqb (origin_of b m).0 p.0) 9 _ x.1 in
    let z = need_met (publishes n p (topic_of b m)) 10 _ y.1 in
    let w = need_met (is_new n m) 11 _ z.1 in
    (x.0, eqb-true _ _ y.0, z.0, w.0)

pub forward_met : (n : Network) (p : Peer) (m : Message) → refusal_forward n p m ≡ 0 → (present n p ≡ true) × (pending n p m ≡ true)
unfolding refusal_forward
forward_met n p m h =
    let x = need_met (present n p) 7 _ h in
    (x.0, (need_met (pending n p m) 12 _ x.1).0)

pub topics_met : (n : Network) (p : Peer) → refusal_topics n p ≡ 0 → present n p ≡ true
unfolding refusal_topics
topics_met n p h = (need_met (present n p) 7 _ h).0

pub leave_met : (n : Network) (p : Peer) → refusal_leave n p ≡ 0 → (present n p ≡ true) × (pending_of n p ≡ 0)
unfolding refusal_leave
leave_met n p h =
    let x = need_met (present n p) 7 _ h in
    (x.0, eqb-true _ _ (need_met (eqb (pending_of n p) 0) 13 _ x.1).0)

pub join_met : (n : Network) (p : Peer) (who : ℕ) → refusal_join n p who ≡ 0 → (present n p ≡ false) × (has who p.0 ≡ false) × (minus who n.present ≡ 0)
unfolding refusal_join
join_met n p who h =
    let x = need_met (not (present n p)) 8 _ h in
    let y = need_met (not (has who p.0)) 14 _ x.1 in
    let z = need_met (eqb (minus who n.present) 0) 15 _ y.1 in
    (not_yes (present n p) x.0, not_yes (has who p.0) y.0, eqb-true _ _ z.0)

-- ---- "Soundness holds after every accepted event."

pub effect_sound : {n : Network} {b : Table} → Sound n → Rows b → (e : Event) → EventFits e → refusal n b e ≡ 0 → Sound (effect n b e)
unfolding refusal effect EventFits
effect_sound {n} {b} s r Skip f h = s
effect_sound {n} {b} s r (Produce p m) f h = let x = produce_met n b p m h in produced_sound s p m x.0 x.3 f.1
effect_sound {n} {b} s r (Forward p m) f h = forwarded_sound s r p m (forward_met n p m h).1
effect_sound {n} {b} s r (Subscribe p topics) f h = subscribed_sound s p topics (topics_met n p h) f.0 f.1
effect_sound {n} {b} s r (Unsubscribe p topics) f h = unsubscribed_sound s p topics (topics_met n p h) f.0
effect_sound {n} {b} s r (Leave p) f h = left_sound s p
effect_sound {n} {b} s r (Join p j) f h =
    let x = join_met n p j.neighbours h in
    joined_sound s p j.subs j.pubs j.neighbours x.0 f.0 x.1 x.2 f.1 f.2 f.3

pub after_sound : {n : Network} {b : Table} → Sound n → Rows b → (e : Event) → EventFits e → Sound (after n b e)
unfolding after if_accepted
after_sound {n} {b} s r e f = first (refusal n b e) refl
  where
    first : (k : ℕ) → refusal n b e ≡ k → Sound (if_accepted k (effect n b e) n)
    first zero h = effect_sound s r e f h
    first (suc k) h = s

-- ---- the answer: its number is the refusal's, and its kind the event's, refused or not

pub turned_number : (k : ℕ) (kind : Kind) (to : ℕ) → (turned k kind to).number ≡ k
unfolding turned
turned_number zero kind to = refl
turned_number (suc k) kind to = refl

pub turned_kind : (k : ℕ) (kind : Kind) (to : ℕ) → (turned k kind to).kind ≡ kind
unfolding turned
turned_kind zero kind to = refl
turned_kind (suc k) kind to = refl

-- ---- pairs pending: one more for a produce; one less, and one for each receiver, for a forward; else as before

-- 1 for an event of this kind
abbrev pub is_kind : Event → Kind → ℕ
is_kind e kind = digit (alike (kind_of e) kind)

left_pending : (n : Network) (p : Peer) → pending_of n p ≡ 0 → (left n p).pending ≡ n.pending
unfolding left link_down cleared
left_pending n p h = ap (set n.pending p.0) (sym h) ∙ set-get_or n.pending p.0 0

-- what keeps the pending words keeps the pairs
same_pairs : (n o : Network) → o.pending ≡ n.pending → pairs o + 0 ≡ pairs n + (0 + size 0)
unfolding pairs
same_pairs n o e = rw (e, size_none)

subscribe_keeps : (n : Network) (p : Peer) (topics : ℕ) → (subscribed_to n p topics).pending ≡ n.pending
unfolding subscribed_to
subscribe_keeps n p topics = refl

unsubscribe_keeps : (n : Network) (p : Peer) (topics : ℕ) → (unsubscribed_from n p topics).pending ≡ n.pending
unfolding unsubscribed_from
unsubscribe_keeps n p topics = refl

pub effect_pairs : {n : Network} {b : Table} → Sound n → Rows b → (e : Event) → EventFits e → refusal n b e ≡ 0
    → pairs (effect n b e) + is_kind e Kind.Forward ≡ pairs n + (is_kind e Kind.Produce + size (receivers_of n b e))
unfolding refusal effect EventFits kind_of code_of alike receivers_of
effect_pairs {n} {b} s r Skip f h = same_pairs n n refl
effect_pairs {n} {b} s r (Produce p m) f h =
    let x = produce_met n b p m h in
    omega (arith, produced_pairs s.shaped p m f.0 (new_why s.shaped m x.3 p x.0).0, size_none)
effect_pairs {n} {b} s r (Forward p m) f h = omega (arith, forwarded_pairs s r p m (forward_met n p m h).1)
effect_pairs {n} s r (Subscribe p topics) f h = same_pairs n _ (subscribe_keeps n p topics)
effect_pairs {n} s r (Unsubscribe p topics) f h = same_pairs n _ (unsubscribe_keeps n p topics)
effect_pairs {n} s r (Leave p) f h = same_pairs n _ (left_pending n p (leave_met n p h).1)
effect_pairs {n} s r (Join p j) f h =
    let x = join_met n p j.neighbours h in
    same_pairs n _ (pending_joined s p j.subs j.pubs j.neighbours x.0 f.0)
