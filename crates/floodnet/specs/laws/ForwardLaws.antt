-- Forward in observations, who receives, and how many; a forward of a pending message keeps a network sound. Assumes nothing.
use Rattle.std.specs.Prelude.{◌≡◌, refl, ◌⊎◌, Bool, true, false, not, ◌&&◌, ◌||◌, ℕ, ◌^◌, ◌≤◌, ◌<◌, eqb, length}
use Rattle.std.proofs.Common.{sym, ap, ◌∙◌, inl, inr, arith, length-set, eqb-true}
use Rattle.std.proofs.Math.Bool.{and-false}
use Rattle.std.proofs.Math.Decide.{dec_lt}
use Rattle.sets.specs.Set.{has, only, digit, size}
use Rattle.sets.specs.Sums.{sum}
use Rattle.sets.proofs.laws.Sums.{sum_same}
use Rattle.sets.proofs.laws.Bools.{and_yes, or_yes, not_yes, eqb_same}
use Rattle.sets.proofs.laws.Members.{has_minus}
use Rattle.sets.proofs.laws.Bounds.{has_out, union_lt, minus_lt, only_lt}
use Rattle.sets.proofs.laws.Build.{with_if_lt}
use Rattle.sets.proofs.laws.Counts.{size_sum}
use Rattle.network.specs.declared.Peer.{Peer}
use Rattle.network.specs.declared.Topic.{Topic}
use Rattle.network.specs.declared.Message.{Message}
use Rattle.network.specs.declared.Network.{Network}
use Rattle.network.specs.declared.Table.{Table}
use Rattle.network.specs.Network.{peer, pending_of, seen_of, known_of, present, publishes, subscribed, linked, pending, saw, knows, topic_of, Shaped, Rows}
use Rattle.network.specs.Sound.{Sound}
use Rattle.network.specs.laws.SoundLaws.{pending_peer, pending_message, pending_present, saw_present, knows_present}
use Rattle.floodnet.specs.Forward.{moved, receivers, given, forwarded}
use Rattle.floodnet.specs.laws.Places.{has_set_with, has_set_without, has_edit_with}
use Rattle.floodnet.specs.laws.Keeping.{stored, edited, shaped_pending, shaped_seen, holding_sound}
use Rattle.floodnet.specs.laws.ProduceLaws.{has_holders}

-- ---- m moves from pending to seen at p

-- It is no longer pending at p.
pub moved_pending : {n : Network} → Shaped n → (p : Peer) (m : Message) → p.0 < 32 → (q : Peer) (k : Message)
    → pending (moved n p m) q k ≡ pending n q k && not (eqb q.0 p.0 && eqb k.0 m.0)
unfolding moved
moved_pending {n} s p m h q k = has_set_without n.pending p.0 m.0 q.0 k.0 (omega (arith, s.pending))

-- It is seen at p.
pub moved_saw : {n : Network} → Shaped n → (p : Peer) (m : Message) → p.0 < 32 → (q : Peer) (k : Message)
    → saw (moved n p m) q k ≡ saw n q k || (eqb q.0 p.0 && eqb k.0 m.0)
unfolding moved
moved_saw {n} s p m h q k = has_set_with n.seen p.0 m.0 q.0 k.0 (omega (arith, s.seen))

-- The shape is kept.
pub moved_shaped : {n : Network} → Shaped n → (p : Peer) (m : Message) → m.0 < 64 → Shaped (moved n p m)
unfolding moved
moved_shaped {n} s p m h =
    let less = minus_lt 64 (pending_of n p) (only m.0) (s.pending_fit p.0) in
    let more = union_lt 64 (seen_of n p) (only m.0) (s.seen_fit p.0) (only_lt 64 m.0 h) in
    shaped_seen (shaped_pending s (stored n.pending p.0 _ s.pending s.pending_fit less)) (stored n.seen p.0 _ s.seen s.seen_fit more)

-- ---- who receives

-- They are peers.
pub receivers_lt : {n : Network} → Shaped n → (b : Table) (p : Peer) (m : Message) → receivers n b p m < 2 ^ 32
unfolding receivers
receivers_lt {n} s b p m = minus_lt 32 (known_of n p (topic_of b m)) _ (s.known_fit _)

-- With k: known, e: p itself, x: pending, y: seen.
who : (k e x y : Bool) → k && not (k && ((x && not (e && true)) || (y || (e && true)))) ≡ k && (not e && (not x && not y))
who false e x y = refl
who true false true y = refl
who true false false true = refl
who true false false false = refl
who true true true true = refl
who true true true false = refl
who true true false true = refl
who true true false false = refl

-- The known subscribers but p, unless m is pending or seen there.
pub has_receivers : {n : Network} → Shaped n → (b : Table) (p : Peer) (m : Message) → p.0 < 32 → (q : Peer)
    → has (receivers n b p m) q.0 ≡ knows n p (topic_of b m) q && (not (eqb q.0 p.0) && (not (pending n q m) && not (saw n q m)))
unfolding receivers
has_receivers {n} s b p m h q = go (dec_lt q.0 32)
  where
    go : Dec (q.0 < 32) → has (receivers n b p m) q.0 ≡ knows n p (topic_of b m) q && (not (eqb q.0 p.0) && (not (pending n q m) && not (saw n q m)))
    go (yes l) =
        has_minus (known_of n p (topic_of b m)) _ q.0
        ∙ rw (has_holders (moved n p m) (known_of n p (topic_of b m)) m q l, moved_pending s p m h q m, moved_saw s p m h q m, eqb_same m.0)
        (who (knows n p (topic_of b m) q) (eqb q.0 p.0) (pending n q m) (saw n q m))
    go (no l) =
        let o : 32 ≤ q.0 = omega arith in
        has_out 32 (receivers n b p m) q.0 (receivers_lt s b p m) o ∙ sym (rw (has_out 32 (known_of n p (topic_of b m)) q.0 (s.known_fit _) o))

-- Where m is pending at p, it is enough to say: the known subscribers, unless m is pending or seen there.
pub receivers_pending : {n : Network} → Shaped n → (b : Table) (p : Peer) (m : Message) → pending n p m ≡ true → (q : Peer)
    → has (receivers n b p m) q.0 ≡ knows n p (topic_of b m) q && (not (pending n q m) && not (saw n q m))
receivers_pending {n} s b p m a q =
    has_receivers s b p m (pending_peer s p m a) q
    ∙ ap (λ (x : Bool). knows n p (topic_of b m) q && x) (go (eqb q.0 p.0) refl)
  where
    go : (e : Bool) → eqb q.0 p.0 ≡ e → not e && (not (pending n q m) && not (saw n q m)) ≡ not (pending n q m) && not (saw n q m)
    go true e = rw (eqb-true q.0 p.0 e, a)
    go false e = refl

-- ---- m becomes pending at each peer of r

-- It is pending there, and what was pending still is.
given_pending : (n : Network) (r : ℕ) (m : Message) → length n.pending ≡ 32 → r < 2 ^ 32 → (q : Peer) (k : Message)
    → pending (given n r m) q k ≡ pending n q k || (has r q.0 && eqb k.0 m.0)
unfolding given
given_pending n r m e h q k = has_edit_with r m.0 n.pending q.0 k.0 λ o. has_out 32 r q.0 h (rw e at o)

-- The shape is kept.
pub given_shaped : {n : Network} → Shaped n → (r : ℕ) (m : Message) → m.0 < 64 → Shaped (given n r m)
unfolding given
given_shaped {n} s r m h =
    shaped_pending s (edited _ n.pending s.pending s.pending_fit λ i. with_if_lt 64 (has r i) m.0 _ h (s.pending_fit i))

-- ---- forward

-- p has seen m, and what was seen still is.
pub forwarded_saw : {n : Network} → Shaped n → (b : Table) (p : Peer) (m : Message) → p.0 < 32 → (q : Peer) (k : Message)
    → saw (forwarded n b p m) q k ≡ saw n q k || (eqb q.0 p.0 && eqb k.0 m.0)
unfolding forwarded given
forwarded_saw s b p m h q k = moved_saw s p m h q k

-- With e: p itself, l: known, x: pending, y: seen; another message, and m.
other : (e l x y r : Bool) → (x && not (e && false)) || (r && false) ≡ not (e && false) && (x || (not y && (false && l)))
other true l true y r = refl
other true l false y r = rw (and-false r, and-false (not y))
other false l true y r = refl
other false l false y r = rw (and-false r, and-false (not y))

same : (e l x y : Bool) → (x && not (e && true)) || ((l && (not e && (not x && not y))) && true) ≡ not (e && true) && (x || (not y && (true && l)))
same true false true y = refl
same true false false y = refl
same true true true y = refl
same true true false y = refl
same false l true y = refl
same false false false true = refl
same false false false false = refl
same false true false true = refl
same false true false false = refl

-- m is pending at p no more; elsewhere, what was pending still is, and m is where p knows a subscriber to its topic that has not seen it.
pub forwarded_pending : {n : Network} → Shaped n → (b : Table) (p : Peer) (m : Message) → p.0 < 32 → (q : Peer) (k : Message)
    → pending (forwarded n b p m) q k
    ≡ not (eqb q.0 p.0 && eqb k.0 m.0) && (pending n q k || (not (saw n q k) && (eqb k.0 m.0 && knows n p (topic_of b m) q)))
unfolding forwarded moved
forwarded_pending {n} s b p m h q k =
    given_pending (moved n p m) (receivers n b p m) m (length-set n.pending p.0 _ ∙ s.pending) (receivers_lt s b p m) q k
    ∙ rw (moved_pending s p m h q k, has_receivers s b p m h q) (go (eqb k.0 m.0) refl)
  where
    go : (c : Bool) → eqb k.0 m.0 ≡ c
        → (pending n q k && not (eqb q.0 p.0 && c)) || ((knows n p (topic_of b m) q && (not (eqb q.0 p.0) && (not (pending n q m) && not (saw n q m)))) && c)
        ≡ not (eqb q.0 p.0 && c) && (pending n q k || (not (saw n q k) && (c && knows n p (topic_of b m) q)))
    go true e = rw (eqb-true k.0 m.0 e) (same (eqb q.0 p.0) (knows n p (topic_of b m) q) (pending n q m) (saw n q m))
    go false e = other (eqb q.0 p.0) (knows n p (topic_of b m) q) (pending n q k) (saw n q k) (knows n p (topic_of b m) q && (not (eqb q.0 p.0) && (not (pending n q m) && not (saw n q m))))

-- All else is as it was.
pub forwarded_present : (n : Network) (b : Table) (p : Peer) (m : Message) (q : Peer) → present (forwarded n b p m) q ≡ present n q
unfolding forwarded given moved
forwarded_present n b p m q = refl

pub forwarded_knows : (n : Network) (b : Table) (p : Peer) (m : Message) (q : Peer) (t : Topic) (r : Peer) → knows (forwarded n b p m) q t r ≡ knows n q t r
unfolding forwarded given moved
forwarded_knows n b p m q t r = refl

-- It keeps the shape.
pub forwarded_shaped : {n : Network} → Shaped n → (b : Table) (p : Peer) (m : Message) → m.0 < 64 → Shaped (forwarded n b p m)
unfolding forwarded
forwarded_shaped s b p m h = given_shaped (moved_shaped s p m h) (receivers _ b p m) m h

-- What is pending after a forward is not the pair that was forwarded; and it was pending before, or it is m where p knows a subscriber that has not seen it.
pub forwarded_cases : {n : Network} → Shaped n → (b : Table) (p : Peer) (m : Message) → p.0 < 32 → (q : Peer) (k : Message) → pending (forwarded n b p m) q k ≡ true
    → ((eqb q.0 p.0 && eqb k.0 m.0) ≡ false)
    × ((pending n q k ≡ true) ⊎ ((saw n q k ≡ false) × (k.0 ≡ m.0) × (knows n p (topic_of b m) q ≡ true)))
forwarded_cases {n} s b p m h q k e =
    let x = and_yes (not (eqb q.0 p.0 && eqb k.0 m.0)) _ (sym (forwarded_pending s b p m h q k) ∙ e) in
    (not_yes (eqb q.0 p.0 && eqb k.0 m.0) x.0, go (or_yes (pending n q k) _ x.1))
  where
    go : (pending n q k ≡ true) ⊎ ((not (saw n q k) && (eqb k.0 m.0 && knows n p (topic_of b m) q)) ≡ true)
        → (pending n q k ≡ true) ⊎ ((saw n q k ≡ false) × (k.0 ≡ m.0) × (knows n p (topic_of b m) q ≡ true))
    go (inl x) = inl x
    go (inr x) =
        let y = and_yes (not (saw n q k)) (eqb k.0 m.0 && knows n p (topic_of b m) q) x in
        let z = and_yes (eqb k.0 m.0) (knows n p (topic_of b m) q) y.1 in
        inr (not_yes (saw n q k) y.0, eqb-true k.0 m.0 z.0, z.1)

-- A FORWARD OF A PENDING MESSAGE KEEPS THE NETWORK SOUND.
pub forwarded_sound : {n : Network} → Sound n → {b : Table} → Rows b → (p : Peer) (m : Message) → pending n p m ≡ true → Sound (forwarded n b p m)
unfolding forwarded given moved
forwarded_sound {n} s {b} rows p m a =
    holding_sound _ _ s (forwarded_shaped s.shaped b p m (pending_message s.shaped p m a))
    (λ q k e. held q k (forwarded_cases s.shaped b p m low q k e).1)
    (λ q k e. had q k (or_yes (saw n q k) _ (sym (forwarded_saw s.shaped b p m low q k) ∙ e)))
    (λ q k e.
    let x = forwarded_cases s.shaped b p m low q k e in
    forwarded_saw s.shaped b p m low q k ∙ rw (x.0, apart q k x.1))
  where
    low : p.0 < 32
    low = pending_peer s.shaped p m a

    held : (q : Peer) (k : Message) → (pending n q k ≡ true) ⊎ ((saw n q k ≡ false) × (k.0 ≡ m.0) × (knows n p (topic_of b m) q ≡ true)) → present n q ≡ true
    held q k (inl x) = pending_present s q k x
    held q k (inr x) = knows_present s p (topic_of b m) q low (rows.topics_fit m.0) x.2

    had : (q : Peer) (k : Message) → (saw n q k ≡ true) ⊎ ((eqb q.0 p.0 && eqb k.0 m.0) ≡ true) → present n q ≡ true
    had q k (inl x) = saw_present s q k x
    had q k (inr x) =
        let y = and_yes (eqb q.0 p.0) (eqb k.0 m.0) x in
        rw (eqb-true q.0 p.0 y.0) (pending_present s p m a)

    apart : (q : Peer) (k : Message) → (pending n q k ≡ true) ⊎ ((saw n q k ≡ false) × (k.0 ≡ m.0) × (knows n p (topic_of b m) q ≡ true)) → saw n q k ≡ false
    apart q k (inl x) = s.apart q k x
    apart q k (inr x) = x.0

-- ---- the number of receivers

-- One for each known subscriber that does not hold m.
pub receivers_sum : {n : Network} → Shaped n → (b : Table) (p : Peer) (m : Message) → pending n p m ≡ true
    → size (receivers n b p m) ≡ sum 32 (λ (q : ℕ). digit (knows n p (topic_of b m) (peer q) && (not (pending n (peer q) m) && not (saw n (peer q) m))))
receivers_sum {n} s b p m a = size_sum 32 (receivers n b p m) (receivers_lt s b p m) ∙ sum_same 32 _ _ λ q l. ap digit (receivers_pending s b p m a (peer q))

pub forwarded_publishes : (n : Network) (b : Table) (p : Peer) (m : Message) (q : Peer) (t : Topic) → publishes (forwarded n b p m) q t ≡ publishes n q t
unfolding forwarded given moved
forwarded_publishes n b p m q t = refl

pub forwarded_subscribed : (n : Network) (b : Table) (p : Peer) (m : Message) (q : Peer) (t : Topic) → subscribed (forwarded n b p m) q t ≡ subscribed n q t
unfolding forwarded given moved
forwarded_subscribed n b p m q t = refl

pub forwarded_linked : (n : Network) (b : Table) (p : Peer) (m : Message) (q r : Peer) → linked (forwarded n b p m) q r ≡ linked n q r
unfolding forwarded given moved
forwarded_linked n b p m q r = refl
