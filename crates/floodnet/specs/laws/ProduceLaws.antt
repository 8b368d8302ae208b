-- Who holds a message, when it is new, and produce, in observations; a produce of a new message keeps a network sound. Assumes nothing.
use Rattle.std.specs.Prelude.{◌≡◌, refl, ◌⊎◌, Bool, true, false, ◌&&◌, ◌||◌, ℕ, ◌^◌, ◌≤◌, ◌<◌, eqb}
use Rattle.std.proofs.Common.{sym, ap, ◌∙◌, inl, inr, arith, eqb-true, eq-eqb}
use Rattle.std.proofs.Math.Decide.{dec_lt}
use Rattle.sets.specs.Set.{has, only}
use Rattle.sets.proofs.laws.Bools.{clash, not_false, and_yes, and_no, and_fails, or_yes, or_no}
use Rattle.sets.proofs.laws.Members.{has_none}
use Rattle.sets.proofs.laws.Bounds.{has_out, union_lt, only_lt}
use Rattle.sets.proofs.laws.Build.{has_sift, sift_lt}
use Rattle.sets.proofs.laws.Lowest.{none_empty}
use Rattle.network.specs.declared.Peer.{Peer}
use Rattle.network.specs.declared.Topic.{Topic}
use Rattle.network.specs.declared.Message.{Message}
use Rattle.network.specs.declared.Network.{Network}
use Rattle.network.specs.Network.{peer, pending_of, present, publishes, subscribed, linked, pending, saw, knows, Shaped}
use Rattle.network.specs.Sound.{Sound}
use Rattle.network.specs.laws.SoundLaws.{present_peer, pending_present, saw_present}
use Rattle.floodnet.specs.Produce.{holders, is_new, produced}
use Rattle.floodnet.specs.laws.Places.{has_set_with}
use Rattle.floodnet.specs.laws.Keeping.{stored, shaped_pending, holding_sound}

-- ---- who holds a message

-- Those of s, below 32, that have it pending or seen.
pub has_holders : (n : Network) (s : ℕ) (m : Message) (q : Peer) → q.0 < 32 → has (holders n s m) q.0 ≡ has s q.0 && (pending n q m || saw n q m)
unfolding holders
has_holders n s m q h = has_sift 32 s (λ (i : ℕ). pending n (peer i) m || saw n (peer i) m) q.0 h

-- ---- a new message

-- No present peer has it pending or seen.
pub new_why : {n : Network} → Shaped n → (m : Message) → is_new n m ≡ true → (q : Peer) → present n q ≡ true → (pending n q m ≡ false) × (saw n q m ≡ false)
unfolding is_new
new_why {n} s m h q a =
    let none : holders n n.present m ≡ 0 = eqb-true (holders n n.present m) 0 h in
    let out : present n q && (pending n q m || saw n q m) ≡ false =
    sym (has_holders n n.present m q (present_peer s q a)) ∙ ap (λ (w : ℕ). has w q.0) none ∙ has_none q.0 in
    or_no (pending n q m) (saw n q m) (and_fails (present n q) (pending n q m || saw n q m) out a)

-- In a sound network no peer at all has a new message pending or seen.
pub new_nowhere : {n : Network} → Sound n → (m : Message) → is_new n m ≡ true → (q : Peer) → (pending n q m ≡ false) × (saw n q m ≡ false)
new_nowhere {n} s m h q =
    (not_false λ e. clash e (new_why s.shaped m h q (pending_present s q m e)).0, not_false λ e. clash e (new_why s.shaped m h q (saw_present s q m e)).1)

-- ---- produce

-- m is pending at p, and what was pending still is.
pub produced_pending : {n : Network} → Shaped n → (p : Peer) (m : Message) → p.0 < 32 → (q : Peer) (k : Message)
    → pending (produced n p m) q k ≡ pending n q k || (eqb q.0 p.0 && eqb k.0 m.0)
unfolding produced
produced_pending {n} s p m h q k = has_set_with n.pending p.0 m.0 q.0 k.0 (omega (arith, s.pending))

-- What is pending after a produce was so before, or is what was produced.
pub produced_cases : {n : Network} → Shaped n → (p : Peer) (m : Message) → p.0 < 32 → (q : Peer) (k : Message) → pending (produced n p m) q k ≡ true
    → (pending n q k ≡ true) ⊎ ((q.0 ≡ p.0) × (k.0 ≡ m.0))
produced_cases {n} s p m h q k e = go (or_yes (pending n q k) (eqb q.0 p.0 && eqb k.0 m.0) (sym (produced_pending s p m h q k) ∙ e))
  where
    go : (pending n q k ≡ true) ⊎ ((eqb q.0 p.0 && eqb k.0 m.0) ≡ true) → (pending n q k ≡ true) ⊎ ((q.0 ≡ p.0) × (k.0 ≡ m.0))
    go (inl x) = inl x
    go (inr x) = let y = and_yes (eqb q.0 p.0) (eqb k.0 m.0) x in inr (eqb-true q.0 p.0 y.0, eqb-true k.0 m.0 y.1)

-- It keeps the shape.
pub produced_shaped : {n : Network} → Shaped n → (p : Peer) (m : Message) → m.0 < 64 → Shaped (produced n p m)
unfolding produced
produced_shaped {n} s p m h =
    let more = union_lt 64 (pending_of n p) (only m.0) (s.pending_fit p.0) (only_lt 64 m.0 h) in
    shaped_pending s (stored n.pending p.0 _ s.pending s.pending_fit more)

-- A PRODUCE OF A NEW MESSAGE AT A PRESENT PEER KEEPS THE NETWORK SOUND.
pub produced_sound : {n : Network} → Sound n → (p : Peer) (m : Message) → present n p ≡ true → is_new n m ≡ true → m.0 < 64 → Sound (produced n p m)
unfolding produced
produced_sound {n} s p m a new h =
    holding_sound _ n.seen s (produced_shaped s.shaped p m h) (λ q k e. held q k (produced_cases s.shaped p m b q k e)) (λ q k e. saw_present s q k e)
    (λ q k e. apart q k (produced_cases s.shaped p m b q k e))
  where
    b : p.0 < 32
    b = present_peer s.shaped p a

    held : (q : Peer) (k : Message) → (pending n q k ≡ true) ⊎ ((q.0 ≡ p.0) × (k.0 ≡ m.0)) → present n q ≡ true
    held q k (inl x) = pending_present s q k x
    held q k (inr x) = rw x.0 a

    apart : (q : Peer) (k : Message) → (pending n q k ≡ true) ⊎ ((q.0 ≡ p.0) × (k.0 ≡ m.0)) → saw n q k ≡ false
    apart q k (inl x) = s.apart q k x
    apart q k (inr x) = rw (x.0, x.1) (new_nowhere s m new p).1

-- They are a set of peers.
pub holders_lt : (n : Network) (s : ℕ) (m : Message) → holders n s m < 2 ^ 32
unfolding holders
holders_lt n s m = sift_lt 32 s (λ (i : ℕ). pending n (peer i) m || saw n (peer i) m)

-- And back.
pub new_yes : (n : Network) (m : Message) → ((q : Peer) → present n q ≡ true → (pending n q m ≡ false) × (saw n q m ≡ false)) → is_new n m ≡ true
unfolding is_new
new_yes n m h = eq-eqb (holders n n.present m) 0 (none_empty (holders n n.present m) λ i. go i (dec_lt i 32))
  where
    neither : (a b : Bool) → (a ≡ false) × (b ≡ false) → (a || b) ≡ false
    neither a b e = rw (e.0, e.1)

    go : (i : ℕ) → Dec (i < 32) → has (holders n n.present m) i ≡ false
    go i (yes l) =
        has_holders n n.present m (peer i) l
        ∙ and_no (present n (peer i)) (pending n (peer i) m || saw n (peer i) m) λ a. neither (pending n (peer i) m) (saw n (peer i) m) (h (peer i) a)
    go i (no l) =
        let o : 32 ≤ i = omega arith in
        has_out 32 (holders n n.present m) i (holders_lt n n.present m) o

-- All else is as it was.
pub produced_present : (n : Network) (p : Peer) (m : Message) (q : Peer) → present (produced n p m) q ≡ present n q
unfolding produced
produced_present n p m q = refl

pub produced_publishes : (n : Network) (p : Peer) (m : Message) (q : Peer) (t : Topic) → publishes (produced n p m) q t ≡ publishes n q t
unfolding produced
produced_publishes n p m q t = refl

pub produced_subscribed : (n : Network) (p : Peer) (m : Message) (q : Peer) (t : Topic) → subscribed (produced n p m) q t ≡ subscribed n q t
unfolding produced
produced_subscribed n p m q t = refl

pub produced_linked : (n : Network) (p : Peer) (m : Message) (q r : Peer) → linked (produced n p m) q r ≡ linked n q r
unfolding produced
produced_linked n p m q r = refl

pub produced_saw : (n : Network) (p : Peer) (m : Message) (q : Peer) (k : Message) → saw (produced n p m) q k ≡ saw n q k
unfolding produced
produced_saw n p m q k = refl

pub produced_knows : (n : Network) (p : Peer) (m : Message) (q : Peer) (t : Topic) (r : Peer) → knows (produced n p m) q t r ≡ knows n q t r
unfolding produced
produced_knows n p m q t r = refl
