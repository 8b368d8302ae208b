-- What the view shows, place by place: a sound network shows a sound one, and a forward shows flooding's forward. Assumes nothing.
use Rattle.std.specs.Prelude.{◌≡◌, refl, true, ◌&&◌, ℕ, ◌+◌, ◌*◌, ◌/◌, ◌%◌, ◌≤◌, ◌<◌, length, get_or}
use Rattle.std.proofs.Common.{sym, ap, ◌∙◌, div-add-mod', arith, ext_get_or}
use Rattle.std.proofs.Math.Decide.{dec_lt}
use Rattle.sets.specs.Set.{has}
use Rattle.sets.proofs.laws.Bools.{clash, not_false}
use Rattle.sets.proofs.laws.Members.{ext_below, has_none}
use Rattle.flooding.specs.Network as flooding
use Rattle.flooding.specs.Network.{Net, Quiet, link, forward}
use Rattle.flooding.proofs.laws.Machine.{Machine}
use Rattle.network.specs.declared.Peer.{Peer}
use Rattle.network.specs.declared.Topic.{Topic}
use Rattle.network.specs.declared.Network.{Network}
use Rattle.network.specs.declared.Table.{Table}
use Rattle.network.specs.Network.{with_pending, with_seen, peer, topic, message, pending_of, spot, present, subscribed, linked, knows, topic_of, Shaped, Rows}
use Rattle.network.specs.Sound.{Sound}
use Rattle.network.specs.laws.SoundLaws.{present_peer, pending_peer, pending_message, pending_present, saw_message, saw_present, knows_present}
use Rattle.floodnet.specs.Forward.{forwarded, given, moved}
use Rattle.floodnet.specs.laws.Places.{has_beyond}
use Rattle.floodnet.specs.laws.ForwardLaws.{forwarded_present, forwarded_knows, forwarded_pending, forwarded_saw, forwarded_sound}
use Rattle.floodnet.specs.View.{view, fwd}
use Rattle.floodnet.specs.laws.View.{rest}

-- A link, in the client's words: q is a neighbour of p, and subscribed to m's topic.
pub view_linked : {n : Network} → Sound n → {b : Table} → Rows b → (m p q : ℕ)
    → link (view b n) m p q ≡ linked n (peer p) (peer q) && subscribed n (peer q) (topic_of b (message m))
unfolding view
view_linked {n} s {b} rows m p q = go (dec_lt p 32)
  where
    go : Dec (p < 32) → knows n (peer p) (topic_of b (message m)) (peer q) ≡ linked n (peer p) (peer q) && subscribed n (peer q) (topic_of b (message m))
    go (yes l) = s.knows (peer p) (topic_of b (message m)) (peer q) l (rows.topics_fit m)
    go (no l) =
        let o : length n.known ≤ p * 32 + get_or b.topics m 0 = omega (arith, s.shaped.known) in
        let u : length n.neighbours ≤ p = omega (arith, s.shaped.neighbours) in
        has_beyond n.known (p * 32 + get_or b.topics m 0) q o ∙ sym (rw (has_beyond n.neighbours p q u))

-- Where every peer's set of pending messages is empty, nothing is pending.
pub empty_quiet : {n : Network} (b : Table) → Shaped n → ((p : Peer) → p.0 < 32 → pending_of n p ≡ 0) → Quiet (view b n)
unfolding view
empty_quiet {n} b s h p m =
    not_false λ e. clash e (ap (λ (w : ℕ). has w m) (h (peer p) (pending_peer s (peer p) (message m) e)) ∙ has_none m)

-- ---- a sound network shows a sound one

-- Whoever is known is present, whatever the numbers: the place of peer p and topic t is that of a peer and a topic in range, or past the end.
pub knows_near : {n : Network} → Sound n → (p : Peer) (t : Topic) (q : Peer) → knows n p t q ≡ true → present n q ≡ true
knows_near {n} s p t q h = go (dec_lt (spot p t) 1024)
  where
    go : Dec (spot p t < 1024) → present n q ≡ true
    go (yes l) =
        let i : ℕ = spot p t in
        let e : i / 32 * 32 + i % 32 ≡ i = div-add-mod' i 32 in
        knows_present s (peer (i / 32)) (topic (i % 32)) q (omega arith) (omega arith) (ap (λ (j : ℕ). has (get_or n.known j 0) q.0) e ∙ h)
    go (no l) =
        let o : length n.known ≤ spot p t = omega (arith, s.shaped.known) in
        clash h (has_beyond n.known (spot p t) q.0 o)

-- So the view of a sound network is sound.
pub view_sound : {n : Network} (b : Table) → Sound n → flooding.Sound 32 64 (view b n)
unfolding view
view_sound b s =
    record {
      peers = λ p h. present_peer s.shaped (peer p) h;
      held = λ p m h. (pending_present s (peer p) (message m) h, pending_message s.shaped (peer p) (message m) h);
      had = λ p m h. (saw_present s (peer p) (message m) h, saw_message s.shaped (peer p) (message m) h);
      linked = λ p t q h. knows_near s (peer p) (topic t) (peer q) h;
      apart = λ p m h. s.apart (peer p) (message m) h;
    }

-- ---- a forward

-- It shows flooding's forward.
pub fwd_view : {n : Network} (b : Table) → Shaped n → (p m : ℕ) → (view b n).pending p m ≡ true → view b (fwd b n p m) ≡ forward (view b n) p m
unfolding view fwd forward
fwd_view {n} b s p m a =
    let low : p < 32 = pending_peer s (peer p) (message m) a in
    λ i. record {
      topic = λ k. (topic_of b (message k)).0;
      present = λ q. forwarded_present n b (peer p) (message m) (peer q) i;
      known = λ q t r. forwarded_knows n b (peer p) (message m) (peer q) (topic t) (peer r) i;
      pending = λ q k. forwarded_pending s b (peer p) (message m) low (peer q) (message k) i;
      seen = λ q k. forwarded_saw s b (peer p) (message m) low (peer q) (message k) i;
    }

-- It leaves the rest alone.
pub fwd_rest : (b : Table) (n : Network) (p m : ℕ) → rest (fwd b n p m) ≡ rest n
unfolding rest fwd forwarded given moved
fwd_rest b n p m = refl

-- It keeps a network sound.
pub fwd_sound : {n : Network} → Sound n → {b : Table} → Rows b → (p m : ℕ) → (view b n).pending p m ≡ true → Sound (fwd b n p m)
unfolding view fwd
fwd_sound s rows p m a = forwarded_sound s rows (peer p) (message m) a

-- Two networks that show the same, and agree in the rest, are one.
pub view_same : {n o : Network} (b : Table) → Shaped n → Shaped o → rest n ≡ rest o → view b n ≡ view b o → n ≡ o
unfolding view rest
view_same {n} {o} b s t r e =
    λ i. with_seen (with_pending (r i) (waiting i)) (had i)
  where
    waiting : n.pending ≡ o.pending
    waiting =
        ext_get_or 0 n.pending o.pending (s.pending ∙ sym t.pending)
        λ i l. ext_below 64 (get_or n.pending i 0) (get_or o.pending i 0) (s.pending_fit i) (t.pending_fit i) λ k c. ap (λ (x : Net). x.pending i k) e

    had : n.seen ≡ o.seen
    had =
        ext_get_or 0 n.seen o.seen (s.seen ∙ sym t.seen)
        λ i l. ext_below 64 (get_or n.seen i 0) (get_or o.seen i 0) (s.seen_fit i) (t.seen_fit i) λ k c. ap (λ (x : Net). x.seen i k) e

-- THE NETWORK IS A MACHINE OF FLOODING, of 32 peers and 64 messages, and its sound states are the sound networks.
pub network_machine : {b : Table} → Rows b → Machine (view b) (fwd b) 32 64 Sound
network_machine {b} rows =
    record {
      sound = λ n s. view_sound b s;
      fwd_ok = λ n p m s a. fwd_sound s rows p m a;
      fwd_view = λ n p m s a. fwd_view b s.shaped p m a;
      Rest = Network;
      rest = rest;
      fwd_rest = λ n p m s a. fwd_rest b n p m;
      same = λ n o s t r e. view_same b s.shaped t.shaped r e;
    }
