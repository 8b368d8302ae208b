-- "A network is sound when all 32 records are": no record breaks a rule exactly where the network is `Sound`, by its observations.
-- Assumes nothing.
use Rattle.std.specs.Prelude.{◌≡◌, ◌↔◌, Bool, true, false, ◌&&◌, ℕ, ◌<◌}
use Rattle.std.proofs.Common.{sym, ap, ◌∙◌, ⊎_elim}
use Rattle.sets.specs.Set.{has, digit}
use Rattle.sets.proofs.laws.Bools.{either, clash, not_false}
use Rattle.sets.proofs.laws.Members.{has_none}
use Rattle.network.specs.declared.Peer.{Peer}
use Rattle.network.specs.declared.Topic.{Topic}
use Rattle.network.specs.declared.Message.{Message}
use Rattle.network.specs.declared.Network.{Network}
use Rattle.network.specs.Network.{neighbours_of, pending_of, present, subscribed, linked, pending, saw, knows, Shaped}
use Rattle.network.specs.Sound.{Empty, Sound}
use Rattle.network.specs.laws.SoundLaws.{linked_peer, pending_peer}
use Rattle.network.specs.Rules.{empty_right, own_right, near_right, back_right, known_right, apart_right, absent_fault, present_fault, head_of}
use Rattle.network.specs.laws.Rules.{fault_in}
use Rattle.network.specs.laws.RuleLaws.{own_why, own_yes, near_why, near_yes, back_why, back_yes, known_why, known_yes, apart_why, apart_yes}
use Rattle.network.specs.laws.Faults.{need_met, empty_why, fault_empty, fault_none, fault_absent, fault_present}

-- ---- a record with no fault keeps every rule

-- the five rules of a present record, and what an absent one is
pub record Kept (n : Network) (p : Peer) : Type 0 where
  pub own : own_right n p ≡ true
  pub near : near_right n p ≡ true
  pub back : back_right n p ≡ true
  pub known : known_right n p ≡ true
  pub apart : apart_right n p ≡ true

pub kept_present : (n : Network) (p : Peer) → present_fault n p ≡ 0 → Kept n p
unfolding present_fault
kept_present n p h =
    let a = need_met (own_right n p) 21 _ h in
    let b = need_met (near_right n p) 22 _ a.1 in
    let c = need_met (back_right n p) 23 _ b.1 in
    let d = need_met (known_right n p) 24 _ c.1 in
    let e = need_met (apart_right n p) 25 0 d.1 in
    record { own = a.0; near = b.0; back = c.0; known = d.0; apart = e.0 }

pub kept_absent : (n : Network) (p : Peer) → absent_fault n p ≡ 0 → Empty n p
unfolding absent_fault
kept_absent n p h = empty_why n p (need_met (empty_right n p) 20 0 h).0

module _ (n : Network) (s : Shaped n) (f : (p : Peer) → p.0 < 32 → fault_in n p ≡ 0) where
  absent_empty : (p : Peer) → p.0 < 32 → present n p ≡ false → Empty n p
  absent_empty p b a = kept_absent n p (sym (fault_absent n p (head_of n p) (ap digit a)) ∙ f p b)

  present_keeps : (p : Peer) → p.0 < 32 → present n p ≡ true → Kept n p
  present_keeps p b a = kept_present n p (sym (fault_present n p (head_of n p) (ap digit a)) ∙ f p b)

  -- a peer with a member in a word that is 0 for the absent keeps the rules
  member_keeps : (p : Peer) (w i : ℕ) → p.0 < 32 → (Empty n p → w ≡ 0) → has w i ≡ true → Kept n p
  member_keeps p w i b e h =
      ⊎_elim (present_keeps p b) (λ a. clash h (ap (λ (x : ℕ). has x i) (e (absent_empty p b a)) ∙ has_none i)) (either (present n p))

  listing : (p q : Peer) → linked n p q ≡ true → Kept n p
  listing p q h = member_keeps p (neighbours_of n p) q.0 (linked_peer s p q h) (λ e. e.neighbours) h

  sound_own : (p : Peer) → linked n p p ≡ false
  sound_own p = not_false λ h. clash h (own_why n p (listing p p h).own)

  sound_near : (p q : Peer) → linked n p q ≡ true → present n q ≡ true
  sound_near p q h = near_why n p s (listing p q h).near q h

  sound_back : (p q : Peer) → linked n p q ≡ true → linked n q p ≡ true
  sound_back p q h = back_why n p s (listing p q h).back q h

  sound_apart : (p : Peer) (m : Message) → pending n p m ≡ true → saw n p m ≡ false
  sound_apart p m h = apart_why n p (member_keeps p (pending_of n p) m.0 (pending_peer s p m h) (λ e. e.pending) h).apart m h

  knows_absent : (p : Peer) (t : Topic) (q : Peer) → t.0 < 32 → Empty n p → knows n p t q ≡ linked n p q && subscribed n q t
  knows_absent p t q b e =
      ap (λ (w : ℕ). has w q.0) (e.known t b) ∙ has_none q.0
      ∙ sym (ap (λ (x : Bool). x && subscribed n q t) (ap (λ (w : ℕ). has w q.0) e.neighbours ∙ has_none q.0))

  sound_knows : (p : Peer) (t : Topic) (q : Peer) → p.0 < 32 → t.0 < 32 → knows n p t q ≡ linked n p q && subscribed n q t
  sound_knows p t q bp bt =
      ⊎_elim (λ a. known_why n p s (present_keeps p bp a).known t bt q) (λ a. knows_absent p t q bt (absent_empty p bp a)) (either (present n p))

-- no record has a fault: the network is sound
pub faults_sound : {n : Network} → Shaped n → ((p : Peer) → p.0 < 32 → fault_in n p ≡ 0) → Sound n
faults_sound {n} s f =
    record {
      shaped = s;
      empty = absent_empty n s f;
      own = sound_own n s f;
      near = sound_near n s f;
      back = sound_back n s f;
      knows = sound_knows n s f;
      apart = sound_apart n s f;
    }

-- ---- and back

-- a sound network: no record has a fault
pub sound_faults : {n : Network} → Sound n → (p : Peer) → p.0 < 32 → fault_in n p ≡ 0
sound_faults {n} s p b = ⊎_elim here gone (either (present n p))
  where
    here : present n p ≡ true → fault_in n p ≡ 0
    here a =
        fault_present n p (head_of n p) (ap digit a)
        ∙ sym (fault_none n p (own_yes n p (s.own p)) (near_yes n p (s.near p)) (back_yes n p (s.back p)) (known_yes n p s.shaped λ t l q. s.knows p t q b l) (apart_yes n p (s.apart p)))

    gone : present n p ≡ false → fault_in n p ≡ 0
    gone a = fault_absent n p (head_of n p) (ap digit a) ∙ sym (fault_empty n p (s.empty p b a))

-- "A network is sound when all 32 records are."
pub sound_iff : {n : Network} → Shaped n → ((p : Peer) → p.0 < 32 → fault_in n p ≡ 0) ↔ Sound n
sound_iff s = (faults_sound s, sound_faults)
