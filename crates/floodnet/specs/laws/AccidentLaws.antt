-- The page of the accident (specs/Accident.antt), proved of every sound network. Assumes nothing.
use Rattle.std.specs.Prelude.{◌≡◌, refl, Bool, true, false, not, cond, ◌&&◌, ◌||◌, List, ℕ, ◌/◌, ◌%◌, ◌^◌, ◌<◌, eqb, get_or}
use Rattle.std.proofs.Common.{sym, ap, ap₂, ◌∙◌, arith, eqb-true}
use Rattle.std.proofs.Math.Bool.{and-true, and-false, or-false}
use Rattle.std.proofs.Math.Decide.{dec_lt}
use Rattle.std.proofs.Math.ListN.{get_or-eq_default}
use Rattle.sets.specs.Set.{has, minus}
use Rattle.sets.proofs.laws.Bools.{clash, not_false, and_no, eqb_same, ne_eqb, or_right}
use Rattle.sets.proofs.laws.Members.{has_none}
use Rattle.network.specs.declared.Peer.{Peer}
use Rattle.network.specs.declared.Topic.{Topic}
use Rattle.network.specs.declared.Network.{Network}
use Rattle.network.specs.Network.{peer, topic, spot, present, subscribed, linked, knows}
use Rattle.network.specs.Sound.{Sound}
use Rattle.floodnet.specs.Links.{left, joined}
use Rattle.floodnet.specs.laws.Places.{spot_of}
use Rattle.floodnet.specs.laws.LinksLaws.{between}
use Rattle.floodnet.specs.laws.LeaveJoin.{left_sound, left_empty, present_left, publishes_left, subscribed_left, pending_left, saw_left, linked_left, knows_left, joined_sound, present_joined, publishes_joined, subscribed_joined, pending_joined, seen_joined, linked_joined, knows_joined}
use Rattle.floodnet.specs.Accident.{AfterLeave, AfterJoin, Accident}

-- ---- after a leave

-- A leave of p from any sound network.
after_leave : {n : Network} → Sound n → (p : Peer) → p.0 < 32 → AfterLeave n (left n p) p
after_leave {n} s p hp =
    record {
      sound = left_sound s p;
      absent = present_left n p p ∙ and_no (present n p) _ (λ e. ap not (eqb_same p.0));
      empty = left_empty s p hp;
      unlisted = unlisted;
      unknown = λ q t. unknown (spot q t) (dec_lt (spot q t) 1024);
      apart = record {
        same_present = λ q d. present_left n p q ∙ rw (ne_eqb d) (and-true (present n q));
        same_publishes = λ q t d. publishes_left n p q t ∙ rw (ne_eqb d);
        same_subscribed = λ q t d. subscribed_left n p q t ∙ rw (ne_eqb d);
        same_linked = λ q c d e. linked_left s p q c ∙ rw (ne_eqb d, ne_eqb e) (and-true (linked n q c));
        same_knows = λ q t c hq ht d e. knows_left s p q t c hq ht ∙ rw (ne_eqb d, ne_eqb e) (and-true (knows n q t c));
        same_pending = λ q k d. pending_left n p q k ∙ rw (ne_eqb d);
        same_saw = λ q k d. saw_left n p q k ∙ rw (ne_eqb d);
      };
    }
  where
    unlisted : (q : Peer) → linked (left n p) q p ≡ false
    unlisted q = linked_left s p q p ∙ and_no (linked n q p) _ λ e. rw (eqb_same p.0) (and-false (not (eqb q.0 p.0)))

    unknown : (i : ℕ) → Dec (i < 1024) → has (get_or (left n p).known i 0) p.0 ≡ false
    unknown i (yes h) =
        let row : (peer (i / 32)).0 < 32 = omega arith in
        ap (λ (x : ℕ). has (get_or (left n p).known x 0) p.0) (sym (spot_of i))
        ∙ (left_sound s p).knows (peer (i / 32)) (topic (i % 32)) p row (omega arith)
        ∙ ap (λ (x : Bool). x && subscribed (left n p) p (topic (i % 32))) (unlisted (peer (i / 32)))
    unknown i (no h) = ap (λ (w : ℕ). has w p.0) (get_or-eq_default (left n p).known 0 (omega (arith, (left_sound s p).shaped.known))) ∙ has_none p.0

-- ---- after a join

-- In a sound network that p is absent from, p lists nobody.
alone : {n : Network} → Sound n → (p : Peer) → present n p ≡ false → p.0 < 32 → (q : Peer) → linked n p q ≡ false
alone s p gone hp q = ap (λ (w : ℕ). has w q.0) (s.empty p hp gone).neighbours ∙ has_none q.0

-- And nobody lists p.
unlisted_absent : {n : Network} → Sound n → (p : Peer) → present n p ≡ false → (q : Peer) → linked n q p ≡ false
unlisted_absent s p gone q = not_false λ h. clash (s.near q p h) gone

-- The links between p and `who`, seen from p.
from_p : (p : Peer) (who : ℕ) (q : Peer) → has who p.0 ≡ false → between p who p q ≡ has who q.0
from_p p who q self = rw (eqb_same p.0, self, and-false (eqb q.0 p.0)) (or-false (has who q.0))

-- Seen from the other side.
to_p : (p : Peer) (who : ℕ) (q : Peer) → has who p.0 ≡ false → between p who q p ≡ has who q.0
to_p p who q self = rw (eqb_same p.0, self, and-false (eqb q.0 p.0))

-- Between two others there is none.
elsewhere : (p : Peer) (who : ℕ) (q c : Peer) → (q.0 ≡ p.0 → ⊥) → (c.0 ≡ p.0 → ⊥) → between p who q c ≡ false
elsewhere p who q c d e = rw (ne_eqb d, ne_eqb e)

-- A join of p, with others that are present, in any sound network that p is absent from.
after_join : {n : Network} → Sound n → (p : Peer) (subs pubs who : ℕ) → present n p ≡ false → p.0 < 32 → has who p.0 ≡ false → minus who n.present ≡ 0
    → subs < 2 ^ 32 → pubs < 2 ^ 32 → who < 2 ^ 32 → AfterJoin n (joined n p subs pubs who) p subs pubs who
after_join {n} s p subs pubs who gone hp self within hs hb hw =
    record {
      sound = joined_sound s p subs pubs who gone hp self within hs hb hw;
      here = present_joined s p subs pubs who gone hp p ∙ or_right (present n p) (eqb_same p.0);
      lists = λ q. link p q ∙ ap₂ ◌||◌ (alone s p gone hp q) (from_p p who q self);
      listed = λ q. link q p ∙ ap₂ ◌||◌ (unlisted_absent s p gone q) (to_p p who q self);
      subscribes = λ t. subscribed_joined s p subs pubs who gone hp p t ∙ rw (eqb_same p.0);
      publishing = λ t. publishes_joined s p subs pubs who gone hp p t ∙ rw (eqb_same p.0);
      known = λ q t hq ht. know q t p hq ht ∙ rw (unlisted_absent s p gone q, to_p p who q self, eqb_same p.0);
      knowing = λ t q ht. know p t q hp ht ∙ rw (alone s p gone hp q, from_p p who q self) (named t q (eqb q.0 p.0) refl);
      nothing_pending = ap (λ (l : List ℕ). get_or l p.0 0) (pending_joined s p subs pubs who gone hp) ∙ (s.empty p hp gone).pending;
      nothing_seen = ap (λ (l : List ℕ). get_or l p.0 0) (seen_joined s p subs pubs who gone hp) ∙ (s.empty p hp gone).seen;
      apart = record {
        same_present = λ q d. present_joined s p subs pubs who gone hp q ∙ rw (ne_eqb d) (or-false (present n q));
        same_publishes = λ q t d. publishes_joined s p subs pubs who gone hp q t ∙ rw (ne_eqb d);
        same_subscribed = λ q t d. subscribed_joined s p subs pubs who gone hp q t ∙ rw (ne_eqb d);
        same_linked = λ q c d e. link q c ∙ rw (elsewhere p who q c d e) (or-false (linked n q c));
        same_knows = λ q t c hq ht d e. know q t c hq ht ∙ rw (elsewhere p who q c d e, ne_eqb e, or-false (linked n q c)) (sym (s.knows q t c hq ht));
        same_pending = λ q k d. ap (λ (l : List ℕ). has (get_or l q.0 0) k.0) (pending_joined s p subs pubs who gone hp);
        same_saw = λ q k d. ap (λ (l : List ℕ). has (get_or l q.0 0) k.0) (seen_joined s p subs pubs who gone hp);
      };
    }
  where
    link : (a c : Peer) → linked (joined n p subs pubs who) a c ≡ linked n a c || between p who a c
    link = linked_joined s p subs pubs who gone hp hs hb hw

    know : (a : Peer) (t : Topic) (c : Peer) → a.0 < 32 → t.0 < 32
        → knows (joined n p subs pubs who) a t c ≡ (linked n a c || between p who a c) && cond (eqb c.0 p.0) (has subs t.0) (subscribed n c t)
    know = knows_joined s p subs pubs who gone hp self within hs hb hw

    named : (t : Topic) (q : Peer) (b : Bool) → eqb q.0 p.0 ≡ b → has who q.0 && cond b (has subs t.0) (subscribed n q t) ≡ has who q.0 && subscribed n q t
    named t q true e = rw (eqb-true q.0 p.0 e, self)
    named t q false e = refl

-- THE PAGE IS TRUE of every sound network.
pub accident : {n : Network} → Sound n → Accident n
accident s =
    record {
      after_leave = after_leave s;
      after_join = λ p subs pubs who hp gone. after_join s p subs pubs who gone hp;
      number_given_again = λ p subs pubs who hp. after_join (left_sound s p) p subs pubs who (after_leave s p hp).absent hp;
    }
