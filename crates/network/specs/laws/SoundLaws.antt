-- What every sound network has: what is observed is of peers, topics and messages in range, and only a present peer has anything.
-- The laws over `Shaped` hold of any network that code can hold. Assumes nothing.
use Rattle.std.specs.Prelude.{◌≡◌, refl, Bool, true, false, List, ℕ, ◌≤◌, ◌<◌, length, get_or}
use Rattle.std.proofs.Common.{sym, ap, ◌∙◌, lt_of_not-le}
use Rattle.std.proofs.Math.ListN.{get_or-eq_default}
use Rattle.sets.specs.Set.{has}
use Rattle.sets.proofs.laws.Bools.{clash, and_yes}
use Rattle.sets.proofs.laws.Members.{has_none}
use Rattle.sets.proofs.laws.Bounds.{has_in}
use Rattle.network.specs.declared.Peer.{Peer}
use Rattle.network.specs.declared.Topic.{Topic}
use Rattle.network.specs.declared.Message.{Message}
use Rattle.network.specs.declared.Network.{Network}
use Rattle.network.specs.Network.{present, subscribed, linked, pending, saw, knows, Shaped}
use Rattle.network.specs.Sound.{Empty, Sound}

-- ---- in range

-- a word that has a member stands within its list
within : (l : List ℕ) (k i j : ℕ) → length l ≡ k → has (get_or l i 0) j ≡ true → i < k
within l k i j e h = lt_of_not-le λ (o : k ≤ i). clash h (ap (λ (w : ℕ). has w j) (get_or-eq_default l 0 (rw e o)) ∙ has_none j)

-- a present peer is one of the 32
pub present_peer : {n : Network} → Shaped n → (p : Peer) → present n p ≡ true → p.0 < 32
present_peer s p h = has_in 32 _ _ s.present h

-- who subscribes
pub subscribed_peer : {n : Network} → Shaped n → (p : Peer) (t : Topic) → subscribed n p t ≡ true → p.0 < 32
subscribed_peer {n} s p t h = within n.subs 32 p.0 t.0 s.subs h

-- who lists whom
pub linked_peer : {n : Network} → Shaped n → (p q : Peer) → linked n p q ≡ true → p.0 < 32
linked_peer {n} s p q h = within n.neighbours 32 p.0 q.0 s.neighbours h

pub linked_other : {n : Network} → Shaped n → (p q : Peer) → linked n p q ≡ true → q.0 < 32
linked_other s p q h = has_in 32 _ _ (s.neighbours_fit p.0) h

-- where which message is pending
pub pending_peer : {n : Network} → Shaped n → (p : Peer) (m : Message) → pending n p m ≡ true → p.0 < 32
pending_peer {n} s p m h = within n.pending 32 p.0 m.0 s.pending h

pub pending_message : {n : Network} → Shaped n → (p : Peer) (m : Message) → pending n p m ≡ true → m.0 < 64
pending_message s p m h = has_in 64 _ _ (s.pending_fit p.0) h

-- who saw which message
pub saw_peer : {n : Network} → Shaped n → (p : Peer) (m : Message) → saw n p m ≡ true → p.0 < 32
saw_peer {n} s p m h = within n.seen 32 p.0 m.0 s.seen h

pub saw_message : {n : Network} → Shaped n → (p : Peer) (m : Message) → saw n p m ≡ true → m.0 < 64
saw_message s p m h = has_in 64 _ _ (s.seen_fit p.0) h

-- ---- only a present peer has anything

-- a peer of which a word that is 0 for the absent has a member is present
has_present : {n : Network} (s : Sound n) (p : Peer) (w i : ℕ) → p.0 < 32 → (Empty n p → w ≡ 0) → has w i ≡ true → present n p ≡ true
has_present {n} s p w i b e h = go (present n p) λ a. clash h (ap (λ (x : ℕ). has x i) (e (s.empty p b a)) ∙ has_none i)
  where
    go : (x : Bool) → (x ≡ false → x ≡ true) → x ≡ true
    go true f = refl
    go false f = f refl

-- whoever subscribes is present
pub subscribed_present : {n : Network} → Sound n → (p : Peer) (t : Topic) → subscribed n p t ≡ true → present n p ≡ true
subscribed_present s p t h = has_present s p _ _ (subscribed_peer s.shaped p t h) (λ e. e.subs) h

pub pending_present : {n : Network} → Sound n → (p : Peer) (m : Message) → pending n p m ≡ true → present n p ≡ true
pending_present s p m h = has_present s p _ _ (pending_peer s.shaped p m h) (λ e. e.pending) h

pub saw_present : {n : Network} → Sound n → (p : Peer) (m : Message) → saw n p m ≡ true → present n p ≡ true
saw_present s p m h = has_present s p _ _ (saw_peer s.shaped p m h) (λ e. e.seen) h

-- ---- "the known subscribers are exactly the neighbours subscribed to t"

pub knows_both : {n : Network} → Sound n → (p : Peer) (t : Topic) (q : Peer) → p.0 < 32 → t.0 < 32 → knows n p t q ≡ true → (linked n p q ≡ true) × (subscribed n q t ≡ true)
knows_both {n} s p t q bp bt h = and_yes (linked n p q) (subscribed n q t) (sym (s.knows p t q bp bt) ∙ h)

pub knows_linked : {n : Network} → Sound n → (p : Peer) (t : Topic) (q : Peer) → p.0 < 32 → t.0 < 32 → knows n p t q ≡ true → linked n p q ≡ true
knows_linked s p t q bp bt h = (knows_both s p t q bp bt h).0

pub knows_present : {n : Network} → Sound n → (p : Peer) (t : Topic) (q : Peer) → p.0 < 32 → t.0 < 32 → knows n p t q ≡ true → present n q ≡ true
knows_present s p t q bp bt h = s.near p q (knows_linked s p t q bp bt h)
