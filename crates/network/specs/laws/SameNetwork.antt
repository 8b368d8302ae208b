-- Two networks with equal observations are equal: nothing is in the working state but what can be observed. Assumes nothing.
use Rattle.std.specs.Prelude.{◌≡◌, List, ℕ, ◌+◌, ◌*◌, ◌/◌, ◌%◌, ◌^◌, ◌<◌, length, get_or}
use Rattle.std.proofs.Common.{sym, ◌∙◌, arith, ext_get_or}
use Rattle.sets.specs.Set.{has}
use Rattle.sets.proofs.laws.Members.{ext_below}
use Rattle.network.specs.declared.Peer.{Peer}
use Rattle.network.specs.declared.Topic.{Topic}
use Rattle.network.specs.declared.Message.{Message}
use Rattle.network.specs.declared.Network.{Network}
use Rattle.network.specs.Network.{peer, topic, message, mk, present, publishes, subscribed, linked, pending, saw, knows, Shaped}

-- networks with equal parts
pub mk_same : {a a' : ℕ} {b b' c c' d d' e e' f f' g g' : List ℕ} → a ≡ a' → b ≡ b' → c ≡ c' → d ≡ d' → e ≡ e' → f ≡ f' → g ≡ g' → mk a b c d e f g ≡ mk a' b' c' d' e' f' g'
mk_same p q r s t u v = cc

-- equal observations, of the peers, topics and messages that there are
pub record Same (m n : Network) : Type 0 where
  pub present : (p : Peer) → p.0 < 32 → present m p ≡ present n p
  pub publishes : (p : Peer) (t : Topic) → p.0 < 32 → t.0 < 32 → publishes m p t ≡ publishes n p t
  pub subscribed : (p : Peer) (t : Topic) → p.0 < 32 → t.0 < 32 → subscribed m p t ≡ subscribed n p t
  pub linked : (p q : Peer) → p.0 < 32 → q.0 < 32 → linked m p q ≡ linked n p q
  pub pending : (p : Peer) (x : Message) → p.0 < 32 → x.0 < 64 → pending m p x ≡ pending n p x
  pub saw : (p : Peer) (x : Message) → p.0 < 32 → x.0 < 64 → saw m p x ≡ saw n p x
  pub knows : (p : Peer) (t : Topic) (q : Peer) → p.0 < 32 → t.0 < 32 → q.0 < 32 → knows m p t q ≡ knows n p t q

-- lists of words of w bits, with the same members at each place
sets_same : (k w : ℕ) (l r : List ℕ) → length l ≡ k → length r ≡ k → ((i : ℕ) → get_or l i 0 < 2 ^ w) → ((i : ℕ) → get_or r i 0 < 2 ^ w)
    → ((i j : ℕ) → i < k → j < w → has (get_or l i 0) j ≡ has (get_or r i 0) j) → l ≡ r
sets_same k w l r el er fl fr h = ext_get_or 0 l r (el ∙ sym er) λ i b. ext_below w _ _ (fl i) (fr i) λ j c. h i j (omega arith) c

pub same_network : {m n : Network} → Shaped m → Shaped n → Same m n → m ≡ n
same_network {m} {n} s t h =
    mk_same
    (ext_below 32 _ _ s.present t.present λ i b. h.present (peer i) b)
    (sets_same 32 32 _ _ s.pubs t.pubs s.pubs_fit t.pubs_fit λ i j b c. h.publishes (peer i) (topic j) b c)
    (sets_same 32 32 _ _ s.subs t.subs s.subs_fit t.subs_fit λ i j b c. h.subscribed (peer i) (topic j) b c)
    (sets_same 32 32 _ _ s.neighbours t.neighbours s.neighbours_fit t.neighbours_fit λ i j b c. h.linked (peer i) (peer j) b c)
    (sets_same 32 64 _ _ s.pending t.pending s.pending_fit t.pending_fit λ i j b c. h.pending (peer i) (message j) b c)
    (sets_same 32 64 _ _ s.seen t.seen s.seen_fit t.seen_fit λ i j b c. h.saw (peer i) (message j) b c)
    (sets_same 1024 32 _ _ s.known t.known s.known_fit t.known_fit λ i j b c. known i j b c)
  where
    known : (i j : ℕ) → i < 1024 → j < 32 → has (get_or m.known i 0) j ≡ has (get_or n.known i 0) j
    known i j b c =
        let e : i / 32 * 32 + i % 32 ≡ i = omega arith in
        rw e at (h.knows (peer (i / 32)) (topic (i % 32)) (peer j) (omega arith) (omega arith) c)
