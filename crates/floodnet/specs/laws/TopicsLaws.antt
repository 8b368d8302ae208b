-- Subscribe and unsubscribe in observations: what each changes, that a sound network stays sound, and that topics which change
-- nothing leave the network as it was. Assumes nothing.
use Rattle.std.specs.Prelude.{◌≡◌, refl, ◌⊎◌, Bool, true, false, not, cond, ◌&&◌, ◌||◌, List, ℕ, ◌/◌, ◌%◌, ◌^◌, ◌<◌, eqb, get_or, set}
use Rattle.std.proofs.Common.{sym, ap, ap₂, ◌∙◌, inl, inr, arith, eqb-true, get_or-set_other}
use Rattle.std.proofs.Math.Bool.{and-true, and-false, or-false}
use Rattle.std.proofs.lemmas.List.{set-get_or}
use Rattle.sets.specs.Set.{has, union, minus, only, when, puts, strikes, with_if}
use Rattle.sets.proofs.laws.Bools.{either, clash, and_both, and_yes, or_right, and_eqb}
use Rattle.sets.proofs.laws.Members.{has_union, has_minus, has_none}
use Rattle.sets.proofs.laws.Bounds.{union_lt, minus_lt}
use Rattle.sets.proofs.laws.Build.{has_with_if, has_without_if, with_if_lt, strikes_lt}
use Rattle.sets.proofs.laws.Lowest.{none_empty}
use Rattle.sets.proofs.laws.Sizes.{with_member, without_stranger}
use Rattle.lists.specs.laws.Edit.{edit_none}
use Rattle.network.specs.declared.Peer.{Peer}
use Rattle.network.specs.declared.Topic.{Topic}
use Rattle.network.specs.declared.Network.{Network}
use Rattle.network.specs.Network.{with_subs, with_known, peer, topic, subs_of, neighbours_of, known_of, present, linked, subscribed, knows, Shaped}
use Rattle.network.specs.Sound.{Sound, Empty}
use Rattle.network.specs.laws.SoundLaws.{linked_other}
use Rattle.floodnet.specs.Topics.{noted, struck, subscribed_to, unsubscribed_from}
use Rattle.floodnet.specs.laws.Places.{eqb_sym, get_or_set, spot_of, edit_spot}
use Rattle.floodnet.specs.laws.Keeping.{stored, edited, shaped_subs, shaped_known, linked_turn}

-- ---- the observations, one law each

-- What neither changes: who is present, what is published, the links, the messages pending and seen.
pub record SameButTopics (n m : Network) : Type 0 where
  pub present : m.present ≡ n.present
  pub pubs : m.pubs ≡ n.pubs
  pub neighbours : m.neighbours ≡ n.neighbours
  pub pending : m.pending ≡ n.pending
  pub seen : m.seen ≡ n.seen

-- A subscribe changes nothing else.
pub subscribed_rest : (n : Network) (p : Peer) (topics : ℕ) → SameButTopics n (subscribed_to n p topics)
unfolding subscribed_to
subscribed_rest n p topics = record { present = refl; pubs = refl; neighbours = refl; pending = refl; seen = refl }

-- Nor does an unsubscribe.
pub unsubscribed_rest : (n : Network) (p : Peer) (topics : ℕ) → SameButTopics n (unsubscribed_from n p topics)
unfolding unsubscribed_from
unsubscribed_rest n p topics = record { present = refl; pubs = refl; neighbours = refl; pending = refl; seen = refl }

-- p is subscribed to the topics too.
pub subscribed_more : {n : Network} → Shaped n → (p : Peer) (topics : ℕ) → p.0 < 32 → (q : Peer) (t : Topic)
    → subscribed (subscribed_to n p topics) q t ≡ subscribed n q t || (eqb q.0 p.0 && has topics t.0)
unfolding subscribed_to
subscribed_more {n} s p topics hp q t =
    ap (λ (w : ℕ). has w t.0) (get_or_set n.subs p.0 q.0 (union (subs_of n p) topics) (omega (arith, s.subs)))
    ∙ go (eqb q.0 p.0) refl
  where
    go : (b : Bool) → eqb q.0 p.0 ≡ b → has (cond b (union (subs_of n p) topics) (subs_of n q)) t.0 ≡ subscribed n q t || (b && has topics t.0)
    go true e = has_union (subs_of n p) topics t.0 ∙ ap (λ (x : ℕ). has (get_or n.subs x 0) t.0 || has topics t.0) (sym (eqb-true q.0 p.0 e))
    go false e = sym (or-false (subscribed n q t))

-- Each neighbour of p knows p for the topics too.
pub knows_more : {n : Network} → Shaped n → (p : Peer) (topics : ℕ) (q : Peer) (t : Topic) (c : Peer) → q.0 < 32 → t.0 < 32
    → knows (subscribed_to n p topics) q t c ≡ knows n q t c || ((linked n p q && has topics t.0) && eqb p.0 c.0)
unfolding subscribed_to noted
knows_more {n} s p topics q t c hq ht =
    ap (λ (w : ℕ). has w c.0) (edit_spot (λ x y w. with_if (has (neighbours_of n p) x && has topics y) p.0 w) n.known q t s.known hq ht)
    ∙ has_with_if (linked n p q && has topics t.0) p.0 (known_of n q t) c.0

-- p is no longer subscribed to the topics.
pub subscribed_less : {n : Network} → Shaped n → (p : Peer) (topics : ℕ) → p.0 < 32 → (q : Peer) (t : Topic)
    → subscribed (unsubscribed_from n p topics) q t ≡ subscribed n q t && not (eqb q.0 p.0 && has topics t.0)
unfolding unsubscribed_from
subscribed_less {n} s p topics hp q t =
    ap (λ (w : ℕ). has w t.0) (get_or_set n.subs p.0 q.0 (minus (subs_of n p) topics) (omega (arith, s.subs)))
    ∙ go (eqb q.0 p.0) refl
  where
    go : (b : Bool) → eqb q.0 p.0 ≡ b → has (cond b (minus (subs_of n p) topics) (subs_of n q)) t.0 ≡ subscribed n q t && not (b && has topics t.0)
    go true e = has_minus (subs_of n p) topics t.0 ∙ ap (λ (x : ℕ). has (get_or n.subs x 0) t.0 && not (has topics t.0)) (sym (eqb-true q.0 p.0 e))
    go false e = sym (and-true (subscribed n q t))

-- No neighbour of p knows p for any of the topics.
pub knows_less : {n : Network} → Shaped n → (p : Peer) (topics : ℕ) (q : Peer) (t : Topic) (c : Peer) → q.0 < 32 → t.0 < 32
    → knows (unsubscribed_from n p topics) q t c ≡ knows n q t c && not ((linked n p q && has topics t.0) && eqb p.0 c.0)
unfolding unsubscribed_from struck
knows_less {n} s p topics q t c hq ht =
    ap (λ (w : ℕ). has w c.0) (edit_spot (λ x y w. when (has (neighbours_of n p) x && has topics y) (strikes (only p.0)) w) n.known q t s.known hq ht)
    ∙ has_without_if (linked n p q && has topics t.0) p.0 (known_of n q t) c.0

-- ---- other topics of p, and other known subscribers

-- n with these in their place
abbrev retopic : Network → Peer → ℕ → List ℕ → Network
retopic n p v known = with_known (with_subs n (set n.subs p.0 v)) known

-- It is sound, if p is present and the known subscribers are the neighbours that subscribe.
retopic_sound : {n : Network} (p : Peer) (v : ℕ) (known : List ℕ) → Sound n → present n p ≡ true → Shaped (retopic n p v known)
    → ((q : Peer) (t : Topic) (c : Peer) → q.0 < 32 → t.0 < 32 → knows (retopic n p v known) q t c ≡ linked n q c && subscribed (retopic n p v known) c t)
    → Sound (retopic n p v known)
retopic_sound {n} p v known s here shape law =
    record {
      shaped = shape;
      empty = empty;
      own = s.own;
      near = s.near;
      back = s.back;
      knows = law;
      apart = s.apart;
    }
  where
    other : (q : Peer) → present n q ≡ false → q.0 ≡ p.0 → ⊥
    other q a e = clash here (ap (has n.present) (sym e) ∙ a)

    empty : (q : Peer) → q.0 < 32 → present n q ≡ false → Empty (retopic n p v known) q
    empty q b a =
        let e = s.empty q b a in
        record {
          pubs = e.pubs;
          subs = get_or-set_other n.subs p.0 q.0 v 0 (other q a) ∙ e.subs;
          neighbours = e.neighbours;
          pending = e.pending;
          seen = e.seen;
          known = λ t ht. none_empty _ λ i.
              law q t (peer i) b ht
              ∙ ap (λ (w : ℕ). has w i && subscribed (retopic n p v known) (peer i) t) e.neighbours
              ∙ ap (λ (x : Bool). x && subscribed (retopic n p v known) (peer i) t) (has_none i);
        }

-- ---- shape and soundness stay

-- A subscribe keeps the shape.
pub subscribed_shaped : {n : Network} → Shaped n → (p : Peer) (topics : ℕ) → p.0 < 32 → topics < 2 ^ 32 → Shaped (subscribed_to n p topics)
unfolding subscribed_to noted
subscribed_shaped {n} s p topics hp ht =
    shaped_known (shaped_subs s (stored n.subs p.0 _ s.subs s.subs_fit (union_lt 32 (subs_of n p) topics (s.subs_fit p.0) ht)))
    (edited _ n.known s.known s.known_fit λ i. with_if_lt 32 _ p.0 (get_or n.known i 0) hp (s.known_fit i))

-- So does an unsubscribe.
pub unsubscribed_shaped : {n : Network} → Shaped n → (p : Peer) (topics : ℕ) → Shaped (unsubscribed_from n p topics)
unfolding unsubscribed_from struck
unsubscribed_shaped {n} s p topics =
    shaped_known (shaped_subs s (stored n.subs p.0 _ s.subs s.subs_fit (minus_lt 32 (subs_of n p) topics (s.subs_fit p.0))))
    (edited _ n.known s.known s.known_fit λ i. strikes_lt 32 _ (only p.0) (get_or n.known i 0) (s.known_fit i))

-- q lists p exactly where p lists q; and where c is p, it lists c.
turned : {n : Network} → Sound n → (p q c : Peer) → linked n p q && eqb p.0 c.0 ≡ linked n q c && eqb p.0 c.0
turned {n} s p q c = ap (λ (x : Bool). x && eqb p.0 c.0) (linked_turn s p q) ∙ sym (and_eqb (has (neighbours_of n q)) p.0 c.0)

-- A subscribe by a present peer keeps a network sound.
pub subscribed_sound : {n : Network} → Sound n → (p : Peer) (topics : ℕ) → present n p ≡ true → p.0 < 32 → topics < 2 ^ 32 → Sound (subscribed_to n p topics)
unfolding subscribed_to noted
subscribed_sound {n} s p topics here hp ht =
    retopic_sound p _ _ s here (subscribed_shaped s.shaped p topics hp ht) λ q t c hq b.
    knows_more s.shaped p topics q t c hq b
    ∙ ap (λ (x : Bool). x || ((linked n p q && has topics t.0) && eqb p.0 c.0)) (s.knows q t c hq b)
    ∙ go (linked n q c) (subscribed n c t) (has topics t.0) (eqb p.0 c.0) (linked n p q) (turned s p q c)
    ∙ ap (λ (x : Bool). linked n q c && (subscribed n c t || (x && has topics t.0))) (eqb_sym p.0 c.0)
    ∙ ap (λ (x : Bool). linked n q c && x) (sym (subscribed_more s.shaped p topics hp c t))
  where
    go : (l s t e a : Bool) → a && e ≡ l && e → (l && s) || ((a && t) && e) ≡ l && (s || (e && t))
    go l s t true a h = let x : a ≡ l = sym (and-true a) ∙ h ∙ and-true l in rw x (each l s t)
      where
        each : (l s t : Bool) → (l && s) || ((l && t) && true) ≡ l && (s || t)
        each true s t = ap (λ (x : Bool). s || x) (and-true t)
        each false s t = refl
    go l s t false a h = rw (and-false (a && t), or-false (l && s), or-false s)

-- So does an unsubscribe.
pub unsubscribed_sound : {n : Network} → Sound n → (p : Peer) (topics : ℕ) → present n p ≡ true → p.0 < 32 → Sound (unsubscribed_from n p topics)
unfolding unsubscribed_from struck
unsubscribed_sound {n} s p topics here hp =
    retopic_sound p _ _ s here (unsubscribed_shaped s.shaped p topics) λ q t c hq b.
    knows_less s.shaped p topics q t c hq b
    ∙ ap (λ (x : Bool). x && not ((linked n p q && has topics t.0) && eqb p.0 c.0)) (s.knows q t c hq b)
    ∙ go (linked n q c) (subscribed n c t) (has topics t.0) (eqb p.0 c.0) (linked n p q) (turned s p q c)
    ∙ ap (λ (x : Bool). linked n q c && (subscribed n c t && not (x && has topics t.0))) (eqb_sym p.0 c.0)
    ∙ ap (λ (x : Bool). linked n q c && x) (sym (subscribed_less s.shaped p topics hp c t))
  where
    go : (l s t e a : Bool) → a && e ≡ l && e → (l && s) && not ((a && t) && e) ≡ l && (s && not (e && t))
    go l s t true a h = let x : a ≡ l = sym (and-true a) ∙ h ∙ and-true l in rw x (each l s t)
      where
        each : (l s t : Bool) → (l && s) && not ((l && t) && true) ≡ l && (s && not t)
        each true s t = ap (λ (x : Bool). s && not x) (and-true t)
        each false s t = refl
    go l s t false a h = rw (and-false (a && t), and-true (l && s), and-true s)

-- ---- topics that change nothing

-- A place of `known` whose row is a peer's: its word is the peer's for the column's topic.
at_place : (n : Network) (i : ℕ) → known_of n (peer (i / 32)) (topic (i % 32)) ≡ get_or n.known i 0
at_place n i = ap (λ (x : ℕ). get_or n.known x 0) (spot_of i)

-- Topics to which p is subscribed already leave the network as it was.
pub subscribed_same : {n : Network} → Sound n → (p : Peer) (topics : ℕ) → union (subs_of n p) topics ≡ subs_of n p → subscribed_to n p topics ≡ n
unfolding subscribed_to noted when puts
subscribed_same {n} s p topics e =
    ap₂ (λ (x y : List ℕ). with_known (with_subs n x) y)
    (ap (set n.subs p.0) e ∙ set-get_or n.subs p.0 0)
    (sym (edit_none _ n.known λ i. go i (either (linked n p (peer (i / 32)) && has topics (i % 32)))))
  where
    old : (t : Topic) → has topics t.0 ≡ true → subscribed n p t ≡ true
    old t h = ap (λ (w : ℕ). has w t.0) (sym e) ∙ has_union (subs_of n p) topics t.0 ∙ or_right (subscribed n p t) h

    go : (i : ℕ) → let b = linked n p (peer (i / 32)) && has topics (i % 32) in (b ≡ true) ⊎ (b ≡ false) → with_if b p.0 (get_or n.known i 0) ≡ get_or n.known i 0
    go i (inl y) =
        let both = and_yes (linked n p (peer (i / 32))) (has topics (i % 32)) y in
        let q : Peer = peer (i / 32) in
        let t : Topic = topic (i % 32) in
        let known : knows n q t p ≡ true = s.knows q t p (linked_other s.shaped p q both.0) (omega arith) ∙ and_both (s.back p q both.0) (old t both.1) in
        rw y (with_member (get_or n.known i 0) p.0 (ap (λ (w : ℕ). has w p.0) (sym (at_place n i)) ∙ known))
    go i (inr y) = rw y

-- Topics to none of which p is subscribed leave the network as it was.
pub unsubscribed_same : {n : Network} → Sound n → (p : Peer) (topics : ℕ) → minus (subs_of n p) topics ≡ subs_of n p → unsubscribed_from n p topics ≡ n
unfolding unsubscribed_from struck when strikes
unsubscribed_same {n} s p topics e =
    ap₂ (λ (x y : List ℕ). with_known (with_subs n x) y)
    (ap (set n.subs p.0) e ∙ set-get_or n.subs p.0 0)
    (sym (edit_none _ n.known λ i. go i (either (linked n p (peer (i / 32)) && has topics (i % 32)))))
  where
    old : (t : Topic) → has topics t.0 ≡ true → subscribed n p t ≡ false
    old t h = ap (λ (w : ℕ). has w t.0) (sym e) ∙ has_minus (subs_of n p) topics t.0 ∙ rw h (and-false (subscribed n p t))

    go : (i : ℕ) → let b = linked n p (peer (i / 32)) && has topics (i % 32) in (b ≡ true) ⊎ (b ≡ false) → when b (strikes (only p.0)) (get_or n.known i 0) ≡ get_or n.known i 0
    go i (inl y) =
        let both = and_yes (linked n p (peer (i / 32))) (has topics (i % 32)) y in
        let q : Peer = peer (i / 32) in
        let t : Topic = topic (i % 32) in
        let known : knows n q t p ≡ false = s.knows q t p (linked_other s.shaped p q both.0) (omega arith) ∙ rw (old t both.1) (and-false (linked n q p)) in
        rw y (without_stranger (get_or n.known i 0) p.0 (ap (λ (w : ℕ). has w p.0) (sym (at_place n i)) ∙ known))
    go i (inr y) = rw y
