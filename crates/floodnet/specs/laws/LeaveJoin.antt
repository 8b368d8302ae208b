-- Leave and join in observations: what each changes, and that a sound network stays sound. Assumes nothing.
use Rattle.std.specs.Prelude.{◌≡◌, refl, Bool, true, false, not, cond, ◌&&◌, ◌||◌, ℕ, ◌^◌, ◌<◌, eqb}
use Rattle.std.proofs.Common.{sym, ap, ap₂, ◌∙◌, eqb-true}
use Rattle.std.proofs.Math.Bool.{and-true, and-false, and-not_self}
use Rattle.sets.specs.Set.{has, union, minus, only}
use Rattle.sets.proofs.laws.Bools.{and_both, and_no, eqb_same, or_right}
use Rattle.sets.proofs.laws.Members.{has_with}
use Rattle.sets.proofs.laws.Subsets.{subset_of_minus, minus_of_subset, subset_trans, subset_union}
use Rattle.network.specs.declared.Peer.{Peer}
use Rattle.network.specs.declared.Topic.{Topic}
use Rattle.network.specs.declared.Message.{Message}
use Rattle.network.specs.declared.Network.{Network}
use Rattle.network.specs.Network.{neighbours_of, present, publishes, subscribed, linked, pending, saw, knows}
use Rattle.network.specs.Sound.{Sound, Empty}
use Rattle.floodnet.specs.Links.{link_up, link_down, placed, left, joined}
use Rattle.floodnet.specs.laws.Keeping.{linked_turn}
use Rattle.floodnet.specs.laws.LinksLaws.{between, link_up_sound, link_down_sound, linked_up_all, linked_down_all}
use Rattle.floodnet.specs.laws.RecordLaws.{present_cleared, publishes_cleared, subscribed_cleared, linked_cleared, pending_cleared, saw_cleared, cleared_sound, cleared_absent, present_placed, publishes_placed, subscribed_placed, placed_shaped, placed_sound}

-- ---- leave

-- Neither of the two is p.
abbrev pub others : Peer → Peer → Peer → Bool
others p a c = not (eqb a.0 p.0) && not (eqb c.0 p.0)

-- p is absent. Here and in the laws that follow, what the others have is as it was.
pub present_left : (n : Network) (p q : Peer) → present (left n p) q ≡ present n q && not (eqb q.0 p.0)
unfolding left link_down
present_left n p q = present_cleared (link_down n p (neighbours_of n p)) p q

-- p publishes nothing.
pub publishes_left : (n : Network) (p q : Peer) (t : Topic) → publishes (left n p) q t ≡ not (eqb q.0 p.0) && publishes n q t
unfolding left link_down
publishes_left n p q t = publishes_cleared (link_down n p (neighbours_of n p)) p q t

-- p subscribes to nothing.
pub subscribed_left : (n : Network) (p q : Peer) (t : Topic) → subscribed (left n p) q t ≡ not (eqb q.0 p.0) && subscribed n q t
unfolding left link_down
subscribed_left n p q t = subscribed_cleared (link_down n p (neighbours_of n p)) p q t

-- Nothing is pending at p.
pub pending_left : (n : Network) (p q : Peer) (m : Message) → pending (left n p) q m ≡ not (eqb q.0 p.0) && pending n q m
unfolding left link_down
pending_left n p q m = pending_cleared (link_down n p (neighbours_of n p)) p q m

-- p has seen nothing.
pub saw_left : (n : Network) (p q : Peer) (m : Message) → saw (left n p) q m ≡ not (eqb q.0 p.0) && saw n q m
unfolding left link_down
saw_left n p q m = saw_cleared (link_down n p (neighbours_of n p)) p q m

-- Once p and its neighbours have forgotten each other, nobody lists p.
forgotten : {n : Network} → Sound n → (p q : Peer) → linked (link_down n p (neighbours_of n p)) q p ≡ false
forgotten {n} s p q =
    linked_down_all s.shaped p (neighbours_of n p) q p
    ∙ and_no (linked n q p) _ λ h. ap not (or_right (eqb q.0 p.0 && linked n p p) (and_both (eqb_same p.0) (s.back q p h)))

-- A sound network stays sound.
pub left_sound : {n : Network} → Sound n → (p : Peer) → Sound (left n p)
unfolding left
left_sound {n} s p = cleared_sound (link_down_sound s p (neighbours_of n p)) p (forgotten s p)

-- The links that were there, but for p's.
pub linked_left : {n : Network} → Sound n → (p a c : Peer) → linked (left n p) a c ≡ linked n a c && others p a c
unfolding left
linked_left {n} s p a c =
    linked_cleared (link_down n p (neighbours_of n p)) p a c
    ∙ ap (λ (x : Bool). not (eqb a.0 p.0) && x) (linked_down_all s.shaped p (neighbours_of n p) a c)
    ∙ go (eqb a.0 p.0) (linked n a c) (linked n p c) (eqb c.0 p.0) (linked n p a) refl λ e. ap (has (neighbours_of n a)) (eqb-true c.0 p.0 e) ∙ linked_turn s a p
  where
    go : (x l y z u : Bool) → eqb c.0 p.0 ≡ z → (z ≡ true → l ≡ u) → not x && (l && not ((x && y) || (z && u))) ≡ l && (not x && not z)
    go true l y z u e f = sym (and-false l)
    go false l y false u e f = refl
    go false l y true u e f = rw (f refl) (and-not_self u ∙ sym (and-false u))

-- What was known, but for what p knew and who knew p.
pub knows_left : {n : Network} → Sound n → (p a : Peer) (t : Topic) (c : Peer) → a.0 < 32 → t.0 < 32 → knows (left n p) a t c ≡ knows n a t c && others p a c
knows_left {n} s p a t c ha ht =
    (left_sound s p).knows a t c ha ht
    ∙ ap₂ ◌&&◌ (linked_left s p a c) (subscribed_left n p c t)
    ∙ go (linked n a c) (not (eqb a.0 p.0)) (not (eqb c.0 p.0)) (subscribed n c t)
    ∙ ap (λ (x : Bool). x && others p a c) (sym (s.knows a t c ha ht))
  where
    go : (l x y w : Bool) → (l && (x && y)) && (y && w) ≡ (l && w) && (x && y)
    go false x y w = refl
    go true false y w = sym (and-false w)
    go true true false w = sym (and-false w)
    go true true true w = sym (and-true w)

-- The record of p is empty.
pub left_empty : {n : Network} → Sound n → (p : Peer) → p.0 < 32 → Empty (left n p) p
left_empty {n} s p hp = (left_sound s p).empty p hp (present_left n p p ∙ and_no (present n p) _ λ e. ap not (eqb_same p.0))

-- ---- join

-- In a sound network that p is absent from, a join makes p's record and then the links.
pub joined_is : {n : Network} → Sound n → (p : Peer) (subs pubs who : ℕ) → present n p ≡ false → p.0 < 32
    → joined n p subs pubs who ≡ link_up (placed n p subs pubs) p who
unfolding joined
joined_is s p subs pubs who gone hp = rw (cleared_absent s p hp gone)

-- p is present. Here and in the two laws that follow, what the others have is as it was.
pub present_joined : {n : Network} → Sound n → (p : Peer) (subs pubs who : ℕ) → present n p ≡ false → p.0 < 32 → (q : Peer)
    → present (joined n p subs pubs who) q ≡ present n q || eqb q.0 p.0
unfolding link_up
present_joined {n} s p subs pubs who gone hp q = ap (λ (m : Network). present m q) (joined_is s p subs pubs who gone hp) ∙ present_placed n p subs pubs q

-- p publishes `pubs`.
pub publishes_joined : {n : Network} → Sound n → (p : Peer) (subs pubs who : ℕ) → present n p ≡ false → p.0 < 32 → (q : Peer) (t : Topic)
    → publishes (joined n p subs pubs who) q t ≡ cond (eqb q.0 p.0) (has pubs t.0) (publishes n q t)
unfolding link_up
publishes_joined {n} s p subs pubs who gone hp q t =
    ap (λ (m : Network). publishes m q t) (joined_is s p subs pubs who gone hp) ∙ publishes_placed s.shaped p subs pubs hp q t

-- p subscribes to `subs`.
pub subscribed_joined : {n : Network} → Sound n → (p : Peer) (subs pubs who : ℕ) → present n p ≡ false → p.0 < 32 → (q : Peer) (t : Topic)
    → subscribed (joined n p subs pubs who) q t ≡ cond (eqb q.0 p.0) (has subs t.0) (subscribed n q t)
unfolding link_up
subscribed_joined {n} s p subs pubs who gone hp q t =
    ap (λ (m : Network). subscribed m q t) (joined_is s p subs pubs who gone hp) ∙ subscribed_placed s.shaped p subs pubs hp q t

-- The messages pending are as they were: none at p.
pub pending_joined : {n : Network} → Sound n → (p : Peer) (subs pubs who : ℕ) → present n p ≡ false → p.0 < 32 → (joined n p subs pubs who).pending ≡ n.pending
unfolding link_up placed
pending_joined s p subs pubs who gone hp = ap (λ (m : Network). m.pending) (joined_is s p subs pubs who gone hp)

-- And so are the messages seen.
pub seen_joined : {n : Network} → Sound n → (p : Peer) (subs pubs who : ℕ) → present n p ≡ false → p.0 < 32 → (joined n p subs pubs who).seen ≡ n.seen
unfolding link_up placed
seen_joined s p subs pubs who gone hp = ap (λ (m : Network). m.seen) (joined_is s p subs pubs who gone hp)

-- The links that were there, and those between p and `who`.
pub linked_joined : {n : Network} → Sound n → (p : Peer) (subs pubs who : ℕ) → present n p ≡ false → p.0 < 32 → subs < 2 ^ 32 → pubs < 2 ^ 32 → who < 2 ^ 32 → (a c : Peer)
    → linked (joined n p subs pubs who) a c ≡ linked n a c || between p who a c
unfolding placed
linked_joined {n} s p subs pubs who gone hp hs hb hw a c =
    ap (λ (m : Network). linked m a c) (joined_is s p subs pubs who gone hp) ∙ linked_up_all (placed_shaped s.shaped p subs pubs hp hs hb) p who hp hw a c

-- A sound network stays sound.
pub joined_sound : {n : Network} → Sound n → (p : Peer) (subs pubs who : ℕ) → present n p ≡ false → p.0 < 32 → has who p.0 ≡ false → minus who n.present ≡ 0
    → subs < 2 ^ 32 → pubs < 2 ^ 32 → who < 2 ^ 32 → Sound (joined n p subs pubs who)
unfolding placed
joined_sound {n} s p subs pubs who gone hp self within hs hb hw =
    rw (joined_is s p subs pubs who gone hp)
    (link_up_sound (placed_sound s p subs pubs gone hp hs hb) p who (has_with n.present p.0) hp self
    (minus_of_subset who (union n.present (only p.0)) (subset_trans who n.present (union n.present (only p.0)) (subset_of_minus who n.present within) (subset_union n.present (only p.0)))) hw)

-- What was known; and of the two sides of each link that p makes, each for the other's topics.
pub knows_joined : {n : Network} → Sound n → (p : Peer) (subs pubs who : ℕ) → present n p ≡ false → p.0 < 32 → has who p.0 ≡ false → minus who n.present ≡ 0
    → subs < 2 ^ 32 → pubs < 2 ^ 32 → who < 2 ^ 32 → (a : Peer) (t : Topic) (c : Peer) → a.0 < 32 → t.0 < 32
    → knows (joined n p subs pubs who) a t c ≡ (linked n a c || between p who a c) && cond (eqb c.0 p.0) (has subs t.0) (subscribed n c t)
knows_joined {n} s p subs pubs who gone hp self within hs hb hw a t c ha ht =
    (joined_sound s p subs pubs who gone hp self within hs hb hw).knows a t c ha ht
    ∙ ap₂ ◌&&◌ (linked_joined s p subs pubs who gone hp hs hb hw a c) (subscribed_joined s p subs pubs who gone hp c t)
