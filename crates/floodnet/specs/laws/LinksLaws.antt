-- "Both sides record" and "both sides forget" (specs/Links.antt) in observations: what each changes, and that a sound network stays sound. Nothing
-- is asked of whether the links were there before. Assumes nothing.
use Rattle.std.specs.Prelude.{◌≡◌, refl, ◌⊎◌, Bool, true, false, not, ◌&&◌, ◌||◌, List, ℕ, ◌^◌, ◌≤◌, ◌<◌, eqb, get_or}
use Rattle.std.proofs.Common.{sym, ap, ap₂, ◌∙◌, inl, inr, ⊎_elim, arith, eqb-true}
use Rattle.std.proofs.Math.Bool.{and-true, and-false, and_comm, or-false, or_comm, or_assoc, or_self, and_assoc, and-or_distrib_right}
use Rattle.std.proofs.Math.Decide.{dec_lt}
use Rattle.sets.specs.Set.{has, minus, only, when, puts, strikes, with_if, sift, Subset}
use Rattle.sets.proofs.laws.Bools.{clash, not_false, and_yes, and_no, or_yes, ne_eqb, and_eqb}
use Rattle.sets.proofs.laws.Members.{has_none}
use Rattle.sets.proofs.laws.Bounds.{has_out}
use Rattle.sets.proofs.laws.Build.{has_puts, has_strikes, has_with_if, has_without_if, puts_lt, strikes_lt, with_if_lt, has_sifted, sift_lt}
use Rattle.sets.proofs.laws.Lowest.{none_empty}
use Rattle.sets.proofs.laws.Subsets.{subset_of_minus}
use Rattle.lists.specs.laws.Edit.{get_or_edit, get_or_edit_out}
use Rattle.network.specs.declared.Peer.{Peer}
use Rattle.network.specs.declared.Topic.{Topic}
use Rattle.network.specs.declared.Network.{Network}
use Rattle.network.specs.Network.{with_neighbours, with_known, peer, topic, subs_of, neighbours_of, known_of, present, linked, subscribed, knows, Shaped}
use Rattle.network.specs.Sound.{Sound}
use Rattle.network.specs.laws.SoundLaws.{linked_peer}
use Rattle.floodnet.specs.Links.{link_up, link_down}
use Rattle.floodnet.specs.laws.Places.{eqb_sym, edit_spot}
use Rattle.floodnet.specs.laws.Keeping.{edited, shaped_neighbours, shaped_known, linked_turn}

-- One of a and c is p, and the other is of `who`: the link is one of those that are recorded or forgotten.
abbrev pub between : Peer → ℕ → Peer → Peer → Bool
between p who a c = (eqb a.0 p.0 && has who c.0) || (eqb c.0 p.0 && has who a.0)

-- ---- the observations, one law each

-- What neither changes: who is present, what is published and subscribed to, the messages pending and seen.
pub record SameButLinks (n m : Network) : Type 0 where
  pub present : m.present ≡ n.present
  pub pubs : m.pubs ≡ n.pubs
  pub subs : m.subs ≡ n.subs
  pub pending : m.pending ≡ n.pending
  pub seen : m.seen ≡ n.seen

-- Recording changes nothing else.
pub up_rest : (n : Network) (p : Peer) (who : ℕ) → SameButLinks n (link_up n p who)
unfolding link_up
up_rest n p who = record { present = refl; pubs = refl; subs = refl; pending = refl; seen = refl }

-- Nor does forgetting.
pub down_rest : (n : Network) (p : Peer) (who : ℕ) → SameButLinks n (link_down n p who)
unfolding link_down
down_rest n p who = record { present = refl; pubs = refl; subs = refl; pending = refl; seen = refl }

-- The links that were there, and those between p and `who`.
pub linked_up : {n : Network} → Shaped n → (p : Peer) (who : ℕ) (a c : Peer) → a.0 < 32 → linked (link_up n p who) a c ≡ linked n a c || between p who a c
unfolding link_up
linked_up {n} s p who a c ha =
    ap (λ (w : ℕ). has w c.0) (get_or_edit (λ q w. with_if (has who q) p.0 (when (eqb q p.0) (puts who) w)) n.neighbours a.0 (omega (arith, s.neighbours)))
    ∙ has_with_if (has who a.0) p.0 (when (eqb a.0 p.0) (puts who) (neighbours_of n a)) c.0
    ∙ ap₂ ◌||◌ (has_puts (eqb a.0 p.0) who (neighbours_of n a) c.0) (and_comm (has who a.0) (eqb p.0 c.0) ∙ ap (λ (x : Bool). x && has who a.0) (eqb_sym p.0 c.0))
    ∙ or_assoc (linked n a c) (eqb a.0 p.0 && has who c.0) (eqb c.0 p.0 && has who a.0)

-- The links that were there, but for those between p and `who`.
pub linked_down : {n : Network} → Shaped n → (p : Peer) (who : ℕ) (a c : Peer) → a.0 < 32 → linked (link_down n p who) a c ≡ linked n a c && not (between p who a c)
unfolding link_down
linked_down {n} s p who a c ha =
    ap (λ (w : ℕ). has w c.0) (get_or_edit (λ q w. when (has who q) (strikes (only p.0)) (when (eqb q p.0) (strikes who) w)) n.neighbours a.0 (omega (arith, s.neighbours)))
    ∙ has_without_if (has who a.0) p.0 (when (eqb a.0 p.0) (strikes who) (neighbours_of n a)) c.0
    ∙ ap₂ (λ (x y : Bool). x && not y) (has_strikes (eqb a.0 p.0) who (neighbours_of n a) c.0) (and_comm (has who a.0) (eqb p.0 c.0) ∙ ap (λ (x : Bool). x && has who a.0) (eqb_sym p.0 c.0))
    ∙ go (linked n a c) (eqb a.0 p.0 && has who c.0) (eqb c.0 p.0 && has who a.0)
  where
    go : (l x y : Bool) → (l && not x) && not y ≡ l && not (x || y)
    go l true y = rw and-false
    go l false y = rw and-true

-- The two sides of a link, and whether the second subscribes: s where it is p, w else.
either_side : (k x y u e s w : Bool) → s && e ≡ w && e → (k || ((u && s) && e)) || (x && (y && w)) ≡ k || (((x && y) || (e && u)) && w)
either_side true x y u e s w h = refl
either_side false x y u false s w h = rw (and-false, or-false) (sym (and_assoc x y w))
either_side false x y u true s true h = let f : s ≡ true = sym (and-true s) ∙ h in rw (f, and-true u, and-true u, and-true y, and-true) (or_comm u (x && y))
either_side false x y u true s false h = let f : s ≡ false = sym (and-true s) ∙ h in rw (f, and-false u, and-false y, and-false x, and-false)

-- What was known, and of the two sides of each new link each for the other's topics.
knows_up : {n : Network} → Shaped n → (p : Peer) (who : ℕ) (a : Peer) (t : Topic) (c : Peer) → who < 2 ^ 32 → a.0 < 32 → t.0 < 32
    → knows (link_up n p who) a t c ≡ knows n a t c || (between p who a c && subscribed n c t)
unfolding link_up
knows_up {n} s p who a t c hw ha ht =
    ap (λ (w : ℕ). has w c.0) (edit_spot (λ x y w. when (eqb x p.0) (puts (theirs y)) (with_if (has who x && has (subs_of n p) y) p.0 w)) n.known a t s.known ha ht)
    ∙ has_puts (eqb a.0 p.0) (theirs t.0) (with_if (has who a.0 && subscribed n p t) p.0 (known_of n a t)) c.0
    ∙ ap₂ (λ (x y : Bool). x || (eqb a.0 p.0 && y)) (has_with_if (has who a.0 && subscribed n p t) p.0 (known_of n a t) c.0) (has_sifted 32 who (λ q. subscribed n (peer q) t) hw c.0)
    ∙ either_side (knows n a t c) (eqb a.0 p.0) (has who c.0) (has who a.0) (eqb p.0 c.0) (subscribed n p t) (subscribed n c t) same
    ∙ ap (λ (x : Bool). knows n a t c || (((eqb a.0 p.0 && has who c.0) || (x && has who a.0)) && subscribed n c t)) (eqb_sym p.0 c.0)
  where
    theirs : ℕ → ℕ
    theirs y = sift 32 who (λ q. subscribed n (peer q) (topic y))

    same : subscribed n p t && eqb p.0 c.0 ≡ subscribed n c t && eqb p.0 c.0
    same = sym (and_eqb (λ (x : ℕ). has (get_or n.subs x 0) t.0) p.0 c.0)

-- What was known, but for the two sides of each link that is forgotten.
knows_down : {n : Network} → Shaped n → (p : Peer) (who : ℕ) (a : Peer) (t : Topic) (c : Peer) → a.0 < 32 → t.0 < 32
    → knows (link_down n p who) a t c ≡ knows n a t c && not (between p who a c)
unfolding link_down
knows_down {n} s p who a t c ha ht =
    ap (λ (w : ℕ). has w c.0) (edit_spot (λ x y w. when (eqb x p.0) (strikes who) (when (has who x) (strikes (only p.0)) w)) n.known a t s.known ha ht)
    ∙ has_strikes (eqb a.0 p.0) who (when (has who a.0) (strikes (only p.0)) (known_of n a t)) c.0
    ∙ ap (λ (x : Bool). x && not (eqb a.0 p.0 && has who c.0)) (has_without_if (has who a.0) p.0 (known_of n a t) c.0)
    ∙ go (knows n a t c) (eqb a.0 p.0 && has who c.0) (has who a.0) (eqb p.0 c.0)
    ∙ ap (λ (x : Bool). knows n a t c && not ((eqb a.0 p.0 && has who c.0) || (x && has who a.0))) (eqb_sym p.0 c.0)
  where
    go : (k x u e : Bool) → (k && not (u && e)) && not x ≡ k && not (x || (e && u))
    go k true u e = and-false (k && not (u && e)) ∙ sym (and-false k)
    go k false u e = rw (and-true, and_comm u e)

-- A number that is no peer's has no link.
past : {n : Network} → Shaped n → (a c : Peer) → 32 ≤ a.0 → linked n a c ≡ false
past s a c h = not_false λ e. absurd (omega (arith, linked_peer s a c e))

-- Such a number is on neither side of a link of p with `who`.
no_side : (p : Peer) (who : ℕ) (a c : Peer) → p.0 < 32 → who < 2 ^ 32 → 32 ≤ a.0 → between p who a c ≡ false
no_side p who a c hp hw h =
    let x : eqb a.0 p.0 ≡ false = ne_eqb (λ (e : a.0 ≡ p.0). omega arith) in
    rw (x, has_out 32 who a.0 hw h) (and-false (eqb c.0 p.0))

-- `linked_up` for every a.
pub linked_up_all : {n : Network} → Shaped n → (p : Peer) (who : ℕ) → p.0 < 32 → who < 2 ^ 32 → (a c : Peer) → linked (link_up n p who) a c ≡ linked n a c || between p who a c
unfolding link_up
linked_up_all {n} s p who hp hw a c = go (dec_lt a.0 32)
  where
    go : Dec (a.0 < 32) → linked (link_up n p who) a c ≡ linked n a c || between p who a c
    go (yes h) = linked_up s p who a c h
    go (no h) =
        let o : 32 ≤ a.0 = omega arith in
        ap (λ (w : ℕ). has w c.0) (get_or_edit_out _ n.neighbours a.0 (omega (arith, s.neighbours))) ∙ has_none c.0
        ∙ sym (ap₂ ◌||◌ (past s a c o) (no_side p who a c hp hw o))

-- `linked_down` for every a.
pub linked_down_all : {n : Network} → Shaped n → (p : Peer) (who : ℕ) (a c : Peer) → linked (link_down n p who) a c ≡ linked n a c && not (between p who a c)
unfolding link_down
linked_down_all {n} s p who a c = go (dec_lt a.0 32)
  where
    go : Dec (a.0 < 32) → linked (link_down n p who) a c ≡ linked n a c && not (between p who a c)
    go (yes h) = linked_down s p who a c h
    go (no h) =
        let o : 32 ≤ a.0 = omega arith in
        ap (λ (w : ℕ). has w c.0) (get_or_edit_out _ n.neighbours a.0 (omega (arith, s.neighbours))) ∙ has_none c.0
        ∙ sym (ap (λ (x : Bool). x && not (between p who a c)) (past s a c o))

-- ---- other links and known subscribers

-- n with these in their place
abbrev relink : Network → List ℕ → List ℕ → Network
relink n neighbours known = with_known (with_neighbours n neighbours) known

-- It is sound, if the links are between two present peers and listed on both sides, and the known subscribers are the neighbours that subscribe.
relink_sound : {n : Network} (neighbours known : List ℕ) → Sound n → (let m = relink n neighbours known in
    Shaped m → ((a : Peer) → linked m a a ≡ false) → ((a c : Peer) → linked m a c ≡ true → present n c ≡ true) → ((a c : Peer) → linked m a c ≡ linked m c a)
    → ((a : Peer) (t : Topic) (c : Peer) → a.0 < 32 → t.0 < 32 → knows m a t c ≡ linked m a c && subscribed n c t) → Sound m)
relink_sound {n} neighbours known s shape own near turn law =
    record {
      shaped = shape;
      empty = λ q b a.
          let e = s.empty q b a in
          record {
            pubs = e.pubs;
            subs = e.subs;
            neighbours = none_empty _ λ i. alone q a (peer i);
            pending = e.pending;
            seen = e.seen;
            known = λ t ht. none_empty _ λ i. law q t (peer i) b ht ∙ ap (λ (x : Bool). x && subscribed n (peer i) t) (alone q a (peer i));
          };
      own = own;
      near = near;
      back = λ a c h. sym (turn a c) ∙ h;
      knows = law;
      apart = s.apart;
    }
  where
    alone : (q : Peer) → present n q ≡ false → (c : Peer) → linked (relink n neighbours known) q c ≡ false
    alone q a c = not_false λ h. clash (near c q (sym (turn q c) ∙ h)) a

-- ---- shape and soundness stay

-- Recording keeps the shape.
pub link_up_shaped : {n : Network} → Shaped n → (p : Peer) (who : ℕ) → p.0 < 32 → who < 2 ^ 32 → Shaped (link_up n p who)
unfolding link_up
link_up_shaped {n} s p who hp hw =
    shaped_known
    (shaped_neighbours s (edited _ n.neighbours s.neighbours s.neighbours_fit λ i. with_if_lt 32 _ p.0 _ hp (puts_lt 32 _ who _ hw (s.neighbours_fit i))))
    (edited _ n.known s.known s.known_fit λ i. puts_lt 32 _ _ _ (sift_lt 32 who _) (with_if_lt 32 _ p.0 _ hp (s.known_fit i)))

-- So does forgetting.
pub link_down_shaped : {n : Network} → Shaped n → (p : Peer) (who : ℕ) → Shaped (link_down n p who)
unfolding link_down
link_down_shaped {n} s p who =
    shaped_known
    (shaped_neighbours s (edited _ n.neighbours s.neighbours s.neighbours_fit λ i. strikes_lt 32 _ (only p.0) _ (strikes_lt 32 _ who _ (s.neighbours_fit i))))
    (edited _ n.known s.known s.known_fit λ i. strikes_lt 32 _ who _ (strikes_lt 32 _ (only p.0) _ (s.known_fit i)))

-- Links of p, which is present, with others that are present.
pub link_up_sound : {n : Network} → Sound n → (p : Peer) (who : ℕ) → present n p ≡ true → p.0 < 32 → has who p.0 ≡ false → minus who n.present ≡ 0 → who < 2 ^ 32
    → Sound (link_up n p who)
unfolding link_up Subset
link_up_sound {n} s p who here hp self within hw =
    relink_sound _ _ s (link_up_shaped s.shaped p who hp hw) own near turn λ a t c ha ht.
    knows_up s.shaped p who a t c hw ha ht
    ∙ ap (λ (x : Bool). x || (between p who a c && subscribed n c t)) (s.knows a t c ha ht)
    ∙ sym (and-or_distrib_right (linked n a c) (between p who a c) (subscribed n c t))
    ∙ ap (λ (x : Bool). x && subscribed n c t) (sym (law a c))
  where
    law : (a c : Peer) → linked (link_up n p who) a c ≡ linked n a c || between p who a c
    law = linked_up_all s.shaped p who hp hw

    own : (a : Peer) → linked (link_up n p who) a a ≡ false
    own a = law a a ∙ ap₂ ◌||◌ (s.own a) (or_self _ ∙ and_no (eqb a.0 p.0) (has who a.0) λ e. ap (has who) (eqb-true a.0 p.0 e) ∙ self)

    there : (i : ℕ) → has who i ≡ true → has n.present i ≡ true
    there = subset_of_minus who n.present within

    side : (a c : Peer) → between p who a c ≡ true → present n c ≡ true
    side a c h = first (or_yes (eqb a.0 p.0 && has who c.0) _ h)
      where
        first : (eqb a.0 p.0 && has who c.0 ≡ true) ⊎ (eqb c.0 p.0 && has who a.0 ≡ true) → present n c ≡ true
        first (inl y) = there c.0 (and_yes (eqb a.0 p.0) _ y).1
        first (inr y) = ap (has n.present) (eqb-true c.0 p.0 (and_yes (eqb c.0 p.0) _ y).0) ∙ here

    near : (a c : Peer) → linked (link_up n p who) a c ≡ true → present n c ≡ true
    near a c h = ⊎_elim (s.near a c) (side a c) (or_yes (linked n a c) (between p who a c) (sym (law a c) ∙ h))

    turn : (a c : Peer) → linked (link_up n p who) a c ≡ linked (link_up n p who) c a
    turn a c = law a c ∙ ap₂ ◌||◌ (linked_turn s a c) (or_comm (eqb a.0 p.0 && has who c.0) _) ∙ sym (law c a)

-- Links of p with any others, there or not.
pub link_down_sound : {n : Network} → Sound n → (p : Peer) (who : ℕ) → Sound (link_down n p who)
unfolding link_down
link_down_sound {n} s p who =
    relink_sound _ _ s (link_down_shaped s.shaped p who) (λ a. law a a ∙ ap (λ (x : Bool). x && not (between p who a a)) (s.own a))
    (λ a c h. s.near a c (and_yes (linked n a c) _ (sym (law a c) ∙ h)).0) turn λ a t c ha ht.
    knows_down s.shaped p who a t c ha ht
    ∙ ap (λ (x : Bool). x && not (between p who a c)) (s.knows a t c ha ht)
    ∙ go (linked n a c) (subscribed n c t) (not (between p who a c))
    ∙ ap (λ (x : Bool). x && subscribed n c t) (sym (law a c))
  where
    law : (a c : Peer) → linked (link_down n p who) a c ≡ linked n a c && not (between p who a c)
    law = linked_down_all s.shaped p who

    turn : (a c : Peer) → linked (link_down n p who) a c ≡ linked (link_down n p who) c a
    turn a c = law a c ∙ ap₂ (λ (x y : Bool). x && not y) (linked_turn s a c) (or_comm (eqb a.0 p.0 && has who c.0) _) ∙ sym (law c a)

    go : (l s x : Bool) → (l && s) && x ≡ (l && x) && s
    go true s x = and_comm s x
    go false s x = refl
