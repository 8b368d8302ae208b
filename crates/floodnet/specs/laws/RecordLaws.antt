-- A peer's record that becomes zero, and one that is made: what each changes in observations, and when a sound network stays sound.
-- Assumes nothing.
use Rattle.std.specs.Prelude.{◌≡◌, refl, Bool, true, false, not, cond, ◌&&◌, ◌||◌, List, ℕ, ◌+◌, ◌*◌, ◌/◌, ◌%◌, ◌^◌, ◌<◌, eqb, get_or, set}
use Rattle.std.proofs.Common.{sym, ap, ap₂, ◌∙◌, arith, eqb-true, length-set, get_or-set_other}
use Rattle.std.proofs.Math.Bool.{and-true, and-false}
use Rattle.std.proofs.lemmas.Bool.{eqb-false}
use Rattle.std.proofs.lemmas.List.{set-get_or}
use Rattle.sets.specs.Set.{has, only, when, empties}
use Rattle.sets.proofs.laws.Bools.{clash, not_false, and_both, and_yes, and_no, or_left, or_no}
use Rattle.sets.proofs.laws.Members.{has_union, has_minus, has_only}
use Rattle.sets.proofs.laws.Bounds.{union_lt, minus_lt, only_lt}
use Rattle.sets.proofs.laws.Build.{has_empties, empties_lt}
use Rattle.sets.proofs.laws.Sizes.{without_stranger}
use Rattle.lists.specs.laws.Edit.{length_edit, edit_below, edit_none}
use Rattle.network.specs.declared.Peer.{Peer}
use Rattle.network.specs.declared.Topic.{Topic}
use Rattle.network.specs.declared.Message.{Message}
use Rattle.network.specs.declared.Network.{Network}
use Rattle.network.specs.Network.{with_all, topic, neighbours_of, known_of, present, publishes, subscribed, linked, pending, saw, knows, Shaped}
use Rattle.network.specs.Sound.{Sound, Empty}
use Rattle.floodnet.specs.Links.{cleared, placed}
use Rattle.floodnet.specs.laws.Places.{eqb_sym, has_set, set_below, zeroed, has_zeroed, edit_spot}
use Rattle.floodnet.specs.laws.Keeping.{stored, shaped_present, shaped_pubs, shaped_subs}

-- ---- "record becomes zero"

-- p is absent. Here and in the laws that follow, what the others have is as it was.
pub present_cleared : (n : Network) (p q : Peer) → present (cleared n p) q ≡ present n q && not (eqb q.0 p.0)
unfolding cleared
present_cleared n p q = has_minus n.present (only p.0) q.0 ∙ ap (λ (x : Bool). present n q && not x) (has_only p.0 q.0 ∙ eqb_sym p.0 q.0)

-- p publishes nothing.
pub publishes_cleared : (n : Network) (p q : Peer) (t : Topic) → publishes (cleared n p) q t ≡ not (eqb q.0 p.0) && publishes n q t
unfolding cleared
publishes_cleared n p q t = has_zeroed n.pubs p.0 q.0 t.0

-- p subscribes to nothing.
pub subscribed_cleared : (n : Network) (p q : Peer) (t : Topic) → subscribed (cleared n p) q t ≡ not (eqb q.0 p.0) && subscribed n q t
unfolding cleared
subscribed_cleared n p q t = has_zeroed n.subs p.0 q.0 t.0

-- p lists nobody. (Who lists p still does.)
pub linked_cleared : (n : Network) (p q c : Peer) → linked (cleared n p) q c ≡ not (eqb q.0 p.0) && linked n q c
unfolding cleared
linked_cleared n p q c = has_zeroed n.neighbours p.0 q.0 c.0

-- Nothing is pending at p.
pub pending_cleared : (n : Network) (p q : Peer) (m : Message) → pending (cleared n p) q m ≡ not (eqb q.0 p.0) && pending n q m
unfolding cleared
pending_cleared n p q m = has_zeroed n.pending p.0 q.0 m.0

-- p has seen nothing.
pub saw_cleared : (n : Network) (p q : Peer) (m : Message) → saw (cleared n p) q m ≡ not (eqb q.0 p.0) && saw n q m
unfolding cleared
saw_cleared n p q m = has_zeroed n.seen p.0 q.0 m.0

-- p has no known subscribers: word by word.
pub known_cleared : {n : Network} → Shaped n → (p q : Peer) (t : Topic) → q.0 < 32 → t.0 < 32 → known_of (cleared n p) q t ≡ when (eqb q.0 p.0) empties (known_of n q t)
unfolding cleared
known_cleared {n} s p q t hq ht = edit_spot (λ x y w. when (eqb x p.0) empties w) n.known q t s.known hq ht

-- p knows nobody.
knows_cleared : {n : Network} → Shaped n → (p q : Peer) (t : Topic) (c : Peer) → q.0 < 32 → t.0 < 32 → knows (cleared n p) q t c ≡ not (eqb q.0 p.0) && knows n q t c
knows_cleared {n} s p q t c hq ht = ap (λ (w : ℕ). has w c.0) (known_cleared s p q t hq ht) ∙ has_empties (eqb q.0 p.0) (known_of n q t) c.0

-- The shape stays.
pub cleared_shaped : {n : Network} → Shaped n → (p : Peer) → Shaped (cleared n p)
unfolding cleared
cleared_shaped {n} s p =
    record {
      present = minus_lt 32 n.present _ s.present;
      pubs = length-set n.pubs p.0 0 ∙ s.pubs;
      subs = length-set n.subs p.0 0 ∙ s.subs;
      neighbours = length-set n.neighbours p.0 0 ∙ s.neighbours;
      pending = length-set n.pending p.0 0 ∙ s.pending;
      seen = length-set n.seen p.0 0 ∙ s.seen;
      known = length_edit _ n.known ∙ s.known;
      pubs_fit = set_below n.pubs p.0 0 (2 ^ 32) (omega arith) s.pubs_fit;
      subs_fit = set_below n.subs p.0 0 (2 ^ 32) (omega arith) s.subs_fit;
      neighbours_fit = set_below n.neighbours p.0 0 (2 ^ 32) (omega arith) s.neighbours_fit;
      pending_fit = set_below n.pending p.0 0 (2 ^ 64) (omega arith) s.pending_fit;
      seen_fit = set_below n.seen p.0 0 (2 ^ 64) (omega arith) s.seen_fit;
      known_fit = edit_below _ n.known (2 ^ 32) (omega arith) λ i h. empties_lt 32 _ _ (s.known_fit i);
    }

-- The record is empty where it is p's, and where it was before.
cleared_empty : {n : Network} → Shaped n → (p q : Peer) → q.0 < 32 → (eqb q.0 p.0 ≡ false → Empty n q) → Empty (cleared n p) q
unfolding cleared when empties
cleared_empty {n} s p q hq f =
    record {
      pubs = zeroed n.pubs p.0 q.0 ∙ gone (λ e. e.pubs);
      subs = zeroed n.subs p.0 q.0 ∙ gone (λ e. e.subs);
      neighbours = zeroed n.neighbours p.0 q.0 ∙ gone (λ e. e.neighbours);
      pending = zeroed n.pending p.0 q.0 ∙ gone (λ e. e.pending);
      seen = zeroed n.seen p.0 q.0 ∙ gone (λ e. e.seen);
      known = λ t ht. known_cleared s p q t hq ht ∙ gone (λ e. e.known t ht);
    }
  where
    gone : {w : ℕ} → (Empty n q → w ≡ 0) → when (eqb q.0 p.0) empties w ≡ 0
    gone {w} g = go (eqb q.0 p.0) refl
      where
        go : (b : Bool) → eqb q.0 p.0 ≡ b → when b empties w ≡ 0
        go true e = refl
        go false e = g (f e)

-- A sound network stays sound where nobody lists p.
pub cleared_sound : {n : Network} → Sound n → (p : Peer) → ((q : Peer) → linked n q p ≡ false) → Sound (cleared n p)
cleared_sound {n} s p free =
    record {
      shaped = cleared_shaped s.shaped p;
      empty = λ q b a. cleared_empty s.shaped p q b λ e. s.empty q b (absent q e a);
      own = λ a. linked_cleared n p a a ∙ and_no (not (eqb a.0 p.0)) (linked n a a) (λ e. s.own a);
      near = λ a c h. present_cleared n p c ∙ and_both (s.near a c (old a c h)) (ap not (other a c (old a c h)));
      back = λ a c h. linked_cleared n p c a ∙ and_both (ap not (other a c (old a c h))) (s.back a c (old a c h));
      knows = λ a t c ha ht.
          knows_cleared s.shaped p a t c ha ht
          ∙ ap (λ (x : Bool). not (eqb a.0 p.0) && x) (s.knows a t c ha ht)
          ∙ go (not (eqb a.0 p.0)) (linked n a c) (subscribed n c t) (not (eqb c.0 p.0)) (λ h. ap not (other a c h))
          ∙ sym (ap₂ ◌&&◌ (linked_cleared n p a c) (subscribed_cleared n p c t));
      apart = λ a m h.
          saw_cleared n p a m ∙ and_no (not (eqb a.0 p.0)) (saw n a m) λ e.
          s.apart a m (and_yes (not (eqb a.0 p.0)) (pending n a m) (sym (pending_cleared n p a m) ∙ h)).1;
    }
  where
    absent : (q : Peer) → eqb q.0 p.0 ≡ false → present (cleared n p) q ≡ false → present n q ≡ false
    absent q e a = sym (present_cleared n p q ∙ rw e (and-true (present n q))) ∙ a

    old : (a c : Peer) → linked (cleared n p) a c ≡ true → linked n a c ≡ true
    old a c h = (and_yes (not (eqb a.0 p.0)) (linked n a c) (sym (linked_cleared n p a c) ∙ h)).1

    other : (a c : Peer) → linked n a c ≡ true → eqb c.0 p.0 ≡ false
    other a c h = not_false λ e. clash h (ap (has (neighbours_of n a)) (eqb-true c.0 p.0 e) ∙ free a)

    go : (x l s y : Bool) → (l ≡ true → y ≡ true) → x && (l && s) ≡ (x && l) && (y && s)
    go x true s y f = rw (f refl, and-true x)
    go x false s y f = rw (and-false x)

-- The record of one who is absent from a sound network is zero already.
pub cleared_absent : {n : Network} → Sound n → (p : Peer) → p.0 < 32 → present n p ≡ false → cleared n p ≡ n
unfolding cleared when empties
cleared_absent {n} s p hp a =
    λ j. with_all n (without_stranger n.present p.0 a j) (stays n.pubs e.pubs j) (stays n.subs e.subs j) (stays n.neighbours e.neighbours j)
    (stays n.pending e.pending j) (stays n.seen e.seen j) (sym (edit_none (λ i w. when (eqb (i / 32) p.0) empties w) n.known λ i. at i (eqb (i / 32) p.0) refl) j)
  where
    e : Empty n p
    e = s.empty p hp a

    stays : (l : List ℕ) → get_or l p.0 0 ≡ 0 → set l p.0 0 ≡ l
    stays l z = ap (set l p.0) (sym z) ∙ set-get_or l p.0 0

    at : (i : ℕ) (b : Bool) → eqb (i / 32) p.0 ≡ b → when b empties (get_or n.known i 0) ≡ get_or n.known i 0
    at i true y =
        let row : p.0 * 32 + i % 32 ≡ i = omega (arith, eqb-true (i / 32) p.0 y) in
        sym (ap (λ (x : ℕ). get_or n.known x 0) (sym row) ∙ e.known (topic (i % 32)) (omega arith))
    at i false y = refl

-- ---- a record is made, with these topics

-- p is present. Here and in the two laws that follow, what the others have is as it was.
pub present_placed : (n : Network) (p : Peer) (subs pubs : ℕ) (q : Peer) → present (placed n p subs pubs) q ≡ present n q || eqb q.0 p.0
unfolding placed
present_placed n p subs pubs q = has_union n.present (only p.0) q.0 ∙ ap (λ (x : Bool). present n q || x) (has_only p.0 q.0 ∙ eqb_sym p.0 q.0)

-- p subscribes to `subs`.
pub subscribed_placed : {n : Network} → Shaped n → (p : Peer) (subs pubs : ℕ) → p.0 < 32 → (q : Peer) (t : Topic)
    → subscribed (placed n p subs pubs) q t ≡ cond (eqb q.0 p.0) (has subs t.0) (subscribed n q t)
unfolding placed
subscribed_placed {n} s p subs pubs hp q t = has_set n.subs p.0 subs q.0 t.0 (omega (arith, s.subs))

-- p publishes `pubs`.
pub publishes_placed : {n : Network} → Shaped n → (p : Peer) (subs pubs : ℕ) → p.0 < 32 → (q : Peer) (t : Topic)
    → publishes (placed n p subs pubs) q t ≡ cond (eqb q.0 p.0) (has pubs t.0) (publishes n q t)
unfolding placed
publishes_placed {n} s p subs pubs hp q t = has_set n.pubs p.0 pubs q.0 t.0 (omega (arith, s.pubs))

-- The shape stays.
pub placed_shaped : {n : Network} → Shaped n → (p : Peer) (subs pubs : ℕ) → p.0 < 32 → subs < 2 ^ 32 → pubs < 2 ^ 32 → Shaped (placed n p subs pubs)
unfolding placed
placed_shaped {n} s p subs pubs hp hs hb =
    let here = union_lt 32 n.present (only p.0) s.present (only_lt 32 p.0 hp) in
    shaped_subs (shaped_pubs (shaped_present s here) (stored n.pubs p.0 pubs s.pubs s.pubs_fit hb)) (stored n.subs p.0 subs s.subs s.subs_fit hs)

-- A sound network stays sound where p was absent: nobody lists p.
pub placed_sound : {n : Network} → Sound n → (p : Peer) (subs pubs : ℕ) → present n p ≡ false → p.0 < 32 → subs < 2 ^ 32 → pubs < 2 ^ 32 → Sound (placed n p subs pubs)
unfolding placed
placed_sound {n} s p subs pubs gone hp hs hb =
    record {
      shaped = placed_shaped s.shaped p subs pubs hp hs hb;
      empty = λ q b a.
          let no = or_no (present n q) (eqb q.0 p.0) (sym (present_placed n p subs pubs q) ∙ a) in
          let e = s.empty q b no.0 in
          record {
            pubs = get_or-set_other n.pubs p.0 q.0 pubs 0 (eqb-false q.0 p.0 no.1) ∙ e.pubs;
            subs = get_or-set_other n.subs p.0 q.0 subs 0 (eqb-false q.0 p.0 no.1) ∙ e.subs;
            neighbours = e.neighbours;
            pending = e.pending;
            seen = e.seen;
            known = e.known;
          };
      own = s.own;
      near = λ a c h. present_placed n p subs pubs c ∙ or_left (eqb c.0 p.0) (s.near a c h);
      back = s.back;
      knows = λ a t c ha ht. s.knows a t c ha ht ∙ go (linked n a c) (subscribed n c t) _ λ h. sym (subscribed_placed s.shaped p subs pubs hp c t ∙ rw (other a c h));
      apart = s.apart;
    }
  where
    other : (a c : Peer) → linked n a c ≡ true → eqb c.0 p.0 ≡ false
    other a c h = not_false λ e. clash (s.near a c h) (ap (has n.present) (eqb-true c.0 p.0 e) ∙ gone)

    go : (l x y : Bool) → (l ≡ true → x ≡ y) → l && x ≡ l && y
    go true x y f = f refl
    go false x y f = refl
