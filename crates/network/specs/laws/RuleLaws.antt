-- Each rule of a present record in observations, both ways; and the lowest peer or topic that breaks one. Assumes nothing.
use Rattle.std.specs.Prelude.{◌≡◌, refl, Bool, true, false, cond, eqb, ◌&&◌, ◌||◌, ℕ, ◌≤◌, ◌<◌}
use Rattle.std.proofs.Common.{sym, ◌∙◌, ⊎_elim, arith, eq-eqb, eqb-true}
use Rattle.std.proofs.Math.Path.{ap}
use Rattle.std.proofs.Math.Bool.{not}
use Rattle.std.proofs.Math.Decide.{dec_lt}
use borrow.Author.Tests.{eqb-false}
use Rattle.sets.specs.Set.{has, meet, set_of, lowest}
use Rattle.sets.proofs.laws.Bools.{either, clash, not_false, not_yes, not_no, and_yes, apart, apart_not, apart_same, not_own, implied, implies}
use Rattle.sets.proofs.laws.Members.{has_meet}
use Rattle.sets.proofs.laws.Bounds.{has_out, meet_lt}
use Rattle.sets.proofs.laws.Build.{has_set_of, has_set_of_out, is_set_of}
use Rattle.sets.proofs.laws.Subsets.{disjoint_of_meet, meet_none}
use Rattle.sets.proofs.laws.Lowest.{lowest_has}
use Rattle.sets.specs.Any.{all, any}
use Rattle.sets.proofs.laws.Any.{any_why, any_no, all_yes, all_why}
use Rattle.sets.proofs.laws.Least.{lowest_of_lt_holds, lowest_of_least, lowest_of_is, lowest_of_le, lowest_of_is_all}
use Rattle.network.specs.declared.Peer.{Peer}
use Rattle.network.specs.declared.Topic.{Topic}
use Rattle.network.specs.declared.Message.{Message}
use Rattle.network.specs.declared.Network.{Network}
use Rattle.network.specs.Network.{peer, topic, message, neighbours_of, pending_of, seen_of, known_of, present, subscribed, linked, pending, saw, knows, Shaped}
use Rattle.network.specs.laws.SoundLaws.{linked_other}
use Rattle.network.specs.Rules.{own_right, near_at, near_right, back_at, back_right, known_at, known_right, apart_right, need, absent_fault, present_fault, fault_of, lowest_wrong, detail_of}

-- ---- the lowest of 32 that breaks a rule

pub wrong_some : (right : ℕ → Bool) → all 32 right ≡ false → lowest_wrong right < 32
unfolding lowest_wrong
wrong_some right h =
    let l : lowest_wrong right ≤ 32 = lowest_of_le 32 (λ (i : ℕ). not (right i)) in
    let e : lowest_wrong right ≡ 32 → ⊥ = eqb-false _ _ (lowest_of_is_all 32 right ∙ h) in
    omega (arith, l, e)

pub wrong_there : (right : ℕ → Bool) → lowest_wrong right < 32 → right (lowest_wrong right) ≡ false
unfolding lowest_wrong
wrong_there right l = not_yes _ (lowest_of_lt_holds 32 (λ (i : ℕ). not (right i)) l)

pub wrong_below : (right : ℕ → Bool) (j : ℕ) → j < lowest_wrong right → right j ≡ true
unfolding lowest_wrong
wrong_below right j l = not_no _ (lowest_of_least 32 (λ (i : ℕ). not (right i)) j l)

pub wrong_is : (right : ℕ → Bool) (i : ℕ) → i < 32 → right i ≡ false → ((j : ℕ) → j < i → right j ≡ true) → i ≡ lowest_wrong right
unfolding lowest_wrong
wrong_is right i l h below = sym (lowest_of_is 32 (λ (j : ℕ). not (right j)) i l (ap not h) λ j c. ap not (below j c))

-- "23 to 25 also give the lowest peer or topic at fault": of a record at fault there is one
need_why : (P : ℕ → Type 0) (a : Bool) (k rest : ℕ) → (a ≡ false → P k) → P rest → P (need a k rest)
unfolding need
need_why P true k rest h r = r
need_why P false k rest h r = h refl

pub detail_lt : (h : ℕ) (n : Network) (p : Peer) → detail_of (fault_of h n p) n p < 32
unfolding fault_of absent_fault present_fault near_right back_right known_right detail_of
detail_lt h n p = need_why P _ 20 _ (λ _. omega arith) (go (eqb h 0))
  where
    P : ℕ → Type 0
    P k = detail_of k n p < 32

    go : (x : Bool) → P (cond x (absent_fault n p) (present_fault n p))
    go true = need_why P _ 21 0 (λ _. omega arith) (omega arith)
    go false =
        need_why P _ 22 _ (λ _. omega arith)
        (need_why P _ 23 _ (wrong_some (near_at n p))
        (need_why P _ 24 _ (wrong_some (back_at n p)) (need_why P _ 25 _ (wrong_some (known_at n p)) (need_why P _ 26 0 (λ _. omega arith) (omega arith)))))

-- ---- "p isn't its own neighbour"

module _ (n : Network) (p : Peer) where
  pub own_why : own_right n p ≡ true → linked n p p ≡ false
  unfolding own_right
  own_why h = not_yes (linked n p p) h

  pub own_yes : linked n p p ≡ false → own_right n p ≡ true
  unfolding own_right
  own_yes h = ap not h

  pub own_not : own_right n p ≡ false → linked n p p ≡ true
  unfolding own_right
  own_not h = not_no (linked n p p) h

  pub own_no : linked n p p ≡ true → own_right n p ≡ false
  unfolding own_right
  own_no h = ap not h

  -- ---- a rule about each neighbour: something holds of whoever is listed

  each_why : Shaped n → (good : Peer → Bool) → all 32 (λ (q : ℕ). not (linked n p (peer q)) || good (peer q)) ≡ true → (q : Peer) → linked n p q ≡ true → good q ≡ true
  each_why s good h q e = implied (linked n p q) (all_why 32 (λ (i : ℕ). not (linked n p (peer i)) || good (peer i)) h q.0 (linked_other s p q e)) e

  each_yes : (good : Peer → Bool) → ((q : Peer) → linked n p q ≡ true → good q ≡ true) → all 32 (λ (q : ℕ). not (linked n p (peer q)) || good (peer q)) ≡ true
  each_yes good h = all_yes 32 (λ (i : ℕ). not (linked n p (peer i)) || good (peer i)) λ q l. implies (linked n p (peer q)) (h (peer q))

  -- "each neighbour q is present"
  pub near_why : Shaped n → near_right n p ≡ true → (q : Peer) → linked n p q ≡ true → present n q ≡ true
  unfolding near_right
  near_why s = each_why s (λ (q : Peer). present n q)

  pub near_yes : ((q : Peer) → linked n p q ≡ true → present n q ≡ true) → near_right n p ≡ true
  unfolding near_right
  near_yes = each_yes (λ (q : Peer). present n q)

  -- "and lists p"
  pub back_why : Shaped n → back_right n p ≡ true → (q : Peer) → linked n p q ≡ true → linked n q p ≡ true
  unfolding back_right
  back_why s = each_why s (λ (q : Peer). linked n q p)

  pub back_yes : ((q : Peer) → linked n p q ≡ true → linked n q p ≡ true) → back_right n p ≡ true
  unfolding back_right
  back_yes = each_yes (λ (q : Peer). linked n q p)

  -- ---- "for every topic t, the known subscribers are exactly the neighbours subscribed to t"

  -- who should be known
  abbrev to : Topic → ℕ → Bool
  to t q = linked n p (peer q) && subscribed n (peer q) t

  has_to : Shaped n → (t : Topic) (q : Peer) → has (set_of 32 (to t)) q.0 ≡ linked n p q && subscribed n q t
  has_to s t q = go (dec_lt q.0 32)
    where
      go : Dec (q.0 < 32) → has (set_of 32 (to t)) q.0 ≡ linked n p q && subscribed n q t
      go (yes c) = has_set_of 32 (to t) q.0 c
      go (no c) =
          let l : 32 ≤ q.0 = omega arith in
          has_set_of_out 32 (to t) q.0 l ∙ sym (ap (λ (x : Bool). x && subscribed n q t) (has_out 32 (neighbours_of n p) q.0 (s.neighbours_fit p.0) l))

  pub known_at_lem : Shaped n → (t : Topic) → known_at n p t.0 ≡ true → (q : Peer) → knows n p t q ≡ linked n p q && subscribed n q t
  known_at_lem s t h q = ap (λ (w : ℕ). has w q.0) (eqb-true (known_of n p t) (set_of 32 (to t)) h) ∙ has_to s t q

  pub known_holds : Shaped n → (t : Topic) → ((q : Peer) → knows n p t q ≡ linked n p q && subscribed n q t) → known_at n p t.0 ≡ true
  known_holds s t h = eq-eqb (known_of n p t) (set_of 32 (to t)) (is_set_of 32 (to t) _ (s.known_fit _) λ q l. h (peer q))

  -- one that is known and should not be, or the reverse
  pub known_wrong : Shaped n → (t : Topic) → known_at n p t.0 ≡ false → (q : Peer) × (knows n p t q ≡ not (linked n p q && subscribed n q t))
  known_wrong s t h = ⊎_elim (λ a. let w = any_why 32 differs a in (peer w.0, apart_not _ _ w.2)) (λ a. clash (known_holds s t (same a)) h) (either (any 32 differs))
    where
      differs : ℕ → Bool
      differs q = apart (knows n p t (peer q)) (to t q)

      same : any 32 differs ≡ false → (q : Peer) → knows n p t q ≡ linked n p q && subscribed n q t
      same a q = go (dec_lt q.0 32)
        where
          go : Dec (q.0 < 32) → knows n p t q ≡ linked n p q && subscribed n q t
          go (yes c) = apart_same _ _ (any_no 32 differs a q.0 c)
          go (no c) =
              let l : 32 ≤ q.0 = omega arith in
              has_out 32 (known_of n p t) q.0 (s.known_fit _) l ∙ sym (ap (λ (x : Bool). x && subscribed n q t) (has_out 32 (neighbours_of n p) q.0 (s.neighbours_fit p.0) l))

  pub known_breaks : Shaped n → (t : Topic) (q : Peer) → knows n p t q ≡ not (linked n p q && subscribed n q t) → known_at n p t.0 ≡ false
  known_breaks s t q h = not_false λ e. not_own _ (sym (known_at_lem s t e q) ∙ h)

  pub known_why : Shaped n → known_right n p ≡ true → (t : Topic) → t.0 < 32 → (q : Peer) → knows n p t q ≡ linked n p q && subscribed n q t
  unfolding known_right
  known_why s h t l = known_at_lem s t (all_why 32 (known_at n p) h t.0 l)

  pub known_yes : Shaped n → ((t : Topic) → t.0 < 32 → (q : Peer) → knows n p t q ≡ linked n p q && subscribed n q t) → known_right n p ≡ true
  unfolding known_right
  known_yes s h = all_yes 32 (known_at n p) λ t l. known_holds s (topic t) (h (topic t) l)

  -- ---- "pending and seen share no message"

  pub apart_why : apart_right n p ≡ true → (m : Message) → pending n p m ≡ true → saw n p m ≡ false
  unfolding apart_right
  apart_why h m = disjoint_of_meet (pending_of n p) (seen_of n p) (eqb-true _ _ h) m.0

  pub apart_yes : ((m : Message) → pending n p m ≡ true → saw n p m ≡ false) → apart_right n p ≡ true
  unfolding apart_right
  apart_yes h = eq-eqb _ _ (meet_none (pending_of n p) (seen_of n p) λ i. h (message i))

  -- one that is both
  pub apart_wrong : Shaped n → apart_right n p ≡ false → (m : Message) × (pending n p m ≡ true) × (saw n p m ≡ true)
  unfolding apart_right
  apart_wrong s h =
      let w = meet (pending_of n p) (seen_of n p) in
      let ne : w ≡ 0 → ⊥ = eqb-false _ _ h in
      let some : 0 < w = omega (arith, ne) in
      let both = and_yes _ _ (sym (has_meet (pending_of n p) (seen_of n p) (lowest 64 w)) ∙ lowest_has 64 w some (meet_lt 64 _ _ (s.pending_fit p.0))) in
      (message (lowest 64 w), both.0, both.1)

  pub apart_breaks : (m : Message) → pending n p m ≡ true → saw n p m ≡ true → apart_right n p ≡ false
  apart_breaks m a b = not_false λ h. clash b (apart_why h m a)
