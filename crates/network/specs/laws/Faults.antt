-- Which number a record's first failing rule has, from what the code tests; that a record with none keeps them all; and the verdict on all
-- records. Assumes nothing.
use Rattle.std.specs.Prelude.{◌≡◌, refl, Bool, true, false, cond, ◌&&◌, List, ℕ, suc, ◌+◌, ◌≤◌, ◌<◌, ltb, get_or}
use Rattle.std.proofs.Common.{sym, ◌∙◌, ⊎_elim, arith, lt-ltb, le-ltb, ltb-true, ltb-false, eq-eqb, eqb-true}
use Rattle.std.proofs.Math.Path.{ap}
use Rattle.std.proofs.Math.Bool.{not}
use Rattle.std.proofs.Math.Dec.{eqb}
use borrow.Author.Tests.{eqb-false}
use Rattle.sets.proofs.laws.Bools.{not_false, not_yes, not_no, and_both, and_yes, ne_eqb, below_suc}
use Rattle.sets.proofs.laws.Least.{lowest_of_least, lowest_of_lt_holds, lowest_of_is, lowest_of_none, lowest_of_same}
use Rattle.sets.specs.Any.{all}
use Rattle.sets.proofs.laws.Any.{all_yes, all_why}
use Rattle.lists.specs.Tab.{tab}
use Rattle.lists.specs.laws.Tab.{get_or_tab}
use Rattle.network.specs.declared.Peer.{Peer}
use Rattle.network.specs.declared.Network.{Network}
use Rattle.network.specs.declared.Checked.{Checked}
use Rattle.network.specs.Network.{peer, topic, pubs_of, subs_of, neighbours_of, pending_of, seen_of, known_of}
use Rattle.network.specs.Sound.{Empty}
use Rattle.network.specs.Rules.{empty_right, own_right, near_at, near_right, back_at, back_right, known_at, known_right, apart_right, need, absent_fault, present_fault, fault_of, lowest_wrong, detail_of, faulty, lowest_by, checked, fault_as, verdict_by}

-- no number is given: the rule holds, and what comes after it gives none either
pub need_met : (a : Bool) (k rest : ℕ) → need a (suc k) rest ≡ 0 → (a ≡ true) × (rest ≡ 0)
unfolding need
need_met true k rest h = (refl, h)
need_met false k rest h = absurd (omega arith)

-- six that all hold
six_yes : (a b c d e f : Bool) → a && (b && (c && (d && (e && f)))) ≡ true → (a ≡ true) × (b ≡ true) × (c ≡ true) × (d ≡ true) × (e ≡ true) × (f ≡ true)
six_yes a b c d e f h =
    let p = and_yes a _ h in
    let q = and_yes b _ p.1 in
    let r = and_yes c _ q.1 in
    let s = and_yes d _ r.1 in
    let t = and_yes e f s.1 in
    (p.0, q.0, r.0, s.0, t.0, t.1)

module _ (n : Network) (p : Peer) where
  -- "all its bytes are zero"
  pub empty_why : empty_right n p ≡ true → Empty n p
  unfolding empty_right
  empty_why e =
      let w =
      six_yes (eqb (pubs_of n p) 0) (eqb (subs_of n p) 0) (eqb (neighbours_of n p) 0) (eqb (pending_of n p) 0) (eqb (seen_of n p) 0)
      (all 32 (λ (t : ℕ). eqb (known_of n p (topic t)) 0)) e in
      record {
        pubs = eqb-true _ _ w.0;
        subs = eqb-true _ _ w.1;
        neighbours = eqb-true _ _ w.2;
        pending = eqb-true _ _ w.3;
        seen = eqb-true _ _ w.4;
        known = λ t b. eqb-true _ _ (all_why 32 (λ (t : ℕ). eqb (known_of n p (topic t)) 0) w.5 t.0 b);
      }

  pub empty_is : Empty n p → empty_right n p ≡ true
  unfolding empty_right
  empty_is e =
      and_both (eq-eqb _ _ e.pubs)
      (and_both (eq-eqb _ _ e.subs)
      (and_both (eq-eqb _ _ e.neighbours)
      (and_both (eq-eqb _ _ e.pending) (and_both (eq-eqb _ _ e.seen) (all_yes 32 _ λ t b. eq-eqb _ _ (e.known (topic t) b))))))

  -- an absent record
  pub fault_21 : (Empty n p → ⊥) → 21 ≡ absent_fault n p
  unfolding absent_fault need
  fault_21 h = rw (not_false λ e. h (empty_why e))

  pub fault_empty : Empty n p → 0 ≡ absent_fault n p
  unfolding absent_fault need
  fault_empty e = rw (empty_is e)

  -- a present record
  pub fault_22 : own_right n p ≡ false → 22 ≡ present_fault n p
  unfolding present_fault need
  fault_22 a = rw a

  pub fault_23 : own_right n p ≡ true → near_right n p ≡ false → 23 ≡ present_fault n p
  unfolding present_fault need
  fault_23 a b = rw (a, b)

  pub fault_24 : own_right n p ≡ true → near_right n p ≡ true → back_right n p ≡ false → 24 ≡ present_fault n p
  unfolding present_fault need
  fault_24 a b c = rw (a, b, c)

  pub fault_25 : own_right n p ≡ true → near_right n p ≡ true → back_right n p ≡ true → known_right n p ≡ false → 25 ≡ present_fault n p
  unfolding present_fault need
  fault_25 a b c d = rw (a, b, c, d)

  pub fault_26 : own_right n p ≡ true → near_right n p ≡ true → back_right n p ≡ true → known_right n p ≡ true → apart_right n p ≡ false → 26 ≡ present_fault n p
  unfolding present_fault need
  fault_26 a b c d e = rw (a, b, c, d, e)

  pub fault_none : own_right n p ≡ true → near_right n p ≡ true → back_right n p ≡ true → known_right n p ≡ true → apart_right n p ≡ true → 0 ≡ present_fault n p
  unfolding present_fault need
  fault_none a b c d e = rw (a, b, c, d, e)

  -- by the first word
  pub fault_head : (h : ℕ) → 2 ≤ h → 20 ≡ fault_of h n p
  unfolding fault_of need
  fault_head h l = rw (le-ltb h 2 l)

  pub fault_absent : (h : ℕ) → h ≡ 0 → fault_of h n p ≡ absent_fault n p
  unfolding fault_of need
  fault_absent h e = rw e

  pub fault_present : (h : ℕ) → h ≡ 1 → fault_of h n p ≡ present_fault n p
  unfolding fault_of need
  fault_present h e = rw e

  -- the detail, by the number
  pub detail_23 : (number : ℕ) {d : ℕ} → number ≡ 23 → d ≡ lowest_wrong (near_at n p) → d ≡ detail_of number n p
  unfolding detail_of
  detail_23 number e h = rw e h

  pub detail_24 : (number : ℕ) {d : ℕ} → number ≡ 24 → d ≡ lowest_wrong (back_at n p) → d ≡ detail_of number n p
  unfolding detail_of
  detail_24 number e h = rw e h

  pub detail_25 : (number : ℕ) {d : ℕ} → number ≡ 25 → d ≡ lowest_wrong (known_at n p) → d ≡ detail_of number n p
  unfolding detail_of
  detail_25 number e h = rw e h

  pub detail_0 : (number : ℕ) → (number ≡ 23 → ⊥) → (number ≡ 24 → ⊥) → (number ≡ 25 → ⊥) → 0 ≡ detail_of number n p
  unfolding detail_of
  detail_0 number a b c = rw (ne_eqb a, ne_eqb b, ne_eqb c)

-- ---- the lowest record with a fault, and the verdict

module _ (h : ℕ → ℕ) (n : Network) where
  -- below the lowest there is none, and it has one
  none_below : (p : ℕ) → p < lowest_by h n → fault_of (h p) n (peer p) ≡ 0
  unfolding faulty lowest_by
  none_below p b = eqb-true _ _ (not_no _ (lowest_of_least 32 (faulty h n) p b))

  one_there : lowest_by h n < 32 → fault_of (h (lowest_by h n)) n (peer (lowest_by h n)) ≡ 0 → ⊥
  unfolding faulty lowest_by
  one_there b = eqb-false _ _ (not_yes _ (lowest_of_lt_holds 32 (faulty h n) b))

  -- no record has a fault
  pub verdict_none : ((p : ℕ) → p < 32 → fault_of (h p) n (peer p) ≡ 0) → checked 0 0 0 ≡ verdict_by h n
  unfolding faulty lowest_by verdict_by
  verdict_none e = rw (lowest_of_none 32 (faulty h n) λ p b. ap not (eq-eqb _ _ (e p b)))

  -- a loop over the records: none up to q has one, and q has none
  pub clean_more : (q : ℕ) {k : ℕ} → ((p : ℕ) → p < q → fault_of (h p) n (peer p) ≡ 0) → k ≡ fault_of (h q) n (peer q) → k ≡ 0
      → (p : ℕ) → p < q + 1 → fault_of (h p) n (peer p) ≡ 0
  clean_more q c e z p l = ⊎_elim (c p) (λ s. rw s (sym e ∙ z)) (below_suc p q (omega arith))

  -- record q has one, and none below it
  pub verdict_one : (q : ℕ) {k d : ℕ} → q < 32 → ((p : ℕ) → p < q → fault_of (h p) n (peer p) ≡ 0) → k ≡ fault_of (h q) n (peer q) → (k ≡ 0 → ⊥)
      → d ≡ detail_of k n (peer q) → checked k q d ≡ verdict_by h n
  unfolding faulty lowest_by verdict_by fault_as
  verdict_one q b e ek z ed =
      let w : lowest_by h n ≡ q = lowest_of_is 32 (faulty h n) q b (ap not (ne_eqb λ f. z (ek ∙ f))) λ p c. ap not (eq-eqb _ _ (e p c)) in
      rw (w, lt-ltb q 32 b, ← ek, ed)

-- What is known of a verdict, number 0 or not.
pub record Verdict (h : ℕ → ℕ) (n : Network) (c : Checked) : Type 0 where
  pub below : (p : ℕ) → p < c.place → fault_of (h p) n (peer p) ≡ 0
  pub none : c.number ≡ 0 → (c ≡ checked 0 0 0) × ((p : ℕ) → p < 32 → fault_of (h p) n (peer p) ≡ 0)
  pub one : (c.number ≡ 0 → ⊥) → (c.place < 32) × (c ≡ fault_as h n c.place)

pub verdict_is : (h : ℕ → ℕ) (n : Network) → Verdict h n (verdict_by h n)
unfolding verdict_by fault_as
verdict_is h n = go (ltb (lowest_by h n) 32) refl
  where
    go : (x : Bool) → ltb (lowest_by h n) 32 ≡ x → Verdict h n (cond x (fault_as h n (lowest_by h n)) (checked 0 0 0))
    go true e =
        let b = ltb-true _ _ e in
        record { below = none_below h n; none = λ z. absurd (one_there h n b z); one = λ z. (b, refl) }
    go false e =
        record { below = λ p l. absurd (omega arith); none = λ z. (refl, λ p l. none_below h n p (omega (arith, ltb-false (lowest_by h n) 32 e))); one = λ z. absurd (z refl) }

-- a verdict's number is 0, or 20 to 26
need_by : (P : ℕ → Type 0) (a : Bool) (k rest : ℕ) → P k → P rest → P (need a k rest)
unfolding need
need_by P true k rest h r = r
need_by P false k rest h r = h

fault_by : (h : ℕ) (n : Network) (p : Peer) (P : ℕ → Type 0) → P 0 → ((k : ℕ) → 20 ≤ k → k ≤ 26 → P k) → P (fault_of h n p)
unfolding fault_of absent_fault present_fault
fault_by h n p P h0 f = need_by P _ 20 _ (f 20 (omega arith) (omega arith)) (go (eqb h 0))
  where
    go : (x : Bool) → P (cond x (absent_fault n p) (present_fault n p))
    go true = need_by P _ 21 0 (f 21 (omega arith) (omega arith)) h0
    go false =
        need_by P _ 22 _ (f 22 (omega arith) (omega arith))
        (need_by P _ 23 _ (f 23 (omega arith) (omega arith))
        (need_by P _ 24 _ (f 24 (omega arith) (omega arith)) (need_by P _ 25 _ (f 25 (omega arith) (omega arith)) (need_by P _ 26 0 (f 26 (omega arith) (omega arith)) h0))))

pub verdict_by_lem : (h : ℕ → ℕ) (n : Network) (P : ℕ → Type 0) → P 0 → ((k : ℕ) → 20 ≤ k → k ≤ 26 → P k) → P (verdict_by h n).number
unfolding verdict_by fault_as
verdict_by_lem h n P h0 f = go (ltb (lowest_by h n) 32)
  where
    go : (x : Bool) → P (cond x (fault_as h n (lowest_by h n)) (checked 0 0 0)).number
    go true = fault_by _ n _ P h0 f
    go false = h0

-- of the first words only those of the 32 records matter
pub verdict_same : (h g : ℕ → ℕ) (n : Network) → ((p : ℕ) → p < 32 → h p ≡ g p) → verdict_by h n ≡ verdict_by g n
unfolding faulty lowest_by verdict_by fault_as
verdict_same h g n e = rw low (go (ltb (lowest_by g n) 32) refl)
  where
    low : lowest_by h n ≡ lowest_by g n
    low = lowest_of_same 32 _ _ λ p l. ap (λ (w : ℕ). not (eqb (fault_of w n (peer p)) 0)) (e p l)

    go : (x : Bool) → ltb (lowest_by g n) 32 ≡ x → cond x (fault_as h n (lowest_by g n)) (checked 0 0 0) ≡ cond x (fault_as g n (lowest_by g n)) (checked 0 0 0)
    go true l = rw (e (lowest_by g n) (ltb-true _ _ l))
    go false l = refl

-- the first words as an array
pub verdict_tab : (h : ℕ → ℕ) (n : Network) {heads : List ℕ} → heads ≡ tab 32 h → verdict_by (λ (p : ℕ). get_or heads p 0) n ≡ verdict_by h n
verdict_tab h n e = rw e (verdict_same _ h n λ p l. get_or_tab 32 h p l)
