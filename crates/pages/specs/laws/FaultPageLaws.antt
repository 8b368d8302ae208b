-- The proof of specs/FaultPage.antt: of one record, of the verdict on all, of reading and of writing. Assumes nothing.
use Rattle.std.specs.Prelude.{◌≡◌, Bool, true, ◌&&◌, List, eqb, length, get_or, ℕ, ◌+◌, ◌*◌, ◌<◌}
use Rattle.std.proofs.Common.{subst, ◌∙◌, eqb-true, arith}
use Rattle.std.proofs.Math.Path.{refl, sym, ap}
use Rattle.std.proofs.Math.Logic.{⊎_elim}
use Rattle.std.proofs.Math.Bool.{false, and-false}
use Rattle.std.proofs.Math.Decide.{dec_lt}
use Rattle.std.proofs.lemmas.Bool.{eqb-false}
use Rattle.sets.specs.Set.{digit}
use Rattle.sets.proofs.laws.Bools.{either, clash, implied, implies, implied_not, implies_not}
use Rattle.sets.proofs.laws.Any.{all_no}
use Rattle.endian.specs.laws.Le.{Bytes, le_4}
use Rattle.network.specs.declared.Peer.{Peer}
use Rattle.network.specs.declared.Network.{Network}
use Rattle.network.specs.declared.Checked.{Checked}
use Rattle.network.specs.Network.{peer, topic, present, linked, Shaped}
use Rattle.network.specs.Sound.{Empty, Sound}
use Rattle.network.specs.Rules.{own_right, near_at, near_right, back_at, back_right, known_at, known_right, apart_right, absent_fault, present_fault, fault_of, lowest_wrong, detail_of, head_of, checked, fault_as, verdict_by}
use Rattle.network.specs.State.{word, word_in, net_of, fault_at, opened_by, open_of, write_of}
use Rattle.network.specs.laws.Rules.{fault_in}
use Rattle.network.specs.laws.Faults.{fault_21, fault_22, fault_23, fault_24, fault_25, fault_26, fault_none, fault_empty, fault_head, fault_absent, fault_present, detail_0, verdict_is, verdict_none, verdict_one}
use Rattle.network.specs.laws.RuleLaws.{wrong_some, wrong_there, wrong_below, wrong_is, own_why, own_yes, own_not, own_no, near_why, near_yes}
use Rattle.network.specs.laws.RuleLaws.{back_why, back_yes, known_at_lem, known_holds, known_wrong, known_breaks, known_why, known_yes, apart_why, apart_yes, apart_wrong, apart_breaks}
use Rattle.network.specs.laws.SoundLaws.{linked_other}
use Rattle.network.specs.laws.SoundIff.{kept_present, kept_absent}
use Rattle.network.specs.laws.OpenedSound.{net_shaped, head_is, fault_head_right, accepted, opened_sound}
use Rattle.engine.specs.Alone.{check_of}
use Rattle.pages.specs.FaultPage.{LinksKept, Keeps, empty_record, sound_record, Breaks, not_empty, own_neighbour, neighbour_absent, not_listed_back, subscribers_wrong, pending_and_seen}
use Rattle.pages.specs.FaultPage.{HeadKept, RecordKeeps, RecordBreaks, head, rule, Says, FaultPage, WritePage, AccidentRefused}

-- ---- one record of a network

module _ {n : Network} (s : Shaped n) (p : Peer) where
  -- its fault, by presence
  gone : present n p ≡ false → fault_in n p ≡ absent_fault n p
  gone a = fault_absent n p (head_of n p) (ap digit a)

  there : present n p ≡ true → fault_in n p ≡ present_fault n p
  there a = fault_present n p (head_of n p) (ap digit a)

  -- it has none exactly if it keeps every rule
  keeps : fault_in n p ≡ 0 → Keeps n p
  keeps z = ⊎_elim here (λ a. empty_record a (kept_absent n p (sym (gone a) ∙ z))) (either (present n p))
    where
      here : present n p ≡ true → Keeps n p
      here a =
          let k = kept_present n p (sym (there a) ∙ z) in
          sound_record (record { here = a; own = own_why n p k.own; near = near_why n p s k.near; back = back_why n p s k.back })
          (known_why n p s k.known) (apart_why n p k.apart)

  kept : Keeps n p → fault_in n p ≡ 0
  kept (empty_record a e) = gone a ∙ sym (fault_empty n p e)
  kept (sound_record l k x) =
      there l.here ∙ sym (fault_none n p (own_yes n p l.own) (near_yes n p l.near) (back_yes n p l.back) (known_yes n p s k) (apart_yes n p x))

  -- one that it has is a rule that it breaks, with the detail
  module _ (z : fault_in n p ≡ 0 → ⊥) where
    abbrev Broken : Type 0
    Broken = Breaks n p (fault_in n p) (detail_of (fault_in n p) n p)

    by : {k : ℕ} → k ≡ fault_in n p → Breaks n p k (detail_of k n p) → Broken
    by e b = subst (λ (k : ℕ). Breaks n p k (detail_of k n p)) e b

    module _ (a : present n p ≡ true) (o : own_right n p ≡ true) where
      links : near_right n p ≡ true → back_right n p ≡ true → LinksKept n p
      links r b = record { here = a; own = own_why n p o; near = near_why n p s r; back = back_why n p s b }

      from_apart : near_right n p ≡ true → back_right n p ≡ true → known_right n p ≡ true → Broken
      unfolding detail_of
      from_apart r b k =
          ⊎_elim (λ x. absurd (z (there a ∙ sym (fault_none n p o r b k x))))
          (λ x. let m = apart_wrong n p s x in by (fault_26 n p o r b k x ∙ sym (there a)) (pending_and_seen (links r b) (known_why n p s k) m.0 m.1 m.2))
          (either (apart_right n p))

      from_known : near_right n p ≡ true → back_right n p ≡ true → Broken
      unfolding detail_of known_right
      from_known r b = ⊎_elim (from_apart r b) wrong (either (known_right n p))
        where
          d : ℕ
          d = lowest_wrong (known_at n p)

          wrong : known_right n p ≡ false → Broken
          wrong x =
              let l = wrong_some (known_at n p) x in
              let w = known_wrong n p s (topic d) (wrong_there (known_at n p) l) in
              by (fault_25 n p o r b x ∙ sym (there a)) (subscribers_wrong (links r b) (topic d) l w.0 w.1 λ u c. known_at_lem n p s u (wrong_below (known_at n p) u.0 c))

      from_back : near_right n p ≡ true → Broken
      unfolding detail_of back_right
      from_back r = ⊎_elim (from_known r) wrong (either (back_right n p))
        where
          d : ℕ
          d = lowest_wrong (back_at n p)

          wrong : back_right n p ≡ false → Broken
          wrong x =
              let w = implied_not _ _ (wrong_there (back_at n p) (wrong_some (back_at n p) x)) in
              by (fault_24 n p o r x ∙ sym (there a)) (not_listed_back a (own_why n p o) (near_why n p s r) (peer d) w.0 w.1 λ q c. implied _ (wrong_below (back_at n p) q.0 c))

      from_near : Broken
      unfolding detail_of near_right
      from_near = ⊎_elim from_back wrong (either (near_right n p))
        where
          d : ℕ
          d = lowest_wrong (near_at n p)

          wrong : near_right n p ≡ false → Broken
          wrong x =
              let w = implied_not _ _ (wrong_there (near_at n p) (wrong_some (near_at n p) x)) in
              by (fault_23 n p o x ∙ sym (there a)) (neighbour_absent a (own_why n p o) (peer d) w.0 w.1 λ q c. implied _ (wrong_below (near_at n p) q.0 c))

    breaks : Broken
    unfolding detail_of
    breaks = ⊎_elim (λ a. ⊎_elim (from_near a) (λ o. by (fault_22 n p o ∙ sym (there a)) (own_neighbour a (own_not n p o))) (either (own_right n p))) absent (either (present n p))
      where
        absent : present n p ≡ false → Broken
        absent a =
            let e : Empty n p → ⊥ = λ x. z (gone a ∙ sym (fault_empty n p x)) in
            by (fault_21 n p e ∙ sym (gone a)) (not_empty a e)

  -- and back: a rule that it breaks is its fault, with that detail
  broken : {k d : ℕ} → Breaks n p k d → (k ≡ fault_in n p) × (d ≡ detail_of k n p) × (k ≡ 0 → ⊥)
  unfolding detail_of near_right back_right known_right
  broken (not_empty a e) = (fault_21 n p e ∙ sym (gone a), refl, λ z. omega arith)
  broken (own_neighbour a h) = (fault_22 n p (own_no n p h) ∙ sym (there a), refl, λ z. omega arith)
  broken (neighbour_absent a o d h g below) =
      let l = linked_other s p d h in
      let w : near_at n p d.0 ≡ false = implies_not h g in
      (fault_23 n p (own_yes n p o) (all_no 32 (near_at n p) d.0 l w) ∙ sym (there a), wrong_is (near_at n p) d.0 l w (λ j c. implies _ (below (peer j) c)), λ z. omega arith)
  broken (not_listed_back a o r d h g below) =
      let l = linked_other s p d h in
      let w : back_at n p d.0 ≡ false = implies_not h g in
      (fault_24 n p (own_yes n p o) (near_yes n p r) (all_no 32 (back_at n p) d.0 l w) ∙ sym (there a), wrong_is (back_at n p) d.0 l w (λ j c. implies _ (below (peer j) c)), λ z. omega arith)
  broken (subscribers_wrong l t c q h below) =
      let w = known_breaks n p s t q h in (
        fault_25 n p (own_yes n p l.own) (near_yes n p l.near) (back_yes n p l.back) (all_no 32 (known_at n p) t.0 c w) ∙ sym (there l.here),
        wrong_is (known_at n p) t.0 c w (λ j b. known_holds n p s (topic j) (below (topic j) b)),
        λ z. omega arith,
      )
  broken (pending_and_seen l k m h g) =
      (fault_26 n p (own_yes n p l.own) (near_yes n p l.near) (back_yes n p l.back) (known_yes n p s k) (apart_breaks n p m h g) ∙ sym (there l.here), refl, λ z. omega arith)

-- ---- the verdict on all records

-- only 23, 24 and 25 have a detail
verdict_plain : (h : ℕ → ℕ) (n : Network) → ((verdict_by h n).number ≡ 23 → ⊥) → ((verdict_by h n).number ≡ 24 → ⊥) → ((verdict_by h n).number ≡ 25 → ⊥) → (verdict_by h n).detail ≡ 0
unfolding fault_as
verdict_plain h n a b c = ⊎_elim (λ e. ap (λ (x : Checked). x.detail) ((verdict_is h n).none (eqb-true _ _ e)).0) (λ e. plain ((verdict_is h n).one (eqb-false _ _ e)).1) (either (eqb (verdict_by h n).number 0))
  where
    plain : verdict_by h n ≡ fault_as h n (verdict_by h n).place → (verdict_by h n).detail ≡ 0
    plain e =
        let k = ap (λ (x : Checked). x.number) e in
        ap (λ (x : Checked). x.detail) e ∙ sym (detail_0 n _ _ (λ z. a (k ∙ z)) (λ z. b (k ∙ z)) (λ z. c (k ∙ z)))

-- what each record's fault is, in other words
record Judged (h : ℕ → ℕ) (n : Network) (K : ℕ → Type 0) (B : ℕ → ℕ → ℕ → Type 0) : Type 0 where
  keeps : (i : ℕ) → i < 32 → fault_of (h i) n (peer i) ≡ 0 → K i
  kept : (i : ℕ) → i < 32 → K i → fault_of (h i) n (peer i) ≡ 0
  breaks : (i : ℕ) → i < 32 → (fault_of (h i) n (peer i) ≡ 0 → ⊥) → B i (fault_of (h i) n (peer i)) (detail_of (fault_of (h i) n (peer i)) n (peer i))
  broken : (i : ℕ) → i < 32 → {k d : ℕ} → B i k d → (k ≡ fault_of (h i) n (peer i)) × (d ≡ detail_of k n (peer i)) × (k ≡ 0 → ⊥)

module _ {h : ℕ → ℕ} {n : Network} {K : ℕ → Type 0} {B : ℕ → ℕ → ℕ → Type 0} (j : Judged h n K B) where
  told_fault : (number place detail : ℕ) → (number ≡ 0 → ⊥) → (place < 32) × (checked number place detail ≡ fault_as h n place) → B place number detail
  unfolding fault_as
  told_fault number place detail z e =
      let k : number ≡ fault_of (h place) n (peer place) = ap (λ (x : Checked). x.number) e.1 in
      let d : detail ≡ detail_of (fault_of (h place) n (peer place)) n (peer place) = ap (λ (x : Checked). x.detail) e.1 in
      rw (k, d) (j.breaks place e.0 λ f. z (k ∙ f))

  says : Says K B (verdict_by h n)
  says =
      record {
        sound = ((λ z i l. j.keeps i l (((verdict_is h n).none z).1 i l)), λ f. sym (ap (λ (x : Checked). x.number) (verdict_none h n λ i l. j.kept i l (f i l))));
        zeros = λ z. ((verdict_is h n).none z).0;
        fault = λ number place detail z. (there number place detail z, back number place detail);
        others = verdict_plain h n;
      }
    where
      there : (number place detail : ℕ) → (number ≡ 0 → ⊥) → verdict_by h n ≡ checked number place detail → (place < 32) × B place number detail × ((i : ℕ) → i < place → K i)
      there number place detail z e =
          let v = rw e at (verdict_is h n) in
          let o = v.one z in
          (o.0, told_fault number place detail z o, λ i l. j.keeps i (omega (arith, o.0)) (v.below i l))

      back : (number place detail : ℕ) → (place < 32) × B place number detail × ((i : ℕ) → i < place → K i) → verdict_by h n ≡ checked number place detail
      back number place detail x =
          let b = j.broken place x.0 x.1 in
          sym (verdict_one h n place x.0 (λ i l. j.kept i (omega (arith, x.0)) (x.2 i l)) b.0 b.2 b.1)

-- ---- writing

-- THE THEOREM of writing: of every network that code can hold, and every buffer of 5,120 bytes.
pub write_page : {n : Network} → Shaped n → (b : List ℕ) → length b ≡ 5120 → WritePage n b
unfolding write_of
write_page {n} s b long =
    rw long (says (record { keeps = λ i l. keeps s (peer i); kept = λ i l. kept s (peer i); breaks = λ i l. breaks s (peer i); broken = λ i l. broken s (peer i) }))

-- ---- reading

module _ (s : List ℕ) (bytes : Bytes s) where
  shaped : Shaped (net_of s)
  shaped = net_shaped s bytes

  -- the first word is the first four bytes
  first_word : (p : ℕ) → word_in s p 0 ≡ get_or s (160 * p) 0 + 256 * (get_or s (160 * p + 1) 0 + 256 * (get_or s (160 * p + 2) 0 + 256 * get_or s (160 * p + 3) 0))
  unfolding word
  first_word p = let e : 4 * (40 * p + 0) ≡ 160 * p = omega arith in rw e (le_4 s (160 * p))

  head_lt : (p : ℕ) → HeadKept s p → word_in s p 0 < 2
  head_lt p h = rw (first_word p, h.byte_1, h.byte_2, h.byte_3) (omega (arith, h.byte_0))

  head_kept : (p : ℕ) → word_in s p 0 < 2 → HeadKept s p
  head_kept p l =
      let e = first_word p in
      record { byte_0 = omega (arith, e, l); byte_1 = omega (arith, e, l); byte_2 = omega (arith, e, l); byte_3 = omega (arith, e, l) }

  -- with a right first word the record's fault is that of the network
  same_fault : (p : ℕ) → p < 32 → word_in s p 0 < 2 → fault_in (net_of s) (peer p) ≡ fault_at s (peer p)
  same_fault p l h = ap (λ (w : ℕ). fault_of w (net_of s) (peer p)) (head_is s p l h)

  judged : Judged (λ (p : ℕ). word_in s p 0) (net_of s) (RecordKeeps s) (RecordBreaks s)
  unfolding detail_of
  judged = record { keeps = record_keeps; kept = record_kept; breaks = record_breaks; broken = record_broken }
    where
      record_keeps : (i : ℕ) → i < 32 → fault_at s (peer i) ≡ 0 → RecordKeeps s i
      record_keeps i l z =
          let h = fault_head_right _ _ _ z in
          (head_kept i h, keeps shaped (peer i) (same_fault i l h ∙ z))

      record_kept : (i : ℕ) → i < 32 → RecordKeeps s i → fault_at s (peer i) ≡ 0
      record_kept i l x = sym (same_fault i l (head_lt i x.0)) ∙ kept shaped (peer i) x.1

      record_breaks : (i : ℕ) → i < 32 → (fault_at s (peer i) ≡ 0 → ⊥) → RecordBreaks s i (fault_at s (peer i)) (detail_of (fault_at s (peer i)) (net_of s) (peer i))
      record_breaks i l z = first (dec_lt (word_in s i 0) 2)
        where
          of : ℕ → Type 0
          of k = RecordBreaks s i k (detail_of k (net_of s) (peer i))

          first : Dec (word_in s i 0 < 2) → of (fault_at s (peer i))
          first (yes h) = subst of (same_fault i l h) (rule (head_kept i h) (breaks shaped (peer i) λ e. z (sym (same_fault i l h) ∙ e)))
          first (no h) = subst of (fault_head _ _ _ (omega (arith, h))) (head λ k. h (head_lt i k))

      record_broken : (i : ℕ) → i < 32 → {k d : ℕ} → RecordBreaks s i k d → (k ≡ fault_at s (peer i)) × (d ≡ detail_of k (net_of s) (peer i)) × (k ≡ 0 → ⊥)
      record_broken i l (head h) =
          let g : word_in s i 0 < 2 → ⊥ = λ k. h (head_kept i k) in
          (fault_head _ _ _ (omega (arith, g)), refl, λ z. omega arith)
      record_broken i l (rule h b) =
          let x = broken shaped (peer i) b in
          (x.0 ∙ same_fault i l (head_lt i h), x.1, x.2)

  -- THE THEOREM of reading: of all bytes, 5,120 of them.
  pub fault_page : length s ≡ 5120 → FaultPage s
  unfolding check_of open_of opened_by
  fault_page long = rw long (says judged)

  -- THE THEOREM of the accident: of all bytes.
  pub accident_refused : AccidentRefused s
  unfolding check_of
  accident_refused p t q bp bt h g z =
      let sound : Sound (net_of s) = rw (accepted s z).is at (opened_sound s bytes) in
      clash h (sound.knows p t q bp bt ∙ ap (λ (x : Bool). linked (net_of s) p q && x) g ∙ and-false (linked (net_of s) p q))
