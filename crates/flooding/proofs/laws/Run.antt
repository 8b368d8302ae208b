-- What a list of forwards makes of a network, in one formula; which of that is a chain; the end of every order. Assumes nothing.
use Rattle.std.specs.Prelude.{◌≡◌, refl, ◌⊎◌, ◌↔◌, Bool, true, false, not, ◌&&◌, ◌||◌, ℕ, zero, suc, eqb, take, List, [], ◌∷◌, ◌++◌}
use Rattle.std.proofs.Common.{sym, ◌∙◌, inl, inr, eqb-true}
use Rattle.std.proofs.Math.Bool.{or-false, or-true, and-false}
use Rattle.sets.proofs.laws.Bools.{either, clash, bool_ext, and_yes, or_yes, or_no, or_right, not_yes, eqb_same}
use Rattle.flooding.specs.Network.{Net, Sound, link, at, forward, Quiet, Chain, holds, link_to, Reached}
use Rattle.flooding.specs.Machine.{Pair, pair, run, Accepts}
use Rattle.flooding.proofs.laws.Machine.{itself}

-- A network's own runs: the network after a list of forwards; a list that it accepts.
abbrev pub after : Net → List Pair → Net
after s l = run forward s l

abbrev pub Accepted : Net → List Pair → Type 0
Accepted s l = Accepts itself forward s l

-- One list after another is accepted, and so is a front of one.
module _ {S : Type 0} (view : S → Net) (fwd : S → ℕ → ℕ → S) where
  pub accepts_append : (s : S) (l r : List Pair) → Accepts view fwd s l → Accepts view fwd (run fwd s l) r → Accepts view fwd s (l ++ r)
  unfolding run
  accepts_append s [] r a b = b
  accepts_append s (pair p m ∷ l) r a b = (a.0, accepts_append (fwd s p m) l r a.1 b)

  pub accepts_take : (n : ℕ) (s : S) (l : List Pair) → Accepts view fwd s l → Accepts view fwd s (take n l)
  accepts_take zero s l a = tt
  accepts_take (suc n) s [] a = tt
  accepts_take (suc n) s (pair p m ∷ l) a = (a.0, accepts_take n (fwd s p m) l a.1)

-- The list has the pair q, n; the list has a pair p, n with a link to q.
unfoldable pub mem : List Pair → ℕ → ℕ → Bool
mem [] q n = false
mem (pair p m ∷ l) q n = at p m q n || mem l q n

unfoldable pub feeds : (ℕ → ℕ → ℕ → Bool) → List Pair → ℕ → ℕ → Bool
feeds L [] q n = false
feeds L (pair p m ∷ l) q n = (eqb n m && L m p q) || feeds L l q n

-- A forward leaves these alone, and so does a list of them.
pub after_topic : (s : Net) (l : List Pair) → (after s l).topic ≡ s.topic
unfolding run forward
after_topic s [] = refl
after_topic s (pair p m ∷ l) = after_topic (forward s p m) l

pub after_present : (s : Net) (l : List Pair) → (after s l).present ≡ s.present
unfolding run forward
after_present s [] = refl
after_present s (pair p m ∷ l) = after_present (forward s p m) l

pub after_known : (s : Net) (l : List Pair) → (after s l).known ≡ s.known
unfolding run forward
after_known s [] = refl
after_known s (pair p m ∷ l) = after_known (forward s p m) l

-- Seen after the list: seen before, or forwarded in it.
seen_alg : (s a r : Bool) → ((s || a) || r) ≡ (s || (a || r))
seen_alg true a r = refl
seen_alg false a r = refl

pub after_seen : (s : Net) (l : List Pair) (q n : ℕ) → (after s l).seen q n ≡ (s.seen q n || mem l q n)
unfolding run forward mem
after_seen s [] q n = sym (or-false (s.seen q n))
after_seen s (pair p m ∷ l) q n = after_seen (forward s p m) l q n ∙ seen_alg (s.seen q n) (at p m q n) (mem l q n)

-- r: in the rest; a: the first pair; w: pending; h: seen; e: fed by the first pair; f: fed by the rest.
pending_alg : (r a w h e f : Bool) → (not r && ((not a && (w || (not h && e))) || (not (h || a) && f))) ≡ (not (a || r) && (w || (not h && (e || f))))
pending_alg true true w h e f = refl
pending_alg true false w h e f = refl
pending_alg false true w true e f = refl
pending_alg false true w false e f = refl
pending_alg false false true h e f = refl
pending_alg false false false true e f = refl
pending_alg false false false false true f = refl
pending_alg false false false false false f = refl

-- Pending after the list: not forwarded in it, and pending before or fed by it unless seen.
pub after_pending : (s : Net) (l : List Pair) (q n : ℕ) → (after s l).pending q n ≡ (not (mem l q n) && (s.pending q n || (not (s.seen q n) && feeds (link s) l q n)))
unfolding run forward mem feeds
after_pending s [] q n = simp (and-false, or-false)
after_pending s (pair p m ∷ l) q n = after_pending (forward s p m) l q n ∙ pending_alg (mem l q n) (at p m q n) (s.pending q n) (s.seen q n) (eqb n m && link s m p q) (feeds (link s) l q n)

-- A chain after an accepted forward was one before it, perhaps of another length.
pub chain_back : (s : Net) (p m : ℕ) → s.pending p m ≡ true → {n q d : ℕ} → Chain (forward s p m) n q d → Reached s n q
unfolding forward
chain_back s p m a {n} {q} (holds h) = first (or_yes (s.pending q n) _ (and_yes (not (at p m q n)) _ h).1)
  where
    fed : (n ≡ m) → link s m p q ≡ true → s.seen q n ≡ false → Reached s n q
    fed e k z = (1, link_to {q = q} (holds {q = p} (rw e a)) (rw e k) z)

    first : (s.pending q n ≡ true) ⊎ ((not (s.seen q n) && (eqb n m && link s m p q)) ≡ true) → Reached s n q
    first (inl w) = (0, holds w)
    first (inr e) =
        let x = and_yes (not (s.seen q n)) _ e in
        let y = and_yes (eqb n m) _ x.1 in
        fed (eqb-true n m y.0) y.1 (not_yes _ x.0)
chain_back s p m a {n} {q} (link_to c k z) =
    let r = chain_back s p m a c in
    (suc r.0, link_to r.1 k (or_no (s.seen q n) _ z).0)

-- A desk on a chain had not seen the message.
pub chain_unseen : {N M : ℕ} (s : Net) → Sound N M s → {m q d : ℕ} → Chain s m q d → s.seen q m ≡ false
chain_unseen s ok (holds h) = ok.apart _ _ h
chain_unseen s ok (link_to c k z) = z

-- What is forwarded was reached.
pub mem_reached : (s : Net) (l : List Pair) → Accepted s l → (q n : ℕ) → mem l q n ≡ true → Reached s n q
unfolding mem
mem_reached s [] a q n h = clash h refl
mem_reached s (pair p m ∷ l) a q n h = first (or_yes (at p m q n) _ h) (mem_reached (forward s p m) l a.1 q n)
  where
    first : (at p m q n ≡ true) ⊎ (mem l q n ≡ true) → (mem l q n ≡ true → Reached (forward s p m) n q) → Reached s n q
    first (inl e) ih =
        let x = and_yes (eqb q p) _ e in
        (0, holds {q = q} (rw (eqb-true q p x.0, eqb-true n m x.1) a.0))
    first (inr h') ih = chain_back s p m a.0 (ih h').1

-- What feeds q is a member with a link to q.
pub feeds_yes : (L : ℕ → ℕ → ℕ → Bool) (l : List Pair) (p q n : ℕ) → mem l p n ≡ true → L n p q ≡ true → feeds L l q n ≡ true
unfolding mem feeds
feeds_yes L [] p q n h k = clash h refl
feeds_yes L (pair a m ∷ l) p q n h k = first (or_yes (at a m p n) _ h) (feeds_yes L l p q n)
  where
    first : (at a m p n ≡ true) ⊎ (mem l p n ≡ true) → (mem l p n ≡ true → L n p q ≡ true → feeds L l q n ≡ true) → ((eqb n m && L m a q) || feeds L l q n) ≡ true
    first (inl e) ih =
        let x = and_yes (eqb p a) _ e in
        let k' : L m a q ≡ true = rw (← eqb-true p a x.0, ← eqb-true n m x.1) k in
        rw (x.1, k')
    first (inr h') ih = or_right (eqb n m && L m a q) (ih h' k)

pub feeds_why : (L : ℕ → ℕ → ℕ → Bool) (l : List Pair) (q n : ℕ) → feeds L l q n ≡ true → (p : ℕ) × (mem l p n ≡ true) × (L n p q ≡ true)
unfolding mem feeds
feeds_why L [] q n h = clash h refl
feeds_why L (pair a m ∷ l) q n h = first (or_yes (eqb n m && L m a q) _ h) (feeds_why L l q n)
  where
    first : ((eqb n m && L m a q) ≡ true) ⊎ (feeds L l q n ≡ true) → (feeds L l q n ≡ true → (p : ℕ) × (mem l p n ≡ true) × (L n p q ≡ true)) → (p : ℕ) × (mem (pair a m ∷ l) p n ≡ true) × (L n p q ≡ true)
    first (inl e) ih =
        let x = and_yes (eqb n m) _ e in
        (a, rw (eqb_same a, x.0), rw (eqb-true n m x.0) x.1)
    first (inr h') ih =
        let y = ih h' in
        (y.0, or_right (at a m y.0 n) y.1, y.2)

-- Once m is pending nowhere, every desk on a chain has forwarded it.
pub chain_mem : (s : Net) (l : List Pair) {m : ℕ} → ((p : ℕ) → (after s l).pending p m ≡ false) → {q d : ℕ} → Chain s m q d → mem l q m ≡ true
chain_mem s l {m} still {q} (holds h) = first (either (mem l q m))
  where
    first : (mem l q m ≡ true) ⊎ (mem l q m ≡ false) → mem l q m ≡ true
    first (inl e) = e
    first (inr e) = clash (after_pending s l q m ∙ rw (e, h)) (still q)
chain_mem s l {m} still {q} (link_to {p = p} c k z) = first (either (mem l q m)) (feeds_yes (link s) l p q m (chain_mem s l still c) k)
  where
    first : (mem l q m ≡ true) ⊎ (mem l q m ≡ false) → feeds (link s) l q m ≡ true → mem l q m ≡ true
    first (inl e) f = e
    first (inr e) f = clash (after_pending s l q m ∙ rw (e, z, f) (or-true (s.pending q m))) (still q)

-- THE END of a message, whatever the order and whatever else is still pending: a desk has seen m exactly if it had at the start, or is
-- reached by a chain.
pub seen_at_rest : (s : Net) (l : List Pair) → Accepted s l → (m : ℕ) → ((p : ℕ) → (after s l).pending p m ≡ false) → (q : ℕ)
    → ((after s l).seen q m ≡ true) ↔ ((s.seen q m ≡ true) ⊎ Reached s m q)
seen_at_rest s l a m still q = (λ h. there (or_yes (s.seen q m) _ (sym (after_seen s l q m) ∙ h)), λ o. after_seen s l q m ∙ back o)
  where
    there : (s.seen q m ≡ true) ⊎ (mem l q m ≡ true) → (s.seen q m ≡ true) ⊎ Reached s m q
    there (inl e) = inl e
    there (inr e) = inr (mem_reached s l a q m e)

    back : (s.seen q m ≡ true) ⊎ Reached s m q → (s.seen q m || mem l q m) ≡ true
    back (inl e) = rw e
    back (inr r) = or_right (s.seen q m) (chain_mem s l still r.1)

-- THE END is the same state for every order.
pub same_end : (s : Net) (l r : List Pair) → Accepted s l → Accepted s r → Quiet (after s l) → Quiet (after s r) → after s l ≡ after s r
same_end s l r a b still calm =
    λ i. record {
      topic = (after_topic s l ∙ sym (after_topic s r)) i;
      present = (after_present s l ∙ sym (after_present s r)) i;
      known = (after_known s l ∙ sym (after_known s r)) i;
      pending = λ q m. (still q m ∙ sym (calm q m)) i;
      seen = λ q m. seen_same q m i;
    }
  where
    seen_same : (q m : ℕ) → (after s l).seen q m ≡ (after s r).seen q m
    seen_same q m =
        let x = seen_at_rest s l a m (λ p. still p m) q in
        let y = seen_at_rest s r b m (λ p. calm p m) q in
        bool_ext (λ h. y.1 (x.0 h)) (λ h. x.1 (y.0 h))
