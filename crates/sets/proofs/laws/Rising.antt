-- Laws of specs/Rising.antt: the least member comes first, then the others; the list of the members has each of them once, and rises. Assumes nothing.
use Rattle.std.specs.Prelude.{◌≡◌, ◌⊎◌, ◌↔◌, Bool, List, [], ◌∷◌, ◌++◌, ℕ, zero, suc, ◌+◌, ◌^◌, ◌<◌}
use Rattle.std.proofs.Common.{sym, ◌∙◌, inl, inr, ⊎_elim, arith, append-nil, append_assoc}
use Rattle.std.proofs.Math.Path.{refl, ap}
use Rattle.std.proofs.Math.Bool.{true, false, cond}
use Rattle.std.proofs.Math.ListN.{length, length-append}
use Rattle.sets.specs.Set.{has, minus, only, size, lowest, digit, count}
use Rattle.sets.specs.Sums.{sum}
use Rattle.sets.specs.Rising.{rising, members, In, Rising, Takes}
use Rattle.sets.proofs.laws.Bools.{below_suc}
use Rattle.sets.proofs.laws.Members.{has_none, has_without, has_without_other}
use Rattle.sets.proofs.laws.Bounds.{has_in}
use Rattle.sets.proofs.laws.Lowest.{lowest_has, lowest_member, lowest_least, lowest_lt}
use Rattle.sets.proofs.laws.Counts.{size_count}

-- ---- one after the other

module _ {A : Type 0} (f : ℕ → List A) where
  -- Without members there is nothing.
  rising_none : (k w : ℕ) → ((i : ℕ) → i < k → has w i ≡ false) → rising f k w ≡ []
  unfolding rising
  rising_none zero w h = refl
  rising_none (suc k) w h = rw (rising_none k w (λ i l. h i (omega arith)), h k (omega arith))

  -- The empty set has none.
  pub rising_empty : (k : ℕ) → rising f k 0 ≡ []
  rising_empty k = rising_none k 0 (λ i l. has_none i)

  -- A member with none below it comes first; then come the others.
  rising_first : (w m k : ℕ) → has w m ≡ true → ((j : ℕ) → j < m → has w j ≡ false) → m < k → rising f k w ≡ f m ++ rising f k (minus w (only m))
  unfolding rising
  rising_first w m zero e none l = absurd (omega arith)
  rising_first w m (suc k) e none l = first (below_suc m k l) (λ l'. rising_first w m k e none l')
    where
      first : (m < k) ⊎ (m ≡ k) → (m < k → rising f k w ≡ f m ++ rising f k (minus w (only m)))
          → rising f k w ++ cond (has w k) (f k) [] ≡ f m ++ (rising f k (minus w (only m)) ++ cond (has (minus w (only m)) k) (f k) [])
      first (inl l') ih =
          rw (ih l', has_without_other w m k (λ (d : m ≡ k). omega arith))
          (append_assoc (f m) (rising f k (minus w (only m))) (cond (has w k) (f k) []))
      first (inr d) ih =
          rw (← d, rising_none m w none, rising_none m (minus w (only m)) (λ j b. has_without_other w m j (λ (x : m ≡ j). omega arith) ∙ none j b), e, has_without w m)
          (sym (append-nil (f m)))

  -- THE LEAST MEMBER COMES FIRST, then what is left of the set.
  pub rising_lowest : (k w : ℕ) → 0 < w → w < 2 ^ k → rising f k w ≡ f (lowest k w) ++ rising f k (minus w (only (lowest k w)))
  rising_lowest k w p h = rising_first w (lowest k w) k (lowest_has k w p h) (lowest_least k w) (lowest_lt k w p h)

  -- Where each member gives one thing, there are as many as members.
  pub length_rising : ((i : ℕ) → length (f i) ≡ 1) → (k w : ℕ) → length (rising f k w) ≡ count k (has w)
  unfolding rising count sum
  length_rising one zero w = refl
  length_rising one (suc k) w = length-append (rising f k w) _ ∙ rw (length_rising one k w) (last (has w k))
    where
      last : (b : Bool) → sum k (λ (i : ℕ). digit (has w i)) + length (cond b (f k) []) ≡ sum k (λ (i : ℕ). digit (has w i)) + digit b
      last true = ap (λ (x : ℕ). sum k (λ (i : ℕ). digit (has w i)) + x) (one k)
      last false = refl

-- ---- the list of the members

-- A step takes the first of them, and leaves the others, whatever the word has besides.
pub members_takes : {k w q w' : ℕ} → Takes k w q w' → members k w ≡ q ∷ members k w'
members_takes {k} {w} t =
    let l : lowest k w < k = rw (sym t.least) t.below in
    rw (t.least, t.rest) (rising_first (λ i. i ∷ []) w (lowest k w) k (lowest_member k w l) (lowest_least k w) l)

-- What stands in a list stands in it with another behind it, or before it; and nothing else does.
in_front : (q : ℕ) (l r : List ℕ) → In q l → In q (l ++ r)
unfolding In
in_front q [] r h = elim h [ ]
in_front q (x ∷ l) r (inl e) = inl e
in_front q (x ∷ l) r (inr h) = inr (in_front q l r h)

in_back : (q : ℕ) (l r : List ℕ) → In q r → In q (l ++ r)
unfolding In
in_back q [] r h = h
in_back q (x ∷ l) r h = inr (in_back q l r h)

in_either : (q : ℕ) (l r : List ℕ) → In q (l ++ r) → In q l ⊎ In q r
unfolding In
in_either q [] r h = inr h
in_either q (x ∷ l) r (inl e) = inl (inl e)
in_either q (x ∷ l) r (inr h) = ⊎_elim (λ y. inl (inr y)) inr (in_either q l r h)

-- The list has the members of w below k.
in_below : (k w q : ℕ) → In q (members k w) → (q < k) × (has w q ≡ true)
unfolding rising In
in_below zero w q h = elim h [ ]
in_below (suc k) w q h = ⊎_elim (λ x. let y = in_below k w q x in (omega (arith, y.0), y.1)) (last (has w k) refl) (in_either q (members k w) _ h)
  where
    last : (b : Bool) → has w k ≡ b → In q (cond b (k ∷ []) []) → (q < suc k) × (has w q ≡ true)
    last false e h = elim h [ ]
    last true e (inr h) = elim h [ ]
    last true e (inl z) = (omega arith, ap (has w) z ∙ e)

below_in : (k w q : ℕ) → q < k → has w q ≡ true → In q (members k w)
unfolding rising In
below_in zero w q l e = absurd (omega arith)
below_in (suc k) w q l e =
    ⊎_elim (λ h. in_front q (members k w) _ (below_in k w q h e))
    (λ z. let y : has w k ≡ true = ap (has w) (sym z) ∙ e in in_back q (members k w) (cond (has w k) (k ∷ []) []) (rw y (inl z)))
    (below_suc q k l)

-- IT HAS THE MEMBERS OF W, and no other number.
pub in_members : (k w q : ℕ) → w < 2 ^ k → In q (members k w) ↔ (has w q ≡ true)
in_members k w q h = (λ x. (in_below k w q x).1, λ e. below_in k w q (has_in k w q h e) e)

-- One that is above all others is put behind them.
rise_more : (l : List ℕ) (k : ℕ) → Rising l → ((q : ℕ) → In q l → q < k) → Rising (l ++ (k ∷ []))
unfolding Rising In
rise_more [] k r b = (λ q h. absurd h, tt)
rise_more (x ∷ l) k r b =
    (λ q h. ⊎_elim (r.0 q) (⊎_elim (λ z. let c = b x (inl refl) in omega arith) absurd) (in_either q l (k ∷ []) h), rise_more l k r.1 (λ q h. b q (inr h)))

-- IT RISES.
pub members_rise : (k w : ℕ) → Rising (members k w)
unfolding rising Rising
members_rise zero w = tt
members_rise (suc k) w = last (has w k) (members_rise k w)
  where
    last : (b : Bool) → Rising (members k w) → Rising (members k w ++ cond b (k ∷ []) [])
    last true r = rise_more (members k w) k r (λ q h. (in_below k w q h).0)
    last false r = rw (append-nil (members k w)) r

-- IT IS AS LONG AS W HAS MEMBERS.
pub length_members : (k w : ℕ) → w < 2 ^ k → length (members k w) ≡ size w
length_members k w h = length_rising (λ i. i ∷ []) (λ i. refl) k w ∙ sym (size_count k w h)
