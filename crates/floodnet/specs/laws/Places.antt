-- One place of a list, stored to or edited: what stands there, one member at a time, and the bounds that it keeps. `get_or l j 0` is the
-- word at place j, and every law holds past the end of the list too, unless it says otherwise. Then the places of `known`: the word
-- of a peer and a topic. Assumes nothing.
use Rattle.std.specs.Prelude.{◌≡◌, refl, Bool, true, false, not, cond, ◌&&◌, ◌||◌, List, ℕ, ◌+◌, ◌*◌, ◌/◌, ◌%◌, ◌≤◌, ◌<◌, eqb, length, get_or, set}
use Rattle.std.proofs.Common.{sym, ap, ◌∙◌, arith, get_or-set_same, get_or-set_other, eqb-true, eq-eqb}
use Rattle.std.proofs.Math.Bool.{and-true, or-false}
use Rattle.std.proofs.Math.Decide.{dec_lt, ℕ_discrete}
use Rattle.std.proofs.Math.ListN.{get_or-eq_default}
use Rattle.std.proofs.Math.Seq.{set_out}
use Rattle.std.proofs.lemmas.Bool.{eqb-false}
use Rattle.sets.specs.Set.{has, union, minus, only, when, empties, with_if}
use Rattle.sets.proofs.laws.Bools.{bool_ext, eqb_same, ne_eqb}
use Rattle.sets.proofs.laws.Members.{has_union, has_minus, has_none, has_only}
use Rattle.sets.proofs.laws.Build.{has_with_if, has_empties}
use Rattle.lists.specs.Edit.{edit}
use Rattle.lists.specs.laws.Edit.{get_or_edit, get_or_edit_out}
use Rattle.network.specs.declared.Peer.{Peer}
use Rattle.network.specs.declared.Topic.{Topic}
use Rattle.network.specs.Network.{spot}

-- Equal numbers, either way round.
pub eqb_sym : (a b : ℕ) → eqb a b ≡ eqb b a
eqb_sym a b = bool_ext (λ e. eq-eqb b a (sym (eqb-true a b e))) (λ e. eq-eqb a b (sym (eqb-true b a e)))

-- Past the end nothing is in a set.
pub has_beyond : (l : List ℕ) (j x : ℕ) → length l ≤ j → has (get_or l j 0) x ≡ false
has_beyond l j x h = ap (λ (w : ℕ). has w x) (get_or-eq_default l 0 h) ∙ has_none x

-- ---- a store

-- What stands at q once v is stored at p.
pub get_or_set : (l : List ℕ) (p q v : ℕ) → p < length l → get_or (set l p v) q 0 ≡ cond (eqb q p) v (get_or l q 0)
get_or_set l p q v h = go (eqb q p) refl
  where
    go : (b : Bool) → eqb q p ≡ b → get_or (set l p v) q 0 ≡ cond b v (get_or l q 0)
    go true e = ap (λ (x : ℕ). get_or (set l p v) x 0) (eqb-true q p e) ∙ get_or-set_same l p v 0 h
    go false e = get_or-set_other l p q v 0 (eqb-false q p e)

-- Its members.
pub has_set : (l : List ℕ) (i v j x : ℕ) → i < length l → has (get_or (set l i v) j 0) x ≡ cond (eqb j i) (has v x) (has (get_or l j 0) x)
has_set l i v j x h = ap (λ (w : ℕ). has w x) (get_or_set l i j v h) ∙ go (eqb j i)
  where
    go : (b : Bool) → has (cond b v (get_or l j 0)) x ≡ cond b (has v x) (has (get_or l j 0) x)
    go true = refl
    go false = refl

-- The set at i with m.
pub has_set_with : (l : List ℕ) (i m j x : ℕ) → i < length l
    → has (get_or (set l i (union (get_or l i 0) (only m))) j 0) x ≡ has (get_or l j 0) x || (eqb j i && eqb x m)
has_set_with l i m j x h = has_set l i (union (get_or l i 0) (only m)) j x h ∙ go (ℕ_discrete j i)
  where
    go : Dec (j ≡ i) → cond (eqb j i) (has (union (get_or l i 0) (only m)) x) (has (get_or l j 0) x) ≡ has (get_or l j 0) x || (eqb j i && eqb x m)
    go (yes e) = rw (e, eqb_same i) (rw (has_union, has_only, eqb_sym m x))
    go (no e) = rw (ne_eqb e) (sym (or-false (has (get_or l j 0) x)))

-- The set at i without m.
pub has_set_without : (l : List ℕ) (i m j x : ℕ) → i < length l
    → has (get_or (set l i (minus (get_or l i 0) (only m))) j 0) x ≡ has (get_or l j 0) x && not (eqb j i && eqb x m)
has_set_without l i m j x h = has_set l i (minus (get_or l i 0) (only m)) j x h ∙ go (ℕ_discrete j i)
  where
    go : Dec (j ≡ i) → cond (eqb j i) (has (minus (get_or l i 0) (only m)) x) (has (get_or l j 0) x) ≡ has (get_or l j 0) x && not (eqb j i && eqb x m)
    go (yes e) = rw (e, eqb_same i) (rw (has_minus, has_only, eqb_sym m x))
    go (no e) = rw (ne_eqb e) (sym (and-true (has (get_or l j 0) x)))

-- A bound on every word.
pub set_below : (l : List ℕ) (i v b : ℕ) → v < b → ((j : ℕ) → get_or l j 0 < b) → (j : ℕ) → get_or (set l i v) j 0 < b
set_below l i v b h all j = go (dec_lt i (length l)) (ℕ_discrete j i)
  where
    go : Dec (i < length l) → Dec (j ≡ i) → get_or (set l i v) j 0 < b
    go (yes k) (yes e) = rw (e, get_or-set_same l i v 0 k) h
    go d (no e) = rw (get_or-set_other l i j v 0 e) (all j)
    go (no k) (yes e) = rw (set_out l i v (omega arith)) (all j)

-- What stands at q once 0 is stored at p.
pub zeroed : (l : List ℕ) (p q : ℕ) → get_or (set l p 0) q 0 ≡ when (eqb q p) empties (get_or l q 0)
unfolding when empties
zeroed l p q = first (dec_lt p (length l))
  where
    at : (b : Bool) → cond b 0 (get_or l q 0) ≡ when b empties (get_or l q 0)
    at true = refl
    at false = refl

    out : length l ≤ p → (b : Bool) → eqb q p ≡ b → get_or l q 0 ≡ when b empties (get_or l q 0)
    out o true e = ap (λ (x : ℕ). get_or l x 0) (eqb-true q p e) ∙ get_or-eq_default l 0 o
    out o false e = refl

    first : Dec (p < length l) → get_or (set l p 0) q 0 ≡ when (eqb q p) empties (get_or l q 0)
    first (yes h) = get_or_set l p q 0 h ∙ at (eqb q p)
    first (no h) = ap (λ (x : List ℕ). get_or x q 0) (set_out l p 0 (omega arith)) ∙ out (omega arith) (eqb q p) refl

-- A member of what stands there: none at p.
pub has_zeroed : (l : List ℕ) (p q i : ℕ) → has (get_or (set l p 0) q 0) i ≡ not (eqb q p) && has (get_or l q 0) i
has_zeroed l p q i = ap (λ (w : ℕ). has w i) (zeroed l p q) ∙ has_empties (eqb q p) (get_or l q 0) i

-- ---- an edit

-- What f made of the set there.
pub has_edit : (f : ℕ → ℕ → ℕ) (l : List ℕ) (j x : ℕ) → j < length l → has (get_or (edit f l) j 0) x ≡ has (f j (get_or l j 0)) x
has_edit f l j x h = ap (λ (w : ℕ). has w x) (get_or_edit f l j h)

-- m put into the sets at the places of r, which are all in the list.
pub has_edit_with : (r m : ℕ) (l : List ℕ) (j x : ℕ) → (length l ≤ j → has r j ≡ false)
    → has (get_or (edit (λ q w. with_if (has r q) m w) l) j 0) x ≡ has (get_or l j 0) x || (has r j && eqb x m)
has_edit_with r m l j x h = go (dec_lt j (length l))
  where
    go : Dec (j < length l) → has (get_or (edit (λ q w. with_if (has r q) m w) l) j 0) x ≡ has (get_or l j 0) x || (has r j && eqb x m)
    go (yes k) = has_edit (λ q w. with_if (has r q) m w) l j x k ∙ has_with_if (has r j) m (get_or l j 0) x ∙ rw (eqb_sym m x)
    go (no k) =
        let o : length l ≤ j = omega arith in
        ap (λ (w : ℕ). has w x) (get_or_edit_out (λ q w. with_if (has r q) m w) l j o) ∙ has_none x ∙ sym (rw (has_beyond l j x o, h o))

-- ---- the word of a peer and a topic

-- The spot of peer q and topic t is in q's row, at t.
pub spot_row : (q t : ℕ) → t < 32 → (q * 32 + t) / 32 ≡ q
spot_row q t h = omega arith

-- And its column is t.
pub spot_column : (q t : ℕ) → t < 32 → (q * 32 + t) % 32 ≡ t
spot_column q t h = omega arith

-- Every place is the spot of its row and column.
pub spot_of : (i : ℕ) → (i / 32) * 32 + i % 32 ≡ i
spot_of i = omega arith

-- The word of peer q and topic t after an edit that goes by row and column.
pub edit_spot : (f : ℕ → ℕ → ℕ → ℕ) (l : List ℕ) (q : Peer) (t : Topic) → length l ≡ 1024 → q.0 < 32 → t.0 < 32
    → get_or (edit (λ i w. f (i / 32) (i % 32) w) l) (spot q t) 0 ≡ f q.0 t.0 (get_or l (spot q t) 0)
edit_spot f l q t e hq ht =
    get_or_edit (λ i w. f (i / 32) (i % 32) w) l (spot q t) (omega arith)
    ∙ ap (λ (x : ℕ). f x (spot q t % 32) (get_or l (spot q t) 0)) (spot_row q.0 t.0 ht)
    ∙ ap (λ (x : ℕ). f q.0 x (get_or l (spot q t) 0)) (spot_column q.0 t.0 ht)
