-- The least member, and a set without it. Assumes nothing.
use Rattle.std.specs.Prelude.{◌≡◌, refl, Bool, true, false, ◌&&◌, ℕ, zero, suc, ◌-◌, ◌/◌, ◌%◌, ◌^◌, ◌≤◌, ◌<◌, eqb}
use Rattle.std.proofs.Common.{sym, ap, ◌∙◌, pow-suc, not-suc-le-zero, le_of_suc-le-suc, zero-lt-suc, arith, pow_pos}
use Rattle.std.specs.Int.Bits.{bit_and, and_step, and_self}
use Rattle.std.proofs.lemmas.Nat.{and_le_l}
use Rattle.std.specs.Int.Count.{count_trailing_zeros, under, trailing_of_zero}
use Rattle.sets.specs.Set.{has, meet, minus, only, lowest}
use Rattle.sets.proofs.laws.Bools.{clash, and_eqb}
use Rattle.sets.proofs.laws.Members.{has_first, has_rest, has_meet, has_none, has_only, half_lt, ext}
use Rattle.sets.proofs.laws.Bounds.{has_in, member_pos}
use Rattle.sets.specs.Rising.{Takes}
use Rattle.sets.specs.Least.{lowest_of}
use Rattle.sets.proofs.laws.Least.{lowest_of_is, lowest_of_none}

-- The least member is a member, where there is one.
pub lowest_has : (k w : ℕ) → 0 < w → w < 2 ^ k → has w (lowest k w) ≡ true
unfolding lowest count_trailing_zeros
lowest_has zero w p h = absurd (omega arith)
lowest_has (suc k) w p h = go (w % 2) refl (λ (e : w % 2 ≡ 0). lowest_has k (w / 2) (omega arith) (half_lt k w h))
  where
    go : (r : ℕ) → w % 2 ≡ r → (w % 2 ≡ 0 → has (w / 2) (lowest k (w / 2)) ≡ true) → has w (under r (count_trailing_zeros k (w / 2))) ≡ true
    go zero e ih = has_rest w (lowest k (w / 2)) ∙ ih e
    go (suc r) e ih = let o : w % 2 ≡ 1 = omega arith in has_first w ∙ ap (λ (x : ℕ). eqb x 1) o

-- Where it is below the width it is a member, whatever the word has besides.
pub lowest_member : (k w : ℕ) → lowest k w < k → has w (lowest k w) ≡ true
unfolding lowest count_trailing_zeros
lowest_member zero w l = absurd (not-suc-le-zero l)
lowest_member (suc k) w l = go (w % 2) refl l (λ (i : lowest k (w / 2) < k). lowest_member k (w / 2) i)
  where
    go : (r : ℕ) → w % 2 ≡ r → under r (count_trailing_zeros k (w / 2)) < suc k → (lowest k (w / 2) < k → has (w / 2) (lowest k (w / 2)) ≡ true)
        → has w (under r (count_trailing_zeros k (w / 2))) ≡ true
    go zero e l ih = has_rest w (lowest k (w / 2)) ∙ ih (le_of_suc-le-suc l)
    go (suc r) e l ih = let o : w % 2 ≡ 1 = omega arith in has_first w ∙ ap (λ (x : ℕ). eqb x 1) o

-- What is below it is not.
pub lowest_least : (k w j : ℕ) → j < lowest k w → has w j ≡ false
unfolding lowest count_trailing_zeros
lowest_least zero w j h = absurd (not-suc-le-zero h)
lowest_least (suc k) w j h = go (w % 2) refl j h (lowest_least k (w / 2))
  where
    go : (r : ℕ) → w % 2 ≡ r → (j : ℕ) → j < under r (count_trailing_zeros k (w / 2)) → ((i : ℕ) → i < count_trailing_zeros k (w / 2) → has (w / 2) i ≡ false)
        → has w j ≡ false
    go zero e zero h ih = has_first w ∙ ap (λ (x : ℕ). eqb x 1) e
    go zero e (suc j) h ih = has_rest w j ∙ ih j (le_of_suc-le-suc h)
    go (suc r) e j h ih = absurd (not-suc-le-zero h)

-- It is below the width.
pub lowest_lt : (k w : ℕ) → 0 < w → w < 2 ^ k → lowest k w < k
lowest_lt k w p h = has_in k w (lowest k w) h (lowest_has k w p h)

-- The empty set's is the width.
pub lowest_none : (k : ℕ) → lowest k 0 ≡ k
unfolding lowest
lowest_none = trailing_of_zero

-- Only 0 has no member.
pub none_empty : (w : ℕ) → ((i : ℕ) → has w i ≡ false) → w ≡ 0
none_empty w e = ext w 0 (λ i. e i ∙ sym (has_none i))

-- A member with none below it is the least.
pub lowest_is : (k w t : ℕ) → w < 2 ^ k → has w t ≡ true → ((j : ℕ) → j < t → has w j ≡ false) → lowest k w ≡ t
lowest_is k w t h e none =
    let below : lowest k w < t → ⊥ = λ l. clash (lowest_has k w (member_pos w t e) h) (none (lowest k w) l) in
    let above : t < lowest k w → ⊥ = λ l. clash e (lowest_least k w t l) in
    omega arith

-- ---- a set of numbers below 32 in a word of 64 bits

-- It has the same least member, which is below 32.
pub least_narrow : {w q : ℕ} → 0 < w → w < 2 ^ 32 → q ≡ lowest 64 w → (q ≡ lowest 32 w) × (q < 32)
least_narrow {w} {q} p h e = (e ∙ same, omega (arith, e, same, lowest_lt 32 w p h))
  where
    same : lowest 64 w ≡ lowest 32 w
    same = lowest_is 64 w (lowest 32 w) (omega arith) (lowest_has 32 w p h) (lowest_least 32 w)

-- And the same others.
pub rest_narrow : {w r : ℕ} → 0 < w → w < 2 ^ 32 → r ≡ minus w (only (lowest 64 w)) → r ≡ minus w (only (lowest 32 w))
rest_narrow {w} p h e = e ∙ ap (λ (x : ℕ). minus w (only x)) (least_narrow p h refl).0

-- A step through a set of numbers below 32 that stands in a word of 64 bits is a step through it.
pub takes_narrow : {w q w' : ℕ} → w < 2 ^ 32 → Takes 64 w q w' → Takes 32 w q w'
takes_narrow h t =
    let l = least_narrow t.some h t.least in
    record { some = t.some; least = l.0; below = l.1; rest = rest_narrow t.some h t.rest }

-- So what it takes is below 32.
pub taken_below : {w q w' : ℕ} → w < 2 ^ 32 → Takes 64 w q w' → q < 32
taken_below h t = (takes_narrow h t).below

-- A step takes a member.
pub takes_has : {k w q w' : ℕ} → w < 2 ^ k → Takes k w q w' → has w q ≡ true
takes_has {k} {w} h t = ap (has w) t.least ∙ lowest_has k w t.some h

-- The least member is the least number that is a member.
pub lowest_lowest_of : (k w : ℕ) → w < 2 ^ k → lowest k w ≡ lowest_of k (has w)
lowest_lowest_of k zero h = lowest_none k ∙ sym (lowest_of_none k (has 0) (λ i l. has_none i))
lowest_lowest_of k (suc w) h =
    sym (lowest_of_is k (has (suc w)) (lowest k (suc w)) (lowest_lt k (suc w) (zero-lt-suc w) h) (lowest_has k (suc w) (zero-lt-suc w) h) (lowest_least k (suc w)))

-- ---- a member that is taken away

-- What w and the set of i have in common: i, if it is in w.
pub meet_only : (w i : ℕ) → has w i ≡ true → meet w (only i) ≡ only i
meet_only w i h =
    ext (meet w (only i)) (only i) (λ j. simp (has_meet, has_only) (and_eqb (has w) i j ∙ ap (λ (x : Bool). x && eqb i j) h))

-- Nothing, if it is not.
pub meet_only_none : (w i : ℕ) → has w i ≡ false → meet w (only i) ≡ 0
meet_only_none w i h =
    none_empty (meet w (only i)) (λ j. simp (has_meet, has_only) (and_eqb (has w) i j ∙ ap (λ (x : Bool). x && eqb i j) h))

-- A member's bit is in w.
pub only_le : (w i : ℕ) → has w i ≡ true → only i ≤ w
unfolding meet
only_le w i h = let l = and_le_l w (only i) in omega (arith, meet_only w i h, l)

-- A member that is taken away takes its bit.
pub minus_only : (w i : ℕ) → has w i ≡ true → minus w (only i) ≡ w - 2 ^ i
unfolding minus meet only
minus_only w i h = ap (λ (x : ℕ). w - x) (meet_only w i h)

-- `w & (w - 1)` takes the lowest bit.
less_lowest : (k w : ℕ) → 0 < w → w < 2 ^ k → bit_and w (w - 1) ≡ w - 2 ^ count_trailing_zeros k w
unfolding count_trailing_zeros
less_lowest zero w p h = absurd (omega arith)
less_lowest (suc k) w p h = go (w % 2) refl (λ (e : w % 2 ≡ 0). less_lowest k (w / 2) (omega arith) (half_lt k w h))
  where
    go : (r : ℕ) → w % 2 ≡ r → (w % 2 ≡ 0 → bit_and (w / 2) (w / 2 - 1) ≡ w / 2 - 2 ^ count_trailing_zeros k (w / 2))
        → bit_and w (w - 1) ≡ w - 2 ^ under r (count_trailing_zeros k (w / 2))
    go zero e ih =
        let half : (w - 1) / 2 ≡ w / 2 - 1 = omega arith in
        omega (arith, and_step w (w - 1), ap (bit_and (w / 2)) half, ih e, pow-suc 2 (count_trailing_zeros k (w / 2)))
    go (suc r) e ih =
        let half : (w - 1) / 2 ≡ w / 2 = omega arith in
        omega (arith, and_step w (w - 1), ap (bit_and (w / 2)) half, and_self (w / 2))

-- `w & (w - 1)` is w without its least member.
pub and_pred : (k w : ℕ) → 0 < w → w < 2 ^ k → bit_and w (w - 1) ≡ minus w (only (lowest k w))
unfolding lowest
and_pred k w p h = less_lowest k w p h ∙ sym (minus_only w (lowest k w) (lowest_has k w p h))

-- It is less than w.
pub and_pred_lt : (k w : ℕ) → 0 < w → w < 2 ^ k → bit_and w (w - 1) < w
and_pred_lt k w p h = let l = pow_pos (count_trailing_zeros k w) in omega (arith, less_lowest k w p h)
