-- Sets of numbers below k are words below 2 ^ k. Assumes nothing.
use Rattle.std.specs.Prelude.{◌≡◌, true, false, ℕ, zero, suc, ◌%◌, ◌^◌, ◌≤◌, ◌<◌, eqb}
use Rattle.std.proofs.Common.{ap, lt_of_lt_of_le, lt_of_not-le, zero-lt-suc, arith, pow_mono}
use Rattle.std.proofs.Math.Nat.{div-eq_of_lt}
use Rattle.std.proofs.Math.Pow.{pow-lt}
use Rattle.std.proofs.lemmas.Nat.{or_lt, and_le_l}
use Rattle.sets.proofs.laws.Bools.{clash}
use Rattle.sets.specs.Set.{has, union, meet, minus, only}
use Rattle.sets.proofs.laws.Members.{has_none}

-- No number from k on is in a word of k bits.
pub has_out : (k w i : ℕ) → w < 2 ^ k → k ≤ i → has w i ≡ false
unfolding has
has_out k w i h l = ap (λ (x : ℕ). eqb (x % 2) 1) (div-eq_of_lt (lt_of_lt_of_le h (pow_mono l)))

-- A member of a word of k bits is below k.
pub has_in : (k w i : ℕ) → w < 2 ^ k → has w i ≡ true → i < k
has_in k w i h e = lt_of_not-le (λ (l : k ≤ i). clash e (has_out k w i h l))

-- The operations stay within k bits.
pub union_lt : (k a b : ℕ) → a < 2 ^ k → b < 2 ^ k → union a b < 2 ^ k
unfolding union
union_lt = or_lt

pub meet_lt : (k a b : ℕ) → a < 2 ^ k → meet a b < 2 ^ k
unfolding meet
meet_lt k a b h = let l = and_le_l a b in omega arith

pub minus_lt : (k a b : ℕ) → a < 2 ^ k → minus a b < 2 ^ k
unfolding minus
minus_lt k a b h = omega arith

-- The set of one number below k.
pub only_lt : (k i : ℕ) → i < k → only i < 2 ^ k
unfolding only
only_lt k i h = pow-lt h

-- A set that has a member is not 0.
pub member_pos : (w i : ℕ) → has w i ≡ true → 0 < w
member_pos zero i e = clash e (has_none i)
member_pos (suc w) i e = zero-lt-suc w
