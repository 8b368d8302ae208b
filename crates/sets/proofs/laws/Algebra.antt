-- Equations of the operations on sets; each is one of `&&` and `||` at every number. Assumes nothing.
use Rattle.std.specs.Prelude.{◌≡◌, refl, Bool, not, ◌&&◌, ◌||◌, ℕ}
use Rattle.std.proofs.Math.Bool.{or-false, or_assoc}
use Rattle.sets.specs.Set.{has, union, minus, puts, strikes}
use Rattle.sets.proofs.laws.Bools.{bool2}
use Rattle.sets.proofs.laws.Members.{ext, membership}

-- with the empty set
pub union_empty : (a : ℕ) → union a 0 ≡ a
union_empty a = ext _ _ (λ i. simp membership (or-false (has a i)))

-- three of them
pub union_assoc : (a b c : ℕ) → union (union a b) c ≡ union a (union b c)
union_assoc a b c = ext _ _ (λ i. simp membership (or_assoc (has a i) (has b i) (has c i)))

-- putting in twice is putting in once
pub puts_twice : (s x : ℕ) → puts s (puts s x) ≡ puts s x
unfolding puts
puts_twice s x = ext (union (union x s) s) (union x s) (λ i. simp membership (bool2 (λ (a b : Bool). (a || b) || b ≡ a || b) refl refl refl refl (has x i) (has s i)))

-- striking out twice is striking out once
pub strikes_twice : (s x : ℕ) → strikes s (strikes s x) ≡ strikes s x
unfolding strikes
strikes_twice s x = ext (minus (minus x s) s) (minus x s) (λ i. simp membership (bool2 (λ (a b : Bool). (a && not b) && not b ≡ a && not b) refl refl refl refl (has x i) (has s i)))
