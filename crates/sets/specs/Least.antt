-- The least number below n that passes a test. Assumes nothing.
use Rattle.std.specs.Prelude.{Bool, cond, ℕ, zero, suc}

-- the least number below n of which f is true; n where there is none
unfoldable pub lowest_of : ℕ → (ℕ → Bool) → ℕ
lowest_of zero f = zero
lowest_of (suc n) f = cond (f 0) 0 (suc (lowest_of n (λ (i : ℕ). f (suc i))))
