-- What is counted in a network of N peers and M messages. Assumes nothing.
use Rattle.std.specs.Prelude.{Bool, not, ◌&&◌, List, [], ◌∷◌, ℕ, ◌+◌}
use Rattle.sets.specs.Sums.{sum}
use Rattle.sets.specs.Set.{digit}
use Rattle.flooding.specs.Network.{Net, link, forward}
use Rattle.flooding.specs.Machine.{Pair, pair}

-- The pairs of a present desk and a message that it has not seen.
unfoldable pub unseen_pairs : ℕ → ℕ → Net → ℕ
unseen_pairs N M s = sum N (λ p. sum M (λ m. digit (s.present p && not (s.seen p m))))

-- The pairs of a desk and a message that is pending there.
unfoldable pub pending_pairs : ℕ → ℕ → Net → ℕ
pending_pairs N M s = sum N (λ p. sum M (λ m. digit (s.pending p m)))

-- q gets m in a forward of m by p: p has a link to q, and m is neither pending nor seen there.
abbrev pub gets : Net → ℕ → ℕ → ℕ → Bool
gets s p m q = link s m p q && (not (s.pending q m) && not (s.seen q m))

-- The deliveries of one forward, and of a list of forwards.
unfoldable pub delivers : ℕ → Net → ℕ → ℕ → ℕ
delivers N s p m = sum N (λ q. digit (gets s p m q))

unfoldable pub deliveries : ℕ → Net → List Pair → ℕ
deliveries N s [] = 0
deliveries N s (pair p m ∷ l) = delivers N s p m + deliveries N (forward s p m) l
