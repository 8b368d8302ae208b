-- The pairs of one peer and the messages of a word, and how they are visited, the least first. For the loops of the drain. Assumes nothing.
use Rattle.std.specs.Prelude.{Bool, List, [], ◌∷◌, ◌++◌, ℕ, zero, suc, eqb, get_or}
use Rattle.sets.specs.Any.{all}
use Rattle.sets.specs.Set.{has, count}
use Rattle.sets.specs.Rising.{rising}
use Rattle.sets.specs.Sums.{sum}
use Rattle.flooding.specs.Machine.{Pair, pair}

-- the pairs of p and the members of w below k, rising
abbrev pub pairs_of : ℕ → ℕ → ℕ → List Pair
pairs_of p w k = rising (λ m. pair p m ∷ []) k w

-- the pairs of the peers below p and the members of their words of l, rising: what a round that began with these words forwards
unfoldable pub list_of : List ℕ → ℕ → List Pair
list_of l zero = []
list_of l (suc p) = list_of l p ++ pairs_of p (get_or l p 0) 64

-- how many pairs are pending: the members of 32 words of messages
unfoldable pub waiting_of : List ℕ → ℕ
waiting_of l = sum 32 (λ (p : ℕ). count 64 (has (get_or l p 0)))

-- none is: each of the 32 words is empty
abbrev pub empty_words : List ℕ → Bool
empty_words l = all 32 (λ (p : ℕ). eqb (get_or l p 0) 0)
