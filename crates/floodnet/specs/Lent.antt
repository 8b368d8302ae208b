-- The words of the contracts on one array of a network, and a network with the messages' arrays in place of its own. Assumes nothing.
use Rattle.std.specs.Prelude.{◌≡◌, List, ℕ, ◌/◌, ◌%◌, ◌^◌, ◌<◌, get_or, Bool, ◌||◌, eqb}
use Rattle.sets.specs.Set.{has, sift, puts, when}
use Rattle.network.specs.declared.Network.{Network}
use Rattle.network.specs.Network.{with_pending, with_seen, with_known}

-- n with these parts, which concern messages
abbrev pub with_messages : Network → List ℕ → List ℕ → List ℕ → Network
with_messages n pending seen known = with_known (with_seen (with_pending n pending) seen) known

-- peer q has m pending or seen
unfoldable pub holding : List ℕ → List ℕ → ℕ → ℕ → Bool
holding pending seen m q = has (get_or pending q 0) m || has (get_or seen q 0) m

-- ---- `learn`: p's row gets, for each topic, those of s that are subscribed to it
unfoldable pub learnt : ℕ → List ℕ → ℕ → ℕ → ℕ → ℕ
learnt p subs s i w = when (eqb (i / 32) p) (puts (sift 32 s (λ q. has (get_or subs q 0) (i % 32)))) w

-- ---- what is done to a word
-- of any word, each call that `post` describes makes what h does
abbrev pub Makes : (ℕ → ℕ → Type 0) → (ℕ → ℕ) → Type 0
Makes post h = (w r : ℕ) → w < 2 ^ 32 → post w r → r ≡ h w
