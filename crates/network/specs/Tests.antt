-- What the code tests in place of a rule of specs/Rules.antt, over the words themselves, and that it is the rule. Assumes nothing.
use Rattle.std.specs.Prelude.{◌≡◌, Bool, not, ◌&&◌, Option, None, Some, List, ℕ, ◌<◌, eqb, get_or}
use Rattle.sets.specs.Set.{has, meet, with_if, set_of}
use Rattle.sets.specs.Least.{lowest_of}
use Rattle.sets.specs.Any.{all}
use Rattle.lists.specs.Tab.{tab}
use Rattle.lists.specs.Edit.{edit}
use Rattle.network.specs.declared.Peer.{Peer}
use Rattle.network.specs.Network.{topic, spot}

-- the answer of a search among the numbers below n for the lowest of a kind, where `lowest_of` answers k: n is none
abbrev pub Found : ℕ → Option ℕ → ℕ → Type 0
Found n None k = k ≡ n
Found n (Some i) k = (i ≡ k) × (i < n)

-- the peers subscribed to each topic, from the subs of all peers: worked out once a state
unfoldable pub subscribers_of : List ℕ → List ℕ
subscribers_of subs = tab 32 (λ (t : ℕ). set_of 32 (λ (q : ℕ). has (get_or subs q 0) t))

-- q joins the set of each of the topics
unfoldable pub joined_to : ℕ → ℕ → List ℕ → List ℕ
joined_to topics q l = edit (λ (t w : ℕ). with_if (has topics t) q w) l

-- no known subscribers in the row of p
unfoldable pub row_empty : List ℕ → Peer → Bool
row_empty known p = all 32 (λ (t : ℕ). eqb (get_or known (spot p (topic t)) 0) 0)

-- the lowest of the peers listed that is absent
unfoldable pub near_absent : ℕ → ℕ → ℕ
near_absent listed present = lowest_of 32 (λ (q : ℕ). has listed q && not (has present q))

-- the lowest of the peers listed that doesn't list p
unfoldable pub list_back : List ℕ → ℕ → Peer → ℕ
list_back neighbours listed p = lowest_of 32 (λ (q : ℕ). has listed q && not (has (get_or neighbours q 0) p.0))

-- for topic t the row of p has the subscribers among the peers listed; and the lowest topic for which it has others
abbrev pub same_at : List ℕ → List ℕ → ℕ → Peer → ℕ → Bool
same_at known subscribers listed p t = eqb (get_or known (spot p (topic t)) 0) (meet (get_or subscribers t 0) listed)

unfoldable pub row_known : List ℕ → List ℕ → ℕ → Peer → ℕ
row_known known subscribers listed p = lowest_of 32 (λ (t : ℕ). not (same_at known subscribers listed p t))
