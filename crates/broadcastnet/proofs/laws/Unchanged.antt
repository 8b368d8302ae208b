-- Laws of specs/Unchanged.antt. Assumes nothing.
use Rattle.std.specs.Prelude.{◌≡◌, true, false, not, ℕ}
use Rattle.std.proofs.Common.{ap}
use Rattle.sets.proofs.laws.Bools.{clash, not_false, and_both}
use Rattle.sets.specs.Set.{has, union, minus, Subset}
use Rattle.sets.proofs.laws.Members.{has_minus}
use Rattle.sets.proofs.laws.Subsets.{subset_union, union_subset, subset_minus, subset_eq}
use Rattle.network.specs.declared.Network.{Network}
use Rattle.network.specs.declared.Table.{Table}
use Rattle.network.specs.Network.{topic, subs_of}
use Rattle.network.specs.Sound.{Sound}
use Rattle.events.specs.declared.Event.{Event}
use Rattle.events.specs.declared.Event.TheVariants.{Skip, Produce, Forward, Subscribe, Unsubscribe, Leave, Join}
use Rattle.floodnet.specs.Step.{effect}
use Rattle.floodnet.specs.laws.TopicsLaws.{subscribed_same, unsubscribed_same}
use Rattle.broadcastnet.specs.Commit.{image}
use Rattle.broadcastnet.specs.Unchanged.{Unchanged}

-- ---- it holds

held_union : (a b : ℕ) → Subset b a → union a b ≡ a
unfolding Subset
held_union a b h = subset_eq (union a b) a (union_subset a b a (λ i e. e) h) (subset_union a b)

apart_minus : (a b : ℕ) → ((i : ℕ) → has b i ≡ true → has a i ≡ false) → minus a b ≡ a
unfolding Subset
apart_minus a b h = subset_eq (minus a b) a (subset_minus a b) λ i e. rw (has_minus a b i) (and_both e (ap not (outside i e)))
  where
    outside : (i : ℕ) → has a i ≡ true → has b i ≡ false
    outside i e = not_false λ c. clash e (h i c)

-- In every sound network.
pub unchanged : (b : Table) (n : Network) → Sound n → (e : Event) → Unchanged n (effect n b e) e
unfolding Unchanged effect Subset
unchanged b n s (Subscribe p topics) = λ h. ap image (subscribed_same s p topics (held_union (subs_of n p) topics λ i e. h (topic i) e))
unchanged b n s (Unsubscribe p topics) = λ h. ap image (unsubscribed_same s p topics (apart_minus (subs_of n p) topics λ i e. h (topic i) e))
unchanged b n s Skip = tt
unchanged b n s (Produce p m) = tt
unchanged b n s (Forward p m) = tt
unchanged b n s (Leave p) = tt
unchanged b n s (Join p j) = tt
