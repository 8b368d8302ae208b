-- A delivery visits those who get it (document 02, E4): exactly the receivers, the least first; and finding them asks the known subscribers
-- alone, who are neighbours. Assumes nothing.
use Rattle.std.specs.Prelude.{◌≡◌, true, ℕ, ◌^◌, ◌≤◌, ◌<◌}
use Rattle.std.proofs.Common.{sym, ap}
use Rattle.sets.specs.Set.{only, puts, size, Subset}
use Rattle.sets.specs.Rising.{members}
use Rattle.sets.proofs.laws.Bools.{clash, not_false}
use Rattle.sets.proofs.laws.Subsets.{subset_minus, size_part, size_part_lt}
use Rattle.lists.specs.Visit.{visits}
use Rattle.lists.specs.laws.Visit.{visits_edit}
use Rattle.network.specs.declared.Peer.{Peer}
use Rattle.network.specs.declared.Topic.{Topic}
use Rattle.network.specs.declared.Message.{Message}
use Rattle.network.specs.declared.Network.{Network}
use Rattle.network.specs.declared.Table.{Table}
use Rattle.network.specs.Network.{peer, with_pending, known_of, present, topic_of, Shaped}
use Rattle.network.specs.Sound.{Sound}
use Rattle.network.specs.laws.SoundLaws.{knows_linked, knows_present}
use Rattle.floodnet.specs.Forward.{moved, receivers, given, forwarded}
use Rattle.floodnet.specs.laws.ForwardLaws.{receivers_lt}

-- m given to r: r's members are visited, and m is put in at each.
given_visits : (n : Network) (r : ℕ) (m : Message) → r < 2 ^ 32 → given n r m ≡ with_pending n (visits (λ q. puts (only m.0)) (members 32 r) n.pending)
unfolding given
given_visits n r m h = ap (with_pending n) (sym (visits_edit (λ q. puts (only m.0)) 32 r n.pending h))

-- THE VISITS OF THE DELIVERY ARE THE MEMBERS OF THE RECEIVING SET. (They rise, and each stands once: `members_rise`, `in_members`, crate sets.)
pub forwarded_visits : {n : Network} → Shaped n → (b : Table) (p : Peer) (m : Message)
    → forwarded n b p m ≡ with_pending (moved n p m) (visits (λ q. puts (only m.0)) (members 32 (receivers n b p m)) (moved n p m).pending)
unfolding forwarded
forwarded_visits {n} s b p m = given_visits (moved n p m) (receivers n b p m) m (receivers_lt s b p m)

-- No more than are asked: they are some of the known subscribers.
pub receivers_asked : (n : Network) (b : Table) (p : Peer) (m : Message) → size (receivers n b p m) ≤ size (known_of n p (topic_of b m))
unfolding receivers
receivers_asked n b p m = size_part (known_of n p (topic_of b m)) _ (subset_minus (known_of n p (topic_of b m)) _)

-- In a sound network fewer are asked than desks are present: the sender is not asked.
pub asked_few : {n : Network} → Sound n → (p : Peer) (t : Topic) → p.0 < 32 → t.0 < 32 → present n p ≡ true → size (known_of n p t) < size n.present
unfolding Subset
asked_few {n} s p t bp bt h =
    size_part_lt n.present (known_of n p t) p.0 (λ q e. knows_present s p t (peer q) bp bt e) h
    (not_false (λ e. clash (knows_linked s p t p bp bt e) (s.own p)))
