-- The code of forward, part by part: what the network becomes is what Forward says. Assumes nothing.
use Rattle.std.specs.Prelude.{◌≡◌, List, ℕ, ◌^◌, ◌<◌, get_or, set}
use Rattle.std.proofs.Common.{ap, ap₂, ◌∙◌}
use Rattle.sets.specs.Set.{has, union, minus, only, puts, with_if, sift}
use Rattle.sets.specs.Rising.{members}
use Rattle.lists.specs.Edit.{edit}
use Rattle.lists.specs.Visit.{visits}
use Rattle.lists.specs.laws.Visit.{visits_edit}
use Rattle.network.specs.declared.Peer.{Peer}
use Rattle.network.specs.declared.Topic.{Topic}
use Rattle.network.specs.declared.Message.{Message}
use Rattle.network.specs.declared.Network.{Network}
use Rattle.network.specs.declared.Table.{Table}
use Rattle.network.specs.Network.{with_pending, with_seen, topic_of, pending_of, seen_of, spot}
use Rattle.floodnet.specs.Produce.{holders}
use Rattle.floodnet.specs.Forward.{moved, receivers, given, forwarded}
use Rattle.floodnet.specs.Lent.{holding}

-- `forward`: t is m's topic, and at k stand those that p knows for it; v and w are the words of p once m has moved, and r are
-- those known that do not hold m then
module _ (n : Network) (b : Table) (p : Peer) (m : Message) {t : Topic} {k v w r : ℕ} (ht : t ≡ topic_of b m) (hk : k ≡ spot p t) (hv : v ≡ minus (pending_of n p) (only m.0)) (hw : w ≡ union (seen_of n p) (only m.0))
    (hr : r ≡ minus (get_or n.known k 0) (sift 32 (get_or n.known k 0) (holding (set n.pending p.0 v) (set n.seen p.0 w) m.0))) where
  -- r is the set of receivers
  pub receivers_law : r ≡ receivers n b p m
  unfolding receivers holders moved holding
  receivers_law = rw (hr, hk, ht, hv, hw)

  -- what pending and seen become: the receivers are visited, the least first
  pub forwarded_law : {e : List ℕ} → r < 2 ^ 32 → e ≡ visits (λ q. puts (only m.0)) (members 32 r) (set n.pending p.0 v)
      → with_seen (with_pending n e) (set n.seen p.0 w) ≡ forwarded n b p m
  unfolding forwarded given moved
  forwarded_law below he =
      ap₂ (λ (x y : List ℕ). with_seen (with_pending n x) y)
      (he ∙ visits_edit (λ q. puts (only m.0)) 32 r (set n.pending p.0 v) below ∙ ap₂ (λ (x y : ℕ). edit (λ q z. with_if (has x q) m.0 z) (set n.pending p.0 y)) receivers_law hv)
      (ap (set n.seen p.0) hw)
