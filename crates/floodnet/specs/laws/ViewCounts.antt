-- The counts of document 01 over words, and as `flooding` counts them: "Pending pairs at the end = pending pairs at the start + produced +
-- deliveries - forwards." Here for one produce and one forward. Assumes nothing.
use Rattle.std.specs.Prelude.{◌≡◌, true, false, suc, ◌+◌, ◌<◌, length}
use Rattle.std.proofs.Common.{sym, ap, ◌∙◌, arith, get_or-set_same, get_or-set_other}
use Rattle.sets.specs.Set.{union, only, size}
use Rattle.sets.proofs.laws.Sums.{sum_same, sum_drop}
use Rattle.sets.proofs.laws.Sizes.{size_with}
use Rattle.sets.proofs.laws.Counts.{size_sum}
use Rattle.flooding.specs.Counts.{pending_pairs, delivers}
use Rattle.flooding.proofs.laws.Tally.{forward_tally}
use Rattle.network.specs.declared.Peer.{Peer}
use Rattle.network.specs.declared.Message.{Message}
use Rattle.network.specs.declared.Network.{Network}
use Rattle.network.specs.declared.Table.{Table}
use Rattle.network.specs.Network.{peer, pending_of, pending, Shaped, Rows}
use Rattle.network.specs.Sound.{Sound}
use Rattle.floodnet.specs.Produce.{produced}
use Rattle.floodnet.specs.Forward.{forwarded, receivers}
use Rattle.floodnet.specs.laws.ForwardLaws.{receivers_sum}
use Rattle.floodnet.specs.View.{view, fwd, pairs}
use Rattle.floodnet.specs.laws.ViewLaws.{view_sound, fwd_view, fwd_sound}

-- The pending pairs are those that `flooding` counts.
view_pairs : {n : Network} (b : Table) → Shaped n → pending_pairs 32 64 (view b n) ≡ pairs n
unfolding pending_pairs view pairs
view_pairs {n} b s = sum_same 32 _ _ λ p l. sym (size_sum 64 (pending_of n (peer p)) (s.pending_fit p))

-- So are the receivers of a forward of a pending message.
view_delivers : {n : Network} (b : Table) → Shaped n → (p : Peer) (m : Message) → pending n p m ≡ true → delivers 32 (view b n) p.0 m.0 ≡ size (receivers n b p m)
unfolding delivers view
view_delivers b s p m a = sym (receivers_sum s b p m a)

-- A produce of a message that was not pending there adds one.
pub produced_pairs : {n : Network} → Shaped n → (p : Peer) (m : Message) → p.0 < 32 → pending n p m ≡ false → pairs (produced n p m) ≡ suc (pairs n)
unfolding produced pairs
produced_pairs {n} s p m h a =
    let l : p.0 < length n.pending = omega (arith, s.pending) in
    sum_drop 32 _ _ p.0 h
    (λ q d. ap size (get_or-set_other n.pending p.0 q (union (pending_of n p) (only m.0)) 0 d))
    (ap size (get_or-set_same n.pending p.0 (union (pending_of n p) (only m.0)) 0 l) ∙ size_with (pending_of n p) m.0 a)

-- A forward takes one, and adds one for each receiver.
pub forwarded_pairs : {n : Network} → Sound n → {b : Table} → Rows b → (p : Peer) (m : Message) → pending n p m ≡ true
    → suc (pairs (forwarded n b p m)) ≡ pairs n + size (receivers n b p m)
unfolding fwd view
forwarded_pairs {n} s {b} rows p m a =
    omega (
      arith,
      forward_tally 32 64 (view b n) p.0 m.0 (view_sound b s) a,
      ap (pending_pairs 32 64) (fwd_view b s.shaped p.0 m.0 a),
      view_pairs b s.shaped,
      view_pairs b (fwd_sound s rows p.0 m.0 a).shaped,
      view_delivers b s.shaped p m a,
    )
