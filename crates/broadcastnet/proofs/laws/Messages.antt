-- The rows of produce and forward in 01's table of images. Assumes nothing.
use Rattle.std.specs.Prelude.{◌≡◌, Bool, true, not, ◌&&◌, ◌||◌, ℕ, ◌<◌}
use Rattle.std.proofs.Math.Path.{refl, sym}
use Rattle.std.proofs.Common.{ap, ◌∙◌}
use Rattle.std.proofs.Math.Bool.{and-true, and-false, or-true, or-false}
use Rattle.std.proofs.Math.Decide.{ℕ_discrete}
use Rattle.std.proofs.Math.Dec.{eqb}
use Rattle.std.proofs.Math.ListN.{length-set}
use Rattle.sets.specs.Set.{has, Subset}
use Rattle.sets.proofs.laws.Bools.{eqb_same, ne_eqb}
use Rattle.sets.proofs.laws.Any.{any_same}
use Rattle.lists.specs.laws.Edit.{length_edit}
use Rattle.network.specs.declared.Peer.{Peer}
use Rattle.network.specs.declared.Message.{Message}
use Rattle.network.specs.declared.Network.{Network}
use Rattle.network.specs.declared.Table.{Table}
use Rattle.network.specs.Network.{peer, present, pending, saw, Shaped, Rows}
use Rattle.network.specs.Sound.{Sound}
use Rattle.network.specs.laws.SoundLaws.{present_peer, pending_peer, saw_present}
use Rattle.floodnet.specs.Produce.{is_new, produced}
use Rattle.floodnet.specs.laws.ProduceLaws.{new_nowhere, produced_pending}
use Rattle.floodnet.specs.Forward.{moved, given, forwarded}
use Rattle.floodnet.specs.laws.ForwardLaws.{forwarded_present, forwarded_saw, forwarded_pending, forwarded_sound}
use Rattle.broadcastnet.specs.Broadcast.{saw_in, NewIn, broadcast_partial}
use Rattle.broadcastnet.specs.Commit.{somewhere, who_saw, image}
use Rattle.broadcastnet.proofs.laws.CommitLaws.{bn_same, partial_saw, somewhere_yes, image_saw, image_length, image_same, has_who_saw, who_saw_lt}
use Rattle.broadcastnet.specs.Page.{ForwardRow}

-- ---- produce

-- Another message is pending where it was.
produced_elsewhere : {n : Network} → Shaped n → (p : Peer) (m : Message) → p.0 < 32 → (k : Message) → (k.0 ≡ m.0 → ⊥) → somewhere (produced n p m) k ≡ somewhere n k
unfolding somewhere
produced_elsewhere {n} s p m l k e =
    any_same 32 (λ (q : ℕ). pending (produced n p m) (peer q) k) (λ (q : ℕ). pending n (peer q) k) λ q c.
    produced_pending s p m l (peer q) k ∙ rw (ne_eqb e, and-false (eqb q p.0), or-false (pending n (peer q) k))

-- What was new is pending now, and nobody had seen it: the image is unchanged.
pub image_produced : {n : Network} → Sound n → (p : Peer) (m : Message) → present n p ≡ true → is_new n m ≡ true → image (produced n p m) ≡ image n
unfolding produced
image_produced {n} s p m a new =
    image_same n (produced n p m) refl refl refl refl λ q k. image_saw (produced n p m) q k ∙ go q k (ℕ_discrete k.0 m.0) ∙ sym (image_saw n q k)
  where
    go : (q : Peer) (k : Message) → Dec (k.0 ≡ m.0) → saw n q k && not (somewhere (produced n p m) k) ≡ saw n q k && not (somewhere n k)
    go q k (yes e) = rw (e, (new_nowhere s m new q).1)
    go q k (no e) = ap (λ (x : Bool). saw n q k && not x) (produced_elsewhere s.shaped p m (present_peer s.shaped p a) k e)

-- ---- forward

module _ {n : Network} (s : Sound n) {b : Table} (rows : Rows b) (p : Peer) (m : Message) (a : pending n p m ≡ true) where
  -- the network after the forward
  abbrev o : Network
  o = forwarded n b p m

  low : p.0 < 32
  low = pending_peer s.shaped p m a

  -- Another message is pending where it was, and seen by those that had seen it: so it is in the image.
  forwarded_elsewhere : (k : Message) → (k.0 ≡ m.0 → ⊥) → somewhere o k ≡ somewhere n k
  unfolding somewhere
  forwarded_elsewhere k e =
      any_same 32 (λ (q : ℕ). pending o (peer q) k) (λ (q : ℕ). pending n (peer q) k) λ q c.
      forwarded_pending s.shaped b p m low (peer q) k
      ∙ rw (ne_eqb e, and-false (eqb q p.0), and-false (not (saw n (peer q) k)), or-false (pending n (peer q) k))

  other : (q : Peer) (k : Message) → (k.0 ≡ m.0 → ⊥) → saw_in (image o) q k ≡ saw_in (image n) q k
  other q k e =
      image_saw o q k
      ∙ rw (forwarded_elsewhere k e, forwarded_saw s.shaped b p m low q k, ne_eqb e, and-false (eqb q.0 p.0), or-false (saw n q k))
      (sym (image_saw n q k))

  -- m is pending at p: in the image it is new.
  new : NewIn (image n) m
  new q = image_saw n q m ∙ rw (somewhere_yes n p m low a) (and-false (saw n q m))

  -- Whoever has seen it is present.
  peers : Subset (who_saw o m) (image n).present
  unfolding Subset image
  peers q h =
      let after : Sound o = forwarded_sound s rows p m a in
      sym (forwarded_present n b p m (peer q)) ∙ saw_present after (peer q) m (sym (has_who_saw after.shaped m (peer q)) ∙ h)

  -- Equal images, and a partial broadcast of m, by what is in the image after the forward.
  as_before : ((q : Peer) → saw_in (image o) q m ≡ saw_in (image n) q m) → image o ≡ image n
  unfolding forwarded given moved
  as_before h = image_same n o refl refl refl (length-set n.seen p.0 _) λ q k. go q k (ℕ_discrete k.0 m.0)
    where
      go : (q : Peer) (k : Message) → Dec (k.0 ≡ m.0) → saw_in (image o) q k ≡ saw_in (image n) q k
      go q k (yes e) = rw e (h q)
      go q k (no e) = other q k e

  as_sent : ((q : Peer) → saw_in (image o) q m ≡ saw o q m) → image o ≡ broadcast_partial m (who_saw o m) (image n)
  unfolding forwarded given moved broadcast_partial image
  as_sent h =
      bn_same refl refl refl (image_length o ∙ length-set n.seen p.0 _ ∙ sym (length_edit _ (image n).seen ∙ image_length n)) λ q k.
      go q k (ℕ_discrete k.0 m.0) ∙ sym (partial_saw m (who_saw o m) (image n) (image_length n ∙ s.shaped.seen) (who_saw_lt o m) q k)
    where
      go : (q : Peer) (k : Message) → Dec (k.0 ≡ m.0) → saw_in (image o) q k ≡ saw_in (image n) q k || (has (who_saw o m) q.0 && eqb k.0 m.0)
      go q k (yes e) = rw (e, eqb_same m.0, new q, has_who_saw (forwarded_sound s rows p m a).shaped m q, and-true (saw o q m)) (h q)
      go q k (no e) = rw (ne_eqb e, and-false (has (who_saw o m) q.0), or-false (saw_in (image n) q k)) (other q k e)

  -- THE ROW OF FORWARD
  pub forward_row : ForwardRow n o p m
  forward_row =
      record {
        still = λ h. as_before λ q. image_saw o q m ∙ rw h (and-false (saw o q m)) ∙ sym (new q);
        done = λ h. as_sent λ q. image_saw o q m ∙ rw h (and-true (saw o q m));
        may = record { new = new; peers = peers };
        sender = has_who_saw (forwarded_sound s rows p m a).shaped m p ∙ forwarded_saw s.shaped b p m low p m ∙ rw (eqb_same p.0, eqb_same m.0) (or-true (saw n p m));
      }
