-- The image as it is written, "32 peer records whose neighbours, pending and known subscribers are zero": it is a sound network, so that
-- writing never refuses it, and its own image is the image that was written. Assumes nothing.
use Rattle.std.specs.Prelude.{◌≡◌, refl, false, ℕ, zero, suc, ◌^◌, ◌<◌, get_or, replicate}
use Rattle.std.proofs.Common.{sym, ap, ◌∙◌, arith}
use Rattle.std.proofs.lemmas.List.{length-replicate}
use Rattle.sets.specs.Set.{has, minus}
use Rattle.sets.proofs.laws.Bools.{clash}
use Rattle.sets.proofs.laws.Members.{has_none}
use Rattle.sets.proofs.laws.Bounds.{minus_lt}
use Rattle.lists.specs.laws.Edit.{length_edit, edit_below, get_or_edit}
use Rattle.network.specs.declared.Peer.{Peer}
use Rattle.network.specs.declared.Topic.{Topic}
use Rattle.network.specs.declared.Message.{Message}
use Rattle.network.specs.declared.Network.{Network}
use Rattle.network.specs.Network.{present, linked, pending, knows, spot, Shaped}
use Rattle.network.specs.Sound.{Empty, Sound}
use Rattle.broadcastnet.specs.Broadcast.{Broadcastnet, bn}
use Rattle.broadcastnet.specs.Commit.{underway, without, image, as_network, image_net}
use Rattle.broadcastnet.proofs.laws.CommitLaws.{image_quiet}

-- A list of zeros has 0 at each place, and past its end; so no set of it has a member.
zeros : (k i : ℕ) → get_or (replicate {A = ℕ} k 0) i 0 ≡ 0
zeros zero i = refl
zeros (suc k) zero = refl
zeros (suc k) (suc i) = zeros k i

nowhere : (k i j : ℕ) → has (get_or (replicate k 0) i 0) j ≡ false
nowhere k i j = ap (λ (w : ℕ). has w j) (zeros k i) ∙ has_none j

small : (k i b : ℕ) → 0 < b → get_or (replicate k 0) i 0 < b
small k i b h = rw (zeros k i) h

-- Nothing is pending in what is written, and nobody has a neighbour.
pub written_pending : (s : Broadcastnet) (p : Peer) (m : Message) → pending (as_network s) p m ≡ false
unfolding as_network
written_pending s p m = nowhere 32 p.0 m.0

pub written_linked : (s : Broadcastnet) (p q : Peer) → linked (as_network s) p q ≡ false
unfolding as_network
written_linked s p q = nowhere 32 p.0 q.0

pub written_knows : (s : Broadcastnet) (p : Peer) (t : Topic) (q : Peer) → knows (as_network s) p t q ≡ false
unfolding as_network
written_knows s p t q = nowhere 1024 (spot p t) q.0

-- THE IMAGE OF WHAT IS WRITTEN IS WHAT WAS WRITTEN.
pub image_written : (s : Broadcastnet) → image (as_network s) ≡ s
unfolding image as_network
image_written s = ap (bn s.present s.pubs s.subs) (image_quiet (as_network s) (written_pending s))

-- THE IMAGE OF A SOUND NETWORK IS WRITTEN AS A SOUND NETWORK.
pub image_net_sound : {n : Network} → Sound n → Sound (image_net n)
unfolding image_net image as_network without
image_net_sound {n} s =
    record {
      shaped = shaped;
      empty = empty;
      own = λ p. written_linked (image n) p p;
      near = λ p q h. clash h (written_linked (image n) p q);
      back = λ p q h. clash h (written_linked (image n) p q);
      knows = λ p t q bp bt. written_knows (image n) p t q ∙ sym (rw (written_linked (image n) p q));
      apart = λ p m h. clash h (written_pending (image n) p m);
    }
  where
    shaped : Shaped (image_net n)
    shaped =
        record {
          present = s.shaped.present;
          pubs = s.shaped.pubs;
          subs = s.shaped.subs;
          neighbours = length-replicate {A = ℕ} 32 0;
          pending = length-replicate {A = ℕ} 32 0;
          seen = length_edit (λ q x. minus x (underway n)) n.seen ∙ s.shaped.seen;
          known = length-replicate {A = ℕ} 1024 0;
          pubs_fit = s.shaped.pubs_fit;
          subs_fit = s.shaped.subs_fit;
          neighbours_fit = λ i. small 32 i (2 ^ 32) (omega arith);
          pending_fit = λ i. small 32 i (2 ^ 64) (omega arith);
          seen_fit = edit_below (λ q x. minus x (underway n)) n.seen (2 ^ 64) (omega arith) λ i l. minus_lt 64 (get_or n.seen i 0) (underway n) (s.shaped.seen_fit i);
          known_fit = λ i. small 1024 i (2 ^ 32) (omega arith);
        }

    unseen : (p : Peer) → Empty n p → p.0 < 32 → get_or (without (underway n) n.seen) p.0 0 ≡ 0
    unseen p e l =
        get_or_edit (λ q x. minus x (underway n)) n.seen p.0 (omega (arith, s.shaped.seen))
        ∙ ap (λ (w : ℕ). minus w (underway n)) e.seen ∙ omega (arith, minus_lt 0 0 (underway n) (omega arith))

    empty : (p : Peer) → p.0 < 32 → present n p ≡ false → Empty (image_net n) p
    empty p l h =
        let e : Empty n p = s.empty p l h in
        record {
          pubs = e.pubs;
          subs = e.subs;
          neighbours = zeros 32 p.0;
          pending = zeros 32 p.0;
          seen = unseen p e l;
          known = λ t b. zeros 1024 (spot p t);
        }
