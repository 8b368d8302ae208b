-- The rows of subscribe, unsubscribe, leave and join in 01's table of images. Assumes nothing.
use Rattle.std.specs.Prelude.{◌≡◌, refl, true, false, ℕ, zero, suc, ◌<◌, length, get_or, set, List, [], ◌∷◌}
use Rattle.std.proofs.Common.{sym, ◌∙◌, arith, get_or-set_same}
use Rattle.std.proofs.Math.Path.{ap}
use Rattle.std.proofs.lemmas.List.{set-get_or}
use Rattle.sets.specs.Set.{union, minus, only}
use Rattle.sets.proofs.laws.Bounds.{minus_lt}
use Rattle.lists.specs.Edit.{edit}
use Rattle.network.specs.declared.Peer.{Peer}
use Rattle.network.specs.declared.Network.{Network}
use Rattle.network.specs.Network.{pending_of, present}
use Rattle.network.specs.Sound.{Sound}
use Rattle.network.specs.laws.SoundLaws.{present_peer}
use Rattle.floodnet.specs.Topics.{subscribed_to, unsubscribed_from}
use Rattle.floodnet.specs.Links.{link_down, link_up, placed, cleared, left, joined}
use Rattle.floodnet.specs.laws.LeaveJoin.{joined_is}
use Rattle.broadcastnet.specs.Broadcast.{bn, subscribe, unsubscribe, leave, join}
use Rattle.broadcastnet.specs.Commit.{together, underway, without, image}
use Rattle.broadcastnet.specs.Page.{SubscribeRow, UnsubscribeRow, LeaveRow, JoinRow}

-- ---- subscribe and unsubscribe

-- A store that leaves its place as it was leaves the list as it was.
set_same : (l : List ℕ) (i v : ℕ) → i < length l → get_or (set l i v) i 0 ≡ get_or l i 0 → set l i v ≡ l
set_same l i v b h = ap (set l i) (sym (get_or-set_same l i v 0 b) ∙ h) ∙ set-get_or l i 0

module _ {n : Network} (s : Sound n) (p : Peer) (topics : ℕ) (a : present n p ≡ true) where
  low : p.0 < length n.subs
  low = omega (arith, present_peer s.shaped p a, s.shaped.subs)

  -- THE ROW OF SUBSCRIBE
  pub subscribe_row : SubscribeRow n (subscribed_to n p topics) p topics
  unfolding image underway subscribe subscribed_to
  subscribe_row =
      record {
        step = refl;
        may = a;
        same = λ h. ap (λ (x : List ℕ). bn n.present n.pubs x (image n).seen) (set_same n.subs p.0 _ low h);
      }

  -- THE ROW OF UNSUBSCRIBE
  pub unsubscribe_row : UnsubscribeRow n (unsubscribed_from n p topics) p topics
  unfolding image underway unsubscribe unsubscribed_from
  unsubscribe_row =
      record {
        step = refl;
        may = a;
        same = λ h. ap (λ (x : List ℕ). bn n.present n.pubs x (image n).seen) (set_same n.subs p.0 _ low h);
      }

-- ---- leave

-- Nothing put where there was nothing.
set_none : (l : List ℕ) (i : ℕ) → get_or l i 0 ≡ 0 → set l i 0 ≡ l
set_none l i h = ap (set l i) (sym h) ∙ set-get_or l i 0

-- The sets without w, of a list with nothing at a place, have nothing there.
without_none : (w : ℕ) (l : List ℕ) (i : ℕ) → without w (set l i 0) ≡ set (without w l) i 0
unfolding without edit
without_none w [] i = refl
without_none w (x ∷ l) zero = ap (λ (y : ℕ). y ∷ without w l) (omega (arith, minus_lt 0 0 w (omega arith)))
without_none w (x ∷ l) (suc i) = ap (λ (r : List ℕ). minus x w ∷ r) (without_none w l i)

-- THE ROW OF LEAVE: who leaves has nothing pending, so that what is under way stays under way.
pub leave_row : {n : Network} (p : Peer) → present n p ≡ true → pending_of n p ≡ 0 → LeaveRow n (left n p) p
unfolding image underway leave left cleared link_down
leave_row {n} p a h =
    record {
      step =
          ap (λ (x : List ℕ). bn (minus n.present (only p.0)) (set n.pubs p.0 0) (set n.subs p.0 0) x)
          (ap (λ (x : List ℕ). without (together 32 x) (set n.seen p.0 0)) (set_none n.pending p.0 h) ∙ without_none (underway n) n.seen p.0);
      may = a;
    }

-- ---- join

-- THE ROW OF JOIN: who joins has nothing pending and has seen nothing.
pub join_row : {n : Network} → Sound n → (p : Peer) (subs pubs who : ℕ) → p.0 < 32 → present n p ≡ false → JoinRow n (joined n p subs pubs who) p pubs subs
unfolding image underway join placed link_up
join_row {n} s p subs pubs who l a =
    record {
      step =
          ap image (joined_is s p subs pubs who a l)
          ∙ ap (λ (x : List ℕ). bn (union n.present (only p.0)) (set n.pubs p.0 pubs) (set n.subs p.0 subs) x)
          (ap (without (underway n)) (sym (set_none n.seen p.0 (s.empty p l a).seen)) ∙ without_none (underway n) n.seen p.0);
      may = a;
    }
