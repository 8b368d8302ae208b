-- Forwarding by rounds: after k rounds the pending desks are those whose shortest chain has k links. Assumes nothing.
use Rattle.std.specs.Prelude.{◌≡◌, ◌⊎◌, true, false, ◌||◌, ℕ, zero, suc, ◌<◌}
use Rattle.std.proofs.Common.{sym, ◌∙◌, inr, arith}
use Rattle.std.proofs.Math.Logic.{inl}
use Rattle.sets.proofs.laws.Bools.{either, clash, not_false, or_yes, or_right, below_suc}
use Rattle.flooding.specs.Network.{Net, Sound, link, Chain, holds, link_to, Shortest}
use Rattle.flooding.specs.Machine.{rounds}
use Rattle.flooding.proofs.laws.Run.{chain_unseen}
use Rattle.flooding.proofs.laws.Round.{net_round, net_rounds, sound_rounds, rounds_link, round_seen, round_pending_why, round_pending_yes}

-- The holder of a chain of 0 links; the last link of a longer one.
pub chain_zero : {s : Net} {m q : ℕ} → Chain s m q zero → s.pending q m ≡ true
chain_zero (holds h) = h

pub chain_step : {s : Net} {m q d : ℕ} → Chain s m q (suc d) → (p : ℕ) × Chain s m p d × (link s m p q ≡ true) × (s.seen q m ≡ false)
chain_step (link_to {p = p} c k z) = (p, c, k, z)

module _ (N M : ℕ) where
  -- After k rounds: what was seen, and the desks at fewer than k links, are seen; the desks at k links are pending.
  pub record Level (s : Net) (k : ℕ) : Type 0 where
    pub seen_why : (q m : ℕ) → (net_rounds N M k s).seen q m ≡ true → (s.seen q m ≡ true) ⊎ ((d : ℕ) × (d < k) × Chain s m q d)
    pub seen_kept : (q m : ℕ) → s.seen q m ≡ true → (net_rounds N M k s).seen q m ≡ true
    pub seen_near : (q m d : ℕ) → d < k → Chain s m q d → (net_rounds N M k s).seen q m ≡ true
    pub pending_why : (q m : ℕ) → (net_rounds N M k s).pending q m ≡ true → Shortest s m q k
    pub pending_yes : (q m : ℕ) → Shortest s m q k → (net_rounds N M k s).pending q m ≡ true

  -- At the start the holders are pending, at 0 links.
  start : (s : Net) → Level s zero
  unfolding rounds
  start s =
      record {
        seen_why = λ q m h. inl h;
        seen_kept = λ q m h. h;
        seen_near = λ q m d b c. absurd (none d b);
        pending_why = λ q m h. record { chain = holds h; least = λ k b c. none k b };
        pending_yes = λ q m h. chain_zero h.chain;
      }
    where
      none : (d : ℕ) → d < zero → ⊥
      none d b = omega arith

  module _ (s : Net) (ok : Sound N M s) where
    -- One round more: the desks that were pending have seen it, and those that they link to are pending.
    next : (k : ℕ) → Level s k → Level s (suc k)
    unfolding rounds
    next k ih =
        record {
          seen_why = λ q m h. seen_why q m (or_yes _ _ (sym (round_seen N M t tok q m) ∙ h));
          seen_kept = λ q m h. round_seen N M t tok q m ∙ rw (ih.seen_kept q m h);
          seen_near = λ q m d b c. round_seen N M t tok q m ∙ near q m d (below_suc d k b) c;
          pending_why = λ q m h. pending_why q m (round_pending_why N M t tok q m h);
          pending_yes = λ q m h. pending_yes q m h (chain_step h.chain);
        }
      where
        t : Net
        t = net_rounds N M k s

        tok : Sound N M t
        tok = sound_rounds N M s ok k

        seen_why : (q m : ℕ) → (t.seen q m ≡ true) ⊎ (t.pending q m ≡ true) → (s.seen q m ≡ true) ⊎ ((d : ℕ) × (d < suc k) × Chain s m q d)
        seen_why q m (inl h) = first (ih.seen_why q m h)
          where
            first : (s.seen q m ≡ true) ⊎ ((d : ℕ) × (d < k) × Chain s m q d) → (s.seen q m ≡ true) ⊎ ((d : ℕ) × (d < suc k) × Chain s m q d)
            first (inl e) = inl e
            first (inr c) = inr (c.0, omega arith, c.2)
        seen_why q m (inr h) = inr (k, omega arith, (ih.pending_why q m h).chain)

        -- a chain of k links, to a desk that has not seen it yet, is a shortest one
        meets : (q m : ℕ) → Chain s m q k → (t.seen q m || t.pending q m) ≡ true
        meets q m c = first (either (t.seen q m))
          where
            first : (t.seen q m ≡ true) ⊎ (t.seen q m ≡ false) → (t.seen q m || t.pending q m) ≡ true
            first (inl e) = rw e
            first (inr e) = or_right (t.seen q m) (ih.pending_yes q m (record { chain = c; least = λ d b c'. clash (ih.seen_near q m d b c') e }))

        near : (q m d : ℕ) → (d < k) ⊎ (d ≡ k) → Chain s m q d → (t.seen q m || t.pending q m) ≡ true
        near q m d (inl b) c = rw (ih.seen_near q m d b c)
        near q m d (inr e) c = meets q m (rw e at c)

        pending_why : (q m : ℕ) → (t.pending q m ≡ false) × (t.seen q m ≡ false) × ((p : ℕ) × (t.pending p m ≡ true) × (link t m p q ≡ true)) → Shortest s m q (suc k)
        pending_why q m x =
            record {
              chain = link_to (ih.pending_why x.2.0 m x.2.1).chain (sym (rounds_link N M s k m x.2.0 q) ∙ x.2.2) (not_false λ h. clash (ih.seen_kept q m h) x.1);
              least = λ d b c. none d (near q m d (below_suc d k b) c);
            }
          where
            none : (d : ℕ) → (t.seen q m || t.pending q m) ≡ true → ⊥
            none d h = first (or_yes (t.seen q m) _ h)
              where
                first : (t.seen q m ≡ true) ⊎ (t.pending q m ≡ true) → ⊥
                first (inl y) = clash y x.1
                first (inr y) = clash y x.0

        pending_yes : (q m : ℕ) → Shortest s m q (suc k) → (p : ℕ) × Chain s m p k × (link s m p q ≡ true) × (s.seen q m ≡ false) → (net_round N M t).pending q m ≡ true
        pending_yes q m h x =
            round_pending_yes N M t tok x.0 q m
            (ih.pending_yes x.0 m (record { chain = x.1; least = λ d b c. h.least (suc d) (omega arith) (link_to c x.2 x.3) }))
            (rounds_link N M s k m x.0 q ∙ x.2)
            (not_false λ w. h.least k (omega arith) (ih.pending_why q m w).chain)
            (not_false λ w. unseen (ih.seen_why q m w))
          where
            unseen : (s.seen q m ≡ true) ⊎ ((d : ℕ) × (d < k) × Chain s m q d) → ⊥
            unseen (inl e) = clash e x.3
            unseen (inr c) = h.least c.0 (omega arith) c.2

    pub level : (k : ℕ) → Level s k
    level zero = start s
    level (suc k) = next k (level k)

    -- BY ROUNDS: a desk whose shortest chain has d links has seen m after d + 1 rounds and not after d.
    pub seen_by_rounds : (m q d : ℕ) → Shortest s m q d → ((net_rounds N M (suc d) s).seen q m ≡ true) × ((net_rounds N M d s).seen q m ≡ false)
    seen_by_rounds m q d h =
        ((level (suc d)).seen_near q m d (omega arith) h.chain, not_false λ w. first ((level d).seen_why q m w))
      where
        first : (s.seen q m ≡ true) ⊎ ((k : ℕ) × (k < d) × Chain s m q k) → ⊥
        first (inl e) = clash e (chain_unseen s ok h.chain)
        first (inr c) = h.least c.0 c.1 c.2
