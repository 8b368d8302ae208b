-- What a forward delivers: one pair is no longer pending, and each delivery is one more. Assumes nothing.
use Rattle.std.specs.Prelude.{◌≡◌, ◌⊎◌, Bool, true, false, not, ◌&&◌, ◌||◌, eqb, length, List, [], ◌∷◌, ℕ, suc, ◌+◌}
use Rattle.std.proofs.Common.{◌∙◌, ap, inl, inr, arith, eqb-true}
use Rattle.std.proofs.Math.Path.{refl}
use Rattle.std.proofs.Math.Bool.{or-false, and-false}
use Rattle.sets.proofs.laws.Bools.{either, eqb_same, ne_eqb}
use Rattle.sets.specs.Set.{digit}
use Rattle.sets.specs.Sums.{sum}
use Rattle.sets.proofs.laws.Sums.{sum_same, sum_change, sum_add, sum_drop, sum_zero}
use Rattle.flooding.specs.Network.{Net, Sound, link, forward}
use Rattle.flooding.specs.Counts.{pending_pairs, gets, delivers, deliveries}
use Rattle.flooding.specs.Machine.{Pair, pair, run}
use Rattle.flooding.proofs.laws.Run.{after, Accepted}
use Rattle.flooding.proofs.laws.Round.{sound_forward}

-- w: pending; h: seen; k: linked.
gets_alg : (w h k : Bool) → digit (w || (not h && k)) + 0 ≡ digit w + digit (k && (not w && not h))
gets_alg true h true = refl
gets_alg true h false = refl
gets_alg false true true = refl
gets_alg false true false = refl
gets_alg false false true = refl
gets_alg false false false = refl

module _ (N M : ℕ) where
  pub forward_tally : (s : Net) (p m : ℕ) → Sound N M s → s.pending p m ≡ true → suc (pending_pairs N M (forward s p m)) ≡ pending_pairs N M s + delivers N s p m
  unfolding forward pending_pairs delivers
  forward_tally s p m ok a =
      let x : sum N (λ q. new q + digit (eqb q p)) ≡ sum N (λ q. old q + digit (gets s p m q)) = sum_same N _ _ (λ q b. each q (either (eqb q p))) in
      omega (arith, sum_add N new (λ q. digit (eqb q p)), sum_add N old (λ q. digit (gets s p m q)), one)
    where
      new : ℕ → ℕ
      new q = sum M (λ n. digit ((forward s p m).pending q n))

      old : ℕ → ℕ
      old q = sum M (λ n. digit (s.pending q n))

      one : sum N (λ q. digit (eqb q p)) ≡ 1
      one = sum_drop N _ (λ q. 0) p (ok.peers p (ok.held p m a).0) (λ q e. rw (ne_eqb e)) (rw (eqb_same p)) ∙ ap suc (sum_zero N)

      own : new p + digit (eqb p p) ≡ old p + digit (gets s p m p)
      own = rw (eqb_same p) (sum_change M _ _ m 1 (digit (gets s p m p)) (ok.held p m a).1 (λ n e. rw (ne_eqb e, and-false (not (s.seen p n)), or-false (s.pending p n))) (rw (a, eqb_same m, and-false (link s m p p))))

      each : (q : ℕ) → (eqb q p ≡ true) ⊎ (eqb q p ≡ false) → new q + digit (eqb q p) ≡ old q + digit (gets s p m q)
      each q (inl e) = rw (eqb-true q p e) own
      each q (inr e) = rw e (sum_change M _ _ m 0 (digit (gets s p m q)) (ok.held p m a).1 (λ n f. rw (ne_eqb f, and-false (not (s.seen q n)), or-false (s.pending q n))) (rw (eqb_same m) (gets_alg (s.pending q m) (s.seen q m) (link s m p q))))

  -- Pending at the end, and what was forwarded, is what was pending at the start and what was deliveries.
  pub run_tally : (s : Net) (l : List Pair) → Sound N M s → Accepted s l → pending_pairs N M (after s l) + length l ≡ pending_pairs N M s + deliveries N s l
  unfolding run deliveries
  run_tally s [] ok a = refl
  run_tally s (pair p m ∷ l) ok a =
      omega (arith, run_tally (forward s p m) l (sound_forward s p m ok a.0) a.1, forward_tally s p m ok a.0)
