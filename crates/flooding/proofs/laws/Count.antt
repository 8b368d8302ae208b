-- What is left to do: each forward lowers the count of unseen pairs by one, so there are at most N * M; N rounds end it. Assumes nothing.
use Rattle.std.specs.Prelude.{◌≡◌, Bool, false, ◌&&◌, ◌||◌, eqb, length, List, [], ◌∷◌, ℕ, zero, suc, ◌+◌, ◌*◌, ◌≤◌, ◌<◌}
use Rattle.std.proofs.Common.{arith}
use Rattle.std.proofs.Math.Bool.{true, not, or-false, and-false}
use Rattle.sets.proofs.laws.Bools.{not_false, eqb_same, ne_eqb}
use Rattle.sets.specs.Set.{digit}
use Rattle.sets.specs.Sums.{sum}
use Rattle.sets.proofs.laws.Sums.{sum_same, sum_drop, sum_lt, sum_bound, sum_member}
use Rattle.flooding.specs.Network.{Net, Sound, at, forward, Quiet}
use Rattle.flooding.specs.Counts.{unseen_pairs}
use Rattle.flooding.specs.Machine.{Pair, pair, run, todo, round, rounds}
use Rattle.flooding.proofs.laws.Run.{after, Accepted, after_present}
use Rattle.flooding.proofs.laws.Round.{net_round, net_rounds, sound_forward, sound_rounds, round_seen, round_pending_why}

-- The desks that have not seen m.
abbrev pub unseen_of : ℕ → ℕ → Net → ℕ
unseen_of N m s = sum N (λ p. digit (s.present p && not (s.seen p m)))

-- A digit is at most 1, so at most N desks have not seen m.
digit_one : (b : Bool) → digit b ≤ 1
digit_one true = omega arith
digit_one false = omega arith

pub unseen_of_bound : (N m : ℕ) (s : Net) → unseen_of N m s ≤ N
unseen_of_bound N m s =
    let h : unseen_of N m s ≤ N * 1 = sum_bound N 1 _ (λ p. digit_one (s.present p && not (s.seen p m))) in
    omega arith

module _ (N M : ℕ) where
  -- Each accepted forward lowers the count of unseen pairs by exactly one.
  pub forward_counts : (s : Net) (p m : ℕ) → Sound N M s → s.pending p m ≡ true → unseen_pairs N M s ≡ suc (unseen_pairs N M (forward s p m))
  unfolding forward unseen_pairs
  forward_counts s p m ok a = sum_drop N _ _ p (ok.peers p here) others own
    where
      here : s.present p ≡ true
      here = (ok.held p m a).0

      others : (q : ℕ) → (q ≡ p → ⊥) → sum M (λ n. digit (s.present q && not (s.seen q n))) ≡ sum M (λ n. digit (s.present q && not (s.seen q n || at p m q n)))
      others q e = sum_same M _ _ λ n b. rw (ne_eqb e, or-false (s.seen q n))

      own : sum M (λ n. digit (s.present p && not (s.seen p n))) ≡ suc (sum M (λ n. digit (s.present p && not (s.seen p n || at p m p n))))
      own = sum_drop M _ _ m (ok.held p m a).1 (λ n e. rw (ne_eqb e, and-false (eqb p p), or-false (s.seen p n))) (rw (here, ok.apart p m a, eqb_same p, eqb_same m))

  -- So a list of them lowers it by its length.
  pub run_counts : (s : Net) (l : List Pair) → Sound N M s → Accepted s l → length l + unseen_pairs N M (after s l) ≡ unseen_pairs N M s
  unfolding run
  run_counts s [] ok a = omega arith
  run_counts s (pair p m ∷ l) ok a =
      omega (arith, run_counts (forward s p m) l (sound_forward s p m ok a.0) a.1, forward_counts s p m ok a.0)

  -- There are at most N * M unseen pairs.
  pub unseen_bound : (s : Net) → unseen_pairs N M s ≤ N * M
  unfolding unseen_pairs
  unseen_bound s = sum_bound N M _ λ p. first p (sum_bound M 1 _ λ m. digit_one (s.present p && not (s.seen p m)))
    where
      first : (p : ℕ) → sum M (λ m. digit (s.present p && not (s.seen p m))) ≤ M * 1 → sum M (λ m. digit (s.present p && not (s.seen p m))) ≤ M
      first p h = omega arith

  -- No run of accepted forwards is longer than N * M.
  pub run_bound : (s : Net) (l : List Pair) → Sound N M s → Accepted s l → length l ≤ N * M
  run_bound s l ok a = omega (arith, run_counts s l ok a, unseen_bound s)

  -- A round in which m is pending somewhere lowers the count of the desks that have not seen m.
  round_lowers : (s : Net) (p m : ℕ) → Sound N M s → s.pending p m ≡ true → unseen_of N m (net_round N M s) < unseen_of N m s
  unfolding round
  round_lowers s p m ok a = sum_lt N _ _ p (ok.peers p here) each own
    where
      here : s.present p ≡ true
      here = (ok.held p m a).0

      less : (a b c : Bool) → digit (a && not (b || c)) ≤ digit (a && not b)
      less true true c = omega arith
      less true false c = digit_one (not c)
      less false b c = omega arith

      each : (q : ℕ) → digit ((net_round N M s).present q && not ((net_round N M s).seen q m)) ≤ digit (s.present q && not (s.seen q m))
      each q = rw (after_present s (todo M s N), round_seen N M s ok q m) (less (s.present q) (s.seen q m) (s.pending q m))

      own : digit ((net_round N M s).present p && not ((net_round N M s).seen p m)) < digit (s.present p && not (s.seen p m))
      own = rw (after_present s (todo M s N), round_seen N M s ok p m, here, ok.apart p m a, a) (omega arith)

  -- Where m is still pending after k rounds, each of them lowered that count.
  pub rounds_lower : (s : Net) → Sound N M s → (k q m : ℕ) → (net_rounds N M k s).pending q m ≡ true → unseen_of N m (net_rounds N M k s) + k ≤ unseen_of N m s
  unfolding rounds
  rounds_lower s ok zero q m h = omega arith
  rounds_lower s ok (suc k) q m h =
      let t : Net = net_rounds N M k s in
      let tok : Sound N M t = sound_rounds N M s ok k in
      let x = round_pending_why N M t tok q m h in
      omega (arith, round_lowers t x.2.0 m tok x.2.1, rounds_lower s ok k x.2.0 m x.2.1)

  -- A pending desk counts as unseen.
  pub unseen_of_pos : (s : Net) (q m : ℕ) → Sound N M s → s.pending q m ≡ true → 1 ≤ unseen_of N m s
  unseen_of_pos s q m ok h = first (ok.held q m h).0 (ok.apart q m h) (sum_member N _ q (ok.peers q (ok.held q m h).0))
    where
      first : s.present q ≡ true → s.seen q m ≡ false → digit (s.present q && not (s.seen q m)) ≤ unseen_of N m s → 1 ≤ unseen_of N m s
      first a b c = rw (a, b) at c

  -- After N rounds nothing is pending.
  pub rounds_quiet : (s : Net) → Sound N M s → Quiet (net_rounds N M N s)
  rounds_quiet s ok q m = not_false λ h. last h
    where
      last : (net_rounds N M N s).pending q m ≡ true → ⊥
      last h = omega (arith, unseen_of_pos (net_rounds N M N s) q m (sound_rounds N M s ok N) h, unseen_of_bound N m s, rounds_lower s ok N q m h)
