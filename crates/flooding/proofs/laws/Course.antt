-- Rounds are a run of accepted forwards like any other, and so end where every order ends; a shortest chain has fewer than N links. Assumes nothing.
use Rattle.std.specs.Prelude.{◌≡◌, ◌⊎◌, true, List, [], ◌++◌, length, ℕ, zero, suc, ◌≤◌, ◌<◌}
use Rattle.std.proofs.Common.{sym, ◌∙◌, ap, length-append, arith}
use Rattle.std.proofs.Math.Path.{refl}
use Rattle.std.proofs.Math.Logic.{inl, inr}
use Rattle.sets.proofs.laws.Bools.{clash, or_yes}
use Rattle.flooding.specs.Network.{Net, Sound, forward, Quiet, Reached, Shortest}
use Rattle.flooding.specs.Counts.{unseen_pairs}
use Rattle.flooding.specs.Machine.{Pair, run, row, todo, round, rounds}
use Rattle.flooding.proofs.laws.Machine.{itself}
use Rattle.flooding.proofs.laws.Loop.{run_append}
use Rattle.flooding.proofs.laws.Run.{after, Accepted, accepts_append, same_end, chain_unseen}
use Rattle.flooding.proofs.laws.Round.{net_rounds, todo_accepted, sound_after, sound_rounds, round_seen}
use Rattle.flooding.proofs.laws.Levels.{level}
use Rattle.flooding.proofs.laws.Count.{run_counts, rounds_quiet, rounds_lower, unseen_of_pos, unseen_of_bound}

module _ (N M : ℕ) where
  -- The forwards of the first k rounds, in their order.
  unfoldable pub course : ℕ → Net → List Pair
  course zero s = []
  course (suc k) s = course k s ++ todo M (net_rounds N M k s) N

  -- They lead to the network after k rounds, and are accepted.
  pub course_after : (k : ℕ) (s : Net) → after s (course k s) ≡ net_rounds N M k s
  unfolding course rounds round run
  course_after zero s = refl
  course_after (suc k) s = run_append forward s (course k s) _ ∙ rw (course_after k s)

  pub course_accepted : (k : ℕ) (s : Net) → Accepted s (course k s)
  unfolding course
  course_accepted zero s = tt
  course_accepted (suc k) s = accepts_append itself forward s (course k s) _ (course_accepted k s) (rw (course_after k s) (todo_accepted M (net_rounds N M k s) N))

  -- No list of accepted forwards is longer than one that ends with nothing pending.
  pub no_longer : (s : Net) (l r : List Pair) → Sound N M s → Accepted s l → Accepted s r → Quiet (after s r) → length l ≤ length r
  no_longer s l r ok a b calm =
      let t : Net = after s l in
      let c : List Pair = course N t in
      let e : after s (l ++ c) ≡ net_rounds N M N t = run_append forward s l c ∙ course_after N t in
      let d : Accepted s (l ++ c) = accepts_append itself forward s l c a (course_accepted N t) in
      let same : after s (l ++ c) ≡ after s r = same_end s (l ++ c) r d b (rw e (rounds_quiet N M t (sound_after s l ok a))) calm in
      omega (arith, ap (λ (u : Net). unseen_pairs N M u) same, run_counts N M s (l ++ c) ok d, run_counts N M s r ok b, length-append l c)

  -- A round in a quiet network has nothing to do.
  quiet_row : (s : Net) → Quiet s → (p k : ℕ) → row s p k ≡ []
  unfolding row
  quiet_row s still p zero = refl
  quiet_row s still p (suc k) = rw (quiet_row s still p k, still p k)

  pub quiet_todo : (s : Net) → Quiet s → (k : ℕ) → todo M s k ≡ []
  unfolding todo
  quiet_todo s still zero = refl
  quiet_todo s still (suc k) = rw (quiet_todo s still k, quiet_row s still k M)

  module _ (s : Net) (ok : Sound N M s) where
    -- What is seen after k rounds and was not at the start has a shortest chain of fewer than k links.
    near : (k q m : ℕ) → (net_rounds N M k s).seen q m ≡ true → (s.seen q m ≡ true) ⊎ ((d : ℕ) × (d < k) × Shortest s m q d)
    unfolding rounds
    near zero q m h = inl h
    near (suc k) q m h = first (or_yes _ _ (sym (round_seen N M (net_rounds N M k s) (sound_rounds N M s ok k) q m) ∙ h)) (near k q m)
      where
        later : (s.seen q m ≡ true) ⊎ ((d : ℕ) × (d < k) × Shortest s m q d) → (s.seen q m ≡ true) ⊎ ((d : ℕ) × (d < suc k) × Shortest s m q d)
        later (inl e) = inl e
        later (inr c) = inr (c.0, omega arith, c.2)

        first : ((net_rounds N M k s).seen q m ≡ true) ⊎ ((net_rounds N M k s).pending q m ≡ true) → ((net_rounds N M k s).seen q m ≡ true → (s.seen q m ≡ true) ⊎ ((d : ℕ) × (d < k) × Shortest s m q d)) → (s.seen q m ≡ true) ⊎ ((d : ℕ) × (d < suc k) × Shortest s m q d)
        first (inl x) ih = later (ih x)
        first (inr x) ih = inr (k, omega arith, (level N M s ok k).pending_why q m x)

    -- A desk that is reached has a shortest chain.
    pub shortest : (m q : ℕ) → Reached s m q → (d : ℕ) × Shortest s m q d
    shortest m q r = first (near (suc r.0) q m ((level N M s ok (suc r.0)).seen_near q m r.0 (omega arith) r.1))
      where
        first : (s.seen q m ≡ true) ⊎ ((d : ℕ) × (d < suc r.0) × Shortest s m q d) → (d : ℕ) × Shortest s m q d
        first (inl e) = clash e (chain_unseen s ok r.1)
        first (inr c) = (c.0, c.2)

    -- It has fewer than N links.
    pub shortest_below : (m q d : ℕ) → Shortest s m q d → d < N
    shortest_below m q d h =
        let w = (level N M s ok d).pending_yes q m h in
        omega (arith, rounds_lower N M s ok d q m w, unseen_of_pos N M (net_rounds N M d s) q m (sound_rounds N M s ok d) w, unseen_of_bound N m s)
