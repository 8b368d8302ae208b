-- A machine whose forward shows the network's forward floods as the network does: the page's record Floods. Assumes nothing.
use Rattle.std.specs.Prelude.{◌≡◌, ◌⊎◌, ◌↔◌, true, false, length, List, [], ◌∷◌, ℕ, zero, suc, ◌+◌, ◌<◌}
use Rattle.std.proofs.Common.{sym, ◌∙◌, subst, inl, inr, arith}
use Rattle.std.proofs.Math.Path.{refl, ap}
use Rattle.flooding.specs.Network.{Net, Sound, forward, Quiet, Chain, holds, Reached, Linked}
use Rattle.flooding.specs.Counts.{unseen_pairs}
use Rattle.flooding.specs.Machine.{Pair, pair, run, Accepts, todo, due, round, rounds}
use Rattle.flooding.proofs.laws.Machine.{itself, Machine}
use Rattle.flooding.specs.Page.{Floods}
use Rattle.flooding.proofs.laws.Run as runs
use Rattle.flooding.proofs.laws.Run.{after, Accepted}
use Rattle.flooding.proofs.laws.Round as rnd
use Rattle.flooding.proofs.laws.Round.{net_rounds}
use Rattle.flooding.proofs.laws.Levels as levels
use Rattle.flooding.proofs.laws.Count as count
use Rattle.flooding.proofs.laws.Course as course
use Rattle.flooding.proofs.laws.Tally as tally

-- A network is a machine.
pub net_machine : (N M : ℕ) → Machine itself forward N M (Sound N M)
net_machine N M =
    record {
      sound = λ s k. k;
      fwd_ok = rnd.sound_forward;
      fwd_view = λ s p m k a. refl;
      Rest = Unit {0};
      rest = λ s. tt;
      fwd_rest = λ s p m k a. refl;
      same = λ a b k l r e. e;
    }

-- A chain is a holder, or has a link.
pub held_or_linked : {s : Net} {m q : ℕ} → Reached s m q ↔ ((s.pending q m ≡ true) ⊎ Linked s m q)
held_or_linked {s} {m} {q} = (λ r. there r.0 r.1, back)
  where
    there : (d : ℕ) → Chain s m q d → (s.pending q m ≡ true) ⊎ Linked s m q
    there zero c = inl (levels.chain_zero c)
    there (suc d) c = inr (d, c)

    back : (s.pending q m ≡ true) ⊎ Linked s m q → Reached s m q
    back (inl h) = (0, holds h)
    back (inr c) = (suc c.0, c.1)

module _ {S : Type 0} (view : S → Net) (fwd : S → ℕ → ℕ → S) (N M : ℕ) (ok : S → Type 0) (𝓜 : Machine view fwd N M ok) where
  -- A run of accepted forwards shows the network's run, keeps the states sound, and leaves the rest alone.
  pub run_view : (s : S) (l : List Pair) → ok s → Accepts view fwd s l → view (run fwd s l) ≡ after (view s) l
  unfolding run
  run_view s [] k a = refl
  run_view s (pair p m ∷ l) k a =
      run_view (fwd s p m) l (𝓜.fwd_ok s p m k a.0) a.1 ∙ ap (λ (t : Net). after t l) (𝓜.fwd_view s p m k a.0)

  pub run_ok : (s : S) (l : List Pair) → ok s → Accepts view fwd s l → ok (run fwd s l)
  unfolding run
  run_ok s [] k a = k
  run_ok s (pair p m ∷ l) k a = run_ok (fwd s p m) l (𝓜.fwd_ok s p m k a.0) a.1

  pub run_rest : (s : S) (l : List Pair) → ok s → Accepts view fwd s l → 𝓜.rest (run fwd s l) ≡ 𝓜.rest s
  unfolding run
  run_rest s [] k a = refl
  run_rest s (pair p m ∷ l) k a = run_rest (fwd s p m) l (𝓜.fwd_ok s p m k a.0) a.1 ∙ 𝓜.fwd_rest s p m k a.0

  -- It is accepted exactly if the network accepts it.
  pub shown : (s : S) (l : List Pair) → ok s → Accepts view fwd s l → Accepted (view s) l
  shown s [] k a = tt
  shown s (pair p m ∷ l) k a =
      (a.0, subst (λ (t : Net). Accepted t l) (𝓜.fwd_view s p m k a.0) (shown (fwd s p m) l (𝓜.fwd_ok s p m k a.0) a.1))

  pub taken : (s : S) (l : List Pair) → ok s → Accepted (view s) l → Accepts view fwd s l
  taken s [] k a = tt
  taken s (pair p m ∷ l) k a =
      (a.0, taken (fwd s p m) l (𝓜.fwd_ok s p m k a.0) (subst (λ (t : Net). Accepted t l) (sym (𝓜.fwd_view s p m k a.0)) a.1))

  -- A round's forwards are accepted, so rounds show the network's rounds.
  pub due_accepts : (s : S) → ok s → Accepts view fwd s (due N M (view s))
  due_accepts s k = taken s (todo M (view s) N) k (rnd.todo_accepted M (view s) N)

  pub round_ok : (s : S) → ok s → ok (round view fwd N M s)
  unfolding round
  round_ok s k = run_ok s (due N M (view s)) k (due_accepts s k)

  pub rounds_ok : (k : ℕ) (s : S) → ok s → ok (rounds view fwd N M k s)
  unfolding rounds
  rounds_ok zero s h = h
  rounds_ok (suc k) s h = round_ok (rounds view fwd N M k s) (rounds_ok k s h)

  pub rounds_view : (k : ℕ) (s : S) → ok s → view (rounds view fwd N M k s) ≡ net_rounds N M k (view s)
  unfolding rounds round
  rounds_view zero s h = refl
  rounds_view (suc k) s h =
      let t : S = rounds view fwd N M k s in
      run_view t (due N M (view t)) (rounds_ok k s h) (due_accepts t (rounds_ok k s h))
      ∙ ap (λ (u : Net). after u (todo M u N)) (rounds_view k s h)

  -- A MACHINE FLOODS.
  pub floods : (s : S) → ok s → Floods view fwd N M s
  floods s k =
      record {
        stays_sound = λ l a. 𝓜.sound (run fwd s l) (run_ok s l k a);
        each_lowers = λ p m a. rw (𝓜.fwd_view s p m k a) (count.forward_counts N M (view s) p m fine a);
        counts = counts;
        seen_at_end = λ l a still q m.
            let x = reached l a m (λ p. still p m) q in
            (λ h. split (x.0 h), λ o. x.1 (join o));
        seen_at_rest = reached;
        same_end = end;
        same_count = λ l r a b still calm.
            omega (arith, ap (λ (t : S). unseen_pairs N M (view t)) (end l r a b still calm), counts l a, counts r b);
        no_more = λ l r a b calm. course.no_longer N M (view s) l r fine (shown s l k a) (shown s r k b) (rw (run_view s r k b) at calm);
        by_rounds = λ m q d h.
            let x = levels.seen_by_rounds N M (view s) fine m q d h in
            (shows (suc d) q m ∙ x.0, shows d q m ∙ x.1);
        holder = λ m q h. record { chain = holds h; least = λ (d : ℕ) (b : d < 0) c. omega arith };
        nearest = λ m q r.
            let x = course.shortest N M (view s) fine m q r in
            (x.0, course.shortest_below N M (view s) fine m q x.0 x.1, x.1);
        pending_by_rounds = λ m q j.
            rw (rounds_view j s k)
            ((levels.level N M (view s) fine j).pending_why q m, (levels.level N M (view s) fine j).pending_yes q m);
        each_balances = λ p m a. rw (𝓜.fwd_view s p m k a) (tally.forward_tally N M (view s) p m fine a);
        balance = λ l a. rw (run_view s l k a) (tally.run_tally N M (view s) l fine (shown s l k a));
        few_forwards = λ l a. count.run_bound N M (view s) l fine (shown s l k a);
        few_rounds = rw (rounds_view N s k) (count.rounds_quiet N M (view s) fine);
      }
    where
      fine : Sound N M (view s)
      fine = 𝓜.sound s k

      counts : (l : List Pair) → Accepts view fwd s l → length l + unseen_pairs N M (view (run fwd s l)) ≡ unseen_pairs N M (view s)
      counts l a = rw (run_view s l k a) (count.run_counts N M (view s) l fine (shown s l k a))

      shows : (j q m : ℕ) → (view (rounds view fwd N M j s)).seen q m ≡ (net_rounds N M j (view s)).seen q m
      shows j q m = ap (λ (t : Net). t.seen q m) (rounds_view j s k)

      reached : (l : List Pair) → Accepts view fwd s l → (m : ℕ) → ((p : ℕ) → (view (run fwd s l)).pending p m ≡ false) → (q : ℕ)
          → ((view (run fwd s l)).seen q m ≡ true) ↔ (((view s).seen q m ≡ true) ⊎ Reached (view s) m q)
      reached l a = rw (run_view s l k a) (runs.seen_at_rest (view s) l (shown s l k a))

      split : {m q : ℕ} → ((view s).seen q m ≡ true) ⊎ Reached (view s) m q → ((view s).seen q m ≡ true) ⊎ (((view s).pending q m ≡ true) ⊎ Linked (view s) m q)
      split (inl h) = inl h
      split (inr r) = inr (held_or_linked.0 r)

      join : {m q : ℕ} → ((view s).seen q m ≡ true) ⊎ (((view s).pending q m ≡ true) ⊎ Linked (view s) m q) → ((view s).seen q m ≡ true) ⊎ Reached (view s) m q
      join (inl h) = inl h
      join (inr r) = inr (held_or_linked.1 r)

      end : (l r : List Pair) → Accepts view fwd s l → Accepts view fwd s r → Quiet (view (run fwd s l)) → Quiet (view (run fwd s r)) → run fwd s l ≡ run fwd s r
      end l r a b still calm =
          𝓜.same _ _ (run_ok s l k a) (run_ok s r k b) (run_rest s l k a ∙ sym (run_rest s r k b))
          (run_view s l k a
          ∙ runs.same_end (view s) l r (shown s l k a) (shown s r k b) (rw (run_view s l k a) at still) (rw (run_view s r k b) at calm)
          ∙ sym (run_view s r k b))
