-- The drain of a machine: the page's records Drains and Finishes, and that Drains settles the answer. Assumes nothing.
use Rattle.std.specs.Prelude.{◌≡◌, ◌⊎◌, false, take, List, [], ◌∷◌, ◌++◌, ℕ, zero, suc, ◌+◌, ◌-◌, ◌*◌, ◌≤◌, ◌<◌}
use Rattle.std.proofs.Common.{◌∙◌, arith, length-append, length-take}
use Rattle.std.proofs.Math.Path.{refl, sym, ap}
use Rattle.std.proofs.Math.Logic.{inl, inr}
use Rattle.std.proofs.Math.ListN.{length}
use Rattle.flooding.specs.Network.{Net, Quiet}
use Rattle.flooding.specs.Counts.{unseen_pairs}
use Rattle.flooding.specs.Machine.{Pair, run, due, round, rounds, Drained, stopped, more, cut, drain}
use Rattle.flooding.proofs.laws.Machine.{Machine}
use Rattle.flooding.specs.Page.{Drains, Finishes}
use Rattle.flooding.proofs.laws.Loop.{ways, run_append, drain_stop, drain_round, drain_cut}
use Rattle.flooding.proofs.laws.Run.{accepts_append, accepts_take, mem}
use Rattle.flooding.proofs.laws.Round.{todo_mem}
use Rattle.flooding.proofs.laws.Count.{unseen_bound}
use Rattle.flooding.proofs.laws.Course.{quiet_todo}
use Rattle.flooding.proofs.laws.Floods.{due_accepts, round_ok, floods}

-- Nothing is below 0.
none : {j : ℕ} → j < 0 → ⊥
none h = omega arith

-- An empty list has no pair.
nil_mem : (l : List Pair) → length l ≡ 0 → (q n : ℕ) → mem l q n ≡ false
unfolding mem
nil_mem [] h q n = refl
nil_mem (x ∷ l) h q n = absurd (omega arith)

module _ {S : Type 0} (view : S → Net) (fwd : S → ℕ → ℕ → S) where
  -- One round, and then k.
  pub rounds_shift : (N M k : ℕ) (s : S) → rounds view fwd N M k (round view fwd N M s) ≡ rounds view fwd N M (suc k) s
  unfolding rounds
  rounds_shift N M zero s = refl
  rounds_shift N M (suc k) s = ap (λ (t : S). round view fwd N M t) (rounds_shift N M k s)

module _ {S : Type 0} (view : S → Net) (fwd : S → ℕ → ℕ → S) (N M : ℕ) (ok : S → Type 0) (𝓜 : Machine view fwd N M ok) where
  -- Nothing is due exactly if nothing is pending.
  pub due_none : (s : S) → ok s → length (due N M (view s)) ≡ 0 → Quiet (view s)
  due_none s k e q n = sym (todo_mem N M (view s) (𝓜.sound s k) q n) ∙ nil_mem (due N M (view s)) e q n

  pub due_some : (s : S) → Quiet (view s) → length (due N M (view s)) ≡ 0
  due_some s still = rw (quiet_todo N M (view s) still N)

  -- A drain with nothing to do.
  idle : (b fuel : ℕ) (s : S) → Quiet (view s) → Drains view fwd N M s b fuel (stopped s)
  unfolding rounds run
  idle b fuel s still =
      record {
        path = [];
        accepted = tt;
        ends = refl;
        made = refl;
        within = omega arith;
        stops = inl still;
        few = omega arith;
        needed = λ j l q. none l;
        part = 0;
        whole = refl;
        unfinished = inr still;
      }

  -- A drain is a run of accepted forwards, no more than the budget, and stops when nothing is pending or the budget is spent.
  pub drains : (fuel b : ℕ) (s : S) → ok s → Quiet (view (rounds view fwd N M fuel s)) → Drains view fwd N M s b fuel (drain view fwd N M fuel b s)
  unfolding drain rounds round run
  drains zero b s k still = idle b zero s still
  drains (suc fuel) b s k still =
      first (ways (length (due N M (view s))) b)
      (drains fuel (b - length (due N M (view s))) (round view fwd N M s) (round_ok view fwd N M ok 𝓜 s k) (rw (rounds_shift view fwd N M fuel s) still))
    where
      d : List Pair
      d = due N M (view s)

      r : Drained S
      r = drain view fwd N M fuel (b - length d) (round view fwd N M s)

      whole : 0 < length d → length d ≤ b → Drains view fwd N M (round view fwd N M s) (b - length d) fuel r → Drains view fwd N M s b (suc fuel) (more (length d) r)
      whole h l ih =
          record {
            path = d ++ ih.path;
            accepted = accepts_append view fwd s d ih.path (due_accepts view fwd N M ok 𝓜 s k) ih.accepted;
            ends = ih.ends ∙ sym (run_append fwd s d ih.path);
            made = rw length-append (ap (λ (n : ℕ). length d + n) ih.made);
            within = omega (arith, ih.within);
            stops = spent ih.stops;
            few = omega (arith, ih.few);
            needed = needed;
            part = ih.part;
            whole = ih.whole ∙ ap (λ (t : S). run fwd t (take ih.part (due N M (view t)))) (rounds_shift view fwd N M r.rounds s);
            unfinished = rw (rounds_shift view fwd N M r.rounds s) at ih.unfinished;
          }
        where
          needed : (j : ℕ) → j < suc r.rounds → Quiet (view (rounds view fwd N M j s)) → ⊥
          needed zero b' q = omega (arith, due_some s q)
          needed (suc j) b' q = ih.needed j (omega arith) (rw (rounds_shift view fwd N M j s) q)

          spent : Quiet (view r.end) ⊎ (r.forwards ≡ b - length d) → Quiet (view r.end) ⊎ (length d + r.forwards ≡ b)
          spent (inl q) = inl q
          spent (inr q) = inr (omega arith)

      broken : b < length d → Drains view fwd N M s b (suc fuel) (cut (run fwd s (take b d)) b)
      broken l =
          record {
            path = take b d;
            accepted = accepts_take view fwd b s d (due_accepts view fwd N M ok 𝓜 s k);
            ends = refl;
            made = omega (arith, length-take b d);
            within = omega arith;
            stops = inr refl;
            few = omega arith;
            part = b;
            whole = refl;
            needed = λ j l' q. none l';
            unfinished = inl l;
          }

      first : (length d ≡ 0) ⊎ (((0 < length d) × (length d ≤ b)) ⊎ (b < length d)) → Drains view fwd N M (round view fwd N M s) (b - length d) fuel r
          → Drains view fwd N M s b (suc fuel) (drain view fwd N M (suc fuel) b s)
      first (inl e) ih = rw (drain_stop view fwd N M fuel b s e) (idle b (suc fuel) s (due_none s k e))
      first (inr (inl h)) ih = rw (drain_round view fwd N M fuel b s h.0 h.1) (whole h.0 h.1 ih)
      first (inr (inr h)) ih = rw (drain_cut view fwd N M fuel b s h) (broken h)

  -- With budget for all that is unseen, a drain makes whole rounds until nothing is pending.
  pub finishes : (fuel b : ℕ) (s : S) → ok s → unseen_pairs N M (view s) ≤ b → Quiet (view (rounds view fwd N M fuel s)) → Finishes view fwd N M s (drain view fwd N M fuel b s)
  unfolding drain rounds round
  finishes zero b s k h still = record { ends = refl; quiet = still }
  finishes (suc fuel) b s k h still =
      first (ways (length (due N M (view s))) b)
      (λ h'. finishes fuel (b - length (due N M (view s))) (round view fwd N M s) (round_ok view fwd N M ok 𝓜 s k) h' (rw (rounds_shift view fwd N M fuel s) still))
    where
      d : List Pair
      d = due N M (view s)

      r : Drained S
      r = drain view fwd N M fuel (b - length d) (round view fwd N M s)

      count : length d + unseen_pairs N M (view (run fwd s d)) ≡ unseen_pairs N M (view s)
      count = (floods view fwd N M ok 𝓜 s k).counts d (due_accepts view fwd N M ok 𝓜 s k)

      first : (length d ≡ 0) ⊎ (((0 < length d) × (length d ≤ b)) ⊎ (b < length d))
          → (unseen_pairs N M (view (run fwd s d)) ≤ b - length d → Finishes view fwd N M (round view fwd N M s) r)
          → Finishes view fwd N M s (drain view fwd N M (suc fuel) b s)
      first (inl e) ih = rw (drain_stop view fwd N M fuel b s e) (record { ends = refl; quiet = due_none s k e })
      first (inr (inl l)) ih =
          let x = ih (omega (arith, count)) in
          rw (drain_round view fwd N M fuel b s l.0 l.1) (record { ends = x.ends ∙ rounds_shift view fwd N M r.rounds s; quiet = x.quiet })
      first (inr (inr l)) ih = absurd (omega (arith, count))

  -- Any fuel that is enough gives one answer.
  pub drain_fuel : (i j b : ℕ) (s : S) → ok s → Quiet (view (rounds view fwd N M i s)) → Quiet (view (rounds view fwd N M j s)) → drain view fwd N M i b s ≡ drain view fwd N M j b s
  unfolding drain rounds
  drain_fuel zero zero b s k p q = refl
  drain_fuel zero (suc j) b s k p q = sym (drain_stop view fwd N M j b s (due_some s p))
  drain_fuel (suc i) zero b s k p q = drain_stop view fwd N M i b s (due_some s q)
  drain_fuel (suc i) (suc j) b s k p q =
      rw (drain_fuel i j (b - length (due N M (view s))) (round view fwd N M s) (round_ok view fwd N M ok 𝓜 s k) (rw (rounds_shift view fwd N M i s) p) (rw (rounds_shift view fwd N M j s) q))

  -- THE DRAIN OF AN ENGINE: N rounds are fuel enough, and N * M forwards are budget enough.
  pub drain_law : (b : ℕ) (s : S) → ok s → Drains view fwd N M s b N (drain view fwd N M N b s)
  drain_law b s k = drains N b s k (floods view fwd N M ok 𝓜 s k).few_rounds

  pub drain_finishes : (b : ℕ) (s : S) → ok s → N * M ≤ b → Finishes view fwd N M s (drain view fwd N M N b s)
  drain_finishes b s k h = finishes N b s k (omega (arith, unseen_bound N M (view s))) (floods view fwd N M ok 𝓜 s k).few_rounds
