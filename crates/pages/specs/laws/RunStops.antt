-- Where a run stops (demand 1): "A refused event stops the list: the state is that after the events before it." Assumes nothing.
use Rattle.std.specs.Prelude.{◌≡◌, refl, List, ℕ, suc, ◌+◌, ◌-◌, ◌≤◌, ◌<◌}
use Rattle.std.proofs.Common.{◌∙◌, arith}
use Rattle.network.specs.declared.Network.{Network}
use Rattle.network.specs.declared.Table.{Table}
use Rattle.engine.specs.declared.Tally.{Tally}
use Rattle.engine.specs.Run.{Final, stops_at, all_done, run_from}
use Rattle.engine.specs.RunLaws.{outcome_at, tally_after}
use Rattle.engine.specs.laws.RunLaws.{run_on, run_ind}

-- What the answer of a run of k events from `place` says: how many were accepted, where it was refused, and that the events before
-- it, run alone, are all accepted and end in the same network and tally.
pub record Stops (ev : List ℕ) (b : Table) (k place : ℕ) (n : Network) (t : Tally) (f : Final) : Type 0 where
  pub began : place ≤ f.answer.accepted
  pub within : f.answer.accepted ≤ place + k
  pub detail : f.answer.detail ≡ 0
  pub all : f.answer.number ≡ 0 → (f.answer.accepted ≡ place + k) × (f.answer.place ≡ 0)
  pub refused : (f.answer.number ≡ 0 → ⊥) → (f.answer.accepted < place + k) × (f.answer.place ≡ f.answer.accepted)
  pub before : run_from (f.answer.accepted - place) ev place b n t ≡ all_done f.answer.accepted f.tally f.network

module _ (ev : List ℕ) (b : Table) where
  done : (place : ℕ) (n : Network) (t : Tally) → Stops ev b 0 place n t (all_done place t n)
  unfolding run_from
  done place n t =
      record {
        began = omega arith;
        within = omega arith;
        detail = refl;
        all = λ e. (omega arith, refl);
        refused = λ f. absurd (f refl);
        before = rw (none place);
      }
    where
      none : (a : ℕ) → a - a ≡ 0
      none a = omega arith

  stop : (k place : ℕ) (n : Network) (t : Tally) → ((outcome_at ev place b n).turned.number ≡ 0 → ⊥)
      → Stops ev b (suc k) place n t (stops_at (outcome_at ev place b n).turned.number place t n)
  unfolding run_from
  stop k place n t f =
      record {
        began = omega arith;
        within = omega arith;
        detail = refl;
        all = λ e. absurd (f e);
        refused = λ _. (omega arith, refl);
        before = rw (none place);
      }
    where
      none : (a : ℕ) → a - a ≡ 0
      none a = omega arith

  on : (k place : ℕ) (n : Network) (t : Tally) (f : Final) → (outcome_at ev place b n).turned.number ≡ 0
      → Stops ev b k (place + 1) (outcome_at ev place b n).network (tally_after (outcome_at ev place b n) t) f → Stops ev b (suc k) place n t f
  on k place n t f e ih =
      record {
        began = omega (arith, ih.began);
        within = omega (arith, ih.within);
        detail = ih.detail;
        all = λ z. (omega (arith, (ih.all z).0), (ih.all z).1);
        refused = λ z. (omega (arith, (ih.refused z).0), (ih.refused z).1);
        before = rw (one_more f.answer.accepted ih.began) (run_on (f.answer.accepted - (place + 1)) ev place b n t e ∙ ih.before);
      }
    where
      one_more : (a : ℕ) → place + 1 ≤ a → a - place ≡ suc (a - (place + 1))
      one_more a h = omega arith

  pub run_refused : (k place : ℕ) (n : Network) (t : Tally) → Stops ev b k place n t (run_from k ev place b n t)
  run_refused = run_ind ev b (Stops ev b) done stop on
