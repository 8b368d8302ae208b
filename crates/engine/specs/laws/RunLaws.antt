-- Laws of specs/RunLaws.antt. Assumes nothing.
use Rattle.std.specs.Prelude.{◌≡◌, Bool, cond, List, ℕ, zero, suc, ◌+◌}
use Rattle.std.proofs.Common.{eq-eqb, eqb-true}
use Rattle.std.proofs.Math.Path.{refl}
use Rattle.std.proofs.Math.Bool.{true, false}
use Rattle.std.proofs.Math.Dec.{eqb}
use Rattle.sets.proofs.laws.Bools.{clash, ne_eqb}
use Rattle.network.specs.declared.Network.{Network}
use Rattle.network.specs.declared.Table.{Table}
use Rattle.engine.specs.declared.Tally.{Tally}
use Rattle.engine.specs.Run.{Final, stops_at, all_done, run_from}
use Rattle.engine.specs.RunLaws.{outcome_at, tally_after}

-- The two ways of one more event: it is accepted and the run goes on, or it is refused and the run stops there.
pub run_on : (k : ℕ) (ev : List ℕ) (place : ℕ) (b : Table) (n : Network) (t : Tally) → (outcome_at ev place b n).turned.number ≡ 0
    → run_from (suc k) ev place b n t ≡ run_from k ev (place + 1) b (outcome_at ev place b n).network (tally_after (outcome_at ev place b n) t)
unfolding run_from
run_on k ev place b n t e = rw e

pub run_stops : (k : ℕ) (ev : List ℕ) (place : ℕ) (b : Table) (n : Network) (t : Tally) → ((outcome_at ev place b n).turned.number ≡ 0 → ⊥)
    → run_from (suc k) ev place b n t ≡ stops_at (outcome_at ev place b n).turned.number place t n
unfolding run_from
run_stops k ev place b n t e = rw (ne_eqb e)

-- What is true of every run from here: in the end (`done`), where an event is refused (`stop`), and through an accepted event (`on`).
module _ (ev : List ℕ) (b : Table) (P : ℕ → ℕ → Network → Tally → Final → Type 0)
    (done : (place : ℕ) (n : Network) (t : Tally) → P 0 place n t (all_done place t n))
    (stop : (k place : ℕ) (n : Network) (t : Tally) → ((outcome_at ev place b n).turned.number ≡ 0 → ⊥)
    → P (suc k) place n t (stops_at (outcome_at ev place b n).turned.number place t n))
    (on : (k place : ℕ) (n : Network) (t : Tally) (f : Final) → (outcome_at ev place b n).turned.number ≡ 0
    → P k (place + 1) (outcome_at ev place b n).network (tally_after (outcome_at ev place b n) t) f → P (suc k) place n t f) where
  pub run_ind : (k place : ℕ) (n : Network) (t : Tally) → P k place n t (run_from k ev place b n t)
  unfolding run_from
  run_ind zero place n t = done place n t
  run_ind (suc k) place n t = first (eqb (outcome_at ev place b n).turned.number 0) refl (run_ind k (place + 1) (outcome_at ev place b n).network (tally_after (outcome_at ev place b n) t))
    where
      first : (x : Bool) → eqb (outcome_at ev place b n).turned.number 0 ≡ x
          → P k (place + 1) (outcome_at ev place b n).network (tally_after (outcome_at ev place b n) t) (run_from k ev (place + 1) b (outcome_at ev place b n).network (tally_after (outcome_at ev place b n) t))
          → P (suc k) place n t
          (cond x (run_from k ev (place + 1) b (outcome_at ev place b n).network (tally_after (outcome_at ev place b n) t))
          (stops_at (outcome_at ev place b n).turned.number place t n))
      first true e ih = on k place n t _ (eqb-true _ _ e) ih
      first false e ih = stop k place n t (λ (z : (outcome_at ev place b n).turned.number ≡ 0). clash (eq-eqb _ _ z) e)
