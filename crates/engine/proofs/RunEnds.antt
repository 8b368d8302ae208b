-- The two ways that a run on bytes ends. Assumes nothing.
use Rattle.std.specs.Prelude.{◌≡◌, refl, List, ℕ, length}
use Rattle.std.proofs.Common.{ap, ◌∙◌}
use Rattle.sets.proofs.laws.Bools.{ne_eqb}
use Rattle.network.specs.declared.Network.{Network}
use Rattle.network.specs.State.{bytes_of}
use Rattle.engine.specs.declared.Tally.{Tally}
use Rattle.engine.specs.declared.Answer.{Answer}
use Rattle.engine.specs.Start.{Beginning, begin_of}
use Rattle.engine.specs.Run.{answered, Final, ran, run_all, RunsTo, written, run_of, Ends}

-- refused before any event
pub ends_refused : (s t ev : List ℕ) (old : Tally) {g : Beginning} → g ≡ begin_of s t (length ev) → (g.number ≡ 0 → ⊥)
    → {r : Answer} → r ≡ answered g.number g.place g.detail 0 → Ends r s old (run_of s t ev old)
unfolding run_of
ends_refused s t ev old {g} e h a =
    rw (← e, ne_eqb h) (record { answer = a; state = refl; tally = refl })

-- the answer, made by a function of its own
pub runs_as : {a a' : Answer} {n : Network} {t : Tally} {f : Final} → a ≡ a' → RunsTo (ran a' n) t f → RunsTo (ran a n) t f
runs_as e x = record { answer = e ∙ x.answer; network = x.network; tally = x.tally }

-- the events were run and the state was written
pub ends_written : {r : Answer} {n : Network} {new : Tally} {f : Final} {s : List ℕ} → RunsTo (ran r n) new f → s ≡ bytes_of n → Ends r s new (written f)
ends_written run k = record { answer = run.answer; state = k ∙ ap bytes_of run.network; tally = run.tally }

pub ends_run : (s t ev : List ℕ) (old : Tally) {g : Beginning} → g ≡ begin_of s t (length ev) → g.number ≡ 0 → {r : Answer} {s' : List ℕ} {new : Tally}
    → Ends r s' new (written (run_all ev g.table g.network)) → Ends r s' new (run_of s t ev old)
unfolding run_of
ends_run s t ev old e z x = rw (← e, z) x
