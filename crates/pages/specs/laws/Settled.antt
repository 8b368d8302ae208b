-- "for any two outcomes that satisfy it, equality is proved" (document 01, "What the contracts settle"): for each shape of promise of this crate that
-- is more than one equation. A promise that is one equation is settled by events' `settled`. Assumes nothing.
use Rattle.std.specs.Prelude.{◌≡◌, List, ℕ, Result, Ok, Err}
use Rattle.std.proofs.Common.{sym, ap}
use Rattle.network.specs.declared.Refused.{Refused}
use Rattle.network.specs.Rules.{checked}
use Rattle.network.specs.laws.Numbers.{refusal_not_0}
use Rattle.network.specs.laws.Settled.{refused_fixes}
use Rattle.events.specs.laws.Settled.{settled}
use Rattle.engine.specs.declared.Tally.{Tally}
use Rattle.engine.specs.declared.Answer.{Answer}
use Rattle.engine.specs.declared.Drained.{Drained}
use Rattle.engine.specs.declared.Begun.{Begun}
use Rattle.engine.specs.Start.{Beginning, begun_of}
use Rattle.engine.specs.Run.{Ran, Final, RunsTo, Ending, Ends}
use Rattle.engine.specs.laws.DrainingLaws.{Ended}

-- `relay_run`: the answer, the state's bytes and the tally
pub settled_ends : {r q : Answer} {s u : List ℕ} {t w : Tally} {e : Ending} → Ends r s t e → Ends q u w e → (r ≡ q) × (s ≡ u) × (t ≡ w)
settled_ends x y = (settled x.answer y.answer, settled x.state y.state, settled x.tally y.tally)

-- `run_events`: the answer, the network and the tally
pub settled_runs : {r q : Ran} {t w : Tally} {f : Final} → RunsTo r t f → RunsTo q w f → (r ≡ q) × (t ≡ w)
settled_runs {r} {q} x y =
    let a : r.answer ≡ q.answer = settled x.answer y.answer in
    let n : r.network ≡ q.network = settled x.network y.network in
    ((λ i. record { answer = a i; network = n i }), settled x.tally y.tally)

-- `relay_forward`, `relay_copy`, `relay_image`: an answer and a buffer
pub settled_both : {A B : Type 0} {r q a : A} {s u b : B} → (r ≡ a) × (s ≡ b) → (q ≡ a) × (u ≡ b) → (r ≡ q) × (s ≡ u)
settled_both x y = (settled x.0 y.0, settled x.1 y.1)

-- `relay_drain`: its answer and the state's bytes
pub settled_drain : (s t : List ℕ) (budget : ℕ) {r q : Drained} {x y : List ℕ} → Ended s t budget r x → Ended s t budget q y → (r ≡ q) × (x ≡ y)
settled_drain s t budget x y = settled_both x y

-- `begin`: the network and the table that were read, or the refusal
pub settled_begun : (r q : Result Begun Refused) {d : Beginning} → begun_of r ≡ d → begun_of q ≡ d → r ≡ q
settled_begun (Ok g) (Ok f) h k = let e = settled h k in ap Ok (λ i. record { network = (e i).network; table = (e i).table })
settled_begun (Ok g) (Err q) h k = absurd (refusal_not_0 q.refusal (sym (ap (λ (g : Beginning). g.number) (settled h k))))
settled_begun (Err r) (Ok f) h k = absurd (refusal_not_0 r.refusal (ap (λ (g : Beginning). g.number) (settled h k)))
settled_begun (Err r) (Err q) h k = let e = settled h k in ap Err (refused_fixes r q (λ i. checked (e i).number (e i).place (e i).detail))
