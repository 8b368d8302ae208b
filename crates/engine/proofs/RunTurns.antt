-- The turns of a run's loop, by what the function that does one event answers. Assumes nothing.
use Rattle.std.specs.Prelude.{◌≡◌, List, ℕ, ◌+◌, ◌≤◌, ◌<◌}
use Rattle.std.proofs.Common.{sym, ap, subst, ◌∙◌}
use Rattle.sets.specs.Set.{size}
use Rattle.network.specs.declared.Network.{Network}
use Rattle.network.specs.declared.Table.{Table}
use Rattle.engine.specs.declared.Tally.{Tally}
use Rattle.engine.specs.Run.{Ran, answered, tallied_of, turn_of, Turn, Final, stops_at, all_done, RunsTo}
use Rattle.engine.specs.RunLaws.{outcome_at}
use Rattle.engine.proofs.RunLoop.{Going, going_on, going_stop, going_end}
use Rattle.engine.proofs.TurnLaws.{refused_same}
use Rattle.events.specs.Event.{Read, read_at}
use Rattle.floodnet.specs.Step.{Numbered}

abbrev pub ran_at : ℕ → ℕ → ℕ → Network → Ran
ran_at number place accepted n = record { answer = answered number place 0 accepted; network = n }

module _ (ev : List ℕ) (b : Table) (count : ℕ) {place : ℕ} {n : Network} {t : Tally} {f : Final} (g : Going ev b count place n t f) where
  -- an event is refused: the run stops
  pub ran_stop : place < count → {read : Read} → read ≡ read_at ev place → (m : Network) (r : Numbered) → Turn b n read m r → (r.number ≡ 0 → ⊥)
      → RunsTo (ran_at r.number place place m) t f
  ran_stop h {read} k m r u z =
      let e : r ≡ (outcome_at ev place b n).turned = u.1 ∙ ap (λ (x : Read). (turn_of b n x).turned) k in
      let no : (outcome_at ev place b n).turned.number ≡ 0 → ⊥ = λ (y : (outcome_at ev place b n).turned.number ≡ 0). z (ap (λ (x : Numbered). x.number) e ∙ y) in
      let s : f ≡ stops_at (outcome_at ev place b n).turned.number place t n = going_stop ev b count g h no in
      let w : m ≡ n = u.0 ∙ ap (λ (x : Read). (turn_of b n x).network) k ∙ refused_same b n (read_at ev place) no in
      record {
        answer = ap (λ (x : Numbered). (ran_at x.number place place n).answer) e ∙ sym (ap (λ (x : Final). x.answer) s);
        network = w ∙ sym (ap (λ (x : Final). x.network) s);
        tally = sym (ap (λ (x : Final). x.tally) s);
      }

  -- an event is accepted: the run goes on
  pub ran_on : place < count → {read : Read} → read ≡ read_at ev place → (m : Network) (r : Numbered) → Turn b n read m r → r.number ≡ 0
      → size r.receivers ≤ 32 → (t' : Tally) → t' ≡ tallied_of t r.kind (size r.receivers) → Going ev b count (place + 1) m t' f
  ran_on h {read} k m r u z few t' j =
      let e : r ≡ (outcome_at ev place b n).turned = u.1 ∙ ap (λ (x : Read). (turn_of b n x).turned) k in
      going_on ev b count g h m t' (sym (ap (λ (x : Numbered). x.number) e) ∙ z) (subst (λ (x : Numbered). size x.receivers ≤ 32) e few)
      (u.0 ∙ ap (λ (x : Read). (turn_of b n x).network) k)
      (j ∙ ap (λ (x : Numbered). tallied_of t x.kind (size x.receivers)) e)

  -- no event is left
  pub ran_end : count ≤ place → RunsTo (ran_at 0 0 count n) t f
  ran_end h =
      let s : f ≡ all_done count t n = going_end ev b count g h in
      record {
        answer = sym (ap (λ (x : Final). x.answer) s);
        network = sym (ap (λ (x : Final). x.network) s);
        tally = sym (ap (λ (x : Final). x.tally) s);
      }
