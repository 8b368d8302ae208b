-- `engine::running::run_events` meets its contract. The loop keeps `Going`: the rest of the run, from here, ends as the whole does. Assumes nothing.
use Rattle.std.specs.Prelude.{ℕ, ◌≤◌}
use Rattle.std.proofs.Common.{sym, ap, ◌∙◌, rules, arith}
use Rattle.sets.specs.Set.{size}
use Rattle.sets.proofs.laws.Sizes.{size_le}
use Rattle.engine.specs.Run.{answered, tallied_of, run_all}
use Rattle.engine.specs.laws.RunSound.{reads_fit}
use Rattle.engine.proofs.RunEnds.{runs_as}
use Rattle.engine.proofs.RunLoop.{going_room}
use Rattle.engine.proofs.RunTurns.{ran_stop, ran_on, ran_end}
use Rattle.engine.proofs.TurnLaws.{turned_ok, turned_err}
use Rattle.engine.proofs.running.run_events.Goals as goal
use Rattle.events.specs.laws.ReadingLaws.{read_is}

pub turn-turned-requires-clause-fits : goal.turn-turned-requires-clause-fits
turn-turned-requires-clause-fits c =
    rw (read_is _ _ _ c.event_at.ensures) (reads_fit _ (λ i. (c.type_inv.events i).fits) _)

pub count_in-requires : goal.count_in-requires
count_in-requires c =
    going_room _ _ _ c.loop-place.invariant c.loop-place-test.true (omega arith) _ (size_le 32 _ (search rules))

pub returns-in-Err : goal.returns-in-Err
unfolding run_all
returns-in-Err c =
    let w = turned_err c.turn-turned.result c.in-Err.is in
    runs_as (c.refused.ensures ∙ ap (λ (k : ℕ). answered k c.loop-place.place 0 c.loop-place.place) (sym w.0))
    (ran_stop _ _ _ c.loop-place.invariant c.loop-place-test.true (read_is _ _ _ c.event_at.ensures) _ _ c.turn-turned.ensures w.1)

pub loop-place-preserved : goal.loop-place-preserved
loop-place-preserved c =
    let w = turned_ok c.turn-turned.result c.in-Ok.is in
    let few : size c.in-Ok.receivers ≤ 32 = size_le 32 _ (search rules) in
    ran_on _ _ _ c.loop-place.invariant c.loop-place-test.true (read_is _ _ _ c.event_at.ensures) _ _ c.turn-turned.ensures w.0 (rw w.1 few) _
    (c.count_in.ensures ∙ ap (λ (to : ℕ). tallied_of c.loop-place.tally c.turn-turned.result.kind (size to)) (sym w.1))

pub returns : goal.returns
unfolding run_all
returns c = runs_as c.done.ensures (ran_end _ _ _ c.loop-place.invariant c.loop-place-test.false)
