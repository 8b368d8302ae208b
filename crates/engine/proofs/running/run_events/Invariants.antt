-- The invariant of `engine::running::run_events`. Assumes nothing.
use Rattle.engine.specs.Run.{zero_tally, run_from}
use Rattle.engine.proofs.RunLoop.{Going}
use Rattle.engine.proofs.running.run_events.Given as goal

abbrev pub invariant-loop-place : goal.invariant-loop-place
invariant-loop-place l = Going l.events l.rows l.count l.place l.n l.tally (run_from l.count l.events 0 l.rows l.initial.n zero_tally)
