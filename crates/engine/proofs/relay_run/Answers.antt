-- `engine::relay_run` meets its contract. Assumes nothing.
use Rattle.std.specs.Prelude.{refl}
use Rattle.engine.proofs.RunEnds.{ends_refused, ends_written, ends_run}
use Rattle.engine.specs.laws.StartFacts.{started_rows, started_long}
use Rattle.engine.proofs.relay_run.Goals as goal
use Rattle.network.specs.laws.Numbers.{refusal_not_0}

pub returns-in-Err : goal.returns-in-Err
returns-in-Err c = ends_refused _ _ _ _ c.in-Err.ensures (refusal_not_0 _) c.refused.ensures

pub run_events-answer-requires : goal.run_events-answer-requires
run_events-answer-requires c = started_rows _ _ _ c.in_default.ensures

pub save-requires : goal.save-requires
save-requires c = started_long _ _ _ c.in_default.ensures refl

pub returns : goal.returns
returns c = ends_run _ _ _ _ c.in_default.ensures refl (ends_written c.run_events-answer.ensures c.save.ensures)
