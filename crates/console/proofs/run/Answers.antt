-- `console::run` meets its contract. Assumes nothing.
use Rattle.std.specs.Prelude.{refl}
use Rattle.engine.specs.laws.StartFacts.{started_rows}
use Rattle.network.specs.laws.Numbers.{refusal_not_0}
use Rattle.console.proofs.ConsoleLaws.{printed_as, printed_report, text_refused, text_run}
use Rattle.engine.specs.Run.{ran}
use Rattle.console.proofs.run.Goals as goal

pub returns-in-Err : goal.returns-in-Err
returns-in-Err c =
    printed_as c.refused.ensures (text_refused _ _ _ c.in-Err.ensures (refusal_not_0 c.in-Err.e.refusal))

pub run_events-answer-requires : goal.run_events-answer-requires
run_events-answer-requires c = started_rows _ _ _ c.in-Ok.ensures

pub returns : goal.returns
returns c =
    let a = c.run_events-answer in
    printed_report c.report.ensures (text_run _ _ _ c.in-Ok.ensures refl (ran a.result a.new.n) a.ensures c.shown-show.ensures)
