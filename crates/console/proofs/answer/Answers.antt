-- `console::answer` meets its contract. Assumes nothing.
use Rattle.console.proofs.ConsoleLaws.{printed_as, state_part, table_part, events_part, flood_long, flood_run}
use Rattle.console.proofs.answer.Goals as goal

pub returns-then-input-gt65536 : goal.returns-then-input-gt65536
returns-then-input-gt65536 c = printed_as c.refused.ensures (flood_long _ c.if-input-gt65536.true)

pub returns : goal.returns
returns c =
    let input = c.args.input.now in
    printed_as c.run.ensures
    (flood_run input c.if-input-gt65536.false
    (state_part input c.min-middle.ensures)
    (table_part input c.min-middle.ensures c.min-last.ensures)
    (events_part input c.min-last.ensures))
