-- `console::refused` meets its contract. Assumes nothing.
use Rattle.std.specs.Prelude.{ℕ}
use Rattle.std.proofs.Common.{ap, ◌∙◌}
use Rattle.console.specs.Console.{refused_text}
use Rattle.console.proofs.ConsoleLaws.{printed_report, refused_text_lem}
use Rattle.console.proofs.refused.Goals as goal

pub returns : goal.returns
returns c =
    printed_report c.report.ensures
    (refused_text_lem _ _ c.blank.ensures ∙ ap (λ (k : ℕ). refused_text k c.args.place) c.from.ensures)
