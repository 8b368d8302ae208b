-- `engine::alone::relay_check` meets its contract. Assumes nothing.
use Rattle.std.proofs.Common.{◌∙◌}
use Rattle.engine.proofs.AloneLaws.{check_is}
use Rattle.engine.proofs.Lent.{opened_is}
use Rattle.engine.proofs.alone.relay_check.Goals as goal

pub returns : goal.returns
returns c = c.from.ensures ∙ check_is _ (opened_is c.open.ensures)
