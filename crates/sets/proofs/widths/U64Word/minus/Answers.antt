use Rattle.std.proofs.Common.{rules}
use Rattle.sets.proofs.Words.{and_not}
use Rattle.sets.proofs.widths.U64Word.minus.Goals as goal

pub returns : goal.returns
returns c = and_not 64 _ _ (search rules) (search rules)
