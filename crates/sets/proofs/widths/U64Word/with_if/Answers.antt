use Rattle.sets.proofs.Words.{or_shl_if}
use Rattle.sets.proofs.widths.U64Word.with_if.Goals as goal

pub returns : goal.returns
returns c = or_shl_if 64 _ _ c.args.b c.requires
