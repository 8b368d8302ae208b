use Rattle.sets.proofs.Words.{shl_only}
use Rattle.sets.proofs.widths.U64Word.only.Goals as goal

pub returns : goal.returns
returns c = shl_only 64 _ c.requires
