use Rattle.sets.proofs.Words.{shl_only}
use Rattle.sets.proofs.widths.U32Word.only.Goals as goal

pub returns : goal.returns
returns c = shl_only 32 _ c.requires
