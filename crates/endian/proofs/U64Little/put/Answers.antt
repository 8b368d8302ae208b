-- The low half is written, then the high half. Assumes nothing.
use Rattle.endian.specs.laws.Le.{put_le_halves}
use Rattle.endian.proofs.U64Little.put.Goals as goal

pub returns : goal.returns
returns c = put_le_halves _ _ _ c.put.ensures c.put-2.ensures
