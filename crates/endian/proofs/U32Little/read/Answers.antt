-- A number of four bytes is read. Assumes nothing.
use Rattle.std.proofs.Common.{arith}
use Rattle.endian.specs.laws.Le.{le_4}
use Rattle.endian.proofs.U32Little.read.Goals as goal

pub returns : goal.returns
returns c = rw le_4 (omega (arith, c.from_le_bytes.ensures))
