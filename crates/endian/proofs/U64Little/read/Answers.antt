-- A number of eight bytes is read. Assumes nothing.
use Rattle.std.specs.Prelude.{◌+◌}
use Rattle.std.proofs.Common.{◌≡◌, arith}
use Rattle.endian.specs.laws.Le.{le_4, le_8}
use Rattle.endian.proofs.U64Little.read.Goals as goal

pub returns : goal.returns
returns c =
    let at = c.args.at in
    let fifth : at + 4 + 1 ≡ at + 5 = omega arith in
    let sixth : at + 4 + 2 ≡ at + 6 = omega arith in
    let seventh : at + 4 + 3 ≡ at + 7 = omega arith in
    rw (le_8, le_4, le_4, fifth, sixth, seventh) (omega (arith, c.from_le_bytes.ensures))
