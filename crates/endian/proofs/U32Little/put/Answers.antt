-- Four stores are `put_le 4`. Assumes nothing.
use Rattle.std.proofs.Common.{◌≡◌, ◌/◌, sym, arith}
use Rattle.endian.specs.laws.Le.{put_le_4}
use Rattle.endian.proofs.U32Little.put.Goals as goal

pub returns : goal.returns
returns c =
    let x = c.args.self in
    let third : x / 65536 ≡ x / 256 / 256 = omega arith in
    let fourth : x / 16777216 ≡ x / 256 / 256 / 256 = omega arith in
    rw (c.to_le_bytes.ensures, third, fourth) (sym (put_le_4 _ _ _))
