use Rattle.std.proofs.Common.{arith, ◌≤◌}
use Rattle.flood.proofs.FloodLaws.{whole_text}
use Rattle.flood.proofs.print.Goals as goal

pub returns : goal.returns
returns g c =
    let room : 1024 ≤ 1024 = omega arith in
    rw (← whole_text _ _ _ _ room c.answer-length.ensures) c.write_all.ensures.bytes
