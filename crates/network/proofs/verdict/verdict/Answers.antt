-- `network::verdict::verdict` meets its contract. Assumes nothing.
use Rattle.std.proofs.Common.{rules}
use Rattle.network.specs.laws.Faults.{verdict_one}
use Rattle.network.specs.laws.Numbers.{refusal_not_0}
use Rattle.network.proofs.verdict.verdict.Goals as goal

pub returns-in-Err : goal.returns-in-Err
returns-in-Err c =
    let l = c.loop-p in
    verdict_one _ _ l.p (search rules) l.invariant (c.in-Err.ensures) (refusal_not_0 c.in-Err.refusal) c.detail.ensures
