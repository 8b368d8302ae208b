-- `network::Network::write` meets its contract. Assumes nothing.
use Rattle.std.specs.Prelude.{refl}
use Rattle.std.proofs.Common.{◌∙◌}
use Rattle.std.proofs.lemmas.Result.{err_from_is_err_and}
use Rattle.network.specs.laws.Faults.{verdict_tab}
use Rattle.network.specs.laws.Numbers.{refusal_not_0}
use Rattle.network.specs.laws.Writing.{write_1, write_refused, write_0}
use Rattle.network.proofs.Network.write.Goals as goal

pub returns-then-state-ne5120 : goal.returns-then-state-ne5120
returns-then-state-ne5120 c = let w = write_1 _ _ c.if-state-ne5120.true in rw c.from.ensures (record { answer = w.0; bytes = w.1 })

pub returns-in_err-verdict : goal.returns-in_err-verdict
returns-in_err-verdict c =
    let p = err_from_is_err_and c.from_residual.result c.from_residual.ensures.1 in
    let w = write_refused _ _ c.if-state-ne5120.false (c.in_err-verdict.ensures ∙ verdict_tab _ _ c.heads-heads.ensures) (refusal_not_0 c.in_err-verdict.field-0.0.refusal) in
    rw (p.1, p.2) (record { answer = w.0; bytes = w.1 })

pub returns : goal.returns
returns c = let w = write_0 _ _ c.if-state-ne5120.false (c.in_ok-verdict.ensures ∙ verdict_tab _ _ c.heads-heads.ensures) refl c.save.ensures in record { answer = w.0; bytes = w.1 }
