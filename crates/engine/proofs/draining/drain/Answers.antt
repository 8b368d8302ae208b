-- `engine::draining::drain` meets its contract. Assumes nothing.
use Rattle.std.specs.Prelude.{refl}
use Rattle.std.proofs.Common.{rules, ap, ◌∙◌}
use Rattle.std.proofs.lemmas.Result.{err_from_is_err_and}
use Rattle.endian.specs.laws.Le.{Bytes}
use Rattle.network.specs.State.{bytes_of}
use Rattle.engine.specs.laws.DrainingLaws.{drain_refused, drain_done}
use Rattle.engine.specs.laws.StartFacts.{started_rows, started_long, started_bytes}
use Rattle.engine.proofs.Lent.{saved}
use Rattle.engine.proofs.draining.drain.Goals as goal
use Rattle.network.specs.laws.Numbers.{refusal_not_0}

pub returns-in_err-start : goal.returns-in_err-start
returns-in_err-start c =
    let p = err_from_is_err_and c.from_residual.result c.from_residual.ensures.1 in
    rw (p.1, p.2) (drain_refused _ _ _ c.in_err-start.ensures (refusal_not_0 _) refl)

pub drain_all-drains-requires : goal.drain_all-drains-requires
drain_all-drains-requires c = (started_rows _ _ _ c.in_ok-start.ensures).topics_fit

pub save_messages-requires : goal.save_messages-requires
save_messages-requires c = started_long _ _ _ c.in_ok-start.ensures refl

pub returns : goal.returns
returns c =
    let e = c.in_ok-start.ensures in
    let d = c.drain_all-drains.ensures in
    let h : Bytes c.args.state.now = search rules in
    drain_done _ _ _ _ h e refl d.drains (saved _ _ (started_bytes _ _ _ e h refl) d.others c.save_messages.ensures ∙ ap bytes_of d.others) refl
