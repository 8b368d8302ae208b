-- `engine::alone::forward` meets its contract. Assumes nothing.
use Rattle.std.specs.Prelude.{refl, ℕ}
use Rattle.std.proofs.Common.{rules, sym, ap, arith}
use Rattle.std.proofs.lemmas.Result.{err_from_is_err_and}
use Rattle.engine.specs.laws.ForwardAlone.{forward_begun, forward_read, forward_peer, forward_message, forward_refused, forward_done}
use Rattle.engine.specs.Alone.{forwarded_by}
use Rattle.engine.specs.laws.StartFacts.{started_rows, started_long, started_bytes}
use Rattle.engine.proofs.Lent.{saved, forward_keeps}
use Rattle.engine.proofs.TurnLaws.{turned_ok, turned_err}
use Rattle.engine.proofs.alone.forward.Goals as goal
use Rattle.network.specs.laws.Numbers.{refusal_not_0}
use Rattle.network.specs.laws.Refusal.{unfit_ok, unfit_err}

pub returns-in_err-start : goal.returns-in_err-start
returns-in_err-start c =
    let p = err_from_is_err_and c.from_residual.result c.from_residual.ensures.1 in
    rw (p.1, p.2) (forward_begun _ _ _ _ c.in_err-start.ensures refl (refusal_not_0 _))

pub returns-in_err-p : goal.returns-in_err-p
returns-in_err-p c =
    let q = err_from_is_err_and c.from_residual-in_err-p.result c.from_residual-in_err-p.ensures.1 in
    let w = unfit_err _ _ 32 c.in_err-p.ensures in
    rw (q.1, q.2, w.1) (forward_read _ _ _ _ c.in_ok-start.ensures refl (forward_peer _ _ _ _ _ refl w.0))

pub returns-in_err-m : goal.returns-in_err-m
returns-in_err-m c =
    let q = err_from_is_err_and c.from_residual-in_err-m.result c.from_residual-in_err-m.ensures.1 in
    let w = unfit_err _ _ 64 c.in_err-m.ensures in
    let p = unfit_ok _ _ 32 c.in_ok-p.ensures in
    rw (q.1, q.2, w.1) (forward_read _ _ _ _ c.in_ok-start.ensures refl (forward_message _ _ _ _ _ refl (omega (arith, p.0)) w.0))

pub returns-in_err-receivers : goal.returns-in_err-receivers
returns-in_err-receivers c =
    let q = err_from_is_err_and c.from_residual-in_err-receivers.result c.from_residual-in_err-receivers.ensures.1 in
    let p = unfit_ok _ _ 32 c.in_ok-p.ensures in
    let m = unfit_ok _ _ 64 c.in_ok-m.ensures in
    let w = turned_err c.forward.result c.in_err-receivers.was in
    rw (q.1, q.2)
    (forward_read _ _ _ _ c.in_ok-start.ensures refl
    (forward_refused _ _ _ _ _ (ap (λ (k : ℕ). forwarded_by k 0 0 0) (sym w.0)) (omega (arith, p.0)) (omega (arith, m.0)) (rw (p.1, m.1) at c.forward.ensures.answer) w.1))

pub forward-requires : goal.forward-requires
forward-requires c =
    let p = unfit_ok _ _ 32 c.in_ok-p.ensures in
    let m = unfit_ok _ _ 64 c.in_ok-m.ensures in
    rw (p.1, m.1) (p.0, m.0, (started_rows _ _ _ c.in_ok-start.ensures).topics_fit _)

pub save_messages-requires : goal.save_messages-requires
save_messages-requires c = started_long _ _ _ c.in_ok-start.ensures refl

pub returns : goal.returns
returns c =
    let e = c.in_ok-start.ensures in
    let p = unfit_ok _ _ 32 c.in_ok-p.ensures in
    let m = unfit_ok _ _ 64 c.in_ok-m.ensures in
    let state = rw (p.1, m.1) at c.forward.ensures.state in
    let w = turned_ok c.forward.result c.in_ok-receivers.was in
    forward_read _ _ _ _ e refl
    (forward_done _ _ _ _ _ (ap (forwarded_by 0 0 0) (sym w.1)) (omega (arith, p.0)) (omega (arith, m.0)) (rw (p.1, m.1) at c.forward.ensures.answer) state w.0
    (saved _ _ (started_bytes _ _ _ e (search rules) refl) (forward_keeps _ _ _ _ state) c.save_messages.ensures))
