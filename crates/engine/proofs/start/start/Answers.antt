-- `engine::start::start` meets its contract. Assumes nothing.
use Rattle.std.proofs.lemmas.Result.{err_from_is_err_and}
use Rattle.engine.specs.laws.StartLaws.{begin_1, begin_2, begin_3}
use Rattle.engine.proofs.Lent.{starts_listed, starts_opened}
use Rattle.engine.proofs.start.start.Goals as goal

pub returns-then-state-ne5120 : goal.returns-then-state-ne5120
returns-then-state-ne5120 c = rw c.from.ensures (begin_1 _ _ _ c.if-state-ne5120.true)

pub returns-then-table-ne256 : goal.returns-then-table-ne256
returns-then-table-ne256 c = rw c.from-then-table-ne256.ensures (begin_2 _ _ _ c.if-state-ne5120.false c.if-table-ne256.true)

pub returns-then-events-ne0 : goal.returns-then-events-ne0
returns-then-events-ne0 c = rw c.from-then-events-ne0.ensures (begin_3 _ _ _ c.if-state-ne5120.false c.if-table-ne256.false c.if-events-ne0.true)

pub returns-in_err-read : goal.returns-in_err-read
returns-in_err-read c =
    let p = err_from_is_err_and c.from_residual.result c.from_residual.ensures.1 in
    let k = c.in_err-read.ensures in
    rw (p.1, p.2) (starts_listed _ _ _ c.if-state-ne5120.false c.if-table-ne256.false c.if-events-ne0.false _ k.table k.detail)

pub returns : goal.returns
returns c = starts_opened _ _ _ c.if-state-ne5120.false c.if-table-ne256.false c.if-events-ne0.false c.in_ok-read.ensures.table c.open.result c.open.ensures
