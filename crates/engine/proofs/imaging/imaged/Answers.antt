-- `engine::imaging::imaged` meets its contract. Assumes nothing.
use Rattle.std.specs.Prelude.{refl}
use Rattle.std.proofs.lemmas.Result.{err_from_is_err_and}
use Rattle.engine.proofs.ImagingLaws.{image_refused, image_short, image_done}
use Rattle.engine.proofs.Lent.{opened_is}
use Rattle.engine.proofs.imaging.imaged.Goals as goal
use Rattle.network.specs.laws.Numbers.{refusal_not_0}

pub returns-in_err-open : goal.returns-in_err-open
returns-in_err-open c =
    let p = err_from_is_err_and c.from_residual.result c.from_residual.ensures.1 in
    rw (p.1, p.2) (image_refused _ _ (opened_is c.in_err-open.ensures) (refusal_not_0 _))

pub returns-then-image-ne5120 : goal.returns-then-image-ne5120
returns-then-image-ne5120 c = rw c.from.ensures (image_short _ _ (opened_is c.in_ok-open.ensures) refl c.if-image-ne5120.true)

pub returns : goal.returns
returns c = image_done _ _ _ (opened_is c.in_ok-open.ensures) refl c.if-image-ne5120.false c.image-settled.ensures c.save.ensures
