-- `floodnet::refusals::is_new` meets its contract. Assumes nothing.
use Rattle.std.proofs.Common.{rules}
use Rattle.floodnet.proofs.CodeRefusals.{new_law}
use Rattle.floodnet.proofs.refusals.is_new.Goals as goal

pub returns : goal.returns
returns c = new_law _ _ (search rules) c.lacking.ensures
