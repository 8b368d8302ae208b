-- `drain::sorted::Sorted::drain_round` meets its contract. Assumes nothing.
use Rattle.std.specs.Prelude.{refl}
use Rattle.drain.specs.laws.Turns.{peers_none, peers_more}
use Rattle.drain.proofs.sorted.Sorted.drain_round.Goals as goal

pub loop-p-init : goal.loop-p-init
loop-p-init c = peers_none _ _ _ _

pub loop-p-preserved : goal.loop-p-preserved
loop-p-preserved c = peers_more _ _ _ _ _ c.loop-p.invariant refl c.drain_peer-made.ensures.leads c.drain_peer-made.ensures.made
