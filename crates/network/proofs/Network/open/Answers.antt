-- `network::Network::open` meets its contract. Assumes nothing.
use Rattle.std.specs.Prelude.{refl, length}
use Rattle.std.proofs.Common.{ap, ◌∙◌}
use Rattle.network.specs.laws.Opening.{net_is, verdict_at_lem, opens_1, opens_verdict, opens_same}
use Rattle.network.proofs.Network.open.Goals as goal

pub returns-in_default : goal.returns-in_default
returns-in_default c = rw c.from.ensures (opens_1 _ _ refl c.in_default.ensures.cases)

pub returns : goal.returns
returns c =
    let w = c.in-Some.ensures.cases in
    let n = net_is _ c.words-heads.ensures c.ones-self.ensures c.words-self.ensures c.words-self-2.ensures c.words-self-3.ensures c.longs-self.ensures c.longs-self-2.ensures c.fill_known.ensures in
    opens_same w.same (opens_verdict _ _ (ap length w.same ∙ w.long) (verdict_at_lem _ c.words-heads.ensures n c.verdict.ensures) n)
