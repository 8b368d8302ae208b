-- Laws of specs/View.antt. Assumes nothing.
use Rattle.std.specs.Prelude.{[]}
use Rattle.network.specs.declared.Network.{Network}
use Rattle.network.specs.Network.{with_pending, with_seen}

-- what no forward changes
unfoldable pub rest : Network → Network
rest n = with_seen (with_pending n []) []
