-- A run place by place: the network that each record meets, and what becomes of it there. Assumes nothing.
use Rattle.std.specs.Prelude.{List, ℕ, zero, suc}
use Rattle.network.specs.declared.Network.{Network}
use Rattle.network.specs.declared.Table.{Table}
use Rattle.engine.specs.RunLaws.{outcome_at}
use Rattle.floodnet.specs.Step.{Numbered}

-- the network that the record at place i meets: that after the records before it
unfoldable pub reached : List ℕ → Table → Network → ℕ → Network
reached ev b n zero = n
reached ev b n (suc i) = (outcome_at ev i b (reached ev b n i)).network

-- what becomes of the record at place i: the number by which it is refused (0 if it is not), and its receivers
abbrev pub turn_at : List ℕ → Table → Network → ℕ → Numbered
turn_at ev b n i = (outcome_at ev i b (reached ev b n i)).turned
