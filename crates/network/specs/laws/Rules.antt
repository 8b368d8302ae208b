-- Laws of specs/Rules.antt. Assumes nothing.
use Rattle.std.specs.Prelude.{ℕ}
use Rattle.network.specs.declared.Peer.{Peer}
use Rattle.network.specs.declared.Network.{Network}
use Rattle.network.specs.Rules.{fault_of, head_of}

-- the fault of p's record in the working state, whose first words can't be wrong
abbrev pub fault_in : Network → Peer → ℕ
fault_in n p = fault_of (head_of n p) n p
