-- Laws of specs/Network.antt. Assumes nothing.
use Rattle.std.specs.Prelude.{[]}
use Rattle.network.specs.declared.Network.{Network}
use Rattle.network.specs.Network.{mk}

-- a network to put parts into
abbrev pub bare : Network
bare = mk 0 [] [] [] [] [] []
