-- "for any two outcomes that satisfy it, equality is proved" (document 01, "What the contracts settle"): what the program prints, its length and the
-- buffer. Assumes nothing.
use Rattle.std.specs.Prelude.{◌≡◌, List, ℕ}
use Rattle.events.specs.laws.Settled.{settled}
use Rattle.console.specs.Console.{Printed}

pub settled_printed : {text entry x y : List ℕ} {a c : ℕ} → Printed text entry x a → Printed text entry y c → (x ≡ y) × (a ≡ c)
settled_printed h k = (settled h.bytes k.bytes, settled h.count k.count)
