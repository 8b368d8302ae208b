-- "for any two outcomes that satisfy it, equality is proved" (document 01, "What the contracts settle"): `report`'s answer and its buffer. Assumes nothing.
use Rattle.std.specs.Prelude.{◌≡◌, Bool, List, ℕ}
use Rattle.std.proofs.Common.{sym, ◌∙◌}
use Rattle.network.specs.declared.Network.{Network}
use Rattle.report.specs.Report.{Reported}

pub settled_reported : {number place accepted : ℕ} {n : Network} {shown : Bool} {entry x y : List ℕ} {a c : ℕ}
    → Reported number place accepted n shown entry x a → Reported number place accepted n shown entry y c → (x ≡ y) × (a ≡ c)
settled_reported h k = (h.bytes ∙ sym k.bytes, h.count ∙ sym k.count)
