-- Writing a state: what the code has worked out is what `write_of` and `written_of` say. Assumes nothing.
use Rattle.std.specs.Prelude.{◌≡◌, refl, List, ℕ, length}
use Rattle.std.proofs.Common.{eq-eqb}
use Rattle.sets.proofs.laws.Bools.{ne_eqb}
use Rattle.network.specs.declared.Network.{Network}
use Rattle.network.specs.declared.Checked.{Checked}
use Rattle.network.specs.Rules.{checked, verdict_of}
use Rattle.network.specs.State.{bytes_of, write_of, written_of}

-- the three answers, each with the buffer afterwards
pub write_1 : (n : Network) (b : List ℕ) → (length b ≡ 5120 → ⊥) → (checked 1 0 0 ≡ write_of n b) × (b ≡ written_of n b)
unfolding write_of written_of
write_1 n b h = rw (ne_eqb h) (refl, refl)

pub write_refused : (n : Network) (b : List ℕ) {c : Checked} → length b ≡ 5120 → c ≡ verdict_of n → (c.number ≡ 0 → ⊥) → (c ≡ write_of n b) × (b ≡ written_of n b)
unfolding write_of written_of
write_refused n b h e z = rw (eq-eqb (length b) 5120 h, ← e, ne_eqb z) (refl, refl)

pub write_0 : (n : Network) (b : List ℕ) {c : Checked} {r : List ℕ} → length b ≡ 5120 → c ≡ verdict_of n → c.number ≡ 0 → r ≡ bytes_of n → (c ≡ write_of n b) × (r ≡ written_of n b)
unfolding write_of written_of
write_0 n b h e z er = rw (eq-eqb (length b) 5120 h, ← e, z, er) (refl, refl)
