-- Laws of reading and writing as entry points: each way that they end. Assumes nothing.
use Rattle.std.specs.Prelude.{◌≡◌, List, ℕ, length}
use Rattle.std.proofs.Common.{ap}
use Rattle.sets.proofs.laws.Bools.{ne_eqb}
use Rattle.network.specs.State.{Opened}
use Rattle.network.specs.Rules.{checked}
use Rattle.network.specs.State.{open_of, bytes_of}
use Rattle.engine.specs.Alone.{check_of, copy_of, copied_of}

pub check_is : {o : Opened} (s : List ℕ) → o ≡ open_of s → checked o.number o.place o.detail ≡ check_of s
unfolding check_of
check_is s e = ap (λ (x : Opened). checked x.number x.place x.detail) e

-- the read is refused
pub copy_refused : {o : Opened} (s to : List ℕ) → o ≡ open_of s → (o.number ≡ 0 → ⊥) → (checked o.number o.place o.detail ≡ copy_of s to) × (to ≡ copied_of s to)
unfolding copy_of copied_of
copy_refused {o} s to e h = (rw (← e, ne_eqb h) (check_is s e), rw (← e, ne_eqb h))

-- the other buffer has the wrong length
pub copy_short : {o : Opened} (s to : List ℕ) → o ≡ open_of s → o.number ≡ 0 → (length to ≡ 5120 → ⊥) → (checked 1 0 0 ≡ copy_of s to) × (to ≡ copied_of s to)
unfolding copy_of copied_of
copy_short {o} s to e z h = (rw (← e, z, ne_eqb h), rw (← e, z, ne_eqb h))

-- it is written
pub copy_done : {o : Opened} (s to now_to : List ℕ) → o ≡ open_of s → o.number ≡ 0 → length to ≡ 5120 → now_to ≡ bytes_of o.network
    → (checked 0 0 0 ≡ copy_of s to) × (now_to ≡ copied_of s to)
unfolding copy_of copied_of
copy_done {o} s to now_to e z l w = (rw (← e, z, l), rw (← e, z, l) w)
