-- Laws of the image as an entry point: each way that it ends. Assumes nothing.
use Rattle.std.specs.Prelude.{◌≡◌, List, ℕ, length}
use Rattle.sets.proofs.laws.Bools.{ne_eqb}
use Rattle.network.specs.declared.Network.{Network}
use Rattle.network.specs.State.{Opened}
use Rattle.network.specs.Rules.{checked}
use Rattle.network.specs.State.{open_of, bytes_of}
use Rattle.broadcastnet.specs.Commit.{image_net}
use Rattle.engine.proofs.AloneLaws.{check_is}
use Rattle.engine.specs.Imaging.{image_answer_of, imaged_of}

-- the state is refused, by 1 or 20 to 26
pub image_refused : {o : Opened} (s image : List ℕ) → o ≡ open_of s → (o.number ≡ 0 → ⊥)
    → (checked o.number o.place o.detail ≡ image_answer_of s image) × (image ≡ imaged_of s image)
unfolding image_answer_of imaged_of
image_refused {o} s image e h = (rw (← e, ne_eqb h) (check_is s e), rw (← e, ne_eqb h))

-- the second buffer has the wrong length
pub image_short : {o : Opened} (s image : List ℕ) → o ≡ open_of s → o.number ≡ 0 → (length image ≡ 5120 → ⊥)
    → (checked 18 0 0 ≡ image_answer_of s image) × (image ≡ imaged_of s image)
unfolding image_answer_of imaged_of
image_short {o} s image e z h = (rw (← e, z, ne_eqb h), rw (← e, z, ne_eqb h))

-- the image is written
pub image_done : {o : Opened} {n : Network} (s image now_image : List ℕ) → o ≡ open_of s → o.number ≡ 0 → length image ≡ 5120
    → n ≡ image_net o.network → now_image ≡ bytes_of n → (checked 0 0 0 ≡ image_answer_of s image) × (now_image ≡ imaged_of s image)
unfolding image_answer_of imaged_of
image_done {o} s image now_image e z l i w = (rw (← e, z, l), rw (← e, z, l, ← i) w)
