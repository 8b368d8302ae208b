-- The image of a state as an entry point (document 01, "Commitment map"): "It is written to a second lent buffer as 32 peer records
-- whose neighbours, pending and known subscribers are zero." Assumes nothing.
use Rattle.std.specs.Prelude.{cond, List, ℕ, eqb, length}
use Rattle.network.specs.declared.Checked.{Checked}
use Rattle.network.specs.Rules.{checked}
use Rattle.network.specs.State.{open_of, bytes_of}
use Rattle.broadcastnet.specs.Commit.{image_net}
use Rattle.engine.specs.Alone.{check_of}

-- the answer: "Refusals 1," 20 to 26, "18 in that order"; "18 | image buffer isn't 5,120 bytes | 0"
unfoldable pub image_answer_of : List ℕ → List ℕ → Checked
image_answer_of s image = cond (eqb (open_of s).number 0) (cond (eqb (length image) 5120) (checked 0 0 0) (checked 18 0 0)) (check_of s)

-- the second buffer afterwards: the refusals "leave both buffers untouched"
unfoldable pub imaged_of : List ℕ → List ℕ → List ℕ
imaged_of s image = cond (eqb (open_of s).number 0) (cond (eqb (length image) 5120) (bytes_of (image_net (open_of s).network)) image) image
