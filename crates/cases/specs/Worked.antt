-- A row worked out: a test over the blank network that computes, and the law that what it finds is what the row says of bytes. Assumes nothing.
use Rattle.std.specs.Prelude.{Bool, true, false, ◌&&◌, not, List, [], ◌∷◌, ℕ, ◌%◌, eqb, ltb, length}
use Rattle.flooding.specs.Machine.{Drained}
use Rattle.network.specs.declared.Network.{Network}
use Rattle.network.specs.Network.{peer, neighbours_of}
use Rattle.network.specs.State.{blank_net}
use Rattle.network.specs.Rows.{blank_table}
use Rattle.events.specs.declared.Fields.{Fields}
use Rattle.broadcastnet.specs.Broadcast.{Broadcastnet}
use Rattle.broadcastnet.specs.Commit.{image}
use Rattle.drain.specs.Drain.{drain_of, quiet_of}
use Rattle.engine.specs.declared.Answer.{Answer}
use Rattle.engine.specs.Run.{Final, run_all}
use Rattle.cases.specs.Rows.{bytes, Row, answers, image_as, neighbours, drains}

-- ---- the test

-- the run over the blank network
unfoldable pub ended : List Fields → Final
ended l = run_all (bytes l) blank_table blank_net

-- whole records of bytes
unfoldable pub small : List ℕ → Bool
small [] = true
small (x ∷ l) = ltb x 256 && small l

unfoldable pub proper : List Fields → Bool
proper l = eqb (length (bytes l) % 16) 0 && small (bytes l)

-- two lists of numbers are equal, and two truths
unfoldable pub same : List ℕ → List ℕ → Bool
same [] [] = true
same [] (y ∷ r) = false
same (x ∷ l) [] = false
same (x ∷ l) (y ∷ r) = eqb x y && same l r

unfoldable pub alike : Bool → Bool → Bool
alike true b = b
alike false b = not b

-- an answer, two images, and a drain's answer, beside what they should be
unfoldable pub answer_is : Answer → ℕ → ℕ → ℕ → Bool
answer_is a number place accepted = eqb a.number number && (eqb a.place place && (eqb a.detail 0 && eqb a.accepted accepted))

unfoldable pub images_are : Broadcastnet → Broadcastnet → Bool
images_are s u = eqb s.present u.present && (same s.pubs u.pubs && (same s.subs u.subs && same s.seen u.seen))

unfoldable pub drained_is : Drained Network → ℕ → ℕ → Bool → Bool
drained_is d forwards rounds quiet = eqb d.forwards forwards && (eqb d.rounds rounds && alike (quiet_of d.end) quiet)

unfoldable pub works : Row → Bool
works (answers l number place accepted) = proper l && answer_is (ended l).answer number place accepted
works (image_as l r) = proper l && (proper r && images_are (image (ended l).network) (image (ended r).network))
works (neighbours l p who) = proper l && eqb (neighbours_of (ended l).network (peer p)) who
works (drains l budget forwards rounds quiet) = proper l && drained_is (drain_of blank_table budget (ended l).network) forwards rounds quiet

unfoldable pub every : List Row → Bool
every [] = true
every (r ∷ l) = works r && every l
