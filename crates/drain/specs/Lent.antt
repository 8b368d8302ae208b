-- The words of `drain_all`'s contract: from the pending and seen messages of a network to those at a drain's end, by its known subscribers and
-- the table's topics, whatever else a network and a table have. Assumes nothing.
use Rattle.std.specs.Prelude.{◌≡◌, List, ℕ}
use Rattle.flooding.specs.Machine.{Pair, Drained, run}
use Rattle.network.specs.declared.Network.{Network}
use Rattle.floodnet.specs.View.{fwd}
use Rattle.floodnet.specs.Lent.{with_messages}
use Rattle.network.specs.Network.{table}
use Rattle.drain.specs.declared.Drains.{Drains}
use Rattle.drain.specs.Drain.{drain_within, quiet_of}

-- a list of forwards leads from pending and seen messages e, f to e', f', by the known subscribers g and the topics ts, in every
-- network and table that have them
abbrev pub Leads : (g ts e f : List ℕ) → List Pair → (e' f' : List ℕ) → Type 0
Leads g ts e f l e' f' = (n : Network) (os : List ℕ) → with_messages n e' f' g ≡ run (fwd (table ts os)) (with_messages n e f g) l

-- r, and the network at the end, are what a drain d answers
pub record Answers (d : Drained Network) (last : Network) (r : Drains) : Type 0 where
  pub end : last ≡ d.end
  pub forwards : r.forwards ≡ d.forwards
  pub rounds : r.rounds ≡ d.rounds
  pub quiet : r.quiet ≡ quiet_of d.end

-- so it is of the drain of every network that has these arrays, sound or not, with every table that has the topics; of a sound one it is
-- `drain_of` (`drains_sound`, specs/laws/LentLaws.antt), and no other answer and arrays will do (`drains_settle`, there)
abbrev pub DrainsTo : (g ts e f : List ℕ) → ℕ → (e' f' : List ℕ) → Drains → Type 0
DrainsTo g ts e f budget e' f' r =
    (n : Network) (os : List ℕ) → Answers (drain_within (table ts os) budget (with_messages n e f g)) (with_messages n e' f' g) r
