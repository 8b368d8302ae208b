-- DEMAND 3 FOR THE DRAIN AS AN ENTRY POINT: the client's page (the crate drain's specs/Reach.antt, which opens with a legend) holds of what it
-- drains, and its answer and its bytes are what the page says of a drain. Assumes nothing.
use Rattle.std.specs.Prelude.{◌≡◌, ◌↔◌, true, List, ℕ, ◌≤◌}
use Rattle.endian.specs.laws.Le.{Bytes}
use Rattle.network.specs.declared.Network.{Network}
use Rattle.network.specs.declared.Table.{Table}
use Rattle.network.specs.State.{bytes_of, opened, open_of}
use Rattle.network.specs.Sound.{Sound}
use Rattle.network.specs.laws.Trips.{write_read}
use Rattle.drain.specs.Drain.{drain_of, quiet_of}
use Rattle.drain.specs.Reach.{Quiet, Reach}
use Rattle.drain.specs.laws.ReachLaws.{reach}
use Rattle.engine.specs.Start.{begin_of}
use Rattle.engine.specs.Draining.{drained, drain_end_of}
use Rattle.engine.specs.laws.DrainingLaws.{begun_rows, begun_sound}

-- what the entry point makes of an accepted state and table, over the table b and the network n that they say
pub record DrainPage (s t : List ℕ) (b : Table) (n : Network) : Type 0 where
  -- demand 3, sentence by sentence, of n
  pub page : Reach b n
  -- its answer and its state are those of the drain that the page speaks of
  pub answers : (budget : ℕ) → (drain_end_of s t budget).answer ≡ drained (drain_of b budget n).forwards (drain_of b budget n).rounds (quiet_of (drain_of b budget n).end)
  pub leaves : (budget : ℕ) → (drain_end_of s t budget).state ≡ bytes_of (drain_of b budget n).end
  -- the state that it leaves is sound, and read as the drain's end
  pub sound : (budget : ℕ) → Sound (drain_of b budget n).end
  pub reads : (budget : ℕ) → open_of (drain_end_of s t budget).state ≡ opened 0 0 0 (drain_of b budget n).end
  -- "whether nothing is pending"
  pub quiet_means : (budget : ℕ) → ((drain_end_of s t budget).answer.quiet ≡ true) ↔ Quiet (drain_of b budget n).end
  -- "At most 2,048 forwards [..] are ever needed": with such a budget it answers that nothing is pending
  pub quiet : (budget : ℕ) → 2048 ≤ budget → (drain_end_of s t budget).answer.quiet ≡ true

module _ (s t : List ℕ) (h : Bytes s) where
  -- the page holds of whatever was read
  pub begun_reach : Reach (begin_of s t 0).table (begin_of s t 0).network
  begun_reach = reach (begun_sound s t h) (begun_rows s t)

  -- THE THEOREM: every state and table that it accepts are drained as demand 3 says
  pub drain_page : (begin_of s t 0).number ≡ 0 → DrainPage s t (begin_of s t 0).table (begin_of s t 0).network
  unfolding drain_end_of
  drain_page z =
      record {
        page = begun_reach;
        answers = λ budget. rw z;
        leaves = λ budget. rw z;
        sound = begun_reach.drain_sound;
        reads = λ budget. rw z (write_read (begun_reach.drain_sound budget));
        quiet_means = λ budget. rw z (begun_reach.quiet_means budget);
        quiet = λ budget l. rw z ((begun_reach.quiet_means budget).1 (begun_reach.drain_quiet budget l));
      }
