-- Laws of specs/FromBlank.antt. Assumes nothing.
use Rattle.std.specs.Prelude.{◌≡◌, refl, List, ℕ, ◌/◌, ◌%◌, length}
use Rattle.sets.specs.Least.{lowest_of}
use Rattle.lists.specs.Tab.{tab}
use Rattle.endian.specs.laws.Le.{Bytes}
use Rattle.network.specs.declared.Network.{Network}
use Rattle.network.specs.Sound.{Sound}
use Rattle.network.specs.State.{bytes_of, blank_net}
use Rattle.network.specs.Rows.{list_of, listed, blank_table, table_of, bad_row, row_right}
use Rattle.network.specs.laws.Listing.{blank_rows_lem}
use Rattle.network.specs.laws.OpenedSound.{blank_sound}
use Rattle.network.specs.laws.Trips.{bytes_long, write_read, blank_opens}
use Rattle.drain.specs.Drain.{drain_of, quiet_of}
use Rattle.broadcastnet.specs.Commit.{image_net}
use Rattle.engine.specs.declared.Tally.{Tally}
use Rattle.engine.specs.Start.{begin_of}
use Rattle.engine.specs.Run.{zero_tally, run_all, written, run_of}
use Rattle.engine.specs.laws.RunSound.{run_keeps}
use Rattle.engine.specs.Draining.{drained, drain_end_of}
use Rattle.engine.specs.Imaging.{imaged_of}
use Rattle.pages.specs.FromBlank.{blank_state, blank_rows}

zero_rows : list_of blank_rows ≡ listed 0 0 blank_table
unfolding list_of bad_row row_right lowest_of table_of tab blank_table
zero_rows = refl

-- a run from zero bytes
pub run_from_blank : (ev : List ℕ) (old : Tally) → length ev % 16 ≡ 0 → run_of blank_state blank_rows ev old ≡ written (run_all ev blank_table blank_net)
unfolding run_of begin_of
run_from_blank ev old h = rw (h, zero_rows, blank_opens)

-- the network that it ends in is sound
pub sound_from_blank : (ev : List ℕ) → Bytes ev → Sound (run_all ev blank_table blank_net).network
unfolding run_all
sound_from_blank ev h = (run_keeps ev h blank_table blank_rows_lem (length ev / 16) 0 blank_net zero_tally).sound blank_sound

-- from the bytes of a sound network: a drain with zero rows, and the image
pub drain_with_blank : {n : Network} → Sound n → (budget : ℕ)
    → (drain_end_of (bytes_of n) blank_rows budget).answer
    ≡ drained (drain_of blank_table budget n).forwards (drain_of blank_table budget n).rounds (quiet_of (drain_of blank_table budget n).end)
unfolding drain_end_of begin_of
drain_with_blank {n} s budget = rw (bytes_long n, zero_rows, write_read s)

pub image_of_sound : {n : Network} → Sound n → (image : List ℕ) → length image ≡ 5120 → imaged_of (bytes_of n) image ≡ bytes_of (image_net n)
unfolding imaged_of
image_of_sound {n} s image h = rw (write_read s, h)
