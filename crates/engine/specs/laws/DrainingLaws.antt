-- Laws of the drain as an entry point: what it begins with, and each way that it ends. Assumes nothing.
use Rattle.std.specs.Prelude.{◌≡◌, List, ℕ, ◌<◌, length, get_or}
use Rattle.std.proofs.Common.{◌∙◌}
use Rattle.sets.proofs.laws.Bools.{ne_eqb}
use Rattle.endian.specs.laws.Le.{Bytes}
use Rattle.network.specs.Network.{Rows}
use Rattle.network.specs.Sound.{Sound}
use Rattle.network.specs.State.{bytes_of}
use Rattle.drain.specs.declared.Drains.{Drains}
use Rattle.floodnet.specs.Lent.{with_messages}
use Rattle.drain.specs.Lent.{DrainsTo}
use Rattle.drain.specs.laws.LentLaws.{drains_sound}
use Rattle.engine.specs.declared.Drained.{Drained}
use Rattle.engine.specs.Start.{Beginning, begin_of}
use Rattle.engine.specs.laws.StartFacts.{begin_rows, begin_long, begin_sound, begin_3_never}
use Rattle.engine.specs.Draining.{drained, refused_drain, drain_end_of}

-- ---- what it begins with

module _ (s t : List ℕ) where
  -- the rows of the table are in range
  pub begun_rows : Rows (begin_of s t 0).table
  begun_rows = begin_rows s t 0

  -- the network is sound
  pub begun_sound : Bytes s → Sound (begin_of s t 0).network
  begun_sound h = begin_sound s t 0 h

  -- "Refusals 1, 2, 4", 20 to 26: without events nothing is refused by 3
  pub begun_never_3 : (begin_of s t 0).number ≡ 3 → ⊥
  begun_never_3 = begin_3_never s t 0

  -- the same of what the code has read, as it asks for it
  module _ {g : Beginning} (e : g ≡ begin_of s t 0) where
    pub begun_topics : (i : ℕ) → get_or g.table.topics i 0 < 32
    begun_topics = rw e begun_rows.topics_fit

    pub begun_long : g.number ≡ 0 → length s ≡ 5120
    begun_long = rw e (begin_long s t 0)

-- ---- how it ends

-- what the function answers and leaves
abbrev pub Ended : (s t : List ℕ) → ℕ → Drained → List ℕ → Type 0
Ended s t budget r now_s = (r ≡ (drain_end_of s t budget).answer) × (now_s ≡ (drain_end_of s t budget).state)

-- it is refused
pub drain_refused : {g : Beginning} {r : Drained} (s t : List ℕ) (budget : ℕ) → g ≡ begin_of s t 0 → (g.number ≡ 0 → ⊥) → r ≡ refused_drain g.number g.place g.detail → Ended s t budget r s
unfolding drain_end_of
drain_refused {g} s t budget e h k = (rw (← e, ne_eqb h) k, rw (← e, ne_eqb h))

-- it is drained
pub drain_done : {g : Beginning} {e f : List ℕ} {r : Drains} (s t now_s : List ℕ) (budget : ℕ) → Bytes s → g ≡ begin_of s t 0 → g.number ≡ 0
    → DrainsTo g.network.known g.table.topics g.network.pending g.network.seen budget e f r
    → now_s ≡ bytes_of (with_messages g.network e f g.network.known)
    → {x : Drained} → x ≡ drained r.forwards r.rounds r.quiet → Ended s t budget x now_s
unfolding drain_end_of
drain_done {g} s t now_s budget h k z d w y =
    let a = drains_sound budget d g.network g.table.origins (rw k (begun_sound s t h)) (rw k (begun_rows s t)) in
    (y ∙ rw (← k, z, a.forwards, a.rounds, a.quiet), rw (← k, z, ← a.end) w)
