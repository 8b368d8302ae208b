-- Over a run from a sound network: every network on the way is sound, and the pairs pending balance. Assumes nothing.
--   "Soundness holds after every accepted event."
--   "Pending pairs at the end = pending pairs at the start + produced + deliveries - forwards."
use Rattle.std.specs.Prelude.{◌≡◌, refl, ◌⊎◌, Some, None, Ok, Err, List, ℕ, zero, suc, ◌+◌}
use Rattle.std.proofs.Common.{inl, inr, arith}
use Rattle.sets.specs.Set.{digit, size}
use Rattle.sets.proofs.laws.Sizes.{size_none}
use Rattle.endian.specs.laws.Le.{Bytes}
use Rattle.network.specs.declared.Network.{Network}
use Rattle.network.specs.declared.Table.{Table}
use Rattle.network.specs.Network.{Rows}
use Rattle.network.specs.Sound.{Sound}
use Rattle.events.specs.declared.Event.{Event}
use Rattle.events.specs.declared.Event.TheVariants.{Skip, Produce, Forward, Subscribe, Unsubscribe, Leave, Join}
use Rattle.events.specs.declared.kind.Kind.{Kind}
use Rattle.events.specs.Kind.{kind_of, code_of, alike}
use Rattle.floodnet.specs.Step.{refusal, effect, if_accepted, after, receivers_of, turned, turned_of, Numbered}
use Rattle.floodnet.specs.laws.StepLaws.{after_sound, effect_pairs}
use Rattle.floodnet.specs.View.{pairs}
use Rattle.engine.specs.declared.Tally.{Tally}
use Rattle.engine.specs.Run.{turn_of, Final, run_from, ReadFits}
use Rattle.engine.specs.RunLaws.{outcome_at, tally_after}
use Rattle.engine.specs.laws.RunLaws.{run_ind}
use Rattle.engine.specs.laws.RunCounts.{tallied_produced, tallied_forwards, tallied_deliveries}
use Rattle.events.specs.Event.{Read, read_at}
use Rattle.events.specs.laws.RoundTrip.{read_fits}

pub reads_fit : (ev : List ℕ) → Bytes ev → (place : ℕ) → ReadFits (read_at ev place)
unfolding ReadFits
reads_fit ev h place = first (read_at ev place) refl
  where
    first : (r : Read) → read_at ev place ≡ r → ReadFits r
    first (Some (Ok e)) z = read_fits ev place e h z
    first (Some (Err refusal)) z = tt
    first None z = tt

-- ---- one event

pub turn_sound : {b : Table} {n : Network} → Sound n → Rows b → (r : Read) → ReadFits r → Sound (turn_of b n r).network
unfolding turn_of ReadFits
turn_sound s rows (Some (Ok e)) f = after_sound s rows e f
turn_sound s rows (Some (Err refusal)) f = s
turn_sound s rows None f = s

-- pairs after an accepted event, by what the tally counts of it
turn_pairs : {b : Table} {n : Network} → Sound n → Rows b → (r : Read) → ReadFits r → (turn_of b n r).turned.number ≡ 0
    → pairs (turn_of b n r).network + digit (alike (turn_of b n r).turned.kind Kind.Forward)
    ≡ pairs n + (digit (alike (turn_of b n r).turned.kind Kind.Produce) + size (turn_of b n r).turned.receivers)
unfolding turn_of ReadFits turned_of turned after if_accepted code_of alike
turn_pairs {b} {n} s rows (Some (Ok e)) f h = first (refusal n b e) refl h
  where
    answer : ℕ → Numbered
    answer k = turned k (kind_of e) (receivers_of n b e)

    first : (k : ℕ) → refusal n b e ≡ k → (answer k).number ≡ 0
        → pairs (if_accepted k (effect n b e) n) + digit (alike (answer k).kind Kind.Forward) ≡ pairs n + (digit (alike (answer k).kind Kind.Produce) + size (answer k).receivers)
    first zero z i = effect_pairs s rows e f z
    first (suc k) z i = absurd (omega arith)
turn_pairs s rows (Some (Err refusal)) f h = rw size_none
turn_pairs s rows None f h = rw size_none

-- an event that is no forward delivers nothing
event_delivers : (n : Network) (b : Table) (e : Event) → (kind_of e ≡ Kind.Forward) ⊎ (size (receivers_of n b e) ≡ 0)
unfolding kind_of receivers_of
event_delivers n b Skip = inr size_none
event_delivers n b (Produce p m) = inr size_none
event_delivers n b (Forward p m) = inl refl
event_delivers n b (Subscribe p topics) = inr size_none
event_delivers n b (Unsubscribe p topics) = inr size_none
event_delivers n b (Leave p) = inr size_none
event_delivers n b (Join p j) = inr size_none

pub turn_delivers : (b : Table) (n : Network) (r : Read) → ((turn_of b n r).turned.kind ≡ Kind.Forward) ⊎ (size (turn_of b n r).turned.receivers ≡ 0)
unfolding turn_of turned_of turned
turn_delivers b n (Some (Ok e)) = first (refusal n b e)
  where
    first : (k : ℕ) → ((turned k (kind_of e) (receivers_of n b e)).kind ≡ Kind.Forward) ⊎ (size (turned k (kind_of e) (receivers_of n b e)).receivers ≡ 0)
    first zero = event_delivers n b e
    first (suc k) = inr size_none
turn_delivers b n (Some (Err refusal)) = inr size_none
turn_delivers b n None = inr size_none

-- ---- a run

pub record Keeps (k place : ℕ) (n : Network) (t : Tally) (f : Final) : Type 0 where
  pub sound : Sound n → Sound f.network
  pub balance : Sound n
      → pairs f.network + f.tally.forwards + (t.produced + t.deliveries)
      ≡ pairs n + t.forwards + (f.tally.produced + f.tally.deliveries)

module _ (ev : List ℕ) (h : Bytes ev) (b : Table) (rows : Rows b) where
  on : (k place : ℕ) (n : Network) (t : Tally) (f : Final) → (outcome_at ev place b n).turned.number ≡ 0
      → Keeps k (place + 1) (outcome_at ev place b n).network (tally_after (outcome_at ev place b n) t) f → Keeps (suc k) place n t f
  on k place n t f e ih =
      record {
        sound = λ s. ih.sound (next s);
        balance = λ s.
            omega (
              arith,
              ih.balance (next s),
              turn_pairs s rows (read_at ev place) (reads_fit ev h place) e,
              tallied_produced t kind d,
              tallied_forwards t kind d,
              tallied_deliveries t kind d (turn_delivers b n (read_at ev place)),
            );
      }
    where
      kind : Kind
      kind = (outcome_at ev place b n).turned.kind

      d : ℕ
      d = size (outcome_at ev place b n).turned.receivers

      next : Sound n → Sound (outcome_at ev place b n).network
      next s = turn_sound s rows (read_at ev place) (reads_fit ev h place)

  pub run_keeps : (k place : ℕ) (n : Network) (t : Tally) → Keeps k place n t (run_from k ev place b n t)
  run_keeps =
      run_ind ev b Keeps
      (λ place n t. record { sound = λ s. s; balance = λ s. omega arith })
      (λ k place n t z. record { sound = λ s. s; balance = λ s. omega arith })
      on
