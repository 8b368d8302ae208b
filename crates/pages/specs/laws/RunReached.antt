-- Laws of specs/RunReached.antt. Assumes nothing.
use Rattle.std.specs.Prelude.{◌≡◌, refl, List, ℕ, zero, suc, ◌+◌, ◌/◌, ◌<◌, length}
use Rattle.std.proofs.Common.{sym, ap, ◌∙◌, ⊎_elim, arith, add-one}
use Rattle.sets.proofs.laws.Bools.{below_suc}
use Rattle.sets.specs.Set.{size}
use Rattle.sets.specs.Sums.{sum}
use Rattle.sets.proofs.laws.Sums.{sum_start, sum_more}
use Rattle.network.specs.declared.Network.{Network}
use Rattle.network.specs.declared.Table.{Table}
use Rattle.engine.specs.declared.Tally.{Tally}
use Rattle.engine.specs.Run.{zero_tally, Final, run_from, run_all}
use Rattle.engine.specs.RunLaws.{outcome_at, tally_after}
use Rattle.engine.specs.laws.RunLaws.{run_ind}
use Rattle.engine.specs.laws.RunCounts.{tallied_deliveries}
use Rattle.engine.specs.laws.RunSound.{turn_delivers, reads_fit, turn_sound}
use Rattle.endian.specs.laws.Le.{Bytes}
use Rattle.network.specs.Network.{Rows}
use Rattle.network.specs.Sound.{Sound}
use Rattle.pages.specs.RunReached.{reached, turn_at}
use Rattle.events.specs.Event.{read_at}

-- What a run's end says of the records: each before the accepted count was accepted, the network is the one reached there, the
-- deliveries are their receivers, and where it was refused the number is that of the record at its place.
pub record Along (ev : List ℕ) (b : Table) (n : Network) (f : Final) : Type 0 where
  pub each : (i : ℕ) → i < f.answer.accepted → (turn_at ev b n i).number ≡ 0
  pub network : f.network ≡ reached ev b n f.answer.accepted
  pub deliveries : f.tally.deliveries ≡ sum f.answer.accepted (λ i. size (turn_at ev b n i).receivers)
  pub why : (f.answer.number ≡ 0 → ⊥) → f.answer.number ≡ (turn_at ev b n f.answer.place).number

module _ (ev : List ℕ) (b : Table) (n : Network) where
  -- the same of a run that has come as far as `place`, with the network m and the tally t
  record So (place : ℕ) (m : Network) (t : Tally) : Type 0 where
    each : (i : ℕ) → i < place → (turn_at ev b n i).number ≡ 0
    network : m ≡ reached ev b n place
    deliveries : t.deliveries ≡ sum place (λ i. size (turn_at ev b n i).receivers)

  one_more : (place : ℕ) → reached ev b n (place + 1) ≡ (outcome_at ev place b (reached ev b n place)).network
  unfolding reached
  one_more place = rw (add-one place)

  so_on : (place : ℕ) (m : Network) (t : Tally) → (outcome_at ev place b m).turned.number ≡ 0 → So place m t
      → So (place + 1) (outcome_at ev place b m).network (tally_after (outcome_at ev place b m) t)
  so_on place m t e s =
      record {
        each = λ i l. ⊎_elim (s.each i) (λ z. rw z (rw s.network at e)) (below_suc i place (rw (← (add-one place)) l));
        network = ap (λ (x : Network). (outcome_at ev place b x).network) s.network ∙ sym (one_more place);
        deliveries = tallied_deliveries t _ _ (turn_delivers b m (read_at ev place)) ∙ rw s.network (omega (arith, s.deliveries, sum_more place (λ i. size (turn_at ev b n i).receivers)));
      }

  along : (k place : ℕ) (m : Network) (t : Tally) → So place m t → Along ev b n (run_from k ev place b m t)
  along =
      run_ind ev b (λ k place m t f. So place m t → Along ev b n f)
      (λ place m t s. record { each = s.each; network = s.network; deliveries = s.deliveries; why = λ z. absurd (z refl) })
      (λ k place m t e s. record { each = s.each; network = s.network; deliveries = s.deliveries; why = λ z. ap (λ (x : Network). (outcome_at ev place b x).turned.number) s.network })
      (λ k place m t f e ih s. ih (so_on place m t e s))

  -- A RUN, PLACE BY PLACE.
  pub run_along : Along ev b n (run_all ev b n)
  unfolding run_all reached
  run_along =
      along (length ev / 16) 0 n zero_tally
      (record { each = λ i l. absurd (omega arith); network = refl; deliveries = sum_start (λ i. size (turn_at ev b n i).receivers) })

-- every network on the way is sound
pub reached_sound : (ev : List ℕ) → Bytes ev → {b : Table} → Rows b → {n : Network} → Sound n → (i : ℕ) → Sound (reached ev b n i)
unfolding reached
reached_sound ev h rows s zero = s
reached_sound ev h rows s (suc i) = turn_sound (reached_sound ev h rows s i) rows (read_at ev i) (reads_fit ev h i)
