-- What the loop of a run keeps: the rest of the run, from here, ends as the whole run does; and the counts are small. Assumes nothing.
use Rattle.std.specs.Prelude.{◌≡◌, List, ℕ, suc, ◌+◌, ◌-◌, ◌*◌, ◌^◌, ◌≤◌, ◌<◌}
use Rattle.std.proofs.Common.{sym, ap, ◌∙◌, arith}
use Rattle.sets.specs.Set.{size}
use Rattle.network.specs.declared.Network.{Network}
use Rattle.network.specs.declared.Table.{Table}
use Rattle.events.specs.declared.kind.Kind.{Kind}
use Rattle.events.specs.declared.kind.Kind.TheVariants.{Skip, Produce, Forward, Subscribe, Unsubscribe, Leave, Join}
use Rattle.engine.specs.declared.Tally.{Tally}
use Rattle.engine.specs.Run.{Room, tallied_of, Final, stops_at, all_done, run_from}
use Rattle.engine.specs.RunLaws.{outcome_at, tally_after}
use Rattle.engine.specs.laws.RunLaws.{run_on, run_stops}

pub record Going (ev : List ℕ) (b : Table) (count place : ℕ) (n : Network) (t : Tally) (f : Final) : Type 0 where
  pub same : run_from (count - place) ev place b n t ≡ f
  pub within : place ≤ count
  pub produced : t.produced ≤ place
  pub forwards : t.forwards ≤ place
  pub deliveries : t.deliveries ≤ 32 * place

-- a tally grows by one event at most
grows : (t : Tally) (kind : Kind) (d : ℕ) → d ≤ 32
    → ((tallied_of t kind d).produced ≤ t.produced + 1) × ((tallied_of t kind d).forwards ≤ t.forwards + 1) × ((tallied_of t kind d).deliveries ≤ t.deliveries + 32)
unfolding tallied_of
grows t Skip d h = (omega arith, omega arith, omega arith)
grows t Produce d h = (omega arith, omega arith, omega arith)
grows t Forward d h = (omega arith, omega arith, omega arith)
grows t Subscribe d h = (omega arith, omega arith, omega arith)
grows t Unsubscribe d h = (omega arith, omega arith, omega arith)
grows t Leave d h = (omega arith, omega arith, omega arith)
grows t Join d h = (omega arith, omega arith, omega arith)

module _ (ev : List ℕ) (b : Table) (count : ℕ) where
  -- an accepted event
  pub going_on : {place : ℕ} {n : Network} {t : Tally} {f : Final} → Going ev b count place n t f → place < count → (n' : Network) (t' : Tally)
      → (outcome_at ev place b n).turned.number ≡ 0 → size (outcome_at ev place b n).turned.receivers ≤ 32 → n' ≡ (outcome_at ev place b n).network → t' ≡ tally_after (outcome_at ev place b n) t
      → Going ev b count (place + 1) n' t' f
  going_on {place} {n} {t} {f} g h n' t' e few en et =
      let grow = grows t (outcome_at ev place b n).turned.kind (size (outcome_at ev place b n).turned.receivers) few in
      record {
        same =
            ap (λ (x : Network). run_from (count - (place + 1)) ev (place + 1) b x t') en
            ∙ ap (λ (x : Tally). run_from (count - (place + 1)) ev (place + 1) b (outcome_at ev place b n).network x) et
            ∙ sym (run_on (count - (place + 1)) ev place b n t e)
            ∙ ap (λ (k : ℕ). run_from k ev place b n t) (sym (one_more h))
            ∙ g.same;
        within = omega arith;
        produced = omega (arith, grow.0, g.produced, ap (λ (x : Tally). x.produced) et);
        forwards = omega (arith, grow.1, g.forwards, ap (λ (x : Tally). x.forwards) et);
        deliveries = omega (arith, grow.2, g.deliveries, ap (λ (x : Tally). x.deliveries) et);
      }
    where
      one_more : place < count → count - place ≡ suc (count - (place + 1))
      one_more l = omega arith

  -- a refused event
  pub going_stop : {place : ℕ} {n : Network} {t : Tally} {f : Final} → Going ev b count place n t f → place < count
      → ((outcome_at ev place b n).turned.number ≡ 0 → ⊥) → f ≡ stops_at (outcome_at ev place b n).turned.number place t n
  going_stop {place} {n} {t} {f} g h z =
      sym g.same ∙ ap (λ (k : ℕ). run_from k ev place b n t) (one_more h) ∙ run_stops (count - (place + 1)) ev place b n t z
    where
      one_more : place < count → count - place ≡ suc (count - (place + 1))
      one_more l = omega arith

  -- no event is left
  pub going_end : {place : ℕ} {n : Network} {t : Tally} {f : Final} → Going ev b count place n t f → count ≤ place → f ≡ all_done count t n
  unfolding run_from
  going_end {place} {n} {t} {f} g h =
      let e : place ≡ count = omega (arith, g.within) in
      sym g.same ∙ ap (λ (k : ℕ). run_from k ev place b n t) (none e) ∙ ap (λ (k : ℕ). all_done k t n) e
    where
      none : place ≡ count → count - place ≡ 0
      none e = omega arith

  -- there is room for one event more
  pub going_room : {place : ℕ} {n : Network} {t : Tally} {f : Final} → Going ev b count place n t f → place < count → 32 * count < 2 ^ 64 → (d : ℕ) → d ≤ 32 → Room t d
  going_room g h c d few = record { produced = omega (arith, g.produced); forwards = omega (arith, g.forwards); deliveries = omega (arith, g.deliveries) }
