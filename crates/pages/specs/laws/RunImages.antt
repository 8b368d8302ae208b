-- Demand 2 over a run: "Seen through the commitment map, it is one Broadcastnet step or no change". The events that a run takes are a list
-- of accepted events in the sense of broadcastnet's page, and the network it ends in is theirs; so the images of the states along a run are
-- a computation of Broadcastnet. Assumes nothing.
use Rattle.std.specs.Prelude.{◌≡◌, Bool, true, false, cond, eqb, length, Some, Ok, None, Err, List, [], ◌∷◌, ℕ, zero, suc, ◌+◌, ◌/◌}
use Rattle.std.proofs.Common.{arith, eqb-true}
use Rattle.std.proofs.Math.Path.{refl, subst}
use Rattle.endian.specs.laws.Le.{Bytes}
use Rattle.network.specs.declared.Network.{Network}
use Rattle.network.specs.declared.Table.{Table}
use Rattle.network.specs.Network.{Rows}
use Rattle.network.specs.Sound.{Sound}
use Rattle.events.specs.declared.Event.{Event}
use Rattle.events.specs.Kind.{kind_of}
use Rattle.floodnet.specs.Step.{refusal, effect, if_accepted, after, receivers_of, turned, turned_of}
use Rattle.broadcastnet.specs.Commit.{image}
use Rattle.broadcastnet.specs.Page.{Accepted, effects, images, Path}
use Rattle.broadcastnet.proofs.laws.Refines.{images_follow}
use Rattle.engine.specs.declared.Tally.{Tally}
use Rattle.engine.specs.Run.{zero_tally, turn_of, Final, stops_at, run_from, run_all, ReadFits}
use Rattle.engine.specs.RunLaws.{outcome_at, tally_after}
use Rattle.engine.specs.laws.RunSound.{reads_fit}
use Rattle.events.specs.Event.{Read, read_at}

-- an event that was read, before the later ones
unfoldable pub before : Read → List Event → List Event
before (Some (Ok e)) l = e ∷ l
before (Some (Err refusal)) l = l
before None l = l

-- the events that a run of k records from `place` takes: those before the first refusal
unfoldable pub taken_from : ℕ → List ℕ → ℕ → Table → Network → List Event
taken_from zero ev place b n = []
taken_from (suc k) ev place b n =
    cond (eqb (outcome_at ev place b n).turned.number 0) (before (read_at ev place) (taken_from k ev (place + 1) b (outcome_at ev place b n).network)) []

-- an accepted event is accepted in the page's sense, and leads to the same network
one_more : (b : Table) (n : Network) (r : Read) → ReadFits r → (turn_of b n r).turned.number ≡ 0 → (l : List Event) (m : Network)
    → Accepted (turn_of b n r).network b l × (effects (turn_of b n r).network b l ≡ m) → Accepted n b (before r l) × (effects n b (before r l) ≡ m)
unfolding before ReadFits turn_of turned_of turned after if_accepted Accepted effects
one_more b n (Some (Ok e)) f h l m x = first (refusal n b e) refl h x
  where
    first : (k : ℕ) → refusal n b e ≡ k → (turned k (kind_of e) (receivers_of n b e)).number ≡ 0
        → Accepted (if_accepted k (effect n b e) n) b l × (effects (if_accepted k (effect n b e) n) b l ≡ m) → Accepted n b (e ∷ l) × (effects n b (e ∷ l) ≡ m)
    first zero z i y = ((f, z, y.0), y.1)
    first (suc k) z i y = absurd (omega arith)
one_more b n (Some (Err refusal)) f h l m x = x
one_more b n None f h l m x = x

module _ (ev : List ℕ) (bytes : Bytes ev) (b : Table) where
  pub run_takes : (k place : ℕ) (n : Network) (t : Tally)
      → Accepted n b (taken_from k ev place b n) × (effects n b (taken_from k ev place b n) ≡ (run_from k ev place b n t).network)
  unfolding taken_from run_from Accepted effects
  run_takes zero place n t = (tt, refl)
  run_takes (suc k) place n t = first (eqb (outcome_at ev place b n).turned.number 0) refl (run_takes k (place + 1) (outcome_at ev place b n).network (tally_after (outcome_at ev place b n) t))
    where
      later : List Event
      later = taken_from k ev (place + 1) b (outcome_at ev place b n).network

      rest : Final
      rest = run_from k ev (place + 1) b (outcome_at ev place b n).network (tally_after (outcome_at ev place b n) t)

      first : (x : Bool) → eqb (outcome_at ev place b n).turned.number 0 ≡ x
          → Accepted (outcome_at ev place b n).network b later × (effects (outcome_at ev place b n).network b later ≡ rest.network)
          → Accepted n b (cond x (before (read_at ev place) later) [])
          × (effects n b (cond x (before (read_at ev place) later) []) ≡ (cond x rest (stops_at (outcome_at ev place b n).turned.number place t n)).network)
      first true e ih = one_more b n (read_at ev place) (reads_fit ev bytes place) (eqb-true _ _ e) later rest.network ih
      first false e ih = (tt, refl)

  -- THE IMAGES ALONG A RUN ARE A COMPUTATION OF BROADCASTNET, from the image of the first network to that of the last.
  pub run_follows : (n : Network) → Sound n → Rows b
      → (let l = taken_from (length ev / 16) ev 0 b n in Path b (image n) (images n b l) (image (run_all ev b n).network))
  unfolding run_all
  run_follows n s rows =
      let x = run_takes (length ev / 16) 0 n zero_tally in
      subst (λ (m : Network). Path b (image n) (images n b (taken_from (length ev / 16) ev 0 b n)) (image m)) x.1 (images_follow rows n s (taken_from (length ev / 16) ev 0 b n) x.0)
