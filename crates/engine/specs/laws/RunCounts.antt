-- Laws of specs/RunCounts.antt. Assumes nothing.
use Rattle.std.specs.Prelude.{◌≡◌, refl, ◌⊎◌, Some, None, Ok, Err, List, ℕ, suc, ◌+◌, ◌-◌, ◌≤◌}
use Rattle.std.proofs.Common.{ap, ◌∙◌, inl, inr, arith}
use Rattle.sets.specs.Set.{digit, size, count}
use Rattle.sets.specs.Sums.{sum}
use Rattle.sets.proofs.laws.Counts.{count_ext, count_first}
use Rattle.network.specs.declared.Network.{Network}
use Rattle.network.specs.declared.Table.{Table}
use Rattle.events.specs.declared.kind.Kind.{Kind}
use Rattle.events.specs.declared.kind.Kind.TheVariants.{Skip, Produce, Forward, Subscribe, Unsubscribe, Leave, Join}
use Rattle.events.specs.Kind.{kind_of, code_of, alike}
use Rattle.floodnet.specs.Step.{refusal, receivers_of, turned_of}
use Rattle.floodnet.specs.laws.StepLaws.{turned_kind}
use Rattle.engine.specs.declared.Tally.{Tally}
use Rattle.engine.specs.Run.{tallied_of, turn_of, Final, run_from}
use Rattle.engine.specs.RunLaws.{outcome_at, tally_after}
use Rattle.engine.specs.laws.RunLaws.{run_ind}
use Rattle.engine.specs.RunCounts.{kind_in, kind_at}
use Rattle.events.specs.Event.{Read, read_at}

-- how many of the events from `place` up to the accepted ones are of this kind
abbrev pub kinds : List ℕ → Kind → ℕ → ℕ → ℕ
kinds ev kind place count_of = count count_of (λ i. alike (kind_at ev (place + i)) kind)

-- the answer says the kind of the event, refused or not
turn_kind : (b : Table) (n : Network) (r : Read) → (turn_of b n r).turned.kind ≡ kind_in r
unfolding turn_of kind_in turned_of
turn_kind b n (Some (Ok e)) = turned_kind (refusal n b e) (kind_of e) (receivers_of n b e)
turn_kind b n (Some (Err refusal)) = refl
turn_kind b n None = refl

-- the counts of a tally after an event of a kind
pub tallied_produced : (t : Tally) (kind : Kind) (d : ℕ) → (tallied_of t kind d).produced ≡ t.produced + digit (alike kind Kind.Produce)
unfolding tallied_of alike code_of
tallied_produced t Skip d = omega arith
tallied_produced t Produce d = refl
tallied_produced t Forward d = omega arith
tallied_produced t Subscribe d = omega arith
tallied_produced t Unsubscribe d = omega arith
tallied_produced t Leave d = omega arith
tallied_produced t Join d = omega arith

pub tallied_forwards : (t : Tally) (kind : Kind) (d : ℕ) → (tallied_of t kind d).forwards ≡ t.forwards + digit (alike kind Kind.Forward)
unfolding tallied_of alike code_of
tallied_forwards t Skip d = omega arith
tallied_forwards t Produce d = omega arith
tallied_forwards t Forward d = refl
tallied_forwards t Subscribe d = omega arith
tallied_forwards t Unsubscribe d = omega arith
tallied_forwards t Leave d = omega arith
tallied_forwards t Join d = omega arith

-- only a forward delivers, so that the tally has all deliveries
pub tallied_deliveries : (t : Tally) (kind : Kind) (d : ℕ) → (kind ≡ Kind.Forward) ⊎ (d ≡ 0) → (tallied_of t kind d).deliveries ≡ t.deliveries + d
unfolding tallied_of
tallied_deliveries t kind d (inl e) = rw e
tallied_deliveries t Forward d (inr e) = refl
tallied_deliveries t Skip d (inr e) = omega arith
tallied_deliveries t Produce d (inr e) = omega arith
tallied_deliveries t Subscribe d (inr e) = omega arith
tallied_deliveries t Unsubscribe d (inr e) = omega arith
tallied_deliveries t Leave d (inr e) = omega arith
tallied_deliveries t Join d (inr e) = omega arith

-- The tally of a run of k events: what it began with, and how many of the accepted events are of each kind.
pub record Counts (ev : List ℕ) (k place : ℕ) (n : Network) (t : Tally) (f : Final) : Type 0 where
  pub began : place ≤ f.answer.accepted
  pub produced : f.tally.produced ≡ t.produced + kinds ev Kind.Produce place (f.answer.accepted - place)
  pub forwards : f.tally.forwards ≡ t.forwards + kinds ev Kind.Forward place (f.answer.accepted - place)

module _ (ev : List ℕ) (b : Table) where
  none : (a : ℕ) (kind : Kind) → kinds ev kind a (a - a) ≡ 0
  unfolding count sum
  none a kind = rw (zero_of a)
    where
      zero_of : (x : ℕ) → x - x ≡ 0
      zero_of x = omega arith

  -- one more at the front
  more : (kind : Kind) (place a : ℕ) → place + 1 ≤ a → kinds ev kind place (a - place) ≡ digit (alike (kind_at ev place) kind) + kinds ev kind (place + 1) (a - (place + 1))
  more kind place a h =
      ap (λ (j : ℕ). kinds ev kind place j) (one_more a h)
      ∙ count_first (a - (place + 1)) (λ i. alike (kind_at ev (place + i)) kind)
      ∙ rw (at_zero place) (ap (λ (c : ℕ). digit (alike (kind_at ev place) kind) + c) (count_ext (a - (place + 1)) _ _ λ i l. ap (λ (j : ℕ). alike (kind_at ev j) kind) (shift i)))
    where
      one_more : (a : ℕ) → place + 1 ≤ a → a - place ≡ suc (a - (place + 1))
      one_more a h = omega arith

      at_zero : (x : ℕ) → x + 0 ≡ x
      at_zero x = omega arith

      shift : (i : ℕ) → place + suc i ≡ place + 1 + i
      shift i = omega arith

  on : (k place : ℕ) (n : Network) (t : Tally) (f : Final) → (outcome_at ev place b n).turned.number ≡ 0
      → Counts ev k (place + 1) (outcome_at ev place b n).network (tally_after (outcome_at ev place b n) t) f → Counts ev (suc k) place n t f
  on k place n t f e ih =
      record {
        began = omega (arith, ih.began);
        produced = total Kind.Produce t.produced f.tally.produced _ (tallied_produced t kind d) ih.produced;
        forwards = total Kind.Forward t.forwards f.tally.forwards _ (tallied_forwards t kind d) ih.forwards;
      }
    where
      kind : Kind
      kind = (outcome_at ev place b n).turned.kind

      d : ℕ
      d = size (outcome_at ev place b n).turned.receivers

      total : (c : Kind) (x y z : ℕ) → z ≡ x + digit (alike kind c) → y ≡ z + kinds ev c (place + 1) (f.answer.accepted - (place + 1))
          → y ≡ x + kinds ev c place (f.answer.accepted - place)
      total c x y z h j =
          let same : digit (alike kind c) ≡ digit (alike (kind_at ev place) c) = ap (λ (w : Kind). digit (alike w c)) (turn_kind b n (read_at ev place)) in
          omega (arith, more c place f.answer.accepted ih.began)

  pub run_counts : (k place : ℕ) (n : Network) (t : Tally) → Counts ev k place n t (run_from k ev place b n t)
  run_counts =
      run_ind ev b (Counts ev)
      (λ place n t. record { began = omega arith; produced = omega (arith, none place Kind.Produce); forwards = omega (arith, none place Kind.Forward) })
      (λ k place n t z. record { began = omega arith; produced = omega (arith, none place Kind.Produce); forwards = omega (arith, none place Kind.Forward) })
      on
