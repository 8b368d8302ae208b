-- The single forward is the run of one event: where it is accepted, the state, the receivers and their number are those of a run over the
-- event's one record. Assumes nothing.
use Rattle.std.specs.Prelude.{◌≡◌, refl, Bool, true, false, cond, ◌&&◌, List, ℕ, ◌+◌, ◌<◌, eqb, ltb}
use Rattle.std.proofs.Common.{sym, ap, ◌∙◌, arith, eq-eqb, eqb-true, ltb-true}
use Rattle.sets.specs.Set.{size}
use Rattle.sets.proofs.laws.Bools.{clash, and_yes}
use Rattle.network.specs.declared.Network.{Network}
use Rattle.network.specs.declared.Table.{Table}
use Rattle.network.specs.Network.{peer, message}
use Rattle.network.specs.State.{bytes_of}
use Rattle.events.specs.declared.Event.{Event}
use Rattle.events.specs.Writing.{record_of}
use Rattle.events.specs.Fits.{EventFits}
use Rattle.events.specs.laws.RoundTrip.{record_length, read_record}
use Rattle.floodnet.specs.Refusals.{refusal_forward}
use Rattle.floodnet.specs.Forward.{forwarded, receivers}
use Rattle.events.specs.Kind.{kind_of}
use Rattle.floodnet.specs.Step.{refusal, effect, if_accepted, after, receivers_of, turned, turned_of}
use Rattle.engine.specs.declared.Tally.{Tally}
use Rattle.engine.specs.Start.{Beginning, begin_of}
use Rattle.engine.specs.Run.{zero_tally, tallied_of, turn_of, Final, all_done, run_from, run_all, written, Ending, run_of}
use Rattle.engine.specs.Alone.{forwarded_by, Forwards, no_forward, forward_on, forward_of}
use Rattle.engine.specs.declared.Forwarded.{Forwarded}
use Rattle.engine.specs.laws.ForwardAlone.{forward_event, forward_fits, forward_receivers}
use Rattle.pages.specs.RunReached.{reached, turn_at}
use Rattle.events.specs.Event.{Read}

-- an accepted event, alone in its list
pub run_one : (b : Table) (n : Network) (e : Event) → EventFits e → refusal n b e ≡ 0
    → run_all (record_of e) b n ≡ all_done 1 (tallied_of zero_tally (kind_of e) (size (receivers_of n b e))) (effect n b e)
unfolding run_all run_from turn_of turned_of turned after if_accepted
run_one b n e f z = rw (record_length e, read_record e f, z)

-- what an accepted forward passed, and what it gives
pub record Passed (s t : List ℕ) (p m : ℕ) : Type 0 where
  pub begun : (begin_of s t 0).number ≡ 0
  pub small_peer : p < 32
  pub small_message : m < 64
  pub right : refusal_forward (begin_of s t 0).network (peer p) (message m) ≡ 0
  pub answer : (forward_of s t p m).answer ≡ forwarded_by 0 0 0 (receivers (begin_of s t 0).network (begin_of s t 0).table (peer p) (message m))
  pub state : (forward_of s t p m).state ≡ bytes_of (forwarded (begin_of s t 0).network (begin_of s t 0).table (peer p) (message m))

pub forward_passed : (s t : List ℕ) (p m : ℕ) → (forward_of s t p m).answer.number ≡ 0 → Passed s t p m
unfolding forward_of forward_on
forward_passed s t p m = go (eqb g.number 0) (ltb p 32 && ltb m 64) (eqb k 0) refl refl refl
  where
    g : Beginning
    g = begin_of s t 0

    k : ℕ
    k = refusal_forward g.network (peer p) (message m)

    done : Forwards
    done = record {
      answer = forwarded_by 0 0 0 (receivers g.network g.table (peer p) (message m));
      state = bytes_of (forwarded g.network g.table (peer p) (message m));
    }

    go : (x y z : Bool) → eqb g.number 0 ≡ x → (ltb p 32 && ltb m 64) ≡ y → eqb k 0 ≡ z
        → (cond x (cond y (cond z done (no_forward k 0 0 s)) (no_forward 7 0 0 s)) (no_forward g.number g.place g.detail s)).answer.number ≡ 0 → Passed s t p m
    go true true true ex ey ez h =
        let r = and_yes (ltb p 32) (ltb m 64) ey in
        record {
          begun = eqb-true _ _ ex;
          small_peer = ltb-true _ _ r.0;
          small_message = ltb-true _ _ r.1;
          right = eqb-true _ _ ez;
          answer = rw (ex, ey, ez);
          state = rw (ex, ey, ez);
        }
    go true true false ex ey ez h = clash (eq-eqb _ _ h) ez
    go true false z ex ey ez h = absurd (omega arith)
    go false y z ex ey ez h = clash (eq-eqb _ _ h) ex

-- a tally starts from zero
from_zero : (d : ℕ) → d ≡ 0 + d
from_zero d = omega arith

-- a list of one record is tested as no list is
one_begins : (s t : List ℕ) → begin_of s t 16 ≡ begin_of s t 0
unfolding begin_of
one_begins s t = refl

-- past the refusals, a list of one record is run
one_runs : (s t : List ℕ) (e : Event) (old : Tally) → (begin_of s t 0).number ≡ 0
    → run_of s t (record_of e) old ≡ written (run_all (record_of e) (begin_of s t 0).table (begin_of s t 0).network)
unfolding run_of
one_runs s t e old z = rw (record_length e, one_begins s t, z)

-- its one event has the receivers of the forward
one_receives : (b : Table) (n : Network) (p m : ℕ) → EventFits (forward_event p m) → refusal_forward n (peer p) (message m) ≡ 0
    → (turn_at (record_of (forward_event p m)) b n 0).receivers ≡ receivers n b (peer p) (message m)
unfolding reached turn_of
one_receives b n p m f z = ap (λ (r : Read). (turn_of b n r).turned.receivers) (read_record (forward_event p m) f) ∙ forward_receivers n b p m z

-- THE SINGLE FORWARD IS THE RUN OF ITS ONE EVENT: the same state, its receivers are those of the event, and their number is the tally's.
pub forward_is_run : (s t : List ℕ) (p m : ℕ) (old : Tally) → (forward_of s t p m).answer.number ≡ 0
    → ((forward_of s t p m).state ≡ (run_of s t (record_of (forward_event p m)) old).state)
    × ((forward_of s t p m).answer.receivers ≡ (turn_at (record_of (forward_event p m)) (begin_of s t 0).table (begin_of s t 0).network 0).receivers)
    × ((forward_of s t p m).answer.deliveries ≡ (run_of s t (record_of (forward_event p m)) old).tally.deliveries)
unfolding refusal effect kind_of receivers_of tallied_of
forward_is_run s t p m old h =
    let a = forward_passed s t p m h in
    let fits : EventFits (forward_event p m) = forward_fits p m (omega (arith, a.small_peer)) (omega (arith, a.small_message)) in
    let one = run_one (begin_of s t 0).table (begin_of s t 0).network (forward_event p m) fits a.right in
    let w : run_of s t (record_of (forward_event p m)) old ≡ written (run_all (record_of (forward_event p m)) (begin_of s t 0).table (begin_of s t 0).network) = one_runs s t (forward_event p m) old a.begun in (
      a.state ∙ sym (ap (λ (x : Ending). x.state) w ∙ ap (λ (x : Final). bytes_of x.network) one),
      ap (λ (x : Forwarded). x.receivers) a.answer ∙ sym (one_receives (begin_of s t 0).table (begin_of s t 0).network p m fits a.right),
      ap (λ (x : Forwarded). x.deliveries) a.answer ∙ from_zero _ ∙ sym (ap (λ (x : Ending). x.tally.deliveries) w ∙ ap (λ (x : Final). x.tally.deliveries) one),
    )
