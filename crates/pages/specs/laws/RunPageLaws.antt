-- What `relay_run` promises meets the client's page of a run (specs/RunPage.antt). Assumes nothing.
use Rattle.std.specs.Prelude.{◌≡◌, refl, List, ℕ, ◌+◌, ◌*◌, ◌-◌, ◌/◌, ◌≤◌, eqb, take, Some, Ok, Err}
use Rattle.std.proofs.Common.{sym, ◌∙◌, arith, eqb-true}
use Rattle.std.proofs.Math.Path.{ap}
use Rattle.std.proofs.Math.Logic.{⊎_elim}
use Rattle.std.proofs.Math.ListN.{length}
use Rattle.std.proofs.Math.Seq.{length-take-le}
use Rattle.std.proofs.lemmas.Bool.{eqb-false}
use Rattle.sets.proofs.laws.Bools.{either, ne_eqb}
use Rattle.sets.specs.Set.{count}
use Rattle.sets.proofs.laws.Counts.{count_ext}
use Rattle.endian.specs.laws.Le.{Bytes}
use Rattle.network.specs.declared.Network.{Network}
use Rattle.network.specs.declared.Table.{Table}
use Rattle.network.specs.State.{Opened}
use Rattle.network.specs.Sound.{Sound}
use Rattle.network.specs.State.{open_of, opened, bytes_of}
use Rattle.network.specs.laws.Listing.{listed_rows}
use Rattle.network.specs.laws.OpenedSound.{opened_sound}
use Rattle.network.specs.laws.Trips.{write_read}
use Rattle.events.specs.declared.Event.{Event}
use Rattle.events.specs.declared.kind.Kind.{Kind}
use Rattle.events.specs.laws.ReadingLaws.{refused_by_6_or_7}
use Rattle.events.specs.Kind.{kind_of, alike}
use Rattle.floodnet.specs.laws.StepLaws.{turned_number}
use Rattle.floodnet.specs.Step.{refusal, effect, if_accepted, after, receivers_of, turned, turned_of}
use Rattle.transitions.specs.laws.PageLaws.{floodnet_page}
use Rattle.engine.specs.declared.Tally.{Tally}
use Rattle.engine.specs.declared.Answer.{Answer}
use Rattle.engine.specs.Start.{begin_of}
use Rattle.engine.specs.laws.StartFacts.{begin_rows, begin_sound}
use Rattle.pages.specs.laws.StartPageLaws.{begin_lengths, begin_read, begin_same}
use Rattle.engine.specs.Run.{zero_tally, turn_of, Final, all_done, run_all, written, run_of, Ends}
use Rattle.pages.specs.laws.RunStops.{Stops, run_refused}
use Rattle.engine.specs.RunCounts.{kind_at}
use Rattle.engine.specs.laws.RunCounts.{kinds, Counts, run_counts}
use Rattle.engine.specs.laws.RunSound.{Keeps, run_keeps}
use Rattle.pages.specs.laws.RunBefore.{refused_after}
use Rattle.pages.specs.RunReached.{reached, turn_at}
use Rattle.pages.specs.laws.RunReached.{Along, run_along, reached_sound}
use Rattle.pages.specs.RunPage.{net_in, table_in, RunRefused, RunDone, TurnPage, AlongPage, RunPage}
use Rattle.network.specs.declared.refusal.Refusal.{Refusal}
use Rattle.network.specs.Refusal.{number_of}
use Rattle.events.specs.Event.{Read, read_at, reading_of}

-- the record at a place
done_accepted : (b : Table) (m : Network) (e : Event) → refusal m b e ≡ 0
    → ((turn_of b m (Some (Ok e))).network ≡ effect m b e) × ((turn_of b m (Some (Ok e))).turned.receivers ≡ receivers_of m b e)
unfolding turn_of turned_of turned after if_accepted
done_accepted b m e h = (rw h, rw h)

-- a record that is not an event is refused by its number
pub turn_refused : (ev : List ℕ) (b : Table) (n : Network) (i : ℕ) (refusal : Refusal) → read_at ev i ≡ Some (Err refusal) → (turn_at ev b n i).number ≡ number_of refusal
unfolding turn_of
turn_refused ev b n i refusal z = ap (λ (r : Read). (turn_of b (reached ev b n i) r).turned.number) z

pub page_turn : (ev : List ℕ) (b : Table) (n : Network) (i : ℕ) → TurnPage ev b n i (reached ev b n i)
unfolding reached turn_of turned_of reading_of
page_turn ev b n i =
    let m : Network = reached ev b n i in
    record {
      unknown = λ z. ap (λ (r : Read). (turn_of b m r).turned.number) z;
      unfit = λ z. ap (λ (r : Read). (turn_of b m r).turned.number) z;
      no_other = refused_by_6_or_7 ev i;
      event = λ e z. ap (λ (r : Read). (turn_of b m r).turned.number) z ∙ turned_number (refusal m b e) (kind_of e) (receivers_of m b e);
      does = λ e z h.
          (ap (λ (r : Read). (turn_of b m r).network) z ∙ (done_accepted b m e h).0, ap (λ (r : Read). (turn_of b m r).turned.receivers) z ∙ (done_accepted b m e h).1);
    }

-- every place of a run
page_along : (s t ev : List ℕ) → Bytes s → Bytes ev → AlongPage ev (table_in t) (net_in s)
page_along s t ev hs he =
    let sound : (i : ℕ) → Sound (reached ev (table_in t) (net_in s) i) = reached_sound ev he (listed_rows t) (opened_sound s hs) in
    record { turn = page_turn ev (table_in t) (net_in s); sound = sound; events = λ i. floodnet_page (sound i) (listed_rows t) }

-- refused before any event
page_refused : (s t ev : List ℕ) (old : Tally) → ((begin_of s t (length ev)).number ≡ 0 → ⊥)
    → (let e = run_of s t ev old in RunRefused s t ev old e.answer e.state e.tally)
unfolding run_of
page_refused s t ev old h = rw (ne_eqb h) (record { number = refl; place = refl; detail = refl; accepted = refl; state = refl; tally = refl })

module _ (s t ev : List ℕ) (old : Tally) (hs : Bytes s) (he : Bytes ev) (z : (begin_of s t (length ev)).number ≡ 0) where
  b : Table
  b = table_in t

  n : Network
  n = net_in s

  f : Final
  f = run_all ev b n

  a : ℕ
  a = f.answer.accepted

  is : run_of s t ev old ≡ written f
  unfolding run_of f b n
  is = rw (z, (begin_read s t (length ev) z).0, (begin_read s t (length ev) z).1)

  keeps : Keeps (length ev / 16) 0 n zero_tally f
  unfolding run_all f b n
  keeps = run_keeps ev he b (rw (begin_read s t (length ev) z).1 at (begin_rows s t (length ev))) (length ev / 16) 0 n zero_tally

  start : Sound n
  unfolding n
  start = rw (begin_read s t (length ev) z).0 at (begin_sound s t (length ev) hs)

  ends : Stops ev b (length ev / 16) 0 n zero_tally f
  unfolding run_all f
  ends = run_refused ev b (length ev / 16) 0 n zero_tally

  counts : Counts ev (length ev / 16) 0 n zero_tally f
  unfolding run_all f
  counts = run_counts ev b (length ev / 16) 0 n zero_tally

  along : Along ev b n f
  unfolding f
  along = run_along ev b n

  back : open_of (bytes_of f.network) ≡ opened 0 0 0 f.network
  back = write_read (keeps.sound start)

  held : net_in (bytes_of f.network) ≡ f.network
  held = ap (λ (o : Opened). o.network) back

  -- the events of a kind, counted from the first
  kinds_all : (kind : Kind) → kinds ev kind 0 (a - 0) ≡ count a (λ i. alike (kind_at ev i) kind)
  kinds_all kind =
      let e : a - 0 ≡ a = omega arith in
      rw e (count_ext a _ _ λ i l. ap (λ (j : ℕ). alike (kind_at ev j) kind) (zero_add i))
    where
      zero_add : (i : ℕ) → 0 + i ≡ i
      zero_add i = omega arith

  -- the events before the place, by themselves
  alone : run_of s t (take (16 * a) ev) old ≡ written (all_done a f.tally f.network)
  unfolding run_of f b n a
  alone =
      let w : a ≤ length ev / 16 = omega (arith, ends.within) in
      let long : length (take (16 * a) ev) ≡ 16 * a = length-take-le (16 * a) ev (omega arith) in
      let same : begin_of s t (length (take (16 * a) ev)) ≡ begin_of s t (length ev) = begin_same s t _ _ (omega arith) (begin_lengths s t (length ev) z).records in
      rw (same, z, (begin_read s t (length ev) z).0, (begin_read s t (length ev) z).1) (ap written (refused_after ev b n))

  page_done : RunDone s t ev old f.answer (bytes_of f.network) f.tally
  unfolding f b n a
  page_done =
      record {
        reads = back ∙ ap (opened 0 0 0) (sym held);
        sound = rw held (keeps.sound start);
        each = along.each;
        state = held ∙ along.network;
        within = omega (arith, ends.within);
        all = ((λ c. omega (arith, (ends.all c).0)), λ e. ⊎_elim (eqb-true _ _) (λ c. absurd (omega (arith, (ends.refused (eqb-false _ _ c)).0))) (either (eqb f.answer.number 0)));
        place = λ c. (ends.all c).1;
        detail = ends.detail;
        stops = λ c. ((ends.refused c).1, omega (arith, (ends.refused c).0), along.why c);
        before = alone;
        produced = omega (arith, counts.produced, kinds_all Kind.Produce);
        forwards = omega (arith, counts.forwards, kinds_all Kind.Forward);
        deliveries = along.deliveries;
        balance = rw held (omega (arith, keeps.balance start));
      }

-- THE THEOREM: whatever bytes are lent, every outcome that satisfies the promise of `relay_run` meets the page.
pub run_page : (s t ev : List ℕ) (old : Tally) → Bytes s → Bytes ev → (r : Answer) (s' : List ℕ) (new : Tally) → Ends r s' new (run_of s t ev old) → RunPage s t ev old r s' new
run_page s t ev old hs he r s' new e =
    rw (e.answer, e.state, e.tally)
    (record {
      refused = page_refused s t ev old;
      done = λ z. rw (is s t ev old hs he z) (page_done s t ev old hs he z);
      along = page_along s t ev hs he;
    })
