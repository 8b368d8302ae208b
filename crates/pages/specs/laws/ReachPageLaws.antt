-- A run over forward records, and single forwards one after another, leave what the client's page says (specs/ReachPage.antt). Assumes nothing.
use Rattle.std.specs.Prelude.{◌≡◌, refl, ℕ, suc, ◌+◌, ◌/◌, ◌%◌, ◌<◌, length, Some, Ok, List, [], ◌∷◌}
use Rattle.std.proofs.Common.{sym, subst, ◌∙◌, arith, lt-ltb}
use Rattle.std.proofs.Math.Path.{ap}
use Rattle.std.proofs.Math.Decide.{ℕ_discrete}
use Rattle.sets.proofs.laws.Bools.{ne_eqb}
use Rattle.endian.specs.laws.Le.{Bytes}
use Rattle.network.specs.declared.Peer.{Peer}
use Rattle.network.specs.declared.Message.{Message}
use Rattle.network.specs.declared.Network.{Network}
use Rattle.network.specs.declared.Table.{Table}
use Rattle.network.specs.State.{bytes_of, opened, open_of}
use Rattle.network.specs.Rows.{list_of}
use Rattle.network.specs.Sound.{Sound}
use Rattle.network.specs.laws.SoundLaws.{pending_peer, pending_message}
use Rattle.network.specs.laws.Listing.{listed_rows}
use Rattle.network.specs.laws.Trips.{read_write, bytes_long, write_read}
use Rattle.events.specs.declared.Event.TheVariants as events
use Rattle.floodnet.specs.Forward.{forwarded}
use Rattle.floodnet.specs.Refusals.{refusal_forward}
use Rattle.drain.specs.Reach.{Forward, by, after, Accepted, Quiet}
use Rattle.drain.specs.laws.ReachWords.{accepted_pending}
use Rattle.drain.specs.laws.ReachLaws.{reach}
use Rattle.engine.specs.declared.Answer.{Answer}
use Rattle.engine.specs.declared.Tally.{Tally}
use Rattle.engine.specs.Start.{Beginning, begin_of}
use Rattle.engine.specs.laws.StartFacts.{begin_by}
use Rattle.engine.specs.Run.{zero_tally, turn_of, answered, Final, run_from, run_all, Ending, written, untouched, run_of}
use Rattle.engine.specs.RunLaws.{outcome_at, tally_after}
use Rattle.engine.specs.laws.RunLaws.{run_on, run_stops}
use Rattle.engine.specs.Alone.{forward_on, forward_of}
use Rattle.engine.specs.laws.ForwardAlone.{forward_number, forward_after}
use Rattle.pages.specs.laws.ForwardRun.{forward_passed}
use Rattle.engine.specs.declared.Drained.{Drained}
use Rattle.engine.specs.laws.DrainingLaws.{begun_sound}
use Rattle.pages.specs.laws.DrainingReach.{begun_reach, drain_page}
use Rattle.pages.specs.ReachPage.{ForwardsAt, ForwardRecords, forwards_of, AllPass, ForwardsLeave}
use Rattle.events.specs.Event.{Read, read_at}

-- ---- what the bytes after accepted forwards are

module _ (s t : List ℕ) (h : Bytes s) (z : (begin_of s t 0).number ≡ 0) where
  abbrev b : Table
  b = (begin_of s t 0).table

  abbrev n : Network
  n = (begin_of s t 0).network

  -- the page of them, from their acceptance
  left : (l : List Forward) (e : List ℕ) → Accepted b n l → e ≡ bytes_of (after b n l) → ForwardsLeave s t b n l e
  left l e a k =
      record {
        accepted = a;
        leaves = k;
        reads = back;
        at_rest = λ q budget w.
            let page = drain_page s t h z in
            let x = (begun_reach s t h).drain_any_order budget w l a (rw back at q) in
            (k ∙ ap bytes_of x.0 ∙ sym (page.leaves budget), x.1 ∙ sym (ap (λ (r : Drained). r.forwards) (page.answers budget)));
      }
    where
      back : open_of e ≡ opened 0 0 0 (after b n l)
      back = ap open_of k ∙ write_read ((begun_reach s t h).stays_sound l a)

-- ---- a run over forward records

-- the answer of a run that refuses nothing
abbrev done : ℕ → Answer
done count = answered 0 0 0 count

module _ (ev : List ℕ) (b : Table) where
  -- one forward: the number that it is answered with, and the network after it
  one_number : (place : ℕ) (n : Network) (p : Peer) (m : Message) → read_at ev place ≡ Some (Ok (events.Forward p m)) → (outcome_at ev place b n).turned.number ≡ refusal_forward n p m
  unfolding turn_of
  one_number place n p m e = ap (λ (r : Read). (turn_of b n r).turned.number) e ∙ forward_number n b p.0 m.0

  one_after : (place : ℕ) (n : Network) (p : Peer) (m : Message) → read_at ev place ≡ Some (Ok (events.Forward p m)) → refusal_forward n p m ≡ 0 → (outcome_at ev place b n).network ≡ forwarded n b p m
  unfolding turn_of
  one_after place n p m e z = ap (λ (r : Read). (turn_of b n r).network) e ∙ forward_after n b p.0 m.0 z

  -- an accepted forward, and then the rest
  passes : (k place : ℕ) (n : Network) (t : Tally) (p : Peer) (m : Message) → read_at ev place ≡ Some (Ok (events.Forward p m)) → refusal_forward n p m ≡ 0
      → run_from (suc k) ev place b n t ≡ run_from k ev (place + 1) b (forwarded n b p m) (tally_after (outcome_at ev place b n) t)
  passes k place n t p m r e =
      run_on k ev place b n t (one_number place n p m r ∙ e) ∙ ap (λ (o : Network). run_from k ev (place + 1) b o (tally_after (outcome_at ev place b n) t)) (one_after place n p m r e)

  -- A run that answers 0 has accepted each, and ends in the network after them.
  all_taken : (l : List Forward) (place : ℕ) (n : Network) (t : Tally) → ForwardsAt ev place l → (run_from (length l) ev place b n t).answer.number ≡ 0
      → Accepted b n l × ((run_from (length l) ev place b n t).network ≡ after b n l)
  unfolding run_from after
  all_taken [] place n t r k = (tt, refl)
  all_taken (by p m ∷ l) place n t r k =
      first (ℕ_discrete (refusal_forward n p m) 0) (all_taken l (place + 1) (forwarded n b p m) (tally_after (outcome_at ev place b n) t) r.1)
    where
      rest : Final
      rest = run_from (length l) ev (place + 1) b (forwarded n b p m) (tally_after (outcome_at ev place b n) t)

      first : Dec (refusal_forward n p m ≡ 0)
          → (rest.answer.number ≡ 0 → Accepted b (forwarded n b p m) l × (rest.network ≡ after b (forwarded n b p m) l))
          → ((refusal_forward n p m ≡ 0) × Accepted b (forwarded n b p m) l) × ((run_from (suc (length l)) ev place b n t).network ≡ after b (forwarded n b p m) l)
      first (yes e) ih =
          let on = passes (length l) place n t p m r.0 e in
          let x = ih (sym (ap (λ (f : Final). f.answer.number) on) ∙ k) in
          ((e, x.0), ap (λ (f : Final). f.network) on ∙ x.1)
      first (no e) ih =
          let is = one_number place n p m r.0 in
          let stop = run_stops (length l) ev place b n t (λ w. e (sym is ∙ w)) in
          absurd (e (sym is ∙ sym (ap (λ (f : Final). f.answer.number) stop) ∙ k))

  -- And back: accepted forwards are all taken.
  none_refused : (l : List Forward) (place : ℕ) (n : Network) (t : Tally) → ForwardsAt ev place l → Accepted b n l → (run_from (length l) ev place b n t).answer ≡ done (place + length l)
  unfolding run_from
  none_refused [] place n t r a = ap done (omega arith)
  none_refused (by p m ∷ l) place n t r a =
      ap (λ (f : Final). f.answer) (passes (length l) place n t p m r.0 a.0)
      ∙ none_refused l (place + 1) (forwarded n b p m) (tally_after (outcome_at ev place b n) t) r.1 a.1 ∙ ap done (omega arith)

-- whole records begin as no events do
begins_alike : (s t : List ℕ) (events : ℕ) → events % 16 ≡ 0 → begin_of s t events ≡ begin_of s t 0
unfolding begin_of
begins_alike s t events e = rw e

module _ (s t ev : List ℕ) (old : Tally) (l : List Forward) (r : ForwardRecords ev l) where
  whole : length ev % 16 ≡ 0
  whole = omega (arith, r.long)

  count : length ev / 16 ≡ length l
  count = omega (arith, r.long)

  -- past the refusals it is the run of the records; else it is refused
  run_is : (begin_of s t 0).number ≡ 0 → run_of s t ev old ≡ written (run_from (length l) ev 0 (begin_of s t 0).table (begin_of s t 0).network zero_tally)
  unfolding run_of run_all
  run_is z = rw (begins_alike s t (length ev) whole, z, count)

  run_refused : ((begin_of s t 0).number ≡ 0 → ⊥) → run_of s t ev old ≡ untouched (begin_of s t 0) old s
  unfolding run_of
  run_refused e = rw (begins_alike s t (length ev) whole, ne_eqb e)

  pub ran_begun : (run_of s t ev old).answer.number ≡ 0 → (begin_of s t 0).number ≡ 0
  ran_begun k = first (ℕ_discrete (begin_of s t 0).number 0)
    where
      first : Dec ((begin_of s t 0).number ≡ 0) → (begin_of s t 0).number ≡ 0
      first (yes e) = e
      first (no e) = sym (ap (λ (x : Ending). x.answer.number) (run_refused e)) ∙ k

  -- Accepted forwards are all taken, and counted.
  pub run_accepts : (begin_of s t 0).number ≡ 0 → Accepted (begin_of s t 0).table (begin_of s t 0).network l → (run_of s t ev old).answer ≡ done (length l)
  run_accepts z a =
      ap (λ (x : Ending). x.answer) (run_is z) ∙ none_refused ev (begin_of s t 0).table l 0 (begin_of s t 0).network zero_tally r.each a ∙ ap done (omega arith)

  -- THE RUN: where it answers 0, it leaves what the page says.
  pub run_forwards : Bytes s → (run_of s t ev old).answer.number ≡ 0 → ForwardsLeave s t (begin_of s t 0).table (begin_of s t 0).network l (run_of s t ev old).state
  run_forwards h k =
      let z = ran_begun k in
      let w = run_is z in
      let x = all_taken ev (begin_of s t 0).table l 0 (begin_of s t 0).network zero_tally r.each (sym (ap (λ (x : Ending). x.answer.number) w) ∙ k) in
      left s t h z l (run_of s t ev old).state x.0 (ap (λ (x : Ending). x.state) w ∙ ap bytes_of x.1)

-- ---- single forwards, one after another

-- what was read, where nothing was refused
read_both : (s t : List ℕ) → (begin_of s t 0).number ≡ 0
    → (length t ≡ 256) × ((list_of t).number ≡ 0) × ((open_of s).number ≡ 0) × (begin_of s t 0 ≡ record { number = 0; place = 0; detail = 0; network = (open_of s).network; table = (list_of t).table })
read_both s t =
    begin_by s t 0
    (λ (g : Beginning). g.number ≡ 0 → (length t ≡ 256) × ((list_of t).number ≡ 0) × ((open_of s).number ≡ 0) × (g ≡ record { number = 0; place = 0; detail = 0; network = (open_of s).network; table = (list_of t).table }))
    (λ k p d h z. absurd (h z))
    λ a b c d z. (b, c, d, refl)

-- an accepted forward, called alone
alone_passes : (s t : List ℕ) (p : Peer) (m : Message) → (begin_of s t 0).number ≡ 0 → p.0 < 32 → m.0 < 64 → refusal_forward (begin_of s t 0).network p m ≡ 0
    → (forward_of s t p.0 m.0).answer.number ≡ 0
unfolding forward_of forward_on
alone_passes s t p m z l k e = rw (z, lt-ltb p.0 32 l, lt-ltb m.0 64 k, e)

module _ (t : List ℕ) (e : length t ≡ 256) (f : (list_of t).number ≡ 0) where
  -- the bytes of a sound network are read as it
  reads_back : {n : Network} → Sound n → begin_of (bytes_of n) t 0 ≡ record { number = 0; place = 0; detail = 0; network = n; table = (list_of t).table }
  unfolding begin_of
  reads_back {n} s = rw (bytes_long n, e, f, write_read s)

  one_by_one : (l : List Forward) (n : Network) → Sound n → AllPass (bytes_of n) t l
      → Accepted (list_of t).table n l × (forwards_of (bytes_of n) t l ≡ bytes_of (after (list_of t).table n l))
  unfolding forwards_of after
  one_by_one [] n s a = (tt, refl)
  one_by_one (by p m ∷ l) n s a =
      let g = reads_back s in
      let x = forward_passed (bytes_of n) t p.0 m.0 a.0 in
      let right : refusal_forward n p m ≡ 0 = rw g at x.right in
      let state : (forward_of (bytes_of n) t p.0 m.0).state ≡ bytes_of (forwarded n (list_of t).table p m) = rw g at x.state in
      let y = one_by_one l (forwarded n (list_of t).table p m) ((reach s (listed_rows t)).stays_sound (by p m ∷ []) (right, tt)) (rw state at a.1) in
      ((right, y.0), rw state y.1)

  -- And back: accepted forwards all pass.
  pass : (l : List Forward) (n : Network) → Sound n → Accepted (list_of t).table n l → AllPass (bytes_of n) t l
  unfolding after
  pass [] n s a = tt
  pass (by p m ∷ l) n s a =
      let g = reads_back s in
      let w = accepted_pending n p m a.0 in
      let x = alone_passes (bytes_of n) t p m (ap (λ (y : Beginning). y.number) g) (pending_peer s.shaped p m w) (pending_message s.shaped p m w) (rw g a.0) in
      let state : (forward_of (bytes_of n) t p.0 m.0).state ≡ bytes_of (forwarded n (list_of t).table p m) = rw g at (forward_passed (bytes_of n) t p.0 m.0 x).state in
      (x, rw state (pass l (forwarded n (list_of t).table p m) ((reach s (listed_rows t)).stays_sound (by p m ∷ []) (a.0, tt)) a.1))

-- Accepted forwards, called alone, all pass.
pub alone_accepts : (s t : List ℕ) → Bytes s → (begin_of s t 0).number ≡ 0 → (l : List Forward) → Accepted (begin_of s t 0).table (begin_of s t 0).network l → AllPass s t l
alone_accepts s t h z l a =
    let x = read_both s t z in
    let sound : Sound (open_of s).network = rw x.3 at (begun_sound s t h) in
    rw (read_write s h x.2) at (pass t x.0 x.1 l (open_of s).network sound (subst (λ (g : Beginning). Accepted g.table g.network l) x.3 a))

-- THE SINGLE FORWARDS: where none is refused, they leave what the page says.
pub alone_forwards : (s t : List ℕ) → Bytes s → (begin_of s t 0).number ≡ 0 → (l : List Forward) → AllPass s t l
    → ForwardsLeave s t (begin_of s t 0).table (begin_of s t 0).network l (forwards_of s t l)
alone_forwards s t h z l a =
    let x = read_both s t z in
    let back : bytes_of (open_of s).network ≡ s = read_write s h x.2 in
    let sound : Sound (open_of s).network = rw x.3 at (begun_sound s t h) in
    let y = one_by_one t x.0 x.1 l (open_of s).network sound (rw back a) in
    left s t h z l (forwards_of s t l) (subst (λ (g : Beginning). Accepted g.table g.network l) (sym x.3) y.0)
    (subst (λ (g : Beginning). forwards_of s t l ≡ bytes_of (after g.table g.network l)) (sym x.3) (rw back at y.1))

-- ---- every order

-- Two hosts whose forwards rest leave the same bytes, by as many forwards.
pub same_bytes : {s t : List ℕ} {b : Table} {n : Network} {l r : List Forward} {x y : List ℕ} → ForwardsLeave s t b n l x → ForwardsLeave s t b n r y
    → Quiet (open_of x).network → Quiet (open_of y).network → (x ≡ y) × (length l ≡ length r)
same_bytes u v q w =
    let f = u.at_rest q 2048 (omega arith) in
    let g = v.at_rest w 2048 (omega arith) in
    (f.0 ∙ sym g.0, f.1 ∙ sym g.1)
