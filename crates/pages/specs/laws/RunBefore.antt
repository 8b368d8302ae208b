-- The events before a refused one are bytes of their own (demand 1): "the state is that after the events before it". A run depends
-- on the events that it reads alone, so the first a records, taken by themselves, run as they do in the whole list. Assumes nothing.
use Rattle.std.specs.Prelude.{◌≡◌, refl, cond, List, ℕ, zero, suc, ◌+◌, ◌-◌, ◌*◌, ◌/◌, ◌≤◌, ◌<◌, eqb, length, take, get_or}
use Rattle.std.proofs.Common.{sym, ap, ◌∙◌, arith, get_or-take, length-take-le}
use Rattle.endian.specs.laws.Le.{le_same}
use Rattle.network.specs.declared.Network.{Network}
use Rattle.network.specs.declared.Table.{Table}
use Rattle.events.specs.Event.{fields_at, decode_of, read_of, read_at}
use Rattle.events.specs.laws.RoundTrip.{read_inside}
use Rattle.engine.specs.declared.Tally.{Tally}
use Rattle.engine.specs.Run.{zero_tally, Final, stops_at, all_done, run_from, run_all}
use Rattle.engine.specs.RunLaws.{outcome_at, tally_after}
use Rattle.pages.specs.laws.RunStops.{Stops, run_refused}

-- a record is its 16 bytes
fields_same : (l r : List ℕ) (at : ℕ) → ((i : ℕ) → i < at + 16 → get_or l i 0 ≡ get_or r i 0) → fields_at l at ≡ fields_at r at
unfolding fields_at
fields_same l r at h =
    λ i. record {
      code = h at (omega arith) i;
      peer = h (at + 1) (omega arith) i;
      message = h (at + 2) (omega arith) i;
      zero = h (at + 3) (omega arith) i;
      subs = le_same 4 l r (at + 4) (λ j a c. h j (omega arith)) i;
      pubs = le_same 4 l r (at + 8) (λ j a c. h j (omega arith)) i;
      neighbours = le_same 4 l r (at + 12) (λ j a c. h j (omega arith)) i;
    }

-- what stands at a place of the first a records
read_take : (ev : List ℕ) (a i : ℕ) → a ≤ length ev / 16 → i < a → read_at (take (16 * a) ev) i ≡ read_at ev i
unfolding read_at
read_take ev a i h l =
    let fits : 16 * a ≤ length ev = omega arith in
    let long : length (take (16 * a) ev) ≡ 16 * a = length-take-le (16 * a) ev fits in
    ap read_of
    (read_inside (take (16 * a) ev) i (omega arith)
    ∙ ap decode_of (fields_same (take (16 * a) ev) ev (i * 16) λ j b. get_or-take (16 * a) ev j 0 (omega arith))
    ∙ sym (read_inside ev i (omega arith)))

-- a run depends on what it reads alone
run_same : (k : ℕ) (l r : List ℕ) (place : ℕ) (b : Table) (n : Network) (t : Tally) → ((i : ℕ) → i < place + k → read_at l i ≡ read_at r i)
    → run_from k l place b n t ≡ run_from k r place b n t
unfolding run_from
run_same zero l r place b n t h = refl
run_same (suc k) l r place b n t h =
    rw (h place (omega arith))
    (ap (λ (f : Final). cond (eqb (outcome_at r place b n).turned.number 0) f (stops_at (outcome_at r place b n).turned.number place t n))
    (run_same k l r (place + 1) b (outcome_at r place b n).network (tally_after (outcome_at r place b n) t) λ i c. h i (omega arith)))

-- A refused event stops the list: the run of the records before it ends in the same network and tally, all of them accepted.
pub refused_after : (ev : List ℕ) (b : Table) (n : Network)
    → (let f = run_all ev b n in run_all (take (16 * f.answer.accepted) ev) b n ≡ all_done f.answer.accepted f.tally f.network)
unfolding run_all
refused_after ev b n =
    let f : Final = run_from (length ev / 16) ev 0 b n zero_tally in
    let s : Stops ev b (length ev / 16) 0 n zero_tally f = run_refused ev b (length ev / 16) 0 n zero_tally in
    let a : ℕ = f.answer.accepted in
    let w : a ≤ length ev / 16 = omega (arith, s.within) in
    let long : length (take (16 * a) ev) ≡ 16 * a = length-take-le (16 * a) ev (omega arith) in
    let count : length (take (16 * a) ev) / 16 ≡ a - 0 = omega arith in
    ap (λ (k : ℕ). run_from k (take (16 * a) ev) 0 b n zero_tally) count
    ∙ run_same (a - 0) (take (16 * a) ev) ev 0 b n zero_tally (λ i c. read_take ev a i w (omega arith))
    ∙ s.before
