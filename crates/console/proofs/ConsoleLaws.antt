-- Laws of what is printed: each way that it comes to be, the parts of an input, and the tie to the entry point. Assumes nothing.
use Rattle.std.specs.Prelude.{◌≡◌, refl, Bool, true, false, cond, List, [], ◌++◌, ℕ, ◌-◌, ◌≤◌, ◌<◌, min, eqb, length, take, drop}
use Rattle.std.proofs.Common.{sym, ap, subst, ◌∙◌, append-nil, arith, length-take, length-drop, drop_of_length-le, take_all, lt-ltb, le-ltb}
use native.Mathlib.Decide.{dec_lt}
use Rattle.sets.proofs.laws.Bools.{ne_eqb}
use Rattle.network.specs.declared.Network.{Network}
use Rattle.network.specs.State.{blank_net}
use Rattle.engine.specs.declared.Tally.{Tally}
use Rattle.engine.specs.Start.{Beginning, begin_of}
use Rattle.engine.specs.laws.StartLaws.{begin_1, begin_2}
use Rattle.engine.specs.Run.{Ran, Final, run_all, RunsTo, run_of, written, untouched}
use Rattle.report.specs.Report.{first_line, peer_lines, shown_for, report_of, put_in, count_in, Reported}
use Rattle.console.specs.Console.{state_in, table_in, events_in, refused_text, final_text, text_of, flood_of, Printed}

-- ---- what was put

-- what `report` promises, of a text that is known
pub printed_report : {number place accepted : ℕ} {n : Network} {shown : Bool} {text entry exit : List ℕ} {r : ℕ} → Reported number place accepted n shown entry exit r
    → report_of number place accepted n shown ≡ text → Printed text entry exit r
printed_report {entry = entry} w e = record { count = w.count ∙ ap (λ (x : List ℕ). count_in x entry) e; bytes = w.bytes ∙ ap (λ (x : List ℕ). put_in x entry) e; room = w.room }

-- the same, of another text that is equal
pub printed_as : {text other entry exit : List ℕ} {r : ℕ} → Printed text entry exit r → text ≡ other → Printed other entry exit r
printed_as {entry = entry} {exit = exit} {r = r} w e = subst (λ (x : List ℕ). Printed x entry exit r) e w

-- In a buffer of 1,024 bytes or more: all of the text, and behind it what stood there.
pub printed_whole : {text entry exit : List ℕ} {r : ℕ} → 1024 ≤ length entry → Printed text entry exit r → (r ≡ length text) × (exit ≡ text ++ drop r entry)
unfolding put_in count_in
printed_whole {entry = entry} h w =
    let e = rw (le-ltb (length entry) 1024 h) at w.count in
    (e, rw (le-ltb (length entry) 1024 h) at w.bytes ∙ rw e)

-- A refusal before any event prints one line.
pub refused_line : (number place : ℕ) → refused_text number place ≡ first_line number place 0
unfolding refused_text report_of
refused_line number place = append-nil (first_line number place 0)

-- what is written of it
pub refused_text_lem : (number place : ℕ) {n : Network} → n ≡ blank_net → report_of number place 0 n false ≡ refused_text number place
unfolding refused_text
refused_text_lem number place e = ap (λ (x : Network). report_of number place 0 x false) e

-- ---- a run

-- refused before any event
pub text_refused : (s t ev : List ℕ) {g : Beginning} → g ≡ begin_of s t (length ev) → (g.number ≡ 0 → ⊥) → refused_text g.number g.place ≡ text_of s t ev
unfolding text_of
text_refused s t ev e h = rw (← e, ne_eqb h)

-- the events were run
pub text_run : (s t ev : List ℕ) {g : Beginning} → g ≡ begin_of s t (length ev) → g.number ≡ 0 → (r : Ran) {y : Tally} → RunsTo r y (run_all ev g.table g.network)
    → {show : Bool} → show ≡ shown_for r.answer.number
    → report_of r.answer.number r.answer.place r.answer.accepted r.network show ≡ text_of s t ev
unfolding text_of final_text
text_run s t ev e z r run k = rw (← e, z, k, run.answer, run.network)

-- ---- the parts of an input

-- a part that ends at k, or with the list before it
take_least : (k : ℕ) (l : List ℕ) {n : ℕ} → n ≡ min (length l) k → take n l ≡ take k l
take_least k l {n} e = both (dec_lt (length l) k)
  where
    both : Dec (length l < k) → take n l ≡ take k l
    both (yes h) = take_all n l (omega arith) ∙ sym (take_all k l (omega arith))
    both (no h) = let same : n ≡ k = omega arith in ap (λ (x : ℕ). take x l) same

-- what is left behind it
drop_least : (k : ℕ) (l : List ℕ) {n : ℕ} → n ≡ min (length l) k → drop n l ≡ drop k l
drop_least k l {n} e = both (dec_lt (length l) k)
  where
    both : Dec (length l < k) → drop n l ≡ drop k l
    both (yes h) = drop_of_length-le l {i = n} (omega arith) ∙ sym (drop_of_length-le l {i = k} (omega arith))
    both (no h) = let same : n ≡ k = omega arith in ap (λ (x : ℕ). drop x l) same

-- The state is the part before the place `a`, the table the part from there to the place `e`, the events those behind.
pub state_part : (input : List ℕ) {a : ℕ} → a ≡ min (length input) 5120 → take (a - 0) (drop 0 input) ≡ state_in input
state_part input {a} h = take_least 5120 input {n = a - 0} (omega arith)

pub table_part : (input : List ℕ) {a e : ℕ} → a ≡ min (length input) 5120 → e ≡ min (length input) 5376 → take (e - a) (drop a input) ≡ table_in input
table_part input {a} {e} h k =
    ap (λ (l : List ℕ). take (e - a) l) (drop_least 5120 input h)
    ∙ take_least 256 (drop 5120 input) {n = e - a} (omega (arith, length-drop 5120 input))

pub events_part : (input : List ℕ) {e : ℕ} → e ≡ min (length input) 5376 → take (length input - e) (drop e input) ≡ events_in input
events_part input {e} h =
    ap (λ (l : List ℕ). take (length input - e) l) (drop_least 5376 input h)
    ∙ take_all (length input - e) (drop 5376 input) (omega (arith, length-drop 5376 input))

-- ---- the program

-- an input above 65,536 bytes
pub flood_long : (input : List ℕ) → 65536 < length input → refused_text 17 0 ≡ flood_of input
unfolding flood_of
flood_long input h = rw (lt-ltb 65536 (length input) h)

-- any other input is run, part by part
pub flood_run : (input : List ℕ) {s t ev : List ℕ} → length input ≤ 65536 → s ≡ state_in input → t ≡ table_in input → ev ≡ events_in input → text_of s t ev ≡ flood_of input
unfolding flood_of
flood_run input h i j k = rw (le-ltb 65536 (length input) h, i, j, k)

-- "input shorter than 5,120 bytes gives 1"
pub flood_1 : (input : List ℕ) → length input < 5120 → flood_of input ≡ first_line 1 0 0
flood_1 input h =
    let short : length (state_in input) ≡ 5120 → ⊥ = λ e. absurd (omega (arith, e, length-take 5120 input)) in
    sym (flood_run input (omega arith) refl refl refl)
    ∙ sym (text_refused _ _ _ (begin_1 (state_in input) (table_in input) (length (events_in input)) short) (λ z. absurd (omega (arith, z))))
    ∙ refused_line 1 0

-- "shorter than 5,376 gives 2"
pub flood_2 : (input : List ℕ) → 5120 ≤ length input → length input < 5376 → flood_of input ≡ first_line 2 0 0
flood_2 input h l =
    let whole : length (state_in input) ≡ 5120 = omega (arith, length-take 5120 input) in
    let short : length (table_in input) ≡ 256 → ⊥ = λ e. absurd (omega (arith, e, length-take 256 (drop 5120 input), length-drop 5120 input)) in
    sym (flood_run input (omega arith) refl refl refl)
    ∙ sym (text_refused _ _ _ (begin_2 (state_in input) (table_in input) (length (events_in input)) whole short) (λ z. absurd (omega (arith, z))))
    ∙ refused_line 2 0

-- the lines of the peers behind the first line of a run
unfoldable pub peers_after : List ℕ → List ℕ → List ℕ → List ℕ
peers_after s t ev =
    let g = begin_of s t (length ev) in
    let f = run_all ev g.table g.network in
    cond (eqb g.number 0) (cond (shown_for f.answer.number) (peer_lines f.network) []) []

-- The first line has the answer of the engine's run (`relay_run`): its number, place and accepted events.
pub text_answer : (s t ev : List ℕ) (old : Tally)
    → (let a = (run_of s t ev old).answer in text_of s t ev ≡ first_line a.number a.place a.accepted ++ peers_after s t ev)
unfolding text_of run_of peers_after final_text refused_text report_of
text_answer s t ev old = either (eqb g.number 0)
  where
    g : Beginning
    g = begin_of s t (length ev)

    f : Final
    f = run_all ev g.table g.network

    either : (b : Bool)
        → (let a = (cond b (written f) (untouched g old s)).answer in
        cond b (final_text f) (refused_text g.number g.place)
        ≡ first_line a.number a.place a.accepted ++ cond b (cond (shown_for f.answer.number) (peer_lines f.network) []) [])
    either true = refl
    either false = refl
