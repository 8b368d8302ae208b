-- What the run program prints for its input (document 01, "The run program"). Assumes nothing.
--   "It reads standard input: state, then table, then events; input shorter than 5,120 bytes gives 1, shorter than 5,376 gives 2."
--   17: "program only, tested first: input above 65,536 bytes".
use Rattle.std.specs.Prelude.{◌≡◌, false, cond, List, ℕ, ◌≤◌, eqb, ltb, length, take, drop}
use Rattle.network.specs.State.{blank_net}
use Rattle.engine.specs.Start.{begin_of}
use Rattle.engine.specs.Run.{Final, run_all}
use Rattle.report.specs.Report.{shown_for, report_of, put_in, count_in}

-- "state, then table, then events": the parts of the input, each as long as the input lets it be
abbrev pub state_in : List ℕ → List ℕ
state_in input = take 5120 input

abbrev pub table_in : List ℕ → List ℕ
table_in input = take 256 (drop 5120 input)

abbrev pub events_in : List ℕ → List ℕ
events_in input = drop 5376 input

-- refused before any event: the first line alone
unfoldable pub refused_text : ℕ → ℕ → List ℕ
refused_text number place = report_of number place 0 blank_net false

-- the events were reached: the first line, and "for 0 and any refused event" the peers
unfoldable pub final_text : Final → List ℕ
final_text f = report_of f.answer.number f.answer.place f.answer.accepted f.network (shown_for f.answer.number)

-- what is printed of a run on a state, a table and events
unfoldable pub text_of : List ℕ → List ℕ → List ℕ → List ℕ
text_of s t ev =
    let g = begin_of s t (length ev) in
    cond (eqb g.number 0) (final_text (run_all ev g.table g.network)) (refused_text g.number g.place)

-- what is printed for an input: 17 is tested before all else
unfoldable pub flood_of : List ℕ → List ℕ
flood_of input = cond (ltb 65536 (length input)) (refused_text 17 0) (text_of (state_in input) (table_in input) (events_in input))

-- What a function promises that puts a text into a lent buffer: how many bytes it answers, and the buffer after. A buffer below 1,024 bytes is left as it was.
pub record Printed (text entry exit : List ℕ) (answer : ℕ) : Type 0 where
  pub count : answer ≡ count_in text entry
  pub bytes : exit ≡ put_in text entry
  pub room : answer ≤ 1024
