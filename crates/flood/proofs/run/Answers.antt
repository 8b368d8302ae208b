use Rattle.std.proofs.Common.{List, ℕ, take}
use Rattle.std.proofs.lemmas.Result.{on_ok_weaker}
use Rattle.std.specs.Io.KnownBytes.{Appends}
use Rattle.console.specs.Console.{flood_of}
use Rattle.flood.proofs.FloodLaws.{answered}
use Rattle.flood.proofs.run.Goals as goal

pub returns : goal.returns
returns g c =
    let got : List ℕ = take c.in_ok-n.n c.read.new.buf in
    let Printing : List ℕ → Type 0 = λ x. Appends (g.W.Write.contents c.args.output.now) (g.W.Write.contents c.print.new.output) x in
    on_ok_weaker c.print.result
    (λ (p : Printing (flood_of got)). answered (g.R.Read.remaining c.args.input.now) Printing got c.in_ok-n.ensures.bytes p)
    c.print.ensures
