-- `network::verdict::detail` meets its contract. Assumes nothing.
use Rattle.std.specs.Prelude.{unwrap_or}
use Rattle.std.proofs.Common.{ap, ◌∙◌}
use Rattle.network.specs.Refusal.{number_of}
use Rattle.network.specs.laws.Faults.{detail_23, detail_24, detail_25}
use Rattle.network.specs.laws.Refusal.{detail_else}
use Rattle.network.proofs.Tests.{found_as, near_is, back_is, known_is}
use Rattle.network.proofs.verdict.detail.Goals.{in-NeighbourAbsent, in-NotListedBack, in-KnownWrong, in_default}
use Rattle.network.proofs.verdict.detail.Goals as goal

pub returns : goal.returns
returns c =
    let n = c.args.n.now in
    let p = c.args.p in
    let b = c.requires.there in
    elim c.match-refusal.branch [
      | in-NeighbourAbsent w ↦ c.unwrap_or.ensures ∙ ap (λ o. unwrap_or o 0) w.found-is ∙ found_as _ w.near_absent-found.ensures (detail_23 n p _ (ap number_of w.in-NeighbourAbsent.is) (near_is n p)) b
      | in-NotListedBack w ↦ c.unwrap_or.ensures ∙ ap (λ o. unwrap_or o 0) w.found-is ∙ found_as _ w.list_back-found.ensures (detail_24 n p _ (ap number_of w.in-NotListedBack.is) (back_is n p)) b
      | in-KnownWrong w ↦ c.unwrap_or.ensures ∙ ap (λ o. unwrap_or o 0) w.found-is ∙ found_as _ w.row_known-found.ensures (detail_25 n p _ (ap number_of w.in-KnownWrong.is) (known_is n p c.requires.within.1)) b
      | in_default w ↦ c.unwrap_or.ensures ∙ ap (λ o. unwrap_or o 0) w.found-is ∙ detail_else c.args.refusal n p w.in_default.not-NeighbourAbsent w.in_default.not-NotListedBack w.in_default.not-KnownWrong
    ]
