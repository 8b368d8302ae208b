-- `drain::drain_all` meets its contract. The loop keeps that what is left of the drain is the drain of what is left, and that
-- every pending message is filed. Assumes nothing.
use Rattle.std.proofs.Common.{inl, inr, arith, rules}
use Rattle.drain.specs.laws.LentLaws.{rounds_none, round_leads, round_some, round_full, round_part, lent_done}
use Rattle.drain.specs.AtOnce.{Filed}
use Rattle.drain.proofs.Filing.{each_filed}
use Rattle.drain.proofs.Within.{leads_within}
use Rattle.drain.proofs.drain_all.Goals as goal
use Rattle.drain.proofs.drain_all.Goals.{then-k-due, else-k-due, then-rounds-test+else-made-budget, else-rounds-test}

pub rounds-init : goal.rounds-init
rounds-init c =
    (rounds_none _ _ _, c.waiting-due.ensures.count, c.waiting-due.ensures.none, each_filed _ _ _ c.anywhere.ensures c.new-sorted.ensures.filed)

pub rounds-smaller : goal.rounds-smaller
rounds-smaller c =
    let v = c.rounds.invariant in
    omega (arith, v.0.draining.within, round_some v.0 v.1 (search rules) (search rules) c.drain_round-k.ensures.leads c.drain_round-k.ensures.made)

pub rounds-preserved : goal.rounds-preserved
rounds-preserved c =
    let v = c.rounds.invariant in
    let d = c.drain_round-k.ensures in (
      elim c.if-k-due.branch [
        | then-k-due w ↦ rw w.rounds-is (round_full v.0 v.1 (search rules) (search rules) d.leads d.made w.if-k-due.true)
        | else-k-due w ↦ rw w.rounds-is (round_part v.0 v.1 (search rules) (search rules) d.leads d.made w.if-k-due.false)
      ],
      c.waiting-due-in-rounds.ensures.count,
      c.waiting-due-in-rounds.ensures.none,
      leads_within (Filed _ _ _) _ _ _ _ (round_leads v.0 v.1 (search rules) (search rules) d.leads d.made) v.3,
    )

pub returns-clause-drains : goal.returns-clause-drains
returns-clause-drains c =
    let v = c.rounds.invariant in
    rw c.new-sorted.ensures.by_table at (lent_done v.0.draining (elim c.rounds-test.branch [
      | then-rounds-test+else-made-budget w ↦ inr (omega (arith, v.0.draining.within))
      | else-rounds-test w ↦ inl (omega (arith, v.1))
    ]) _ v.2)
