-- `drain::sorted::Sorted::forward_set` meets its contract. The loop has spread the messages whose topic is not left. Assumes nothing.
use Rattle.std.proofs.Common.{rules}
use Rattle.drain.proofs.AtOnce.{spreading_none, spreading_more, spreading_skip, spreading_done}
use Rattle.drain.proofs.AtOnceForwards.{forwards_at_once}
use Rattle.drain.proofs.sorted.Sorted.forward_set.Goals as goal

pub loop-t-init : goal.loop-t-init
loop-t-init c = spreading_none (search rules) c.requires.filed c.args.self.now.used_fits (search rules)

pub loop-t-preserved-then-w-ne0 : goal.loop-t-preserved-then-w-ne0
loop-t-preserved-then-w-ne0 c =
    spreading_more (search rules) c.requires.filed c.args.self.now.own_topics c.loop-t.invariant c.in-Some.ensures.steps c.meet-w.ensures
    c.give_set.ensures.s_bound c.give_set.ensures.pending_after

pub loop-t-preserved : goal.loop-t-preserved
loop-t-preserved c =
    spreading_skip (search rules) c.requires.filed c.args.self.now.own_topics c.loop-t.invariant c.in-Some.ensures.steps c.meet-w.ensures
    c.if-w-ne0.false

pub returns : goal.returns
returns c =
    let a = c.args in
    let d = spreading_done a.n.now a.p.0 (search rules) c.minus.ensures c.union.ensures c.loop-t.invariant c.in-None.ensures.steps.0 in
    forwards_at_once _ _ _ (search rules) d.0 d.1
