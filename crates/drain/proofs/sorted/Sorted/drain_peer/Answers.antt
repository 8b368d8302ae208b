-- `drain::sorted::Sorted::drain_peer` meets its contract. The loop keeps what the first pairs of those left still have to do. Assumes nothing.
use Rattle.std.proofs.Common.{◌≡◌, ◌+◌, ◌-◌, sym, ◌∙◌, inl, arith, rules, take}
use Rattle.std.proofs.Math.Seq.{take_all}
use Rattle.floodnet.specs.View.{fwd}
use Rattle.drain.specs.Pairs.{pairs_of}
use Rattle.drain.specs.laws.Pairs.{walk_none, walk_more, walk_done, walk_last, pairs_count, pairs_taken}
use Rattle.drain.proofs.sorted.Sorted.drain_peer.Goals as goal

pub returns-then-todo-eq0 : goal.returns-then-todo-eq0
returns-then-todo-eq0 c =
    let z = walk_done _ _ c.args.p.0 c.args.todo c.args.left (walk_none (fwd c.args.self.now.table.now) c.args.n.now _ _ _ (search rules)) (inl c.if-todo-eq0.true) in
    record { made = z.0; leads = z.1 }

pub returns-then-all-left : goal.returns-then-all-left
returns-then-all-left c =
    let many = pairs_count c.args.p.0 c.args.todo in
    let whole : take c.args.left (pairs_of c.args.p.0 c.args.todo 64) ≡ pairs_of c.args.p.0 c.args.todo 64 = take_all _ _ (omega (arith, many, c.how_many-all.ensures.0)) in
    record { made = rw whole (c.how_many-all.ensures.0 ∙ sym many); leads = rw whole c.forward_set.ensures }

pub loop-m-init : goal.loop-m-init
loop-m-init c =
    let todo : c.into_iter-m-iterator.result.iter.left ≡ c.args.todo = search rules in
    let budget : c.into_iter-m-iterator.result.n ≡ c.args.left = search rules in
    let none : c.args.left - c.into_iter-m-iterator.result.n ≡ 0 = omega arith in
    (omega arith, rw (todo, none) (walk_none _ _ _ _ _ (search rules)))

pub loop-m-preserved : goal.loop-m-preserved
unfolding fwd
loop-m-preserved c =
    let v = c.loop-m.invariant in
    let less = c.in-Some.ensures.steps.1 in
    let more : c.args.left - c.next.new.self.n ≡ c.args.left - c.loop-m.m-iterator.n + 1 = omega (arith, less, v.0) in
    (omega (arith, less, v.0), rw more (walk_more _ _ _ _ _ v.1 (omega (arith, less, v.0)) c.in-Some.ensures.steps.0 c.forward.ensures.state))

pub returns : goal.returns
returns c =
    let v = c.loop-m.invariant in
    record { made = pairs_taken _ _ _ c.how_many-all.ensures.0 (search rules); leads = (walk_done _ _ _ _ _ v.1 (walk_last v.0 c.in-None.ensures.steps)).1 }
