use Rattle.std.proofs.Common.{refl, ℕ, arith, rules, length-take}
use Rattle.std.proofs.KnownBytes.{Consumes-nil}
use Rattle.flood.proofs.FloodLaws.{read_more, read_known}
use Rattle.flood.proofs.read.Goals as goal

pub loop-n-init : goal.loop-n-init
loop-n-init g c = (omega arith, Consumes-nil (g.R.Read.remaining c.args.input.now))

pub loop-n-preserved : goal.loop-n-preserved
loop-n-preserved g c =
    let read = c.in_ok-k.ensures in
    (search rules, read_more _ _ _ _ _ _ _ _ _ refl c.loop-n.invariant.0 read.bound.0 c.loop-n.invariant.1 read.bytes.0)

-- No byte was read into room for one, so none is left.
pub returns-then-k-eq0-clause-bytes : goal.returns-then-k-eq0-clause-bytes
returns-then-k-eq0-clause-bytes g c =
    let read = c.in_ok-k.ensures in
    let n = c.loop-n.n in
    read_known _ _ _ _ (omega (arith, length-take {A = ℕ}))
    (read_more _ _ _ n _ c.in_ok-k.k n _ _ (omega arith) c.loop-n.invariant.0 read.bound.0 c.loop-n.invariant.1 read.bytes.0)
    (λ h. read.bytes.1 c.if-k-eq0.true (omega arith))

-- The buffer is full.
pub returns-clause-bytes : goal.returns-clause-bytes
returns-clause-bytes g c =
    read_known _ _ _ _ (omega (arith, length-take {A = ℕ})) c.loop-n.invariant.1 (λ h. absurd (omega (arith, length-take {A = ℕ})))
