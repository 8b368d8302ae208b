-- What one event comes to, refused or accepted, as src/turns.rt answers. Assumes nothing.
use Rattle.std.specs.Prelude.{◌≡◌, refl, ℕ, zero, suc, ◌<◌}
use Rattle.std.proofs.Common.{sym, ap, arith}
use Rattle.network.specs.declared.Network.{Network}
use Rattle.network.specs.declared.Table.{Table}
use Rattle.network.specs.declared.refusal.Refusal.{Refusal}
use Rattle.network.specs.Refusal.{number_of}
use Rattle.network.specs.laws.Numbers.{refusal_not_0}
use Rattle.events.specs.declared.Event.{Event}
use Rattle.events.specs.declared.kind.Kind.{Kind}
use Rattle.events.specs.Kind.{kind_of}
use Rattle.floodnet.specs.Step.{refusal, effect, if_accepted, after, receivers_of, turned, turned_of}

-- no refusal has the number 0
pub number_some : (r : Refusal) → 0 < number_of r
number_some r = omega (arith, refusal_not_0 r)

-- a refused event changes nothing
pub after_refused : (n : Network) (b : Table) (e : Event) → 0 < refusal n b e → after n b e ≡ n
unfolding after if_accepted
after_refused n b e h = go (refusal n b e) h
  where
    go : (k : ℕ) → 0 < k → if_accepted k (effect n b e) n ≡ n
    go zero h = absurd (omega arith)
    go (suc k) h = refl

-- and has no receivers, whatever the number
pub turned_none : (k : ℕ) (kind : Kind) (to : ℕ) → 0 < k → record { number = k; kind = kind; receivers = 0 } ≡ turned k kind to
unfolding turned
turned_none zero kind to h = absurd (omega arith)
turned_none (suc k) kind to h = refl

pub turned_refused : (n : Network) (b : Table) (e : Event) → 0 < refusal n b e → turned_of n b e ≡ record { number = refusal n b e; kind = kind_of e; receivers = 0 }
unfolding turned_of
turned_refused n b e h = sym (turned_none (refusal n b e) (kind_of e) (receivers_of n b e) h)

-- an accepted event takes effect
pub after_done : (n : Network) (b : Table) (e : Event) → 0 ≡ refusal n b e → after n b e ≡ effect n b e
unfolding after if_accepted
after_done n b e h = ap (λ (k : ℕ). if_accepted k (effect n b e) n) (sym h)

-- and has its receivers
pub turned_done : (n : Network) (b : Table) (e : Event) → 0 ≡ refusal n b e → turned_of n b e ≡ record { number = 0; kind = kind_of e; receivers = receivers_of n b e }
unfolding turned_of turned
turned_done n b e h = ap (λ (k : ℕ). turned k (kind_of e) (receivers_of n b e)) (sym h)

-- what src/turns.rt names
pub ruleset steps = (number_some, after_refused, turned_refused, after_done, turned_done)
