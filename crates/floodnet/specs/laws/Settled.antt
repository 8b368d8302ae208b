-- "for any two outcomes that satisfy it, equality is proved" (document 01, "What the contracts settle"): for the promises of this crate, which
-- give the network, and the answer in 01's numbers. Assumes nothing.
use Rattle.std.specs.Prelude.{◌≡◌, ℕ, zero, suc, eqb, Result, Ok, Err}
use Rattle.std.proofs.Common.{refl, sym, ap, ap₂, ◌∙◌, cond}
use Rattle.network.specs.declared.Network.{Network}
use Rattle.network.specs.declared.Table.{Table}
use Rattle.network.specs.declared.refusal.Refusal.{Refusal}
use Rattle.network.specs.Refusal.{number}
use Rattle.network.specs.laws.Numbers.{refusal_not_0, number_of_injective}
use Rattle.events.specs.declared.Event.{Event}
use Rattle.events.specs.laws.Settled.{settled}
use Rattle.events.specs.declared.kind.Kind.{Kind}
use Rattle.floodnet.specs.declared.Turned.{Turned}
use Rattle.floodnet.specs.Step.{Numbered, received, numbered, Stepped}

-- the arrays of a network, one by one
pub record SameArrays (x y : Network) : Type 0 where
  pub present : x.present ≡ y.present
  pub pubs : x.pubs ≡ y.pubs
  pub subs : x.subs ≡ y.subs
  pub neighbours : x.neighbours ≡ y.neighbours
  pub pending : x.pending ≡ y.pending
  pub seen : x.seen ≡ y.seen
  pub known : x.known ≡ y.known

-- `step`: each array of the network that is left; its answer is settled by `settled_turn`
pub settled_step : (x y d : Network) → x ≡ d → y ≡ d → SameArrays x y
settled_step x y d h k =
    let e = settled h k in
    record {
      present = ap (λ (n : Network). n.present) e;
      pubs = ap (λ (n : Network). n.pubs) e;
      subs = ap (λ (n : Network). n.subs) e;
      neighbours = ap (λ (n : Network). n.neighbours) e;
      pending = ap (λ (n : Network). n.pending) e;
      seen = ap (λ (n : Network). n.seen) e;
      known = ap (λ (n : Network). n.known) e;
    }

-- `messages::forward`: the pending and the seen messages
pub settled_messages : (x y d : Network) → x ≡ d → y ≡ d → (x.pending ≡ y.pending) × (x.seen ≡ y.seen)
settled_messages x y d h k =
    let s = settled_step x y d h k in
    (s.pending, s.seen)

-- the number and the receivers fix the outcome
outcome_fixes : (a b : Result ℕ Refusal) → number a ≡ number b → received a ≡ received b → a ≡ b
outcome_fixes (Ok to) (Ok too) n r = ap Ok r
outcome_fixes (Ok to) (Err k) n r = absurd (refusal_not_0 k (sym n))
outcome_fixes (Err k) (Ok to) n r = absurd (refusal_not_0 k n)
outcome_fixes (Err k) (Err l) n r = ap Err (number_of_injective k l n)

-- the answer of an event, which is given in 01's numbers
pub settled_turn : (r q : Turned) {d : Numbered} → numbered r ≡ d → numbered q ≡ d → r ≡ q
settled_turn r q h k =
    let e = settled h k in
    let kinds : r.kind ≡ q.kind = ap (λ (t : Numbered). t.kind) e in
    let outcomes : r.outcome ≡ q.outcome = outcome_fixes r.outcome q.outcome (ap (λ (t : Numbered). t.number) e) (ap (λ (t : Numbered). t.receivers) e) in
    ap₂ {C = Turned} (λ (k : Kind) (o : Result ℕ Refusal). record { kind = k; outcome = o }) kinds outcomes

-- the turns of the events: the network and the answer
pub settled_stepped : {n x y : Network} {b : Table} {e : Event} {r q : Turned} → Stepped n x b e r → Stepped n y b e q → (x ≡ y) × (r ≡ q)
settled_stepped {r = r} {q = q} h k = (settled h.state k.state, settled_turn r q h.answer k.answer)
