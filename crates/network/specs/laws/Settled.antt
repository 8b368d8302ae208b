-- "for any two outcomes that satisfy it, equality is proved" (document 01, "What the contracts settle"): for the promises of this crate whose answer
-- may be refused, and is given in 01's numbers. Two refusals have two numbers, and none has 0, so the numbers, the place and the detail fix the answer.
-- Assumes nothing.
use Rattle.std.specs.Prelude.{◌≡◌, refl, List, ℕ, Result, Ok, Err}
use Rattle.std.proofs.Common.{sym, ap, ◌∙◌}
use Rattle.network.specs.declared.Network.{Network}
use Rattle.network.specs.declared.Table.{Table}
use Rattle.network.specs.declared.Checked.{Checked}
use Rattle.network.specs.declared.Refused.{Refused}
use Rattle.network.specs.Rules.{checked}
use Rattle.network.specs.Refused.{checked_as}
use Rattle.network.specs.State.{Opened, read_as, Opens}
use Rattle.network.specs.Rows.{Listed, listed_as}
use Rattle.network.specs.laws.Numbers.{refusal_not_0, number_of_injective}
use Rattle.network.specs.laws.Opening.{settled_opens}

-- a refusal with its place and detail, from its number and these
pub refused_fixes : (r q : Refused) → checked_as {A = Unit {0}} (Err r) ≡ checked_as {A = Unit {0}} (Err q) → r ≡ q
refused_fixes r q h =
    let k : r.refusal ≡ q.refusal = number_of_injective r.refusal q.refusal (ap (λ (c : Checked). c.number) h) in
    let p : r.place ≡ q.place = ap (λ (c : Checked). c.place) h in
    let d : r.detail ≡ q.detail = ap (λ (c : Checked). c.detail) h in
    λ i. record { refusal = k i; place = p i; detail = d i }

-- an answer with nothing beside it: `Network::write`
pub answer_fixes : (r q : Result (Unit {0}) Refused) → checked_as r ≡ checked_as q → r ≡ q
answer_fixes (Ok a) (Ok b) h = refl
answer_fixes (Ok a) (Err q) h = absurd (refusal_not_0 q.refusal (sym (ap (λ (c : Checked). c.number) h)))
answer_fixes (Err r) (Ok b) h = absurd (refusal_not_0 r.refusal (ap (λ (c : Checked). c.number) h))
answer_fixes (Err r) (Err q) h = ap Err (refused_fixes r q h)

-- an answer with the network that is then there: `Network::read`
pub settled_read_as : (r q : Result (Unit {0}) Refused) {n m : Network} {d : Opened} → read_as r n ≡ d → read_as q m ≡ d → (r ≡ q) × (n ≡ m)
settled_read_as r q h k =
    let e = h ∙ sym k in
    (answer_fixes r q (λ i. checked (e i).number (e i).place (e i).detail), ap (λ (o : Opened). o.network) e)

-- `Network::open`
pub settled_open : (r q : Result (Unit {0}) Refused) {b : List ℕ} {old n m : Network} → Opens b old r n → Opens b old q m → (r ≡ q) × (n ≡ m)
settled_open r q x y =
    let s = settled_opens x y in
    (answer_fixes r q (λ i. checked (s.0 i) (s.1 i) (s.2 i)), s.3)

-- an answer without a detail, with the table that is then there: `Table::read`
pub settled_listed_as : (r q : Result (Unit {0}) Refused) {t u : Table} {d : Listed} → (checked_as r).detail ≡ 0 → (checked_as q).detail ≡ 0
    → listed_as r t ≡ d → listed_as q u ≡ d → (r ≡ q) × (t ≡ u)
settled_listed_as r q y z h k =
    let e = h ∙ sym k in
    let f = y ∙ sym z in
    (answer_fixes r q (λ i. checked (e i).number (e i).place (f i)), ap (λ (l : Listed). l.table) e)
