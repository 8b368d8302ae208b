-- Laws of one event that was read, for the function that does it: by what was read, and by how it ended. Assumes nothing.
use Rattle.std.specs.Prelude.{◌≡◌, refl, ℕ, zero, suc, Some, None, Ok, Err}
use Rattle.std.proofs.Common.{sym, ap, ◌∙◌}
use Rattle.network.specs.declared.refusal.Refusal.{Refusal}
use Rattle.network.specs.Refusal.{number_of, number}
use Rattle.network.specs.declared.Network.{Network}
use Rattle.network.specs.declared.Table.{Table}
use Rattle.events.specs.Kind.{kind_of}
use Rattle.floodnet.specs.Step.{refusal, effect, if_accepted, after, receivers_of, turned, turned_of, received, numbered}
use Rattle.floodnet.specs.declared.Turned.{Turned}
use Rattle.engine.specs.Run.{turn_of}
use Rattle.events.specs.Event.{Read}
use Rattle.network.specs.laws.Numbers.{refusal_not_0}

-- an accepted event; a refused one
pub turned_ok : (t : Turned) {to : ℕ} → t.outcome ≡ Ok to → ((numbered t).number ≡ 0) × ((numbered t).receivers ≡ to)
turned_ok t e = (ap number e, ap received e)

pub turned_err : (t : Turned) {k : Refusal} → t.outcome ≡ Err k → ((numbered t).number ≡ number_of k) × ((numbered t).number ≡ 0 → ⊥)
turned_err t {k} e = (ap number e, λ z. refusal_not_0 k (sym (ap number e) ∙ z))

-- a refused event leaves the network as it was
pub refused_same : (b : Table) (n : Network) (read : Read) → ((turn_of b n read).turned.number ≡ 0 → ⊥) → (turn_of b n read).network ≡ n
unfolding turn_of turned_of turned after if_accepted
refused_same b n (Some (Ok e)) h = first (refusal n b e) h
  where
    first : (k : ℕ) → ((turned k (kind_of e) (receivers_of n b e)).number ≡ 0 → ⊥) → if_accepted k (effect n b e) n ≡ n
    first zero z = absurd (z refl)
    first (suc k) z = refl
refused_same b n (Some (Err refusal)) h = refl
refused_same b n None h = refl
