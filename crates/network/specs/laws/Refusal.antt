-- Laws of specs/Refusal.antt. Assumes nothing.
use Rattle.std.specs.Prelude.{◌≡◌, refl, Bool, true, false, Ok, Err, ℕ, ◌<◌, ◌≤◌, ltb}
use Rattle.std.proofs.Common.{arith, ltb-true}
use Rattle.std.proofs.lemmas.Bool.{ltb-false}
use Rattle.network.specs.declared.refusal.Refusal.{Refusal}
use Rattle.network.specs.declared.refusal.Refusal.TheVariants.{StateLength, TableLength, EventsLength, BadRow, UnknownCode, Unfit, PeerAbsent, PeerPresent, NotOrigin, NotPublished, NotNew, NotPending, StillPending, NamesItself, NamesAbsent, InputLength, ImageLength, BadHead, AbsentNotEmpty, OwnNeighbour, NeighbourAbsent, NotListedBack, KnownWrong, PendingSeen}
use Rattle.network.specs.Refusal.{number_of}
use Rattle.network.specs.Refused.{OrUnfit}
use Rattle.network.specs.declared.Network.{Network}
use Rattle.network.specs.declared.Peer.{Peer}
use Rattle.network.specs.Rules.{detail_of}

-- "23 to 25 also give the lowest peer or topic at fault (0 otherwise)"
pub detail_else : (r : Refusal) (n : Network) (p : Peer) → (r ≡ NeighbourAbsent → ⊥) → (r ≡ NotListedBack → ⊥) → (r ≡ KnownWrong → ⊥) → 0 ≡ detail_of (number_of r) n p
unfolding detail_of
detail_else StateLength n p a b c = refl
detail_else TableLength n p a b c = refl
detail_else EventsLength n p a b c = refl
detail_else BadRow n p a b c = refl
detail_else UnknownCode n p a b c = refl
detail_else Unfit n p a b c = refl
detail_else PeerAbsent n p a b c = refl
detail_else PeerPresent n p a b c = refl
detail_else NotOrigin n p a b c = refl
detail_else NotPublished n p a b c = refl
detail_else NotNew n p a b c = refl
detail_else NotPending n p a b c = refl
detail_else StillPending n p a b c = refl
detail_else NamesItself n p a b c = refl
detail_else NamesAbsent n p a b c = refl
detail_else InputLength n p a b c = refl
detail_else ImageLength n p a b c = refl
detail_else BadHead n p a b c = refl
detail_else AbsentNotEmpty n p a b c = refl
detail_else OwnNeighbour n p a b c = refl
detail_else NeighbourAbsent n p a b c = absurd (a refl)
detail_else NotListedBack n p a b c = absurd (b refl)
detail_else KnownWrong n p a b c = absurd (c refl)
detail_else PendingSeen n p a b c = refl

-- A byte that was taken for a peer or a message is one; one that was refused, by 7, is none.
pub unfit_ok : {A : Type 0} (a : A) {r : A} (i n : ℕ) → OrUnfit (ltb i n) a (Ok r) → (i < n) × (r ≡ a)
unfit_ok a {r} i n = go (ltb i n) refl
  where
    go : (b : Bool) → ltb i n ≡ b → OrUnfit b a (Ok r) → (i < n) × (r ≡ a)
    go true e u = (ltb-true i n e, cc)
    go false e u = cc

pub unfit_err : {A : Type 0} (a : A) {k : Refusal} (i n : ℕ) → OrUnfit (ltb i n) a (Err k) → (n ≤ i) × (k ≡ Unfit)
unfit_err a {k} i n = go (ltb i n) refl
  where
    go : (b : Bool) → ltb i n ≡ b → OrUnfit b a (Err k) → (n ≤ i) × (k ≡ Unfit)
    go true e u = cc
    go false e u = (ltb-false i n e, cc)
