-- Two refusals have two numbers, and none has 0. Assumes nothing.
use Rattle.std.specs.Prelude.{ℕ, ◌≡◌, refl, cond, eqb, Option, None, Some}
use Rattle.std.proofs.Common.{sym, ap, ◌∙◌}
use Rattle.std.proofs.lemmas.Option.{same_Some, none-some}
use Rattle.network.specs.declared.refusal.Refusal.{Refusal}
use Rattle.network.specs.declared.refusal.Refusal.TheVariants.{StateLength, TableLength, EventsLength, BadRow, UnknownCode, Unfit, PeerAbsent, PeerPresent, NotOrigin, NotPublished, NotNew, NotPending, StillPending, NamesItself, NamesAbsent, InputLength, ImageLength, BadHead, AbsentNotEmpty, OwnNeighbour, NeighbourAbsent, NotListedBack, KnownWrong, PendingSeen}
use Rattle.network.specs.Refusal.{number_of}

-- the refusal that has a number, where one has
unfoldable pub refusal_of : ℕ → Option Refusal
refusal_of n =
    cond (eqb n 1) (Some StateLength)
    (cond (eqb n 2) (Some TableLength)
    (cond (eqb n 3) (Some EventsLength)
    (cond (eqb n 4) (Some BadRow)
    (cond (eqb n 6) (Some UnknownCode)
    (cond (eqb n 7) (Some Unfit)
    (cond (eqb n 8) (Some PeerAbsent)
    (cond (eqb n 9) (Some PeerPresent)
    (cond (eqb n 10) (Some NotOrigin)
    (cond (eqb n 11) (Some NotPublished)
    (cond (eqb n 12) (Some NotNew)
    (cond (eqb n 13) (Some NotPending)
    (cond (eqb n 14) (Some StillPending)
    (cond (eqb n 15) (Some NamesItself)
    (cond (eqb n 16) (Some NamesAbsent)
    (cond (eqb n 17) (Some InputLength)
    (cond (eqb n 18) (Some ImageLength)
    (cond (eqb n 20) (Some BadHead)
    (cond (eqb n 21) (Some AbsentNotEmpty)
    (cond (eqb n 22) (Some OwnNeighbour)
    (cond (eqb n 23) (Some NeighbourAbsent)
    (cond (eqb n 24) (Some NotListedBack)
    (cond (eqb n 25) (Some KnownWrong)
    (cond (eqb n 26) (Some PendingSeen)
    None)))))))))))))))))))))))

pub refusal_of_number : (r : Refusal) → refusal_of (number_of r) ≡ Some r
unfolding refusal_of
refusal_of_number StateLength = refl
refusal_of_number TableLength = refl
refusal_of_number EventsLength = refl
refusal_of_number BadRow = refl
refusal_of_number UnknownCode = refl
refusal_of_number Unfit = refl
refusal_of_number PeerAbsent = refl
refusal_of_number PeerPresent = refl
refusal_of_number NotOrigin = refl
refusal_of_number NotPublished = refl
refusal_of_number NotNew = refl
refusal_of_number NotPending = refl
refusal_of_number StillPending = refl
refusal_of_number NamesItself = refl
refusal_of_number NamesAbsent = refl
refusal_of_number InputLength = refl
refusal_of_number ImageLength = refl
refusal_of_number BadHead = refl
refusal_of_number AbsentNotEmpty = refl
refusal_of_number OwnNeighbour = refl
refusal_of_number NeighbourAbsent = refl
refusal_of_number NotListedBack = refl
refusal_of_number KnownWrong = refl
refusal_of_number PendingSeen = refl

pub refusal_of_zero : refusal_of 0 ≡ None
unfolding refusal_of
refusal_of_zero = refl

-- Two refusals with the same number are the same.
pub number_of_injective : (a b : Refusal) → number_of a ≡ number_of b → a ≡ b
number_of_injective a b h = same_Some a b (sym (refusal_of_number a) ∙ (ap refusal_of h ∙ refusal_of_number b))

-- "0 | done": no refusal has the number 0.
pub refusal_not_0 : (r : Refusal) → number_of r ≡ 0 → ⊥
refusal_not_0 r h = none-some r (sym refusal_of_zero ∙ (ap refusal_of (sym h) ∙ refusal_of_number r))
