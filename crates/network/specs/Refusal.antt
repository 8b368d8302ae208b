-- The numbers of document 01 ("Numbers returned") and of 02's E1, each with its refusal. Assumes nothing.
use Rattle.std.specs.Prelude.{ℕ, Result, Ok, Err}
use Rattle.network.specs.declared.refusal.Refusal.{Refusal}
use Rattle.network.specs.declared.refusal.Refusal.TheVariants.{StateLength, TableLength, EventsLength, BadRow, UnknownCode, Unfit, PeerAbsent, PeerPresent, NotOrigin, NotPublished, NotNew, NotPending, StillPending, NamesItself, NamesAbsent, InputLength, ImageLength, BadHead, AbsentNotEmpty, OwnNeighbour, NeighbourAbsent, NotListedBack, KnownWrong, PendingSeen}

-- the number of a refusal
abbrev pub number_of : Refusal → ℕ
number_of StateLength = 1
number_of TableLength = 2
number_of EventsLength = 3
number_of BadRow = 4
number_of UnknownCode = 6
number_of Unfit = 7
number_of PeerAbsent = 8
number_of PeerPresent = 9
number_of NotOrigin = 10
number_of NotPublished = 11
number_of NotNew = 12
number_of NotPending = 13
number_of StillPending = 14
number_of NamesItself = 15
number_of NamesAbsent = 16
number_of InputLength = 17
number_of ImageLength = 18
number_of BadHead = 20
number_of AbsentNotEmpty = 21
number_of OwnNeighbour = 22
number_of NeighbourAbsent = 23
number_of NotListedBack = 24
number_of KnownWrong = 25
number_of PendingSeen = 26

-- the number of an answer: "0 | done"
abbrev pub number : {A : Type 0} → Result A Refusal → ℕ
number (Ok a) = 0
number (Err refusal) = number_of refusal
