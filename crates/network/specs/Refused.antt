-- An answer that may be refused, in the numbers of document 01: zeros, or the number, the place and the detail. Assumes nothing.
use Rattle.std.specs.Prelude.{◌≡◌, Bool, true, false, Result, Ok, Err}
use Rattle.network.specs.declared.Checked.{Checked}
use Rattle.network.specs.declared.Refused.{Refused}
use Rattle.network.specs.declared.refusal.Refusal.{Refusal}
use Rattle.network.specs.declared.refusal.Refusal.TheVariants.{Unfit}
use Rattle.network.specs.Refusal.{number_of}
use Rattle.network.specs.Rules.{checked}

abbrev pub checked_as : {A : Type 0} → Result A Refused → Checked
checked_as (Ok a) = checked 0 0 0
checked_as (Err r) = checked (number_of r.refusal) r.place r.detail

-- a refusal of nothing in particular
abbrev pub at_zero : Refusal → Refused
at_zero refusal = record { refusal = refusal; place = 0; detail = 0 }

-- a, where it is one of those that there are; else refused by 7
abbrev pub OrUnfit : {A : Type 0} → Bool → A → Result A Refusal → Type 0
OrUnfit true a answer = answer ≡ Ok a
OrUnfit false a answer = answer ≡ Err Unfit
