-- 01's number and values fix the case: a promise through `reading_of` says which case was answered, and every reading of bytes is
-- a case's. Assumes nothing.
use Rattle.std.specs.Prelude.{ℕ, ◌*◌, ◌/◌, ◌<◌, ◌≡◌, refl, ◌⊎◌, Bool, true, false, cond, List, ltb, eqb, length, Option, None, Some, Result, Ok, Err}
use Rattle.std.proofs.Common.{sym, ap, subst, ◌∙◌, inl, inr, lt-ltb, ltb-true}
use Rattle.sets.proofs.laws.Bools.{clash}
use Rattle.events.specs.declared.Fields.{Fields}
use Rattle.events.specs.declared.Event.{Event}
use Rattle.network.specs.declared.refusal.Refusal.{Refusal}
use Rattle.network.specs.declared.refusal.Refusal.TheVariants.{UnknownCode, Unfit}
use Rattle.network.specs.laws.Numbers.{refusal_of, refusal_of_number}
use Rattle.events.specs.Event.{Read, Reading, taken, refused, ended, reading_of, read_of, or_seven, decode_of, fields_at, reading_at, read_at}

-- a case is found again from its reading, by its number
unfoldable case_of : Reading → Read
case_of r = cond r.found (Some (answer (refusal_of r.number))) None
  where
    answer : Option Refusal → Result Event Refusal
    answer (Some refusal) = Err refusal
    answer None = Ok r.event

case_of_lem : (r : Read) → case_of (reading_of r) ≡ r
unfolding case_of reading_of refusal_of
case_of_lem (Some (Ok e)) = refl
case_of_lem (Some (Err refusal)) = rw (refusal_of_number refusal)
case_of_lem None = refl

-- Two answers with the same number and values are the same case, since two refusals have two numbers.
pub reading_fixes : (a b : Read) → reading_of a ≡ reading_of b → a ≡ b
reading_fixes a b h = sym (case_of_lem a) ∙ (ap case_of h ∙ case_of_lem b)

-- a case that bytes give: of the refusals 6 and 7 alone
unfoldable Given : Read → Type 0
Given (Some (Ok e)) = Unit {0}
Given (Some (Err refusal)) = (refusal ≡ UnknownCode) ⊎ (refusal ≡ Unfit)
Given None = Unit {0}

-- Such a case is found again from its reading by `read_of`, too.
read_of_lem : (r : Read) → Given r → read_of (reading_of r) ≡ r
unfolding read_of reading_of Given
read_of_lem (Some (Ok e)) g = refl
read_of_lem (Some (Err refusal)) (inl h) = rw h
read_of_lem (Some (Err refusal)) (inr h) = rw h
read_of_lem None g = refl

-- a reading that some case has
unfoldable OfCase : Reading → Type 0
OfCase x = reading_of (read_of x) ≡ x

of_cond : (b : Bool) (x y : Reading) → OfCase x → OfCase y → OfCase (cond b x y)
of_cond true x y h k = h
of_cond false x y h k = k

of_seven : (b : Bool) (e : Event) → OfCase (or_seven b e)
unfolding OfCase or_seven reading_of read_of
of_seven true e = refl
of_seven false e = refl

of_six : OfCase (refused 6)
unfolding OfCase reading_of read_of
of_six = refl

of_end : OfCase ended
unfolding OfCase reading_of read_of
of_end = refl

of_fields : (f : Fields) → OfCase (decode_of f)
unfolding decode_of
of_fields f = kind 0 _ _ _ (kind 1 _ _ _ (kind 2 _ _ _ (kind 3 _ _ _ (kind 4 _ _ _ (kind 5 _ _ _ (kind 6 _ _ _ of_six))))))
  where
    kind : (code : ℕ) (b : Bool) (e : Event) (y : Reading) → OfCase y → OfCase (cond (eqb f.code code) (or_seven b e) y)
    kind code b e y k = of_cond (eqb f.code code) _ y (of_seven b e) k

of_bytes : (l : List ℕ) (place : ℕ) → OfCase (reading_at l place)
unfolding reading_at
of_bytes l place = of_cond (ltb place (length l / 16)) _ _ (of_fields _) of_end

-- Every reading of bytes is that of a case.
pub reading_at_lem : (l : List ℕ) (place : ℕ) → reading_of (read_at l place) ≡ reading_at l place
unfolding OfCase read_at
reading_at_lem l place = of_bytes l place

-- So the promise of reading gives the answer back as a case.
pub read_is : (r : Read) (l : List ℕ) (place : ℕ) → reading_of r ≡ reading_at l place → r ≡ read_at l place
read_is r l place h = reading_fixes r (read_at l place) (h ∙ sym (reading_at_lem l place))

-- Bytes are of such a case: what stands at a place is refused by 6 or by 7, and by nothing else.
given : (x : Reading) → Given (read_of x)
unfolding read_of Given
given x = first x.found (eqb x.number 0) (eqb x.number 6)
  where
    first : (found zero six : Bool) → Given (cond found (Some (cond zero (Ok x.event) (Err (cond six UnknownCode Unfit)))) None)
    first true true six = tt
    first true false true = inl refl
    first true false false = inr refl
    first false zero six = tt

pub refused_by_6_or_7 : (l : List ℕ) (place : ℕ) (refusal : Refusal) → read_at l place ≡ Some (Err refusal) → (refusal ≡ UnknownCode) ⊎ (refusal ≡ Unfit)
unfolding read_at Given
refused_by_6_or_7 l place refusal h = subst Given h (given (reading_at l place))

-- an event is taken at a place: as a case, and in numbers and values
pub reads_as : (l : List ℕ) (place : ℕ) (e : Event) → reading_at l place ≡ taken e → read_at l place ≡ Some (Ok e)
unfolding read_at read_of
reads_as l place e h = rw h

pub reading_taken : (l : List ℕ) (place : ℕ) (e : Event) → read_at l place ≡ Some (Ok e) → reading_at l place ≡ taken e
unfolding reading_of
reading_taken l place e h = sym (reading_at_lem l place) ∙ ap reading_of h

-- Within the bytes there is a record, whatever it holds.
found_cond : (b : Bool) (x y : Reading) → x.found ≡ true → y.found ≡ true → (cond b x y).found ≡ true
found_cond true x y h k = h
found_cond false x y h k = k

found_seven : (b : Bool) (e : Event) → (or_seven b e).found ≡ true
unfolding or_seven
found_seven true e = refl
found_seven false e = refl

found_fields : (f : Fields) → (decode_of f).found ≡ true
unfolding decode_of
found_fields f = kind 0 _ _ _ (kind 1 _ _ _ (kind 2 _ _ _ (kind 3 _ _ _ (kind 4 _ _ _ (kind 5 _ _ _ (kind 6 _ _ _ refl))))))
  where
    kind : (code : ℕ) (b : Bool) (e : Event) (y : Reading) → y.found ≡ true → (cond (eqb f.code code) (or_seven b e) y).found ≡ true
    kind code b e y k = found_cond (eqb f.code code) _ y (found_seven b e) k

pub never_ended : (l : List ℕ) (place : ℕ) → place < length l / 16 → read_at l place ≡ None → ⊥
unfolding reading_at reading_of
never_ended l place h e =
    let there : (reading_at l place).found ≡ true = rw (lt-ltb place (length l / 16) h) (found_fields _) in
    clash there (ap (λ (x : Reading). x.found) (sym (reading_at_lem l place) ∙ ap reading_of e))

-- whatever is answered but the end has found a record
found_some : (x : Result Event Refusal) → (reading_of (Some x)).found ≡ true
unfolding reading_of
found_some (Ok e) = refl
found_some (Err refusal) = refl

-- and it stands within the bytes
pub found_inside : (l : List ℕ) (place : ℕ) (x : Result Event Refusal) → reading_of (Some x) ≡ reading_at l place → place < length l / 16
unfolding reading_at
found_inside l place x h = first (ltb place (length l / 16)) refl h
  where
    first : (b : Bool) → ltb place (length l / 16) ≡ b → reading_of (Some x) ≡ cond b (decode_of (fields_at l (place * 16))) ended → place < length l / 16
    first true t k = ltb-true _ _ t
    first false t k = clash (found_some x) (ap (λ (r : Reading). r.found) k)

-- as an event that is taken does
pub taken_inside : (l : List ℕ) (place : ℕ) (e : Event) → read_at l place ≡ Some (Ok e) → place < length l / 16
taken_inside l place e k = found_inside l place (Ok e) (sym (ap reading_of k) ∙ reading_at_lem l place)
