-- Every promise of this crate has the form "the answer is d", "the answer's number and values are d", and for a lent buffer "the bytes
-- afterwards are d", where d is worked out from what was passed, on acceptance and refusal alike. So any two outcomes that satisfy it
-- are equal. Assumes nothing.
use Rattle.std.specs.Prelude.{ℕ, ◌≡◌, List, Some, Result}
use Rattle.std.proofs.Common.{sym, ap, ◌∙◌}
use Rattle.std.proofs.lemmas.Option.{same_Some}
use Rattle.std.specs.Borrow.{Bor}
use Rattle.network.specs.declared.refusal.Refusal.{Refusal}
use Rattle.events.specs.declared.Event.{Event}
use Rattle.events.specs.declared.Reader.{Reader}
use Rattle.events.specs.Event.{Read, Reading, reading_of}
use Rattle.events.specs.Reader.{stepped, NextRead}
use Rattle.events.specs.laws.ReadingLaws.{reading_fixes}

-- two outcomes that satisfy one promise are equal: for every answer and every lent byte
pub settled : {A : Type 0} {d x y : A} → x ≡ d → y ≡ d → x ≡ y
settled p q = p ∙ sym q

-- the same for the promises of reading, which give the answer by its number and values
pub settled_read : (a b : Read) {d : Reading} → reading_of a ≡ d → reading_of b ≡ d → a ≡ b
settled_read a b p q = reading_fixes a b (settled p q)

-- and for those of reading a record's fields, where one is there
pub settled_fields : (a b : Result Event Refusal) {d : Reading} → reading_of (Some a) ≡ d → reading_of (Some b) ≡ d → a ≡ b
settled_fields a b p q = same_Some a b (settled_read (Some a) (Some b) p q)

-- the same for the promise of `Reader::new`, which gives a reader by its two fields
pub settled_reader : (q r : Reader) {s : Bor (List ℕ)} {n : ℕ} → (q.bytes ≡ s) × (q.place ≡ n) → (r.bytes ≡ s) × (r.place ≡ n) → q ≡ r
settled_reader q r h k = λ i. record { bytes = settled h.0 k.0 i; place = settled h.1 k.1 i }

-- and for that of its `next`, which gives the answer and the reader afterwards
pub settled_next : (a b : Read) {old q r : Reader} → NextRead old a q → NextRead old b r → (a ≡ b) × (q ≡ r)
settled_next a b {old} h k =
    let same = settled_read a b h.answer k.answer in
    (same, h.reader ∙ (ap (stepped old) same ∙ sym k.reader))
