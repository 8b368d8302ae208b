-- Laws of the run program: what is read of an input, that nothing is lost by it, and that the whole answer is written. Assumes nothing.
use Rattle.std.specs.Prelude.{None, Some}
use Rattle.std.proofs.Common.{◌≡◌, sym, ap, subst, ◌∙◌, ℕ, ◌+◌, ◌<◌, ◌≤◌, List, ◌++◌, append-nil, length, take, drop, drop_at, length-take-le, IfSome, arith, le_refl}
use Rattle.std.proofs.KnownBytes.{Consumes-trans}
use borrow.Rule.Slice.PartMut.{put_mid, post_of}
use native.Mathlib.Decide.{dec_lt}
use Rattle.std.proofs.lemmas.Bool.{lt-ltb, le-ltb}
use Rattle.std.proofs.lemmas.List.{length-take, take-append-le, take_all, take_at}
use Rattle.std.proofs.lemmas.Slice.{take-put_mid_below}
use Rattle.std.proofs.Math.Seq.{take-add, take-append_seam}
use Rattle.std.specs.declared.option.Option.{Option}
use Rattle.std.specs.Io.KnownBytes.{Consumes, IsAtEnd}
use Rattle.report.specs.Report.{put_in, count_in}
use Rattle.console.specs.Console.{flood_of, Printed}

-- What was read stands before `at`. One read more, into what lies from there on, puts n bytes behind it, and the front ends at e.
pub read_more : (known mid left : Option (List ℕ)) (at room n e : ℕ) (buf part : List ℕ) → at + n ≡ e → at ≤ length buf → n ≤ length part
    → Consumes known mid (take at buf) → Consumes mid left (take n part)
    → Consumes known left (take e (put_mid at room buf part))
read_more known mid left at room n e buf part ends within fits before read =
    let front = take-put_mid_below at room buf part at (le_refl at) within in
    let behind = drop_at (take at buf) (part ++ post_of at room buf) at (length-take-le at buf within) in
    let joined : take e (put_mid at room buf part) ≡ take at buf ++ take n part = rw (← ends, take-add, front, behind, take-append-le) in
    rw joined (Consumes-trans known mid left (take at buf) (take n part) before read)

-- Where nothing is left, or no room, what was read is the front of all.
pub read_known : (known left : Option (List ℕ)) (got : List ℕ) (room : ℕ) → length got ≤ room → Consumes known left got
    → (length got < room → IsAtEnd left)
    → IfSome known (λ bytes. got ≡ take room bytes)
read_known None left got room fits read end = tt
read_known (Some bytes) None got room fits read end = absurd read
read_known (Some bytes) (Some rest) got room fits read end = both (dec_lt (length got) room)
  where
    both : Dec (length got < room) → got ≡ take room bytes
    both (yes h) =
        let whole : bytes ≡ got = read ∙ ap (λ (x : List ℕ). got ++ x) (end h) ∙ append-nil got in
        rw whole (sym (take_all room got fits))
    both (no h) =
        let full : length got ≡ room = omega arith in
        rw read (sym (take_at got rest room full))

-- In a buffer of 1,024 bytes or more what was counted is the whole text.
pub whole_text : (text entry exit : List ℕ) (r : ℕ) → 1024 ≤ length entry → Printed text entry exit r → take r exit ≡ text
unfolding put_in count_in
whole_text text entry exit r h w =
    let e = rw (le-ltb (length entry) 1024 h) at w.count in
    let b = rw (le-ltb (length entry) 1024 h) at w.bytes in
    rw (e, b) (take-append_seam text (drop (length text) entry))

-- One byte more than is taken is enough: what lies behind it changes nothing.
pub flood_first : (input : List ℕ) → flood_of (take 65537 input) ≡ flood_of input
unfolding flood_of
flood_first input = both (dec_lt 65536 (length input))
  where
    both : Dec (65536 < length input) → flood_of (take 65537 input) ≡ flood_of input
    both (yes h) =
        let k : 65536 < length (take 65537 input) = omega (arith, length-take 65537 input) in
        rw (lt-ltb 65536 (length input) h, lt-ltb 65536 (length (take 65537 input)) k)
    both (no h) = ap (λ (x : List ℕ). flood_of x) (take_all 65537 input (omega arith))

-- What holds of the answer to what was read holds of the answer to the whole input.
pub answered : (known : Option (List ℕ)) (P : List ℕ → Type 0) (got : List ℕ) → IfSome known (λ bytes. got ≡ take 65537 bytes)
    → P (flood_of got)
    → IfSome known (λ bytes. P (flood_of bytes))
answered None P got h p = h
answered (Some bytes) P got h p = subst P (ap (λ (x : List ℕ). flood_of x) h ∙ flood_first bytes) p
