-- Laws of specs/Write.antt. Assumes nothing.
use Rattle.std.proofs.Common.{◌≡◌, refl, sym, ap, ◌∙◌, List, [], ◌∷◌, ◌++◌, ℕ, suc, ◌+◌, ◌≤◌, length, set, take, drop, arith, append_assoc, length-append}
use Rattle.std.proofs.lemmas.List.Edits.{sets, sets-eq, paste_all}
use Rattle.std.proofs.lemmas.Slice.{put_mid-paste}
use borrow.Rule.Slice.PartMut.{put_mid}
use Rattle.report.specs.declared.text.Page.{Page}
use Rattle.report.specs.Write.{written, Wrote, Put}

-- as a cut and a paste, where there is room
written_is : (l : List ℕ) (at : ℕ) (bs : List ℕ) → at + length bs ≤ length l → written l at bs ≡ take at l ++ bs ++ drop (at + length bs) l
unfolding written
written_is l at bs h = sets-eq bs l at h

-- from the start on: the bytes, then what stood behind them
written_front : (l bs : List ℕ) → length bs ≤ length l → written l 0 bs ≡ bs ++ drop (length bs) l
written_front l bs h =
    let e : 0 + length bs ≡ length bs = omega arith in
    written_is l 0 bs (omega arith) ∙ ap (λ (k : ℕ). bs ++ drop k l) e

-- Bytes behind bytes.
written_append : (l : List ℕ) (at : ℕ) (bs cs : List ℕ) → written (written l at bs) (at + length bs) cs ≡ written l at (bs ++ cs)
unfolding written
written_append l at [] cs =
    let e : at + 0 ≡ at = omega arith in
    ap (λ (k : ℕ). sets l k cs) e
written_append l at (b ∷ bs) cs =
    let e : at + suc (length bs) ≡ suc at + length bs = omega arith in
    ap (λ (k : ℕ). sets (sets (set l at b) (suc at) bs) k cs) e ∙ written_append (set l at b) (suc at) bs cs

-- from the start on: the bytes, then what stood behind them
pub wrote_front : {l bs r : List ℕ} {j : ℕ} → j ≤ length l → Wrote l 0 bs r j → (j ≡ length bs) × (r ≡ bs ++ drop j l)
wrote_front {l} {bs} {r} {j} h w =
    let e : j ≡ length bs = omega (arith, w.place) in
    (e, w.buffer ∙ rw e (written_front l bs (omega arith)))

-- nothing yet
wrote_none : (l : List ℕ) (at : ℕ) → Wrote l at [] l at
unfolding written
wrote_none l at = record { place = omega arith; buffer = refl }

-- one write after the other
wrote_then : {l : List ℕ} {at : ℕ} {bs r cs s : List ℕ} {j k : ℕ} → Wrote l at bs r j → Wrote r j cs s k → Wrote l at (bs ++ cs) s k
wrote_then {l} {at} {bs} {r} {cs} {s} {j} {k} v w =
    record {
      place = omega (arith, v.place, w.place, length-append bs cs);
      buffer = w.buffer ∙ rw (v.place, v.buffer) (written_append l at bs cs);
    }

-- a part of the buffer overwritten with bs
pub wrote_part : (l : List ℕ) (at k : ℕ) (bs r : List ℕ) → at + length bs ≤ length l → k ≡ length bs → r ≡ bs
    → Wrote l at bs (put_mid at k l r) (at + length bs)
wrote_part l at k bs r h e z =
    record {
      place = refl;
      buffer =
          put_mid-paste at k l r bs (length bs) z (sym e) refl
          ∙ paste_all l at bs (length bs) refl
          ∙ sym (append_assoc (take at l) bs (drop (at + length bs) l))
          ∙ sym (written_is l at bs h);
    }

-- ---- the same of pages

-- nothing yet
pub put_none : (p : Page) → Put p [] p
put_none p = record { wrote = wrote_none p.out.now p.at; long = refl; same = refl }

-- one write after the other
pub put_then : {p q r : Page} {bs cs : List ℕ} → Put p bs q → Put q cs r → Put p (bs ++ cs) r
put_then v w = record { wrote = wrote_then v.wrote w.wrote; long = w.long ∙ v.long; same = w.same ∙ v.same }
