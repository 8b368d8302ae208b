-- Laws of specs/Le.antt. Assumes nothing.
use Rattle.std.specs.Prelude.{ℕ, zero, suc, ◌+◌, ◌*◌, ◌/◌, ◌%◌, ◌^◌, ◌≤◌, ◌<◌, ◌≡◌, refl, List, [], ◌∷◌, length, get_or, set}
use Rattle.std.proofs.Common.{div-add-mod', mod-eq_of_lt, mod-lt, arith, sym, ◌∙◌, length-set, get_or-set_same, get_or-set_other}
use Rattle.std.proofs.Math.Pow.{mod-mod-pow, field}
use Rattle.std.proofs.lemmas.List.{set-get_or}
use Rattle.endian.specs.Le.{le, put_le}

-- how many numbers n bytes can hold
unfoldable pub span : ℕ → ℕ
span zero = 1
span (suc n) = 256 * span n

-- every element is a byte
abbrev pub Bytes : List ℕ → Type 0
Bytes bs = (i : ℕ) → get_or bs i 0 < 256

-- 513 is 1 + 2 * 256: its lowest byte, 1, comes first
lowest_first : (le 4 (9 ∷ 1 ∷ 2 ∷ 0 ∷ 0 ∷ []) 1 ≡ 513) × (put_le 4 (9 ∷ 9 ∷ 9 ∷ 9 ∷ 9 ∷ 9 ∷ []) 1 513 ≡ 9 ∷ 1 ∷ 2 ∷ 0 ∷ 0 ∷ 9 ∷ [])
unfolding le put_le
lowest_first = (refl, refl)

-- ---- ranges

-- Four bytes hold the numbers of 32 bits, and eight those of 64.
pub span_4 : span 4 ≡ 2 ^ 32
unfolding span
span_4 = refl

pub span_8 : span 8 ≡ 2 ^ 64
unfolding span
span_8 = refl

-- What is read from bytes is within their span.
pub le_lt : (n : ℕ) (bs : List ℕ) (at : ℕ) → Bytes bs → le n bs at < span n
unfolding le span
le_lt zero bs at h = omega arith
le_lt (suc n) bs at h = omega (arith, h at, le_lt n bs (suc at) h)

pub le_lt_4 : (bs : List ℕ) (at : ℕ) → Bytes bs → le 4 bs at < 2 ^ 32
le_lt_4 bs at h = rw span_4 at (le_lt 4 bs at h)

pub le_lt_8 : (bs : List ℕ) (at : ℕ) → Bytes bs → le 8 bs at < 2 ^ 64
le_lt_8 bs at h = rw span_8 at (le_lt 8 bs at h)

-- A byte that is stored leaves bytes.
pub bytes_set : (bs : List ℕ) (at v : ℕ) → v < 256 → Bytes bs → Bytes (set bs at v)
bytes_set [] at v l h i = h i
bytes_set (b ∷ bs) zero v l h zero = l
bytes_set (b ∷ bs) zero v l h (suc i) = h (suc i)
bytes_set (b ∷ bs) (suc at) v l h zero = h 0
bytes_set (b ∷ bs) (suc at) v l h (suc i) = bytes_set bs at v l (λ j. h (suc j)) i

-- So does a number that is written.
pub bytes_put_le : (n : ℕ) (bs : List ℕ) (at x : ℕ) → Bytes bs → Bytes (put_le n bs at x)
unfolding put_le
bytes_put_le zero bs at x h = h
bytes_put_le (suc n) bs at x h = bytes_put_le n (set bs at (x % 256)) (suc at) (x / 256) (bytes_set bs at (x % 256) (omega arith) h)

-- ---- the other bytes stay

-- Nothing is added or dropped.
pub length_put_le : (n : ℕ) (bs : List ℕ) (at x : ℕ) → length (put_le n bs at x) ≡ length bs
unfolding put_le
length_put_le zero bs at x = refl
length_put_le (suc n) bs at x = length_put_le n (set bs at (x % 256)) (suc at) (x / 256) ∙ length-set bs at (x % 256)

-- A byte before the place is not touched.
pub before_put_le : (n : ℕ) (bs : List ℕ) (at x i : ℕ) → i < at → get_or (put_le n bs at x) i 0 ≡ get_or bs i 0
unfolding put_le
before_put_le zero bs at x i h = refl
before_put_le (suc n) bs at x i h =
    before_put_le n (set bs at (x % 256)) (suc at) (x / 256) i (omega arith)
    ∙ get_or-set_other bs at i (x % 256) 0 (λ e. omega arith)

-- Nor is one behind the number.
pub after_put_le : (n : ℕ) (bs : List ℕ) (at x i : ℕ) → at + n ≤ i → get_or (put_le n bs at x) i 0 ≡ get_or bs i 0
unfolding put_le
after_put_le zero bs at x i h = refl
after_put_le (suc n) bs at x i h =
    after_put_le n (set bs at (x % 256)) (suc at) (x / 256) i (omega arith)
    ∙ get_or-set_other bs at i (x % 256) 0 (λ e. omega arith)

-- What is read depends on its n bytes alone.
pub le_same : (n : ℕ) (bs cs : List ℕ) (at : ℕ) → ((i : ℕ) → at ≤ i → i < at + n → get_or bs i 0 ≡ get_or cs i 0) → le n bs at ≡ le n cs at
unfolding le
le_same zero bs cs at h = refl
le_same (suc n) bs cs at h =
    let e = h at (omega arith) (omega arith) in
    let r = le_same n bs cs (suc at) (λ i a b. h i (omega arith) (omega arith)) in
    cc

-- ---- round trips

-- What was written is read.
pub le_put_le : (n : ℕ) (bs : List ℕ) (at x : ℕ) → at + n ≤ length bs → x < span n → le n (put_le n bs at x) at ≡ x
unfolding le put_le span
le_put_le zero bs at x h f = omega arith
le_put_le (suc n) bs at x h f =
    let cs = set bs at (x % 256) in
    let l = length-set bs at (x % 256) in
    let a = before_put_le n cs (suc at) (x / 256) at (omega arith) in
    let b = get_or-set_same bs at (x % 256) 0 (omega arith) in
    let d = div-add-mod' x 256 in
    let r = le_put_le n cs (suc at) (x / 256) (omega arith) (omega arith) in
    omega arith

-- The lowest byte of what is read, and the others.
le_parts : (n : ℕ) (bs : List ℕ) (at : ℕ) → Bytes bs → (le (suc n) bs at % 256 ≡ get_or bs at 0) × (le (suc n) bs at / 256 ≡ le n bs (suc at))
unfolding le
le_parts n bs at h = let l = h at in (omega arith, omega arith)

-- What was read, written back, changes nothing.
pub put_le_le : (n : ℕ) (bs : List ℕ) (at : ℕ) → Bytes bs → put_le n bs at (le n bs at) ≡ bs
unfolding put_le
put_le_le zero bs at h = refl
put_le_le (suc n) bs at h =
    let p = le_parts n bs at h in
    rw (p.0, p.1, set-get_or bs at 0) (put_le_le n bs (suc at) h)

-- What was read, written elsewhere, is a copy of its bytes.
pub put_le_copies : (n : ℕ) (bs cs : List ℕ) (at to i : ℕ) → Bytes bs → to + n ≤ length cs → i < n
    → get_or (put_le n cs to (le n bs at)) (to + i) 0 ≡ get_or bs (at + i) 0
unfolding put_le
put_le_copies zero bs cs at to i h l b = absurd (omega arith)
put_le_copies (suc n) bs cs at to zero h l b =
    let e : to + 0 ≡ to = omega arith in
    let f : at + 0 ≡ at = omega arith in
    rw (e, f) (before_put_le n _ (suc to) _ to (omega arith) ∙ get_or-set_same cs to _ 0 (omega arith) ∙ (le_parts n bs at h).0)
put_le_copies (suc n) bs cs at to (suc i) h l b =
    let e : to + suc i ≡ suc to + i = omega arith in
    let f : at + suc i ≡ suc at + i = omega arith in
    rw (e, f, (le_parts n bs at h).1) (put_le_copies n bs (set cs to _) (suc at) (suc to) i h (rw length-set (omega arith)) (omega arith))

-- ---- the forms that the code has

-- Four bytes, the lowest first.
pub le_4 : (bs : List ℕ) (at : ℕ) → le 4 bs at ≡ get_or bs at 0 + 256 * (get_or bs (at + 1) 0 + 256 * (get_or bs (at + 2) 0 + 256 * get_or bs (at + 3) 0))
unfolding le
le_4 bs at =
    let e1 : suc at ≡ at + 1 = omega arith in
    let e2 : suc (suc at) ≡ at + 2 = omega arith in
    let e3 : suc (suc (suc at)) ≡ at + 3 = omega arith in
    rw (e3, e2, e1) (omega arith)

-- Eight bytes are four and four.
pub le_8 : (bs : List ℕ) (at : ℕ) → le 8 bs at ≡ le 4 bs at + 4294967296 * le 4 bs (at + 4)
unfolding le
le_8 bs at =
    let e : at + 4 ≡ suc (suc (suc (suc at))) = omega arith in
    rw e (omega arith)

-- Four stores, the lowest byte first.
pub put_le_4 : (bs : List ℕ) (at x : ℕ) → put_le 4 bs at x
    ≡ set (set (set (set bs at (x % 256)) (at + 1) (x / 256 % 256)) (at + 2) (x / 256 / 256 % 256)) (at + 3) (x / 256 / 256 / 256 % 256)
unfolding put_le
put_le_4 bs at x =
    let e1 : suc at ≡ at + 1 = omega arith in
    let e2 : suc (suc at) ≡ at + 2 = omega arith in
    let e3 : suc (suc (suc at)) ≡ at + 3 = omega arith in
    cc

-- Eight bytes are written as four and four.
pub put_le_8 : (bs : List ℕ) (at x : ℕ) → put_le 8 bs at x ≡ put_le 4 (put_le 4 bs at (x % 4294967296)) (at + 4) (x / 4294967296)
unfolding put_le
put_le_8 bs at x =
    let e : at + 4 ≡ suc (suc (suc (suc at))) = omega arith in
    let a0 : x % 4294967296 % 256 ≡ x % 256 = mod-mod-pow x 24 8 in
    let f1 : x % 4294967296 / 256 ≡ x / 256 % 16777216 = field x 24 8 in
    let a1 : x / 256 % 16777216 % 256 ≡ x / 256 % 256 = mod-mod-pow (x / 256) 16 8 in
    let f2 : x / 256 % 16777216 / 256 ≡ x / 256 / 256 % 65536 = field (x / 256) 16 8 in
    let a2 : x / 256 / 256 % 65536 % 256 ≡ x / 256 / 256 % 256 = mod-mod-pow (x / 256 / 256) 8 8 in
    let f3 : x / 256 / 256 % 65536 / 256 ≡ x / 256 / 256 / 256 % 256 = field (x / 256 / 256) 8 8 in
    let a3 : x / 256 / 256 / 256 % 256 % 256 ≡ x / 256 / 256 / 256 % 256 = mod-eq_of_lt (mod-lt _ (omega arith)) in
    let h : x / 4294967296 ≡ x / 256 / 256 / 256 / 256 = omega arith in
    cc

-- The low half is written, then the high half.
pub put_le_halves : {cs ds : List ℕ} (bs : List ℕ) (at x : ℕ) → cs ≡ put_le 4 bs at (x % 4294967296)
    → ds ≡ put_le 4 cs (at + 4) (x / 4294967296) → ds ≡ put_le 8 bs at x
put_le_halves bs at x e f = rw (f, e) (sym (put_le_8 bs at x))
