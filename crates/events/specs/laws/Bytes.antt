-- Fields stored in bytes are found there again, and storing what is there changes nothing. Assumes nothing.
use Rattle.std.specs.Prelude.{ℕ, zero, suc, ◌+◌, ◌/◌, ◌%◌, ◌≤◌, ◌<◌, ◌≡◌, List, length, get_or, set}
use Rattle.std.proofs.Common.{arith, sym, ◌∙◌, length-set, get_or-set_same, get_or-set_other, ext_get_or}
use Rattle.std.proofs.Math.Decide.{ℕ_discrete}
use Rattle.std.proofs.lemmas.List.{set-get_or}
use Rattle.endian.specs.Le.{le, put_le}
use Rattle.endian.specs.laws.Le.{length_put_le, before_put_le, le_same, le_put_le, put_le_le, span, Bytes, le_lt_4}
use Rattle.events.specs.declared.Fields.{Fields}
use Rattle.events.specs.Event.{fields_at}
use Rattle.events.specs.Writing.{put_head, put_fields}
use Rattle.events.specs.laws.Fits.{WordsFit}
use Rattle.events.specs.laws.Decoded.{fields_path}

-- the words of fields that stand in bytes fit
pub words_fit : (l : List ℕ) (at : ℕ) → Bytes l → WordsFit (fields_at l at)
unfolding fields_at
words_fit l at h = record { subs = le_lt_4 l (at + 4) h; pubs = le_lt_4 l (at + 8) h; neighbours = le_lt_4 l (at + 12) h }

pub length_put_head : (l : List ℕ) (at : ℕ) (f : Fields) → length (put_head l at f) ≡ length l
unfolding put_head
length_put_head l at f = simp length-set

pub length_put_fields : (l : List ℕ) (at : ℕ) (f : Fields) → length (put_fields l at f) ≡ length l
unfolding put_fields
length_put_fields l at f = simp (length_put_le, length_put_head)

-- a byte of the head is not touched by the words
head_kept : (l : List ℕ) (at : ℕ) (f : Fields) (i : ℕ) → i < at + 4 → get_or (put_fields l at f) i 0 ≡ get_or (put_head l at f) i 0
unfolding put_fields
head_kept l at f i h =
    before_put_le 4 _ (at + 12) f.neighbours i (omega arith)
    ∙ (before_put_le 4 _ (at + 8) f.pubs i (omega arith) ∙ before_put_le 4 _ (at + 4) f.subs i (omega arith))

-- what was stored is found: the head's four bytes
head_put : (l : List ℕ) (at : ℕ) (f : Fields) → at + 4 ≤ length l
    → (get_or (put_head l at f) at 0 ≡ f.code) × (get_or (put_head l at f) (at + 1) 0 ≡ f.peer) × (get_or (put_head l at f) (at + 2) 0 ≡ f.message)
    × (get_or (put_head l at f) (at + 3) 0 ≡ f.zero)
unfolding put_head
head_put l at f h =
    let l₁ = set l at f.code in
    let l₂ = set l₁ (at + 1) f.peer in
    let l₃ = set l₂ (at + 2) f.message in
    let n₁ = length-set l at f.code in
    let n₂ = length-set l₁ (at + 1) f.peer in
    let n₃ = length-set l₂ (at + 2) f.message in
    let past : (m : List ℕ) (k v i : ℕ) → i < k → get_or (set m k v) i 0 ≡ get_or m i 0 = λ m k v i b. get_or-set_other m k i v 0 (λ e. omega arith) in (
      past l₃ (at + 3) f.zero at (omega arith) ∙ (past l₂ (at + 2) f.message at (omega arith) ∙ (past l₁ (at + 1) f.peer at (omega arith) ∙ get_or-set_same l at f.code 0 (omega arith))),
      past l₃ (at + 3) f.zero (at + 1) (omega arith) ∙ (past l₂ (at + 2) f.message (at + 1) (omega arith) ∙ get_or-set_same l₁ (at + 1) f.peer 0 (omega arith)),
      past l₃ (at + 3) f.zero (at + 2) (omega arith) ∙ get_or-set_same l₂ (at + 2) f.message 0 (omega arith),
      get_or-set_same l₃ (at + 3) f.zero 0 (omega arith),
    )

-- a word is not touched by a later one
word_kept : (l : List ℕ) (k at x : ℕ) → at + 4 ≤ k → le 4 (put_le 4 l k x) at ≡ le 4 l at
word_kept l k at x h = le_same 4 _ _ at (λ i a b. before_put_le 4 l k x i (omega arith))

-- what was stored is found: the three words
words_put : (l : List ℕ) (at : ℕ) (f : Fields) → at + 16 ≤ length l → WordsFit f
    → (le 4 (put_fields l at f) (at + 4) ≡ f.subs) × (le 4 (put_fields l at f) (at + 8) ≡ f.pubs) × (le 4 (put_fields l at f) (at + 12) ≡ f.neighbours)
unfolding put_fields span
words_put l at f h w =
    let l₀ = put_head l at f in
    let l₁ = put_le 4 l₀ (at + 4) f.subs in
    let l₂ = put_le 4 l₁ (at + 8) f.pubs in
    let n₀ = length_put_head l at f in
    let n₁ = length_put_le 4 l₀ (at + 4) f.subs in
    let n₂ = length_put_le 4 l₁ (at + 8) f.pubs in (
      word_kept l₂ (at + 12) (at + 4) f.neighbours (omega arith) ∙ (word_kept l₁ (at + 8) (at + 4) f.pubs (omega arith) ∙ le_put_le 4 l₀ (at + 4) f.subs (omega arith) w.subs),
      word_kept l₂ (at + 12) (at + 8) f.neighbours (omega arith) ∙ le_put_le 4 l₁ (at + 8) f.pubs (omega arith) w.pubs,
      le_put_le 4 l₂ (at + 12) f.neighbours (omega arith) w.neighbours,
    )

-- What was stored is found: all the fields.
pub fields_put : (l : List ℕ) (at : ℕ) (f : Fields) → at + 16 ≤ length l → WordsFit f → fields_at (put_fields l at f) at ≡ f
unfolding fields_at
fields_put l at f h w =
    let hd = head_put l at f (omega arith) in
    fields_path _ f
    (head_kept l at f at (omega arith) ∙ hd.0)
    (head_kept l at f (at + 1) (omega arith) ∙ hd.1)
    (head_kept l at f (at + 2) (omega arith) ∙ hd.2)
    (head_kept l at f (at + 3) (omega arith) ∙ hd.3)
    (words_put l at f h w).0
    (words_put l at f h w).1
    (words_put l at f h w).2

-- Storing the fields that are there changes nothing.
pub put_fields_lem : (l : List ℕ) (at : ℕ) → Bytes l → put_fields l at (fields_at l at) ≡ l
unfolding put_fields put_head fields_at
put_fields_lem l at h = simp (set-get_or, put_le_le 4 l (at + 4) h, put_le_le 4 l (at + 8) h, put_le_le 4 l (at + 12) h)

-- Two lists agree below k.
abbrev Agree : ℕ → List ℕ → List ℕ → Type 0
Agree k l m = (i : ℕ) → i < k → get_or l i 0 ≡ get_or m i 0

-- the same byte stored in both at k: they agree one further
agree_set : (k v : ℕ) (l m : List ℕ) → length l ≡ length m → k < length l → Agree k l m → Agree (k + 1) (set l k v) (set m k v)
agree_set k v l m n h a i b = first (ℕ_discrete i k)
  where
    first : Dec (i ≡ k) → get_or (set l k v) i 0 ≡ get_or (set m k v) i 0
    first (yes e) = rw e (get_or-set_same l k v 0 h ∙ sym (get_or-set_same m k v 0 (omega arith)))
    first (no f) = get_or-set_other l k i v 0 f ∙ (a i (omega arith) ∙ sym (get_or-set_other m k i v 0 f))

-- the same number stored in both
agree_put : (n k x : ℕ) (l m : List ℕ) → length l ≡ length m → k + n ≤ length l → Agree k l m → Agree (k + n) (put_le n l k x) (put_le n m k x)
unfolding put_le
agree_put zero k x l m e h a i b = a i (omega arith)
agree_put (suc n) k x l m e h a i b =
    let p = length-set l k (x % 256) in
    let q = length-set m k (x % 256) in
    agree_put n (suc k) (x / 256) (set l k (x % 256)) (set m k (x % 256)) (omega arith) (omega arith)
    (λ j c. agree_set k (x % 256) l m e (omega arith) a j (omega arith)) i (omega arith)

-- the same head stored in both from 0 on
agree_head : (l m : List ℕ) (f : Fields) → length l ≡ 16 → length m ≡ 16 → Agree 4 (put_head l 0 f) (put_head m 0 f)
unfolding put_head
agree_head l m f p q =
    let l₁ = set l 0 f.code in
    let m₁ = set m 0 f.code in
    let l₂ = set l₁ 1 f.peer in
    let m₂ = set m₁ 1 f.peer in
    let l₃ = set l₂ 2 f.message in
    let m₃ = set m₂ 2 f.message in
    let a₁ = length-set l 0 f.code in
    let b₁ = length-set m 0 f.code in
    let a₂ = length-set l₁ 1 f.peer in
    let b₂ = length-set m₁ 1 f.peer in
    let a₃ = length-set l₂ 2 f.message in
    let b₃ = length-set m₂ 2 f.message in
    let g₁ = agree_set 0 f.code l m (omega arith) (omega arith) (λ i h. absurd (omega arith)) in
    let g₂ = agree_set 1 f.peer l₁ m₁ (omega arith) (omega arith) g₁ in
    let g₃ = agree_set 2 f.message l₂ m₂ (omega arith) (omega arith) g₂ in
    agree_set 3 f.zero l₃ m₃ (omega arith) (omega arith) g₃

-- 16 bytes with the same fields stored from 0 on are the same
pub same_record : (l m : List ℕ) (f : Fields) → length l ≡ 16 → length m ≡ 16 → put_fields l 0 f ≡ put_fields m 0 f
unfolding put_fields
same_record l m f p q =
    let l₀ = put_head l 0 f in
    let m₀ = put_head m 0 f in
    let l₁ = put_le 4 l₀ 4 f.subs in
    let m₁ = put_le 4 m₀ 4 f.subs in
    let l₂ = put_le 4 l₁ 8 f.pubs in
    let m₂ = put_le 4 m₁ 8 f.pubs in
    let a₀ = length_put_head l 0 f in
    let b₀ = length_put_head m 0 f in
    let a₁ = length_put_le 4 l₀ 4 f.subs in
    let b₁ = length_put_le 4 m₀ 4 f.subs in
    let a₂ = length_put_le 4 l₁ 8 f.pubs in
    let b₂ = length_put_le 4 m₁ 8 f.pubs in
    let a₃ = length_put_le 4 l₂ 12 f.neighbours in
    let b₃ = length_put_le 4 m₂ 12 f.neighbours in
    let g₁ = agree_put 4 4 f.subs l₀ m₀ (omega arith) (omega arith) (agree_head l m f p q) in
    let g₂ = agree_put 4 8 f.pubs l₁ m₁ (omega arith) (omega arith) g₁ in
    let g₃ = agree_put 4 12 f.neighbours l₂ m₂ (omega arith) (omega arith) g₂ in
    ext_get_or 0 _ _ (omega arith) (λ i h. g₃ i (omega arith))
