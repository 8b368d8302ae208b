-- Laws of specs/Storing.antt. Assumes nothing.
use Rattle.std.specs.Prelude.{◌≡◌, refl, List, ℕ, zero, suc, ◌+◌, ◌*◌, ◌/◌, ◌%◌, ◌^◌, ◌≤◌, ◌<◌, length, get_or}
use Rattle.std.proofs.Common.{sym, ap, ◌∙◌, div-one, add-one, arith}
use Rattle.lists.specs.Tab.{tab, Filled}
use Rattle.lists.specs.laws.Tab.{get_or_tab, filled_more}
use Rattle.endian.specs.Le.{put_le}
use Rattle.endian.specs.laws.Le.{length_put_le, put_le_4, put_le_8}
use Rattle.network.specs.declared.Network.{Network}
use Rattle.network.specs.Network.{peer, topic, pubs_of, subs_of, neighbours_of, pending_of, seen_of, known_of}
use Rattle.network.specs.Rules.{head_of}
use Rattle.network.specs.State.{word_at, word_of, byte_of}
use Rattle.network.specs.laws.Layout.{filled_to}
use Rattle.network.specs.Storing.{put_head, put_row}

-- ---- a word and its four bytes

-- word k of record p
pub word_of_lem : (n : Network) (p k : ℕ) → k < 40 → word_of n (40 * p + k) ≡ word_at n (peer p) k
unfolding word_of
word_of_lem n p k h =
    let d : (40 * p + k) / 40 ≡ p = omega arith in
    let m : (40 * p + k) % 40 ≡ k = omega arith in
    rw (d, m)

-- the known subscribers of topic t
pub word_known : (n : Network) (p t : ℕ) → t < 32 → word_of n (40 * p + (8 + t)) ≡ known_of n (peer p) (topic t)
unfolding word_at
word_known n p t h =
    let e : 8 + t ≡ suc (suc (suc (suc (suc (suc (suc (suc t))))))) = omega arith in
    word_of_lem n p (8 + t) (omega arith) ∙ rw e

-- byte k of word j
pub byte_of_lem : (n : Network) (j k : ℕ) → k < 4 → byte_of n (4 * j + k) ≡ word_of n j / 256 ^ k % 256
unfolding byte_of
byte_of_lem n j k h =
    let d : (4 * j + k) / 4 ≡ j = omega arith in
    let m : (4 * j + k) % 4 ≡ k = omega arith in
    rw (d, m)

module _ (n : Network) (j : ℕ) where
  byte_0 : word_of n j % 256 ≡ byte_of n (4 * j)
  byte_0 =
      let z : 4 * j + 0 ≡ 4 * j = omega arith in
      ap (λ (x : ℕ). x % 256) (sym (div-one (word_of n j))) ∙ sym (byte_of_lem n j 0 (omega arith)) ∙ ap (byte_of n) z

  byte_1 : word_of n j / 256 % 256 ≡ byte_of n (4 * j + 1)
  byte_1 = sym (byte_of_lem n j 1 (omega arith))

  byte_2 : word_of n j / 256 / 256 % 256 ≡ byte_of n (4 * j + 2)
  byte_2 =
      let x = word_of n j in
      let e : x / 256 / 256 ≡ x / 65536 = omega arith in
      ap (λ (y : ℕ). y % 256) e ∙ sym (byte_of_lem n j 2 (omega arith))

  byte_3 : word_of n j / 256 / 256 / 256 % 256 ≡ byte_of n (4 * j + 3)
  byte_3 =
      let x = word_of n j in
      let e : x / 256 / 256 / 256 ≡ x / 16777216 = omega arith in
      ap (λ (y : ℕ). y % 256) e ∙ sym (byte_of_lem n j 3 (omega arith))

  -- four bytes are stored
  pub filled_put4 : {l : List ℕ} (at x : ℕ) → at ≡ 4 * j → j < 1280 → Filled 5120 (byte_of n) at l → x ≡ word_of n j → Filled 5120 (byte_of n) (at + 4) (put_le 4 l at x)
  filled_put4 {l} at x a b f e =
      let f0 = filled_to (4 * j) f a in
      let s0 = filled_more (x % 256) f0 (omega arith) (ap (λ (y : ℕ). y % 256) e ∙ byte_0) in
      let s1 = filled_to (4 * j + 2) (filled_more (x / 256 % 256) s0 (omega arith) (ap (λ (y : ℕ). y / 256 % 256) e ∙ byte_1)) (omega arith) in
      let s2 = filled_to (4 * j + 3) (filled_more (x / 256 / 256 % 256) s1 (omega arith) (ap (λ (y : ℕ). y / 256 / 256 % 256) e ∙ byte_2)) (omega arith) in
      let s3 = filled_to (4 * j + 4) (filled_more (x / 256 / 256 / 256 % 256) s2 (omega arith) (ap (λ (y : ℕ). y / 256 / 256 / 256 % 256) e ∙ byte_3)) (omega arith) in
      rw (put_le_4 l at x, a) s3

-- eight bytes are stored
pub filled_put8 : (n : Network) (j : ℕ) {l : List ℕ} (at x : ℕ) → at ≡ 4 * j → j < 1279 → Filled 5120 (byte_of n) at l → x % 2 ^ 32 ≡ word_of n j → x / 2 ^ 32 ≡ word_of n (j + 1)
    → Filled 5120 (byte_of n) (at + 8) (put_le 8 l at x)
filled_put8 n j {l} at x a b f lo hi =
    let s0 = filled_put4 n j at (x % 2 ^ 32) a (omega arith) f lo in
    let s1 = filled_put4 n (j + 1) (at + 4) (x / 2 ^ 32) (omega arith) (omega arith) s0 hi in
    rw (put_le_8 l at x) (filled_to (at + 8) s1 (omega arith))

-- six stores
pub head_chain : (l : List ℕ) (p head pubs subs neighbours pending seen : ℕ) {l0 l1 l2 l3 l4 l5 : List ℕ} → l0 ≡ put_le 4 l (160 * p) head → l1 ≡ put_le 4 l0 (160 * p + 4) pubs
    → l2 ≡ put_le 4 l1 (160 * p + 8) subs → l3 ≡ put_le 4 l2 (160 * p + 12) neighbours → l4 ≡ put_le 8 l3 (160 * p + 16) pending → l5 ≡ put_le 8 l4 (160 * p + 24) seen
    → l5 ≡ put_head l p head pubs subs neighbours pending seen
unfolding put_head
head_chain l p head pubs subs neighbours pending seen e0 e1 e2 e3 e4 e5 = cc

pub length_put_head : (l : List ℕ) (p head pubs subs neighbours pending seen : ℕ) → length (put_head l p head pubs subs neighbours pending seen) ≡ length l
unfolding put_head
length_put_head l p head pubs subs neighbours pending seen = simp length_put_le

pub length_put_row : (t : ℕ) (l row : List ℕ) (p : ℕ) → length (put_row t l row p) ≡ length l
unfolding put_row
length_put_row zero l row p = refl
length_put_row (suc t) l row p = length_put_le 4 (put_row t l row p) _ _ ∙ length_put_row t l row p

-- one topic more
pub put_row_more : (t : ℕ) (l row : List ℕ) (p : ℕ) {r : List ℕ} → r ≡ put_row t l row p → put_le 4 r (160 * p + 32 + 4 * t) (get_or row t 0) ≡ put_row (t + 1) l row p
unfolding put_row
put_row_more t l row p e = rw add-one (ap (λ (x : List ℕ). put_le 4 x (160 * p + 32 + 4 * t) (get_or row t 0)) e)

-- pending and seen of a record are stored
pub filled_messages : (n : Network) (p : ℕ) {l : List ℕ} → p < 32 → Filled 5120 (byte_of n) (160 * p + 16) l
    → Filled 5120 (byte_of n) (160 * p + 32) (put_le 8 (put_le 8 l (160 * p + 16) (pending_of n (peer p))) (160 * p + 24) (seen_of n (peer p)))
unfolding word_at
filled_messages n p b f =
    let w : (k : ℕ) → k < 40 → word_at n (peer p) k ≡ word_of n (40 * p + k) = λ k c. sym (word_of_lem n p k c) in
    let s = filled_to (160 * p + 24) (filled_put8 n (40 * p + 4) (160 * p + 16) (pending_of n (peer p)) (omega arith) (omega arith) f (w 4 (omega arith)) (w 5 (omega arith) ∙ ap (word_of n) (omega arith))) (omega arith) in
    filled_to (160 * p + 32) (filled_put8 n (40 * p + 6) (160 * p + 24) (seen_of n (peer p)) (omega arith) (omega arith) s (w 6 (omega arith)) (w 7 (omega arith) ∙ ap (word_of n) (omega arith))) (omega arith)

-- the front of the buffer after each
pub filled_head : (n : Network) (p : ℕ) {l : List ℕ} → p < 32 → Filled 5120 (byte_of n) (160 * p) l
    → Filled 5120 (byte_of n) (160 * p + 32) (put_head l p (head_of n (peer p)) (pubs_of n (peer p)) (subs_of n (peer p)) (neighbours_of n (peer p)) (pending_of n (peer p)) (seen_of n (peer p)))
unfolding put_head word_at
filled_head n p {l} b f =
    let w : (k : ℕ) → k < 40 → word_at n (peer p) k ≡ word_of n (40 * p + k) = λ k c. sym (word_of_lem n p k c) in
    let s0 = filled_put4 n (40 * p + 0) (160 * p) (head_of n (peer p)) (omega arith) (omega arith) f (w 0 (omega arith)) in
    let s1 = filled_to (160 * p + 8) (filled_put4 n (40 * p + 1) (160 * p + 4) (pubs_of n (peer p)) (omega arith) (omega arith) s0 (w 1 (omega arith))) (omega arith) in
    let s2 = filled_to (160 * p + 12) (filled_put4 n (40 * p + 2) (160 * p + 8) (subs_of n (peer p)) (omega arith) (omega arith) s1 (w 2 (omega arith))) (omega arith) in
    let s3 = filled_to (160 * p + 16) (filled_put4 n (40 * p + 3) (160 * p + 12) (neighbours_of n (peer p)) (omega arith) (omega arith) s2 (w 3 (omega arith))) (omega arith) in
    filled_messages n p b s3

pub filled_row : (n : Network) (p t : ℕ) {l row : List ℕ} → p < 32 → t ≤ 32 → row ≡ tab 32 (λ (u : ℕ). get_or n.known (p * 32 + u) 0)
    → Filled 5120 (byte_of n) (160 * p + 32) l → Filled 5120 (byte_of n) (160 * p + 32 + 4 * t) (put_row t l row p)
unfolding put_row
filled_row n p zero b c e f = filled_to _ f (omega arith)
filled_row n p (suc t) {l} {row} b c e f =
    let s = filled_row n p t b (omega arith) e f in
    let w : get_or row t 0 ≡ get_or n.known (p * 32 + t) 0 = ap (λ (r : List ℕ). get_or r t 0) e ∙ get_or_tab 32 (λ (u : ℕ). get_or n.known (p * 32 + u) 0) t (omega arith) in
    filled_to _ (filled_put4 n (40 * p + (8 + t)) (160 * p + 32 + 4 * t) (get_or row t 0) (omega arith) (omega arith) s (w ∙ sym (word_known n p t (omega arith)))) (omega arith)

-- the whole record
pub filled_record : (n : Network) (p : ℕ) {head : ℕ} {l l1 l2 row : List ℕ} → p < 32 → Filled 5120 (byte_of n) (160 * p) l → head ≡ head_of n (peer p)
    → l1 ≡ put_head l p head (pubs_of n (peer p)) (subs_of n (peer p)) (neighbours_of n (peer p)) (pending_of n (peer p)) (seen_of n (peer p))
    → row ≡ tab 32 (λ (u : ℕ). get_or n.known (p * 32 + u) 0) → l2 ≡ put_row 32 l1 row p → Filled 5120 (byte_of n) (160 * (p + 1)) l2
filled_record n p {head} {l} {l1} {l2} b f eh e1 er e2 =
    let f1 : Filled 5120 (byte_of n) (160 * p + 32) l1 = rw (e1, eh) (filled_head n p b f) in
    let f2 : Filled 5120 (byte_of n) (160 * p + 32 + 4 * 32) l2 = rw e2 (filled_row n p 32 b (omega arith) er f1) in
    filled_to _ f2 (omega arith)
