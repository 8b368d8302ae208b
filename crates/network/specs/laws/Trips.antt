-- "Reading then writing a sound state gives the same bytes, and the reverse." Assumes nothing.
use Rattle.std.specs.Prelude.{◌≡◌, Bool, List, length, replicate, ℕ, zero, suc, ◌+◌, ◌*◌, ◌/◌, ◌%◌, ◌^◌, ◌<◌}
use Rattle.std.proofs.Common.{◌∙◌, arith}
use Rattle.std.proofs.Math.Path.{refl, sym, ap, ap₂}
use Rattle.std.proofs.Math.Bool.{true, false}
use Rattle.std.proofs.Math.Nat.{zero-div}
use Rattle.std.proofs.Math.Dec.{eqb}
use Rattle.std.proofs.Math.ListN.{get_or}
use Rattle.std.proofs.lemmas.List.{length-replicate}
use Rattle.sets.specs.Set.{has, digit}
use Rattle.sets.proofs.laws.Members.{has_none}
use Rattle.sets.proofs.laws.Build.{set_of_same, set_of_has}
use Rattle.lists.specs.laws.Tab.{length_tab, get_or_tab, is_tab}
use Rattle.endian.specs.Le.{le}
use Rattle.endian.specs.laws.Le.{Bytes, le_4, le_8}
use Rattle.network.specs.declared.Network.{Network}
use Rattle.network.specs.Network.{peer, Shaped}
use Rattle.network.specs.Sound.{Sound}
use Rattle.network.specs.Rules.{fault_of, checked}
use Rattle.network.specs.laws.Rules.{fault_in}
use Rattle.network.specs.State.{word, word_in, long, long_in, known_in, net_of, fault_at, blank_net, opened, open_of, word_at, word_of, byte_of, bytes_of, write_of, written_of}
use Rattle.network.specs.laws.Storing.{word_of_lem, word_known, byte_of_lem}
use Rattle.network.specs.laws.Zeros.{get_or_zeros}
use Rattle.network.specs.laws.Opening.{open_0}
use Rattle.network.specs.laws.Writing.{write_0}
use Rattle.network.specs.laws.SameNetwork.{mk_same}
use Rattle.network.specs.laws.SoundIff.{sound_faults}
use Rattle.network.specs.laws.OpenedSound.{blank_sound, word_lt, head_is, fault_head_right, accepted}
use Rattle.network.specs.laws.Faults.{verdict_none}

-- ---- reading, then writing

-- byte k of the number that four bytes make
digit_le : (b : List ℕ) (at k : ℕ) → Bytes b → k < 4 → le 4 b at / 256 ^ k % 256 ≡ get_or b (at + k) 0
digit_le b at zero h l =
    let z : at + 0 ≡ at = omega arith in
    rw (le_4 b at, z) (omega (arith, h at))
digit_le b at (suc zero) h l = rw (le_4 b at) (omega (arith, h at, h (at + 1)))
digit_le b at (suc (suc zero)) h l = rw (le_4 b at) (omega (arith, h at, h (at + 1), h (at + 2)))
digit_le b at (suc (suc (suc zero))) h l = rw (le_4 b at) (omega (arith, h at, h (at + 1), h (at + 2), h (at + 3)))
digit_le b at (suc (suc (suc (suc k)))) h l = absurd (omega arith)

-- an 8-byte number is two words
long_words : (b : List ℕ) (j : ℕ) → long b j ≡ word b j + 2 ^ 32 * word b (j + 1)
unfolding word long
long_words b j = let e : 4 * j + 4 ≡ 4 * (j + 1) = omega arith in le_8 b (4 * j) ∙ rw e

low_word : (b : List ℕ) (j : ℕ) → Bytes b → long b j % 2 ^ 32 ≡ word b j
low_word b j h = rw (long_words b j) (omega (arith, word_lt b j h))

high_word : (b : List ℕ) (j : ℕ) → Bytes b → long b j / 2 ^ 32 ≡ word b (j + 1)
high_word b j h = rw (long_words b j) (omega (arith, word_lt b j h))

module _ (b : List ℕ) (h : Bytes b) (heads : (p : ℕ) → p < 32 → word_in b p 0 < 2) where
  -- each word of a record, read and written
  word_back : (p k : ℕ) → p < 32 → k < 40 → word_at (net_of b) (peer p) k ≡ word_in b p k
  unfolding net_of word_at
  word_back p zero l c = head_is b p l (heads p l)
  word_back p (suc zero) l c = get_or_tab 32 _ p l
  word_back p (suc (suc zero)) l c = get_or_tab 32 _ p l
  word_back p (suc (suc (suc zero))) l c = get_or_tab 32 _ p l
  word_back p (suc (suc (suc (suc zero)))) l c = ap (λ (x : ℕ). x % 2 ^ 32) (get_or_tab 32 _ p l) ∙ low_word b (40 * p + 4) h
  word_back p (suc (suc (suc (suc (suc zero))))) l c = ap (λ (x : ℕ). x / 2 ^ 32) (get_or_tab 32 _ p l) ∙ high_word b (40 * p + 4) h ∙ ap (word b) (omega arith)
  word_back p (suc (suc (suc (suc (suc (suc zero)))))) l c = ap (λ (x : ℕ). x % 2 ^ 32) (get_or_tab 32 _ p l) ∙ low_word b (40 * p + 6) h
  word_back p (suc (suc (suc (suc (suc (suc (suc zero))))))) l c = ap (λ (x : ℕ). x / 2 ^ 32) (get_or_tab 32 _ p l) ∙ high_word b (40 * p + 6) h ∙ ap (word b) (omega arith)
  word_back p (suc (suc (suc (suc (suc (suc (suc (suc t)))))))) l c =
      let d : (p * 32 + t) / 32 ≡ p = omega arith in
      let m : (p * 32 + t) % 32 ≡ t = omega arith in
      get_or_tab 1024 (known_in b) (p * 32 + t) (omega arith) ∙ rw (d, m) (ap (word b) (omega arith))

  -- each word of the state
  words_back : (j : ℕ) → j < 1280 → word_of (net_of b) j ≡ word b j
  unfolding word_of
  words_back j l = word_back (j / 40) (j % 40) (omega arith) (omega arith) ∙ ap (word b) (omega arith)

  -- each byte
  bytes_back : (i : ℕ) → i < 5120 → byte_of (net_of b) i ≡ get_or b i 0
  unfolding byte_of word
  bytes_back i l =
      ap (λ (w : ℕ). w / 256 ^ (i % 4) % 256) (words_back (i / 4) (omega arith)) ∙ digit_le b (4 * (i / 4)) (i % 4) h (omega arith) ∙ ap (λ (k : ℕ). get_or b k 0) (omega arith)

-- "Reading then writing a sound state gives the same bytes"
pub read_write : (b : List ℕ) → Bytes b → (open_of b).number ≡ 0 → bytes_of (open_of b).network ≡ b
unfolding bytes_of
read_write b h e =
    let a = accepted b e in
    let heads : (p : ℕ) → p < 32 → word_in b p 0 < 2 = λ p l. fault_head_right _ _ _ (a.sound p l) in
    rw a.is (sym (is_tab 5120 (byte_of (net_of b)) b a.long λ i l. sym (bytes_back b h heads i l)))

-- ---- writing, then reading

-- four bytes make the number again
four_bytes : (x : ℕ) → x < 2 ^ 32 → x / 1 % 256 + 256 * (x / 256 % 256 + 256 * (x / 65536 % 256 + 256 * (x / 16777216 % 256))) ≡ x
four_bytes x h =
    let a = x / 256 in
    let b = a / 256 in
    let c = b / 256 in
    let e2 : x / 65536 ≡ b = omega arith in
    let e3 : x / 16777216 ≡ c = omega arith in
    let top : c % 256 ≡ c = omega arith in
    let third : b % 256 + 256 * c ≡ b = omega arith in
    let second : a % 256 + 256 * b ≡ a = omega arith in
    let first : x / 1 % 256 + 256 * a ≡ x = omega arith in
    rw (e2, e3, top, third, second) first

module _ (n : Network) (s : Shaped n) where
  -- every word fits its four bytes
  word_at_lt : (p k : ℕ) → word_at n (peer p) k < 2 ^ 32
  unfolding word_at
  word_at_lt p zero = go (has n.present p)
    where
      go : (x : Bool) → digit x < 2 ^ 32
      go true = omega arith
      go false = omega arith
  word_at_lt p (suc zero) = s.pubs_fit p
  word_at_lt p (suc (suc zero)) = s.subs_fit p
  word_at_lt p (suc (suc (suc zero))) = s.neighbours_fit p
  word_at_lt p (suc (suc (suc (suc zero)))) = omega arith
  word_at_lt p (suc (suc (suc (suc (suc zero))))) = omega (arith, s.pending_fit p)
  word_at_lt p (suc (suc (suc (suc (suc (suc zero)))))) = omega arith
  word_at_lt p (suc (suc (suc (suc (suc (suc (suc zero))))))) = omega (arith, s.seen_fit p)
  word_at_lt p (suc (suc (suc (suc (suc (suc (suc (suc t)))))))) = s.known_fit (p * 32 + t)

  -- byte k of word j of the written state
  written_byte : (j k : ℕ) → j < 1280 → k < 4 → get_or (bytes_of n) (4 * j + k) 0 ≡ word_of n j / 256 ^ k % 256
  unfolding bytes_of
  written_byte j k l c = get_or_tab 5120 (byte_of n) (4 * j + k) (omega arith) ∙ byte_of_lem n j k c

  -- each word, written and read
  written_word : (j : ℕ) → j < 1280 → word (bytes_of n) j ≡ word_of n j
  unfolding word word_of
  written_word j l =
      let b0 = written_byte j 0 l (omega arith) in
      let b1 = written_byte j 1 l (omega arith) in
      let b2 = written_byte j 2 l (omega arith) in
      let b3 = written_byte j 3 l (omega arith) in
      let z : 4 * j ≡ 4 * j + 0 = omega arith in
      let e0 : get_or (bytes_of n) (4 * j) 0 ≡ word_of n j / 1 % 256 = ap (λ (i : ℕ). get_or (bytes_of n) i 0) z ∙ b0 in
      le_4 (bytes_of n) (4 * j) ∙ rw (e0, b1, b2, b3) (four_bytes (word_of n j) (word_at_lt (j / 40) (j % 40)))

  written : (p k : ℕ) → p < 32 → k < 40 → word_in (bytes_of n) p k ≡ word_at n (peer p) k
  written p k l c = written_word (40 * p + k) (omega arith) ∙ word_of_lem n p k c

  written_long : (p k x : ℕ) → p < 32 → k < 39 → word_at n (peer p) k ≡ x % 2 ^ 32 → word_at n (peer p) (suc k) ≡ x / 2 ^ 32 → long_in (bytes_of n) p k ≡ x
  written_long p k x l c lo hi =
      let e : 40 * p + k + 1 ≡ 40 * p + suc k = omega arith in
      let a : word (bytes_of n) (40 * p + k) ≡ x % 2 ^ 32 = written p k l (omega arith) ∙ lo in
      let b : word (bytes_of n) (40 * p + k + 1) ≡ x / 2 ^ 32 = ap (word (bytes_of n)) e ∙ written p (suc k) l (omega arith) ∙ hi in
      long_words (bytes_of n) (40 * p + k) ∙ rw (a, b) (omega arith)

  written_known : (i : ℕ) → i < 1024 → known_in (bytes_of n) i ≡ get_or n.known i 0
  written_known i l =
      written_word (40 * (i / 32) + (8 + i % 32)) (omega arith) ∙ word_known n (i / 32) (i % 32) (omega arith) ∙ ap (λ (j : ℕ). get_or n.known j 0) (omega arith)

  -- the network, written and read
  pub net_back : net_of (bytes_of n) ≡ n
  unfolding net_of word_at
  net_back =
      mk_same
      (set_of_same 32 _ _ (λ p l. ap (λ (w : ℕ). eqb (w % 256) 1) (written p 0 l (omega arith)) ∙ one (has n.present p)) ∙ set_of_has 32 n.present s.present)
      (sym (is_tab 32 _ n.pubs s.pubs λ p l. sym (written p 1 l (omega arith))))
      (sym (is_tab 32 _ n.subs s.subs λ p l. sym (written p 2 l (omega arith))))
      (sym (is_tab 32 _ n.neighbours s.neighbours λ p l. sym (written p 3 l (omega arith))))
      (sym (is_tab 32 _ n.pending s.pending λ p l. sym (written_long p 4 (get_or n.pending p 0) l (omega arith) refl refl)))
      (sym (is_tab 32 _ n.seen s.seen λ p l. sym (written_long p 6 (get_or n.seen p 0) l (omega arith) refl refl)))
      (sym (is_tab 1024 _ n.known s.known λ i l. sym (written_known i l)))
    where
      one : (x : Bool) → eqb (digit x % 256) 1 ≡ x
      one true = refl
      one false = refl

  -- no record of it has a fault that the network has not
  written_fault : (p : ℕ) → p < 32 → fault_at (bytes_of n) (peer p) ≡ fault_in n (peer p)
  unfolding word_at
  written_fault p l = ap₂ (λ (w : ℕ) (m : Network). fault_of w m (peer p)) (written p 0 l (omega arith)) net_back

-- a written state has its length, and is bytes
pub bytes_long : (n : Network) → length (bytes_of n) ≡ 5120
unfolding bytes_of
bytes_long n = length_tab 5120 (byte_of n)

-- "and the reverse"
pub write_read : {n : Network} → Sound n → open_of (bytes_of n) ≡ opened 0 0 0 n
write_read {n} s =
    sym (open_0 (bytes_of n) (bytes_long n) (verdict_none _ _ λ p l. written_fault n s.shaped p l ∙ sound_faults s (peer p) l) refl (sym (net_back n s.shaped)))

-- a sound network is never refused
pub write_sound : {n : Network} → Sound n → (b : List ℕ) → length b ≡ 5120 → (checked 0 0 0 ≡ write_of n b) × (bytes_of n ≡ written_of n b)
write_sound {n} s b h = write_0 n b h (verdict_none _ _ λ p l. sound_faults s (peer p) l) refl refl

-- ---- "A blank network is 5,120 zero bytes."

blank_word : (p k : ℕ) → word_at blank_net (peer p) k ≡ 0
unfolding word_at blank_net
blank_word p zero = ap digit (has_none p)
blank_word p (suc zero) = get_or_zeros 32 p
blank_word p (suc (suc zero)) = get_or_zeros 32 p
blank_word p (suc (suc (suc zero))) = get_or_zeros 32 p
blank_word p (suc (suc (suc (suc zero)))) = ap (λ (x : ℕ). x % 2 ^ 32) (get_or_zeros 32 p)
blank_word p (suc (suc (suc (suc (suc zero))))) = ap (λ (x : ℕ). x / 2 ^ 32) (get_or_zeros 32 p)
blank_word p (suc (suc (suc (suc (suc (suc zero)))))) = ap (λ (x : ℕ). x % 2 ^ 32) (get_or_zeros 32 p)
blank_word p (suc (suc (suc (suc (suc (suc (suc zero))))))) = ap (λ (x : ℕ). x / 2 ^ 32) (get_or_zeros 32 p)
blank_word p (suc (suc (suc (suc (suc (suc (suc (suc t)))))))) = get_or_zeros 1024 (p * 32 + t)

pub blank_bytes : bytes_of blank_net ≡ replicate 5120 0
unfolding bytes_of byte_of word_of
blank_bytes =
    sym (is_tab 5120 (byte_of blank_net) (replicate 5120 0) (length-replicate {A = ℕ} 5120 0) λ i l.
    get_or_zeros 5120 i ∙ sym (ap (λ (w : ℕ). w / 256 ^ (i % 4) % 256) (blank_word (i / 4 / 40) (i / 4 % 40)) ∙ ap (λ (x : ℕ). x % 256) (zero-div (256 ^ (i % 4)))))

pub blank_opens : open_of (replicate 5120 0) ≡ opened 0 0 0 blank_net
blank_opens = ap open_of (sym blank_bytes) ∙ write_read blank_sound
