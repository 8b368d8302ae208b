-- Pending and seen, written into the bytes of a network: the bytes of that network with these words. Assumes nothing.
use Rattle.std.specs.Prelude.{◌≡◌, ◌⊎◌, List, length, get_or, ℕ, zero, suc, ◌+◌, ◌*◌, ◌/◌, ◌%◌, ◌^◌, ◌≤◌, ◌<◌}
use Rattle.std.proofs.Common.{sym, ◌∙◌, add-one, arith}
use Rattle.std.proofs.Math.Path.{refl, ap}
use Rattle.std.proofs.Math.Logic.{inl, inr}
use Rattle.std.proofs.Math.Decide.{dec_lt}
use Rattle.lists.specs.Tab.{Filled}
use Rattle.lists.specs.laws.Tab.{length_tab, get_or_tab, filled_none, filled_all}
use Rattle.endian.specs.Le.{put_le}
use Rattle.endian.specs.laws.Le.{length_put_le, after_put_le}
use Rattle.network.specs.declared.Network.{Network}
use Rattle.network.specs.Network.{peer, with_pending, with_seen}
use Rattle.network.specs.State.{word_at, word_of, byte_of, bytes_of}
use Rattle.network.specs.Storing.{put_messages}
use Rattle.network.specs.laws.Storing.{filled_messages}

-- the loop that writes them
pub length_put_messages : (p : ℕ) (l pending seen : List ℕ) → length (put_messages p l pending seen) ≡ length l
unfolding put_messages
length_put_messages zero l pending seen = refl
length_put_messages (suc p) l pending seen = length_put_le 8 _ _ _ ∙ length_put_le 8 _ _ _ ∙ length_put_messages p l pending seen

pub put_messages_more : (p : ℕ) (l pending seen : List ℕ) {r r1 r2 : List ℕ} → r ≡ put_messages p l pending seen → r1 ≡ put_le 8 r (160 * p + 16) (get_or pending p 0)
    → r2 ≡ put_le 8 r1 (160 * p + 24) (get_or seen p 0) → r2 ≡ put_messages (p + 1) l pending seen
unfolding put_messages
put_messages_more p l pending seen e e1 e2 = rw (add-one, e2, e1, e)

module _ (n : Network) (pending seen : List ℕ) where
  m : Network
  m = with_seen (with_pending n pending) seen

  -- the other words are those of n, and so are their bytes
  word_same : (p k : ℕ) → (k < 4) ⊎ (8 ≤ k) → word_at m (peer p) k ≡ word_at n (peer p) k
  unfolding m word_at
  word_same p zero h = refl
  word_same p (suc zero) h = refl
  word_same p (suc (suc zero)) h = refl
  word_same p (suc (suc (suc zero))) h = refl
  word_same p (suc (suc (suc (suc zero)))) (inl h) = absurd (omega arith)
  word_same p (suc (suc (suc (suc zero)))) (inr h) = absurd (omega arith)
  word_same p (suc (suc (suc (suc (suc zero))))) (inl h) = absurd (omega arith)
  word_same p (suc (suc (suc (suc (suc zero))))) (inr h) = absurd (omega arith)
  word_same p (suc (suc (suc (suc (suc (suc zero)))))) (inl h) = absurd (omega arith)
  word_same p (suc (suc (suc (suc (suc (suc zero)))))) (inr h) = absurd (omega arith)
  word_same p (suc (suc (suc (suc (suc (suc (suc zero))))))) (inl h) = absurd (omega arith)
  word_same p (suc (suc (suc (suc (suc (suc (suc zero))))))) (inr h) = absurd (omega arith)
  word_same p (suc (suc (suc (suc (suc (suc (suc (suc t)))))))) h = refl

  byte_same : (i : ℕ) → (i / 4 % 40 < 4) ⊎ (8 ≤ i / 4 % 40) → byte_of m i ≡ byte_of n i
  unfolding byte_of word_of
  byte_same i h = ap (λ (w : ℕ). w / 256 ^ (i % 4) % 256) (word_same (i / 4 / 40) (i / 4 % 40) h)

  -- the front of a state has come to be m's, and the rest is n's still
  record Over (k : ℕ) (l : List ℕ) : Type 0 where
    front : Filled 5120 (byte_of m) k l
    back : (i : ℕ) → k ≤ i → i < 5120 → get_or l i 0 ≡ byte_of n i

  -- bytes that are the same in both are taken into the front
  over_same : {k : ℕ} {l : List ℕ} (j : ℕ) → Over k l → k ≤ j → j ≤ 5120 → ((i : ℕ) → k ≤ i → i < j → (i / 4 % 40 < 4) ⊎ (8 ≤ i / 4 % 40)) → Over j l
  over_same {k} {l} j o a c h =
      record { front = record { long = o.front.long; front = λ i b. first i b (dec_lt i k) }; back = λ i b d. o.back i (omega arith) d }
    where
      first : (i : ℕ) → i < j → Dec (i < k) → get_or l i 0 ≡ byte_of m i
      first i b (yes d) = o.front.front i d
      first i b (no d) = o.back i (omega arith) (omega arith) ∙ sym (byte_same i (h i (omega arith) b))

  -- one record more
  over_more : (p : ℕ) {l : List ℕ} → p < 32 → Over (160 * p) l → Over (160 * suc p) (put_le 8 (put_le 8 l (160 * p + 16) (get_or pending p 0)) (160 * p + 24) (get_or seen p 0))
  unfolding m
  over_more p {l} b o =
      let before = over_same (160 * p + 16) o (omega arith) (omega arith) (λ i c d. inl (omega arith)) in
      let written : Over (160 * p + 32) (put_le 8 (put_le 8 l (160 * p + 16) (get_or pending p 0)) (160 * p + 24) (get_or seen p 0)) = record {
        front = filled_messages m p b before.front;
        back = λ i c d. after_put_le 8 _ (160 * p + 24) _ i (omega arith) ∙ after_put_le 8 l (160 * p + 16) _ i (omega arith) ∙ before.back i (omega arith) d;
      } in
      over_same (160 * suc p) written (omega arith) (omega arith) (λ i c d. inr (omega arith))

  over_all : (p : ℕ) → p ≤ 32 → Over (160 * p) (put_messages p (bytes_of n) pending seen)
  unfolding put_messages bytes_of
  over_all zero b = record { front = filled_none 5120 _ _ (length_tab 5120 (byte_of n)); back = λ i c d. get_or_tab 5120 (byte_of n) i d }
  over_all (suc p) b = over_more p (omega arith) (over_all p (omega arith))

  -- THE BYTES OF A NETWORK WITH OTHER WORDS FOR PENDING AND SEEN are its bytes, with these written into them.
  pub put_messages_lem : put_messages 32 (bytes_of n) pending seen ≡ bytes_of (with_seen (with_pending n pending) seen)
  unfolding bytes_of m
  put_messages_lem = filled_all (over_all 32 (omega arith)).front
