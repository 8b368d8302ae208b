-- What reading answers is sound: the network of every accepted state, and the blank one that a refusal answers. Assumes nothing.
use Rattle.std.specs.Prelude.{◌≡◌, refl, Bool, true, false, cond, ◌&&◌, List, ℕ, zero, suc, ◌*◌, ◌+◌, ◌%◌, ◌^◌, ◌≤◌, ◌<◌, eqb, ltb, length, get_or, replicate}
use Rattle.std.proofs.Common.{sym, ap, ◌∙◌, arith, ltb-true, eqb-true}
use Rattle.std.proofs.lemmas.List.{length-replicate}
use Rattle.sets.specs.Set.{has, digit}
use Rattle.sets.proofs.laws.Bools.{clash}
use Rattle.sets.proofs.laws.Members.{has_none}
use Rattle.sets.proofs.laws.Build.{set_of_lt, has_set_of}
use Rattle.lists.specs.laws.Tab.{length_tab, tab_below}
use Rattle.endian.specs.laws.Le.{Bytes, le_lt_4, le_lt_8}
use Rattle.network.specs.declared.Peer.{Peer}
use Rattle.network.specs.declared.Network.{Network}
use Rattle.network.specs.Network.{peer, subscribed, Shaped}
use Rattle.network.specs.Sound.{Sound}
use Rattle.network.specs.Rules.{fault_of, head_of}
use Rattle.network.specs.State.{word, word_in, long, net_of, fault_at, verdict_at, blank_net, opened, opened_by, open_of}
use Rattle.network.specs.laws.SoundIff.{faults_sound}
use Rattle.network.specs.laws.Faults.{need_met, verdict_by_lem, verdict_is}
use Rattle.network.specs.laws.Zeros.{get_or_zeros}

-- ---- the network of any bytes has the shape

pub word_lt : (b : List ℕ) (j : ℕ) → Bytes b → word b j < 2 ^ 32
unfolding word
word_lt b j h = le_lt_4 b (4 * j) h

pub long_lt : (b : List ℕ) (j : ℕ) → Bytes b → long b j < 2 ^ 64
unfolding long
long_lt b j h = le_lt_8 b (4 * j) h

pub net_shaped : (b : List ℕ) → Bytes b → Shaped (net_of b)
unfolding net_of
net_shaped b h = record {
  present = set_of_lt 32 _;
  pubs = length_tab 32 _;
  subs = length_tab 32 _;
  neighbours = length_tab 32 _;
  pending = length_tab 32 _;
  seen = length_tab 32 _;
  known = length_tab 1024 _;
  pubs_fit = tab_below 32 _ (2 ^ 32) (omega arith) λ i l. word_lt b _ h;
  subs_fit = tab_below 32 _ (2 ^ 32) (omega arith) λ i l. word_lt b _ h;
  neighbours_fit = tab_below 32 _ (2 ^ 32) (omega arith) λ i l. word_lt b _ h;
  pending_fit = tab_below 32 _ (2 ^ 64) (omega arith) λ i l. long_lt b _ h;
  seen_fit = tab_below 32 _ (2 ^ 64) (omega arith) λ i l. long_lt b _ h;
  known_fit = tab_below 1024 _ (2 ^ 32) (omega arith) λ i l. word_lt b _ h;
}

-- ---- a state without an unsound record

-- a record without a fault has a right first word
pub fault_head_right : (h : ℕ) (n : Network) (p : Peer) → fault_of h n p ≡ 0 → h < 2
unfolding fault_of
fault_head_right h n p e = ltb-true h 2 (need_met (ltb h 2) 19 _ e).0

-- "A peer is present when byte 0 is 1": the first word of a record is read and written alike
pub head_is : (b : List ℕ) (p : ℕ) → p < 32 → word_in b p 0 < 2 → head_of (net_of b) (peer p) ≡ word_in b p 0
unfolding net_of
head_is b p l h = ap digit (has_set_of 32 (λ (q : ℕ). eqb (word_in b q 0 % 256) 1) p l) ∙ go (word_in b p 0) h
  where
    go : (w : ℕ) → w < 2 → digit (eqb (w % 256) 1) ≡ w
    go zero c = refl
    go (suc zero) c = refl
    go (suc (suc w)) c = absurd (omega arith)

pub net_sound : (b : List ℕ) → Bytes b → ((p : ℕ) → p < 32 → fault_at b (peer p) ≡ 0) → Sound (net_of b)
net_sound b h f = faults_sound (net_shaped b h) λ p l.
    ap (λ (w : ℕ). fault_of w (net_of b) p) (head_is b p.0 l (fault_head_right _ _ _ (f p.0 l))) ∙ f p.0 l

-- ---- the blank network

pub blank_shaped : Shaped blank_net
unfolding blank_net
blank_shaped = record {
  present = omega arith;
  pubs = length-replicate {A = ℕ} 32 0;
  subs = length-replicate {A = ℕ} 32 0;
  neighbours = length-replicate {A = ℕ} 32 0;
  pending = length-replicate {A = ℕ} 32 0;
  seen = length-replicate {A = ℕ} 32 0;
  known = length-replicate {A = ℕ} 1024 0;
  pubs_fit = λ i. rw (get_or_zeros 32 i) (omega arith);
  subs_fit = λ i. rw (get_or_zeros 32 i) (omega arith);
  neighbours_fit = λ i. rw (get_or_zeros 32 i) (omega arith);
  pending_fit = λ i. rw (get_or_zeros 32 i) (omega arith);
  seen_fit = λ i. rw (get_or_zeros 32 i) (omega arith);
  known_fit = λ i. rw (get_or_zeros 1024 i) (omega arith);
}

pub blank_sound : Sound blank_net
unfolding blank_net
blank_sound =
    record {
      shaped = blank_shaped;
      empty = λ p b a. record {
        pubs = get_or_zeros 32 p.0;
        subs = get_or_zeros 32 p.0;
        neighbours = get_or_zeros 32 p.0;
        pending = get_or_zeros 32 p.0;
        seen = get_or_zeros 32 p.0;
        known = λ t l. get_or_zeros 1024 (p.0 * 32 + t.0);
      };
      own = λ p. nobody 32 p.0 p.0;
      near = λ p q h. clash h (nobody 32 p.0 q.0);
      back = λ p q h. clash h (nobody 32 p.0 q.0);
      knows = λ p t q bp bt. nobody 1024 (p.0 * 32 + t.0) q.0 ∙ sym (ap (λ (x : Bool). x && subscribed blank_net q t) (nobody 32 p.0 q.0));
      apart = λ p m h. clash h (nobody 32 p.0 m.0);
    }
  where
    nobody : (k i j : ℕ) → has (get_or (replicate k 0) i 0) j ≡ false
    nobody k i j = ap (λ (w : ℕ). has w j) (get_or_zeros k i) ∙ has_none j

-- ---- what reading answers

-- an accepted state
pub record Accepted (b : List ℕ) : Type 0 where
  pub long : length b ≡ 5120
  pub sound : (p : ℕ) → p < 32 → fault_at b (peer p) ≡ 0
  pub is : open_of b ≡ opened 0 0 0 (net_of b)

pub accepted : (b : List ℕ) → (open_of b).number ≡ 0 → Accepted b
unfolding open_of opened_by
accepted b h = go (eqb (length b) 5120) refl h
  where
    go : (x : Bool) → eqb (length b) 5120 ≡ x → (cond x (opened_by (verdict_at b) (net_of b)) (opened 1 0 0 blank_net)).number ≡ 0 → Accepted b
    go true e z =
        let v = (verdict_is _ _).none z in
        record { long = eqb-true _ _ e; sound = v.1; is = rw (e, v.0) }
    go false e z = absurd (omega arith)

-- "Reading and writing refuse by 1, then" 20 to 26, "and by nothing else"
pub opened_by_lem : (b : List ℕ) (P : ℕ → Type 0) → P 0 → P 1 → ((k : ℕ) → 20 ≤ k → k ≤ 26 → P k) → P (open_of b).number
unfolding open_of opened_by
opened_by_lem b P h0 h1 h = go (eqb (length b) 5120)
  where
    go : (x : Bool) → P (cond x (opened_by (verdict_at b) (net_of b)) (opened 1 0 0 blank_net)).number
    go true = verdict_by_lem _ _ P h0 h
    go false = h1

-- "Reading [..] a sound state", and "a refused read answers the blank state": the network of every answer is sound
pub opened_sound : (b : List ℕ) → Bytes b → Sound (open_of b).network
unfolding open_of opened_by
opened_sound b h = go (eqb (length b) 5120)
  where
    which : (x : Bool) → eqb (verdict_at b).number 0 ≡ x → Sound (cond x (net_of b) blank_net)
    which true e = net_sound b h ((verdict_is _ _).none (eqb-true _ _ e)).1
    which false e = blank_sound

    go : (x : Bool) → Sound (cond x (opened_by (verdict_at b) (net_of b)) (opened 1 0 0 blank_net)).network
    go true = which (eqb (verdict_at b).number 0) refl
    go false = blank_sound
