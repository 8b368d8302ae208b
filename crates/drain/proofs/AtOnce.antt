-- Laws of specs/AtOnce.antt. Assumes nothing.
use Rattle.std.specs.Prelude.{◌≡◌, refl, Bool, true, false, not, ◌&&◌, ◌||◌, List, ℕ, ◌+◌, ◌*◌, ◌^◌, ◌<◌, eqb, get_or, set}
use Rattle.std.proofs.Common.{sym, ap, ap₂, ◌∙◌, eq-eqb, eqb-true}
use mathlib.Core.Bool.{and-true, and-false, or-false}
use native.Mathlib.Decide.{ℕ_discrete}
use Rattle.sets.specs.Set.{has, union, meet, minus, only, sift, lowest}
use Rattle.sets.proofs.laws.Bools.{clash, bool_ext, and_no, eqb_same, ne_eqb}
use Rattle.sets.proofs.laws.Members.{membership, has_meet, has_minus, has_none, has_without, has_without_other, ext}
use Rattle.sets.proofs.laws.Bounds.{minus_lt}
use Rattle.sets.proofs.laws.Build.{sift_lt, has_sifted, has_puts}
use Rattle.sets.specs.Rising.{Takes}
use Rattle.sets.proofs.laws.Lowest.{takes_has}
use Rattle.lists.specs.Edit.{edit}
use Rattle.lists.specs.laws.Edit.{edit_none, edit_then}
use Rattle.network.specs.declared.Network.{Network}
use Rattle.network.specs.Network.{with_pending}
use Rattle.floodnet.specs.Lent.{with_messages}
use Rattle.drain.specs.AtOnce.{gives, OwnTopics, AllFiled, reach, spread, AtOnce}

-- those of s that do not hold it
pub has_left : (s : ℕ) (holds : ℕ → Bool) → s < 2 ^ 32 → (q : ℕ) → has (minus s (sift 32 s holds)) q ≡ has s q && not (has s q && holds q)
has_left s holds b q = has_minus s (sift 32 s holds) q ∙ ap (λ (x : Bool). has s q && not x) (has_sifted 32 s holds b q)

-- p's messages of topic t: those of todo that the word of t has
of_words : {ts words : List ℕ} {used t w : ℕ} (todo : ℕ) → OwnTopics ts words → AllFiled ts words used todo → t < 32 → w ≡ meet todo (get_or words t 0)
    → (j : ℕ) → has w j ≡ has todo j && eqb (get_or ts j 0) t
of_words {ts} {words} {used} {t} {w} todo own filed l e j = ap (λ (x : ℕ). has x j) e ∙ has_meet todo (get_or words t 0) j ∙ go (has todo j) refl
  where
    go : (d : Bool) → has todo j ≡ d → d && has (get_or words t 0) j ≡ d && eqb (get_or ts j 0) t
    go true h =
        bool_ext (λ x. eq-eqb (get_or ts j 0) t (own t j l x))
        (λ x. ap (λ (i : ℕ). has (get_or words i 0) j) (sym (eqb-true (get_or ts j 0) t x)) ∙ (filed j h).word)
    go false h = refl

-- the messages of w whose topic is not among those left: it has had its turn
unfoldable pub past : List ℕ → ℕ → ℕ → ℕ
past ts w left = sift 64 w (λ (m : ℕ). not (has left (get_or ts m 0)))

-- What the loop over the topics keeps, from the network m to n: the messages whose topic is not left have been spread.
pub record Spreading (ts : List ℕ) (p todo left : ℕ) (m n : Network) : Type 0 where
  pub below : left < 2 ^ 32
  pub made : n ≡ with_pending m (spread m.known ts m.seen p (past ts todo left) m.pending)
  pub fit : (j : ℕ) → has todo j ≡ true → has left (get_or ts j 0) ≡ false → get_or m.known (p * 32 + get_or ts j 0) 0 < 2 ^ 32

pub has_reach : (g ts : List ℕ) (p w q : ℕ) → w < 2 ^ 64 → (j : ℕ) → has (reach g ts p w q) j ≡ has w j && has (get_or g (p * 32 + get_or ts j 0) 0) q
unfolding reach
has_reach g ts p w q b j = has_sifted 64 w (λ (m : ℕ). has (get_or g (p * 32 + get_or ts m 0) 0) q) b j

has_past : (ts : List ℕ) (todo : ℕ) → todo < 2 ^ 64 → (left j : ℕ) → has (past ts todo left) j ≡ has todo j && not (has left (get_or ts j 0))
unfolding past
has_past ts todo b left j = has_sifted 64 todo (λ (m : ℕ). not (has left (get_or ts m 0))) b j

past_lt : (ts : List ℕ) (todo left : ℕ) → past ts todo left < 2 ^ 64
unfolding past
past_lt ts todo left = sift_lt 64 todo (λ (m : ℕ). not (has left (get_or ts m 0)))

module _ {ts words : List ℕ} {p used todo : ℕ} {m : Network} (b : todo < 2 ^ 64) (filed : AllFiled ts words used todo) where
  -- before the first turn: every topic of todo is left
  pub spreading_none : {left : ℕ} → used < 2 ^ 32 → left ≡ used → Spreading ts p todo left m m
  unfolding spread
  spreading_none bu z = rw z (record {
    below = bu;
    made =
        ap (with_pending m)
        (edit_none (λ q x. union x (minus (reach m.known ts p (past ts todo used) q) (get_or m.seen q 0))) m.pending
        (λ i. ext _ _ (λ j. simp (membership, has_reach m.known ts p (past ts todo used) i (past_lt ts todo used), has_past ts todo b used j, none j) (or-false (has (get_or m.pending i 0) j)))));
    fit = λ j h k. clash (filed j h).topic k;
  })
    where
      none : (j : ℕ) → has todo j && not (has used (get_or ts j 0)) ≡ false
      none j = and_no (has todo j) _ (λ h. ap not (filed j h).topic)

  -- t, the least topic that is left, has its turn
  module _ {left left' t w : ℕ} {n : Network} (own : OwnTopics ts words) (v : Spreading ts p todo left m n) (takes : Takes 32 left t left')
      (ew : w ≡ meet todo (get_or words t 0)) where
    of_topic : (j : ℕ) → has w j ≡ has todo j && eqb (get_or ts j 0) t
    of_topic = of_words todo own filed takes.below ew

    still_below : left' < 2 ^ 32
    still_below = rw takes.rest (minus_lt 32 left (only (lowest 32 left)) v.below)

    -- t was left and is no more; the other topics are left or not as they were
    there : has left t ≡ true
    there = takes_has v.below takes

    gone : has left' t ≡ false
    gone = rw (takes.rest, takes.least) (has_without left (lowest 32 left))

    other : (a : ℕ) → (a ≡ t → ⊥) → has left' a ≡ has left a
    other a d = ap (λ (x : ℕ). has x a) takes.rest ∙ has_without_other left (lowest 32 left) a (λ (z : lowest 32 left ≡ a). d (sym z ∙ sym takes.least))

    -- with messages
    pub spreading_more : {e' : List ℕ} → get_or n.known (p * 32 + t) 0 < 2 ^ 32 → e' ≡ edit (gives w n.seen (get_or n.known (p * 32 + t) 0)) n.pending
        → Spreading ts p todo left' m (with_pending n e')
    unfolding spread gives
    spreading_more {e'} bs ee = record {
      below = still_below;
      made =
          ap (λ (x : Network). with_pending x e') v.made
          ∙ ap (with_pending m) (rw v.made at ee
          ∙ edit_then (λ q x. union x (minus (reach m.known ts p (past ts todo left) q) (get_or m.seen q 0))) (gives w m.seen s) (λ q x. union x (minus (reach m.known ts p (past ts todo left') q) (get_or m.seen q 0))) m.pending
          (λ q x. ext _ _ (λ j. has_puts (has s q) (minus w (get_or m.seen q 0)) (union x (minus (reach m.known ts p (past ts todo left) q) (get_or m.seen q 0))) j
          ∙ simp (membership, has_reach m.known ts p (past ts todo left) q (past_lt ts todo left), has_reach m.known ts p (past ts todo left') q (past_lt ts todo left'), has_past ts todo b left j, has_past ts todo b left' j, of_topic j)
          (go q j (has todo j) (has x j) (has (get_or m.seen q 0) j) (ℕ_discrete (get_or ts j 0) t)))));
      fit = λ j h k. fits j h k (ℕ_discrete (get_or ts j 0) t);
    }
      where
        s : ℕ
        s = get_or m.known (p * 32 + t) 0

        fits : (j : ℕ) → has todo j ≡ true → has left' (get_or ts j 0) ≡ false → Dec (get_or ts j 0 ≡ t) → get_or m.known (p * 32 + get_or ts j 0) 0 < 2 ^ 32
        fits j h k (yes z) = rw z (rw v.made at bs)
        fits j h k (no z) = v.fit j h (sym (other (get_or ts j 0) z) ∙ k)

        go : (q j : ℕ) (d x y : Bool) → Dec (get_or ts j 0 ≡ t)
            → (x || (((d && not (has left (get_or ts j 0))) && has (get_or m.known (p * 32 + get_or ts j 0) 0) q) && not y)) || (has s q && ((d && eqb (get_or ts j 0) t) && not y))
            ≡ x || (((d && not (has left' (get_or ts j 0))) && has (get_or m.known (p * 32 + get_or ts j 0) 0) q) && not y)
        go q j true x y (yes z) = rw (z, eqb_same t, there, gone, or-false x)
        go q j false x y (yes z) = rw (and-false (has s q), or-false (x || false))
        go q j d x y (no z) =
            rw (
              ne_eqb z,
              other (get_or ts j 0) z,
              and-false d,
              and-false (has s q),
              or-false (x || (((d && not (has left (get_or ts j 0))) && has (get_or m.known (p * 32 + get_or ts j 0) 0) q) && not y)),
            )

    -- without
    pub spreading_skip : w ≡ 0 → Spreading ts p todo left' m n
    spreading_skip z = record {
      below = still_below;
      made =
          v.made ∙ ap (λ (x : ℕ). with_pending m (spread m.known ts m.seen p x m.pending))
          (ext (past ts todo left) (past ts todo left') (λ j. has_past ts todo b left j ∙ go j (has todo j) refl ∙ sym (has_past ts todo b left' j)));
      fit = λ j h k. v.fit j h (sym (other (get_or ts j 0) (none j h)) ∙ k);
    }
      where
        none : (j : ℕ) → has todo j ≡ true → get_or ts j 0 ≡ t → ⊥
        none j h x = clash (of_topic j ∙ rw h (eq-eqb (get_or ts j 0) t x)) (ap (λ (y : ℕ). has y j) z ∙ has_none j)

        go : (j : ℕ) (d : Bool) → has todo j ≡ d → d && not (has left (get_or ts j 0)) ≡ d && not (has left' (get_or ts j 0))
        go j true h = ap not (sym (other (get_or ts j 0) (none j h)))
        go j false h = refl

-- After the last turn; v and w are the words of p once the messages have moved.
pub spreading_done : {ts : List ℕ} (n : Network) (p : ℕ) {todo v w left : ℕ} {n' : Network} → todo < 2 ^ 64 → v ≡ minus (get_or n.pending p 0) todo
    → w ≡ union (get_or n.seen p 0) todo → Spreading ts p todo left (with_messages n (set n.pending p v) (set n.seen p w) n.known) n' → left ≡ 0
    → AtOnce n.known ts n.pending n.seen p todo n'.pending n'.seen × (n' ≡ with_messages n n'.pending n'.seen n.known)
spreading_done {ts} n p {todo} {v} {w} {left} {n'} b hv hw k z =
    let none : (a : ℕ) → has left a ≡ false = λ a. ap (λ (x : ℕ). has x a) z ∙ has_none a in
    let all : past ts todo left ≡ todo =
    ext (past ts todo left) todo (λ j. has_past ts todo b left j ∙ ap (λ (x : Bool). has todo j && not x) (none (get_or ts j 0)) ∙ and-true (has todo j)) in
    let f : List ℕ = set n.seen p w in
    rw k.made (
      record {
        seen = ap (set n.seen p) hw;
        pending = ap₂ (λ (x y : ℕ). spread n.known ts f p x (set n.pending p y)) all hv;
        fit = λ j h. k.fit j h (none (get_or ts j 0));
      },
      refl,
    )
