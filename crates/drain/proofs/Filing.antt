-- What a drain has to look at (specs/AtOnce.antt): the messages that are pending somewhere, their topics, and those of each topic in a word. What
-- the loops keep that find them; and that then every pending message is filed. Assumes nothing.
use Rattle.std.specs.Prelude.{◌≡◌, ◌⊎◌, Bool, true, ◌&&◌, ◌||◌, List, ℕ, zero, suc, ◌+◌, ◌^◌, ◌<◌, eqb, length, get_or, set, replicate}
use Rattle.std.proofs.Common.{sym, ap, ◌∙◌, inl, inr, arith, length-set, get_or-set_same, get_or-set_other, eq-eqb, eqb-true}
use native.Mathlib.Decide.{ℕ_discrete}
use lib.ListN.{length-replicate, get_or-replicate}
use Rattle.sets.specs.Any.{any}
use Rattle.sets.specs.Set.{has, union, minus, only, set_of, Subset, lowest}
use Rattle.sets.proofs.laws.Any.{any_yes, any_why, any_none}
use Rattle.sets.proofs.laws.Bools.{bool_ext, and_both, and_yes, or_left, or_right, or_yes, eqb_same, ne_eqb, below_suc}
use Rattle.sets.proofs.laws.Members.{has_union, has_none, has_only, has_with}
use Rattle.sets.proofs.laws.Bounds.{has_in, union_lt, minus_lt, only_lt}
use Rattle.sets.proofs.laws.Build.{has_set_of, is_set_of, set_of_lt, has_sifted}
use Rattle.sets.specs.Rising.{Takes}
use Rattle.sets.proofs.laws.Lowest.{takes_has}
use Rattle.sets.proofs.laws.Visits.{minus_self, minus_none, subset_self, subset_step, visit_step, set_of_none, Visit, visit_none, visit_yes, visit_no, visit_done}
use Rattle.drain.specs.AtOnce.{TopicsFit, anywhere_of, topics_of, ByTopic, OwnTopics, AllFiled, EachFiled}

-- ---- `anywhere`

-- A message of one of the words is among them.
has_anywhere : (l : List ℕ) (k p m : ℕ) → p < k → has (get_or l p 0) m ≡ true → has (anywhere_of l k) m ≡ true
unfolding anywhere_of
has_anywhere l zero p m b h = absurd (omega arith)
has_anywhere l (suc k) p m b h = has_union (anywhere_of l k) (get_or l k 0) m ∙ go (below_suc p k b) (λ c. has_anywhere l k p m c h)
  where
    go : (p < k) ⊎ (p ≡ k) → (p < k → has (anywhere_of l k) m ≡ true) → has (anywhere_of l k) m || has (get_or l k 0) m ≡ true
    go (inl c) ih = or_left (has (get_or l k 0) m) (ih c)
    go (inr e) ih = or_right (has (anywhere_of l k) m) (rw (sym e) h)

-- ---- `topics_of`

-- The topic of a message of s is among its topics.
has_topics : (ts : List ℕ) (s m : ℕ) → m < 64 → get_or ts m 0 < 32 → has s m ≡ true → has (topics_of ts s) (get_or ts m 0) ≡ true
unfolding topics_of
has_topics ts s m b l h = has_set_of 32 _ (get_or ts m 0) l ∙ any_yes 64 _ m b (and_both h (eqb_same (get_or ts m 0)))

-- With one message more, its topic comes in.
topics_with : (ts : List ℕ) (s q : ℕ) → q < 64 → get_or ts q 0 < 32 → union (topics_of ts s) (only (get_or ts q 0)) ≡ topics_of ts (union s (only q))
unfolding topics_of
topics_with ts s q b l = is_set_of 32 (λ (t : ℕ). any 64 (of more t)) _ (union_lt 32 _ (only k) (set_of_lt 32 (λ (t : ℕ). any 64 (of s t))) (only_lt 32 k l))
    (λ t c. has_union (set_of 32 (λ (x : ℕ). any 64 (of s x))) (only k) t ∙ ap (λ (x : Bool). x || has (only k) t) (has_set_of 32 (λ (x : ℕ). any 64 (of s x)) t c)
    ∙ bool_ext (λ e. there t (or_yes (any 64 (of s t)) (has (only k) t) e)) (λ e. back t (any_why 64 (of more t) e)))
  where
    k : ℕ
    k = get_or ts q 0

    more : ℕ
    more = union s (only q)

    of : ℕ → ℕ → ℕ → Bool
    of w t m = has w m && eqb (get_or ts m 0) t

    there : (t : ℕ) → (any 64 (of s t) ≡ true) ⊎ (has (only k) t ≡ true) → any 64 (of more t) ≡ true
    there t (inl e) =
        let x = any_why 64 (of s t) e in
        let y = and_yes (has s x.0) (eqb (get_or ts x.0 0) t) x.2 in
        any_yes 64 (of more t) x.0 x.1 (and_both (has_union s (only q) x.0 ∙ or_left (has (only q) x.0) y.0) y.1)
    there t (inr e) = any_yes 64 (of more t) q b (and_both (has_with s q) (sym (has_only k t) ∙ e))

    back : (t : ℕ) → (i : ℕ) × (i < 64) × (of more t i ≡ true) → any 64 (of s t) || has (only k) t ≡ true
    back t (i, c, e) =
        let y = and_yes (has more i) (eqb (get_or ts i 0) t) e in
        at (or_yes (has s i) (has (only q) i) (sym (has_union s (only q) i) ∙ y.0)) y.1
      where
        at : (has s i ≡ true) ⊎ (has (only q) i ≡ true) → eqb (get_or ts i 0) t ≡ true → any 64 (of s t) || has (only k) t ≡ true
        at (inl h) z = or_left (has (only k) t) (any_yes 64 (of s t) i c (and_both h z))
        at (inr h) z = or_right (any 64 (of s t)) (has_only k t ∙ rw (eqb-true q i (sym (has_only q i) ∙ h)) z)

-- What the loop keeps: `left` is a part of s, and r has the topics of the others.
pub record Using (ts : List ℕ) (s left r : ℕ) : Type 0 where
  pub below : left < 2 ^ 64
  pub within : Subset left s
  pub made : r ≡ topics_of ts (minus s left)

-- before the first turn
pub using_none : {ts : List ℕ} {s left : ℕ} → s < 2 ^ 64 → left ≡ s → Using ts s left 0
unfolding topics_of
using_none {ts} {s} b e = record {
  below = rw e b;
  within = rw e (subset_self s);
  made = rw e (sym (set_of_none 32 _ (λ t. any_none 64 (λ (m : ℕ). has (minus s s) m && eqb (get_or ts m 0) t) (λ m l. rw (minus_self s, has_none m)))));
}

-- a turn: the topic of m
pub using_more : {ts : List ℕ} {s left left' r r' m : ℕ} → Using ts s left r → Takes 64 left m left'
    → get_or ts m 0 < 32 → r' ≡ union r (only (get_or ts m 0)) → Using ts s left' r'
using_more {ts} {s} {left} {left'} {r} {r'} {m} v t l er = record {
  below = rw t.rest (minus_lt 64 left (only (lowest 64 left)) v.below);
  within = rw t.rest (subset_step left s (only (lowest 64 left)) v.within);
  made = er ∙ ap (λ (x : ℕ). union x (only (get_or ts m 0))) v.made ∙ topics_with ts (minus s left) m t.below l
      ∙ ap (topics_of ts) (sym (visit_step left s m v.within (takes_has v.below t)) ∙ ap (minus s) (sym gone));
}
  where
    gone : left' ≡ minus left (only m)
    gone = t.rest ∙ ap (λ (x : ℕ). minus left (only x)) (sym t.least)

-- after the last turn
pub using_done : {ts : List ℕ} {s left r : ℕ} → Using ts s left r → left ≡ 0 → r ≡ topics_of ts s
using_done {ts} {s} v e = v.made ∙ ap (topics_of ts) (ap (minus s) e ∙ minus_none s)

-- ---- `by_topic`

-- What the loop keeps: each topic's word has been filled with its messages of s that are not left.
pub record Sorting (ts : List ℕ) (s left : ℕ) (r : List ℕ) : Type 0 where
  pub long : length r ≡ 32
  pub each : (t : ℕ) → t < 32 → Visit 64 s left (get_or r t 0) (λ (m : ℕ). eqb (get_or ts m 0) t)

-- before the first turn
pub sorting_none : {ts : List ℕ} {s left : ℕ} → s < 2 ^ 64 → left ≡ s → Sorting ts s left (replicate 32 0)
sorting_none b e = record {
  long = length-replicate {A = ℕ} 32 0;
  each = λ t l. rw (get_or-replicate {A = ℕ} 32 t 0 0 l) (visit_none b e);
}

-- a turn: m goes into the word of its topic
pub sorting_more : {ts r : List ℕ} {s left left' m x : ℕ} → Sorting ts s left r → Takes 64 left m left'
    → get_or ts m 0 < 32 → x ≡ union (get_or r (get_or ts m 0) 0) (only m) → Sorting ts s left' (set r (get_or ts m 0) x)
sorting_more {ts} {r} {s} {left} {left'} {m} {x} v takes b ex = record {
  long = length-set r k x ∙ v.long;
  each = λ t l. go t l (ℕ_discrete k t);
}
  where
    k : ℕ
    k = get_or ts m 0

    go : (t : ℕ) → t < 32 → Dec (k ≡ t) → Visit 64 s left' (get_or (set r k x) t 0) (λ (i : ℕ). eqb (get_or ts i 0) t)
    go t l (yes z) =
        let here : get_or (set r k x) k 0 ≡ x = get_or-set_same r k x 0 (omega (arith, v.long)) in
        visit_yes (v.each t l) takes (eq-eqb k t z) (ap (λ (i : ℕ). get_or (set r k x) i 0) (sym z) ∙ here ∙ ex ∙ ap (λ (i : ℕ). union (get_or r i 0) (only m)) z)
    go t l (no z) = rw (get_or-set_other r k t x 0 (λ (y : t ≡ k). z (sym y))) (visit_no (v.each t l) takes (ne_eqb z))

-- after the last turn
pub sorting_done : {ts r : List ℕ} {s left : ℕ} → Sorting ts s left r → left ≡ 0 → ByTopic ts s r
sorting_done v e t l = visit_done (v.each t l) e

-- ---- then every pending message is filed

-- A word has messages of its topic alone.
pub own_topics : (ts words : List ℕ) {s : ℕ} → s < 2 ^ 64 → ByTopic ts s words → OwnTopics ts words
own_topics ts words {s} b h t m l e =
    eqb-true (get_or ts m 0) t (and_yes (has s m) _ (sym (has_sifted 64 s (λ (i : ℕ). eqb (get_or ts i 0) t) b m) ∙ ap (λ (w : ℕ). has w m) (sym (h t l)) ∙ e)).1

-- Every message of s is in the word of its topic, and its topic is used.
pub all_filed : (ts words : List ℕ) {s used : ℕ} → s < 2 ^ 64 → TopicsFit ts → ByTopic ts s words → used ≡ topics_of ts s → AllFiled ts words used s
all_filed ts words {s} {used} b fit h eu m x = record {
  topic = ap (λ (w : ℕ). has w (get_or ts m 0)) eu ∙ has_topics ts s m (has_in 64 s m b x) (fit m) x;
  word = ap (λ (w : ℕ). has w m) (h (get_or ts m 0) (fit m)) ∙ has_sifted 64 s (λ (i : ℕ). eqb (get_or ts i 0) (get_or ts m 0)) b m ∙ and_both x (eqb_same (get_or ts m 0));
}

-- So is every message of the words of l, where s has what is pending anywhere.
pub each_filed : (ts words l : List ℕ) {s used : ℕ} → s ≡ anywhere_of l 32 → AllFiled ts words used s → EachFiled ts words used l
each_filed ts words l es h p c m e = h m (ap (λ (w : ℕ). has w m) es ∙ has_anywhere l 32 p m c e)
