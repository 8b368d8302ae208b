-- A peer's messages forwarded at once (specs/AtOnce.antt) are its forwards one by one, since different messages touch different bits; and as
-- many. Assumes nothing.
use Rattle.std.specs.Prelude.{◌≡◌, refl, Bool, true, false, not, cond, ◌&&◌, ◌||◌, List, [], ◌∷◌, ◌++◌, ℕ, zero, suc, ◌+◌, ◌*◌, ◌^◌, ◌≤◌, ◌<◌, eqb, length, get_or, set}
use Rattle.std.proofs.Common.{sym, ap, ap₂, ◌∙◌, append-nil, lt_of_lt_of_le, arith, pow_mono, length-set, get_or-set_same, get_or-set_other, set-set, ext_get_or}
use mathlib.Core.Bool.{and-true, and-false, or-false}
use native.Mathlib.Decide.{dec_lt, ℕ_discrete}
use lib.Seq.{set_out, set-get_or}
use Rattle.sets.specs.Set.{has, union, minus, only, with_if, set_of, when, puts}
use Rattle.sets.specs.Rising.{rising}
use Rattle.sets.proofs.laws.Bools.{bool2, eqb_same, ne_eqb}
use Rattle.sets.proofs.laws.Members.{membership, has_minus, has_only, has_with, has_with_other, ext}
use Rattle.sets.proofs.laws.Bounds.{union_lt, only_lt}
use Rattle.sets.proofs.laws.Algebra.{union_empty, union_assoc}
use Rattle.sets.proofs.laws.Build.{has_with_if, set_of_lt, has_set_of_out, set_of_has}
use Rattle.lists.specs.Edit.{edit}
use Rattle.lists.specs.laws.Edit.{length_edit}
use Rattle.flooding.specs.Machine.{Pair, pair, run}
use Rattle.flooding.proofs.laws.Loop.{run_snoc}
use Rattle.network.specs.declared.Network.{Network}
use Rattle.network.specs.declared.Table.{Table}
use Rattle.network.specs.Network.{peer, message, table}
use Rattle.floodnet.specs.Forward.{moved, receivers, given, forwarded}
use Rattle.floodnet.specs.Produce.{holders}
use Rattle.floodnet.specs.laws.Places.{has_set, has_edit}
use Rattle.floodnet.specs.View.{fwd}
use Rattle.floodnet.specs.Lent.{with_messages}
use Rattle.drain.specs.Pairs.{pairs_of}
use Rattle.drain.specs.AtOnce.{reach, spread, AtOnce}
use Rattle.drain.proofs.AtOnce.{has_left, has_reach}

-- With b: p itself, n: known, x: pending at first, y: seen once m has moved. A forward of m, which was not forwarded before, leaves it pending or not.
waits : (b n x y : Bool) → (x && not (b && true)) || ((n && not (n && ((x && not (b && true)) || y))) && true) ≡ (x && not (b && true)) || ((true && n) && not y)
waits =
    bool2 (λ (b n : Bool). (x y : Bool) → (x && not (b && true)) || ((n && not (n && ((x && not (b && true)) || y))) && true) ≡ (x && not (b && true)) || ((true && n) && not y))
    (bool2 _ refl refl refl refl) (bool2 _ refl refl refl refl) (bool2 _ refl refl refl refl) (bool2 _ refl refl refl refl)

-- Two lists of sets with the same members.
same_sets : (a b : List ℕ) → length a ≡ length b → ((q j : ℕ) → q < length a → has (get_or a q 0) j ≡ has (get_or b q 0) j) → a ≡ b
same_sets a b l h = ext_get_or 0 a b l (λ i c. ext (get_or a i 0) (get_or b i 0) (λ j. h i j c))

-- A store at p, seen within the list.
has_put : (l : List ℕ) (p v q j : ℕ) → q < length l → has (get_or (set l p v) q 0) j ≡ cond (eqb q p) (has v j) (has (get_or l q 0) j)
has_put l p v q j b = go (ℕ_discrete q p)
  where
    go : Dec (q ≡ p) → has (get_or (set l p v) q 0) j ≡ cond (eqb q p) (has v j) (has (get_or l q 0) j)
    go (yes e) = has_set l p v q j (omega arith)
    go (no e) = rw (ne_eqb e) (ap (λ (w : ℕ). has w j) (get_or-set_other l p q v 0 e))

-- The set at p without w.
pub has_less : (l : List ℕ) (p w q j : ℕ) → q < length l → has (get_or (set l p (minus (get_or l p 0) w)) q 0) j ≡ has (get_or l q 0) j && not (eqb q p && has w j)
has_less l p w q j b = has_put l p (minus (get_or l p 0) w) q j b ∙ go (ℕ_discrete q p)
  where
    go : Dec (q ≡ p) → cond (eqb q p) (has (minus (get_or l p 0) w) j) (has (get_or l q 0) j) ≡ has (get_or l q 0) j && not (eqb q p && has w j)
    go (yes e) = rw (e, eqb_same p) (has_minus (get_or l p 0) w j)
    go (no e) = rw (ne_eqb e) (sym (and-true (has (get_or l q 0) j)))

-- Another message is where it was, once k is put in at p.
has_more_other : (l : List ℕ) (p k q j : ℕ) → (j ≡ k → ⊥) → has (get_or (set l p (union (get_or l p 0) (only k))) q 0) j ≡ has (get_or l q 0) j
has_more_other l p k q j d = go (ℕ_discrete q p) (dec_lt p (length l))
  where
    v : ℕ
    v = union (get_or l p 0) (only k)

    go : Dec (q ≡ p) → Dec (p < length l) → has (get_or (set l p v) q 0) j ≡ has (get_or l q 0) j
    go (no e) c = ap (λ (w : ℕ). has w j) (get_or-set_other l p q v 0 e)
    go (yes e) (yes c) = rw (e, get_or-set_same l p v 0 c) (has_with_other (get_or l p 0) k j (λ (z : k ≡ j). d (sym z)))
    go (yes e) (no c) = ap (λ (x : List ℕ). has (get_or x q 0) j) (set_out l p v (omega arith))

module _ (n : Network) (os e f g ts : List ℕ) (p : ℕ) where
  -- what is seen, and what is pending, once the messages of u are forwarded by p
  had : ℕ → List ℕ
  had u = set f p (union (get_or f p 0) u)

  wait : ℕ → List ℕ
  wait u = spread g ts (had u) p u (set e p (minus (get_or e p 0) u))

  -- p's known subscribers for the topic of m
  near : ℕ → ℕ
  near m = get_or g (p * 32 + get_or ts m 0) 0

  wait_length : (u : ℕ) → length (wait u) ≡ length e
  unfolding wait spread
  wait_length u = length_edit _ (set e p (minus (get_or e p 0) u)) ∙ length-set e p (minus (get_or e p 0) u)

  has_wait : (u : ℕ) → u < 2 ^ 64 → (q j : ℕ) → q < length e
      → has (get_or (wait u) q 0) j ≡ (has (get_or e q 0) j && not (eqb q p && has u j)) || ((has u j && has (near j) q) && not (has (get_or (had u) q 0) j))
  unfolding wait spread near
  has_wait u b q j l =
      has_edit (λ i x. union x (minus (reach g ts p u i) (get_or (had u) i 0))) (set e p (minus (get_or e p 0) u)) q j (omega (arith, length-set e p (minus (get_or e p 0) u)))
      ∙ simp (membership, has_reach g ts p u q b) (ap (λ (x : Bool). x || ((has u j && has (near j) q) && not (has (get_or (had u) q 0) j))) (has_less e p u q j l))

  -- nothing is forwarded yet
  had_none : had 0 ≡ f
  unfolding had
  had_none = ap (set f p) (union_empty (get_or f p 0)) ∙ set-get_or f p 0

  wait_none : wait 0 ≡ e
  wait_none = same_sets (wait 0) e (wait_length 0) (λ q j l. has_wait 0 (omega arith) q j (omega (arith, wait_length 0)) ∙ simp (membership, and-false (eqb q p), and-true (has (get_or e q 0) j)) (or-false (has (get_or e q 0) j)))

  -- one message more, k
  module _ (u k : ℕ) (b : u < 2 ^ 64) (bk : k < 64) (new : has u k ≡ false) (fit : near k < 2 ^ 32) where
    more : ℕ
    more = union u (only k)

    more_lt : more < 2 ^ 64
    unfolding more
    more_lt = union_lt 64 u (only k) b (only_lt 64 k bk)

    had_more : set (had u) p (union (get_or (had u) p 0) (only k)) ≡ had more
    unfolding more had
    had_more = set-set f p (union (get_or f p 0) u) _ ∙ go (dec_lt p (length f))
      where
        go : Dec (p < length f) → set f p (union (get_or (set f p (union (get_or f p 0) u)) p 0) (only k)) ≡ set f p (union (get_or f p 0) (union u (only k)))
        go (yes l) = ap (set f p) (ap (λ (x : ℕ). union x (only k)) (get_or-set_same f p (union (get_or f p 0) u) 0 l) ∙ union_assoc (get_or f p 0) u (only k))
        go (no l) =
            let o : length f ≤ p = omega arith in
            set_out f p _ o ∙ sym (set_out f p _ o)

    -- who gets it
    got : ℕ
    got = receivers (with_messages n (wait u) (had u) g) (table ts os) (peer p) (message k)

    has_got : (q : ℕ) → q < length e → has got q ≡ has (near k) q && not (has (near k) q && ((has (get_or (wait u) q 0) k && not (eqb q p && true)) || has (get_or (had more) q 0) k))
    unfolding got near receivers holders moved
    has_got q l = has_left (near k) holds fit q ∙ rw (asked, had_more)
      where
        holds : ℕ → Bool
        holds i = has (get_or (set (wait u) p (minus (get_or (wait u) p 0) (only k))) i 0) k || has (get_or (set (had u) p (union (get_or (had u) p 0) (only k))) i 0) k

        asked : has (get_or (set (wait u) p (minus (get_or (wait u) p 0) (only k))) q 0) k ≡ has (get_or (wait u) q 0) k && not (eqb q p && true)
        asked = has_less (wait u) p (only k) q k (omega (arith, wait_length u)) ∙ rw (has_only k k, eqb_same k)

    wait_more : edit (λ q x. with_if (has got q) k x) (set (wait u) p (minus (get_or (wait u) p 0) (only k))) ≡ wait more
    unfolding more
    wait_more =
        same_sets _ (wait more) (long ∙ sym (wait_length more))
        (λ q j l.
        let c : q < length e = omega (arith, long) in
        has_edit (λ i x. with_if (has got i) k x) taken q j (omega (arith, length_edit (λ i x. with_if (has got i) k x) taken)) ∙ has_with_if (has got q) k (get_or taken q 0) j
        ∙ ap (λ (x : Bool). x || (has got q && eqb k j)) (has_less (wait u) p (only k) q j (omega (arith, wait_length u))
        ∙ ap (λ (x : Bool). has (get_or (wait u) q 0) j && not (eqb q p && x)) (has_only k j)) ∙ go q j c (ℕ_discrete j k)
        ∙ sym (has_wait more more_lt q j c))
      where
        taken : List ℕ
        taken = set (wait u) p (minus (get_or (wait u) p 0) (only k))

        long : length (edit (λ q x. with_if (has got q) k x) taken) ≡ length e
        long = length_edit (λ q x. with_if (has got q) k x) taken ∙ length-set (wait u) p _ ∙ wait_length u

        go : (q j : ℕ) → q < length e → Dec (j ≡ k)
            → (has (get_or (wait u) q 0) j && not (eqb q p && eqb k j)) || (has got q && eqb k j)
            ≡ (has (get_or e q 0) j && not (eqb q p && has more j)) || ((has more j && has (near j) q) && not (has (get_or (had more) q 0) j))
        go q j l (yes z) =
            rw (z, eqb_same k, has_got q l, has_wait u b q k l, new, has_with u k, and-false (eqb q p), and-true (has (get_or e q 0) k), or-false (has (get_or e q 0) k))
            (waits (eqb q p) (has (near k) q) (has (get_or e q 0) k) (has (get_or (had more) q 0) k))
        go q j l (no z) =
            let d : k ≡ j → ⊥ = λ y. z (sym y) in
            rw (
              ne_eqb d,
              and-false (eqb q p),
              and-true (has (get_or (wait u) q 0) j),
              and-false (has got q),
              or-false (has (get_or (wait u) q 0) j),
              has_with_other u k j d,
              sym had_more,
              has_more_other (had u) p k q j z,
            )
            (has_wait u b q j l)

    step : fwd (table ts os) (with_messages n (wait u) (had u) g) p k ≡ with_messages n (wait more) (had more) g
    unfolding fwd forwarded given moved got
    step = ap₂ (λ (x y : List ℕ). with_messages n x y g) wait_more had_more

  -- the first k of the messages of w
  run_pairs : (w : ℕ) → ((j : ℕ) → has w j ≡ true → near j < 2 ^ 32) → (k : ℕ) → k ≤ 64
      → run (fwd (table ts os)) (with_messages n e f g) (pairs_of p w k) ≡ with_messages n (wait (set_of k (has w))) (had (set_of k (has w))) g
  unfolding rising run set_of when puts more
  run_pairs w fit zero l = sym (ap₂ (λ (x y : List ℕ). with_messages n x y g) wait_none had_none)
  run_pairs w fit (suc k) l = go (has w k) refl (run_pairs w fit k (omega arith))
    where
      u : ℕ
      u = set_of k (has w)

      go : (c : Bool) → has w k ≡ c → run (fwd (table ts os)) (with_messages n e f g) (pairs_of p w k) ≡ with_messages n (wait u) (had u) g
          → run (fwd (table ts os)) (with_messages n e f g) (pairs_of p w k ++ cond c (pair p k ∷ []) []) ≡ with_messages n (wait (with_if c k u)) (had (with_if c k u)) g
      go true h ih =
          run_snoc (fwd (table ts os)) (with_messages n e f g) (pairs_of p w k) p k ∙ ap (λ (x : Network). fwd (table ts os) x p k) ih
          ∙ step u k (lt_of_lt_of_le (set_of_lt k (has w)) (pow_mono {j = 64} (omega arith))) (omega arith) (has_set_of_out k (has w) k (omega arith)) (fit k h)
      go false h ih = ap (λ (x : List Pair). run (fwd (table ts os)) (with_messages n e f g) x) (append-nil (pairs_of p w k)) ∙ ih

  -- all of them
  leads_at_once : {e' f' : List ℕ} (w : ℕ) → w < 2 ^ 64 → AtOnce g ts e f p w e' f' → with_messages n e' f' g ≡ run (fwd (table ts os)) (with_messages n e f g) (pairs_of p w 64)
  unfolding wait had near
  leads_at_once {e'} {f'} w b a =
      ap₂ (λ (x y : List ℕ). with_messages n x y g) (a.pending ∙ ap (λ (x : List ℕ). spread g ts x p w (set e p (minus (get_or e p 0) w))) a.seen) a.seen
      ∙ sym (run_pairs w a.fit 64 (omega arith) ∙ ap (λ (x : ℕ). with_messages n (wait x) (had x) g) (set_of_has 64 w b))

-- What the code makes of n so is what the forwards lead to.
pub forwards_at_once : (b : Table) (n : Network) (p : ℕ) {w : ℕ} {n' : Network} → w < 2 ^ 64 → AtOnce n.known b.topics n.pending n.seen p w n'.pending n'.seen
    → n' ≡ with_messages n n'.pending n'.seen n.known → n' ≡ run (fwd b) n (pairs_of p w 64)
forwards_at_once b n p {w} l a e = e ∙ leads_at_once n b.origins n.pending n.seen n.known b.topics p w l a
