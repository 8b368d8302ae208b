-- Forwards make only messages pending that were pending before, or that they forward. Assumes nothing.
use Rattle.std.specs.Prelude.{◌≡◌, refl, ◌⊎◌, Bool, true, false, cond, ◌&&◌, List, [], ◌∷◌, ◌++◌, ℕ, zero, suc, ◌≤◌, ◌<◌, eqb, length, get_or, set, take}
use Rattle.std.proofs.Common.{sym, ap, ◌∙◌, inl, inr, arith, length-set, eqb-true}
use native.Mathlib.Decide.{dec_lt}
use Rattle.sets.specs.Set.{has, minus, only, with_if}
use Rattle.sets.specs.Rising.{rising}
use Rattle.sets.proofs.laws.Bools.{clash, and_yes, or_yes}
use Rattle.sets.proofs.laws.Build.{has_with_if}
use Rattle.lists.specs.Edit.{edit}
use Rattle.lists.specs.laws.Edit.{length_edit}
use Rattle.flooding.specs.Machine.{Pair, pair, run}
use Rattle.network.specs.declared.Network.{Network}
use Rattle.network.specs.declared.Table.{Table}
use Rattle.network.specs.Network.{peer, message, table}
use Rattle.network.specs.laws.Network.{bare}
use Rattle.floodnet.specs.Forward.{moved, receivers, given, forwarded}
use Rattle.floodnet.specs.laws.Places.{has_beyond, has_edit}
use Rattle.floodnet.specs.View.{fwd}
use Rattle.floodnet.specs.Lent.{with_messages}
use Rattle.drain.specs.Pairs.{pairs_of, list_of}
use Rattle.drain.specs.Lent.{Leads}
use Rattle.drain.proofs.AtOnceForwards.{has_less}

module _ (Q : ℕ → Type 0) where
  -- every message of the 32 words of l has Q; every pair of a list has a message with Q
  abbrev pub Within : List ℕ → Type 0
  Within l = (p : ℕ) → p < 32 → (m : ℕ) → has (get_or l p 0) m ≡ true → Q m

  abbrev Of : List Pair → Type 0
  Of [] = Unit {0}
  Of (pair p m ∷ l) = Q m × Of l

  -- ---- a round's list

  of_append : (l r : List Pair) → Of l → Of r → Of (l ++ r)
  of_append [] r h k = k
  of_append (pair p m ∷ l) r h k = (h.0, of_append l r h.1 k)

  of_take : (k : ℕ) (l : List Pair) → Of l → Of (take k l)
  of_take zero l h = tt
  of_take (suc k) [] h = tt
  of_take (suc k) (pair p m ∷ l) h = (h.0, of_take k l h.1)

  of_pairs : (p w k : ℕ) → ((m : ℕ) → has w m ≡ true → Q m) → Of (pairs_of p w k)
  unfolding rising
  of_pairs p w zero h = tt
  of_pairs p w (suc k) h = of_append (pairs_of p w k) _ (of_pairs p w k h) (last (has w k) (h k))
    where
      last : (b : Bool) → (b ≡ true → Q k) → Of (cond b (pair p k ∷ []) [])
      last true x = (x refl, tt)
      last false x = tt

  of_list : (l : List ℕ) (p : ℕ) → p ≤ 32 → Within l → Of (list_of l p)
  unfolding list_of
  of_list l zero b h = tt
  of_list l (suc p) b h = of_append (list_of l p) _ (of_list l p (omega arith) h) (of_pairs p (get_or l p 0) 64 (h p (omega arith)))

  -- ---- the forwards

  -- One: what it makes pending is its message.
  fwd_within : (b : Table) (n : Network) (p m : ℕ) → Within n.pending → Q m → Within (fwd b n p m).pending
  unfolding fwd forwarded given moved
  fwd_within b n p m h x q o k e = go (dec_lt q (length l))
    where
      l : List ℕ
      l = n.pending

      r : ℕ
      r = receivers n b (peer p) (message m)

      taken : List ℕ
      taken = set l p (minus (get_or l p 0) (only m))

      made : List ℕ
      made = edit (λ i w. with_if (has r i) m w) taken

      long : length made ≡ length l
      long = length_edit (λ i w. with_if (has r i) m w) taken ∙ length-set l p (minus (get_or l p 0) (only m))

      -- pending before, or m
      which : q < length l → (has (get_or taken q 0) k ≡ true) ⊎ (has r q && eqb m k ≡ true) → Q k
      which c (inl y) = h q o k (and_yes (has (get_or l q 0) k) _ (sym (has_less l p (only m) q k c) ∙ y)).0
      which c (inr y) = rw (sym (eqb-true m k (and_yes (has r q) (eqb m k) y).1)) x

      go : Dec (q < length l) → Q k
      go (yes c) =
          which c (or_yes (has (get_or taken q 0) k) (has r q && eqb m k)
          (sym (has_with_if (has r q) m (get_or taken q 0) k) ∙ sym (has_edit (λ i w. with_if (has r i) m w) taken q k (omega (arith, length-set l p (minus (get_or l p 0) (only m))))) ∙ e))
      go (no c) = clash e (has_beyond made q k (omega (arith, long)))

  -- All of a list.
  run_within : (b : Table) (n : Network) (l : List Pair) → Within n.pending → Of l → Within (run (fwd b) n l).pending
  unfolding run
  run_within b n [] h x = h
  run_within b n (pair p m ∷ l) h x = run_within b (fwd b n p m) l (fwd_within b n p m h x.0) x.1

  -- A round, or the part of one that the budget has: no other message becomes pending.
  pub leads_within : (k : ℕ) (ts e f : List ℕ) {g e' f' : List ℕ} → Leads g ts e f (take k (list_of e 32)) e' f' → Within e → Within e'
  leads_within k ts e f {g} leads h p o m =
      rw (ap (λ (n : Network). n.pending) (leads bare []))
      (run_within (table ts []) (with_messages bare e f g) (take k (list_of e 32)) h (of_take k (list_of e 32) (of_list e 32 (omega arith) h)) p o m)
