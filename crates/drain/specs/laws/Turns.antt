-- What the loops of a round and of a drain keep, over any state that shows a network, and how each turn keeps it. Assumes nothing.
use Rattle.std.specs.Prelude.{◌≡◌, refl, ◌⊎◌, get_or, List, [], ◌∷◌, ◌++◌, ℕ, zero, suc, ◌+◌, ◌-◌, ◌≤◌, ◌<◌}
use Rattle.std.proofs.Common.{◌∙◌, inl, inr, add-one, length-append, take_all, arith}
use Rattle.std.proofs.Math.Path.{sym, ap, ap₂}
use Rattle.std.proofs.Math.Nat.{sub-zero}
use Rattle.std.proofs.Math.ListN.{length, take, length-take}
use Rattle.std.proofs.Math.Seq.{take-nil}
use Rattle.flooding.specs.Network.{Net}
use Rattle.flooding.specs.Machine.{Pair, run, due, round, Drained, stopped, drain}
use Rattle.flooding.proofs.laws.Loop.{run_append, drain_none, drain_stop, drain_round, drain_cut}
use Rattle.drain.specs.Pairs.{pairs_of, list_of}

-- The first n of two lists: as many of the first as there are, and of the second what n leaves.
take_both : (n : ℕ) (l r : List Pair) → take n (l ++ r) ≡ take n l ++ take (n - length (take n l)) r
take_both zero l r = refl
take_both (suc n) [] r = rw (sub-zero (suc n))
take_both (suc n) (x ∷ l) r =
    let e : suc n - suc (length (take n l)) ≡ n - length (take n l) = omega arith in
    rw (e, take_both n l r)

-- ---- the peers of a round, while the budget lasts

module _ {S : Type 0} (fwd : S → ℕ → ℕ → S) (start : S) (l : List ℕ) (left : ℕ) where
  -- What the loop over the peers keeps: those below p have had their turn, with their words of l, as far as the budget went.
  pub record Peers (p : ℕ) (now : S) (made : ℕ) : Type 0 where
    pub within : made ≤ left
    pub state : now ≡ run fwd start (take left (list_of l p))
    pub count : made ≡ length (take left (list_of l p))

  -- before the loop
  pub peers_none : Peers 0 start 0
  unfolding list_of run
  peers_none = record { within = omega arith; state = rw (take-nil left); count = rw (take-nil left) }

  -- one peer more
  pub peers_more : {p made k : ℕ} {now now' : S} (w : ℕ) → Peers p now made → w ≡ get_or l p 0
      → now' ≡ run fwd now (take (left - made) (pairs_of p w 64)) → k ≡ length (take (left - made) (pairs_of p w 64)) → Peers (p + 1) now' (made + k)
  unfolding list_of
  peers_more {p} {made} {k} {now} {now'} w v h e c =
      record {
        within = omega (arith, v.within, c, length-take (left - made) (pairs_of p w 64));
        state =
            e ∙ ap₂ (λ (s : S) (x : List Pair). run fwd s x) v.state front ∙ sym (run_append fwd start (take left (list_of l p)) _)
            ∙ ap (λ (x : List Pair). run fwd start x) (sym whole);
        count = ap₂ ◌+◌ v.count (c ∙ ap length front) ∙ sym (length-append (take left (list_of l p)) _) ∙ ap length (sym whole);
      }
    where
      front : take (left - made) (pairs_of p w 64) ≡ take (left - length (take left (list_of l p))) (pairs_of p (get_or l p 0) 64)
      front = ap₂ (λ (x y : ℕ). take (left - x) (pairs_of p y 64)) v.count h

      whole : take left (list_of l (p + 1)) ≡ take left (list_of l p) ++ take (left - length (take left (list_of l p))) (pairs_of p (get_or l p 0) 64)
      whole = rw (add-one p) (take_both left (list_of l p) (pairs_of p (get_or l p 0) 64))

-- ---- the rounds of a drain, while the budget lasts

-- Two answers with one end and equal numbers.
answers : {S : Type 0} (e : S) (f g r t : ℕ) → f ≡ g → r ≡ t → ◌≡◌ {A = Drained S} (record { end = e; forwards = f; rounds = r }) (record { end = e; forwards = g; rounds = t })
answers e f g r t x y = λ i. record { end = e; forwards = x i; rounds = y i }

module _ {S : Type 0} (view : S → Net) (fwd : S → ℕ → ℕ → S) (N M : ℕ) where
  -- a drain that has made `made` forwards and k rounds before it
  abbrev pub since : ℕ → ℕ → Drained S → Drained S
  since made k r = record { end = r.end; forwards = made + r.forwards; rounds = k + r.rounds }

  module _ (budget : ℕ) (start : S) where
    -- What the loop over the rounds keeps: whatever fuel is given, the drain from the start is what was made and the drain from here.
    pub record Going (now : S) (made k : ℕ) : Type 0 where
      pub within : made ≤ budget
      pub fewer : k ≤ made
      pub rest : (fuel : ℕ) → drain view fwd N M (k + suc fuel) budget start ≡ since made k (drain view fwd N M (suc fuel) (budget - made) now)

    -- before the loop
    pub going_none : Going start 0 0
    going_none =
        record {
          within = omega arith;
          fewer = omega arith;
          rest = λ fuel.
              let d : Drained S = drain view fwd N M (suc fuel) budget start in
              let z : 0 + suc fuel ≡ suc fuel = omega arith in
              rw (z, sub-zero budget) (answers d.end d.forwards (0 + d.forwards) d.rounds (0 + d.rounds) (omega arith) (omega arith));
        }

    module _ {now now' : S} {made k j : ℕ} (v : Going now made k) (some : 0 < length (due N M (view now)))
        (e : now' ≡ run fwd now (take (budget - made) (due N M (view now)))) (c : j ≡ length (take (budget - made) (due N M (view now)))) where
      -- a round, and the budget had all of it
      pub going_round : j ≡ length (due N M (view now)) → Going now' (made + j) (k + 1)
      unfolding round
      going_round h =
          record {
            within = omega (arith, c, length-take (budget - made) l, v.within);
            fewer = omega (arith, v.fewer);
            rest = λ fuel.
                let d : Drained S = drain view fwd N M (suc fuel) (budget - made - length l) (round view fwd N M now) in
                let z : k + 1 + suc fuel ≡ k + suc (suc fuel) = omega arith in
                let y : budget - made - length l ≡ budget - (made + j) = omega arith in
                rw z
                (v.rest (suc fuel) ∙ ap (since made k) (drain_round view fwd N M (suc fuel) (budget - made) now some fits)
                ∙ answers d.end (made + (length l + d.forwards)) (made + j + d.forwards) (k + suc d.rounds) (k + 1 + d.rounds) (omega arith) (omega arith)
                ∙ ap₂ (λ (x : ℕ) (t : S). since (made + j) (k + 1) (drain view fwd N M (suc fuel) x t)) y (sym there));
          }
        where
          l : List Pair
          l = due N M (view now)

          fits : length l ≤ budget - made
          fits = omega (arith, c, h, length-take (budget - made) l)

          there : now' ≡ round view fwd N M now
          there = e ∙ ap (λ (x : List Pair). run fwd now x) (take_all (budget - made) l fits)

      -- a round, and it had not
      pub going_part : (j ≡ length (due N M (view now)) → ⊥) → Going now' (made + j) k
      going_part h =
          record {
            within = omega (arith, spent, v.within);
            fewer = omega (arith, v.fewer);
            rest = λ fuel.
                let y : budget - (made + j) ≡ 0 = omega (arith, spent) in
                v.rest fuel ∙ ap (since made k) (drain_cut view fwd N M fuel (budget - made) now short)
                ∙ answers (run fwd now (take (budget - made) l)) (made + (budget - made)) (made + j + 0) (k + 0) (k + 0) (omega (arith, spent)) refl
                ∙ sym (ap₂ (λ (x : ℕ) (t : S). since (made + j) k (drain view fwd N M (suc fuel) x t)) y e ∙ ap (since (made + j) k) (drain_none view fwd N M (suc fuel) _));
          }
        where
          l : List Pair
          l = due N M (view now)

          short : budget - made < length l
          short = omega (arith, c, h, length-take (budget - made) l)

          spent : j ≡ budget - made
          spent = omega (arith, c, short, length-take (budget - made) l)

    -- after it: nothing is pending, or the budget is spent
    pub going_done : {now : S} {made k : ℕ} → Going now made k → (length (due N M (view now)) ≡ 0) ⊎ (made ≡ budget)
        → (fuel : ℕ) → drain view fwd N M (k + suc fuel) budget start ≡ record { end = now; forwards = made; rounds = k }
    going_done {now} {made} {k} v o fuel = v.rest fuel ∙ ap (since made k) (over o) ∙ answers now (made + 0) made (k + 0) k (omega arith) (omega arith)
      where
        over : (length (due N M (view now)) ≡ 0) ⊎ (made ≡ budget) → drain view fwd N M (suc fuel) (budget - made) now ≡ stopped now
        over (inl e) = drain_stop view fwd N M fuel (budget - made) now e
        over (inr e) =
            let y : budget - made ≡ 0 = omega arith in
            rw y (drain_none view fwd N M (suc fuel) now)
