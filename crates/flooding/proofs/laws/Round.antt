-- What one round does: its list is what was pending when it began, each forward of it is accepted, and soundness is kept. Assumes nothing.
use Rattle.std.specs.Prelude.{◌≡◌, ◌⊎◌, Bool, not, cond, ◌&&◌, ◌||◌, List, [], ◌∷◌, ◌++◌, eqb, ℕ, zero, suc, ◌<◌}
use Rattle.std.proofs.Common.{◌∙◌, inl, inr, arith, eqb-true}
use Rattle.std.proofs.Math.Path.{refl, sym}
use Rattle.std.proofs.Math.Bool.{true, false, or-false}
use Rattle.sets.proofs.laws.Bools.{clash, not_false, bool_ext, and_yes, or_yes, or_right, not_yes, eqb_same, below_suc}
use Rattle.flooding.specs.Network.{Net, Sound, link, at, forward}
use Rattle.flooding.specs.Machine.{Pair, pair, run, row, todo, round, rounds}
use Rattle.flooding.proofs.laws.Machine.{itself}
use Rattle.flooding.proofs.laws.Loop.{run_append}
use Rattle.flooding.proofs.laws.Run.{after, Accepted, accepts_append, mem, feeds, feeds_yes, feeds_why, after_seen, after_pending, after_known, after_topic}

-- A network's own rounds.
abbrev pub net_round : ℕ → ℕ → Net → Net
net_round N M s = round itself forward N M s

abbrev pub net_rounds : ℕ → ℕ → ℕ → Net → Net
net_rounds N M k s = rounds itself forward N M k s

-- A list after another: its pairs.
pub mem_append : (l r : List Pair) (q n : ℕ) → mem (l ++ r) q n ≡ (mem l q n || mem r q n)
unfolding mem
mem_append [] r q n = refl
mem_append (pair p m ∷ l) r q n = rw (mem_append l r q n) (assoc (at p m q n))
  where
    assoc : (a : Bool) → (a || (mem l q n || mem r q n)) ≡ ((a || mem l q n) || mem r q n)
    assoc true = refl
    assoc false = refl

-- The last of a row, if it is there.
one_why : (s : Net) (p k q n : ℕ) → mem (cond (s.pending p k) (pair p k ∷ []) []) q n ≡ true → (q ≡ p) × (n ≡ k) × (s.pending p k ≡ true)
unfolding mem
one_why s p k q n h = first (s.pending p k) refl h
  where
    first : (b : Bool) → s.pending p k ≡ b → mem (cond b (pair p k ∷ []) []) q n ≡ true → (q ≡ p) × (n ≡ k) × (s.pending p k ≡ true)
    first true e h' =
        let x = and_yes (eqb q p) _ (sym (or-false (at p k q n)) ∙ h') in
        (eqb-true q p x.0, eqb-true n k x.1, e)
    first false e h' = clash h' refl

one_yes : (s : Net) (p k : ℕ) → s.pending p k ≡ true → mem (cond (s.pending p k) (pair p k ∷ []) []) p k ≡ true
unfolding mem
one_yes s p k h = rw (h, eqb_same p, eqb_same k)

-- A row has the pairs of p that are pending, and no others; so has the list of all rows.
pub row_why : (s : Net) (p k q n : ℕ) → mem (row s p k) q n ≡ true → (q ≡ p) × (n < k) × (s.pending p n ≡ true)
unfolding mem row
row_why s p zero q n h = clash h refl
row_why s p (suc k) q n h = first (or_yes _ _ (sym (mem_append (row s p k) _ q n) ∙ h)) (row_why s p k q n)
  where
    first : (mem (row s p k) q n ≡ true) ⊎ (mem (cond (s.pending p k) (pair p k ∷ []) []) q n ≡ true) → (mem (row s p k) q n ≡ true → (q ≡ p) × (n < k) × (s.pending p n ≡ true)) → (q ≡ p) × (n < suc k) × (s.pending p n ≡ true)
    first (inl x) ih =
        let y = ih x in
        (y.0, omega arith, y.2)
    first (inr x) ih =
        let y = one_why s p k q n x in
        (y.0, omega arith, rw y.1 y.2)

pub row_yes : (s : Net) (p k n : ℕ) → n < k → s.pending p n ≡ true → mem (row s p k) p n ≡ true
unfolding mem row
row_yes s p zero n h w = absurd (omega arith)
row_yes s p (suc k) n h w = mem_append (row s p k) _ p n ∙ first (below_suc n k h) (λ h'. row_yes s p k n h' w)
  where
    first : (n < k) ⊎ (n ≡ k) → (n < k → mem (row s p k) p n ≡ true) → (mem (row s p k) p n || mem (cond (s.pending p k) (pair p k ∷ []) []) p n) ≡ true
    first (inl x) ih = rw (ih x)
    first (inr e) ih = or_right (mem (row s p k) p n) (rw e (one_yes s p k (rw e at w)))

pub todo_why : (M : ℕ) (s : Net) (k q n : ℕ) → mem (todo M s k) q n ≡ true → (q < k) × (s.pending q n ≡ true)
unfolding mem todo
todo_why M s zero q n h = clash h refl
todo_why M s (suc k) q n h = first (or_yes _ _ (sym (mem_append (todo M s k) _ q n) ∙ h)) (todo_why M s k q n)
  where
    first : (mem (todo M s k) q n ≡ true) ⊎ (mem (row s k M) q n ≡ true) → (mem (todo M s k) q n ≡ true → (q < k) × (s.pending q n ≡ true)) → (q < suc k) × (s.pending q n ≡ true)
    first (inl x) ih =
        let y = ih x in
        (omega arith, y.1)
    first (inr x) ih =
        let y = row_why s k M q n x in
        (omega arith, rw y.0 y.2)

pub todo_yes : (M : ℕ) (s : Net) (k q n : ℕ) → q < k → n < M → s.pending q n ≡ true → mem (todo M s k) q n ≡ true
unfolding mem todo
todo_yes M s zero q n h b w = absurd (omega arith)
todo_yes M s (suc k) q n h b w = mem_append (todo M s k) _ q n ∙ first (below_suc q k h) (λ h'. todo_yes M s k q n h' b w)
  where
    first : (q < k) ⊎ (q ≡ k) → (q < k → mem (todo M s k) q n ≡ true) → (mem (todo M s k) q n || mem (row s k M) q n) ≡ true
    first (inl x) ih = rw (ih x)
    first (inr e) ih = or_right (mem (todo M s k) q n) (rw e (row_yes s k M n b (rw e at w)))

-- A pair that is pending and not yet forwarded is still pending.
pub still_pending : (s : Net) (l : List Pair) (q n : ℕ) → s.pending q n ≡ true → mem l q n ≡ false → (after s l).pending q n ≡ true
still_pending s l q n w e = after_pending s l q n ∙ rw (e, w)

-- A round's forwards are all accepted: each pair is still pending when its turn comes.
row_accepted : (s : Net) (l : List Pair) (p k : ℕ) → ((n : ℕ) → mem l p n ≡ false) → Accepted (after s l) (row s p k)
unfolding row
row_accepted s l p zero new = tt
row_accepted s l p (suc k) new = accepts_append itself forward (after s l) (row s p k) _ (row_accepted s l p k new) (first (s.pending p k) refl)
  where
    fresh : mem (l ++ row s p k) p k ≡ false
    fresh = mem_append l (row s p k) p k ∙ rw (new k) (not_false λ h. absurd (row_late (row_why s p k p k h).1))
      where
        row_late : k < k → ⊥
        row_late h = omega arith

    first : (b : Bool) → s.pending p k ≡ b → Accepted (after (after s l) (row s p k)) (cond b (pair p k ∷ []) [])
    first true e = (rw (← run_append forward s l (row s p k)) (still_pending s (l ++ row s p k) p k e fresh), tt)
    first false e = tt

pub todo_accepted : (M : ℕ) (s : Net) (k : ℕ) → Accepted s (todo M s k)
unfolding todo
todo_accepted M s zero = tt
todo_accepted M s (suc k) = accepts_append itself forward s (todo M s k) (row s k M) (todo_accepted M s k) (row_accepted s (todo M s k) k M λ n. not_false λ h. late (todo_why M s k k n h).0)
  where
    late : k < k → ⊥
    late h = omega arith

-- Soundness is kept.
pub sound_forward : {N M : ℕ} (s : Net) (p m : ℕ) → Sound N M s → s.pending p m ≡ true → Sound N M (forward s p m)
unfolding forward
sound_forward {N} {M} s p m ok a =
    record {
      peers = ok.peers;
      held = λ q n h. held q n (or_yes (s.pending q n) _ (and_yes (not (at p m q n)) _ h).1);
      had = λ q n h. had q n (or_yes (s.seen q n) _ h);
      linked = ok.linked;
      apart = λ q n h. apart q n (and_yes (not (at p m q n)) _ h);
    }
  where
    held : (q n : ℕ) → (s.pending q n ≡ true) ⊎ ((not (s.seen q n) && (eqb n m && link s m p q)) ≡ true) → (s.present q ≡ true) × (n < M)
    held q n (inl w) = ok.held q n w
    held q n (inr e) =
        let x = and_yes (eqb n m) _ (and_yes (not (s.seen q n)) _ e).1 in
        (ok.linked p (s.topic m) q x.1, rw (eqb-true n m x.0) (ok.held p m a).1)

    had : (q n : ℕ) → (s.seen q n ≡ true) ⊎ (at p m q n ≡ true) → (s.present q ≡ true) × (n < M)
    had q n (inl w) = ok.had q n w
    had q n (inr e) =
        let x = and_yes (eqb q p) _ e in
        rw (eqb-true q p x.0, eqb-true n m x.1) (ok.held p m a)

    apart : (q n : ℕ) → (not (at p m q n) ≡ true) × ((s.pending q n || (not (s.seen q n) && (eqb n m && link s m p q))) ≡ true) → (s.seen q n || at p m q n) ≡ false
    apart q n x = rw (not_yes (at p m q n) x.0) (or-false (s.seen q n) ∙ first (or_yes (s.pending q n) _ x.1))
      where
        first : (s.pending q n ≡ true) ⊎ ((not (s.seen q n) && (eqb n m && link s m p q)) ≡ true) → s.seen q n ≡ false
        first (inl w) = ok.apart q n w
        first (inr e) = not_yes (s.seen q n) (and_yes (not (s.seen q n)) _ e).0

pub sound_after : {N M : ℕ} (s : Net) (l : List Pair) → Sound N M s → Accepted s l → Sound N M (after s l)
unfolding run
sound_after s [] ok a = ok
sound_after s (pair p m ∷ l) ok a = sound_after (forward s p m) l (sound_forward s p m ok a.0) a.1

module _ (N M : ℕ) where
  -- A round's list is what is pending.
  pub todo_mem : (s : Net) → Sound N M s → (q n : ℕ) → mem (todo M s N) q n ≡ s.pending q n
  todo_mem s ok q n =
      bool_ext (λ h. (todo_why M s N q n h).1)
      λ w. todo_yes M s N q n (ok.peers q (ok.held q n w).0) (ok.held q n w).1 w

  -- What a round does.
  pub round_seen : (s : Net) → Sound N M s → (q n : ℕ) → (net_round N M s).seen q n ≡ (s.seen q n || s.pending q n)
  unfolding round
  round_seen s ok q n = after_seen s (todo M s N) q n ∙ rw (todo_mem s ok q n)

  pub round_pending_why : (s : Net) → Sound N M s → (q n : ℕ) → (net_round N M s).pending q n ≡ true
      → (s.pending q n ≡ false) × (s.seen q n ≡ false) × ((p : ℕ) × (s.pending p n ≡ true) × (link s n p q ≡ true))
  unfolding round
  round_pending_why s ok q n h =
      let x = and_yes (not (s.pending q n)) _ (sym (rw (todo_mem s ok q n) at (after_pending s (todo M s N) q n)) ∙ h) in
      first (not_yes (s.pending q n) x.0) (or_yes (s.pending q n) _ x.1)
    where
      first : s.pending q n ≡ false → (s.pending q n ≡ true) ⊎ ((not (s.seen q n) && feeds (link s) (todo M s N) q n) ≡ true)
          → (s.pending q n ≡ false) × (s.seen q n ≡ false) × ((p : ℕ) × (s.pending p n ≡ true) × (link s n p q ≡ true))
      first e (inl w) = clash w e
      first e (inr f) =
          let x = and_yes (not (s.seen q n)) _ f in
          let y = feeds_why (link s) (todo M s N) q n x.1 in
          (e, not_yes (s.seen q n) x.0, (y.0, sym (todo_mem s ok y.0 n) ∙ y.1, y.2))

  pub round_pending_yes : (s : Net) → Sound N M s → (p q n : ℕ) → s.pending p n ≡ true → link s n p q ≡ true → s.pending q n ≡ false → s.seen q n ≡ false → (net_round N M s).pending q n ≡ true
  unfolding round
  round_pending_yes s ok p q n w k e z =
      let f : feeds (link s) (todo M s N) q n ≡ true = feeds_yes (link s) (todo M s N) p q n (todo_mem s ok p n ∙ w) k in
      after_pending s (todo M s N) q n ∙ rw (todo_mem s ok q n, e, z, f)

  -- k rounds keep soundness, and the links.
  pub sound_rounds : (s : Net) → Sound N M s → (k : ℕ) → Sound N M (net_rounds N M k s)
  unfolding rounds round
  sound_rounds s ok zero = ok
  sound_rounds s ok (suc k) = sound_after (net_rounds N M k s) _ (sound_rounds s ok k) (todo_accepted M (net_rounds N M k s) N)

  pub rounds_link : (s : Net) (k m p q : ℕ) → link (net_rounds N M k s) m p q ≡ link s m p q
  unfolding rounds round
  rounds_link s zero m p q = refl
  rounds_link s (suc k) m p q = rw (after_known (net_rounds N M k s) (todo M (net_rounds N M k s) N), after_topic (net_rounds N M k s) (todo M (net_rounds N M k s) N)) (rounds_link s k m p q)
