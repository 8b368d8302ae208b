-- A drain with any budget, by the rounds that it answers: the page's record Within. Assumes nothing.
use Rattle.std.specs.Prelude.{◌≡◌, refl, ◌⊎◌, true, ◌||◌, List, [], ◌∷◌, ℕ, zero, suc, ◌<◌, take}
use Rattle.std.proofs.Math.Path.{sym, ap}
use Rattle.std.proofs.Common.{◌∙◌, inl, inr, arith}
use Rattle.sets.proofs.laws.Bools.{clash, not_false, or_yes, or_right}
use Rattle.flooding.specs.Network.{Net, Sound, at, Chain, Shortest}
use Rattle.flooding.specs.Machine.{Pair, pair, due, rounds, Drained}
use Rattle.flooding.proofs.laws.Machine.{Machine}
use Rattle.flooding.specs.Page.{Drains, Within}
use Rattle.flooding.proofs.laws.Run.{accepts_take, mem, after_seen, chain_unseen}
use Rattle.flooding.proofs.laws.Round.{todo_mem}
use Rattle.flooding.proofs.laws.Levels.{level}
use Rattle.flooding.proofs.laws.Floods.{run_view, due_accepts, rounds_ok, rounds_view}

-- What a front of a list has, the list has.
mem_take : (n : ℕ) (l : List Pair) (q k : ℕ) → mem (take n l) q k ≡ true → mem l q k ≡ true
unfolding mem
mem_take zero l q k h = clash h refl
mem_take (suc n) [] q k h = clash h refl
mem_take (suc n) (pair p m ∷ l) q k h = first (or_yes (at p m q k) _ h) (mem_take n l q k)
  where
    first : (at p m q k ≡ true) ⊎ (mem (take n l) q k ≡ true) → (mem (take n l) q k ≡ true → mem l q k ≡ true) → (at p m q k || mem l q k) ≡ true
    first (inl e) ih = rw e
    first (inr e) ih = or_right (at p m q k) (ih e)

module _ {S : Type 0} (view : S → Net) (fwd : S → ℕ → ℕ → S) (N M : ℕ) (ok : S → Type 0) (𝓜 : Machine view fwd N M ok) (s : S) (k : ok s) where
  module _ (b fuel : ℕ) (r : Drained S) (x : Drains view fwd N M s b fuel r) where
    -- the state after the rounds finished, and what was forwarded of the next
    t : S
    t = rounds view fwd N M r.rounds s

    last : List Pair
    last = take x.part (due N M (view t))

    fine : ok t
    unfolding t
    fine = rounds_ok view fwd N M ok 𝓜 r.rounds s k

    -- Seen at the end: seen after the rounds finished, or forwarded since.
    seen_is : (q m : ℕ) → (view r.end).seen q m ≡ ((view t).seen q m || mem last q m)
    unfolding t last
    seen_is q m =
        ap (λ (u : S). (view u).seen q m) x.whole
        ∙ ap (λ (u : Net). u.seen q m) (run_view view fwd N M ok 𝓜 t last fine (accepts_take view fwd x.part t (due N M (view t)) (due_accepts view fwd N M ok 𝓜 t fine)))
        ∙ after_seen (view t) last q m

    -- What was forwarded since was pending after the rounds finished.
    last_pending : (q m : ℕ) → mem last q m ≡ true → (view t).pending q m ≡ true
    unfolding last
    last_pending q m h = sym (todo_mem N M (view t) (𝓜.sound t fine) q m) ∙ mem_take x.part (due N M (view t)) q m h

    -- the network's own rounds
    sound : Sound N M (view s)
    sound = 𝓜.sound s k

    pub within : Within view fwd N M s r
    unfolding t
    within =
        record {
          nearer = λ m q d h l.
              seen_is q m ∙ rw (ap (λ (u : Net). u.seen q m) (rounds_view view fwd N M ok 𝓜 r.rounds s k) ∙ (level N M (view s) sound r.rounds).seen_near q m d l h.chain);
          farther = λ m q d h l. not_false λ w. late m q d h l (or_yes _ _ (sym (seen_is q m) ∙ w));
        }
      where
        early : (m q d : ℕ) → Shortest (view s) m q d → r.rounds < d → ((view s).seen q m ≡ true) ⊎ ((j : ℕ) × (j < r.rounds) × Chain (view s) m q j) → ⊥
        early m q d h l (inl e) = clash e (chain_unseen (view s) sound h.chain)
        early m q d h l (inr c) = h.least c.0 (omega (arith, c.1)) c.2

        late : (m q d : ℕ) → Shortest (view s) m q d → r.rounds < d → ((view t).seen q m ≡ true) ⊎ (mem last q m ≡ true) → ⊥
        late m q d h l (inl e) =
            early m q d h l ((level N M (view s) sound r.rounds).seen_why q m (sym (ap (λ (u : Net). u.seen q m) (rounds_view view fwd N M ok 𝓜 r.rounds s k)) ∙ e))
        late m q d h l (inr e) =
            h.least r.rounds l
            ((level N M (view s) sound r.rounds).pending_why q m (sym (ap (λ (u : Net). u.pending q m) (rounds_view view fwd N M ok 𝓜 r.rounds s k)) ∙ last_pending q m e)).chain
