-- The client's page holds of every sound network and every table of accepted rows: flooding's page, put into the words of specs/Reach.antt.
-- Assumes nothing.
use Rattle.std.specs.Prelude.{◌≡◌, ◌⊎◌, ◌↔◌, true, false, List, length, take, ℕ, suc, ◌+◌, ◌≤◌, ◌<◌}
use Rattle.std.proofs.Common.{◌∙◌, arith}
use Rattle.std.proofs.Math.Path.{refl, sym, ap}
use Rattle.std.proofs.Math.Logic.{inl, inr}
use Rattle.flooding.specs.Network as flooding
use Rattle.flooding.specs.Network.{holds}
use Rattle.flooding.specs.Machine.{run, due, round, rounds}
use Rattle.flooding.specs.Page.{Floods, Drains, Finishes}
use Rattle.flooding.proofs.laws.Floods.{held_or_linked, floods, run_ok}
use Rattle.flooding.proofs.laws.Drain.{drain_law, drain_finishes}
use Rattle.flooding.proofs.laws.Within.{within}
use Rattle.network.specs.declared.Peer.{Peer}
use Rattle.network.specs.declared.Message.{Message}
use Rattle.network.specs.declared.Network.{Network}
use Rattle.network.specs.declared.Table.{Table}
use Rattle.network.specs.Network.{peer, present, pending, saw, Rows}
use Rattle.network.specs.Sound.{Sound}
use Rattle.network.specs.laws.SoundLaws.{pending_present}
use Rattle.floodnet.specs.Forward.{forwarded}
use Rattle.floodnet.specs.Refusals.{refusal_forward}
use Rattle.floodnet.specs.View.{view, fwd}
use Rattle.floodnet.specs.laws.ViewLaws.{network_machine}
use Rattle.drain.specs.Drain.{rounds_of, drain_of}
use Rattle.drain.specs.Reach.{Forward, after, Accepted, unseen, Quiet, Reaches, holder, onward, Shortest, due_of, Reach}
use Rattle.drain.specs.laws.ReachWords.{numbers, numbers_length, accepted_pending, pending_accepted, after_run, accepts, named, named_length, after_named, accepted_named, due_length, after_due, after_part, still, quiet, quiet_words, unseen_pairs_lem, to_chain, of_chain}

module _ {b : Table} {n : Network} (s : Sound n) (rows : Rows b) where
  to_shortest : {m : Message} {q : Peer} {d : ℕ} → Shortest b n m q d → flooding.Shortest (view b n) m.0 q.0 d
  to_shortest h = record { chain = to_chain s rows h.chain; least = λ k l c. h.least k l (of_chain s rows c) }

  of_shortest : {m : Message} {q : Peer} {d : ℕ} → flooding.Shortest (view b n) m.0 q.0 d → Shortest b n m q d
  of_shortest h = record { chain = of_chain s rows h.chain; least = λ k l c. h.least k l (to_chain s rows c) }

  -- THE DRAIN, whatever its budget: flooding's page of a drain holds of it.
  pub drains : (budget : ℕ) → Drains (view b) (fwd b) 32 64 n budget 32 (drain_of b budget n)
  unfolding drain_of
  drains budget = drain_law (view b) (fwd b) 32 64 Sound (network_machine rows) budget n s

  -- With enough budget it makes full rounds until nothing is pending.
  pub drain_done : (budget : ℕ) → 2048 ≤ budget → Finishes (view b) (fwd b) 32 64 n (drain_of b budget n)
  unfolding drain_of
  drain_done budget h = drain_finishes (view b) (fwd b) 32 64 Sound (network_machine rows) budget n s h

  page : Floods (view b) (fwd b) 32 64 n
  page = floods (view b) (fwd b) 32 64 Sound (network_machine rows) n s

  -- what flooding says of the numbers of a list, said of the list
  lowers : (p : Peer) (m : Message) → refusal_forward n p m ≡ 0 → unseen n ≡ suc (unseen (forwarded n b p m))
  unfolding view fwd
  lowers p m a = unseen_pairs_lem b n ∙ page.each_lowers p.0 m.0 (accepted_pending n p m a) ∙ ap suc (sym (unseen_pairs_lem b (forwarded n b p m)))

  module _ (l : List Forward) (a : Accepted b n l) where
    sound_after : Sound (after b n l)
    sound_after = rw (after_run b n l) (run_ok (view b) (fwd b) 32 64 Sound (network_machine rows) n (numbers l) s (accepts b n l a))

    counted : length l + unseen (after b n l) ≡ unseen n
    counted = rw (after_run b n l, unseen_pairs_lem b n, unseen_pairs_lem b (run (fwd b) n (numbers l)), ← numbers_length l) (page.counts (numbers l) (accepts b n l a))

    settled : Quiet (after b n l) → flooding.Quiet (view b (run (fwd b) n (numbers l)))
    settled q = still b (run (fwd b) n (numbers l)) (rw (after_run b n l) at q)

    rests : (m : Message) → ((p : Peer) → pending (after b n l) p m ≡ false) → (p : ℕ) → (view b (run (fwd b) n (numbers l))).pending p m.0 ≡ false
    unfolding view
    rests m still p = rw (after_run b n l) at (still (peer p))

    seen : (m : Message) → ((p : Peer) → pending (after b n l) p m ≡ false) → (q : Peer)
        → (saw (after b n l) q m ≡ true) ↔ ((saw n q m ≡ true) ⊎ ((pending n q m ≡ true) ⊎ ((d : ℕ) × Reaches b n m q (suc d))))
    unfolding view
    seen m still q =
        let x = page.seen_at_rest (numbers l) (accepts b n l a) m.0 (rests m still) q.0 in
        rw (after_run b n l) (λ h. ends (x.0 h), λ o. x.1 (starts o))
      where
        ends : (saw n q m ≡ true) ⊎ flooding.Reached (view b n) m.0 q.0 → (saw n q m ≡ true) ⊎ ((pending n q m ≡ true) ⊎ ((d : ℕ) × Reaches b n m q (suc d)))
        ends (inl h) = inl h
        ends (inr c) = inr (first (held_or_linked.0 c))
          where
            first : (pending n q m ≡ true) ⊎ flooding.Linked (view b n) m.0 q.0 → (pending n q m ≡ true) ⊎ ((d : ℕ) × Reaches b n m q (suc d))
            first (inl h) = inl h
            first (inr c) = inr (c.0, of_chain s rows c.1)

        starts : (saw n q m ≡ true) ⊎ ((pending n q m ≡ true) ⊎ ((d : ℕ) × Reaches b n m q (suc d))) → (saw n q m ≡ true) ⊎ flooding.Reached (view b n) m.0 q.0
        starts (inl h) = inl h
        starts (inr (inl h)) = inr (0, holds h)
        starts (inr (inr c)) = inr (suc c.0, to_chain s rows c.1)

  same : (l r : List Forward) → Accepted b n l → Accepted b n r → Quiet (after b n l) → Quiet (after b n r) → after b n l ≡ after b n r
  same l r a c q t =
      after_run b n l ∙ page.same_end (numbers l) (numbers r) (accepts b n l a) (accepts b n r c) (settled l a q) (settled r c t) ∙ sym (after_run b n r)

  equally : (l r : List Forward) → Accepted b n l → Accepted b n r → Quiet (after b n l) → Quiet (after b n r) → length l ≡ length r
  equally l r a c q t =
      sym (numbers_length l) ∙ page.same_count (numbers l) (numbers r) (accepts b n l a) (accepts b n r c) (settled l a q) (settled r c t) ∙ numbers_length r

  there : {m : Message} {q : Peer} {d : ℕ} → Reaches b n m q d → present n q ≡ true
  there {m} {q} (holder h) = pending_present s q m h
  there (onward {p = p} {q = q} c k u z) = s.near p q k

  turns : (m : Message) (q : Peer) (d : ℕ) → Shortest b n m q d → (saw (rounds_of b (suc d) n) q m ≡ true) × (saw (rounds_of b d n) q m ≡ false)
  unfolding rounds_of view
  turns m q d h = page.by_rounds m.0 q.0 d (to_shortest h)

  near : (m : Message) (q : Peer) (k : ℕ) → Reaches b n m q k → (d : ℕ) × (d < 32) × Shortest b n m q d
  near m q k c =
      let x = page.nearest m.0 q.0 (k, to_chain s rows c) in
      (x.0, x.1, of_shortest x.2)

  calm : Quiet (rounds_of b 32 n)
  unfolding rounds_of
  calm = quiet b _ page.few_rounds

  waits : (m : Message) (q : Peer) (k : ℕ) → (pending (rounds_of b k n) q m ≡ true) ↔ Shortest b n m q k
  unfolding rounds_of view
  waits m q k =
      let x = page.pending_by_rounds m.0 q.0 k in
      (λ h. of_shortest (x.0 h), λ h. x.1 (to_shortest h))

  first_round : rounds_of b 0 n ≡ n
  unfolding rounds_of rounds
  first_round = refl

  next_round : (k : ℕ) → rounds_of b (suc k) n ≡ after b (rounds_of b k n) (due_of (rounds_of b k n))
  unfolding rounds_of rounds round
  next_round k = sym (after_due b (rounds (view b) (fwd b) 32 64 k n))

  -- ---- the drain

  path : (budget : ℕ) → (l : List Forward) × Accepted b n l × ((drain_of b budget n).end ≡ after b n l) × ((drain_of b budget n).forwards ≡ length l)
  path budget =
      let x = drains budget in
      (named x.path, accepted_named s rows x.path x.accepted, x.ends ∙ sym (after_named b n x.path), x.made ∙ sym (named_length x.path))

  -- A drain ends in a sound network.
  pub end_sound : (budget : ℕ) → Sound (drain_of b budget n).end
  end_sound budget =
      let x = drains budget in
      rw x.ends (run_ok (view b) (fwd b) 32 64 Sound (network_machine rows) n x.path s x.accepted)

  part_of : (budget : ℕ)
      → (let last = rounds_of b (drain_of b budget n).rounds n in
      (part : ℕ) × ((drain_of b budget n).end ≡ after b last (take part (due_of last))) × ((part < length (due_of last)) ⊎ Quiet last))
  unfolding rounds_of
  part_of budget =
      let x = drains budget in
      (x.part, x.whole ∙ sym (after_part b _ x.part), first x.part x.unfinished)
    where
      last : Network
      last = rounds_of b (drain_of b budget n).rounds n

      first : (part : ℕ) → (part < length (due 32 64 (view b last))) ⊎ flooding.Quiet (view b last) → (part < length (due_of last)) ⊎ Quiet last
      first part (inl h) = inl (rw (due_length b last) h)
      first part (inr q) = inr (quiet b last q)

  by_budget : (budget : ℕ) (m : Message) (q : Peer) (d : ℕ) → Shortest b n m q d
      → (d < (drain_of b budget n).rounds → saw (drain_of b budget n).end q m ≡ true) × ((drain_of b budget n).rounds < d → saw (drain_of b budget n).end q m ≡ false)
  unfolding view
  by_budget budget m q d h =
      let x = within (view b) (fwd b) 32 64 Sound (network_machine rows) n s budget 32 (drain_of b budget n) (drains budget) in
      (x.nearer m.0 q.0 d (to_shortest h), x.farther m.0 q.0 d (to_shortest h))

  needed : (budget k : ℕ) → k < (drain_of b budget n).rounds → Quiet (rounds_of b k n) → ⊥
  unfolding rounds_of
  needed budget k l q = (drains budget).needed k l (still b _ q)

  full : (budget : ℕ) → 2048 ≤ budget → (drain_of b budget n).end ≡ rounds_of b (drain_of b budget n).rounds n
  unfolding rounds_of
  full budget h = (drain_done budget h).ends

  stops : (budget : ℕ) → Quiet (drain_of b budget n).end ⊎ ((drain_of b budget n).forwards ≡ budget)
  stops budget = go (drains budget).stops
    where
      go : flooding.Quiet (view b (drain_of b budget n).end) ⊎ ((drain_of b budget n).forwards ≡ budget) → Quiet (drain_of b budget n).end ⊎ ((drain_of b budget n).forwards ≡ budget)
      go (inl q) = inl (quiet b _ q)
      go (inr e) = inr e

  few : (budget : ℕ) → ((drain_of b budget n).forwards ≤ budget) × ((drain_of b budget n).forwards ≤ 2048) × ((drain_of b budget n).rounds ≤ 32)
  few budget =
      let x = drains budget in
      (x.within, rw x.made (page.few_forwards x.path x.accepted), x.few)

  any_order : (budget : ℕ) → 2048 ≤ budget → (l : List Forward) → Accepted b n l → Quiet (after b n l)
      → (after b n l ≡ (drain_of b budget n).end) × (length l ≡ (drain_of b budget n).forwards)
  any_order budget h l a q =
      let x = drains budget in
      let t : flooding.Quiet (view b (run (fwd b) n x.path)) = rw x.ends at (drain_done budget h).quiet in (
        after_run b n l ∙ page.same_end (numbers l) x.path (accepts b n l a) x.accepted (settled l a q) t ∙ sym x.ends,
        sym (numbers_length l) ∙ page.same_count (numbers l) x.path (accepts b n l a) x.accepted (settled l a q) t ∙ sym x.made,
      )

  -- DEMAND 3, OVER THE NETWORK.
  pub reach : Reach b n
  reach =
      record {
        stays_sound = sound_after;
        each_lowers = lowers;
        counts = counted;
        seen_at_end = λ l a still q m. seen l a m (λ p. still p m) q;
        seen_at_rest = seen;
        goes_on = λ p m. (accepted_pending n p m, pending_accepted s p m);
        reached_present = λ m q d c. there c;
        same_end = same;
        same_count = equally;
        by_rounds = turns;
        holders = λ m q h. record { chain = holder h; least = λ (k : ℕ) (l : k < 0) c. omega arith };
        nearest = near;
        pending_after = waits;
        no_round = first_round;
        one_more_round = next_round;
        few_forwards = λ l a. rw (sym (numbers_length l)) (page.few_forwards (numbers l) (accepts b n l a));
        few_rounds = calm;
        drain_path = path;
        drain_sound = end_sound;
        drain_course = part_of;
        drain_seen = by_budget;
        quiet_means = λ budget. quiet_words (end_sound budget).shaped;
        drain_quiet = λ budget h. quiet b _ (drain_done budget h).quiet;
        drain_rounds = full;
        drain_needed = needed;
        drain_stops = stops;
        drain_few = few;
        drain_any_order = any_order;
      }
