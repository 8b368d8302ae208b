-- What `drain_all` promises, of a sound network and of two outcomes; and what its loop keeps, said of the arrays and of the network that is lent.
-- Assumes nothing.
use Rattle.std.specs.Prelude.{◌≡◌, ◌⊎◌, Bool, refl, List, [], ◌∷◌, ℕ, suc, ◌+◌, ◌-◌, ◌≤◌, ◌<◌, length, take}
use Rattle.std.proofs.Math.Path.{sym, ap}
use Rattle.std.proofs.Common.{◌∙◌, arith, length-take}
use Rattle.std.proofs.Math.Logic.{inl, inr}
use Rattle.flooding.specs.Machine.{Pair, pair, due, Drained, run}
use Rattle.network.specs.declared.Network.{Network}
use Rattle.network.specs.Network.{Rows, table}
use Rattle.network.specs.laws.Network.{bare}
use Rattle.network.specs.Sound.{Sound}
use Rattle.network.specs.declared.Table.{Table}
use Rattle.floodnet.specs.Produce.{holders}
use Rattle.floodnet.specs.Forward.{moved, receivers, given, forwarded}
use Rattle.floodnet.specs.View.{view, fwd}
use Rattle.floodnet.specs.Lent.{with_messages}
use Rattle.drain.specs.Drain.{drain_of, drain_within, quiet_of}
use Rattle.drain.specs.laws.DrainLaws.{due_list, waiting_due, any_fuel, drain_within_lem}
use Rattle.drain.specs.Pairs.{list_of, waiting_of, empty_words}
use Rattle.drain.specs.laws.Turns.{Going, going_none, going_round, going_part, going_done}
use Rattle.drain.specs.declared.Drains.{Drains}
use Rattle.drain.specs.Lent.{Leads, Answers, DrainsTo}

-- ---- the promise

-- Of a sound network and a table of accepted rows, it is the drain of the client's page.
pub drains_sound : {g ts e f e' f' : List ℕ} {r : Drains} (budget : ℕ) → DrainsTo g ts e f budget e' f' r → (n : Network) (os : List ℕ)
    → Sound (with_messages n e f g) → Rows (table ts os) → Answers (drain_of (table ts os) budget (with_messages n e f g)) (with_messages n e' f' g) r
drains_sound budget h n os s rows = rw (drain_within_lem s rows budget) at (h n os)

-- Two outcomes are equal: the answers, and the arrays.
pub drains_settle : (g ts e f : List ℕ) (budget : ℕ) {e' f' e'' f'' : List ℕ} {r t : Drains} → DrainsTo g ts e f budget e' f' r → DrainsTo g ts e f budget e'' f'' t
    → (r ≡ t) × (e' ≡ e'') × (f' ≡ f'')
drains_settle g ts e f budget {e'} {f'} {e''} {f''} h k =
    let x = h bare [] in
    let y = k bare [] in
    let same : with_messages bare e' f' g ≡ with_messages bare e'' f'' g = x.end ∙ sym y.end in (
      λ i. record {
        forwards = (x.forwards ∙ sym y.forwards) i;
        rounds = (x.rounds ∙ sym y.rounds) i;
        quiet = (x.quiet ∙ sym y.quiet) i;
      },
      ap (λ (n : Network). n.pending) same,
      ap (λ (n : Network). n.seen) same,
    )

-- ---- the loop

-- What it keeps, from e, f to e', f'.
pub record Draining (g ts e f : List ℕ) (budget : ℕ) (e' f' : List ℕ) (made k : ℕ) : Type 0 where
  pub within : made ≤ budget
  pub going : (n : Network) (os : List ℕ) → Going (view (table ts os)) (fwd (table ts os)) 32 64 budget (with_messages n e f g) (with_messages n e' f' g) made k

-- before it
pub lent_none : (g ts e f : List ℕ) (budget : ℕ) → Draining g ts e f budget e f 0 0
lent_none g ts e f budget = record { within = omega arith; going = λ n os. going_none (view (table ts os)) (fwd (table ts os)) 32 64 budget (with_messages n e f g) }

module _ {g ts e f e' f' : List ℕ} {budget made k : ℕ} (v : Draining g ts e f budget e' f' made k) where
  -- It is left with the answer of the drain.
  pub lent_done : (waiting_of e' ≡ 0) ⊎ (made ≡ budget) → (q : Bool) → q ≡ empty_words e' → DrainsTo g ts e f budget e' f' (record { forwards = made; rounds = k; quiet = q })
  unfolding quiet_of
  lent_done o q eq n os =
      record {
        end = sym (ap (λ (r : Drained Network). r.end) all);
        forwards = sym (ap (λ (r : Drained Network). r.forwards) all);
        rounds = sym (ap (λ (r : Drained Network). r.rounds) all);
        quiet = eq ∙ ap (λ (x : Drained Network). quiet_of x.end) (sym all);
      }
    where
      over : (waiting_of e' ≡ 0) ⊎ (made ≡ budget) → (length (due 32 64 (view (table ts os) (with_messages n e' f' g))) ≡ 0) ⊎ (made ≡ budget)
      over (inl z) = inl (sym (waiting_due (table ts os) (with_messages n e' f' g)) ∙ z)
      over (inr z) = inr z

      all : drain_within (table ts os) budget (with_messages n e f g) ≡ record { end = with_messages n e' f' g; forwards = made; rounds = k }
      all = any_fuel (table ts os) budget (k + suc budget) (with_messages n e f g) (omega arith)
          ∙ going_done (view (table ts os)) (fwd (table ts os)) 32 64 budget (with_messages n e f g) (v.going n os) (over o) budget

  module _ {e'' f'' : List ℕ} {w j : ℕ} (waits : w ≡ waiting_of e') (some : w ≡ 0 → ⊥) (leads : Leads g ts e' f' (take (budget - made) (list_of e' 32)) e'' f'')
      (makes : j ≡ length (take (budget - made) (list_of e' 32))) where
    -- a round's list, and its length
    due_is : (n : Network) (os : List ℕ) → due 32 64 (view (table ts os) (with_messages n e' f' g)) ≡ list_of e' 32
    due_is n os = due_list (table ts os) (with_messages n e' f' g)

    list : w ≡ length (list_of e' 32)
    list = waits ∙ waiting_due (table ts []) (with_messages bare e' f' g) ∙ ap length (due_is bare [])

    -- A turn stays within the budget, and forwards something while it lasts.
    pub lent_fits : made + j ≤ budget
    lent_fits = omega (arith, v.within, makes, length-take (budget - made) (list_of e' 32))

    pub lent_moves : made < budget → 0 < j
    lent_moves l = omega (arith, some, list, makes, length-take (budget - made) (list_of e' 32))

    -- A turn whose round was finished, and one whose round was not.
    pub lent_round : j ≡ w → Draining g ts e f budget e'' f'' (made + j) (k + 1)
    lent_round h =
        record {
          within = lent_fits;
          going = λ n os. going_round (view (table ts os)) (fwd (table ts os)) 32 64 budget (with_messages n e f g) (v.going n os)
              (rw (due_is n os) (omega (arith, some, list))) (rw (due_is n os) (leads n os)) (rw (due_is n os) makes) (rw (due_is n os) (h ∙ list));
        }

    pub lent_part : (j ≡ w → ⊥) → Draining g ts e f budget e'' f'' (made + j) k
    lent_part h =
        record {
          within = lent_fits;
          going = λ n os. going_part (view (table ts os)) (fwd (table ts os)) 32 64 budget (with_messages n e f g) (v.going n os)
              (rw (due_is n os) (omega (arith, some, list))) (rw (due_is n os) (leads n os)) (rw (due_is n os) makes) (rw (due_is n os) (λ z. h (z ∙ sym list)));
        }

-- ---- the network that is lent

-- Forwards change what is pending and what is seen, and nothing else.
pub run_others : (b : Table) (n : Network) (l : List Pair) → run (fwd b) n l ≡ with_messages n (run (fwd b) n l).pending (run (fwd b) n l).seen n.known
unfolding run fwd forwarded given moved
run_others b n [] = refl
run_others b n (pair p m ∷ l) = run_others b (fwd b n p m) l

-- They look at these, at the known subscribers and at the topics: so they lead from what one network has to what it has then in every other.
pub run_leads : (b : Table) (n : Network) (l : List Pair) → Leads n.known b.topics n.pending n.seen l (run (fwd b) n l).pending (run (fwd b) n l).seen
unfolding run fwd forwarded given moved receivers holders
run_leads b n [] m os = refl
run_leads b n (pair p k ∷ l) m os = run_leads b (fwd b n p k) l m os

-- What the loop over the rounds keeps, from the network n to o.
pub record Rounds (b : Table) (budget : ℕ) (n o : Network) (made k : ℕ) : Type 0 where
  pub fewer : k ≤ made
  pub others : o ≡ with_messages n o.pending o.seen n.known
  pub draining : Draining n.known b.topics n.pending n.seen budget o.pending o.seen made k

-- before its first turn
pub rounds_none : (b : Table) (budget : ℕ) (n : Network) → Rounds b budget n n 0 0
rounds_none b budget n = record { fewer = omega arith; others = refl; draining = lent_none n.known b.topics n.pending n.seen budget }

-- a turn, a round from o to u of j forwards where w pairs are pending: it forwards some, and was finished or not
module _ {b : Table} {budget made k w j : ℕ} {n o u : Network} (v : Rounds b budget n o made k) (waits : w ≡ waiting_of o.pending) (some : 0 < w) (spare : made < budget)
    (leads : u ≡ run (fwd b) o (take (budget - made) (list_of o.pending 32))) (makes : j ≡ length (take (budget - made) (list_of o.pending 32))) where
  abbrev l : List Pair
  l = take (budget - made) (list_of o.pending 32)

  pub round_leads : Leads n.known b.topics o.pending o.seen l u.pending u.seen
  round_leads = rw (leads, sym (ap (λ (x : Network). x.known) v.others)) (run_leads b o l)

  other : u ≡ with_messages n u.pending u.seen n.known
  other = rw leads (run_others b o l ∙ ap (λ (x : Network). with_messages x (run (fwd b) o l).pending (run (fwd b) o l).seen x.known) v.others)

  busy : w ≡ 0 → ⊥
  busy z = omega (arith, some, z)

  pub round_some : 0 < j
  round_some = lent_moves v.draining waits busy round_leads makes spare

  pub round_full : j ≡ w → Rounds b budget n u (made + j) (k + 1)
  round_full h = record { fewer = omega (arith, v.fewer, round_some); others = other; draining = lent_round v.draining waits busy round_leads makes h }

  pub round_part : (j ≡ w → ⊥) → Rounds b budget n u (made + j) k
  round_part h = record { fewer = omega (arith, v.fewer); others = other; draining = lent_part v.draining waits busy round_leads makes h }
