-- Laws of the drain's answer: a round's list by words, and any fuel that is enough. Assumes nothing.
use Rattle.std.specs.Prelude.{◌≡◌, refl, ℕ, ◌+◌, ◌≤◌, length}
use Rattle.std.proofs.Common.{sym, ◌∙◌, arith}
use Rattle.sets.specs.Set.{count}
use Rattle.sets.proofs.laws.Bools.{not_false}
use Rattle.flooding.specs.Network as flooding
use Rattle.flooding.specs.Counts.{pending_pairs}
use Rattle.flooding.specs.Machine.{due, drain, rounds}
use Rattle.flooding.specs.Page.{Floods}
use Rattle.flooding.proofs.laws.Loop.{due_length, drain_budget}
use Rattle.flooding.proofs.laws.Floods.{floods}
use Rattle.flooding.proofs.laws.Drain.{drain_fuel}
use Rattle.network.specs.declared.Network.{Network}
use Rattle.network.specs.declared.Table.{Table}
use Rattle.network.specs.Network.{Rows}
use Rattle.network.specs.Sound.{Sound}
use Rattle.floodnet.specs.View.{view, fwd}
use Rattle.floodnet.specs.laws.ViewLaws.{network_machine}
use Rattle.drain.specs.Drain.{drain_of, drain_within}
use Rattle.drain.specs.Pairs.{list_of, waiting_of}
use Rattle.drain.specs.laws.Pairs.{todo_list}

-- A round has to forward the pairs of the words of pending messages, and as many as are pending.
pub due_list : (b : Table) (n : Network) → due 32 64 (view b n) ≡ list_of n.pending 32
unfolding view
due_list b n = todo_list (view b n) n.pending (λ p m. refl) 32

pub waiting_due : (b : Table) (n : Network) → waiting_of n.pending ≡ length (due 32 64 (view b n))
unfolding waiting_of count view pending_pairs
waiting_due b n = sym (due_length 32 64 (view b n))

-- Of any network: as many rounds as the budget has forwards are enough.
pub any_fuel : (b : Table) (budget k : ℕ) (n : Network) → budget ≤ k → drain_within b budget n ≡ drain (view b) (fwd b) 32 64 k budget n
unfolding drain_within
any_fuel b budget k n l = drain_budget (view b) (fwd b) 32 64 budget k budget n (omega arith) l

module _ {b : Table} {n : Network} (s : Sound n) (rows : Rows b) where
  -- From 32 rounds on nothing is pending.
  late : (k : ℕ) → 32 ≤ k → flooding.Quiet (view b (rounds (view b) (fwd b) 32 64 k n))
  late k l q m = not_false λ h. absurd (below ((page.pending_by_rounds m q k).0 h))
    where
      page : Floods (view b) (fwd b) 32 64 n
      page = floods (view b) (fwd b) 32 64 Sound (network_machine rows) n s

      below : flooding.Shortest (view b n) m q k → ⊥
      below h =
          let x = page.nearest m q (k, h.chain) in
          h.least x.0 (omega (arith, x.1)) x.2.chain

  -- Fuel for 32 rounds, and any more, gives one answer.
  pub drain_enough : (k budget : ℕ) → 32 ≤ k → drain (view b) (fwd b) 32 64 k budget n ≡ drain_of b budget n
  unfolding drain_of
  drain_enough k budget l = drain_fuel (view b) (fwd b) 32 64 Sound (network_machine rows) k 32 budget n s (late k l) (late 32 (omega arith))

  -- So the drain that the budget ends is the client's.
  pub drain_within_lem : (budget : ℕ) → drain_within b budget n ≡ drain_of b budget n
  drain_within_lem budget = any_fuel b budget (32 + budget) n (omega arith) ∙ drain_enough (32 + budget) budget (omega arith)
