-- `network::store::heads` meets its contract. Assumes nothing.
use Rattle.std.specs.Prelude.{◌≡◌, refl, Bool, true, false, ℕ, ◌^◌, ◌<◌, replicate}
use Rattle.std.proofs.Common.{rules, ap, ◌∙◌, arith}
use lib.ListN.{length-replicate, get_or-replicate}
use Rattle.sets.specs.Set.{has, when, digit}
use Rattle.sets.specs.Rising.{members}
use Rattle.lists.specs.Tab.{tab}
use Rattle.lists.specs.Visit.{visits}
use Rattle.lists.specs.laws.Edit.{length_edit, get_or_edit}
use Rattle.lists.specs.laws.Tab.{is_tab}
use Rattle.lists.specs.laws.Visit.{visiting_none, visiting_more, visiting_done, visits_edit}
use Rattle.network.proofs.store.heads.Invariants.{one}
use Rattle.network.proofs.store.heads.Goals as goal

-- 1 put at the members of s, in an array of zeros
marked : (s : ℕ) → s < 2 ^ 32 → visits one (members 32 s) (replicate 32 0) ≡ tab 32 (λ (p : ℕ). digit (has s p))
unfolding when
marked s h =
    visits_edit one 32 s (replicate 32 0) h
    ∙ is_tab 32 _ _ (length_edit _ (replicate 32 0) ∙ length-replicate {A = ℕ} 32 0)
    (λ i b. get_or_edit _ (replicate 32 0) i (omega (arith, length-replicate {A = ℕ} 32 0)) ∙ ap (λ (x : ℕ). when (has s i) (one i) x) (get_or-replicate 32 i 0 0 b) ∙ bit (has s i))
  where
    bit : (b : Bool) → when b (λ (x : ℕ). 1) 0 ≡ digit b
    bit true = refl
    bit false = refl

pub loop-p-init : goal.loop-p-init
loop-p-init c = visiting_none (search rules) (search rules)

pub loop-p-preserved : goal.loop-p-preserved
loop-p-preserved c = visiting_more c.loop-p.invariant c.in-Some.ensures.steps refl

pub returns : goal.returns
returns c = visiting_done c.loop-p.invariant c.in-None.ensures.steps.0 ∙ marked _ (search rules)
