-- How the code of src/refusals.rt comes to a refusal. Assumes nothing.
use Rattle.std.specs.Prelude.{◌≡◌, Bool, true, false, ℕ, ◌^◌, ◌<◌, eqb}
use Rattle.std.proofs.Common.{sym, ap, ◌∙◌, arith, eqb-true}
use Rattle.std.proofs.lemmas.Bool.{eq-eqb}
use Rattle.sets.specs.Set.{has, minus, sift, size, Subset}
use Rattle.sets.proofs.laws.Bools.{and_yes, bool_ext, ne_eqb}
use Rattle.sets.proofs.laws.Build.{has_sifted}
use Rattle.sets.proofs.laws.Counts.{size_empty}
use Rattle.sets.proofs.laws.Sizes.{size_minus_meet}
use Rattle.sets.proofs.laws.Subsets.{meet_of_subset}
use Rattle.sets.proofs.laws.Visits.{minus_none}
use Rattle.network.specs.declared.Message.{Message}
use Rattle.network.specs.declared.Network.{Network}
use Rattle.network.specs.Rules.{need}
use Rattle.floodnet.specs.Produce.{holders, is_new}
use Rattle.floodnet.specs.Lent.{holding}

-- a condition that fails
pub need_fails : (b : Bool) (k r : ℕ) → b ≡ false → need b k r ≡ k
unfolding need
need_fails b k r e = ap (λ (x : Bool). need x k r) e

-- a condition that holds
pub need_holds : (b : Bool) (k r : ℕ) → b ≡ true → need b k r ≡ r
unfolding need
need_holds b k r e = ap (λ (x : Bool). need x k r) e

-- a condition that was asked, r, and that fails or holds
pub test_fails : {r t : Bool} → r ≡ t → r ≡ false → t ≡ false
test_fails h e = sym h ∙ e

pub test_holds : {r t : Bool} → r ≡ t → r ≡ true → t ≡ true
test_holds h e = sym h ∙ e

-- what src/refusals.rt names
pub ruleset needs = (need_fails, need_holds)

-- r are those of s that do not hold m: the test `r == s` says whether nobody of s holds it
pub held_law : (n : Network) (s : ℕ) (m : Message) {r : ℕ} → s < 2 ^ 32 → r ≡ minus s (sift 32 s (holding n.pending n.seen m.0)) → eqb r s ≡ eqb (holders n s m) 0
unfolding holders holding Subset
held_law n s m {r} b h =
    bool_ext
    (λ e. eq-eqb held 0 (size_empty _ (omega (arith, size_minus_meet s held, ap size (sym h ∙ eqb-true r s e), ap size (meet_of_subset s held part)))))
    (λ e. eq-eqb r s (h ∙ ap (minus s) (eqb-true held 0 e) ∙ minus_none s))
  where
    held : ℕ
    held = holders n s m

    part : Subset held s
    part i x = (and_yes (has s i) _ (sym (has_sifted 32 s _ b i) ∙ x)).0

-- where it says no, somebody does, however large s is
pub some_held : (n : Network) (s : ℕ) (m : Message) {r : ℕ} → r ≡ minus s (sift 32 s (holding n.pending n.seen m.0)) → (r ≡ s → ⊥) → eqb (holders n s m) 0 ≡ false
unfolding holders holding
some_held n s m h e = ne_eqb (λ (z : holders n s m ≡ 0). e (h ∙ ap (minus s) z ∙ minus_none s))

-- and of those present, whether m is new
pub new_law : (n : Network) (m : Message) {r : ℕ} → n.present < 2 ^ 32 → r ≡ minus n.present (sift 32 n.present (holding n.pending n.seen m.0)) → eqb r n.present ≡ is_new n m
unfolding is_new
new_law n m b h = held_law n n.present m b h
