-- Who lacks a message, as `lacking` of src/arrays.rt finds it. Assumes nothing.
use Rattle.std.specs.Prelude.{◌≡◌, refl, Bool, not, ◌&&◌, List, ℕ, ◌^◌, ◌<◌, get_or}
use Rattle.std.proofs.Common.{sym, ap, ◌∙◌}
use Rattle.sets.specs.Set.{has, union, minus, with_if, sift}
use Rattle.sets.proofs.laws.Bools.{bool2}
use Rattle.sets.proofs.laws.Members.{has_union, has_minus, ext}
use Rattle.sets.proofs.laws.Build.{has_sifted}
use Rattle.sets.specs.Rising.{Takes}
use Rattle.sets.proofs.laws.Lowest.{takes_narrow}
use Rattle.sets.proofs.laws.Visits.{Visit, visit_put, visit_done}
use Rattle.floodnet.specs.Lent.{holding}

-- ---- `lacking`: those of s that have m neither pending nor seen

-- q has it neither pending nor seen
unfoldable pub lacks : List ℕ → List ℕ → ℕ → ℕ → Bool
lacks pending seen m q = not (holding pending seen m q)

-- They are what those who hold it leave of s.
lacks_left : (s m : ℕ) (pending seen : List ℕ) → s < 2 ^ 32 → sift 32 s (lacks pending seen m) ≡ minus s (sift 32 s (holding pending seen m))
unfolding lacks
lacks_left s m pending seen h =
    ext _ _ (λ i. has_sifted 32 s (λ q. not (holding pending seen m q)) h i
    ∙ sym (has_minus s (sift 32 s (holding pending seen m)) i ∙ ap (λ (x : Bool). has s i && not x) (has_sifted 32 s (holding pending seen m) h i)
    ∙ bool2 (λ (x y : Bool). x && not (x && y) ≡ x && not y) refl refl refl refl (has s i) (holding pending seen m i)))

-- a turn: q, the least of those left, is put in where its two words together do not have m
pub lacking_more : {s left left' r r' q w : ℕ} {b : Bool} (pending seen : List ℕ) (m : ℕ) → Visit 32 s left r (lacks pending seen m) → Takes 64 left q left'
    → w ≡ union (get_or pending q 0) (get_or seen q 0) → b ≡ has w m → r' ≡ with_if (not b) q r
    → Visit 32 s left' r' (lacks pending seen m)
unfolding lacks holding
lacking_more {r = r} {q = q} {b = b} pending seen m v t ew eb er =
    visit_put v (takes_narrow v.below t)
    (er ∙ ap (λ (x : Bool). with_if (not x) q r) (eb ∙ ap (λ (x : ℕ). has x m) ew ∙ has_union (get_or pending q 0) (get_or seen q 0) m))

-- after the last turn
pub lacking_done : {s left r : ℕ} (pending seen : List ℕ) (m : ℕ) → Visit 32 s left r (lacks pending seen m) → left ≡ 0 → s < 2 ^ 32
    → r ≡ minus s (sift 32 s (holding pending seen m))
lacking_done {s} pending seen m v e h = visit_done v e ∙ lacks_left s m pending seen h
