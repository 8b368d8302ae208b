-- The loop that asks each neighbour of p whether it lists p. Assumes nothing.
use Rattle.std.specs.Prelude.{◌≡◌, refl, Bool, true, false, not, ◌&&◌, ◌||◌, List, ℕ, ◌^◌, ◌<◌, get_or}
use Rattle.std.proofs.Common.{sym, ap, ◌∙◌}
use Rattle.sets.specs.Set.{has, meet, minus, only, Subset, lowest}
use Rattle.sets.specs.Rising.{Takes}
use Rattle.sets.proofs.laws.Bounds.{has_in, minus_lt}
use Rattle.sets.specs.Any.{all}
use Rattle.sets.proofs.laws.Any.{all_yes, all_why}
use Rattle.sets.proofs.laws.Bools.{clash, and_both, and_yes, and_no}
use Rattle.sets.proofs.laws.Members.{has_meet, has_minus}
use Rattle.sets.proofs.laws.Least.{lowest_of_is, lowest_of_none}
use Rattle.sets.proofs.laws.Lowest.{lowest_has, lowest_least, takes_narrow, takes_has}
use Rattle.sets.proofs.laws.Visits.{subset_self, subset_step, visited_none, visited_more, visited_all}
use Rattle.network.specs.declared.Peer.{Peer}
use Rattle.network.specs.Tests.{list_back}

-- What the loop keeps: of the peers listed some are left, and the others list p.
pub record Backs (neighbours : List ℕ) (listed p left : ℕ) : Type 0 where
  pub below : left < 2 ^ 32
  pub within : Subset left listed
  pub back : (q : ℕ) → has (minus listed left) q ≡ true → has (get_or neighbours q 0) p ≡ true

pub backs_none : {neighbours : List ℕ} {listed p left : ℕ} → listed < 2 ^ 32 → left ≡ listed → Backs neighbours listed p left
backs_none {neighbours} {listed} {p} h e = record {
  below = rw e h;
  within = rw e (subset_self listed);
  back = rw e (visited_none listed (λ (q : ℕ). has (get_or neighbours q 0) p ≡ true));
}

-- the least of those left, in a word of 64 bits, lists p
pub backs_more : {neighbours : List ℕ} {listed p left left' q : ℕ} → Backs neighbours listed p left → Takes 64 left q left'
    → has (get_or neighbours q 0) p ≡ true → Backs neighbours listed p left'
backs_more {neighbours} {listed} {p} {left} {left'} {q} b wide h =
    let t = takes_narrow b.below wide in
    record {
      below = rw t.rest (minus_lt 32 left (only (lowest 32 left)) b.below);
      within = rw t.rest (subset_step left listed (only (lowest 32 left)) b.within);
      back =
          rw t.rest
          (visited_more left listed (lowest 32 left) (λ (i : ℕ). has (get_or neighbours i 0) p ≡ true) b.within (lowest_has 32 left t.some b.below) b.back (rw t.least at h));
    }

-- none is left
pub backs_all : {neighbours : List ℕ} {listed left : ℕ} {p : Peer} → Backs neighbours listed p.0 left → left ≡ 0 → list_back neighbours listed p ≡ 32
unfolding list_back
backs_all {neighbours} {listed} {left} {p} b e =
    lowest_of_none 32 _ λ q l. and_no (has listed q) _ λ h. ap not (visited_all listed left (λ (i : ℕ). has (get_or neighbours i 0) p.0 ≡ true) e b.back q h)

-- the least of those left doesn't list p: those below it that are listed do
pub backs_not : {neighbours : List ℕ} {listed left left' q : ℕ} {p : Peer} → Backs neighbours listed p.0 left → Takes 64 left q left'
    → has (get_or neighbours q 0) p.0 ≡ false → (q ≡ list_back neighbours listed p) × (q < 32)
unfolding list_back Subset
backs_not {neighbours} {listed} {left} {q = q} {p = p} b wide h =
    let t = takes_narrow b.below wide in (
      sym (lowest_of_is 32 _ q t.below
          (and_both (b.within q (takes_has b.below t)) (ap not h))
          λ j l. and_no (has listed j) _ λ e. ap not (b.back j (has_minus listed left j ∙ and_both e (ap not (lowest_least 32 left j (rw t.least at l)))))),
      t.below,
    )

-- ---- all asked at once

-- What that loop keeps: `common` has p exactly where those visited list p.
pub record Common (neighbours : List ℕ) (listed p left common : ℕ) : Type 0 where
  pub below : left < 2 ^ 32
  pub within : Subset left listed
  pub yes : has common p ≡ true → (q : ℕ) → has (minus listed left) q ≡ true → has (get_or neighbours q 0) p ≡ true
  pub no : has common p ≡ false → (q : ℕ) × (has listed q ≡ true) × (has (get_or neighbours q 0) p ≡ false)

pub common_none : {neighbours : List ℕ} {listed p left common : ℕ} → listed < 2 ^ 32 → left ≡ listed → has common p ≡ true → Common neighbours listed p left common
common_none {neighbours} {listed} {p} h e c = record {
  below = rw e h;
  within = rw e (subset_self listed);
  yes = λ t. rw e (visited_none listed (λ (q : ℕ). has (get_or neighbours q 0) p ≡ true));
  no = λ f. clash c f;
}

-- one more is asked
pub common_more : {neighbours : List ℕ} {listed p left left' common common' q : ℕ} → Common neighbours listed p left common → Takes 64 left q left'
    → common' ≡ meet common (get_or neighbours q 0) → Common neighbours listed p left' common'
unfolding Subset
common_more {neighbours} {listed} {p} {left} {left'} {common} {q = q} b wide e =
    let t = takes_narrow b.below wide in
    let both = ap (λ (w : ℕ). has w p) e ∙ has_meet common (get_or neighbours q 0) p in
    record {
      below = rw t.rest (minus_lt 32 left (only (lowest 32 left)) b.below);
      within = rw t.rest (subset_step left listed (only (lowest 32 left)) b.within);
      yes = λ h.
          let y = and_yes (has common p) (has (get_or neighbours q 0) p) (sym both ∙ h) in
          rw t.rest
          (visited_more left listed (lowest 32 left) (λ (i : ℕ). has (get_or neighbours i 0) p ≡ true) b.within (lowest_has 32 left t.some b.below) (b.yes y.0) (rw t.least at y.1));
      no = λ h. lost (has common p) refl (has (get_or neighbours q 0) p) refl (sym both ∙ h) (b.within q (takes_has b.below t)) b.no;
    }
  where
    lost : (x : Bool) → has common p ≡ x → (y : Bool) → has (get_or neighbours q 0) p ≡ y → x && y ≡ false → has listed q ≡ true
        → (has common p ≡ false → (q : ℕ) × (has listed q ≡ true) × (has (get_or neighbours q 0) p ≡ false))
        → (q : ℕ) × (has listed q ≡ true) × (has (get_or neighbours q 0) p ≡ false)
    lost false ex y ey z l before = before ex
    lost true ex false ey z l before = (q, l, ey)
    lost true ex true ey z l before = clash refl z

-- all are asked
pub common_all : {neighbours : List ℕ} {listed p left common : ℕ} → listed < 2 ^ 32 → Common neighbours listed p left common → left ≡ 0
    → has common p ≡ all 32 (λ (q : ℕ). not (has listed q) || has (get_or neighbours q 0) p)
common_all {neighbours} {listed} {p} {left} {common} small b e = go (has common p) refl
  where
    back : ℕ → Bool
    back q = not (has listed q) || has (get_or neighbours q 0) p

    lists : (q : ℕ) (x : Bool) → has listed q ≡ x → (has listed q ≡ true → has (get_or neighbours q 0) p ≡ true) → not x || has (get_or neighbours q 0) p ≡ true
    lists q true h k = k h
    lists q false h k = refl

    go : (x : Bool) → has common p ≡ x → x ≡ all 32 back
    go true h = sym (all_yes 32 back (λ q l. ap (λ (y : Bool). not y || has (get_or neighbours q 0) p) refl
        ∙ lists q (has listed q) refl (visited_all listed left (λ (i : ℕ). has (get_or neighbours i 0) p ≡ true) e (b.yes h) q)))
    go false h = no (all 32 back) refl
      where
        no : (y : Bool) → all 32 back ≡ y → false ≡ y
        no false z = refl
        no true z =
            let w = b.no h in
            clash (all_why 32 back z w.0 (has_in 32 listed w.0 small w.1)) (rw (w.1, w.2) refl)
