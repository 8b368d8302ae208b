-- Laws of specs/Tests.antt. Assumes nothing.
use Rattle.std.specs.Prelude.{◌≡◌, Bool, true, false, not, ◌&&◌, List, Option, None, Some, is_some, unwrap_or, ℕ, ◌^◌, ◌<◌, eqb, get_or}
use Rattle.std.proofs.Common.{sym, ap, ◌∙◌, arith, eq-eqb}
use mathlib.Core.Bool.{and_comm}
use Rattle.sets.proofs.laws.Members.{has_meet, has_minus}
use Rattle.sets.proofs.laws.Bounds.{meet_lt, minus_lt}
use Rattle.sets.proofs.laws.Build.{set_of_lt, has_set_of, is_set_of}
use Rattle.sets.specs.Set.{has, meet, minus, set_of, lowest}
use Rattle.sets.specs.Rising.{Gives}
use Rattle.sets.proofs.laws.Bools.{and_or_not, ne_eqb}
use Rattle.sets.proofs.laws.Least.{lowest_of_same, lowest_of_is_all}
use Rattle.sets.proofs.laws.Lowest.{lowest_none, lowest_lowest_of}
use Rattle.sets.specs.Any.{all}
use Rattle.sets.proofs.laws.Any.{all_same}
use Rattle.lists.specs.laws.Tab.{get_or_tab}
use Rattle.network.specs.declared.Peer.{Peer}
use Rattle.network.specs.declared.Network.{Network}
use Rattle.network.specs.Network.{peer, topic, spot, neighbours_of, known_of, present, linked, subscribed}
use Rattle.network.specs.Rules.{own_right, near_at, near_right, back_at, back_right, known_at, known_right, lowest_wrong}
use Rattle.network.specs.Tests.{Found, subscribers_of, near_absent, list_back, same_at, row_known}

-- what is compared for topic t
pub known_at_lem : (known subscribers : List ℕ) (listed : ℕ) (p : Peer) (t : ℕ) {i w : ℕ} → i ≡ spot p (topic t) → w ≡ meet (get_or subscribers t 0) listed → eqb (get_or known i 0) w ≡ same_at known subscribers listed p t
known_at_lem known subscribers listed p t ei ew = rw (ei, ew)

-- ---- each is its rule: the lowest at fault is the rule's, and there is none where the rule is kept

rule_found : (right : ℕ → Bool) {l : ℕ} (o : Option ℕ) → l ≡ lowest_wrong right → Found 32 o l → all 32 right ≡ not (is_some o)
unfolding lowest_wrong
rule_found right None h f = sym (lowest_of_is_all 32 right) ∙ eq-eqb _ 32 (sym h ∙ f)
rule_found right (Some q) h f = sym (lowest_of_is_all 32 right) ∙ ne_eqb λ d. omega (arith, f.0, f.1, h, d)

-- "each neighbour q is present": by the word of those that are not
pub near_lowest : (listed present : ℕ) → listed < 2 ^ 32 → lowest 32 (minus listed present) ≡ near_absent listed present
unfolding near_absent
near_lowest listed present h = lowest_lowest_of 32 (minus listed present) (minus_lt 32 listed present h) ∙ lowest_of_same 32 _ _ λ q l. has_minus listed present q

pub near_next : (listed present : ℕ) {absent : ℕ} (w : ℕ) (o : Option ℕ) → listed < 2 ^ 32 → absent ≡ minus listed present → Gives 32 absent o w → Found 32 o (near_absent listed present)
near_next listed present w None h e g = sym (near_lowest listed present h) ∙ ap (lowest 32) (sym e ∙ g.0) ∙ lowest_none 32
near_next listed present w (Some q) h e t = (t.least ∙ ap (lowest 32) e ∙ near_lowest listed present h, t.below)

pub near_is : (n : Network) (p : Peer) → near_absent (neighbours_of n p) n.present ≡ lowest_wrong (near_at n p)
unfolding near_absent lowest_wrong
near_is n p = lowest_of_same 32 _ _ λ q l. and_or_not (linked n p (peer q)) (present n (peer q))

-- "and lists p"
pub back_is : (n : Network) (p : Peer) → list_back n.neighbours (neighbours_of n p) p ≡ lowest_wrong (back_at n p)
unfolding list_back lowest_wrong
back_is n p = lowest_of_same 32 _ _ λ q l. and_or_not (linked n p (peer q)) (linked n (peer q) p)

-- "the neighbours subscribed to t" are those that both sets have
both_is : (n : Network) (p : Peer) (t : ℕ) → t < 32
    → meet (get_or (subscribers_of n.subs) t 0) (neighbours_of n p) ≡ set_of 32 (λ (q : ℕ). linked n p (peer q) && subscribed n (peer q) (topic t))
unfolding subscribers_of
both_is n p t b =
    ap (λ (w : ℕ). meet w (neighbours_of n p)) (get_or_tab 32 (λ (u : ℕ). set_of 32 (λ (q : ℕ). has (get_or n.subs q 0) u)) t b)
    ∙ is_set_of 32 _ _ (meet_lt 32 _ (neighbours_of n p) (set_of_lt 32 to)) λ q l.
    has_meet (set_of 32 to) (neighbours_of n p) q ∙ ap (λ (x : Bool). x && has (neighbours_of n p) q) (has_set_of 32 to q l) ∙ and_comm (to q) (has (neighbours_of n p) q)
  where
    to : ℕ → Bool
    to q = has (get_or n.subs q 0) t

pub same_is : (n : Network) (p : Peer) {subscribers : List ℕ} → subscribers ≡ subscribers_of n.subs → all 32 (same_at n.known subscribers (neighbours_of n p) p) ≡ known_right n p
unfolding known_right
same_is n p e = rw e (all_same 32 _ _ λ t b. ap (eqb (known_of n p (topic t))) (both_is n p t b))

pub known_is : (n : Network) (p : Peer) {subscribers : List ℕ} → subscribers ≡ subscribers_of n.subs → row_known n.known subscribers (neighbours_of n p) p ≡ lowest_wrong (known_at n p)
unfolding row_known lowest_wrong
known_is n p e = rw e (lowest_of_same 32 _ _ λ t b. ap (λ (w : ℕ). not (eqb (known_of n p (topic t)) w)) (both_is n p t b))

-- ---- what each test says of a network's record: that the rule is kept, or that it is broken
module _ (n : Network) (p : Peer) where
  pub own_kept : {r : Bool} → r ≡ has (neighbours_of n p) p.0 → r ≡ false → own_right n p ≡ true
  unfolding own_right
  own_kept e h = ap not (sym e ∙ h)

  near_found_is : (o : Option ℕ) → Found 32 o (near_absent (neighbours_of n p) n.present) → near_right n p ≡ not (is_some o)
  unfolding near_right
  near_found_is o f = rule_found (near_at n p) o (near_is n p) f

  pub near_kept : (o : Option ℕ) → Found 32 o (near_absent (neighbours_of n p) n.present) → is_some o ≡ false → near_right n p ≡ true
  near_kept o f h = near_found_is o f ∙ ap not h

  pub near_broken : (o : Option ℕ) → Found 32 o (near_absent (neighbours_of n p) n.present) → is_some o ≡ true → near_right n p ≡ false
  near_broken o f h = near_found_is o f ∙ ap not h

  pub back_tested : {r b : Bool} → r ≡ back_right n p → r ≡ b → back_right n p ≡ b
  back_tested e h = sym e ∙ h

  pub known_tested : {subscribers : List ℕ} {r b : Bool} → subscribers ≡ subscribers_of n.subs → r ≡ all 32 (same_at n.known subscribers (neighbours_of n p) p) → r ≡ b → known_right n p ≡ b
  known_tested s e h = sym (same_is n p s) ∙ sym e ∙ h

-- where a search has to find d, that is what it found
pub found_as : (o : Option ℕ) {k d : ℕ} → Found 32 o k → k ≡ d → d < 32 → unwrap_or o 0 ≡ d
found_as None f e b = absurd (omega arith)
found_as (Some q) f e b = f.0 ∙ e
