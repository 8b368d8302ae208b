-- The code of join and leave, part by part: what the network becomes is what Links says. Assumes nothing.
use Rattle.std.specs.Prelude.{◌≡◌, Bool, ◌&&◌, List, ℕ, ◌/◌, ◌%◌, eqb, get_or, set}
use Rattle.std.proofs.Common.{sym, ap, ap₂, ◌∙◌}
use Rattle.sets.specs.Set.{has, union, minus, only, when, puts, strikes, with_if}
use Rattle.sets.proofs.laws.Bools.{eqb_same, ne_eqb}
use Rattle.lists.specs.Edit.{edit}
use Rattle.lists.specs.laws.Edit.{edit_edit, set_is_edit}
use Rattle.network.specs.declared.Peer.{Peer}
use Rattle.network.specs.declared.Network.{Network}
use Rattle.network.specs.Network.{with_neighbours, with_known, subs_of, neighbours_of}
use Rattle.floodnet.specs.Topics.{noted}
use Rattle.floodnet.specs.Links.{link_up, link_down}
use Rattle.floodnet.specs.Lent.{learnt}

-- a store at p of h of what stands there
store_when : (d : List ℕ) (p : ℕ) (h : ℕ → ℕ) (v : ℕ) → v ≡ h (get_or d p 0) → set d p v ≡ edit (λ q w. when (eqb q p) h w) d
unfolding when
store_when d p h v e =
    set_is_edit (λ q w. when (eqb q p) h w) d p v (λ i z x. ap (λ (b : Bool). when b h x) (ne_eqb z))
    (e ∙ ap (λ (b : Bool). when b h (get_or d p 0)) (sym (eqb_same p)))

-- what `link_up` makes of what one store, `each`, `in_rows` and `learn` made
pub link_up_law : (n : Network) (p : Peer) (who : ℕ) {v : ℕ} {d g₁ g₂ : List ℕ} → v ≡ union (neighbours_of n p) who → d ≡ edit (λ q w. with_if (has who q) p.0 w) (set n.neighbours p.0 v)
    → g₁ ≡ noted who (subs_of n p) p n.known → g₂ ≡ edit (learnt p.0 n.subs who) g₁ → with_known (with_neighbours n d) g₂ ≡ link_up n p who
unfolding link_up noted learnt puts
link_up_law n p who {v} hv hd h₁ h₂ =
    ap₂ (λ (x y : List ℕ). with_known (with_neighbours n x) y)
    (hd ∙ ap (edit (λ q w. with_if (has who q) p.0 w)) (store_when n.neighbours p.0 (puts who) v hv)
    ∙ edit_edit (λ q w. when (eqb q p.0) (puts who) w) (λ q w. with_if (has who q) p.0 w) n.neighbours)
    (h₂ ∙ ap (edit (learnt p.0 n.subs who)) h₁ ∙ edit_edit (λ i w. with_if (has who (i / 32) && has (subs_of n p) (i % 32)) p.0 w) (learnt p.0 n.subs who) n.known)

-- what `link_down` makes of what one store, `each`, `whole_rows` and `whole_row` made
pub link_down_law : (n : Network) (p : Peer) (who : ℕ) {v : ℕ} {d g₁ g₂ : List ℕ} → v ≡ minus (neighbours_of n p) who
    → d ≡ edit (λ q w. when (has who q) (strikes (only p.0)) w) (set n.neighbours p.0 v) → g₁ ≡ edit (λ i w. when (has who (i / 32)) (strikes (only p.0)) w) n.known
    → g₂ ≡ edit (λ i w. when (eqb (i / 32) p.0) (strikes who) w) g₁ → with_known (with_neighbours n d) g₂ ≡ link_down n p who
unfolding link_down strikes
link_down_law n p who {v} hv hd h₁ h₂ =
    ap₂ (λ (x y : List ℕ). with_known (with_neighbours n x) y)
    (hd ∙ ap (edit (λ q w. when (has who q) (strikes (only p.0)) w)) (store_when n.neighbours p.0 (strikes who) v hv)
    ∙ edit_edit (λ q w. when (eqb q p.0) (strikes who) w) (λ q w. when (has who q) (strikes (only p.0)) w) n.neighbours)
    (h₂ ∙ ap (edit (λ i w. when (eqb (i / 32) p.0) (strikes who) w)) h₁ ∙ edit_edit (λ i w. when (has who (i / 32)) (strikes (only p.0)) w) (λ i w. when (eqb (i / 32) p.0) (strikes who) w) n.known)
