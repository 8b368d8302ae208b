-- The loop over all peers that comes to the peers subscribed to each topic. Assumes nothing.
use Rattle.std.specs.Prelude.{◌≡◌, List, ℕ, ◌+◌, get_or, replicate}
use Rattle.std.proofs.Common.{sym, ap, ◌∙◌, arith}
use lib.ListN.{length-replicate, get_or-replicate}
use Rattle.sets.specs.Set.{has, with_if, set_of}
use Rattle.sets.proofs.laws.Build.{fill_none, fill_more}
use Rattle.lists.specs.Tab.{tab}
use Rattle.lists.specs.laws.Tab.{is_tab, length_tab, get_or_tab}
use Rattle.lists.specs.Edit.{edit}
use Rattle.lists.specs.laws.Edit.{length_edit, get_or_edit}
use Rattle.network.specs.Tests.{joined_to}

-- the peers below q that are subscribed to t
abbrev pub up_to : List ℕ → ℕ → ℕ → ℕ
up_to subs q t = set_of q (λ (p : ℕ). has (get_or subs p 0) t)

-- before the first peer
pub subscribers_none : (subs : List ℕ) → replicate 32 0 ≡ tab 32 (up_to subs 0)
subscribers_none subs = is_tab 32 (up_to subs 0) (replicate 32 0) (length-replicate {A = ℕ} 32 0) λ t b. get_or-replicate 32 t 0 0 b ∙ fill_none _

joined_more : (subs : List ℕ) (q : ℕ) → joined_to (get_or subs q 0) q (tab 32 (up_to subs q)) ≡ tab 32 (up_to subs (q + 1))
unfolding joined_to
joined_more subs q =
    is_tab 32 (up_to subs (q + 1)) (edit _ (tab 32 (up_to subs q))) (length_edit _ (tab 32 (up_to subs q)) ∙ length_tab 32 (up_to subs q)) λ t b.
    get_or_edit (λ (t w : ℕ). with_if (has (get_or subs q 0) t) q w) (tab 32 (up_to subs q)) t (omega (arith, length_tab 32 (up_to subs q)))
    ∙ ap (with_if (has (get_or subs q 0) t) q) (get_or_tab 32 (up_to subs q) t b)
    ∙ sym (fill_more q (λ (p : ℕ). has (get_or subs p 0) t))

-- one peer more
pub subscribers_more : (subs : List ℕ) (q : ℕ) {r r' : List ℕ} → r ≡ tab 32 (up_to subs q) → r' ≡ joined_to (get_or subs q 0) q r → r' ≡ tab 32 (up_to subs (q + 1))
subscribers_more subs q e j = j ∙ ap (joined_to (get_or subs q 0) q) e ∙ joined_more subs q
