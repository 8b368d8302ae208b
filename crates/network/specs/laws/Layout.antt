-- Laws of specs/Layout.antt. Assumes nothing.
use Rattle.std.specs.Prelude.{◌≡◌, List, ℕ, ◌+◌, ◌*◌, ◌/◌, ◌%◌, ◌≤◌, ◌<◌, get_or, set}
use Rattle.std.proofs.Common.{ap, subst, ◌∙◌, arith}
use Rattle.lists.specs.Tab.{tab, Filled}
use Rattle.lists.specs.laws.Tab.{is_tab, get_or_tab, filled_more}
use Rattle.network.specs.State.{word_in, known_in}
use Rattle.network.specs.Layout.{RowStored}

-- the front of an array, counted otherwise
pub filled_to : {n : ℕ} {f : ℕ → ℕ} {k : ℕ} {l : List ℕ} (j : ℕ) → Filled n f k l → k ≡ j → Filled n f j l
filled_to {n} {f} {k} {l} j h e = subst (λ (i : ℕ). Filled n f i l) e h

-- once a loop that fills from the front has passed the end, all of it is there
pub filled_end : {n : ℕ} {f : ℕ → ℕ} {k : ℕ} {l : List ℕ} → Filled n f k l → n ≤ k → l ≡ tab n f
filled_end {n} {f} {k} {l} h b = is_tab n f l h.long λ i c. h.front i (omega arith)

-- topic t of peer p
pub known_spot : (b : List ℕ) (p t : ℕ) → t < 32 → word_in b p (8 + t) ≡ known_in b (32 * p + t)
known_spot b p t h =
    let d : (32 * p + t) / 32 ≡ p = omega arith in
    let m : (32 * p + t) % 32 ≡ t = omega arith in
    rw (d, m)

pub stored_none : (p : ℕ) (row known : List ℕ) → RowStored 0 p row known known
stored_none p row known = record { fills = λ f h a. filled_to _ h (omega arith) }

pub stored_more : (t p : ℕ) (row known : List ℕ) {known' : List ℕ} → RowStored t p row known known' → t < 32 → p < 32 → RowStored (t + 1) p row known (set known' (32 * p + t) (get_or row t 0))
stored_more t p row known s l b = record { fills = λ f h a. filled_to _ (filled_more (get_or row t 0) (s.fills f h a) (omega arith) (a t l)) (omega arith) }

-- row p of a state is stored
pub row_read : (b : List ℕ) (p : ℕ) {row known known' : List ℕ} → row ≡ tab 32 (λ (t : ℕ). word_in b p (8 + t)) → RowStored 32 p row known known'
    → Filled 1024 (known_in b) (32 * p) known → Filled 1024 (known_in b) (32 * (p + 1)) known'
row_read b p e s f =
    filled_to _ (s.fills (known_in b) f λ t l. ap (λ (r : List ℕ). get_or r t 0) e ∙ get_or_tab 32 (λ (t : ℕ). word_in b p (8 + t)) t l ∙ known_spot b p t l) (omega arith)
