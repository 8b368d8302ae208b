-- What is known of what an entry point begins with. Assumes nothing.
use Rattle.std.specs.Prelude.{◌≡◌, refl, Bool, true, false, cond, List, ℕ, ◌%◌, eqb, ltb, length}
use Rattle.std.proofs.Common.{arith, eqb-true}
use Rattle.std.proofs.lemmas.Bool.{eqb-false}
use Rattle.endian.specs.laws.Le.{Bytes}
use Rattle.network.specs.Network.{Rows}
use Rattle.network.specs.Sound.{Sound}
use Rattle.network.specs.Rows.{Listed}
use Rattle.network.specs.State.{open_of, bytes_of}
use Rattle.network.specs.Rows.{bad_row, list_of}
use Rattle.network.specs.laws.Listing.{listed_rows, blank_rows_lem}
use Rattle.network.specs.laws.OpenedSound.{opened_by_lem, opened_sound, blank_sound}
use Rattle.network.specs.laws.Trips.{read_write}
use Rattle.engine.specs.Start.{Beginning, refused_at, begin_of}

-- what holds of both sides of a choice
either_side : (P : Beginning → Type 0) (x : Bool) {a b : Beginning} → (x ≡ true → P a) → (x ≡ false → P b) → P (cond x a b)
either_side P true f h = f refl
either_side P false f h = h refl

-- what holds of three outcomes holds of a choice among them
among : {A : Type 0} (P : A → Type 0) (a b : Bool) {x y z : A} → P x → P y → P z → P (cond a (cond b x y) z)
among P false b hx hy hz = hz
among P true false hx hy hz = hy
among P true true hx hy hz = hx

-- a table is refused by 2, then 4
pub listed_by : (t : List ℕ) (P : ℕ → Type 0) → P 0 → P 2 → P 4 → P (list_of t).number
unfolding list_of
listed_by t P h0 h2 h4 = among (λ (l : Listed). P l.number) (eqb (length t) 256) (ltb (bad_row t) 64) h4 h0 h2

module _ (s t : List ℕ) (events : ℕ) where
  -- what holds of every refusal, and of what was read from buffers of the right lengths
  pub begin_by : (P : Beginning → Type 0) → ((number place detail : ℕ) → (number ≡ 0 → ⊥) → P (refused_at number place detail))
      → (length s ≡ 5120 → length t ≡ 256 → (list_of t).number ≡ 0 → (open_of s).number ≡ 0 → P (record { number = 0; place = 0; detail = 0; network = (open_of s).network; table = (list_of t).table }))
      → P (begin_of s t events)
  unfolding begin_of
  begin_by P h h0 =
      either_side P (eqb (length s) 5120) (λ e. either_side P (eqb (length t) 256) (λ f. either_side P (eqb (events % 16) 0)
      (λ g. either_side P (eqb (list_of t).number 0) (λ j. either_side P (eqb (open_of s).number 0)
      (λ k. h0 (eqb-true _ _ e) (eqb-true _ _ f) (eqb-true _ _ j) (eqb-true _ _ k)) (λ k. h _ _ _ (eqb-false _ _ k))) (λ j. h _ _ 0 (eqb-false _ _ j))) (λ g. h 3 0 0 (λ z. absurd (omega arith))))
      (λ f. h 2 0 0 (λ z. absurd (omega arith)))) (λ e. h 1 0 0 (λ z. absurd (omega arith)))

  -- the table's topics and origins are in range, also where something was refused
  pub begin_rows : Rows (begin_of s t events).table
  begin_rows =
      begin_by (λ (g : Beginning). Rows g.table) (λ k p d z. blank_rows_lem) λ a b c d. listed_rows t

  -- where there are no event bytes nothing is refused by 3, which is of the event bytes alone
  pub begin_3_never : (begin_of s t 0).number ≡ 3 → ⊥
  unfolding begin_of
  begin_3_never =
      either_side (λ (g : Beginning). g.number ≡ 3 → ⊥) (eqb (length s) 5120) (λ e. either_side (λ (g : Beginning). g.number ≡ 3 → ⊥) (eqb (length t) 256)
      (λ f. either_side (λ (g : Beginning). g.number ≡ 3 → ⊥) (eqb (list_of t).number 0) (λ j. either_side (λ (g : Beginning). g.number ≡ 3 → ⊥) (eqb (open_of s).number 0)
      (λ k. (λ z. omega arith)) (λ k. opened_by_lem s (λ (k : ℕ). k ≡ 3 → ⊥) (λ z. omega arith) (λ z. omega arith) (λ k l h z. omega arith)))
      (λ j. listed_by t (λ (k : ℕ). k ≡ 3 → ⊥) (λ z. omega arith) (λ z. omega arith) (λ z. omega arith))) (λ f z. omega arith)) (λ e z. omega arith)

  -- past the refusals, the state has its length
  pub begin_long : (begin_of s t events).number ≡ 0 → length s ≡ 5120
  begin_long =
      begin_by (λ (g : Beginning). g.number ≡ 0 → length s ≡ 5120) (λ k p d h z. absurd (h z)) λ a b c d z. a

  -- and its bytes are those of the network that was read
  pub begin_bytes : Bytes s → (begin_of s t events).number ≡ 0 → bytes_of (begin_of s t events).network ≡ s
  begin_bytes h =
      begin_by (λ (g : Beginning). g.number ≡ 0 → bytes_of g.network ≡ s) (λ k p d x z. absurd (x z)) λ a b c d z. read_write s h d

  -- the network is sound, also where something was refused
  pub begin_sound : Bytes s → Sound (begin_of s t events).network
  begin_sound h =
      begin_by (λ (g : Beginning). Sound g.network) (λ k p d z. blank_sound) λ a b c d. opened_sound s h

  -- the same of what the code has read
  module _ {g : Beginning} (e : g ≡ begin_of s t events) where
    pub started_rows : Rows g.table
    started_rows = rw e begin_rows

    pub started_long : g.number ≡ 0 → length s ≡ 5120
    started_long = rw e begin_long

    pub started_bytes : Bytes s → g.number ≡ 0 → bytes_of g.network ≡ s
    started_bytes h = rw e (begin_bytes h)
