-- Laws of specs/Listing.antt. Assumes nothing.
use Rattle.std.specs.Prelude.{◌≡◌, refl, Bool, true, false, cond, not, ◌&&◌, List, ℕ, ◌*◌, ◌≤◌, ◌<◌, eqb, ltb, length, get_or}
use Rattle.std.proofs.Common.{sym, ap, add-zero, arith, lt-ltb, le-ltb, eq-eqb, ltb-true, ltb-false, eqb-true}
use Rattle.std.proofs.lemmas.List.{length-replicate}
use Rattle.sets.proofs.laws.Bools.{ne_eqb, and_yes, and_both, not_no, not_false}
use Rattle.sets.proofs.laws.Least.{lowest_of_least}
use Rattle.lists.specs.laws.Tab.{length_tab, tab_below}
use Rattle.network.specs.declared.Table.{Table}
use Rattle.network.specs.Network.{Rows}
use Rattle.network.specs.laws.Zeros.{get_or_zeros}
use Rattle.network.specs.Rows.{byte_in, row_right, bad_row, table_of, blank_table, listed, list_of}
use Rattle.network.specs.Listing.{Right}

-- the first byte of a row
pub first_byte : (b : List ℕ) (r : ℕ) → get_or b (4 * r) 0 ≡ byte_in b r 0
first_byte b r = ap (λ (i : ℕ). get_or b i 0) (sym (add-zero (4 * r)))

pub row_why : (b : List ℕ) (r : ℕ) → row_right b r ≡ true → Right b r
unfolding row_right
row_why b r e =
    let p = and_yes (ltb (byte_in b r 0) 32) (ltb (byte_in b r 1) 32 && (eqb (byte_in b r 2) 0 && eqb (byte_in b r 3) 0)) e in
    let q = and_yes (ltb (byte_in b r 1) 32) (eqb (byte_in b r 2) 0 && eqb (byte_in b r 3) 0) p.1 in
    let s = and_yes (eqb (byte_in b r 2) 0) (eqb (byte_in b r 3) 0) q.1 in
    record { topic = ltb-true _ _ p.0; origin = ltb-true _ _ q.0; third = eqb-true _ _ s.0; fourth = eqb-true _ _ s.1 }

pub row_is : (b : List ℕ) (r : ℕ) → Right b r → true ≡ row_right b r
unfolding row_right
row_is b r h = sym (and_both (lt-ltb _ _ h.topic) (and_both (lt-ltb _ _ h.origin) (and_both (eq-eqb _ _ h.third) (eq-eqb _ _ h.fourth))))

pub row_not : (b : List ℕ) (r : ℕ) → (Right b r → ⊥) → false ≡ row_right b r
row_not b r h = sym (not_false λ e. h (row_why b r e))

-- the three answers
pub list_2 : (b : List ℕ) → (length b ≡ 256 → ⊥) → listed 2 0 blank_table ≡ list_of b
unfolding list_of
list_2 b h = rw (ne_eqb h)

pub list_4 : (b : List ℕ) (r : ℕ) → length b ≡ 256 → r ≡ bad_row b → r < 64 → listed 4 r blank_table ≡ list_of b
unfolding list_of
list_4 b r h e l = rw (eq-eqb (length b) 256 h, lt-ltb (bad_row b) 64 (rw e at l), e)

pub list_0 : (b : List ℕ) (r : ℕ) {t : Table} → length b ≡ 256 → r ≡ bad_row b → 64 ≤ r → t ≡ table_of b → listed 0 0 t ≡ list_of b
unfolding list_of
list_0 b r h e l et = rw (eq-eqb (length b) 256 h, le-ltb (bad_row b) 64 (rw e at l), et)

-- ---- what is accepted

-- a table of zeros has all topics and origins in range
pub blank_rows_lem : Rows blank_table
unfolding blank_table
blank_rows_lem = record {
  topics = length-replicate {A = ℕ} 64 0;
  origins = length-replicate {A = ℕ} 64 0;
  topics_fit = λ i. rw (get_or_zeros 64 i) (omega arith);
  origins_fit = λ i. rw (get_or_zeros 64 i) (omega arith);
}

-- so has a table all of whose rows are right
pub table_rows : (b : List ℕ) → 64 ≤ bad_row b → Rows (table_of b)
unfolding table_of bad_row
table_rows b h =
    record {
      topics = length_tab 64 _;
      origins = length_tab 64 _;
      topics_fit = tab_below 64 _ 32 (omega arith) λ r l. (right r l).topic;
      origins_fit = tab_below 64 _ 32 (omega arith) λ r l. (right r l).origin;
    }
  where
    right : (r : ℕ) → r < 64 → Right b r
    right r l = row_why b r (not_no (row_right b r) (lowest_of_least 64 (λ (i : ℕ). not (row_right b i)) r (omega arith)))

-- "A lent table of 64 rows gives topic and origin": what reading answers always has them in range
pub listed_rows : (b : List ℕ) → Rows (list_of b).table
unfolding list_of
listed_rows b = go (eqb (length b) 256) (ltb (bad_row b) 64) refl
  where
    go : (x y : Bool) → ltb (bad_row b) 64 ≡ y → Rows (cond x (cond y (listed 4 (bad_row b) blank_table) (listed 0 0 (table_of b))) (listed 2 0 blank_table)).table
    go true true e = blank_rows_lem
    go true false e = table_rows b (ltb-false (bad_row b) 64 e)
    go false y e = blank_rows_lem
