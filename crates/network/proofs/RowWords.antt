-- Laws of specs/RowWords.antt. Assumes nothing.
use Rattle.std.specs.Prelude.{◌≡◌, not, List, ℕ, ◌+◌, ◌*◌, ◌/◌, ◌%◌, ◌<◌, ltb, get_or}
use Rattle.std.proofs.Common.{sym, ap, ◌∙◌, arith, lt-ltb, ltb-true}
use Rattle.sets.proofs.laws.Bools.{bool_ext, and_yes, and_both}
use Rattle.sets.proofs.laws.Least.{lowest_of_same}
use Rattle.lists.specs.Tab.{tab}
use Rattle.lists.specs.laws.Tab.{get_or_tab, tab_same}
use Rattle.endian.specs.laws.Le.{Bytes, le_4}
use Rattle.network.specs.Rows.{byte_in, row_right, bad_row, table_of}
use Rattle.network.specs.laws.Listing.{first_byte, row_why, row_is}
use Rattle.network.specs.RowWords.{row_word, word_right, bad_word, words_table}

-- ---- it comes to the same

row_bytes : (b : List ℕ) (r : ℕ) → row_word b r ≡ byte_in b r 0 + 256 * (byte_in b r 1 + 256 * (byte_in b r 2 + 256 * byte_in b r 3))
unfolding row_word
row_bytes b r = le_4 b (4 * r) ∙ ap (λ (x : ℕ). x + 256 * (byte_in b r 1 + 256 * (byte_in b r 2 + 256 * byte_in b r 3))) (first_byte b r)

-- what is asked of a row's number is what is asked of its four bytes
pub word_right_lem : (b : List ℕ) (r : ℕ) → Bytes b → word_right (row_word b r) ≡ row_right b r
unfolding word_right
word_right_lem b r h =
    let e = row_bytes b r in
    let h0 = h (4 * r + 0) in
    let h1 = h (4 * r + 1) in
    let h2 = h (4 * r + 2) in
    let h3 = h (4 * r + 3) in
    bool_ext
    (λ t.
    let p = and_yes (ltb (row_word b r) 8192) (ltb (row_word b r % 256) 32) t in
    let l = ltb-true (row_word b r) 8192 p.0 in
    let k = ltb-true (row_word b r % 256) 32 p.1 in
    sym (row_is b r (record { topic = omega arith; origin = omega arith; third = omega arith; fourth = omega arith })))
    (λ t.
    let k = row_why b r t in
    and_both (lt-ltb (row_word b r) 8192 (omega arith)) (lt-ltb (row_word b r % 256) 32 (omega arith)))

module _ (b : List ℕ) {ws : List ℕ} (h : Bytes b) (e : ws ≡ tab 64 (row_word b)) where
  at : (r : ℕ) → r < 64 → get_or ws r 0 ≡ row_word b r
  at r l = ap (λ (x : List ℕ). get_or x r 0) e ∙ get_or_tab 64 (row_word b) r l

  pub bad_is : bad_word ws ≡ bad_row b
  unfolding bad_word bad_row
  bad_is = lowest_of_same 64 _ _ λ r l. ap (λ (w : ℕ). not (word_right w)) (at r l) ∙ ap not (word_right_lem b r h)

  pub table_is : words_table ws ≡ table_of b
  unfolding words_table table_of
  table_is = rw (tab_same 64 (λ (r : ℕ). get_or ws r 0 % 256) (λ (r : ℕ). byte_in b r 0) topics, tab_same 64 (λ (r : ℕ). get_or ws r 0 / 256 % 256) (λ (r : ℕ). byte_in b r 1) origins)
    where
      topics : (r : ℕ) → r < 64 → get_or ws r 0 % 256 ≡ byte_in b r 0
      topics r l = rw (at r l) (omega (arith, row_bytes b r, h (4 * r + 0)))

      origins : (r : ℕ) → r < 64 → get_or ws r 0 / 256 % 256 ≡ byte_in b r 1
      origins r l = rw (at r l) (omega (arith, row_bytes b r, h (4 * r + 0), h (4 * r + 1)))
