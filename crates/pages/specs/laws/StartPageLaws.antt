-- The refusals before any event are exact: the proof of specs/StartPage.antt, and what is known past them. Assumes nothing.
use Rattle.std.specs.Prelude.{◌≡◌, List, ℕ, ◌%◌, ◌<◌, eqb, length}
use Rattle.std.proofs.Math.Path.{refl, ap}
use Rattle.std.proofs.Common.{sym, subst, ◌∙◌, arith, eqb-true}
use Rattle.std.proofs.Math.Logic.{⊎_elim}
use Rattle.std.proofs.Math.Bool.{not}
use Rattle.std.proofs.Math.Decide.{dec_lt}
use Rattle.std.proofs.lemmas.Bool.{eqb-false}
use Rattle.sets.proofs.laws.Bools.{either, clash, not_yes, not_no}
use Rattle.sets.proofs.laws.Least.{lowest_of_lt_holds, lowest_of_least, lowest_of_is, lowest_of_none}
use Rattle.network.specs.State.{Opened}
use Rattle.network.specs.Rows.{Listed}
use Rattle.network.specs.State.{open_of, opened}
use Rattle.network.specs.Rows.{row_right, bad_row, list_of}
use Rattle.network.specs.laws.OpenedSound.{accepted}
use Rattle.network.specs.Listing.{Right}
use Rattle.network.specs.laws.Listing.{row_why, row_is, row_not, list_4, list_0}
use Rattle.engine.specs.Start.{Beginning, begin_of}
use Rattle.engine.specs.Alone.{check_of}
use Rattle.engine.specs.laws.StartLaws.{begin_1, begin_2, begin_3, begin_4, begin_unsound, begin_0}
use Rattle.engine.specs.laws.StartFacts.{begin_by}
use Rattle.pages.specs.StartPage.{RowsRight, Lengths, Starts, all_right, state_length, table_length, events_length, wrong_row, unsound, StartPage}

-- ---- reading the table

module _ (t : List ℕ) (long : length t ≡ 256) where
  right_below : (r : ℕ) → r < bad_row t → Right t r
  unfolding bad_row
  right_below r l = row_why t r (not_no _ (lowest_of_least 64 (λ (i : ℕ). not (row_right t i)) r l))

  wrong_there : bad_row t < 64 → Right t (bad_row t) → ⊥
  unfolding bad_row
  wrong_there l h = clash (sym (row_is t _ h)) (not_yes _ (lowest_of_lt_holds 64 (λ (i : ℕ). not (row_right t i)) l))

  -- all rows are right, or one is wrong, the lowest being r
  table_right : RowsRight t → (list_of t).number ≡ 0
  unfolding bad_row
  table_right h =
      let e : bad_row t ≡ 64 = lowest_of_none 64 _ λ i l. ap not (sym (row_is t i (h i l))) in
      ap (λ (l : Listed). l.number) (sym (list_0 t (bad_row t) long refl (omega arith) refl))

  table_wrong : (r : ℕ) → r < 64 → (Right t r → ⊥) → ((i : ℕ) → i < r → Right t i) → ((list_of t).number ≡ 4) × ((list_of t).place ≡ r)
  unfolding bad_row
  table_wrong r l h k =
      let e : bad_row t ≡ r = lowest_of_is 64 _ r l (ap not (sym (row_not t r h))) λ i c. ap not (sym (row_is t i (k i c))) in
      let f = list_4 t r long (sym e) l in
      (ap (λ (x : Listed). x.number) (sym f), ap (λ (x : Listed). x.place) (sym f))

  -- and back
  table_either : (P : ℕ → ℕ → Type 0) → (RowsRight t → P 0 0) → (bad_row t < 64 → P 4 (bad_row t)) → P (list_of t).number (list_of t).place
  table_either P f g = first (dec_lt (bad_row t) 64)
    where
      first : Dec (bad_row t < 64) → P (list_of t).number (list_of t).place
      first (yes l) = subst (λ (x : Listed). P x.number x.place) (list_4 t (bad_row t) long refl l) (g l)
      first (no l) = subst (λ (x : Listed). P x.number x.place) (list_0 t (bad_row t) long refl (omega arith) refl) (f λ r c. right_below r (omega arith))

-- ---- all together

module _ (s t : List ℕ) (events : ℕ) where
  -- what an entry point begins with is one of the page's ways
  abbrev Begins : Beginning → Type 0
  Begins g = Starts s t events g.number g.place g.detail

  by : {g : Beginning} → g ≡ begin_of s t events → Begins g → Begins (begin_of s t events)
  by e h = subst Begins e h

  -- the lengths and the rows are right: the state decides
  begins_state : Lengths s t events → RowsRight t → Begins (begin_of s t events)
  unfolding check_of
  begins_state l right =
      let a = table_right t l.table right in
      ⊎_elim
      (λ c. by (begin_0 s t events l.state l.table l.records refl a refl (eqb-true _ _ c)) (all_right l right (eqb-true _ _ c)))
      (λ c. by (begin_unsound s t events l.state l.table l.records refl a refl (eqb-false _ _ c)) (unsound l right (eqb-false _ _ c)))
      (either (eqb (open_of s).number 0))

  begins_rows : Lengths s t events → Begins (begin_of s t events)
  begins_rows l =
      table_either t l.table (λ number place. (list_of t).number ≡ number → (list_of t).place ≡ place → Begins (begin_of s t events))
      (λ right c d. begins_state l right)
      (λ b c d. by (begin_4 s t events l.state l.table l.records refl (λ z. omega (arith, c))) (rw (c, d) (wrong_row l (bad_row t) b (wrong_there t l.table b) (right_below t l.table))))
      refl refl

  begins_lengths : length s ≡ 5120 → length t ≡ 256 → Begins (begin_of s t events)
  begins_lengths a b =
      ⊎_elim (λ c. begins_rows (record { state = a; table = b; records = eqb-true _ _ c })) (λ c. by (begin_3 s t events a b (eqb-false _ _ c)) (events_length a b (eqb-false _ _ c)))
      (either (eqb (events % 16) 0))

  starts : Begins (begin_of s t events)
  starts =
      ⊎_elim
      (λ a. ⊎_elim (λ b. begins_lengths (eqb-true _ _ a) (eqb-true _ _ b)) (λ b. by (begin_2 s t events (eqb-true _ _ a) (eqb-false _ _ b)) (table_length (eqb-true _ _ a) (eqb-false _ _ b))) (either (eqb (length t) 256)))
      (λ a. by (begin_1 s t events (eqb-false _ _ a)) (state_length (eqb-false _ _ a)))
      (either (eqb (length s) 5120))

  -- the parts of an equation of what is begun
  abbrev Said : ℕ → ℕ → ℕ → Type 0
  Said number place detail = ((begin_of s t events).number ≡ number) × ((begin_of s t events).place ≡ place) × ((begin_of s t events).detail ≡ detail)

  said : {g : Beginning} → g ≡ begin_of s t events → Said g.number g.place g.detail
  said e = (ap (λ (x : Beginning). x.number) (sym e), ap (λ (x : Beginning). x.place) (sym e), ap (λ (x : Beginning). x.detail) (sym e))

  -- and each way leads to its number, place and detail
  begins : {number place detail : ℕ} → Starts s t events number place detail → Said number place detail
  unfolding check_of
  begins (all_right l right sound) =
      said (begin_0 s t events l.state l.table l.records refl (table_right t l.table right) refl sound)
  begins (state_length h) = said (begin_1 s t events h)
  begins (table_length a h) = said (begin_2 s t events a h)
  begins (events_length a b h) = said (begin_3 s t events a b h)
  begins (wrong_row l r b h k) =
      let x = table_wrong t l.table r b h k in
      let y = said (begin_4 s t events l.state l.table l.records refl (λ z. omega (arith, x.0))) in
      (y.0 ∙ x.0, y.1 ∙ x.1, y.2)
  begins (unsound l right h) = said (begin_unsound s t events l.state l.table l.records refl (table_right t l.table right) refl h)

  -- THE THEOREM: the refusals before any event are exact, for all bytes.
  pub start_page : StartPage s t events
  start_page number place detail = ((λ e. rw (e.0, e.1, e.2) at starts), begins)

  -- past them: the lengths are right, and the network and the table are those that the bytes say
  pub begin_lengths : (begin_of s t events).number ≡ 0 → Lengths s t events
  begin_lengths = first starts
    where
      first : {number place detail : ℕ} → Starts s t events number place detail → number ≡ 0 → Lengths s t events
      first (all_right l right sound) z = l
      first (state_length h) z = absurd (omega arith)
      first (table_length a h) z = absurd (omega arith)
      first (events_length a b h) z = absurd (omega arith)
      first (wrong_row l r b h k) z = l
      first (unsound l right h) z = l

  pub begin_read : (begin_of s t events).number ≡ 0 → ((begin_of s t events).network ≡ (open_of s).network) × ((begin_of s t events).table ≡ (list_of t).table)
  begin_read =
      begin_by s t events (λ (g : Beginning). g.number ≡ 0 → (g.network ≡ (open_of s).network) × (g.table ≡ (list_of t).table))
      (λ k p d h z. absurd (h z))
      λ a b c d z. (refl, refl)

  -- the state is one that a reading accepts
  pub begin_opens : (begin_of s t events).number ≡ 0 → open_of s ≡ opened 0 0 0 (open_of s).network
  begin_opens =
      begin_by s t events (λ (g : Beginning). g.number ≡ 0 → open_of s ≡ opened 0 0 0 (open_of s).network)
      (λ k p d h z. absurd (h z))
      λ a b c d z. let o = (accepted s d).is in o ∙ ap (λ (x : Opened). opened 0 0 0 x.network) (sym o)

-- of the events only whether they are whole records matters
pub begin_same : (s t : List ℕ) (a b : ℕ) → a % 16 ≡ 0 → b % 16 ≡ 0 → begin_of s t a ≡ begin_of s t b
unfolding begin_of
begin_same s t a b h k = rw (h, k)
