-- Laws of the start: each refusal where its test fails first, and what is known past them. Assumes nothing.
use Rattle.std.specs.Prelude.{◌≡◌, List, ℕ, ◌%◌, length}
use Rattle.sets.proofs.laws.Bools.{ne_eqb}
use Rattle.network.specs.State.{Opened}
use Rattle.network.specs.Rows.{Listed}
use Rattle.network.specs.State.{open_of}
use Rattle.network.specs.Rows.{list_of}
use Rattle.engine.specs.Start.{refused_at, begin_of}

module _ (s t : List ℕ) (events : ℕ) where
  pub begin_1 : (length s ≡ 5120 → ⊥) → refused_at 1 0 0 ≡ begin_of s t events
  unfolding begin_of
  begin_1 h = rw (ne_eqb h)

  pub begin_2 : length s ≡ 5120 → (length t ≡ 256 → ⊥) → refused_at 2 0 0 ≡ begin_of s t events
  unfolding begin_of
  begin_2 e h = rw (e, ne_eqb h)

  pub begin_3 : length s ≡ 5120 → length t ≡ 256 → (events % 16 ≡ 0 → ⊥) → refused_at 3 0 0 ≡ begin_of s t events
  unfolding begin_of
  begin_3 e f h = rw (e, f, ne_eqb h)

  pub begin_4 : length s ≡ 5120 → length t ≡ 256 → events % 16 ≡ 0 → {l : Listed} → l ≡ list_of t → (l.number ≡ 0 → ⊥) → refused_at l.number l.place 0 ≡ begin_of s t events
  unfolding begin_of
  begin_4 e f g {l} k h = rw (e, f, g, ← k, ne_eqb h)

  pub begin_unsound : length s ≡ 5120 → length t ≡ 256 → events % 16 ≡ 0 → {l : Listed} → l ≡ list_of t → l.number ≡ 0
      → {o : Opened} → o ≡ open_of s → (o.number ≡ 0 → ⊥) → refused_at o.number o.place o.detail ≡ begin_of s t events
  unfolding begin_of
  begin_unsound e f g {l} k z {o} j h = rw (e, f, g, ← k, z, ← j, ne_eqb h)

  pub begin_0 : length s ≡ 5120 → length t ≡ 256 → events % 16 ≡ 0 → {l : Listed} → l ≡ list_of t → l.number ≡ 0
      → {o : Opened} → o ≡ open_of s → o.number ≡ 0 → record { number = 0; place = 0; detail = 0; network = o.network; table = l.table } ≡ begin_of s t events
  unfolding begin_of
  begin_0 e f g {l} k z {o} j h = rw (e, f, g, ← k, z, ← j, h)
