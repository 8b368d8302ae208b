-- Bytes written into a buffer from a place on: what one write leaves, and two in a row. Assumes nothing.
use Rattle.std.specs.Prelude.{◌≡◌, List, ℕ, ◌+◌, length}
use Rattle.std.proofs.lemmas.List.Edits.{sets}
use Rattle.report.specs.declared.text.Page.{Page}

-- l with the bytes bs stored one by one from place at on
unfoldable pub written : List ℕ → ℕ → List ℕ → List ℕ
written l at bs = sets l at bs

-- The bytes bs written into the buffer l from place at on: the buffer r that is left, and the place j behind them.
pub record Wrote (l : List ℕ) (at : ℕ) (bs r : List ℕ) (j : ℕ) : Type 0 where
  pub place : j ≡ at + length bs
  pub buffer : r ≡ written l at bs

-- What a function promises that writes the bytes bs at the place of the page p and leaves the page q, over the same lent buffer.
pub record Put (p : Page) (bs : List ℕ) (q : Page) : Type 0 where
  pub wrote : Wrote p.out.now p.at bs q.out.now q.at
  pub long : length q.out.now ≡ length p.out.now
  pub same : q.out.ghost_name ≡ p.out.ghost_name
