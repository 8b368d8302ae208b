-- Laws of specs/Machine.antt. Assumes nothing.
use Rattle.std.specs.Prelude.{◌≡◌, true, ℕ}
use Rattle.flooding.specs.Network.{Net, Sound, forward}

-- A network shows itself.
abbrev pub itself : Net → Net
itself s = s

-- What is asked of a state type, its view and its forward, of which `ok` are the sound states: they show sound networks, and an accepted
-- forward keeps them sound and shows the network's forward. Two sound states are one if they show one network and agree in the rest, which
-- no forward changes.
pub record Machine {S : Type 0} (view : S → Net) (fwd : S → ℕ → ℕ → S) (N M : ℕ) (ok : S → Type 0) : Type 1 where
  pub sound : (s : S) → ok s → Sound N M (view s)
  pub fwd_ok : (s : S) (p m : ℕ) → ok s → (view s).pending p m ≡ true → ok (fwd s p m)
  pub fwd_view : (s : S) (p m : ℕ) → ok s → (view s).pending p m ≡ true → view (fwd s p m) ≡ forward (view s) p m
  pub Rest : Type 0
  pub rest : S → Rest
  pub fwd_rest : (s : S) (p m : ℕ) → ok s → (view s).pending p m ≡ true → rest (fwd s p m) ≡ rest s
  pub same : (a b : S) → ok a → ok b → rest a ≡ rest b → view a ≡ view b → a ≡ b
