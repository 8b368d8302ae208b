-- Laws of the single forward: each way that it ends, and that it is the run of one event. Assumes nothing.
use Rattle.std.specs.Prelude.{◌≡◌, List, ℕ, ◌≤◌, ◌<◌}
use Rattle.std.proofs.Common.{◌∙◌, arith, lt-ltb, le-ltb}
use Rattle.std.proofs.Math.Path.{sym, ap}
use Rattle.std.proofs.Math.Bool.{true, false}
use Rattle.std.proofs.Math.Dec.{ltb}
use Rattle.sets.proofs.laws.Bools.{ne_eqb}
use Rattle.network.specs.declared.Network.{Network}
use Rattle.network.specs.declared.Table.{Table}
use Rattle.network.specs.Network.{peer, message}
use Rattle.network.specs.State.{bytes_of}
use Rattle.events.specs.declared.Event.{Event}
use Rattle.events.specs.declared.Event.TheVariants.{Forward}
use Rattle.events.specs.Fits.{EventFits}
use Rattle.floodnet.specs.Refusals.{refusal_forward}
use Rattle.floodnet.specs.Forward.{forwarded, receivers}
use Rattle.floodnet.specs.Step.{refusal, effect, if_accepted, after, receivers_of, turned, turned_of, Numbered}
use Rattle.floodnet.specs.laws.StepLaws.{turned_number}
use Rattle.engine.specs.declared.Forwarded.{Forwarded}
use Rattle.engine.specs.Start.{Beginning, begin_of}
use Rattle.engine.specs.Alone.{forward_on, forward_of, forwarded_by, Gives}

-- the event
abbrev pub forward_event : ℕ → ℕ → Event
forward_event p m = Forward (peer p) (message m)

-- ---- the event, as floodnet answers it

-- the number is that of the forward's conditions
pub forward_number : (n : Network) (b : Table) (p m : ℕ) → (turned_of n b (forward_event p m)).number ≡ refusal_forward n (peer p) (message m)
unfolding turned_of refusal
forward_number n b p m = turned_number _ _ _

-- an accepted forward: its receivers and its network
pub forward_receivers : (n : Network) (b : Table) (p m : ℕ) → refusal_forward n (peer p) (message m) ≡ 0
    → (turned_of n b (forward_event p m)).receivers ≡ receivers n b (peer p) (message m)
unfolding turned_of turned refusal receivers_of
forward_receivers n b p m z = rw z

pub forward_after : (n : Network) (b : Table) (p m : ℕ) → refusal_forward n (peer p) (message m) ≡ 0 → after n b (forward_event p m) ≡ forwarded n b (peer p) (message m)
unfolding after if_accepted refusal effect
forward_after n b p m z = rw z

-- a forward of a peer and a message in range fits
pub forward_fits : (p m : ℕ) → p ≤ 31 → m ≤ 63 → EventFits (forward_event p m)
unfolding EventFits
forward_fits p m l j = (omega arith, omega arith)

-- ---- each way that it ends

module _ (s : List ℕ) (n : Network) (b : Table) (p m : ℕ) where
  -- refused by 7: no such peer; no such message
  pub forward_peer : {r : Forwarded} → r ≡ forwarded_by 7 0 0 0 → 31 < p → Gives r s (forward_on s n b p m)
  unfolding forward_on
  forward_peer k h = let w : ltb p 32 ≡ false = le-ltb p 32 (omega arith) in (k ∙ rw w, rw w)

  pub forward_message : {r : Forwarded} → r ≡ forwarded_by 7 0 0 0 → p ≤ 31 → 63 < m → Gives r s (forward_on s n b p m)
  unfolding forward_on
  forward_message k l h =
      let v : ltb p 32 ≡ true = lt-ltb p 32 (omega arith) in
      let w : ltb m 64 ≡ false = le-ltb m 64 (omega arith) in
      (k ∙ rw (v, w), rw (v, w))

  -- refused by 8 or 13
  pub forward_refused : {r : Forwarded} {x : Numbered} → r ≡ forwarded_by x.number 0 0 0 → p ≤ 31 → m ≤ 63
      → x ≡ turned_of n b (forward_event p m) → (x.number ≡ 0 → ⊥) → Gives r s (forward_on s n b p m)
  unfolding forward_on
  forward_refused {r} {x} k l j q h =
      let v : ltb p 32 ≡ true = lt-ltb p 32 (omega arith) in
      let w : ltb m 64 ≡ true = lt-ltb m 64 (omega arith) in
      let y : x.number ≡ refusal_forward n (peer p) (message m) = ap (λ (u : Numbered). u.number) q ∙ forward_number n b p m in
      (k ∙ rw (v, w, ← y, ne_eqb h), rw (v, w, ← y, ne_eqb h))

  -- accepted
  pub forward_done : {r : Forwarded} {x : Numbered} {n' : Network} {to : List ℕ} → r ≡ forwarded_by 0 0 0 x.receivers → p ≤ 31 → m ≤ 63
      → x ≡ turned_of n b (forward_event p m) → n' ≡ after n b (forward_event p m) → x.number ≡ 0 → to ≡ bytes_of n' → Gives r to (forward_on s n b p m)
  unfolding forward_on
  forward_done {r} {x} {n'} {to} k l j q a h c =
      let v : ltb p 32 ≡ true = lt-ltb p 32 (omega arith) in
      let w : ltb m 64 ≡ true = lt-ltb m 64 (omega arith) in
      let y : refusal_forward n (peer p) (message m) ≡ 0 = sym (forward_number n b p m) ∙ (sym (ap (λ (u : Numbered). u.number) q) ∙ h) in
      let d : x.receivers ≡ receivers n b (peer p) (message m) = ap (λ (u : Numbered). u.receivers) q ∙ forward_receivers n b p m y in
      (k ∙ rw (v, w, y, d), rw (v, w, y) (c ∙ ap bytes_of (a ∙ forward_after n b p m y)))

module _ (s t : List ℕ) (p m : ℕ) {g : Beginning} (e : g ≡ begin_of s t 0) where
  -- refused by 1, 2, 4 or 20 to 26
  pub forward_begun : {r : Forwarded} → r ≡ forwarded_by g.number g.place g.detail 0 → (g.number ≡ 0 → ⊥) → Gives r s (forward_of s t p m)
  unfolding forward_of
  forward_begun k h = (k ∙ rw (← e, ne_eqb h), rw (← e, ne_eqb h))

  -- both were read
  pub forward_read : {r : Forwarded} {to : List ℕ} → g.number ≡ 0 → Gives r to (forward_on s g.network g.table p m) → Gives r to (forward_of s t p m)
  unfolding forward_of
  forward_read z h = rw (← e, z) h
