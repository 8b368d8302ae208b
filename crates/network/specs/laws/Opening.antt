-- Reading a state: what the code has worked out is what `open_of` says. Assumes nothing.
use Rattle.std.specs.Prelude.{◌≡◌, true, false, Result, Ok, Err, is_err, List, ℕ, ◌%◌, eqb, length, get_or}
use Rattle.std.proofs.Common.{sym, ap, ◌∙◌, eq-eqb}
use Rattle.sets.specs.Set.{set_of}
use Rattle.sets.proofs.laws.Bools.{ne_eqb}
use Rattle.sets.proofs.laws.Build.{set_of_same}
use Rattle.lists.specs.Tab.{tab}
use Rattle.lists.specs.laws.Tab.{get_or_tab}
use Rattle.network.specs.declared.Network.{Network}
use Rattle.network.specs.Network.{mk}
use Rattle.network.specs.Refused.{checked_as}
use Rattle.network.specs.Rules.{checked, verdict_by}
use Rattle.network.specs.declared.Checked.{Checked}
use Rattle.network.specs.declared.Refused.{Refused}
use Rattle.network.specs.laws.Faults.{verdict_tab}
use Rattle.network.specs.State.{word_in, long_in, known_in, net_of, verdict_at, blank_net, Opened, opened, opened_by, read_as, open_of, over_of, Opens}
use Rattle.network.specs.laws.Numbers.{refusal_not_0}

-- the columns make the network
pub net_is : (b : List ℕ) {present : ℕ} {heads pubs subs neighbours pending seen known : List ℕ}
    → heads ≡ tab 32 (λ (p : ℕ). word_in b p 0)
    → present ≡ set_of 32 (λ (p : ℕ). eqb (get_or heads p 0 % 256) 1)
    → pubs ≡ tab 32 (λ (p : ℕ). word_in b p 1)
    → subs ≡ tab 32 (λ (p : ℕ). word_in b p 2)
    → neighbours ≡ tab 32 (λ (p : ℕ). word_in b p 3)
    → pending ≡ tab 32 (λ (p : ℕ). long_in b p 4)
    → seen ≡ tab 32 (λ (p : ℕ). long_in b p 6)
    → known ≡ tab 1024 (known_in b)
    → mk present pubs subs neighbours pending seen known ≡ net_of b
unfolding net_of
net_is b {present} {heads} eh e0 e1 e2 e3 e4 e6 e8 = rw (there, e1, e2, e3, e4, e6, e8)
  where
    there : present ≡ set_of 32 (λ (p : ℕ). eqb (word_in b p 0 % 256) 1)
    there = e0 ∙ set_of_same 32 _ _ λ p l. ap (λ (w : ℕ). eqb (w % 256) 1) (ap (λ (h : List ℕ). get_or h p 0) eh ∙ get_or_tab 32 (λ (p : ℕ). word_in b p 0) p l)

-- the verdict on them
pub verdict_at_lem : (b : List ℕ) {heads : List ℕ} {n : Network} {c : Checked} → heads ≡ tab 32 (λ (p : ℕ). word_in b p 0) → n ≡ net_of b
    → c ≡ verdict_by (λ (p : ℕ). get_or heads p 0) n → c ≡ verdict_at b
verdict_at_lem b eh en ec = ec ∙ verdict_tab _ _ eh ∙ ap (verdict_by (λ (p : ℕ). word_in b p 0)) en

-- the three answers
pub open_1 : (b : List ℕ) → (length b ≡ 5120 → ⊥) → opened 1 0 0 blank_net ≡ open_of b
unfolding open_of
open_1 b h = rw (ne_eqb h)

pub open_refused : (b : List ℕ) {c : Checked} → length b ≡ 5120 → c ≡ verdict_at b → (c.number ≡ 0 → ⊥) → opened c.number c.place c.detail blank_net ≡ open_of b
unfolding open_of opened_by
open_refused b h e z = rw (eq-eqb (length b) 5120 h, ← e, ne_eqb z)

pub open_0 : (b : List ℕ) {c : Checked} {n : Network} → length b ≡ 5120 → c ≡ verdict_at b → c.number ≡ 0 → n ≡ net_of b → opened c.number c.place c.detail n ≡ open_of b
unfolding open_of opened_by
open_0 b {c} h e z en = rw (eq-eqb (length b) 5120 h, ← e, z, en)

-- the same of opening a network
pub opens_1 : {A : Type 0} (b : List ℕ) (old : Network) {r : Result A Refused} → checked_as r ≡ checked 1 0 0 → (length b ≡ 5120 → ⊥) → Opens b old r old
unfolding opened_by over_of
opens_1 b old e h = record { answer = rw e (open_1 b h); arrays = rw (ne_eqb h) }

pub opens_verdict : {A : Type 0} (b : List ℕ) (old : Network) {r : Result A Refused} {n : Network} → length b ≡ 5120 → checked_as r ≡ verdict_at b → n ≡ net_of b → Opens b old r n
unfolding open_of over_of
opens_verdict b old h e en = record { answer = rw (eq-eqb (length b) 5120 h, ← e, en); arrays = rw (eq-eqb (length b) 5120 h) en }

-- the bytes as an array are the bytes
pub opens_same : {A : Type 0} {a b : List ℕ} {old n : Network} {r : Result A Refused} → a ≡ b → Opens a old r n → Opens b old r n
opens_same e o = rw e at o

-- any two outcomes that satisfy the promise are equal
pub settled_opens : {A : Type 0} {b : List ℕ} {old n m : Network} {r q : Result A Refused} → Opens b old r n → Opens b old q m
    → ((checked_as r).number ≡ (checked_as q).number) × ((checked_as r).place ≡ (checked_as q).place) × ((checked_as r).detail ≡ (checked_as q).detail) × (n ≡ m)
unfolding opened_by
settled_opens x y =
    let e = x.answer ∙ sym y.answer in
    (ap (λ (o : Opened). o.number) e, ap (λ (o : Opened). o.place) e, ap (λ (o : Opened). o.detail) e, x.arrays ∙ sym y.arrays)

-- and of reading: the network that `open` left is the one read, or the blank one takes its place
pub read_accepted : {A : Type 0} {b : List ℕ} {old n : Network} (r : Result A Refused) → Opens b old r n → is_err r ≡ false → read_as r n ≡ open_of b
unfolding opened_by
read_accepted (Ok a) o h = o.answer
read_accepted (Err e) o h = cc

pub read_refused : {A : Type 0} {b : List ℕ} {old n m : Network} (r : Result A Refused) → Opens b old r n → is_err r ≡ true → m ≡ blank_net → read_as r m ≡ open_of b
unfolding opened_by
read_refused (Ok a) o h em = cc
read_refused (Err e) o h em = let z = ne_eqb (refusal_not_0 e.refusal) in rw em (rw z at o.answer)
