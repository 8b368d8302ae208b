-- Laws of specs/Worked.antt. Assumes nothing.
use Rattle.std.specs.Prelude.{◌≡◌, refl, Bool, true, false, List, [], ◌∷◌, ◌++◌, ℕ, zero, suc, ◌%◌, eqb, ltb, length}
use Rattle.std.proofs.Common.{sym, ap, ◌∙◌, arith, eqb-true, ltb-true}
use Rattle.sets.proofs.laws.Bools.{and_yes, clash}
use Rattle.endian.specs.laws.Le.{Bytes}
use Rattle.flooding.specs.Machine.{Drained}
use Rattle.network.specs.declared.Network.{Network}
use Rattle.network.specs.State.{Opened}
use Rattle.network.specs.Network.{peer, neighbours_of}
use Rattle.network.specs.Sound.{Sound}
use Rattle.network.specs.State.{open_of, bytes_of}
use Rattle.network.specs.Rows.{blank_table}
use Rattle.network.specs.laws.Trips.{write_read}
use Rattle.events.specs.declared.Fields.{Fields}
use Rattle.broadcastnet.specs.Broadcast.{Broadcastnet}
use Rattle.broadcastnet.specs.Commit.{image, as_network, image_net}
use Rattle.drain.specs.Drain.{drain_of, quiet_of}
use Rattle.engine.specs.declared.Tally.{Tally}
use Rattle.engine.specs.declared.Answer.{Answer}
use Rattle.engine.specs.Run.{answered, Ending, written}
use Rattle.engine.specs.Draining.{drained, drain_end_of}
use Rattle.engine.specs.Imaging.{imaged_of}
use Rattle.pages.specs.FromBlank.{blank_rows}
use Rattle.pages.specs.laws.FromBlank.{run_from_blank, sound_from_blank, drain_with_blank, image_of_sound}
use Rattle.cases.specs.Rows.{bytes, Row, answers, image_as, neighbours, drains, ran, Holds, Each}
use Rattle.cases.specs.Worked.{ended, small, proper, same, alike, answer_is, images_are, drained_is, works, every}

-- ---- what it finds is so

small_bytes : (l : List ℕ) → small l ≡ true → Bytes l
unfolding small
small_bytes [] h i = omega arith
small_bytes (x ∷ l) h zero = ltb-true _ _ (and_yes (ltb x 256) (small l) h).0
small_bytes (x ∷ l) h (suc i) = small_bytes l (and_yes (ltb x 256) (small l) h).1 i

same_lists : (l r : List ℕ) → same l r ≡ true → l ≡ r
unfolding same
same_lists [] [] h = refl
same_lists [] (y ∷ r) h = clash h refl
same_lists (x ∷ l) [] h = clash h refl
same_lists (x ∷ l) (y ∷ r) h =
    let e = and_yes (eqb x y) (same l r) h in
    λ i. eqb-true x y e.0 i ∷ same_lists l r e.1 i

alike_same : (a b : Bool) → alike a b ≡ true → a ≡ b
unfolding alike
alike_same true true h = refl
alike_same true false h = clash h refl
alike_same false true h = clash h refl
alike_same false false h = refl

answer_path : (a : Answer) (number place accepted : ℕ) → answer_is a number place accepted ≡ true → a ≡ answered number place 0 accepted
unfolding answer_is
answer_path a number place accepted h =
    let x = and_yes (eqb a.number number) _ h in
    let y = and_yes (eqb a.place place) _ x.1 in
    let z = and_yes (eqb a.detail 0) (eqb a.accepted accepted) y.1 in
    let e : a.number ≡ number = eqb-true _ _ x.0 in
    let f : a.place ≡ place = eqb-true _ _ y.0 in
    let k : a.detail ≡ 0 = eqb-true _ _ z.0 in
    let g : a.accepted ≡ accepted = eqb-true _ _ z.1 in
    λ i. answered (e i) (f i) (k i) (g i)

image_path : (s u : Broadcastnet) → images_are s u ≡ true → s ≡ u
unfolding images_are
image_path s u h =
    let x = and_yes (eqb s.present u.present) _ h in
    let y = and_yes (same s.pubs u.pubs) _ x.1 in
    let z = and_yes (same s.subs u.subs) (same s.seen u.seen) y.1 in
    let e : s.present ≡ u.present = eqb-true _ _ x.0 in
    let f : s.pubs ≡ u.pubs = same_lists _ _ y.0 in
    let g : s.subs ≡ u.subs = same_lists _ _ z.0 in
    let k : s.seen ≡ u.seen = same_lists _ _ z.1 in
    λ i. record { present = e i; pubs = f i; subs = g i; seen = k i }

drained_path : (d : Drained Network) (forwards rounds : ℕ) (quiet : Bool) → drained_is d forwards rounds quiet ≡ true
    → drained d.forwards d.rounds (quiet_of d.end) ≡ drained forwards rounds quiet
unfolding drained_is
drained_path d forwards rounds quiet h =
    let x = and_yes (eqb d.forwards forwards) _ h in
    let y = and_yes (eqb d.rounds rounds) (alike (quiet_of d.end) quiet) x.1 in
    let e : d.forwards ≡ forwards = eqb-true _ _ x.0 in
    let f : d.rounds ≡ rounds = eqb-true _ _ y.0 in
    let g : quiet_of d.end ≡ quiet = alike_same _ _ y.1 in
    λ i. drained (e i) (f i) (g i)

-- a run from zero bytes
module _ (l : List Fields) (h : proper l ≡ true) where
  from_zero : (old : Tally) → ran l old ≡ written (ended l)
  unfolding ended proper
  from_zero old = run_from_blank (bytes l) old (eqb-true _ _ (and_yes (eqb (length (bytes l) % 16) 0) (small (bytes l)) h).0)

  ends_sound : Sound (ended l).network
  unfolding ended proper
  ends_sound = sound_from_blank (bytes l) (small_bytes (bytes l) (and_yes (eqb (length (bytes l) % 16) 0) (small (bytes l)) h).1)

  state_is : (old : Tally) → (ran l old).state ≡ bytes_of (ended l).network
  state_is old = ap (λ (e : Ending). e.state) (from_zero old)

-- equal images are written alike
images : (n m : Network) → image n ≡ image m → image_net n ≡ image_net m
unfolding image_net
images n m e = ap as_network e

-- a row that works holds
row_holds : (r : Row) → works r ≡ true → Holds r
unfolding works Holds
row_holds (answers l number place accepted) h =
    let x = and_yes (proper l) _ h in
    λ old. ap (λ (e : Ending). e.answer) (from_zero l x.0 old) ∙ answer_path (ended l).answer number place accepted x.1
row_holds (image_as l r) h =
    let x = and_yes (proper l) _ h in
    let y = and_yes (proper r) _ x.1 in
    λ old buffer long.
    ap (λ (s : List ℕ). imaged_of s buffer) (state_is l x.0 old) ∙ image_of_sound (ends_sound l x.0) buffer long
    ∙ ap bytes_of (images (ended l).network (ended r).network (image_path _ _ y.1))
    ∙ sym (ap (λ (s : List ℕ). imaged_of s buffer) (state_is r y.0 old) ∙ image_of_sound (ends_sound r y.0) buffer long)
row_holds (neighbours l p who) h =
    let x = and_yes (proper l) _ h in
    λ old.
    ap (λ (s : List ℕ). neighbours_of (open_of s).network (peer p)) (state_is l x.0 old)
    ∙ ap (λ (o : Opened). neighbours_of o.network (peer p)) (write_read (ends_sound l x.0))
    ∙ eqb-true _ _ x.1
row_holds (drains l budget forwards rounds quiet) h =
    let x = and_yes (proper l) _ h in
    λ old.
    ap (λ (s : List ℕ). (drain_end_of s blank_rows budget).answer) (state_is l x.0 old)
    ∙ drain_with_blank (ends_sound l x.0) budget
    ∙ drained_path (drain_of blank_table budget (ended l).network) forwards rounds quiet x.1

-- every row that works holds
pub each_holds : (l : List Row) → every l ≡ true → Each l
unfolding every Each
each_holds [] h = tt
each_holds (r ∷ l) h =
    let x = and_yes (works r) (every l) h in
    (row_holds r x.0, each_holds l x.1)

-- two lists in one
pub each_both : (l r : List Row) → Each l → Each r → Each (l ++ r)
unfolding Each
each_both [] r e f = f
each_both (x ∷ l) r e f = (e.0, each_both l r e.1 f)
