-- Laws of specs/UntouchedPage.antt. Assumes nothing.
use Rattle.std.specs.Prelude.{◌≡◌, refl, Bool, true, false, cond, ◌&&◌, ◌⊎◌, List, ℕ, eqb, ltb, length}
use Rattle.std.proofs.Common.{inl, inr}
use Rattle.sets.proofs.laws.Bools.{ne_eqb}
use Rattle.sets.proofs.laws.Sizes.{size_none}
use Rattle.network.specs.Network.{peer, message}
use Rattle.network.specs.declared.Checked.{Checked}
use Rattle.network.specs.Rules.{checked}
use Rattle.network.specs.State.{open_of, bytes_of}
use Rattle.floodnet.specs.Refusals.{refusal_forward}
use Rattle.floodnet.specs.Forward.{forwarded, receivers}
use Rattle.broadcastnet.specs.Commit.{image_net}
use Rattle.engine.specs.Start.{Beginning, begin_of}
use Rattle.engine.specs.Alone.{Forwards, forwarded_by, no_forward, forward_on, forward_of, check_of, copy_of, copied_of}
use Rattle.engine.specs.Draining.{drain_end_of}
use Rattle.engine.specs.Imaging.{image_answer_of, imaged_of}
use Rattle.pages.specs.UntouchedPage.{UntouchedPage}

-- ---- it holds

forward_untouched : (s t : List ℕ) (p m : ℕ) → ((forward_of s t p m).answer.number ≡ 0 → ⊥)
    → ((forward_of s t p m).answer.receivers ≡ 0) × ((forward_of s t p m).answer.deliveries ≡ 0) × ((forward_of s t p m).state ≡ s)
unfolding forward_of forward_on
forward_untouched s t p m = first (eqb g.number 0) (ltb p 32 && ltb m 64) (eqb k 0)
  where
    g : Beginning
    g = begin_of s t 0

    k : ℕ
    k = refusal_forward g.network (peer p) (message m)

    done : Forwards
    done =
        record {
          answer = forwarded_by 0 0 0 (receivers g.network g.table (peer p) (message m));
          state = bytes_of (forwarded g.network g.table (peer p) (message m));
        }

    Told : Forwards → Type 0
    Told f = (f.answer.number ≡ 0 → ⊥) → (f.answer.receivers ≡ 0) × (f.answer.deliveries ≡ 0) × (f.state ≡ s)

    first : (x y z : Bool) → Told (cond x (cond y (cond z done (no_forward k 0 0 s)) (no_forward 7 0 0 s)) (no_forward g.number g.place g.detail s))
    first true true true = λ h. absurd (h refl)
    first true true false = λ h. (refl, size_none, refl)
    first true false z = λ h. (refl, size_none, refl)
    first false y z = λ h. (refl, size_none, refl)

image_untouched : (s buffer : List ℕ) → ((image_answer_of s buffer).number ≡ 0 → ⊥) → imaged_of s buffer ≡ buffer
unfolding image_answer_of imaged_of
image_untouched s buffer = first (eqb (open_of s).number 0) (eqb (length buffer) 5120)
  where
    first : (x y : Bool) → ((cond x (cond y (checked 0 0 0) (checked 18 0 0)) (check_of s)).number ≡ 0 → ⊥)
        → cond x (cond y (bytes_of (image_net (open_of s).network)) buffer) buffer ≡ buffer
    first true true h = absurd (h refl)
    first true false h = refl
    first false y h = refl

copy_untouched : (s to : List ℕ) → ((copy_of s to).number ≡ 0 → ⊥) → copied_of s to ≡ to
unfolding copy_of copied_of
copy_untouched s to = first (eqb (open_of s).number 0) (eqb (length to) 5120)
  where
    first : (x y : Bool) → ((cond x (cond y (checked 0 0 0) (checked 1 0 0)) (check_of s)).number ≡ 0 → ⊥)
        → cond x (cond y (bytes_of (open_of s).network) to) to ≡ to
    first true true h = absurd (h refl)
    first true false h = refl
    first false y h = refl

-- what comes first, and what can come then
which : {c d : Checked} (x : Bool) → (cond x c d ≡ c) ⊎ (cond x c d ≡ d)
which true = inl refl
which false = inr refl

forward_then : (s t : List ℕ) (p m : ℕ) → (begin_of s t 0).number ≡ 0 → ((forward_of s t p m).answer.place ≡ 0) × ((forward_of s t p m).answer.detail ≡ 0)
unfolding forward_of forward_on
forward_then s t p m z = rw z (first (ltb p 32 && ltb m 64) (eqb k 0))
  where
    g : Beginning
    g = begin_of s t 0

    k : ℕ
    k = refusal_forward g.network (peer p) (message m)

    done : Forwards
    done =
        record {
          answer = forwarded_by 0 0 0 (receivers g.network g.table (peer p) (message m));
          state = bytes_of (forwarded g.network g.table (peer p) (message m));
        }

    first : (y x : Bool) → ((cond y (cond x done (no_forward k 0 0 s)) (no_forward 7 0 0 s)).answer.place ≡ 0) × ((cond y (cond x done (no_forward k 0 0 s)) (no_forward 7 0 0 s)).answer.detail ≡ 0)
    first true true = (refl, refl)
    first true false = (refl, refl)
    first false x = (refl, refl)

then_18 : (s buffer : List ℕ) → (check_of s).number ≡ 0 → (image_answer_of s buffer ≡ checked 0 0 0) ⊎ (image_answer_of s buffer ≡ checked 18 0 0)
unfolding check_of image_answer_of
then_18 s buffer z = rw z (which (eqb (length buffer) 5120))

then_1 : (s to : List ℕ) → (check_of s).number ≡ 0 → (copy_of s to ≡ checked 0 0 0) ⊎ (copy_of s to ≡ checked 1 0 0)
unfolding check_of copy_of
then_1 s to z = rw z (which (eqb (length to) 5120))

-- THE THEOREM: for all bytes.
pub untouched_page : (s t : List ℕ) → UntouchedPage s t
unfolding drain_end_of forward_of check_of image_answer_of copy_of
untouched_page s t =
    record {
      drain = λ budget h. (rw (ne_eqb h), rw (ne_eqb h));
      drain_accepts = λ budget z. (rw z, rw z);
      forward_first = λ p m h. rw (ne_eqb h);
      forward_then = forward_then s t;
      forward = forward_untouched s t;
      image_first = λ buffer h. rw (ne_eqb h);
      image_then = then_18 s;
      image = image_untouched s;
      copy_first = λ to h. rw (ne_eqb h);
      copy_then = then_1 s;
      copy = copy_untouched s;
    }
