-- THE CLIENT'S PAGE OF THE OTHER ENTRY POINTS' REFUSALS: demand 1 of the minutes, "refused by number with every lent buffer untouched". (The run's is in
-- specs/RunPage.antt, and which number it is, exactly if what, in specs/StartPage.antt.) Tables and events are lent for reading alone.
-- How to read it: `x ≡ y`: x is y; `×`: and; `⊎`: or; `→`: then; `→ ⊥`: never, or not: so "the number is not 0" before the arrow, what follows from it
-- behind. `untouched_page` (specs/laws/UntouchedPage.antt) proves it for all bytes. Assumes nothing.
use Rattle.std.specs.Prelude.{◌≡◌, ◌⊎◌, List, ℕ}
use Rattle.engine.specs.Start.{begin_of}
use Rattle.network.specs.Rules.{checked}
use Rattle.engine.specs.Alone.{forwarded_by, forward_of, check_of, copy_of, copied_of}
use Rattle.engine.specs.Draining.{refused_drain, drain_end_of}
use Rattle.engine.specs.Imaging.{image_answer_of, imaged_of}

-- s, t: the state's and the table's bytes. What refuses before a forward or a drain, with number, place and detail, is `begin_of` with 0 events
-- (specs/StartPage.antt); what refuses a state is `check_of` (specs/FaultPage.antt).
pub record UntouchedPage (s t : List ℕ) : Type 0 where
  -- `relay_drain`: refused only by 1, 2, 4 or 20 to 26, with counts 0 and not quiet, and the state is as it was
  pub drain : (budget : ℕ) → ((begin_of s t 0).number ≡ 0 → ⊥)
      → ((drain_end_of s t budget).answer ≡ refused_drain (begin_of s t 0).number (begin_of s t 0).place (begin_of s t 0).detail) × ((drain_end_of s t budget).state ≡ s)
  pub drain_accepts : (budget : ℕ) → (begin_of s t 0).number ≡ 0 → ((drain_end_of s t budget).answer.number ≡ 0) × ((drain_end_of s t budget).answer.detail ≡ 0)
  -- `relay_forward`: the same refusals come first; past them the place and the detail are 0; whatever refuses it, nobody is reported to receive
  -- it, no delivery is counted, and the state is as it was
  pub forward_first : (p m : ℕ) → ((begin_of s t 0).number ≡ 0 → ⊥) → (forward_of s t p m).answer ≡ forwarded_by (begin_of s t 0).number (begin_of s t 0).place (begin_of s t 0).detail 0
  pub forward_then : (p m : ℕ) → (begin_of s t 0).number ≡ 0 → ((forward_of s t p m).answer.place ≡ 0) × ((forward_of s t p m).answer.detail ≡ 0)
  pub forward : (p m : ℕ) → ((forward_of s t p m).answer.number ≡ 0 → ⊥)
      → ((forward_of s t p m).answer.receivers ≡ 0) × ((forward_of s t p m).answer.deliveries ≡ 0) × ((forward_of s t p m).state ≡ s)
  -- `relay_image`: a state is refused as `relay_check` refuses it; past that 18 is the only refusal; the second buffer is as it was
  pub image_first : (buffer : List ℕ) → ((check_of s).number ≡ 0 → ⊥) → image_answer_of s buffer ≡ check_of s
  pub image_then : (buffer : List ℕ) → (check_of s).number ≡ 0 → (image_answer_of s buffer ≡ checked 0 0 0) ⊎ (image_answer_of s buffer ≡ checked 18 0 0)
  pub image : (buffer : List ℕ) → ((image_answer_of s buffer).number ≡ 0 → ⊥) → imaged_of s buffer ≡ buffer
  -- `relay_copy`: so is the buffer copied to, whose length is refused by 1
  pub copy_first : (to : List ℕ) → ((check_of s).number ≡ 0 → ⊥) → copy_of s to ≡ check_of s
  pub copy_then : (to : List ℕ) → (check_of s).number ≡ 0 → (copy_of s to ≡ checked 0 0 0) ⊎ (copy_of s to ≡ checked 1 0 0)
  pub copy : (to : List ℕ) → ((copy_of s to).number ≡ 0 → ⊥) → copied_of s to ≡ to
