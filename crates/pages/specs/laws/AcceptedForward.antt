-- An accepted `relay_forward` in the words of the networks: what was read, what was written, and what is answered. Assumes nothing.
use Rattle.std.specs.Prelude.{◌≡◌, refl, true, List, ℕ, ◌^◌, ◌<◌}
use Rattle.std.proofs.Common.{sym, ap, ◌∙◌, arith}
use Rattle.std.proofs.Math.Decide.{ℕ_discrete}
use Rattle.sets.specs.Set.{size}
use Rattle.sets.proofs.laws.Sizes.{size_none}
use Rattle.endian.specs.laws.Le.{Bytes}
use Rattle.network.specs.State.{Opened}
use Rattle.network.specs.Network.{peer, message, present, pending}
use Rattle.network.specs.Sound.{Sound}
use Rattle.network.specs.laws.Listing.{listed_rows}
use Rattle.network.specs.laws.OpenedSound.{opened_sound}
use Rattle.network.specs.laws.Trips.{write_read}
use Rattle.floodnet.specs.Refusals.{refusal_forward}
use Rattle.floodnet.specs.Forward.{forwarded, receivers}
use Rattle.floodnet.specs.laws.ForwardLaws.{forwarded_sound, receivers_lt}
use Rattle.floodnet.specs.laws.StepLaws.{forward_met}
use Rattle.engine.specs.Start.{begin_of}
use Rattle.engine.specs.Alone.{forwarded_by, forward_of}
use Rattle.pages.specs.RunPage.{net_in, table_in}
use Rattle.pages.specs.laws.ForwardRun.{Passed, forward_passed}
use Rattle.pages.specs.laws.StartPageLaws.{begin_read}
use Rattle.pages.specs.laws.UntouchedPage.{untouched_page}

pub record Accepted (s t : List ℕ) (p m : ℕ) : Type 0 where
  -- the numbers fit, and no condition fails: p is present and m is pending there
  pub peer_fits : p < 32
  pub message_fits : m < 64
  pub right : refusal_forward (net_in s) (peer p) (message m) ≡ 0
  pub met : (present (net_in s) (peer p) ≡ true) × (pending (net_in s) (peer p) (message m) ≡ true)
  -- the networks before and after are sound
  pub before : Sound (net_in s)
  pub after : Sound (forwarded (net_in s) (table_in t) (peer p) (message m))
  -- the receivers are answered, and the bytes afterwards are read as the network after the forward
  pub answer : (forward_of s t p m).answer ≡ forwarded_by 0 0 0 (receivers (net_in s) (table_in t) (peer p) (message m))
  pub held : net_in (forward_of s t p m).state ≡ forwarded (net_in s) (table_in t) (peer p) (message m)

pub forward_accepted : (s t : List ℕ) (p m : ℕ) → Bytes s → (forward_of s t p m).answer.number ≡ 0 → Accepted s t p m
forward_accepted s t p m h z =
    record {
      peer_fits = passed.small_peer;
      message_fits = passed.small_message;
      right = right;
      met = met;
      before = before;
      after = after;
      answer = rw (read.0, read.1) at passed.answer;
      held = ap net_in (rw (read.0, read.1) at passed.state) ∙ ap (λ (x : Opened). x.network) (write_read after);
    }
  where
    passed : Passed s t p m
    passed = forward_passed s t p m z

    read : ((begin_of s t 0).network ≡ net_in s) × ((begin_of s t 0).table ≡ table_in t)
    read = begin_read s t 0 passed.begun

    right : refusal_forward (net_in s) (peer p) (message m) ≡ 0
    right = rw read.0 at passed.right

    met : (present (net_in s) (peer p) ≡ true) × (pending (net_in s) (peer p) (message m) ≡ true)
    met = forward_met (net_in s) (peer p) (message m) right

    before : Sound (net_in s)
    before = opened_sound s h

    after : Sound (forwarded (net_in s) (table_in t) (peer p) (message m))
    after = forwarded_sound before (listed_rows t) (peer p) (message m) met.1

-- The count is the size, and the set is one of peers, accepted or not.
pub sized : (s t : List ℕ) (p m : ℕ) → Bytes s
    → ((forward_of s t p m).answer.deliveries ≡ size (forward_of s t p m).answer.receivers) × ((forward_of s t p m).answer.receivers < 2 ^ 32)
sized s t p m h = go (ℕ_discrete _ _)
  where
    go : Dec ((forward_of s t p m).answer.number ≡ 0)
        → ((forward_of s t p m).answer.deliveries ≡ size (forward_of s t p m).answer.receivers) × ((forward_of s t p m).answer.receivers < 2 ^ 32)
    go (yes z) =
        let a = forward_accepted s t p m h z in
        rw a.answer (refl, receivers_lt a.before.shaped (table_in t) (peer p) (message m))
    go (no z) =
        let u = (untouched_page s t).forward p m z in
        (u.1 ∙ sym (ap size u.0 ∙ size_none), omega (arith, u.0))
