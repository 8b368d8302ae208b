-- Laws of the start, where the network and the table are lent. Assumes nothing.
use Rattle.std.specs.Prelude.{◌≡◌, refl, cond, List, ℕ, zero, suc, ◌%◌, eqb, length, Result, Ok, Err}
use Rattle.std.proofs.Common.{sym, ap, ◌∙◌}
use Rattle.network.specs.declared.Network.{Network}
use Rattle.network.specs.declared.Table.{Table}
use Rattle.network.specs.declared.Refused.{Refused}
use Rattle.network.specs.Refusal.{number_of}
use Rattle.network.specs.Refused.{checked_as}
use Rattle.network.specs.Network.{with_pending, with_seen}
use Rattle.network.specs.State.{blank_net, opened, opened_by, open_of, bytes_of, Opens}
use Rattle.network.specs.Storing.{put_messages}
use Rattle.network.specs.Rows.{listed, list_of}
use Rattle.network.specs.laws.Messages.{put_messages_lem}
use Rattle.floodnet.specs.Step.{refusal, effect, if_accepted, after}
use Rattle.floodnet.specs.Forward.{moved, given, forwarded}
use Rattle.engine.specs.Start.{refused_at, begun_as, begin_of}
use Rattle.engine.specs.laws.StartLaws.{begin_4, begin_unsound, begin_0}
use Rattle.engine.specs.laws.ForwardAlone.{forward_event}
use Rattle.network.specs.laws.Numbers.{refusal_not_0}

-- what was opened, by the numbers of the answer
pub opened_is : {A : Type 0} {s : List ℕ} {old n : Network} {r : Result A Refused} → Opens s old r n
    → (let c = checked_as r in opened c.number c.place c.detail (cond (eqb c.number 0) n blank_net) ≡ open_of s)
unfolding opened_by
opened_is o = o.answer

module _ (s t : List ℕ) (events : ℕ) where
  -- past the first three, the table is refused
  pub starts_listed : length s ≡ 5120 → length t ≡ 256 → events % 16 ≡ 0 → (r : Refused) {b : Table} → listed (number_of r.refusal) r.place b ≡ list_of t → r.detail ≡ 0
      → refused_at (number_of r.refusal) r.place r.detail ≡ begin_of s t events
  starts_listed e f g r k z = rw z (begin_4 s t events e f g k (refusal_not_0 r.refusal))

  -- the table is read, and the state is refused or read
  pub starts_opened : length s ≡ 5120 → length t ≡ 256 → events % 16 ≡ 0 → {b : Table} → listed 0 0 b ≡ list_of t
      → {A : Type 0} (r : Result A Refused) {old n : Network} → Opens s old r n → begun_as r n b ≡ begin_of s t events
  unfolding opened_by
  starts_opened e f g k (Ok a) o = begin_0 s t events e f g k refl o.answer refl
  starts_opened e f g k (Err r) o = begin_unsound s t events e f g k refl o.answer (refusal_not_0 r.refusal)

-- pending and seen of a network, written into the bytes of one that has its other parts
pub saved : {s l : List ℕ} (n m : Network) → bytes_of n ≡ s → m ≡ with_seen (with_pending n m.pending) m.seen → l ≡ put_messages 32 s m.pending m.seen → l ≡ bytes_of m
saved n m b e k =
    k ∙ ap (λ (x : List ℕ). put_messages 32 x m.pending m.seen) (sym b) ∙ put_messages_lem n m.pending m.seen ∙ ap bytes_of (sym e)

-- a forward, refused or not, leaves the other parts as they were
pub forward_keeps : (n : Network) (b : Table) (p m : ℕ) {n' : Network} → n' ≡ after n b (forward_event p m) → n' ≡ with_seen (with_pending n n'.pending) n'.seen
unfolding after if_accepted effect forwarded given moved
forward_keeps n b p m {n'} e = rw e (first (refusal n b (forward_event p m)))
  where
    first : (k : ℕ) → (let x = if_accepted k (effect n b (forward_event p m)) n in x ≡ with_seen (with_pending n x.pending) x.seen)
    first zero = refl
    first (suc k) = refl
