-- The client's page (specs/Page.antt) holds for every message table whose rows were accepted. Assumes nothing.
use Rattle.std.specs.Prelude.{◌≡◌, ◌⊎◌, true, false, List, [], ◌∷◌}
use Rattle.std.proofs.Common.{inl, inr}
use Rattle.std.proofs.Math.Path.{refl}
use Rattle.sets.proofs.laws.Bools.{either}
use Rattle.network.specs.declared.Network.{Network}
use Rattle.network.specs.declared.Table.{Table}
use Rattle.network.specs.Network.{Rows}
use Rattle.network.specs.Sound.{Sound}
use Rattle.events.specs.declared.Event.{Event}
use Rattle.events.specs.declared.Event.TheVariants.{Skip, Produce, Forward, Subscribe, Unsubscribe, Leave, Join}
use Rattle.events.specs.Fits.{EventFits}
use Rattle.floodnet.specs.Step.{refusal, effect}
use Rattle.floodnet.specs.laws.StepLaws.{produce_met, forward_met, topics_met, leave_met, join_met, effect_sound}
use Rattle.broadcastnet.specs.Broadcast.{Broadcastnet, Step, rel_skip, rel_broadcast_partial, rel_subscribe, rel_unsubscribe, rel_leave, rel_join}
use Rattle.broadcastnet.specs.Commit.{somewhere, who_saw, image}
use Rattle.broadcastnet.proofs.laws.CommitLaws.{image_quiet}
use Rattle.broadcastnet.specs.Page.{Row, Accepted, effects, images, Path, Related, Refines}
use Rattle.broadcastnet.proofs.laws.Messages.{image_produced, forward_row}
use Rattle.broadcastnet.proofs.laws.Members.{subscribe_row, unsubscribe_row, leave_row, join_row}

-- What the table says of an event is one step.
row_step : (b : Table) (n o : Network) (e : Event) → Row n o e → Step b (image n) (image o)
unfolding Row
row_step b n o Skip r = rel_skip r
row_step b n o (Produce p m) r = rel_skip r
row_step b n o (Forward p m) r = first (either (somewhere o m))
  where
    first : (somewhere o m ≡ true) ⊎ (somewhere o m ≡ false) → Step b (image n) (image o)
    first (inl h) = rel_skip (r.still h)
    first (inr h) = rel_broadcast_partial m (who_saw o m) r.may (r.done h)
row_step b n o (Subscribe p topics) r = rel_subscribe p topics r.may r.step
row_step b n o (Unsubscribe p topics) r = rel_unsubscribe p topics r.may r.step
row_step b n o (Leave p) r = rel_leave p r.may r.step
row_step b n o (Join p j) r = rel_join p j.pubs j.subs r.may r.step

module _ {b : Table} (rows : Rows b) where
  -- Each accepted event does to the image what the table says.
  pub image_step : (n : Network) → Sound n → (e : Event) → EventFits e → refusal n b e ≡ 0 → Row n (effect n b e) e
  unfolding Row effect refusal EventFits
  image_step n s Skip f h = refl
  image_step n s (Produce p m) f h = let x = produce_met n b p m h in image_produced s p m x.0 x.3
  image_step n s (Forward p m) f h = forward_row s rows p m (forward_met n p m h).1
  image_step n s (Subscribe p topics) f h = subscribe_row s p topics (topics_met n p h)
  image_step n s (Unsubscribe p topics) f h = unsubscribe_row s p topics (topics_met n p h)
  image_step n s (Leave p) f h = let x = leave_met n p h in leave_row p x.0 x.1
  image_step n s (Join p j) f h = join_row s p j.subs j.pubs j.neighbours f.0 (join_met n p j.neighbours h).0

  -- So it is one step of Broadcastnet, or none.
  pub one_step : (n : Network) → Sound n → (e : Event) → EventFits e → refusal n b e ≡ 0 → Step b (image n) (image (effect n b e))
  one_step n s e f h = row_step b n (effect n b e) e (image_step n s e f h)

  -- The images of the states of a run are a computation of Broadcastnet.
  pub images_follow : (n : Network) → Sound n → (l : List Event) → Accepted n b l → Path b (image n) (images n b l) (image (effects n b l))
  unfolding Accepted effects images Path
  images_follow n s [] a = refl
  images_follow n s (e ∷ l) a = (one_step n s e a.0 a.1, images_follow (effect n b e) (effect_sound s rows e a.0 a.1) l a.2)

  -- THE PAGE
  pub refines : Refines b
  refines =
      record {
        tabled = image_step;
        one_step = one_step;
        follows = images_follow;
        maps = λ n s. record { sound = s; shown = refl };
        simulates = simulates;
        at_rest = image_quiet;
      }
    where
      simulates : (n : Network) (w : Broadcastnet) → Related n w → (e : Event) → EventFits e → refusal n b e ≡ 0
          → (v : Broadcastnet) × Step b w v × Related (effect n b e) v
      simulates n w r e f h =
          (image (effect n b e), rw r.shown (one_step n r.sound e f h), record { sound = effect_sound r.sound rows e f h; shown = refl })
