-- The images along a run, on bytes: the proof of specs/ImagePage.antt. Assumes nothing.
use Rattle.std.specs.Prelude.{◌≡◌, refl, List, ℕ, suc, ◌/◌, ◌≤◌, ◌<◌, length, Some, Ok, None, Err}
use Rattle.std.proofs.Common.{sym, ap, subst, ◌∙◌, arith}
use Rattle.endian.specs.laws.Le.{Bytes}
use Rattle.network.specs.declared.Network.{Network}
use Rattle.network.specs.declared.Table.{Table}
use Rattle.network.specs.State.{Opened}
use Rattle.network.specs.Network.{Rows}
use Rattle.network.specs.Sound.{Sound}
use Rattle.network.specs.State.{open_of, opened, bytes_of}
use Rattle.network.specs.laws.Listing.{listed_rows}
use Rattle.network.specs.laws.OpenedSound.{opened_sound}
use Rattle.network.specs.laws.Trips.{write_read}
use Rattle.events.specs.declared.Event.{Event}
use Rattle.floodnet.specs.Step.{refusal, effect}
use Rattle.broadcastnet.specs.Broadcast.{Step}
use Rattle.broadcastnet.specs.Commit.{image, image_net}
use Rattle.broadcastnet.proofs.laws.ImageNet.{image_written, image_net_sound}
use Rattle.broadcastnet.specs.Page.{Row}
use Rattle.broadcastnet.specs.Unchanged.{Unchanged}
use Rattle.broadcastnet.proofs.laws.Unchanged.{unchanged}
use Rattle.broadcastnet.proofs.laws.Refines.{image_step, one_step}
use Rattle.engine.specs.declared.Tally.{Tally}
use Rattle.engine.specs.declared.Answer.{Answer}
use Rattle.engine.specs.Start.{begin_of}
use Rattle.pages.specs.laws.StartPageLaws.{begin_opens}
use Rattle.engine.specs.Run.{run_of, Ends}
use Rattle.pages.specs.RunReached.{reached, turn_at}
use Rattle.pages.specs.laws.RunReached.{reached_sound}
use Rattle.engine.specs.Imaging.{image_answer_of, imaged_of}
use Rattle.pages.specs.RunPage.{net_in, table_in, RunDone}
use Rattle.pages.specs.laws.RunPageLaws.{turn_refused, page_turn, run_page}
use Rattle.pages.specs.ImagePage.{Imaged, ImagesAlong, ImagePage}
use Rattle.events.specs.Event.{Read, read_at}
use Rattle.network.specs.laws.Numbers.{refusal_not_0}
use Rattle.events.specs.laws.RoundTrip.{read_fits}
use Rattle.events.specs.laws.ReadingLaws.{never_ended}

-- ---- the image of a state's bytes

shown : (m : Network) → image (image_net m) ≡ image m
unfolding image_net
shown m = image_written (image m)

pub imaged : (s : List ℕ) {n : Network} → open_of s ≡ opened 0 0 0 n → Sound n → Imaged s n
unfolding image_answer_of imaged_of
imaged s {n} o sound =
    record {
      answer = λ buffer l. rw (o, l);
      bytes = written;
      reads = back;
      shows = λ buffer l. ap (λ (x : Opened). image x.network) (back buffer l) ∙ shown n;
    }
  where
    written : (buffer : List ℕ) → length buffer ≡ 5120 → imaged_of s buffer ≡ bytes_of (image_net n)
    written buffer l = rw (o, l)

    back : (buffer : List ℕ) → length buffer ≡ 5120 → open_of (imaged_of s buffer) ≡ opened 0 0 0 (image_net n)
    back buffer l = ap open_of (written buffer l) ∙ write_read (image_net_sound sound)

-- ---- along a run

module _ (ev : List ℕ) (he : Bytes ev) (b : Table) (rows : Rows b) (n : Network) (start : Sound n) where
  sound_at : (i : ℕ) → Sound (reached ev b n i)
  sound_at = reached_sound ev he rows start

  module _ (accepted : ℕ) (within : accepted ≤ length ev / 16) (each : (i : ℕ) → i < accepted → (turn_at ev b n i).number ≡ 0) where
    -- an accepted record is an event
    is_event : (i : ℕ) → i < accepted → (e : Event) × (read_at ev i ≡ Some (Ok e))
    is_event i l = first (read_at ev i) refl
      where
        first : (r : Read) → read_at ev i ≡ r → (e : Event) × (read_at ev i ≡ Some (Ok e))
        first (Some (Ok e)) z = (e, z)
        first (Some (Err refusal)) z = absurd (refusal_not_0 refusal (sym (turn_refused ev b n i refusal z) ∙ each i l))
        first None z = absurd (never_ended ev i (omega arith) z)

    -- that was accepted in the network it met, and had its effect there
    accepts : (i : ℕ) → i < accepted → (e : Event) → read_at ev i ≡ Some (Ok e) → refusal (reached ev b n i) b e ≡ 0
    accepts i l e z = sym ((page_turn ev b n i).event e z) ∙ each i l

    next : (i : ℕ) → i < accepted → (e : Event) → read_at ev i ≡ Some (Ok e) → effect (reached ev b n i) b e ≡ reached ev b n (suc i)
    next i l e z = sym ((page_turn ev b n i).does e z (accepts i l e z)).0

    pub images_along : ImagesAlong ev b (reached ev b n) accepted
    images_along =
        record {
          events = is_event;
          rows = λ i l e z.
              subst (λ (o : Network). Row (reached ev b n i) o e) (next i l e z)
              (image_step rows (reached ev b n i) (sound_at i) e (read_fits ev i e he z) (accepts i l e z));
          topics = λ i l e z. subst (λ (o : Network). Unchanged (reached ev b n i) o e) (next i l e z) (unchanged b (reached ev b n i) (sound_at i) e);
          steps = λ i l.
              let x = is_event i l in
              subst (λ (o : Network). Step b (image (reached ev b n i)) (image o)) (next i l x.0 x.1)
              (one_step rows (reached ev b n i) (sound_at i) x.0 (read_fits ev i x.0 he x.1) (accepts i l x.0 x.1));
        }

-- THE THEOREM: every outcome of `relay_run` past the refusals before any event meets the page.
pub image_page : (s t ev : List ℕ) (old : Tally) → Bytes s → Bytes ev → (begin_of s t (length ev)).number ≡ 0
    → (r : Answer) (s' : List ℕ) (new : Tally) → Ends r s' new (run_of s t ev old) → ImagePage s t ev r s'
unfolding reached
image_page s t ev old hs he z r s' new e =
    let d : RunDone s t ev old r s' new = (run_page s t ev old hs he r s' new e).done z in
    record {
      first = refl;
      along = images_along ev he (table_in t) (listed_rows t) (net_in s) (opened_sound s hs) r.accepted d.within d.each;
      last = sym d.state;
      before = imaged s (begin_opens s t (length ev) z) (opened_sound s hs);
      after = imaged s' d.reads d.sound;
    }
