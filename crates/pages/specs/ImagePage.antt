-- THE CLIENT'S PAGE OF THE IMAGES: demand 2 of the minutes, "Seen through the commitment map, it is one Broadcastnet step or no change, as tabled", along a
-- run and on bytes. `image_page` (specs/laws/ImagePageLaws.antt) proves it of every outcome of `relay_run` that gets past the refusals before any event.
-- How to read it: `x ≡ y`: x is y; `×`: and, or, with a name in front, there is; `→`: then. The network that the record at place i meets is
-- `reached ev b n i` (specs/RunPage.antt); `image` is the commitment map (broadcastnet's specs/Commit.antt), `Row` document 01's image table and
-- `Step` Broadcastnet's step (its specs/Page.antt and Broadcast.antt). Assumes nothing.
use Rattle.std.specs.Prelude.{◌≡◌, List, ℕ, suc, ◌<◌, length, Some, Ok}
use Rattle.network.specs.declared.Network.{Network}
use Rattle.network.specs.declared.Table.{Table}
use Rattle.network.specs.Rules.{checked}
use Rattle.network.specs.State.{open_of, opened, bytes_of}
use Rattle.events.specs.declared.Event.{Event}
use Rattle.broadcastnet.specs.Broadcast.{Step}
use Rattle.broadcastnet.specs.Commit.{image, image_net}
use Rattle.broadcastnet.specs.Page.{Row}
use Rattle.broadcastnet.specs.Unchanged.{Unchanged}
use Rattle.engine.specs.declared.Answer.{Answer}
use Rattle.engine.specs.Imaging.{image_answer_of, imaged_of}
use Rattle.pages.specs.RunReached.{reached}
use Rattle.pages.specs.RunPage.{net_in, table_in}
use Rattle.events.specs.Event.{read_at}

-- What `relay_image` makes of a state's bytes s that say the network n, with a second buffer of 5,120 bytes.
pub record Imaged (s : List ℕ) (n : Network) : Type 0 where
  -- it answers 0, and writes the image as 32 peer records
  pub answer : (buffer : List ℕ) → length buffer ≡ 5120 → image_answer_of s buffer ≡ checked 0 0 0
  pub bytes : (buffer : List ℕ) → length buffer ≡ 5120 → imaged_of s buffer ≡ bytes_of (image_net n)
  -- what it writes is itself a sound state, whose own image is the image of n
  pub reads : (buffer : List ℕ) → length buffer ≡ 5120 → open_of (imaged_of s buffer) ≡ opened 0 0 0 (image_net n)
  pub shows : (buffer : List ℕ) → length buffer ≡ 5120 → image (open_of (imaged_of s buffer)).network ≡ image n

-- b: the table read; at i: the network that the record at place i meets
pub record ImagesAlong (ev : List ℕ) (b : Table) (at : ℕ → Network) (accepted : ℕ) : Type 0 where
  -- each accepted record is an event
  pub events : (i : ℕ) → i < accepted → (e : Event) × (read_at ev i ≡ Some (Ok e))
  -- it does to the image what the table's row of that very event says
  pub rows : (i : ℕ) → i < accepted → (e : Event) → read_at ev i ≡ Some (Ok e) → Row (at i) (at (suc i)) e
  -- "unchanged if the topics change nothing"
  pub topics : (i : ℕ) → i < accepted → (e : Event) → read_at ev i ≡ Some (Ok e) → Unchanged (at i) (at (suc i)) e
  -- so it is one step of Broadcastnet; no change is Broadcastnet's own skip
  pub steps : (i : ℕ) → i < accepted → Step b (image (at i)) (image (at (suc i)))

-- s, t, ev: the bytes lent to a run; r: its answer; s': the state's bytes afterwards
pub record ImagePage (s t ev : List ℕ) (r : Answer) (s' : List ℕ) : Type 0 where
  -- from the image of the state lent ..
  pub first : reached ev (table_in t) (net_in s) 0 ≡ net_in s
  -- .. event by event ..
  pub along : ImagesAlong ev (table_in t) (reached ev (table_in t) (net_in s)) r.accepted
  -- .. to the image of the state left
  pub last : reached ev (table_in t) (net_in s) r.accepted ≡ net_in s'
  -- and `relay_image` writes the one from the bytes lent, and the other from the bytes left
  pub before : Imaged s (net_in s)
  pub after : Imaged s' (net_in s')
