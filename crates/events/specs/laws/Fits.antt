-- Laws of specs/Fits.antt. Assumes nothing.
use Rattle.std.specs.Prelude.{◌^◌, ◌<◌}
use Rattle.events.specs.declared.Fields.{Fields}
use Rattle.events.specs.declared.Event.{Event}
use Rattle.events.specs.declared.Event.TheVariants.{Skip, Produce, Forward, Subscribe, Unsubscribe, Leave, Join}
use Rattle.events.specs.Writing.{fields_of}
use Rattle.std.proofs.Common.{rules}
use Rattle.events.specs.Fits.{EventFits}

-- what the code tests of it: peers and messages
unfoldable pub Small : Event → Type 0
Small Skip = Unit {0}
Small (Produce p m) = (p.0 < 32) × (m.0 < 64)
Small (Forward p m) = (p.0 < 32) × (m.0 < 64)
Small (Subscribe p t) = p.0 < 32
Small (Unsubscribe p t) = p.0 < 32
Small (Leave p) = p.0 < 32
Small (Join p j) = p.0 < 32

-- the three words of a record are below 2 ^ 32
pub record WordsFit (f : Fields) : Type 0 where
  pub subs : f.subs < 2 ^ 32
  pub pubs : f.pubs < 2 ^ 32
  pub neighbours : f.neighbours < 2 ^ 32

-- an event whose peer and message are small, and whose fields' words fit, fits
pub small_fits : (e : Event) → Small e → WordsFit (fields_of e) → EventFits e
unfolding Small EventFits fields_of
small_fits Skip s w = tt
small_fits (Produce p m) s w = s
small_fits (Forward p m) s w = s
small_fits (Subscribe p t) s w = (s, w.subs)
small_fits (Unsubscribe p t) s w = (s, w.subs)
small_fits (Leave p) s w = s
small_fits (Join p j) s w = (s, w.subs, w.pubs, w.neighbours)

-- the words of an event that fits, fit
pub fits_words : (e : Event) → EventFits e → WordsFit (fields_of e)
unfolding EventFits fields_of
fits_words Skip h = search rules
fits_words (Produce p m) h = search rules
fits_words (Forward p m) h = search rules
fits_words (Subscribe p t) h = search rules
fits_words (Unsubscribe p t) h = search rules
fits_words (Leave p) h = search rules
fits_words (Join p j) h = search rules
