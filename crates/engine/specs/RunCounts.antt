-- What a run counts (document 01): "Produced and forwards are the accepted events of those kinds". Assumes nothing.
use Rattle.std.specs.Prelude.{Some, None, Ok, Err, List, ℕ}
use Rattle.events.specs.declared.kind.Kind.{Kind}
use Rattle.events.specs.Kind.{kind_of}
use Rattle.events.specs.Event.{Read, read_at}

-- the kind of what stands at a place, Skip where there is no event
unfoldable pub kind_in : Read → Kind
kind_in (Some (Ok e)) = kind_of e
kind_in (Some (Err refusal)) = Kind.Skip
kind_in None = Kind.Skip

abbrev pub kind_at : List ℕ → ℕ → Kind
kind_at ev i = kind_in (read_at ev i)
