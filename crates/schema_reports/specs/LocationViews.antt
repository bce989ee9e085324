-- The segments that the code adds to a location. (section 3 of RFC 6901)
use Rattle.std.specs.Prelude.{◌∷◌, ℕ, decimal}
use Rattle.theory_definitions.specs.Instance.{Text}
use Rattle.theory_definitions.specs.Pointer.{escaped}
use Rattle.schema_reports.specs.declared.location.LocationSegment.{LocationSegment}
use Rattle.schema_reports.specs.declared.location.LocationSegment.TheVariants.{Property, Index}

-- a segment is a name or an index
pub data Segment : Type 0 where
  named : Text → Segment
  indexed : ℕ → Segment

abbrev pub segment_of : LocationSegment → Segment
segment_of (Property name) = named name.now
segment_of (Index n) = indexed n

abbrev pub segment_text : Segment → Text
segment_text (named name) = 47 ∷ escaped name
segment_text (indexed n) = 47 ∷ decimal n
