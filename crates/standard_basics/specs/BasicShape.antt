-- A keyword's shape: what is known of it apart from its representation.
use Rattle.std.specs.Prelude.{Bool, List, true, ℕ}
use Rattle.theory_definitions.specs.Instance.{Text}
use Rattle.schema_applicators.specs.ApplicatorShape.{ApplicatorShape}
use Rattle.schema_applicators.specs.ApplicatorShape as applicators
use Rattle.standard_basics.specs.declared.type_names.TypeName.{TypeName}
use Rattle.standard_basics.specs.declared.counts.CountKind.{CountKind}

pub data BasicShape : Type 0 where
  -- `type` with one name, and with a list of names
  has_type : TypeName → BasicShape
  has_types : List TypeName → BasicShape
  requires : List Text → BasicShape
  -- `properties`, with the names that have a schema
  has_properties : List Text → BasicShape
  -- a keyword that counts, with its limit
  has_count : CountKind → ℕ → BasicShape
  -- `pattern`, with its text
  has_pattern : Text → BasicShape
  -- `allOf`, `anyOf`, `oneOf`, `not`, `if`
  applies : ApplicatorShape → BasicShape
  -- the number of schemas
  has_prefix_items : ℕ → BasicShape
  -- the number of items that it skips
  has_items : ℕ → BasicShape
  has_property_names : BasicShape

-- whether none of its texts shows a fraction that the schema contains
abbrev pub is_whole : BasicShape → Bool
is_whole (applies a) = applicators.is_whole a
is_whole _ = true

-- whether the keyword declares itself monotone
abbrev pub says_monotone : BasicShape → Bool
says_monotone (applies a) = applicators.says_monotone a
says_monotone _ = true
