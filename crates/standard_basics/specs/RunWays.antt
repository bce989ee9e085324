-- How a run evaluates an instance: the way that it takes, and the numbered questions that it asks.
use Rattle.std.specs.Prelude.{Bool, List, Option, Some, String, map, string_bytes, ℕ}
use Rattle.std.specs.declared.alloc.Global.{Global}
use Rattle.theory_definitions.specs.Instance.{Subject, Text, to_member}
use Rattle.theory_definitions.specs.Keywords.{Question, down}
use Rattle.schema_reports.specs.InstanceViews.{subject_of}
use Rattle.schema_reports.specs.declared.instance.Instance.{Instance}
use Rattle.keyword_authoring.specs.Members.{members_from}
use Rattle.keyword_authoring.specs.Ways.{Way}
use Rattle.standard_basics.specs.BasicShape.{BasicShape, has_properties, has_property_names}
use Rattle.standard_basics.specs.Words.{held_way, name_asked, pattern_way, way}

-- ---- ways

-- the way of a keyword with this shape
abbrev pub as_shape : BasicShape → Bool → Subject → Way
as_shape m texts s = way texts m s

-- the way of a run that holds these names
abbrev pub holding : List Text → BasicShape → Bool → Subject → Way
holding names m texts s = held_way texts names m s

-- the way of `properties` with schemas for these names, given how they are texts
abbrev pub on_members : {X : Type 0} → (X → Text) → List X → Bool → Subject → Way
on_members text_of names = as_shape (has_properties (map text_of names))

-- the way of a run of `propertyNames` that holds these names
abbrev pub on_names : List (String Global) → Bool → Subject → Way
on_names names = holding (map string_bytes names) has_property_names

-- the way of a pattern that is matched against this text
abbrev pub to_match : Text → Text → Bool → Subject → Way
to_match pattern text texts s = pattern_way texts pattern s (Some text)

-- ---- questions

-- the question that evaluates a child at the member with this name
abbrev pub member_asked : ℕ → Text → Question
member_asked child name = record { child = child; below = down (to_member name) }

-- for each name, the question at the instance's member, if that is present
abbrev pub at_members : {X : Type 0} → (X → Text) → List X → Instance → List (Option Question)
at_members text_of names instance = members_from 0 (map text_of names) (subject_of instance)

-- for each name, the question at the name itself, if a member has it
abbrev pub at_names : List (String Global) → Instance → List (Option Question)
at_names names instance = map (name_asked (subject_of instance)) (map string_bytes names)
