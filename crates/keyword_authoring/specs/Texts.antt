-- Instances that are texts, and a text among others.
use Rattle.std.specs.List.{list_any}
use Rattle.std.specs.Prelude.{Bool, List, Option, Some, bytes_eq}
use Rattle.serde_json.specs.Find.{as_str}
use Rattle.theory_definitions.specs.Instance.{Subject, Text, a_name, a_value}

-- the name of a member is a text too
abbrev pub as_text : Subject → Option Text
as_text (a_value d) = as_str d
as_text (a_name k) = Some k

abbrev pub is_among : List Text → Text → Bool
is_among names name = list_any (λ k. bytes_eq name k) names
