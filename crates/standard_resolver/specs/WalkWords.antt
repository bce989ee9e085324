-- What the walk through a document visits, by what the code is given.
use Rattle.std.specs.List.{filter}
use Rattle.std.specs.Prelude.{Bool, List, Result, map, ℕ, ◌<◌}
use Rattle.std.specs.declared.alloc.Global.{Global}
use Rattle.std.specs.declared.vec.Vec.{Vec}
use Rattle.serde_json.specs.Data.{depth}
use Rattle.serde_json.specs.View.{view}
use Rattle.serde_json.specs.declared.value.Value.{Value}
use Rattle.theory_definitions.specs.Instance.{Place, Text}
use Rattle.schema_traits.specs.Showing.{Shows}
use Rattle.standard_subschemas.specs.declared.below.FoundSchema.{FoundSchema}
use Rattle.standard_resolver.specs.declared.dialects as code
use Rattle.standard_resolver.specs.declared.walk as walk
use Rattle.standard_resolver.specs.DialectViews.{dialect_of}
use Rattle.standard_resolver.specs.Dialects.{Reading}
use Rattle.standard_resolver.specs.DocumentResources.{Visited, visited_below}
use Rattle.standard_resolver.specs.DocumentShowing.{Appends}
use Rattle.standard_resolver.specs.DocumentViews.{path_over, visited_of}
use Rattle.standard_resolver.specs.ResourceSpeaking.{speaking}

-- a visited schema, at the end of a path that is continued from subschema to subschema
abbrev pub visited_over : Place → List FoundSchema → Text → code.Dialect.Dialect → Value → Visited
visited_over path way base dialect schema =
    record { path = path_over path way; base = base; dialect = dialect_of dialect; schema = view schema }

-- The schemas below a schema that have what the walk looks for are added.
abbrev pub AddsSpeaking : Reading → Bool → Place → Text → code.Dialect.Dialect → Value → List walk.Visited.Visited → List walk.Visited.Visited → Type 0
AddsSpeaking reading everywhere path base dialect schema old new = (n : ℕ) → depth (view schema) < n
    → Appends visited_of old new
    (filter (speaking reading.rule everywhere) (visited_below reading everywhere n path base (dialect_of dialect) (view schema)))

-- if the result is `Ok`, it lists these visited schemas
abbrev pub ListsVisited : {E : Type 0} → Result (Vec walk.Visited.Visited Global) E → List Visited → Type 0
ListsVisited result meant = Shows (λ v. map visited_of v.items) result meant
