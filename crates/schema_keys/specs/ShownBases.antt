-- The URI of absolute locations in a schema's resource.
use Rattle.std.specs.List.{starts_with}
use Rattle.std.specs.Prelude.{None, Option, Some, codes, if◌then◌else◌, ◌==◌}
use Rattle.theory_definitions.specs.Instance.{Text}
use Rattle.theory_definitions.specs.Parts.{Parts}
use Rattle.theory_definitions.specs.Plan.{Key, without_fragment}

module _ {S K R : Type 0} (w : Parts S K R) where
  -- the URI of absolute locations; a base with the scheme `json-schema` has none
  abbrev pub shown_base : Key S → Option Text
  shown_base k = if starts_with (λ x y. x == y) (w.resolver.base_uri k.target.state) (codes "json-schema:") then None else Some (without_fragment (w.resolver.base_uri k.target.state))
