-- The code's components and walks as values of the definitions.
use Rattle.std.specs.Prelude.{map, option_map, string_bytes}
use Rattle.uri_references.specs.Components as spec
use Rattle.uri_references.specs.Paths as paths
use Rattle.uri_references.specs.declared.components.Components.{Components}
use Rattle.uri_references.specs.declared.components.Found.{Found}
use Rattle.uri_references.specs.declared.paths.Walk.{Walk}

abbrev pub components_of : Components → spec.Components
components_of c = record {
  scheme = option_map (λ t. t.now) c.scheme;
  authority = option_map (λ t. t.now) c.authority;
  path = c.path.now;
  query = option_map (λ t. t.now) c.query;
  fragment = option_map (λ t. t.now) c.fragment;
}

abbrev pub found_of : Found → spec.Found
found_of f = record { component = option_map (λ t. t.now) f.component; left = f.left.now }

abbrev pub walk_of : Walk → paths.Walk
walk_of w = record { pieces = map string_bytes w.pieces.items; begun = w.begun; open_end = w.open_end }
