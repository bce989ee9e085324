-- The edges of the code as edges of the definitions.
use Rattle.theory_definitions.specs.Guarded as spec
use Rattle.schema_traits.specs.declared.numbers.Edge.{Edge}

abbrev pub edge_of : Edge → spec.NodeEdge
edge_of e = record { node = e.node.0; path = e.path; guarded = e.guarded }
