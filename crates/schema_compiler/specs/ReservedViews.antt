-- Reserved numbers as data.
use Rattle.std.specs.Prelude.{List, MatchOption, None, Option, Some, String, string_bytes, ℕ, ◌≡◌}
use Rattle.std.specs.declared.alloc.Global.{Global}
use Rattle.theory_definitions.specs.Drafts.{SchemaPlace}
use Rattle.theory_definitions.specs.Making.{Purpose}
use Rattle.schema_traits.specs.declared.numbers.PendingSchemaNode.{PendingSchemaNode}
use Rattle.schema_traits.specs.declared.schema_place.SchemaPlace as code
use Rattle.schema_traits.specs.declared.table.MakerReply.{MakerReply}
use Rattle.schema_traits.specs.declared.table.MakerReply.TheVariants as reply
use Rattle.schema_traits.specs.declared.table.PendingKind.{PendingKind}
use Rattle.schema_traits.specs.MakerViews.{purpose_of}
use Rattle.schema_traits.specs.ResolverViews.{place_of}
use Rattle.schema_compiler.specs.Reserving as spec
use Rattle.schema_compiler.specs.declared.compiler.reservations.ReservedNode.{ReservedNode}
use Rattle.schema_compiler.specs.declared.compiler.reservations.ReservedNode.TheVariants as node
use Rattle.schema_compiler.specs.declared.compiler.reservations.Reservation.{Reservation}

abbrev pub node_of : ReservedNode → spec.ReservedNode
node_of node.InForce = spec.in_force
node_of node.OfItsKeyword = spec.of_its_keyword
node_of node.OfNoEntry = spec.of_no_entry

abbrev pub reserved_of : Reservation → spec.Reserved
reserved_of r = record { purpose = purpose_of r.kind; object = place_of r.object; keyword = string_bytes r.keyword; node = node_of r.node }

-- the reservation that a maker begins
abbrev pub reserved_by : PendingKind → code.SchemaPlace → String Global → spec.Reserved
reserved_by kind object keyword = record { purpose = purpose_of kind; object = place_of object; keyword = string_bytes keyword; node = spec.in_force }

-- the pending number is found, or there is none
abbrev pub FindsPending : List spec.Reserved → Purpose → SchemaPlace → Option PendingSchemaNode → Type 0
FindsPending rs purpose object o = MatchOption o (spec.NonePending rs purpose object) (λ n. spec.IsPending rs purpose object n.0)

-- the reply is the pending number, or that there is none
abbrev pub TellsPending : List spec.Reserved → Purpose → SchemaPlace → MakerReply → Type 0
TellsPending rs purpose object (reply.Pending None) = spec.NonePending rs purpose object
TellsPending rs purpose object (reply.Pending (Some n)) = spec.IsPending rs purpose object n.0
TellsPending rs purpose object _ = ⊥

-- the reply is that this number was reserved
abbrev pub TellsReserved : ℕ → MakerReply → Type 0
TellsReserved number (reply.Reserved n) = n.0 ≡ number
TellsReserved number _ = ⊥
