-- The replies to a maker about reserved numbers, as its script requires.
use Rattle.std.proofs.Common.{◌≡◌, ℕ, ◌⊎◌, inl, inr, List, None, Some, refl}
use Rattle.theory_definitions.specs.Drafts.{SchemaPlace}
use Rattle.theory_definitions.specs.Making.{Purpose}
use Rattle.schema_traits.specs.MakerViews.{a_reserved, maker_reply_of, none_pending, one_pending}
use Rattle.schema_traits.specs.declared.table.MakerReply.{MakerReply}
use Rattle.schema_traits.specs.declared.table.MakerReply.TheVariants as reply
use Rattle.schema_compiler.specs.Reserving.{Reserved}
use Rattle.schema_compiler.specs.ReservedViews.{TellsPending, TellsReserved}

pub pending_told : (rs : List Reserved) (purpose : Purpose) (object : SchemaPlace) (r : MakerReply) → TellsPending rs purpose object r → (maker_reply_of r ≡ none_pending) ⊎ (maker_reply_of r ≡ one_pending)
pending_told rs purpose object (reply.Pending None) h = inl refl
pending_told rs purpose object (reply.Pending (Some n)) h = inr refl
pending_told rs purpose object reply.Begun h = absurd h
pending_told rs purpose object (reply.Child n) h = absurd h
pending_told rs purpose object reply.Skipped h = absurd h
pending_told rs purpose object (reply.Reserved n) h = absurd h

pub reserved_told : (number : ℕ) (r : MakerReply) → TellsReserved number r → maker_reply_of r ≡ a_reserved
reserved_told number (reply.Reserved n) h = refl
reserved_told number reply.Begun h = absurd h
reserved_told number (reply.Child n) h = absurd h
reserved_told number reply.Skipped h = absurd h
reserved_told number (reply.Pending p) h = absurd h
