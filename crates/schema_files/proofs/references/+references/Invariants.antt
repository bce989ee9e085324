use Rattle.std.proofs.Common.{map}
use Rattle.schema_drafts.specs.KeywordViews.{draft_of}
use Rattle.schema_files.specs.ReferenceViews.{reference_of}
use Rattle.schema_files.proofs.Listing.{OverItems, OverMembers}
use Rattle.schema_files.proofs.references.+references.Given as goal

abbrev pub invariant-add_items-loop-index : goal.invariant-add_items-loop-index
invariant-add_items-loop-index l = OverItems l.base (draft_of l.draft) l.path (map reference_of l.initial.found.items)
    (map reference_of l.found.items) l.items.items l.item-items l.index

abbrev pub invariant-add_members-loop-name : goal.invariant-add_members-loop-name
invariant-add_members-loop-name l = OverMembers l.base (draft_of l.draft) l.path (map reference_of l.initial.found.items)
    (map reference_of l.found.items) l.members.entries l.name-iterator
