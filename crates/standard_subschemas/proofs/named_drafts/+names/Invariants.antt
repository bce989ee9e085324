use Rattle.std.proofs.Common.{◌≡◌, ◌&&◌, ◌||◌, codes, drop, is_some}
use Rattle.serde_json.specs.Data.{object}
use Rattle.serde_json.specs.View.{items_view, members_view}
use Rattle.standard_subschemas.specs.SubschemaRules.{text_member}
use Rattle.standard_subschemas.specs.NamedDrafts.{items_name_draft, members_name_draft}
use Rattle.standard_subschemas.proofs.named_drafts.+names.Given as goal

abbrev pub invariant-items_name_draft-loop-item : goal.invariant-items_name_draft-loop-item
invariant-items_name_draft-loop-item l = items_name_draft (items_view l.items.items) ≡ items_name_draft (items_view (drop l.item-index l.item-items))

abbrev pub invariant-members_name_draft-loop-name : goal.invariant-members_name_draft-loop-name
invariant-members_name_draft-loop-name l =
    (l.fn.counts && is_some (text_member (codes "$schema") (object (members_view l.members.entries))) || members_name_draft (members_view l.members.entries))
    ≡ (l.asked && is_some (text_member (codes "$schema") (object (members_view l.name-iterator))) || members_name_draft (members_view l.name-iterator))
