-- Drafts that are named inside a value, at any depth.
use Rattle.std.specs.Prelude.{Bool, codes, false, is_some, ◌||◌}
use Rattle.serde_json.specs.Data.{Data, Items, Members, array, boolean, item, member, no_items, no_members, null, number, object, string}
use Rattle.standard_subschemas.specs.SubschemaRules.{text_member}

-- whether a value inside this one names a draft; for items and members, whether one of them or a
-- value inside one does
abbrev mutual
  pub names_draft_inside : Data → Bool
  names_draft_inside null = false
  names_draft_inside (boolean b) = false
  names_draft_inside (number n) = false
  names_draft_inside (string s) = false
  names_draft_inside (array ds) = items_name_draft ds
  names_draft_inside (object ms) = members_name_draft ms

  pub items_name_draft : Items → Bool
  items_name_draft no_items = false
  items_name_draft (item d ds) = (is_some (text_member (codes "$schema") d) || names_draft_inside d) || items_name_draft ds

  pub members_name_draft : Members → Bool
  members_name_draft no_members = false
  members_name_draft (member k d ms) = (is_some (text_member (codes "$schema") d) || names_draft_inside d) || members_name_draft ms
