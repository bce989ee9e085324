-- The objects and booleans of a document, in the order of its text, outer ones first: each counts
-- as a schema when validators are made for all of them. (section 4.3 of Core 2020-12, sections 3
-- and 4 of RFC 6901)
use Rattle.std.specs.Prelude.{List, None, Option, Some, [], ℕ, ◌+◌, ◌++◌, ◌<◌, ◌∷◌, ◌^◌}
use Rattle.serde_json.specs.Data.{Data, Items, Members, array, boolean, item, member, no_items, no_members, null, number, object, string}
use Rattle.theory_definitions.specs.Instance.{Place, to_item, to_member}
use Rattle.schema_keys.specs.Compiling.{Each}

abbrev mutual
  -- those in the value at a path
  pub schemas_in : Place → Data → List Place
  schemas_in p null = []
  schemas_in p (boolean b) = p ∷ []
  schemas_in p (number n) = []
  schemas_in p (string s) = []
  schemas_in p (array ds) = schemas_in_items p 0 ds
  schemas_in p (object ms) = p ∷ schemas_in_members p ms

  pub schemas_in_items : Place → ℕ → Items → List Place
  schemas_in_items p n no_items = []
  schemas_in_items p n (item d ds) = schemas_in (p ++ to_item n ∷ []) d ++ schemas_in_items p (n + 1) ds

  pub schemas_in_members : Place → Members → List Place
  schemas_in_members p no_members = []
  schemas_in_members p (member k d ms) = schemas_in (p ++ to_member k ∷ []) d ++ schemas_in_members p ms

-- those in a document; a missing document has none
abbrev pub schemas_of : Option Data → List Place
schemas_of None = []
schemas_of (Some d) = schemas_in [] d

-- the item indices in a place fit 64 bits, as those of a list in memory do
abbrev pub IndicesFit : Place → Type 0
IndicesFit [] = Unit {0}
IndicesFit (to_item n ∷ p) = (n < 2 ^ 64) × IndicesFit p
IndicesFit (s ∷ p) = IndicesFit p

-- if the indices fit in this place and in each old one, they fit in each new one
abbrev pub StaysFit : Place → List Place → List Place → Type 0
StaysFit p old new = IndicesFit p → Each IndicesFit old → Each IndicesFit new
