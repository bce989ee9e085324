-- The references in a document to other documents. They stand at any depth, since a reference may
-- lead to a schema that no keyword holds.
use Rattle.std.specs.Prelude.{Bool, List, [], bytes_eq, codes, false, if◌then◌else◌, not, ℕ, ◌&&◌, ◌++◌, ◌+◌, ◌==◌, ◌||◌, ◌∷◌}
use Rattle.serde_json.specs.Data.{Data, Items, Members, array, boolean, item, member, no_items, no_members, null, number, object, string}
use Rattle.theory_definitions.specs.Drafts.{Draft}
use Rattle.theory_definitions.specs.Instance.{Place, Text, to_item, to_member}
use Rattle.uri_references.specs.Normal.{normalized, resolved_normally}
use Rattle.standard_subschemas.specs.DocumentUris.{base_inside}
use Rattle.standard_subschemas.specs.SubschemaRules.{detected, without_fragment}
use Rattle.standard_subschemas.specs.declared.rules.Rule.TheVariants.{Standard}

-- a reference: its place, and the URI of the document that it leads to
pub record Reference : Type 0 where
  pub path : Place
  pub uri : Text

-- a member of this name is a reference
abbrev pub is_reference : Text → Bool
is_reference name = bytes_eq name (codes "$ref") || bytes_eq name (codes "$dynamicRef") || bytes_eq name (codes "$recursiveRef")
    || bytes_eq name (codes "$schema")

-- a fragment alone leads into its own document (`#` is 35)
abbrev pub is_fragment : Text → Bool
is_fragment [] = false
is_fragment (c ∷ cs) = c == 35

-- the document that a reference leads to from a base
abbrev pub target_of : Text → Text → Text
target_of base reference = without_fragment (resolved_normally base reference)

-- the reference that a text under a name of the value at a path is, if it leads to another document
abbrev pub text_reference : Text → Place → Text → Text → List Reference
text_reference base path name t =
    if is_reference name && not (is_fragment t) then record { path = path ++ to_member name ∷ []; uri = target_of base t } ∷ [] else []

abbrev pub own_reference : Text → Place → Text → Data → List Reference
own_reference base path name (string t) = text_reference base path name t
own_reference base path name null = []
own_reference base path name (boolean b) = []
own_reference base path name (number n) = []
own_reference base path name (array ds) = []
own_reference base path name (object ms) = []

-- the references in the value at a path, given the base and the draft around it; in an object, its
-- own `$schema` and identifier count first
abbrev mutual
  pub references : Text → Draft → Place → Data → List Reference
  references base draft path null = []
  references base draft path (boolean b) = []
  references base draft path (number n) = []
  references base draft path (string t) = []
  references base draft path (array ds) = item_references base draft path 0 ds
  references base draft path (object ms) =
      member_references (base_inside Standard base (detected draft (object ms)) (object ms)) (detected draft (object ms)) path ms

  pub item_references : Text → Draft → Place → ℕ → Items → List Reference
  item_references base draft path i no_items = []
  item_references base draft path i (item d ds) =
      references base draft (path ++ to_item i ∷ []) d ++ item_references base draft path (i + 1) ds

  pub member_references : Text → Draft → Place → Members → List Reference
  member_references base draft path no_members = []
  member_references base draft path (member k d ms) =
      (own_reference base path k d ++ references base draft (path ++ to_member k ∷ []) d) ++ member_references base draft path ms

-- the references in a document that is supplied under a URI; the draft is that of a document that
-- does not name its own
abbrev pub document_references : Text → Draft → Data → List Reference
document_references uri draft document = references (normalized (without_fragment uri)) draft [] document
