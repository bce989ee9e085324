-- The documents that are validated against meta-schemas. An embedded resource of another draft
-- counts as `{}` in the document around it, and is a document of its own. (Core 2020-12, 9.3.3 and
-- 8.1.1)
use Rattle.std.specs.List.{list_any}
use Rattle.std.specs.Prelude.{Bool, List, [], false, flat_map, if◌then◌else◌, is_some, not, suc, true, zero, ℕ, ◌&&◌, ◌++◌, ◌+◌, ◌||◌, ◌∷◌}
use Rattle.serde_json.specs.Data.{Data, Items, Members, array, boolean, depth, item, member, no_items, no_members, null, number, object, string}
use Rattle.theory_definitions.specs.Instance.{same_place, to_item, to_member}
use Rattle.theory_definitions.specs.Drafts.{Draft, SchemaPlace, draft_unknown, same_draft}
use Rattle.theory_definitions.specs.Parts.{Parts}
use Rattle.theory_definitions.specs.Plan.{schema_at}

-- A resource that is cut out of a document: its place and its own draft.
pub record Cut : Type 0 where
  pub place : SchemaPlace
  pub draft : Draft

module _ {S K R : Type 0} (w : Parts S K R) where
  -- The schema has another known draft than the document that contains it, and an identifier
  -- according to the draft around it or to its own.
  abbrev pub embedded : Draft → Draft → Draft → Data → Bool
  embedded document around own v =
      not (same_draft own document) && not (same_draft own draft_unknown) && (is_some (w.resolver.id around v) || is_some (w.resolver.id own v))

  -- The outermost embedded resources below a schema, at most h deep. `document` is the draft of the
  -- document, and `draft` that of the schema. Each subschema is read by the draft around it, and
  -- what lies below it by its own draft.
  abbrev pub cuts : ℕ → Draft → Draft → SchemaPlace → List Cut
  cuts zero document draft p = []
  cuts (suc h) document draft p = flat_map (λ q. let own = w.resolver.detect draft (schema_at w q) in
      elim (embedded document draft own (schema_at w q)) [ true ↦ record { place = q; draft = own } ∷ [] | false ↦ cuts h document own q ]) (w.resolver.subresources_of draft p)

  -- The place is one of the cuts.
  abbrev pub is_cut : List Cut → SchemaPlace → Bool
  is_cut qs p = list_any (λ q. same_place q.place.path p.path) qs

  -- The value at a place, with `{}` at the cuts.
  abbrev mutual
    pub masked : List Cut → SchemaPlace → Data → Data
    masked qs p null = null
    masked qs p (boolean b) = boolean b
    masked qs p (number n) = number n
    masked qs p (string s) = string s
    masked qs p (array ds) = array (masked_items qs p 0 ds)
    masked qs p (object ms) = object (masked_members qs p ms)

    pub masked_items : List Cut → SchemaPlace → ℕ → Items → Items
    masked_items qs p n no_items = no_items
    masked_items qs p n (item d ds) = let q = record p { path = p.path ++ to_item n ∷ [] } in
        item (if is_cut qs q then object no_members else masked qs q d) (masked_items qs p (n + 1) ds)

    pub masked_members : List Cut → SchemaPlace → Members → Members
    masked_members qs p no_members = no_members
    masked_members qs p (member k d ms) = let q = record p { path = p.path ++ to_member k ∷ [] } in
        member k (if is_cut qs q then object no_members else masked qs q d) (masked_members qs p ms)

  -- A document that is validated against the meta-schema of its draft.
  pub record Document : Type 0 where
    pub place : SchemaPlace
    pub draft : Draft
    pub value : Data

  -- The value is valid without a check: a boolean or an empty object.
  abbrev pub passes_unseen : Data → Bool
  passes_unseen (boolean b) = true
  passes_unseen (object no_members) = true
  passes_unseen _ = false

  -- The documents of a schema, with resources embedded at most h deep.
  abbrev pub documents : ℕ → Draft → SchemaPlace → List Document
  documents zero draft p = []
  documents (suc h) draft p = let qs = cuts (suc (depth (schema_at w p))) draft draft p in
      (if passes_unseen (schema_at w p) then [] else record { place = p; draft = draft; value = masked qs p (schema_at w p) } ∷ [])
      ++ flat_map (λ q. documents h q.draft q.place) qs

  -- All documents of a schema.
  abbrev pub checked : Draft → SchemaPlace → List Document
  checked draft p = documents (suc (depth (schema_at w p))) draft p
