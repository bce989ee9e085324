-- A resolver defines what references and identifiers lead to. (Core 2020-12, 8.2 and 9.1; RFC 3986,
-- 5)
use Rattle.std.specs.Prelude.{Bool, List, Option, Result}
use Rattle.serde_json.specs.Data.{Data}
use Rattle.theory_definitions.specs.Instance.{Text}
use Rattle.theory_definitions.specs.Drafts.{Draft, SchemaPlace, Vocabularies}

-- The target of a reference: its place, the state of the resolver there, and its draft.
pub record Found (S : Type 0) : Type 0 where
  pub place : SchemaPlace
  pub state : S
  pub draft : Draft

-- The place at which the document with a base URI begins, and the resolver state there.
pub record Entrance (S : Type 0) : Type 0 where
  pub place : SchemaPlace
  pub state : S

-- The functions of a resolver; `S` is the type of its states.
pub record Resolver (S : Type 0) : Type 0 where
  pub same_state : S → S → Bool
  pub value : SchemaPlace → Option Data
  pub root : Text → Option (Entrance S)
  pub lookup : S → Text → Bool → Result (Found S) Text
  pub lookup_recursive : S → Result (Found S) Text
  pub in_subresource : S → Draft → SchemaPlace → Result S Text
  pub resolve_uri : S → Text → Result Text Text
  pub base_uri : S → Text
  pub resource_root : S → SchemaPlace
  pub find_vocabularies : S → Draft → SchemaPlace → Vocabularies
  pub detect : Draft → Data → Draft
  pub draft_for : Data → Result Draft Text
  pub id : Draft → Data → Option Text
  pub subresources_of : Draft → SchemaPlace → List SchemaPlace
  pub is_known_keyword : Draft → Text → Bool
