-- What a check reports about its documents.
use Rattle.std.specs.Prelude.{Bool, List, Option, String, if◌then◌else◌, is_some, map, suc, ℕ, ◌++◌, ◌<◌, ◌≡◌}
use Rattle.std.proofs.Common.{Bor}
use Rattle.std.specs.declared.alloc.Global.{Global}
use Rattle.serde_json.specs.Data.{Data, Items, Members, depth, no_members, object}
use Rattle.serde_json.specs.View.{items_view, members_view, view}
use Rattle.serde_json.specs.declared.value.Value.{Value}
use Rattle.theory_definitions.specs.Drafts as spec
use Rattle.theory_definitions.specs.Parts.{Parts}
use Rattle.theory_definitions.specs.Plan.{schema_at}
use Rattle.theory_definitions.specs.Reports as reports
use Rattle.theory_meaning.specs.Documents as documents
use Rattle.theory_meaning.specs.Documents.{is_cut, masked, masked_items, masked_members}
use Rattle.schema_reports.specs.Owned.{prefixed}
use Rattle.schema_reports.specs.ReportViews.{owned_error_of}
use Rattle.schema_reports.specs.declared.reports.OwnedError.{OwnedError}
use Rattle.schema_drafts.specs.KeywordViews.{draft_of}
use Rattle.schema_drafts.specs.declared.keywords.drafts.Draft.{Draft}
use Rattle.schema_traits.specs.ResolverViews.{place_of}
use Rattle.schema_traits.specs.declared.meta.MetaValidators.{Ghosts as MetaMembers}
use Rattle.schema_traits.specs.declared.resolver.Resolver.{Ghosts as ResolverMembers}
use Rattle.schema_traits.specs.declared.schema_place.SchemaPlace.{SchemaPlace}
use Rattle.schema_keys.specs.Checking.{EachAccepted, RefusesOne, location_from, own_document}
use Rattle.schema_keys.specs.Compiling.{resolving_parts}
use Rattle.schema_keys.specs.CutViews.{cut_of}
use Rattle.schema_keys.specs.Readings.{read_value}
use Rattle.schema_keys.specs.declared.check.SchemaCheck.{SchemaCheck}
use Rattle.schema_keys.specs.declared.check.embedded.Cut.{Cut}
use Rattle.schema_keys.specs.declared.error.BuildError.{BuildError}

-- an error of the document at a place, relative to the root of the check
abbrev pub located : {A V : Type 0} → SchemaCheck A V → SchemaPlace → OwnedError → reports.OwnedError
located c place error = prefixed (location_from (place_of c.root.now) (place_of place)) (owned_error_of error)

module _ {A P S V : Type 0} (r : ResolverMembers A P S) (c : SchemaCheck A V) where
  -- the results of its resolver, as parts
  abbrev pub parts_asked : Parts S (Unit {0}) (Unit {0})
  parts_asked = resolving_parts (r.resolving c.resolver.now)

  -- the draft of a schema in a schema of this draft
  abbrev pub own_draft : Draft → Option (Bor Value) → spec.Draft
  own_draft draft value = (r.resolving c.resolver.now).detect (draft_of draft) (read_value value)

  -- whether a schema has an identifier in this draft
  abbrev pub has_identifier : Draft → Option (Bor Value) → Bool
  has_identifier draft value = is_some ((r.resolving c.resolver.now).id (draft_of draft) (read_value value))

  -- whether a schema is an embedded resource, given the drafts of the document, of the schema
  -- around it, and of the schema itself
  abbrev pub is_own_resource : Draft → Draft → Draft → Option (Bor Value) → Bool
  is_own_resource document around own value = documents.embedded parts_asked (draft_of document) (draft_of around) (draft_of own) (read_value value)

  -- how deep the value at a place is
  abbrev pub depth_at : SchemaPlace → ℕ
  depth_at place = depth (schema_at parts_asked (place_of place))

  -- a place is one of the cuts
  abbrev pub is_cut_out : List Cut → SchemaPlace → Bool
  is_cut_out cuts place = is_cut parts_asked (map cut_of cuts) (place_of place)

  -- the value at a place, with `{}` at the cuts
  abbrev pub masked_at : List Cut → SchemaPlace → Value → Data
  masked_at cuts place value = masked parts_asked (map cut_of cuts) (place_of place) (view value)

  -- the same, but `{}` if the place itself is one of the cuts
  abbrev pub masked_below_at : List Cut → SchemaPlace → Value → Data
  masked_below_at cuts place value = if is_cut_out cuts place then object no_members else masked_at cuts place value

  -- the same for the items of an array there, and for the members of an object
  abbrev pub masked_items_at : List Cut → SchemaPlace → List Value → Items
  masked_items_at cuts place items = masked_items parts_asked (map cut_of cuts) (place_of place) 0 (items_view items)

  abbrev pub masked_members_at : List Cut → SchemaPlace → List (String Global × Value) → Members
  masked_members_at cuts place members = masked_members parts_asked (map cut_of cuts) (place_of place) (members_view members)

  -- the outermost cuts of a document, this many levels below a schema of this draft at a place
  abbrev pub cuts_at : ℕ → Draft → Draft → SchemaPlace → List documents.Cut
  cuts_at n document draft place = documents.cuts parts_asked n (draft_of document) (draft_of draft) (place_of place)

  -- all of these cuts
  abbrev pub all_cuts_at : Draft → SchemaPlace → List documents.Cut
  all_cuts_at draft place = cuts_at (suc (depth_at place)) draft draft place

  -- the cuts are added to a list: those down to any level that is deep enough
  abbrev pub AddsCuts : Draft → Draft → SchemaPlace → List Cut → List Cut → Type 0
  AddsCuts document draft place old new = (n : ℕ) → depth_at place < n → map cut_of new ≡ map cut_of old ++ cuts_at n document draft place

  module _ (m : MetaMembers V) (draft : Draft) (place : SchemaPlace) where
    -- the document at a place, without its cuts, is accepted
    abbrev pub AcceptsOwn : List Cut → Type 0
    AcceptsOwn cuts = EachAccepted parts_asked (m.checked c.metas.now) (own_document parts_asked (map cut_of cuts) (draft_of draft) (place_of place))

    -- the document at a place, without its cuts, is refused with this error
    abbrev pub RefusesOwn : List Cut → BuildError → Type 0
    RefusesOwn cuts = RefusesOne parts_asked (m.checked c.metas.now) (place_of c.root.now) (own_document parts_asked (map cut_of cuts) (draft_of draft) (place_of place))

    -- each document at and below a place is accepted
    abbrev pub AcceptsAll : Type 0
    AcceptsAll = (n : ℕ) → depth_at place < n → EachAccepted parts_asked (m.checked c.metas.now) (documents.documents parts_asked n (draft_of draft) (place_of place))

    -- the first document that is not accepted is refused with this error
    abbrev pub RefusesFirst : BuildError → Type 0
    RefusesFirst e = (n : ℕ) → depth_at place < n → RefusesOne parts_asked (m.checked c.metas.now) (place_of c.root.now) (documents.documents parts_asked n (draft_of draft) (place_of place)) e
