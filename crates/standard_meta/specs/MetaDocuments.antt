-- The meta-schemas as documents, each under its URI: each is what its text reads as. (Core 2020-12,
-- 8.1.1 and 8.1.2)
use Rattle.std.specs.Prelude.{List, OnOk, Option, Result, Some, [], map, ◌++◌, ◌∷◌, ◌≡◌}
use Rattle.std.specs.List.{flat_map}
use Rattle.std.specs.declared.alloc.Global.{Global}
use Rattle.std.specs.declared.vec.Vec.{Vec}
use Rattle.serde_json.specs.Data.{Data}
use Rattle.serde_json.specs.Read.{read}
use Rattle.serde_json.specs.View.{view}
use Rattle.theory_definitions.specs.Drafts.{Draft, draft_2019_09, draft_2020_12, draft_4, draft_6, draft_7}
use Rattle.theory_definitions.specs.Instance.{Text}
use Rattle.standard_resolver.specs.ResolverDocuments.{GivenDocument}
use Rattle.meta_schemas.specs.MetaTexts.{Written, texts_of}
use Rattle.standard_meta.specs.declared.documents.MetaDocument.{MetaDocument}

abbrev pub given_of : MetaDocument → GivenDocument
given_of d = record { uri = d.uri.now; value = d.value }

-- a URI, and the value under it, if its text is JSON
pub record Reading : Type 0 where
  pub uri : Text
  pub value : Option Data

-- what a text reads as
unfoldable pub reading_of : Written → Reading
reading_of t = record { uri = t.uri; value = read t.text }

-- a document is a text that was read
abbrev pub read_of : GivenDocument → Reading
read_of d = record { uri = d.uri; value = Some (view d.value) }

-- each document is what its text reads as, in this order
abbrev pub AreRead : List Written → List GivenDocument → Type 0
AreRead texts documents = map read_of documents ≡ map reading_of texts

-- if the result is `Ok`, what these texts read as was added
abbrev pub AddsRead : {E : Type 0} → Result (Unit {0}) E → Vec MetaDocument Global → Vec MetaDocument Global → List Written → Type 0
AddsRead result old new texts = OnOk result (map read_of (map given_of new.items) ≡ map read_of (map given_of old.items) ++ map reading_of texts)

-- the drafts, oldest first
abbrev pub known_drafts : List Draft
known_drafts = draft_4 ∷ draft_6 ∷ draft_7 ∷ draft_2019_09 ∷ draft_2020_12 ∷ []

-- the meta-schemas of these drafts, each before those of its vocabularies
unfoldable pub texts_of_each : List Draft → List Written
texts_of_each drafts = flat_map texts_of drafts
