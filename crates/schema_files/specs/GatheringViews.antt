-- The code's documents and files as values of the definitions.
use Rattle.std.specs.Prelude.{Err, List, Ok, OnOk, Result, String, [], flat_map, map, string_bytes, ◌++◌, ◌≡◌}
use Rattle.std.specs.List.{AllByRecursion}
use Rattle.std.specs.declared.alloc.Global.{Global}
use Rattle.std.specs.declared.vec.Vec.{Vec}
use Rattle.serde_json.specs.View.{view}
use Rattle.serde_json.specs.declared.value.Value.{Value}
use Rattle.theory_definitions.specs.Drafts.{Draft}
use Rattle.theory_definitions.specs.Instance.{Text}
use Rattle.schema_files.specs.Gathering as spec
use Rattle.schema_files.specs.References.{Reference, document_references}
use Rattle.schema_files.specs.declared.gathering.LinkedFile.{LinkedFile}
use Rattle.schema_files.specs.declared.gathering.Supplied.{Supplied}

abbrev pub supplied_of : Supplied → spec.Supplied
supplied_of s = record { uri = s.uri.now; value = view s.value.now }

abbrev pub uri_of : LinkedFile → Text
uri_of f = string_bytes f.uri

-- if the result is `Ok` and the old files are new, then so are the new ones
abbrev pub KeepsNew : {A E : Type 0} → Result A E → List Text → Vec LinkedFile Global → Vec LinkedFile Global → Type 0
KeepsNew result taken old new = OnOk result (spec.AreNew taken (map uri_of old.items) → spec.AreNew taken (map uri_of new.items))

abbrev pub content_references : Text → Draft → Result Value (String Global) → List Reference
content_references uri draft (Ok value) = document_references uri draft (view value)
content_references uri draft (Err why) = []

-- the references in a file; one that has no value has none
abbrev pub file_references : Draft → LinkedFile → List Reference
file_references draft f = content_references (uri_of f) draft f.content

-- each of the references that leads to a file leads to a URI that is taken, or to one of the files
abbrev pub Lead : List Text → List LinkedFile → List Reference → Type 0
Lead taken files rs = AllByRecursion (spec.LeadsAmong (taken ++ map uri_of files)) rs

-- files were added, and the references lead to what is known then
pub record Follows (taken : List Text) (old new : List LinkedFile) (rs : List Reference) : Type 0 where
  pub more : List LinkedFile
  pub grows : new ≡ old ++ more
  pub lead : Lead taken new rs

-- the references in the documents at hand, and those in the files, lead to what is taken, or to one
-- of the files
pub record LeadOn (taken : List Text) (draft : Draft) (supplied : List spec.Supplied) (files : List LinkedFile) : Type 0 where
  pub documents : Lead taken files (flat_map (spec.supplied_references draft) supplied)
  pub files_too : Lead taken files (flat_map (file_references draft) files)
