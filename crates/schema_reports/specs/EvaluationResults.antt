-- The result of an evaluation in terms of the definitions, and the results that its constructors
-- and its two changes (annotations, one more error) produce.
use Rattle.std.specs.List.{list_all}
use Rattle.std.specs.Prelude.{Bool, List, None, Some, [], ◌++◌, ◌∷◌, false, map, option_map, string_bytes, true}
use Rattle.serde_json.specs.Data.{Data}
use Rattle.serde_json.specs.View.{view}
use Rattle.theory_definitions.specs.Reports.{Described, Unit_, report_of}
use Rattle.theory_definitions.specs.Keywords.{Gives, Named}
use Rattle.schema_reports.specs.UnitViews.{described_of, unit_of}
use Rattle.schema_reports.specs.declared.evaluation_result.AbsorbedResult.{AbsorbedResult}
use Rattle.schema_reports.specs.declared.evaluation_result.EvaluationResult.{EvaluationResult}
use Rattle.schema_reports.specs.declared.evaluation_result.EvaluationResult.TheVariants as result

-- a keyword's own result, without those of the keywords that it absorbs
abbrev pub gives_of : Bool → EvaluationResult → Gives
gives_of texts (result.Valid annotations children) = record {
  valid = true;
  children = map (unit_of texts) children;
  annotations = option_map view annotations;
  errors = [];
  absorbed = [];
}
gives_of texts (result.Invalid errors annotations children) = record {
  valid = false;
  children = map (unit_of texts) children;
  annotations = option_map view annotations;
  errors = map (described_of texts) errors.items;
  absorbed = [];
}

-- the result of an absorbed keyword, with its name
abbrev pub named_of : Bool → AbsorbedResult → Named
named_of texts a = let g = gives_of texts a.result in
    record { name = string_bytes a.keyword; valid = g.valid; children = g.children; annotations = g.annotations; errors = g.errors }

-- a keyword's result, together with those of the keywords that it absorbs
abbrev pub gives_with : Bool → EvaluationResult → List AbsorbedResult → Gives
gives_with texts r absorbed = record (gives_of texts r) { absorbed = map (named_of texts) absorbed }

-- a result of these units alone, valid exactly if each of them is
abbrev pub of_units : List Unit_ → Gives
of_units us = record { valid = list_all (λ u. (report_of u).valid) us; children = us; annotations = None; errors = []; absorbed = [] }

-- an invalid result of these errors alone
abbrev pub refusing : List Described → Gives
refusing ds = record { valid = false; children = []; annotations = None; errors = ds; absorbed = [] }

-- a result with these annotations in place of its own
abbrev pub annotated : Data → Gives → Gives
annotated a g = record g { annotations = Some a }

-- a result with one more error, which makes it invalid
abbrev pub errored : Described → Gives → Gives
errored d g = record g { valid = false; errors = g.errors ++ d ∷ [] }
