use Rattle.std.proofs.Common.{◌∙◌, rules, tests}
use Rattle.std.proofs.lemmas.Iterator.{YieldsList-from_slice}
use Rattle.std.proofs.lemmas.Iterator.Search.{any_from_yields_List}
use Rattle.theory_definitions.specs.Instance.{same_place}
use Rattle.schema_keys.proofs.CustomVocabularies.{any_mapped}
use Rattle.schema_keys.specs.CutViews.{cut_of}
use Rattle.schema_keys.proofs.check.SchemaCheck.is_cut.Goals as goal

pub returns : goal.returns
returns g c =
    let found = any_from_yields_List (λ q. same_place q.place.path c.args.place.now.path) _ _ c.any.result c.any.ensures.ran (YieldsList-from_slice c.args.cuts.now cc) (λ x b q k. search (rules, tests)) in
    record { cut = found ∙ any_mapped (λ q. same_place q.place.path c.args.place.now.path) cut_of c.args.cuts.now }
