use Rattle.std.proofs.Common.{◌∙◌, rules, tests}
use Rattle.std.specs.Prelude.{bytes_eq, string_bytes}
use Rattle.std.proofs.lemmas.Iterator.{YieldsList-from_slice}
use Rattle.std.proofs.lemmas.Iterator.Search.{any_from_yields_List}
use Rattle.schema_keys.proofs.CustomVocabularies.{any_mapped}
use Rattle.schema_compiler.proofs.compiler.vocabularies.is_declared.Goals as goal

pub returns : goal.returns
returns c =
    let found = any_from_yields_List (λ s. bytes_eq c.args.uri.now (string_bytes s)) _ _ c.any.result c.any.ensures.ran (YieldsList-from_slice c.args.declared.now cc) (λ x b q k. search (rules, tests)) in
    record { declared = found ∙ any_mapped (bytes_eq c.args.uri.now) string_bytes c.args.declared.now }
