-- The fault of a refused schema is real if a cause of it is, or if the meta validators refuse one
-- of its documents.
use Rattle.std.proofs.Common.{List, refl}
use Rattle.theory_definitions.specs.Instance.{Text}
use Rattle.schema_keys.specs.declared.error.BuildError.{BuildError}
use Rattle.schema_keys.specs.declared.error.BuildError.TheVariants.{KeywordRefused, Lookup, MetaSchema, MissingRoot, NodeLimit, NotASchema, OutOfMemory, ReferenceNotText, UnsupportedVocabulary}
use Rattle.bench_program.specs.ProgramFaults.{FaultStands, fault_of}
use Rattle.bench_program.specs.ProgramMeaning.{Asked, IsRefused}

pub build_fault : (ts : List Text) (asked : Asked ts) (e : BuildError) → IsRefused asked e → FaultStands ts (fault_of e)
build_fault ts asked (NotASchema location) stands = (asked, NotASchema location, refl, stands)
build_fault ts asked (ReferenceNotText location) stands = (asked, ReferenceNotText location, refl, stands)
build_fault ts asked (Lookup text) stands = (asked, Lookup text, refl, stands)
build_fault ts asked (KeywordRefused error) stands = (asked, KeywordRefused error, refl, stands)
build_fault ts asked (UnsupportedVocabulary uri) stands = (asked, UnsupportedVocabulary uri, refl, stands)
build_fault ts asked (MetaSchema error) stands = (asked, MetaSchema error, refl, stands)
build_fault ts asked (MissingRoot uri) stands = (asked, MissingRoot uri, refl, stands)
build_fault ts asked (NodeLimit limit) stands = (asked, NodeLimit limit, refl, stands)
build_fault ts asked OutOfMemory stands = tt
