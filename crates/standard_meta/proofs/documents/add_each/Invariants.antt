use Rattle.std.proofs.Common.{◌≡◌, ◌++◌, drop, map}
use Rattle.meta_schemas.specs.MetaTexts.{written}
use Rattle.standard_meta.specs.MetaDocuments.{given_of, read_of, reading_of}
use Rattle.standard_meta.proofs.documents.add_each.Given as goal

abbrev pub invariant-loop-schema : goal.invariant-loop-schema
invariant-loop-schema l = map read_of (map given_of l.initial.documents.items) ++ map reading_of (map written l.schemas)
    ≡ map read_of (map given_of l.documents.items) ++ map reading_of (map written (drop l.schema-index l.schemas))
