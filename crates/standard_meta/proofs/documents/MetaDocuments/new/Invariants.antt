use Rattle.std.proofs.Common.{◌≡◌, ◌++◌, drop, map}
use Rattle.schema_drafts.specs.KeywordViews.{draft_of}
use Rattle.standard_meta.specs.MetaDocuments.{given_of, read_of, reading_of, texts_of_each}
use Rattle.standard_meta.proofs.documents.MetaDocuments.new.Given as goal

-- the texts of the drafts that are left come behind those that were read
abbrev pub invariant-loop-draft : goal.invariant-loop-draft
invariant-loop-draft l = map reading_of (texts_of_each (map draft_of l.draft-items))
    ≡ map read_of (map given_of l.documents.items) ++ map reading_of (texts_of_each (map draft_of (drop l.draft-index l.draft-items)))
