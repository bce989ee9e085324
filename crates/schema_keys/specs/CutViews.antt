-- The code's cuts, as the definitions have them.
use Rattle.theory_meaning.specs.Documents.{Cut}
use Rattle.schema_drafts.specs.KeywordViews.{draft_of}
use Rattle.schema_traits.specs.ResolverViews.{place_of}
use Rattle.schema_keys.specs.declared.check.embedded.Cut as code

abbrev pub cut_of : code.Cut → Cut
cut_of c = record { place = place_of c.place; draft = draft_of c.draft }
