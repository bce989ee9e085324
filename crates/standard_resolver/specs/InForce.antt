-- The vocabularies in force in a resource: those that its meta-schema lists, or else those of its
-- draft. Only a meta-schema that is supplied counts, and only from 2019-09 on. If the resource is read
-- in another draft than its own, it has that draft's vocabularies. (Core 2020-12, sections 8.1.2 and
-- 9.3.2)
use Rattle.std.specs.Prelude.{Bool, List, None, Option, if◌then◌else◌, not, option_and_then, slice_get, unwrap_or, ◌&&◌}
use Rattle.theory_definitions.specs.Instance.{Text}
use Rattle.theory_definitions.specs.Drafts.{Draft, Vocabularies, ref_stands_alone, same_draft}
use Rattle.standard_dialects.specs.StandardDrafts.{standard_draft}
use Rattle.standard_resolver.specs.declared.vocabularies.DraftVocabularies.{DraftVocabularies}
use Rattle.standard_resolver.specs.Dialects.{Reading, is_unknown, meta_number}
use Rattle.standard_resolver.specs.ResolverDocuments.{vocabularies_in}
use Rattle.standard_resolver.specs.DocumentResources.{Resource, Table}
use Rattle.standard_resolver.specs.DocumentStates.{Point, resource_under}

-- the vocabularies that the meta-schema of a `$schema` lists, if it is a supplied one
abbrev pub listed_by : List (Option Vocabularies) → Reading → Text → Option Vocabularies
listed_by listed reading t = if is_unknown (standard_draft t)
    then option_and_then (λ vs. vs) (option_and_then (slice_get listed) (meta_number t reading.metas)) else None

-- whether a resource is read in its own draft, and this has vocabularies
abbrev pub is_own_late : Draft → Resource → Bool
is_own_late draft x = same_draft draft x.draft && not (ref_stands_alone draft)

-- the vocabularies that the meta-schema of a resource lists
abbrev pub listed_for : List (Option Vocabularies) → Reading → Draft → Resource → Option Vocabularies
listed_for listed reading draft x = if is_own_late draft x then option_and_then (listed_by listed reading) x.named else None

-- the vocabularies that are in force in a state and a draft
abbrev pub vocabularies_at : DraftVocabularies → List (Option Vocabularies) → Table → Point → Draft → Vocabularies
vocabularies_at sets listed table s draft =
    unwrap_or (option_and_then (listed_for listed table.reading draft) (resource_under table s.base)) (vocabularies_in draft sets)
