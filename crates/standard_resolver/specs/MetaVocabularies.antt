-- The vocabularies that supplied meta-schemas put in force, document by document. (Core 2020-12,
-- section 8.1.2)
use Rattle.std.specs.Prelude.{List, Option, [], ◌∷◌}
use Rattle.serde_json.specs.Data.{Data}
use Rattle.theory_definitions.specs.Drafts.{Draft, Vocabularies}
use Rattle.standard_subschemas.specs.declared.rules.Rule.{Rule}
use Rattle.standard_subschemas.specs.declared.rules.Rule.TheVariants.{Narrow, Standard}
use Rattle.standard_dialects.specs.ListedVocabularies.{HoldSameIf, listed}
use Rattle.standard_resolver.specs.Dialects.{Reading, draft_named, named_or, schema_of}
use Rattle.standard_resolver.specs.ResolverDocuments.{Document}

-- the draft of a document as a meta-schema
abbrev pub draft_as_meta : Reading → Data → Draft
draft_as_meta reading v = named_or (draft_named reading) reading.default_draft (schema_of v)

-- the vocabularies that a document puts in force as a meta-schema
abbrev pub listed_from : Reading → Data → Option Vocabularies
listed_from reading v = listed (draft_as_meta reading v) v

-- these are, in their order, the vocabularies that the documents put in force
abbrev pub AreListedEach : Reading → List Document → List (Option Vocabularies) → Type 0
AreListedEach reading [] [] = Unit {0}
AreListedEach reading (d ∷ ds) (vs ∷ lists) = HoldSameIf vs (listed_from reading d.value) × AreListedEach reading ds lists
AreListedEach reading _ _ = ⊥

-- by the narrow rule nothing is listed
abbrev pub AreListedBy : Rule → Reading → List Document → List (Option Vocabularies) → Type 0
AreListedBy Narrow reading documents [] = Unit {0}
AreListedBy Narrow reading documents (vs ∷ lists) = ⊥
AreListedBy Standard reading documents lists = AreListedEach reading documents lists

abbrev pub AreListed : Reading → List Document → List (Option Vocabularies) → Type 0
AreListed reading documents lists = AreListedBy reading.rule reading documents lists
