-- The contents of a resolver that a call returns, if it returns one.
use Rattle.std.specs.Prelude.{IfOk, List, Option, Result, ◌≡◌}
use Rattle.serde_json.specs.declared.value.Value.{Value}
use Rattle.theory_definitions.specs.Instance.{Text}
use Rattle.theory_definitions.specs.Drafts.{Draft, Vocabularies}
use Rattle.standard_subschemas.specs.declared.rules.Rule.{Rule}
use Rattle.standard_resolver.specs.ResolverDocuments.{HeldDocuments, GivenDocument, HasCustom, HasDrafts, documents_of}
use Rattle.standard_resolver.specs.ResolverAnswers.{reading_in}
use Rattle.standard_resolver.specs.MetaVocabularies.{AreListed}

-- it reads documents by this rule
abbrev pub GoesBy : {E : Type 0} → Result HeldDocuments E → Rule → Type 0
GoesBy result rule = IfOk result (λ r. r.rule ≡ rule)

-- its root document is this one
abbrev pub Holds : {E : Type 0} → Result HeldDocuments E → Value → Type 0
Holds result document = IfOk result (λ r. r.document ≡ document)

-- the root is found under this URI
abbrev pub IsUnder : {E : Type 0} → Result HeldDocuments E → Text → Type 0
IsUnder result uri = IfOk result (λ r. r.uri ≡ uri)

-- it has these other documents
abbrev pub Others : {E : Type 0} → Result HeldDocuments E → List GivenDocument → Type 0
Others result others = IfOk result (λ r. r.others ≡ others)

-- values that name no draft are read in this one
abbrev pub Defaults : {E : Type 0} → Result HeldDocuments E → Draft → Type 0
Defaults result draft = IfOk result (λ r. r.default_draft ≡ draft)

-- its root document is read in this draft, if it is given, whatever its `$schema` says
abbrev pub RootsIn : {E : Type 0} → Result HeldDocuments E → Option Draft → Type 0
RootsIn result draft = IfOk result (λ r. r.root_draft ≡ draft)

-- it knows what the `$vocabulary` of each document puts in force
abbrev pub ListsVocabularies : {E : Type 0} → Result HeldDocuments E → Type 0
ListsVocabularies result = IfOk result (λ r. AreListed (reading_in r) (documents_of r) r.listed)

-- each draft has its own vocabularies and the required ones, and no others
abbrev pub Drafts : {E : Type 0} → Result HeldDocuments E → Vocabularies → Type 0
Drafts result required = IfOk result (λ r. HasDrafts required r.vocabularies)

-- each draft has the custom vocabularies in the order of the required ones
abbrev pub Customs : {E : Type 0} → Result HeldDocuments E → Vocabularies → Type 0
Customs result required = IfOk result (λ r. HasCustom required r.vocabularies)
