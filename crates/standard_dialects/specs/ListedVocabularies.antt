-- The vocabularies that the `$vocabulary` of a meta-schema puts in force. Each one that the draft
-- knows is, whatever its value; an unknown one is if its value is true, and is ignored otherwise.
-- The vocabulary for formats of 2019-09 is in force only if its value is true, since formats are not
-- asserted otherwise. (Core 2020-12, section 8.1.2; Validation 2019-09, section 7.2)
use Rattle.std.specs.Prelude.{Bool, None, Option, Some, [], bytes_eq, codes, false, if◌then◌else◌, unwrap_or, ◌∷◌}
use Rattle.serde_json.specs.Data.{Data, Members, member, no_members, object}
use Rattle.serde_json.specs.Find.{as_bool, get}
use Rattle.theory_definitions.specs.Instance.{Text}
use Rattle.theory_definitions.specs.Drafts.{Draft, Vocabularies, Vocabulary, applicator_vocabulary, content_vocabulary, core_vocabulary}
use Rattle.theory_definitions.specs.Drafts.{custom_vocabulary, draft_2019_09, format_annotation_vocabulary, format_assertion_vocabulary}
use Rattle.theory_definitions.specs.Drafts.{format_vocabulary, metadata_vocabulary, unevaluated_vocabulary, validation_vocabulary}
use Rattle.theory_definitions.specs.VocabularySets.{HoldSame}

-- the vocabulary of 2019-09 with a URI
abbrev pub vocabulary_of_2019_09 : Text → Option Vocabulary
vocabulary_of_2019_09 t =
    if bytes_eq t (codes "https://json-schema.org/draft/2019-09/vocab/core") then Some core_vocabulary
    else (if bytes_eq t (codes "https://json-schema.org/draft/2019-09/vocab/applicator") then Some applicator_vocabulary
    else (if bytes_eq t (codes "https://json-schema.org/draft/2019-09/vocab/validation") then Some validation_vocabulary
    else (if bytes_eq t (codes "https://json-schema.org/draft/2019-09/vocab/meta-data") then Some metadata_vocabulary
    else (if bytes_eq t (codes "https://json-schema.org/draft/2019-09/vocab/format") then Some format_vocabulary
    else (if bytes_eq t (codes "https://json-schema.org/draft/2019-09/vocab/content") then Some content_vocabulary else None)))))

-- the vocabulary of 2020-12 with a URI
abbrev pub vocabulary_of_2020_12 : Text → Option Vocabulary
vocabulary_of_2020_12 t =
    if bytes_eq t (codes "https://json-schema.org/draft/2020-12/vocab/core") then Some core_vocabulary
    else (if bytes_eq t (codes "https://json-schema.org/draft/2020-12/vocab/applicator") then Some applicator_vocabulary
    else (if bytes_eq t (codes "https://json-schema.org/draft/2020-12/vocab/unevaluated") then Some unevaluated_vocabulary
    else (if bytes_eq t (codes "https://json-schema.org/draft/2020-12/vocab/validation") then Some validation_vocabulary
    else (if bytes_eq t (codes "https://json-schema.org/draft/2020-12/vocab/meta-data") then Some metadata_vocabulary
    else (if bytes_eq t (codes "https://json-schema.org/draft/2020-12/vocab/format-annotation") then Some format_annotation_vocabulary
    else (if bytes_eq t (codes "https://json-schema.org/draft/2020-12/vocab/format-assertion") then Some format_assertion_vocabulary
    else (if bytes_eq t (codes "https://json-schema.org/draft/2020-12/vocab/content") then Some content_vocabulary else None)))))))

-- the vocabulary that a draft knows by a URI
abbrev pub known_vocabulary : Draft → Text → Option Vocabulary
known_vocabulary draft_2019_09 t = vocabulary_of_2019_09 t
known_vocabulary _ t = vocabulary_of_2020_12 t

abbrev pub if_required : Bool → Vocabulary → Option Vocabulary
if_required required v = if required then Some v else None

-- a vocabulary that is listed, if it is in force: an unknown one, or the one for formats of 2019-09,
-- only if it is required
abbrev pub in_force : Bool → Text → Option Vocabulary → Option Vocabulary
in_force required uri None = if_required required (custom_vocabulary uri)
in_force required uri (Some format_vocabulary) = if_required required format_vocabulary
in_force required uri (Some v) = Some v

-- whether a value is `true`
abbrev pub is_true : Data → Bool
is_true v = unwrap_or (as_bool v) false

abbrev pub with_listed : Option Vocabulary → Vocabularies → Vocabularies
with_listed None vs = vs
with_listed (Some v) vs = v ∷ vs

-- the vocabularies that the members of a `$vocabulary` put in force
abbrev pub listed_among : Draft → Members → Vocabularies
listed_among draft no_members = []
listed_among draft (member uri v ms) = with_listed (in_force (is_true v) uri (known_vocabulary draft uri)) (listed_among draft ms)

-- the vocabularies of a `$vocabulary`, if it is an object
abbrev pub listed_in : Draft → Option Data → Option Vocabularies
listed_in draft (Some (object ms)) = Some (listed_among draft ms)
listed_in draft _ = None

-- the vocabularies that a meta-schema in a draft puts in force, if it has a `$vocabulary`
abbrev pub listed : Draft → Data → Option Vocabularies
listed draft schema = listed_in draft (get (codes "$vocabulary") schema)

-- both are missing, or they hold the same vocabularies
abbrev pub HoldSameIf : Option Vocabularies → Option Vocabularies → Type 0
HoldSameIf None None = Unit {0}
HoldSameIf (Some vs) (Some ws) = HoldSame vs ws
HoldSameIf _ _ = ⊥
