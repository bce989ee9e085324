-- Worked rows, by computation: what the definitions say of small schemas. `pattern` is a pattern
-- whose match with "abc" stays unfinished.
use Rattle.std.specs.Prelude.{Bool, List, None, Some, [], codes, false, suc, true, zero, ℕ, ◌≡◌, ◌≤◌, ◌∷◌}
use Rattle.serde_json.specs.Data.{Data, Members, array, item, member, no_items, no_members, number, object, unsigned}
use Rattle.theory_definitions.specs.Instance.{Text, to_member}
use Rattle.theory_definitions.specs.Reports.{Error, Outcome, accepted, spans_nothing}
use Rattle.theory_definitions.specs.Matching.{Assumptions, Completion}
use Rattle.theory_definitions.specs.Plan.{Key, absolute_of, child, plan, these}
use Rattle.theory_definitions.specs.Making.{compile}
use Rattle.theory_meaning.specs.Root.{IsRoot}
use Rattle.theory_definitions.specs.Meaning.{subject}
use Rattle.theory_definitions.specs.Units.{annotations_of}
use Rattle.theory_meaning.specs.Returns.{returns}
use Rattle.theory_definitions.specs.Cover.{Call, Cover, Sense, is_valid, iter_errors, plain}
use Rattle.theory_meaning.specs.Shared.{EachAccepts, Shared, SomeRefuses}
use Rattle.theory_definitions.specs.Guarded.{Nodes, guarded_sense, node_keyword, node_reference, node_these}
use Rattle.theory_meaning.specs.Numbered.{AreNumbered, Numbers, Ranked}
use Rattle.theory_meaning.specs.RowsWorked.{Word, worked_parts, is_not, one_member, ref_to, root_of, text, tiny_matcher, two_members, words}

-- The sense of a schema's root, with references followed n deep.
abbrev pub sense : List Text → Data → Data → ℕ → Sense
sense unfinished_ones schema instance n = plain (worked_parts unfinished_ones schema) instance n (root_of unfinished_ones schema)

-- Each completion has this outcome, with references followed to the given depth or deeper.
abbrev pub AlwaysSays : List Text → Data → Data → ℕ → Outcome → Type 0
AlwaysSays unfinished_ones schema instance deep outcome = (n : ℕ) → deep ≤ n → (c : Completion) → (sense unfinished_ones schema instance n).says c ≡ outcome

abbrev pub refused_by : Error → Outcome
refused_by e = record { verdict = false; errors = e ∷ []; spans = spans_nothing }

-- For each schema, `root_of` is the key of its root according to the definitions.
abbrev pub RootsAreRoots : Type 0
RootsAreRoots = (unfinished_ones : List Text) (schema : Data) → IsRoot (worked_parts unfinished_ones schema) schema (root_of unfinished_ones schema)

-- ---- {"type": "string"}

abbrev pub string_schema : Data
string_schema = one_member (codes "type") (text (codes "string"))

-- "AB" is accepted.
abbrev pub TextIsString : Type 0
TextIsString = AlwaysSays [] string_schema (text (codes "AB")) 0 accepted

abbrev pub number_error : Error
number_error = record { place = []; schema_path = codes "/type"; evaluation_path = codes "/type"; absolute = None; name = codes "type"; text = codes "1 is not of type \"string\"" }

-- 1 is refused with the error: 1 is not of type "string".
abbrev pub NumberIsNoString : Type 0
NumberIsNoString = AlwaysSays [] string_schema (number (unsigned 1)) 0 (refused_by number_error)

-- ---- unfinished matches

abbrev pub pattern : Text
pattern = codes "(?<=ab)c"

abbrev pub pattern_schema : Data
pattern_schema = one_member (codes "pattern") (text pattern)

abbrev pub abc : Data
abc = text (codes "abc")

-- The assumption that the match is a yes or a no.
abbrev pub assuming_match : Bool → Assumptions
assuming_match b = record { pair = record { pattern = pattern; subject = codes "abc" }; outcome = b } ∷ []

-- The cover of a call distinguishes the two outcomes of the match.
abbrev pub TakesApart : Data → Call → Type 0
TakesApart schema call = (n : ℕ) → Cover (sense (pattern ∷ []) schema abc n) call [] (assuming_match false ∷ assuming_match true ∷ [])

-- {"not": {"pattern": P}} on "abc"
abbrev pub not_schema : Data
not_schema = one_member (codes "not") pattern_schema

-- Each call's cover has two members.
abbrev pub NotIsTakenApart : Type 0
NotIsTakenApart = (call : Call) → TakesApart not_schema call

-- Some completion refuses.
abbrev pub NotIsRefused : Type 0
NotIsRefused = (n : ℕ) → SomeRefuses (sense (pattern ∷ []) not_schema abc n)

-- No error is shared.
abbrev pub NotSharesNoError : Type 0
NotSharesNoError = (n : ℕ) → Shared (sense (pattern ∷ []) not_schema abc n) []

-- {"anyOf": [{"pattern": P}, {"not": {"pattern": P}}]} on "abc"
abbrev pub either_schema : Data
either_schema = one_member (codes "anyOf") (array (item pattern_schema (item not_schema no_items)))

-- Each call's cover has two members.
abbrev pub EitherIsTakenApart : Type 0
EitherIsTakenApart = (call : Call) → TakesApart either_schema call

-- Each completion accepts, without errors.
abbrev pub EitherIsAccepted : Type 0
EitherIsAccepted = AlwaysSays (pattern ∷ []) either_schema abc 0 accepted

-- {"pattern": P, "maxLength": 1} on "abc"
abbrev pub long_schema : Data
long_schema = two_members (codes "maxLength") (number (unsigned 1)) (codes "pattern") (text pattern)

abbrev pub long_error : Error
long_error = record { place = []; schema_path = codes "/maxLength"; evaluation_path = codes "/maxLength"; absolute = None; name = codes "maxLength"; text = codes "\"abc\" is longer than 1 character" }

-- The only shared error is that of `maxLength`: "abc" is longer than 1 character.
abbrev pub LongSharesOneError : Type 0
LongSharesOneError = (n : ℕ) → Shared (sense (pattern ∷ []) long_schema abc n) (long_error ∷ [])

-- The verdict alone needs no branch, because `maxLength` comes before `pattern`.
abbrev pub LongVerdictIsWhole : Type 0
LongVerdictIsWhole = (n : ℕ) → Cover (sense (pattern ∷ []) long_schema abc n) is_valid [] ([] ∷ [])

-- The list of all errors needs two branches.
abbrev pub LongErrorsAreTakenApart : Type 0
LongErrorsAreTakenApart = TakesApart long_schema iter_errors

-- ---- references

-- {"properties": {"n": {"$ref": "#"}}, "required": ["v"]}
abbrev pub nested_schema : Data
nested_schema = two_members (codes "properties") (one_member (codes "n") (ref_to (codes "#"))) (codes "required") (array (item (text (codes "v")) no_items))

-- {"v": 1, "n": {"v": 1, "n": {}}}, in the order of the names
abbrev pub nested : Data
nested = two_members (codes "n") (two_members (codes "n") (object no_members) (codes "v") (number (unsigned 1))) (codes "v") (number (unsigned 1))

abbrev pub nested_error : Error
nested_error = record {
  place = to_member (codes "n") ∷ to_member (codes "n") ∷ [];
  schema_path = codes "/required";
  evaluation_path = codes "/properties/n/$ref/properties/n/$ref/required";
  absolute = None;
  name = codes "required";
  text = codes "\"v\" is a required property";
}

-- There is one error, at the innermost object, through a reference inside a reference.
abbrev pub NestedIsRefused : Type 0
NestedIsRefused = AlwaysSays [] nested_schema nested 2 (refused_by nested_error)

-- No chain of at most nine questions comes twice to the same target at the same place.
abbrev pub NestedDoesNotReturn : Type 0
NestedDoesNotReturn = returns (worked_parts [] nested_schema) nested 9 [] (record { key = root_of [] nested_schema; path = []; place = [] }) ≡ false

-- Nine references in a row and {"type": "string"}; a further reference leads to the first of them.
abbrev pub chain_members : Members
chain_members = member (codes "c0") (ref_to (codes "#/$defs/c1")) (member (codes "c1") (ref_to (codes "#/$defs/c2")) (member (codes "c2") (ref_to (codes "#/$defs/c3"))
    (member (codes "c3") (ref_to (codes "#/$defs/c4")) (member (codes "c4") (ref_to (codes "#/$defs/c5")) (member (codes "c5") (ref_to (codes "#/$defs/c6")) (member (codes "c6") (ref_to (codes "#/$defs/c7"))
    (member (codes "c7") (ref_to (codes "#/$defs/c8")) (member (codes "c8") (ref_to (codes "#/$defs/c9")) (member (codes "c9") string_schema no_members)))))))))

abbrev pub chain_schema : Data
chain_schema = two_members (codes "$defs") (object chain_members) (codes "$ref") (text (codes "#/$defs/c0"))

abbrev pub chain_error : Error
chain_error = record {
  place = [];
  schema_path = codes "/$defs/c9/type";
  evaluation_path = codes "/$ref/$ref/$ref/$ref/$ref/$ref/$ref/$ref/$ref/$ref/type";
  absolute = None;
  name = codes "type";
  text = codes "1 is not of type \"string\"";
}

-- The error is at the last of them, and its evaluation path goes through each reference.
abbrev pub ChainIsRefused : Type 0
ChainIsRefused = AlwaysSays [] chain_schema (number (unsigned 1)) 10 (refused_by chain_error)

-- {"$ref": "#/$defs/e/$defs/t", "$defs": {"e": {"$id": "http://x/e", "$defs": {"t": {"type": "string"}}}}}
abbrev pub embedded_schema : Data
embedded_schema = two_members (codes "$defs") (one_member (codes "e") (two_members (codes "$defs") (one_member (codes "t") string_schema) (codes "$id") (text (codes "http://x/e")))) (codes "$ref") (text (codes "#/$defs/e/$defs/t"))

abbrev pub embedded_error : Error
embedded_error = record {
  place = [];
  schema_path = codes "/$defs/e/$defs/t/type";
  evaluation_path = codes "/$ref/type";
  absolute = Some (codes "http://x/e#/$defs/t/type");
  name = codes "type";
  text = codes "1 is not of type \"string\"";
}

-- The absolute location counts from the embedded resource: the 8 bytes of /$defs/e lie outside it.
abbrev pub EmbeddedCountsFromItsResource : Type 0
EmbeddedCountsFromItsResource = AlwaysSays [] embedded_schema (number (unsigned 1)) 1 (refused_by embedded_error)

-- ---- returns

-- {"$ref": "#"} has no keyword, because the reference leads to the very object that contains it.
abbrev pub SelfIsNoKeyword : Type 0
SelfIsNoKeyword = plan (worked_parts [] (ref_to (codes "#"))) (root_of [] (ref_to (codes "#"))) ≡ these []

-- {"not": {"$ref": "#"}}
abbrev pub turning_schema : Data
turning_schema = one_member (codes "not") (ref_to (codes "#"))

abbrev pub turning_root : Key Text
turning_root = root_of [] turning_schema

-- The key of the schema in `not`.
abbrev pub turning_child : Key Text
turning_child = elim (child (worked_parts [] turning_schema) turning_root (codes "not") (compile (to_member (codes "not") ∷ []) ∷ []) 0) [ None ↦ turning_root | Some edge ↦ edge.key ]

abbrev pub turning_keys : Numbers Text
turning_keys = Some turning_root ∷ Some turning_child ∷ []

abbrev pub turning_key : ℕ → Key Text
turning_key zero = turning_root
turning_key (suc i) = turning_child

-- Node 0 is the root. Its `not` asks node 1, whose reference asks the root again, and is guarded.
abbrev pub turning_nodes : Nodes Word
turning_nodes = record {
  entries = λ i. elim i [
    | zero ↦ node_these (record { name = codes "not"; priority = 53; is_leaf = false; form = node_keyword (is_not (ref_to (codes "#"))) (Some (record { node = 1; path = codes "/not"; guarded = false }) ∷ []) } ∷ [])
    | suc j ↦ node_these (record { name = codes "$ref"; priority = 70; is_leaf = false; form = node_reference (record { node = 0; path = codes "/$ref"; guarded = true }) } ∷ [])
  ];
  location = λ i. (turning_key i).location;
  absolute = λ i location. absolute_of (worked_parts [] turning_schema) (turning_key i) location;
  annotations = λ i. annotations_of (worked_parts [] turning_schema) (turning_key i);
  rank = λ i. elim i [ zero ↦ 1 | suc j ↦ 0 ];
}

-- A chain of questions returns.
abbrev pub TurningReturns : Type 0
TurningReturns = returns (worked_parts [] turning_schema) (number (unsigned 1)) 9 [] (record { key = turning_root; path = []; place = [] }) ≡ true

-- The nodes stand for the keys of the schema.
abbrev pub TurningIsNumbered : Type 0
TurningIsNumbered = AreNumbered (worked_parts [] turning_schema) turning_keys turning_nodes × Ranked turning_nodes 2

-- From depth 5 on, the numbered nodes accept 1 under each completion.
abbrev pub TurningIsAccepted : Type 0
TurningIsAccepted = (n : ℕ) → 5 ≤ n → EachAccepts (guarded_sense words (tiny_matcher []) turning_nodes (subject (worked_parts [] turning_schema) (number (unsigned 1))) n 0)
