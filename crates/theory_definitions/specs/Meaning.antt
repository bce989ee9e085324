-- What a schema says of an instance, with every reference resolved afresh: `true` accepts, `false`
-- rejects, and a list of keywords accepts if each of them holds. An error that a keyword reports
-- for one that it absorbs has the absolute location of the absorbed keyword, since its paths name
-- that keyword, and `evaluate` gives it a unit at the same location. (Core 2020-12, 4.3.2, 7.6 and
-- 8.2.3)
use Rattle.std.specs.Prelude.{Bool, List, None, Option, Some, [], codes, false, if◌then◌else◌, map, suc, true, unwrap_or, zero, ℕ, ◌&&◌, ◌++◌, ◌||◌, ◌∷◌}
use Rattle.json.specs.Print.{quoted}
use Rattle.serde_json.specs.Data.{Data, null}
use Rattle.serde_json.specs.Written.{compact_text}
use Rattle.theory_definitions.specs.Instance.{Place, Step, Subject, Text, a_name, a_value, subject_at}
use Rattle.theory_definitions.specs.Pointer.{joined}
use Rattle.theory_definitions.specs.Reports.{Error, Outcome, accepted, spans_nothing}
use Rattle.theory_definitions.specs.Matching.{Completion, Matching, beside, matching}
use Rattle.theory_definitions.specs.Making.{Request}
use Rattle.theory_definitions.specs.Keywords.{Answers, Below, Fault, Keywords, Own, Question, down, here, keyword_spans, own, passed}
use Rattle.theory_definitions.specs.Parts.{Parts}
use Rattle.theory_definitions.specs.Plan.{Edge, Form, Key, Part, Reference, absolute_of, always, child, height, keyword, never, plan, reference, reference_edge, these}

-- The text by which a message shows a value, or the name of a member.
abbrev pub subject_text : Subject → Text
subject_text (a_value d) = compact_text d
subject_text (a_name name) = quoted name

-- The place of a question: the given place itself, or one step below it.
abbrev pub place_below : Place → Below → Place
place_below p here = p
place_below p (down s) = p ++ s ∷ []

-- The context in which a schema is applied: the place in the instance, the evaluation path, the
-- schema's location, and a function from each location to its absolute location.
pub record Where : Type 0 where
  pub place : Place
  pub path : Text
  pub location : Text
  pub absolute : Text → Option Text

-- The error that a keyword reports itself or for a keyword that it absorbs. Its absolute location
-- is that of the keyword that its paths name.
abbrev pub error_at : Where → Text → Own → Error
error_at x name o = let name' = unwrap_or o.spot.absorbed name in
    record { place = x.place ++ o.spot.below; schema_path = joined x.location name' ++ o.spot.path; evaluation_path = joined x.path name' ++ o.spot.path; absolute = x.absolute (joined x.location name'); name = o.name; text = o.text }

-- A keyword that passes an error on adds its own absolute location, if the error has none yet.
abbrev pub stamped : Option Text → Error → Error
stamped location e = record e { absolute = elim e.absolute [ None ↦ location | Some a ↦ Some a ] }

-- The error that a fault of a keyword becomes.
abbrev pub fault_error : Where → Text → Fault → Error
fault_error x name (own o) = error_at x name o
fault_error x name (passed e) = stamped (x.absolute (joined x.location name)) e

-- The message of a `false` schema; it is empty if texts are not covered.
abbrev pub false_text : Bool → Subject → Text
false_text texts s = if texts then codes "False schema does not allow " ++ subject_text s else []

-- The error of a `false` schema.
abbrev pub false_error : Bool → Where → Subject → Error
false_error texts x s = record { place = x.place; schema_path = x.location; evaluation_path = x.path; absolute = x.absolute x.location; name = codes "falseSchema"; text = false_text texts s }

-- The verdict and the errors of a keyword, given the answers to its questions.
abbrev pub keyword_outcome : {K R : Type 0} → Keywords K R → Where → Text → K → Subject → Matching → Answers → Outcome
keyword_outcome keywords x name m s matches answers = record {
  verdict = keywords.holds m s matches (λ q. (answers q).verdict);
  errors = map (fault_error x name) (keywords.faults m s matches answers);
  spans = keyword_spans keywords m s matches answers;
}

-- The outcome of a reference: that of its target, with the absolute location of the reference added
-- to errors that have none.
abbrev pub reference_outcome : Where → Text → Outcome → Outcome
reference_outcome x name o = record { verdict = o.verdict; errors = map (stamped (x.absolute (joined x.location name))) o.errors; spans = o.spans }

-- The outcome of a `false` schema.
abbrev pub false_outcome : Bool → Where → Subject → Outcome
false_outcome texts x s = record { verdict = false; errors = false_error texts x s ∷ []; spans = spans_nothing }

-- Both outcomes together: valid if both are valid, with the errors of both, and spanning what either
-- spans.
abbrev pub both : Outcome → Outcome → Outcome
both a b = record { verdict = a.verdict && b.verdict; errors = a.errors ++ b.errors; spans = λ step. a.spans step || b.spans step }

-- What an entry is told of the others: what they span if it is told, and nothing if not.
abbrev pub told_of : (Step → Bool) → Bool → Step → Bool
told_of others told = if told then others else spans_nothing

-- Either of the two spans a step.
abbrev pub either_spans : (Step → Bool) → (Step → Bool) → Step → Bool
either_spans a b step = a step || b step

-- The outcome of a schema: a schema that rejects spans nothing.
abbrev pub kept : Outcome → Outcome
kept o = record o { spans = λ step. o.verdict && o.spans step }

-- Whether an entry is told what the others span. A reference is not.
abbrev pub form_told : {K R : Type 0} → Keywords K R → Form K → Bool
form_told keywords (keyword m requests absorbed) = keywords.is_told m
form_told keywords (reference kind text) = false

module _ {S K R : Type 0} (w : Parts S K R) (instance : Data) where
  -- The value or the name at a place, or `null` if there is none.
  abbrev pub subject : Place → Subject
  subject p = unwrap_or (subject_at instance p) (a_value null)

  -- ---- unfolding references n deep. `X` is the type of an answer, `last` is the answer of a
  -- reference that lies deeper than n, and `node` answers for a key at an evaluation path and a
  -- place, given the answers of its children

  module _ {X : Type 0} (last : X) (node : Key S → Text → Place → (Edge S → Place → X) → X) where
    -- The answer of a key, in which `across` answers for references, and subschemas are unfolded at
    -- most h deep. Subschemas lie strictly inside their schema, so a bound on their depth suffices.
    abbrev pub within : (Key S → Text → Place → X) → ℕ → Key S → Text → Place → X
    within across zero k path p = last
    within across (suc h) k path p = node k path p (λ edge q. elim edge.is_reference [ true ↦ across edge.key (path ++ edge.path) q | false ↦ within across h edge.key (path ++ edge.path) q ])

    -- The answer of a key, with references followed n deep.
    abbrev pub unfolded : ℕ → Key S → Text → Place → X
    unfolded zero k path p = within (λ k' path' p'. last) (height w k) k path p
    unfolded (suc n) k path p = within (unfolded n) (height w k) k path p

  -- ---- verdicts and errors

  -- The answer to a question of a keyword; `none` if the keyword has no such child.
  abbrev pub asked : {X : Type 0} → X → Key S → Text → List Request → Place → (Edge S → Place → X) → Question → X
  asked none k name requests p ask q = elim (child w k name requests q.child) [ None ↦ none | Some edge ↦ ask edge (place_below p q.below) ]

  -- The answer of a reference's target; `none` if the reference leads nowhere.
  abbrev pub referred_to : {X : Type 0} → X → Key S → Text → Reference → Text → Place → (Edge S → Place → X) → X
  referred_to none k name kind text p ask = elim (reference_edge w k name kind text) [ None ↦ none | Some edge ↦ ask edge p ]

  -- The context of a key at an evaluation path and a place.
  abbrev pub at : Key S → Text → Place → Where
  at k path p = record { place = p; path = path; location = k.location; absolute = absolute_of w k }

  module _ (c : Completion) where
    -- The outcome of one keyword or reference of a plan, if the others span these steps.
    abbrev pub part_outcome : Key S → Text → Place → (Edge S → Place → Outcome) → (Step → Bool) → Text → Form K → Outcome
    part_outcome k path p ask others name (keyword m requests absorbed) = keyword_outcome w.keywords (at k path p) name m (subject p) (beside others (matching w.matcher c)) (asked accepted k name requests p ask)
    part_outcome k path p ask others name (reference kind text) = reference_outcome (at k path p) name (referred_to accepted k name kind text p ask)

    -- What the entries that are not told span together.
    abbrev pub others_span : Key S → Text → Place → (Edge S → Place → Outcome) → List (Part K) → Step → Bool
    others_span k path p ask [] = spans_nothing
    others_span k path p ask (x ∷ xs) = either_spans (if form_told w.keywords x.form then spans_nothing else (part_outcome k path p ask spans_nothing x.name x.form).spans) (others_span k path p ask xs)

    -- The outcome of all these keywords and references together.
    abbrev pub parts_outcome : Key S → Text → Place → (Edge S → Place → Outcome) → (Step → Bool) → List (Part K) → Outcome
    parts_outcome k path p ask others [] = accepted
    parts_outcome k path p ask others (x ∷ xs) = both (part_outcome k path p ask (told_of others (form_told w.keywords x.form)) x.name x.form) (parts_outcome k path p ask others xs)

    -- The outcome of a schema at a place, given the answers of its children.
    abbrev pub outcome_of : Key S → Text → Place → (Edge S → Place → Outcome) → Outcome
    outcome_of k path p ask = elim (plan w k) [ always ↦ accepted | never ↦ false_outcome w.keywords.texts (at k path p) (subject p) | these xs ↦ kept (parts_outcome k path p ask (others_span k path p ask xs) xs) ]

    -- The verdict and the errors with references followed n deep. A reference that lies deeper
    -- counts as valid, without errors.
    abbrev pub unfold_ : ℕ → Key S → Text → Place → Outcome
    unfold_ = unfolded accepted outcome_of
