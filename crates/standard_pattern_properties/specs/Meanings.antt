-- The meanings of `patternProperties` and `additionalProperties` for an object's members, without
-- gates and runs.
use Rattle.std.specs.List.{filter, list_all, list_any}
use Rattle.std.specs.Prelude.{Bool, List, [], codes, map, not, true, ℕ, ◌&&◌, ◌+◌, ◌||◌, ◌∷◌, ◌≡◌}
use Rattle.theory_definitions.specs.Instance.{Subject, Text}
use Rattle.theory_definitions.specs.Keywords.{Answers, Question, own}
use Rattle.theory_definitions.specs.Matching.{Matching}
use Rattle.schema_reports.specs.ReportViews.{spoken}
use Rattle.keyword_authoring.specs.Members.{subject_names}
use Rattle.keyword_authoring.specs.Texts.{is_among}
use Rattle.keyword_authoring.specs.Ways.{plain}
use Rattle.standard_pattern_properties.specs.GateLaws.{gated_words}
use Rattle.standard_pattern_properties.specs.Gates.{at_member, told}
use Rattle.standard_pattern_properties.specs.GatedKeywords.{form_of, gates_of, names_of, unexpected_text}
use Rattle.standard_pattern_properties.specs.declared.keyword.GatedKeyword.TheVariants.{AdditionalProperties, NoAdditionalProperties, PatternProperties}
use Rattle.standard_pattern_properties.specs.declared.keyword.Neighbours.{Neighbours}

-- whether a member is accepted by the schema of each pattern that matches its name; the schemas of
-- the patterns are numbered in order (Core 2020-12, 10.3.2.2)
abbrev pub patterns_accept : Matching → (Question → Bool) → ℕ → List Text → Text → Bool
patterns_accept matching accepts i [] k = true
patterns_accept matching accepts i (p ∷ ps) k = (not (matching.matches p k) || accepts (at_member i k)) && patterns_accept matching accepts (i + 1) ps k

-- whether a member's name is listed in `properties` or matched by a pattern of `patternProperties`
-- (Core 2020-12, 10.3.2.3); a member with another name is additional
abbrev pub is_spoken_of : Matching → Neighbours → Text → Bool
is_spoken_of matching beside k = is_among beside.listed k || list_any (λ p. matching.matches p k) beside.patterns

-- whether a member is not additional, or the schema accepts it
abbrev pub others_accept : Matching → (Question → Bool) → Neighbours → Text → Bool
others_accept matching accepts beside k = is_spoken_of matching beside k || accepts (at_member 0 k)

-- the names of the additional members, in order
abbrev pub left_over : Matching → Neighbours → Subject → List Text
left_over matching beside s = filter (λ k. not (is_spoken_of matching beside k)) (subject_names s)

-- `patternProperties` holds if the schemas of its patterns accept each member.
abbrev pub PatternsHold : Bool → Subject → Matching → Type 0
PatternsHold texts s matching = (patterns : List Text) (accepts : Question → Bool)
    → (gated_words gates_of form_of names_of texts).holds (PatternProperties patterns) s matching accepts ≡ list_all (patterns_accept matching accepts 0 patterns) (subject_names s)

-- `additionalProperties` holds if its schema accepts each additional member.
abbrev pub OthersHold : Bool → Subject → Matching → Type 0
OthersHold texts s matching = (beside : Neighbours) (accepts : Question → Bool)
    → (gated_words gates_of form_of names_of texts).holds (AdditionalProperties beside) s matching accepts ≡ list_all (others_accept matching accepts beside) (subject_names s)

-- `additionalProperties` with the value `false` holds if no member is additional.
abbrev pub NoOthersHold : Bool → Subject → Matching → Type 0
NoOthersHold texts s matching = (beside : Neighbours) (accepts : Question → Bool)
    → (gated_words gates_of form_of names_of texts).holds (NoAdditionalProperties beside) s matching accepts ≡ list_all (is_spoken_of matching beside) (subject_names s)

-- If it does not hold, then its error shows the additional members' names.
abbrev pub NamesLeftOver : Bool → Subject → Matching → Type 0
NamesLeftOver texts s matching = (beside : Neighbours) (answers : Answers)
    → (gated_words gates_of form_of names_of texts).faults (NoAdditionalProperties beside) s matching answers
    ≡ map (λ t. own (plain (codes "additionalProperties") (spoken texts t))) (told unexpected_text (left_over matching beside s))
