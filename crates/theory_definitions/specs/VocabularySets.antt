-- Sets of vocabularies as lists: those of the standard, then the others, whose URIs occur once and
-- are sorted by their bytes. The `$vocabulary` of a meta-schema is an object, whose members have no
-- order (Core 2020-12, 8.1.2), so two sets with the same vocabularies have to be the same list.
use Rattle.std.specs.List.{list_all}
use Rattle.std.specs.Cmp.Lexicographic.{slice_cmp}
use Rattle.std.specs.Ordering.{is_lt, nat_cmp}
use Rattle.std.specs.Prelude.{Bool, List, [], filter_map, if◌then◌else◌, map, None, Option, Some, true, ◌&&◌, ◌++◌, ◌||◌, ◌∷◌, ◌≡◌}
use Rattle.std.specs.declared.cmp.Ordering.{Ordering}
use Rattle.std.specs.declared.cmp.Ordering.TheVariants.{Less, Equal, Greater}
use Rattle.theory_definitions.specs.Instance.{Text}
use Rattle.theory_definitions.specs.Drafts.{Vocabularies, Vocabulary, applicator_vocabulary, content_vocabulary, core_vocabulary, custom_vocabulary, format_annotation_vocabulary, format_assertion_vocabulary, format_vocabulary, has_vocabulary, same_vocabulary, metadata_vocabulary, unevaluated_vocabulary, validation_vocabulary}

-- The vocabularies of the standard, in the order in which a set lists them.
abbrev pub standard_vocabularies : Vocabularies
standard_vocabularies = core_vocabulary ∷ applicator_vocabulary ∷ unevaluated_vocabulary ∷ validation_vocabulary ∷ metadata_vocabulary ∷ format_vocabulary ∷ format_annotation_vocabulary ∷ format_assertion_vocabulary ∷ content_vocabulary ∷ []

-- The vocabularies whose flag is set.
abbrev pub flagged : List Bool → Vocabularies → Vocabularies
flagged [] vs = []
flagged (b ∷ bs) [] = []
flagged (b ∷ bs) (v ∷ vs) = (if b then v ∷ [] else []) ++ flagged bs vs

-- The set with a flag for each vocabulary of the standard, and the URIs of the others.
unfoldable pub listed : List Bool → List Text → Vocabularies
listed flags uris = flagged flags standard_vocabularies ++ map custom_vocabulary uris

-- The URI of a vocabulary that is not in the standard.
abbrev pub uri_of : Vocabulary → Option Text
uri_of (custom_vocabulary uri) = Some uri
uri_of _ = None

-- The URIs of the vocabularies that are not in the standard.
abbrev pub custom_of : Vocabularies → List Text
custom_of vs = filter_map uri_of vs

-- The texts with one more, by its order relative to the first: before the first if it is less, left
-- out if it is equal, and otherwise among the rest, which then is `placed`.
abbrev pub placed_by : Ordering → Text → Text → List Text → List Text → List Text
placed_by Less text first rest placed = text ∷ (first ∷ rest)
placed_by Equal text first rest placed = first ∷ rest
placed_by Greater text first rest placed = first ∷ placed

-- The sorted texts with one more at its place in the order of bytes; unchanged if it is one of
-- them.
abbrev pub placed_text : Text → List Text → List Text
placed_text text [] = text ∷ []
placed_text text (first ∷ rest) = placed_by (slice_cmp nat_cmp text first) text first rest (placed_text text rest)

-- The URIs with that of a vocabulary at its place, unless the vocabulary is in the standard.
abbrev pub with_uri : Vocabulary → List Text → List Text
with_uri (custom_vocabulary uri) uris = placed_text uri uris
with_uri _ uris = uris

-- A text comes before another one in the order of bytes.
abbrev pub is_before : Text → Text → Bool
is_before a b = is_lt (slice_cmp nat_cmp a b)

-- Each text comes before all that follow it, so none occurs twice.
abbrev pub is_rising : List Text → Bool
is_rising [] = true
is_rising (text ∷ rest) = list_all (is_before text) rest && is_rising rest

-- Two sets contain the same vocabularies.
abbrev pub HoldSame : Vocabularies → Vocabularies → Type 0
HoldSame vs ws = (v : Vocabulary) → has_vocabulary vs v ≡ has_vocabulary ws v

-- The new set contains this vocabulary and those of the old set, and no other.
abbrev pub AddsOnly : Vocabularies → Vocabularies → Vocabulary → Type 0
AddsOnly old new v = (w : Vocabulary) → has_vocabulary new w ≡ (same_vocabulary w v || has_vocabulary old w)
