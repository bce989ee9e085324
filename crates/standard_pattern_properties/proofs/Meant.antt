-- The gates of a keyword have the meaning that `Meanings` states for the members.
use Rattle.std.proofs.Common.{◌≡◌, ◌∙◌, ◌&&◌, ◌||◌, ◌+◌, ◌++◌, ◌∷◌, [], Bool, List, ap, false, map, refl, true, ℕ}
use Rattle.std.specs.List.{filter, list_all, list_any}
use Rattle.std.specs.Prelude.{All, if◌then◌else◌, not}
use Rattle.std.proofs.lemmas.List.Elements.{All-head, All-tail}
use Rattle.theory_definitions.specs.Instance.{Subject, Text}
use Rattle.theory_definitions.specs.Keywords.{Question, own}
use Rattle.theory_definitions.specs.Matching.{Matching}
use Rattle.schema_reports.specs.ReportViews.{spoken}
use Rattle.schema_traits.specs.KeywordViews.{is_nil}
use Rattle.keyword_authoring.specs.Members.{has_member}
use Rattle.keyword_authoring.specs.Texts.{is_among}
use Rattle.keyword_authoring.specs.Ways.{is_matched, plain}
use Rattle.standard_pattern_properties.specs.Gates.{Gate, Gated, at_member, gated, gated_at, gated_here, name_of, open_ones, pair_with, question_of, told}
use Rattle.standard_pattern_properties.specs.GatedKeywords.{gates_from, other_gate, unlisted}
use Rattle.standard_pattern_properties.specs.Meanings.{is_spoken_of, others_accept, patterns_accept}
use Rattle.standard_pattern_properties.specs.declared.gates.Condition.TheVariants.{OneMatches}
use Rattle.standard_pattern_properties.specs.declared.keyword.Neighbours.{Neighbours}

-- ---- the open questions of two lists

abbrev put_if : Bool → Gated → List Gated → List Gated
put_if b g gs = if b then g ∷ gs else gs

module _ (matching : Matching) where
  matched_pairs : (k : Text) (ps : List Text) → list_any (is_matched matching) (map (pair_with k) ps) ≡ list_any (λ p. matching.matches p k) ps
  matched_pairs k [] = refl
  matched_pairs k (p ∷ ps) = ap (λ b. matching.matches p k || b) (matched_pairs k ps)

  module _ (accepts : Question → Bool) where
    abbrev accepted : List Gated → Bool
    accepted gs = list_all accepts (map question_of (open_ones matching gs))

    and_assoc : (x y z : Bool) → (x && (y && z)) ≡ ((x && y) && z)
    and_assoc true y z = refl
    and_assoc false y z = refl

    or_false : (x : Bool) → (x || false) ≡ x
    or_false true = refl
    or_false false = refl

    -- one gate before others
    first_accepted : (b : Bool) (g : Gated) (gs : List Gated) (x y : Bool) → list_all accepts (map question_of gs) ≡ (x && y)
        → list_all accepts (map question_of (put_if b g gs)) ≡ (((not b || accepts g.question) && x) && y)
    first_accepted true g gs x y h = ap (λ z. accepts g.question && z) h ∙ and_assoc (accepts g.question) x y
    first_accepted false g gs x y h = h

    -- ---- `patternProperties`

    patterns_here : (i : ℕ) (ps : List Text) (k : Text) (rest : List Gated) → accepted (map (gated_at k) (gates_from i ps) ++ rest) ≡ (patterns_accept matching accepts i ps k && accepted rest)
    patterns_here i [] k rest = refl
    patterns_here i (p ∷ ps) k rest =
        first_accepted (matching.matches p k || false) (gated_at k gate) (open_ones matching (map (gated_at k) (gates_from (i + 1) ps) ++ rest)) (patterns_accept matching accepts (i + 1) ps k) (accepted rest) (patterns_here (i + 1) ps k rest)
        ∙ ap (λ b. ((not b || accepts (at_member i k)) && patterns_accept matching accepts (i + 1) ps k) && accepted rest) (or_false (matching.matches p k))
      where
        gate : Gate
        gate = record { condition = OneMatches; patterns = p ∷ []; child = i }

    pub patterns_mean : (s : Subject) (ps ks : List Text) → All (λ k. has_member k s ≡ true) ks → accepted (gated (gates_from 0 ps) s ks) ≡ list_all (patterns_accept matching accepts 0 ps) ks
    patterns_mean s ps [] h = refl
    patterns_mean s ps (k ∷ ks) h = ap (λ b. accepted (gated_here b (gates_from 0 ps) k ++ gated (gates_from 0 ps) s ks)) (All-head (λ k. has_member k s ≡ true) k ks h)
        ∙ (patterns_here 0 ps k (gated (gates_from 0 ps) s ks) ∙ ap (λ x. patterns_accept matching accepts 0 ps k && x) (patterns_mean s ps ks (All-tail (λ k. has_member k s ≡ true) k ks h)))

    -- ---- `additionalProperties`

    not_not : (x y : Bool) → (not (not x) || y) ≡ (x || y)
    not_not true y = refl
    not_not false y = refl

    other_here : (ps : List Text) (k : Text) (rest : List Gated) → accepted (gated_at k (other_gate ps) ∷ rest) ≡ ((list_any (λ p. matching.matches p k) ps || accepts (at_member 0 k)) && accepted rest)
    other_here ps k rest = first_accepted (not (list_any (is_matched matching) (map (pair_with k) ps))) (gated_at k (other_gate ps)) (open_ones matching rest) true (accepted rest) refl
        ∙ (ap (λ x. x && accepted rest) (and_true (not (not (list_any (is_matched matching) (map (pair_with k) ps))) || accepts (at_member 0 k)) ∙ not_not (list_any (is_matched matching) (map (pair_with k) ps)) (accepts (at_member 0 k)))
        ∙ ap (λ b. (b || accepts (at_member 0 k)) && accepted rest) (matched_pairs k ps))
      where
        and_true : (x : Bool) → (x && true) ≡ x
        and_true true = refl
        and_true false = refl

    or_assoc : (x y z : Bool) → (x || (y || z)) ≡ ((x || y) || z)
    or_assoc true y z = refl
    or_assoc false y z = refl

    module _ (s : Subject) (beside : Neighbours) where
      abbrev others : List Text → Bool
      others ks = accepted (gated (other_gate beside.patterns ∷ []) s (unlisted beside.listed ks))

      -- A member that is listed is skipped.
      other_first : (b : Bool) (k : Text) (ks : List Text) → has_member k s ≡ true
          → accepted (gated (other_gate beside.patterns ∷ []) s (if not b then k ∷ unlisted beside.listed ks else unlisted beside.listed ks))
          ≡ ((b || (list_any (λ p. matching.matches p k) beside.patterns || accepts (at_member 0 k))) && others ks)
      other_first true k ks here = refl
      other_first false k ks here = ap (λ b. accepted (gated_here b (other_gate beside.patterns ∷ []) k ++ gated (other_gate beside.patterns ∷ []) s (unlisted beside.listed ks))) here
          ∙ other_here beside.patterns k (gated (other_gate beside.patterns ∷ []) s (unlisted beside.listed ks))

      pub others_mean : (ks : List Text) → All (λ k. has_member k s ≡ true) ks → others ks ≡ list_all (others_accept matching accepts beside) ks
      others_mean [] h = refl
      others_mean (k ∷ ks) h = other_first (is_among beside.listed k) k ks (All-head (λ k. has_member k s ≡ true) k ks h)
          ∙ (ap (λ x. x && others ks) (or_assoc (is_among beside.listed k) (list_any (λ p. matching.matches p k) beside.patterns) (accepts (at_member 0 k)))
          ∙ ap (λ x. others_accept matching accepts beside k && x) (others_mean ks (All-tail (λ k. has_member k s ≡ true) k ks h)))

  -- ---- the names of the additional members

  module _ (s : Subject) (beside : Neighbours) where
    abbrev names_open : List Text → List Text
    names_open ks = map name_of (open_ones matching (gated (other_gate beside.patterns ∷ []) s (unlisted beside.listed ks)))

    named_first : (b : Bool) (g : Gated) (gs : List Gated) → map name_of (put_if b g gs) ≡ (if b then g.name ∷ map name_of gs else map name_of gs)
    named_first true g gs = refl
    named_first false g gs = refl

    name_first : (b : Bool) (k : Text) (ks : List Text) → has_member k s ≡ true
        → map name_of (open_ones matching (gated (other_gate beside.patterns ∷ []) s (if not b then k ∷ unlisted beside.listed ks else unlisted beside.listed ks)))
        ≡ (if not (b || list_any (λ p. matching.matches p k) beside.patterns) then k ∷ names_open ks else names_open ks)
    name_first true k ks here = refl
    name_first false k ks here =
        ap (λ b. map name_of (open_ones matching (gated_here b (other_gate beside.patterns ∷ []) k ++ gated (other_gate beside.patterns ∷ []) s (unlisted beside.listed ks)))) here
        ∙ (named_first (not (list_any (is_matched matching) (map (pair_with k) beside.patterns))) (gated_at k (other_gate beside.patterns)) (open_ones matching (gated (other_gate beside.patterns ∷ []) s (unlisted beside.listed ks)))
        ∙ ap (λ b. if not b then k ∷ names_open ks else names_open ks) (matched_pairs k beside.patterns))

    pub names_mean : (ks : List Text) → All (λ k. has_member k s ≡ true) ks → names_open ks ≡ filter (λ k. not (is_spoken_of matching beside k)) ks
    names_mean [] h = refl
    names_mean (k ∷ ks) h = name_first (is_among beside.listed k) k ks (All-head (λ k. has_member k s ≡ true) k ks h)
        ∙ ap (λ ns. if not (is_spoken_of matching beside k) then k ∷ ns else ns) (names_mean ks (All-tail (λ k. has_member k s ≡ true) k ks h))

    -- Nothing is reported if and only if there are no names.
    nil_told : (texts : Bool) (text : List Text → Text) (ks : List Text) → is_nil (map (spoken texts) (told text ks)) ≡ is_nil ks
    nil_told texts text [] = refl
    nil_told texts text (k ∷ ks) = refl

    none_left : (f : Text → Bool) (ks : List Text) → is_nil (filter (λ k. not (f k)) ks) ≡ list_all f ks
    none_left f [] = refl
    none_left f (k ∷ ks) = one (f k) (none_left f ks)
      where
        one : (b : Bool) → is_nil (filter (λ k. not (f k)) ks) ≡ list_all f ks → is_nil (if not b then k ∷ filter (λ k. not (f k)) ks else filter (λ k. not (f k)) ks) ≡ (b && list_all f ks)
        one true h = h
        one false h = refl

    pub no_others_mean : (texts : Bool) (text : List Text → Text) (ks : List Text) → All (λ k. has_member k s ≡ true) ks
        → is_nil (map (spoken texts) (told text (names_open ks))) ≡ list_all (is_spoken_of matching beside) ks
    no_others_mean texts text ks h = nil_told texts text (names_open ks) ∙ (ap is_nil (names_mean ks h) ∙ none_left (is_spoken_of matching beside) ks)

-- one error or none
pub told_faults : (texts : Bool) (name : Text) (ts : List Text) → map (λ t. own (plain name t)) (map (spoken texts) ts) ≡ map (λ t. own (plain name (spoken texts t))) ts
told_faults texts name [] = refl
told_faults texts name (t ∷ ts) = ap (λ fs. own (plain name (spoken texts t)) ∷ fs) (told_faults texts name ts)
