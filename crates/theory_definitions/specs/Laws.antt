-- The laws of a keyword, stated for whole runs.
use Rattle.std.specs.List.{list_any}
use Rattle.std.specs.Prelude.{All, Bool, Contains, List, None, Option, Some, [], is_some, suc, true, zero, ℕ, ◌↔◌, ◌∷◌, ◌≡◌, ◌⊎◌}
use Rattle.theory_definitions.specs.Instance.{Place, Subject, Text, subject_from}
use Rattle.theory_definitions.specs.Pointer.{pointer_to}
use Rattle.theory_definitions.specs.Reports.{Outcome, Unit_, report_of}
use Rattle.theory_definitions.specs.Matching.{Matching}
use Rattle.theory_definitions.specs.Keywords.{Answer, Answers, Below, Fault, Keywords, Marked, Mode, Question, Reply, Spot, Turn, a_child, all_of_it, ask, done, down, ecma, all_valid, every, first_of_it, for_all, for_first, for_units, for_verdict, here, is_spanned, mark, match_text, no_reply, one, own, passed, span_questions, truth, unit_of_it, unmark, Span, one_matched}
use Rattle.theory_definitions.specs.Runs.{first_error, with_mark, without_last}

-- The verdict is yes if and only if there is no error.
abbrev pub Agrees : Outcome → Type 0
Agrees o = (o.verdict ≡ true) ↔ (o.errors ≡ [])

-- Children of the same key have the same verdict, at the keyword's place and at each place below
-- it.
abbrev pub AnsweredAlike : (Marked → Marked → Bool) → Answers → Type 0
AnsweredAlike same a = (i j : ℕ) → same (a_child i) (a_child j) ≡ true → (below : Below)
    → (a (record { child = i; below = below })).verdict ≡ (a (record { child = j; below = below })).verdict

-- The first fault, if there is one.
abbrev pub first_fault : List Fault → List Fault
first_fault [] = []
first_fault (f ∷ fs) = f ∷ []

-- The steps from the keyword's place to that of a question.
abbrev pub steps_below : Below → Place
steps_below here = []
steps_below (down s) = s ∷ []

-- The instance has a value or a name at this place.
abbrev pub IsPresent : Subject → Place → Type 0
IsPresent s p = is_some (subject_from p s) ≡ true

-- A location lies inside the instance, and at or below the keyword or one that it absorbs.
abbrev pub SpotInside : Subject → List Text → Spot → Type 0
SpotInside s absorbed spot = IsPresent s spot.below × ((path : Place) × (spot.path ≡ pointer_to path)) × (elim spot.absorbed [ None ↦ Unit {0} | Some name ↦ Contains absorbed name ])

-- A match on which a span depends is requested at a location inside the keyword and the instance.
abbrev pub SpanInside : Subject → List Text → Span → Type 0
SpanInside s absorbed (one_matched a point step) = SpotInside s absorbed point.spot
SpanInside s absorbed _ = Unit {0}

-- A span that contains the same steps whatever the answers and the matches are.
abbrev pub IsFixed : Span → Type 0
IsFixed every = Unit {0}
IsFixed (one step) = Unit {0}
IsFixed _ = ⊥

module _ {K R : Type 0} (keywords : Keywords K R) (m : K) (s : Subject) where
  -- The run ends in at most n more turns, whatever the replies are.
  abbrev pub EndsWithin : ℕ → R → Reply → Type 0
  EndsWithin zero r reply = ⊥
  EndsWithin (suc n) r reply = (keywords.step m s r reply ≡ done) ⊎ ((next : Reply) → EndsWithin n (keywords.turn m s r reply) next)

  -- A turn asks only questions that the keyword may ask, and requests matches only at locations
  -- inside the keyword and the instance.
  abbrev pub AsksRightly : List Text → Turn → Type 0
  AsksRightly absorbed (ask q mode) = Contains (keywords.may_ask m s) q
  AsksRightly absorbed (match_text a point) = SpotInside s absorbed point.spot
  AsksRightly absorbed _ = Unit {0}

  -- Each of the next n turns of the run does so, whatever the replies are.
  abbrev pub AlwaysAsksRightly : List Text → ℕ → R → Reply → Type 0
  AlwaysAsksRightly absorbed zero r reply = Unit {0}
  AlwaysAsksRightly absorbed (suc n) r reply = AsksRightly absorbed (keywords.step m s r reply) × ((next : Reply) → AlwaysAsksRightly absorbed n (keywords.turn m s r reply) next)

  -- ---- a run whose matches, questions and marks have fixed answers; `same` says which marks have
  -- the same key

  module _ (matches : Matching) (answers : Answers) (unit_at : Question → Unit_) (same : Marked → Marked → Bool) where
    -- The reply to a question of a mode.
    abbrev pub answer_in : Mode → Question → Reply
    answer_in for_verdict q = truth (answers q).verdict
    answer_in for_first q = first_of_it (first_error (answers q).errors)
    answer_in for_all q = all_of_it (answers q).errors
    answer_in for_units q = unit_of_it (unit_at q)

    -- The state in which the run ends, if it ends within n turns.
    abbrev pub ended : ℕ → List Marked → R → Reply → Option R
    ended zero marks r reply = None
    ended (suc n) marks r reply =
        let r' = keywords.turn m s r reply in
        elim (keywords.step m s r reply) [
          | ask q mode ↦ ended n marks r' (answer_in mode q)
          | match_text a point ↦ ended n marks r' (truth (matches.matches a.pattern a.subject))
          | mark i ↦ ended n (with_mark same i marks) r' (truth (list_any (same i) marks))
          | unmark ↦ ended n (without_last marks) r' no_reply
          | ecma text ↦ ended n marks r' (truth (matches.is_ecma text))
          | is_spanned step ↦ ended n marks r' (truth (matches.spanned step))
          | done ↦ Some r'
        ]

    -- The verdict of each question.
    abbrev pub verdicts : Question → Bool
    verdicts q = (answers q).verdict

    -- The answer at the end of the run is the right one for its mode.
    abbrev pub IsRight : Mode → Answer → Type 0
    IsRight for_verdict a = a.verdict ≡ keywords.holds m s matches verdicts
    IsRight for_first a = a.errors ≡ first_fault (keywords.faults m s matches answers)
    IsRight for_all a = a.errors ≡ keywords.faults m s matches answers
    IsRight for_units a = (a.gives ≡ keywords.units m s matches unit_at) × (a.verdict ≡ keywords.holds m s matches verdicts)

    -- The run ends, and its answer is the right one for its mode.
    abbrev pub EndsRightly : Mode → Type 0
    EndsRightly mode = (r : R) × (ended (keywords.most_turns m s) [] (keywords.begin m s mode) no_reply ≡ Some r) × IsRight mode (keywords.answer r)

-- An error of the keyword's own lies inside the keyword and the instance.
abbrev pub StandsInside : Subject → List Text → Fault → Type 0
StandsInside s absorbed (own o) = SpotInside s absorbed o.spot
StandsInside s absorbed (passed e) = Unit {0}

-- An error that is passed on is one of the errors that a question was answered with.
abbrev pub PassesUnchanged : Answers → List Question → Fault → Type 0
PassesUnchanged answers qs (own o) = Unit {0}
PassesUnchanged answers qs (passed e) = (q : Question) × Contains qs q × Contains (answers q).errors e

-- The laws of a keyword that absorbs these names.
pub record KeepsLaws {K R : Type 0} (keywords : Keywords K R) (m : K) (absorbed : List Text) : Type 0 where
  pub ends : (s : Subject) (mode : Mode) → EndsWithin keywords m s (keywords.most_turns m s) (keywords.begin m s mode) no_reply
  pub present : (s : Subject) → All (λ q. IsPresent s (steps_below q.below)) (keywords.may_ask m s)
  pub asks : (s : Subject) (mode : Mode) → AlwaysAsksRightly keywords m s absorbed (keywords.most_turns m s) (keywords.begin m s mode) no_reply
  pub answers : (s : Subject) (mode : Mode) (matches : Matching) (a : Answers) (u : Question → Unit_) (same : Marked → Marked → Bool)
      → ((q : Question) → Agrees (a q)) → ((q : Question) → (report_of (u q)).valid ≡ (a q).verdict) → AnsweredAlike same a
      → EndsRightly keywords m s matches a u same mode
  pub agree : (s : Subject) (matches : Matching) (a : Answers) → ((q : Question) → Agrees (a q))
      → (keywords.holds m s matches (λ q. (a q).verdict) ≡ true) ↔ (keywords.faults m s matches a ≡ [])
  -- The keyword's own unit and all units that it absorbs are valid if and only if the keyword
  -- holds.
  pub units_valid : (s : Subject) (matches : Matching) (u : Question → Unit_)
      → all_valid (keywords.units m s matches u) ≡ keywords.holds m s matches (λ q. (report_of (u q)).valid)
  pub holds_reads : (s : Subject) (matches : Matching) (a b : Question → Bool) → All (λ q. a q ≡ b q) (keywords.may_ask m s)
      → keywords.holds m s matches a ≡ keywords.holds m s matches b
  pub faults_read : (s : Subject) (matches : Matching) (a b : Answers) → All (λ q. a q ≡ b q) (keywords.may_ask m s)
      → keywords.faults m s matches a ≡ keywords.faults m s matches b
  pub units_read : (s : Subject) (matches : Matching) (a b : Question → Unit_) → All (λ q. a q ≡ b q) (keywords.may_ask m s)
      → keywords.units m s matches a ≡ keywords.units m s matches b
  -- What a keyword spans depends only on the answers to questions that it may ask.
  pub spans_read : (s : Subject) → All (λ p. All (Contains (keywords.may_ask m s)) (span_questions p)) (keywords.spans m s)
  pub spans_stand : (s : Subject) → All (SpanInside s absorbed) (keywords.spans m s)
  -- What a told keyword spans itself depends on no answer and no match.
  pub told_spans : keywords.is_told m ≡ true → (s : Subject) → All IsFixed (keywords.spans m s)
  pub stands : (s : Subject) (matches : Matching) (a : Answers) → All (StandsInside s absorbed) (keywords.faults m s matches a)
  pub passes : (s : Subject) (matches : Matching) (a : Answers) → All (PassesUnchanged a (keywords.may_ask m s)) (keywords.faults m s matches a)

-- Every keyword keeps the laws with some list of absorbed names.
abbrev pub EachKeeps : {K R : Type 0} → Keywords K R → Type 0
EachKeeps {K} keywords = (m : K) → (absorbed : List Text) × KeepsLaws keywords m absorbed
