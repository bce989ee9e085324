-- The keywords of an author, who specifies the kind of a keyword for each instance, with its texts.
-- If texts are not covered, each counts as empty. All that the laws of keywords mention follows
-- from the kind.
use Rattle.std.proofs.Common.{◌≡◌, ◌∙◌, ℕ, Bool, List, false, refl, subst, sym, map}
use Rattle.std.proofs.lemmas.List.Elements.{All-nil}
use Rattle.theory_definitions.specs.Instance.{Subject, Text}
use Rattle.schema_reports.specs.ReportViews.{spoken}
use Rattle.theory_definitions.specs.Keywords.{Answer, Keywords, Question}
use Rattle.theory_definitions.specs.Turns.{FunctionLaws, Standing, TurnLaws}
use Rattle.keyword_authoring.specs.declared.run.Progress.{Progress}
use Rattle.keyword_authoring.specs.Items.{each_from}
use Rattle.keyword_authoring.specs.Places.{AsksPresent}
use Rattle.keyword_authoring.specs.Tallies.{Tally}
use Rattle.keyword_authoring.specs.Ways.{Way, asks_match, branches, judges, passes_on, passes_some, places, questions, tells, unless}
use Rattle.keyword_authoring.specs.WayLaws.{AllPresent, SameQuestions, function_laws, turn_laws}
use Rattle.keyword_authoring.specs.WayWords.{any_state, left_at_most, nothing_absorbed, run_ends, run_fits, words_of}

abbrev pub spoken_tally : Bool → Tally → Tally
spoken_tally texts t = record t { told = λ n. map (spoken texts) (t.told n) }

-- a kind whose texts count as empty if they are not covered
abbrev pub spoken_way : Bool → Way → Way
spoken_way texts (tells name ts) = tells name (map (spoken texts) ts)
spoken_way texts (passes_on qs) = passes_on qs
spoken_way texts (passes_some os) = passes_some os
spoken_way texts (judges t qs) = judges (spoken_tally texts t) qs
spoken_way texts (branches q one other) = branches q one other
spoken_way texts (asks_match name p text) = asks_match name p (spoken texts text)

-- a keyword that asks nothing: one error with this name and text if it refuses
abbrev pub leaf_way : Text → Bool → Text → Way
leaf_way name holds text = tells name (unless holds text)

-- a keyword that judges: one error if it refuses this number of accepted questions
abbrev pub judge_way : Text → ℕ → Bool → (ℕ → Bool) → (ℕ → Text) → List Question → Way
judge_way name enough shows accepts text qs =
    judges (record { name = name; enough = enough; told = λ n. unless (accepts n) (text n); shows = shows }) qs

pub same_questions : (texts : Bool) (w : Way) → questions (spoken_way texts w) ≡ questions w
same_questions texts (tells name ts) = refl
same_questions texts (passes_on qs) = refl
same_questions texts (passes_some os) = refl
same_questions texts (judges t qs) = refl
same_questions texts (branches q one other) = refl
same_questions texts (asks_match name p text) = refl

same_places : (texts : Bool) (w : Way) → places (spoken_way texts w) ≡ places w
same_places texts (tells name ts) = refl
same_places texts (passes_on qs) = refl
same_places texts (passes_some os) = refl
same_places texts (judges t qs) = refl
same_places texts (branches q one other) = refl
same_places texts (asks_match name p text) = refl

module _ {M : Type 0} (way : M → Subject → Way) where
  abbrev pub spoken_ways : Bool → M → Subject → Way
  spoken_ways texts m s = spoken_way texts (way m s)

  -- each keyword asks at places that exist
  abbrev pub AlwaysPresent : Type 0
  AlwaysPresent = (m : M) (s : Subject) → AsksPresent s (questions (way m s))

  -- what the keywords say of an instance
  abbrev pub own_words : Bool → Keywords M (Progress × Answer)
  own_words = words_of spoken_ways

  abbrev pub own_absorbed : M → List Text
  own_absorbed = nothing_absorbed spoken_ways

  abbrev pub own_remaining : M → Subject → Progress × Answer → ℕ
  own_remaining = left_at_most spoken_ways

  abbrev pub own_can_be : Bool → M → Subject → Progress × Answer → Type 0
  own_can_be texts = any_state spoken_ways

  abbrev pub own_ends : Bool → M → Standing (Progress × Answer) → Answer
  own_ends = run_ends spoken_ways

  abbrev pub own_fits : Bool → M → Standing (Progress × Answer) → Type 0
  own_fits = run_fits spoken_ways

  own_same : SameQuestions spoken_ways
  own_same texts m s = (
    same_questions texts (way m s) ∙ sym (same_questions false (way m s)),
    same_places texts (way m s) ∙ sym (same_places false (way m s)),
  )

  own_present : AlwaysPresent → AllPresent spoken_ways
  own_present present texts m s = subst (AsksPresent s) (sym (same_questions texts (way m s))) (present m s)

  pub own_turn_laws : (texts : Bool) (m : M) → TurnLaws (own_words texts) m (own_absorbed m) (own_remaining m) (own_can_be texts m) (own_ends texts m) (own_fits texts m)
  own_turn_laws = turn_laws spoken_ways own_same

  pub own_function_laws : AlwaysPresent → (texts : Bool) (m : M) → FunctionLaws (own_words texts) m (own_absorbed m)
  own_function_laws present = function_laws spoken_ways (own_present present)

module _ {M : Type 0} (called : M → Text) (accepts : M → Subject → Bool) (error_text : M → Subject → Text) where
  abbrev pub leaf_ways : M → Subject → Way
  leaf_ways m s = leaf_way (called m) (accepts m s) (error_text m s)

  -- a leaf asks nothing
  pub leaf_present : AlwaysPresent leaf_ways
  leaf_present m s = All-nil _

module _ {M : Type 0} (called : M → Text) (error_texts : M → Subject → List Text) where
  -- errors with the keyword's name and these texts, in order
  abbrev pub telling_ways : M → Subject → Way
  telling_ways m s = tells (called m) (error_texts m s)

  -- such a keyword asks nothing
  pub telling_present : AlwaysPresent telling_ways
  telling_present m s = All-nil _

module _ {M : Type 0} (called : M → Text) (enough : M → ℕ) (shows : M → Bool) (accepts : M → Subject → ℕ → Bool) (error_text : M → Subject → ℕ → Text)
    (question : M → ℕ → Question) (count : M → Subject → ℕ) where
  -- each keyword judges by the answers to its numbered questions
  abbrev pub judge_ways : M → Subject → Way
  judge_ways m s = judge_way (called m) (enough m) (shows m) (accepts m s) (error_text m s) (each_from (question m) 0 (count m s))

module _ {M : Type 0} (called : M → Text) (accepts : M → Subject → ℕ → Bool) (error_text : M → Subject → ℕ → Text) (accepted : ℕ) where
  -- one error if a keyword that judges refuses this number of accepted questions
  abbrev pub counted_ways : M → Subject → Way
  counted_ways m s = leaf_way (called m) (accepts m s accepted) (error_text m s accepted)
