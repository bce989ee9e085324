-- An answer of each mode that refuses with one error at the keyword itself.
use Rattle.std.proofs.Common.{refl}
use Rattle.std.proofs.lemmas.List.Elements.{All-cons, All-nil}
use Rattle.std.specs.Prelude.{All, Bool, List, None, [], codes, false, if◌then◌else◌, true, ◌&&◌, ◌∷◌, ◌≡◌, ◌↔◌}
use Rattle.theory_definitions.specs.Instance.{Subject, Text}
use Rattle.schema_reports.specs.ReportViews.{spoken}
use Rattle.theory_definitions.specs.Reports.{Described}
use Rattle.theory_definitions.specs.Keywords.{Answer, Answers, Fault, Gives, Mode, Question, for_all, for_first, for_units, for_verdict, own}
use Rattle.theory_definitions.specs.Laws.{PassesUnchanged, StandsInside, first_fault}
use Rattle.schema_traits.specs.KeywordViews.{fresh, no_gives, with_errors}

abbrev pub refusal_text : Bool → Text
refusal_text texts = spoken texts (codes "is refused")

abbrev pub refusal : Bool → Fault
refusal texts = own (record { spot = record { absorbed = None; path = []; below = [] }; name = codes "refusal"; text = refusal_text texts })

abbrev pub described : Bool → Described
described texts = record { name = codes "refusal"; text = refusal_text texts }

abbrev pub refused_in : Bool → Mode → Answer
refused_in texts for_verdict = record { mode = for_verdict; verdict = false; errors = []; gives = record no_gives { valid = false } }
refused_in texts for_first = with_errors for_first (refusal texts ∷ [])
refused_in texts for_all = with_errors for_all (refusal texts ∷ [])
refused_in texts for_units = record { mode = for_units; verdict = false; errors = []; gives = record no_gives { valid = false; errors = described texts ∷ [] } }

-- the errors, and the unit, depending on whether the keyword holds
abbrev pub refusals : Bool → Bool → List Fault
refusals texts holds = if holds then [] else refusal texts ∷ []

abbrev pub unit_of : Bool → Bool → Gives
unit_of texts holds = record no_gives { valid = holds; errors = if holds then [] else described texts ∷ [] }

-- the answer at the end: unchanged if the keyword holds, and otherwise one that refuses
abbrev pub told : Bool → Bool → Answer → Answer
told texts holds a = if holds then a else refused_in texts a.mode

-- ---- this answer is right in each mode

pub told_verdict : (texts b : Bool) → (told texts b (fresh for_verdict)).verdict ≡ b
told_verdict texts true = refl
told_verdict texts false = refl

pub told_first : (texts b : Bool) → (told texts b (fresh for_first)).errors ≡ first_fault (refusals texts b)
told_first texts true = refl
told_first texts false = refl

pub told_all : (texts b : Bool) → (told texts b (fresh for_all)).errors ≡ refusals texts b
told_all texts true = refl
told_all texts false = refl

pub told_gives : (texts b : Bool) → (told texts b (fresh for_units)).gives ≡ unit_of texts b
told_gives texts true = refl
told_gives texts false = refl

pub told_valid : (texts b : Bool) → (told texts b (fresh for_units)).verdict ≡ b
told_valid texts true = refl
told_valid texts false = refl

-- ---- and so are the errors and the unit

pub agree : (texts b : Bool) → (b ≡ true) ↔ (refusals texts b ≡ [])
agree texts true = (λ h. refl, λ h. refl)
agree texts false = (λ h. cc, λ h. cc)

pub refusals_stand : (texts : Bool) (s : Subject) (b : Bool) → All (StandsInside s []) (refusals texts b)
refusals_stand texts s true = All-nil _
refusals_stand texts s false = All-cons (StandsInside s []) _ [] (refl, ([], refl), tt) (All-nil _)

pub refusals_pass : (texts : Bool) (a : Answers) (qs : List Question) (b : Bool) → All (PassesUnchanged a qs) (refusals texts b)
refusals_pass texts a qs true = All-nil _
refusals_pass texts a qs false = All-cons (PassesUnchanged a qs) _ [] tt (All-nil _)

pub and_true : (b : Bool) → (b && true) ≡ b
and_true true = refl
and_true false = refl
