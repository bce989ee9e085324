-- Unfinished matches that were met before, and are met again for the reasons that the matcher
-- reports.
use Rattle.std.proofs.Common.{◌≡◌, List, [], ◌∷◌, refl, subst, sym}
use Rattle.std.proofs.lemmas.List.Elements.{All-cons, All-head, All-nil, All-tail, All-weaker}
use Rattle.theory_definitions.specs.Matching.{Matcher, Reason, unfinished}
use Rattle.theory_definitions.specs.Runs.{Met}
use Rattle.theory_definitions.specs.Unfinished.{Failure, Remembered, meet}
use Rattle.theory_definitions.specs.Remembering.{HasMet, SameMet, SameMets}
use Rattle.theory_meaning.proofs.MetAgain.{all_same, meet_same, met_now, met_still, same_has_met}
use Rattle.schema_run_context.specs.Matches.{MeetsEach}
use Rattle.theory_runs.specs.Remembering.{Knows, KnowsEach}

abbrev with_reason : Met → Reason → Failure
with_reason m reason = record { met = m; reason = reason }

module _ (matcher : Matcher) where
  after_each : (r end : Remembered) (ms : List Met) (m : Met) → MeetsEach matcher r ms end → HasMet r m → HasMet end m
  after_each r end [] m e h = subst (λ z. HasMet z m) e h
  after_each r end (x ∷ ms) m e h = after_each (meet r (with_reason x e.0)) end ms m e.2 (met_still r (with_reason x e.0) m h)

  same_known : (r : Remembered) (a b : Met) → SameMet a b → Knows matcher r a → Knows matcher r b
  same_known r a b s k = (same_has_met r a b s k.0, (k.1.0, subst (λ z. matcher.is_match z.pattern z.subject ≡ unfinished k.1.0) s.0 k.1.1))

  -- Meeting a known match again does not change what is remembered.
  pub met_again : (r : Remembered) (ms : List Met) → KnowsEach matcher r ms → MeetsEach matcher r ms r
  met_again r [] h = refl
  met_again r (m ∷ ms) h =
      let k = All-head (Knows matcher r) m ms h in
      (k.1.0, k.1.1, subst (λ z. MeetsEach matcher z ms r) (sym (meet_same r (with_reason m k.1.0) k.0)) (met_again r ms (All-tail (Knows matcher r) m ms h)))

  -- A run knows the matches that it has met.
  pub met_is_known : (r end : Remembered) (ms : List Met) → MeetsEach matcher r ms end → KnowsEach matcher end ms
  met_is_known r end [] e = All-nil (Knows matcher end)
  met_is_known r end (m ∷ ms) e =
      let next : Remembered = meet r (with_reason m e.0) in
      All-cons (Knows matcher end) m ms (after_each next end ms m e.2 (met_now r (with_reason m e.0)), (e.0, e.1)) (met_is_known next end ms e.2)

  -- It still knows them after it meets others.
  pub known_stays : (r end : Remembered) (ms others : List Met) → KnowsEach matcher r ms → MeetsEach matcher r others end → KnowsEach matcher end ms
  known_stays r end ms others h e = All-weaker (Knows matcher r) (Knows matcher end) (λ m k. (after_each r end others m e k.0, k.1)) ms h

  -- The same with another path.
  pub known_by_path : (r : Remembered) (ms others : List Met) → SameMets ms others → KnowsEach matcher r ms → KnowsEach matcher r others
  known_by_path r ms others same h = all_same (Knows matcher r) (same_known r) ms others same h
