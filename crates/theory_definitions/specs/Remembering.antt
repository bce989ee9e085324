-- What two runs for the verdict of one question have in common if they differ only in the
-- evaluation path, and when an unfinished match that is met again adds nothing to remember. (Core
-- 2020-12, 12.4.2, keyword location)
use Rattle.std.specs.Prelude.{List, [], is_some, suc, true, zero, ℕ, ◌||◌, ◌∷◌, ◌≡◌}
use Rattle.theory_definitions.specs.Instance.{Place, Subject, Text}
use Rattle.theory_definitions.specs.Matching.{Assumptions, Completion, Matcher, assumed}
use Rattle.theory_definitions.specs.Keywords.{Keywords, Reply, Turn, ask, for_verdict, no_reply}
use Rattle.theory_definitions.specs.Runs.{Met, Run}
use Rattle.theory_definitions.specs.Unfinished.{Remembered, site_of}
use Rattle.theory_definitions.specs.Guarded.{Nodes, guarded_node, guarded_within, node_outcome, yes_outcome, yes_run}

-- ---- what two runs have in common

-- The same match, met both times at a site with an instance path, or both times at one without.
abbrev pub SameMet : Met → Met → Type 0
SameMet a b = (a.pair ≡ b.pair) × (is_some a.site.located ≡ is_some b.site.located)

-- The same matches in the same order.
abbrev pub SameMets : List Met → List Met → Type 0
SameMets [] [] = Unit {0}
SameMets (a ∷ xs) (b ∷ ys) = SameMet a b × SameMets xs ys
SameMets [] (b ∷ ys) = ⊥
SameMets (a ∷ xs) [] = ⊥

-- Two runs for the verdict return the same verdict, and meet the same matches; and two runs for the
-- span return the same span, and meet the same matches.
pub record SameRuns (a b : Run) : Type 0 where
  pub verdict : (a.outcome tt).verdict ≡ (b.outcome tt).verdict
  pub met : SameMets (a.met for_verdict) (b.met for_verdict)
  pub spans : (a.outcome tt).spans ≡ (b.outcome tt).spans
  pub spanning : SameMets a.spanning b.spanning

-- ---- a run for the verdict asks only for verdicts

-- If the turn asks a question, it asks for the verdict.
abbrev pub AsksVerdict : Turn → Type 0
AsksVerdict (ask q mode) = mode ≡ for_verdict
AsksVerdict _ = Unit {0}

module _ {K R : Type 0} (keywords : Keywords K R) where
  -- In the next n turns the run asks only for verdicts, whatever the replies are.
  abbrev pub AlwaysAsksVerdict : K → Subject → ℕ → R → Reply → Type 0
  AlwaysAsksVerdict m s zero r reply = Unit {0}
  AlwaysAsksVerdict m s (suc n) r reply = AsksVerdict (keywords.step m s r reply) × ((next : Reply) → AlwaysAsksVerdict m s n (keywords.turn m s r reply) next)

  -- Each run for the verdict asks only for verdicts.
  abbrev pub EachAsksVerdicts : Type 0
  EachAsksVerdicts = (m : K) (s : Subject) → AlwaysAsksVerdict m s (keywords.most_turns m s) (keywords.begin m s for_verdict) no_reply

  -- ---- the verdict of a question is the same with every evaluation path

  -- A question has the same verdict with every evaluation path.
  abbrev pub PathsKeepVerdicts : Type 0
  PathsKeepVerdicts = (matcher : Matcher) (nodes : Nodes K) (subject_of : Place → Subject) (c : Completion) (n i : ℕ) (path path' : Text) (p : Place) (busy : List ℕ)
      → (guarded_within yes_outcome (node_outcome keywords matcher nodes subject_of c) n i path p busy).verdict ≡ (guarded_within yes_outcome (node_outcome keywords matcher nodes subject_of c) n i path' p busy).verdict

  -- The run for the verdict meets the same matches with every evaluation path, if keywords ask only
  -- for verdicts.
  abbrev pub PathsKeepRuns : Type 0
  PathsKeepRuns = EachAsksVerdicts → (matcher : Matcher) (nodes : Nodes K) (subject_of : Place → Subject) (as' : Assumptions) (n i : ℕ) (path path' : Text) (p : Place) (busy : List ℕ)
      → SameRuns (guarded_within (yes_run nodes) (guarded_node keywords matcher nodes subject_of as') n i path p busy) (guarded_within (yes_run nodes) (guarded_node keywords matcher nodes subject_of as') n i path' p busy)

-- ---- what is remembered of matches

-- Nothing is left to remember of this match.
abbrev pub HasMet : Remembered → Met → Type 0
HasMet r m = (is_some (assumed r.assumptions m.pair) || is_some r.unassumed ≡ true) × (is_some m.site.located ≡ true → is_some (site_of r.located m.pair) ≡ true)
