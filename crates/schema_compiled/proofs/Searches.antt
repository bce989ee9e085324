-- The runs of a search over unfinished matches are those of the nodes' sense.
use Rattle.std.proofs.Common.{◌≡◌, ◌≤◌, ◌∙◌, ℕ, Bool, true, false, ◌&&◌, List, [], ◌∷◌, refl, sym, ap, subst, arith, IfOk, Ok, Err, Result}
use Rattle.std.specs.Prelude.{Option, Some, None, is_some, option_map}
use Rattle.serde_json.specs.Data.{Data}
use Rattle.theory_definitions.specs.Reports.{Error, Outcome}
use Rattle.theory_definitions.specs.Matching.{Assumptions, Extends, Match, Matcher, completion_of, finished, unfinished}
use Rattle.theory_definitions.specs.Keywords.{Keywords, Mode, all_of_it, first_of_it, for_verdict, truth}
use Rattle.theory_definitions.specs.Runs.{Run}
use Rattle.theory_definitions.specs.Unfinished.{Failure, Remembered, starting}
use Rattle.theory_definitions.specs.Cover.{Call, Cover, Sense, branch_at, is_valid, mode_of, whole}
use Rattle.theory_meaning.specs.Headline.{VerdictSays}
use Rattle.theory_meaning.specs.Members.{Finishes, Follows, verdict_of}
use Rattle.theory_meaning.specs.Searched.{IsRunOf, Reaches, here, next}
use Rattle.theory_definitions.specs.Laws.{EachKeeps}
use Rattle.theory_definitions.specs.Guarded.{Nodes, guarded_node, guarded_sense, guarded_within, yes_run}
use Rattle.theory_meaning.specs.Numbered.{subject_in}
use Rattle.theory_meaning.proofs.CoverCounts.{pairs_differ}
use Rattle.theory_meaning.proofs.GuardedSense.{all_nodes_follow}
use Rattle.theory_meaning.proofs.NodeRuns.{runs_say_outcomes}
use Rattle.theory_meaning.proofs.Sentences.{verdict_says}
use Rattle.schema_run_context.specs.Matches.{MeetsEach}
use Rattle.schema_traits.specs.MatcherViews.{FinishesEach}
use Rattle.schema_compiled.proofs.Remembers.{remembers_of}

module _ {K R : Type 0} (keywords : Keywords K R) (each : EachKeeps keywords) (matcher : Matcher) (nodes : Nodes K) (instance : Data) (root n : ℕ) where
  abbrev pub sense : Sense
  sense = guarded_sense keywords matcher nodes (subject_in instance) n root

  abbrev pub run_with : Assumptions → Run
  run_with as' = guarded_within (yes_run nodes) (guarded_node keywords matcher nodes (subject_in instance) as') n root [] [] []

  pub outcome : (as' : Assumptions) → (run_with as').outcome tt ≡ sense.says (completion_of as')
  outcome as' = (runs_say_outcomes keywords matcher nodes (subject_in instance) as' n root [] [] []).0

  pub follows : Follows sense
  follows = all_nodes_follow keywords each matcher nodes (subject_in instance) n root

  -- a first run that meets no unfinished match is the only one
  pub verdict_first : (most : ℕ) → 1 ≤ most → (b : Bool) (r : Remembered) → b ≡ ((run_with []).outcome tt).verdict → MeetsEach matcher (starting []) ((run_with []).met for_verdict) r → r.unassumed ≡ None → VerdictSays sense most is_valid b
  verdict_first most some b r says met none =
      let h = remembers_of matcher sense is_valid [] r refl met in
      let branch : branch_at sense is_valid [] ≡ None = sym h.first ∙ ap (option_map (λ (f : Failure). f.met)) none in
      let alone : Cover sense is_valid [] ([] ∷ []) = whole branch in
      subst (VerdictSays sense most is_valid) (and_true ((sense.says (completion_of [])).verdict) ∙ sym (says ∙ ap (λ (o : Outcome). o.verdict) (outcome [])))
      (verdict_says sense is_valid follows ([] ∷ []) alone most (omega arith))
    where
      and_true : (b : Bool) → (b && true) ≡ b
      and_true true = refl
      and_true false = refl

  -- the runs of a search, by a closure whose states have what the first one has
  module _ {S T : Type 0} (Step : S → Remembered → Remembered → T → S → Type 0) (start : S) (Has : S → Type 0) (begins : Has start)
      (keeps : (s : S) (given r : Remembered) (result : T) (end : S) → Has s → Step s given r result end → Has end) where
    pub reached_has : (s : S) → Reaches Step start s → Has s
    reached_has _ here = begins
    reached_has _ (next s given r result end at step) = keeps s given r result end (reached_has s at) step

    -- the first run has the call's own mode, the further ones may have another one
    pub search_runs : (call : Call) (mode : Mode) → ((as' : Assumptions) → ¬ (as' ≡ []) → mode_of call as' ≡ mode) → {V : Type 0} (view : T → V) (says : Assumptions → V) (first : Remembered) → first.assumptions ≡ []
        → MeetsEach matcher (starting []) ((run_with []).met (mode_of call [])) first
        → ((s : S) (as' : Assumptions) (r : Remembered) (result : T) (end : S) → Has s → Step s (starting as') r result end → Extends (completion_of as') as' → (view result ≡ says as') × MeetsEach matcher (starting as') ((run_with as').met mode) r)
        → IsRunOf sense call Step first start view says
    search_runs call mode later view says first none met h = record {
      assumes_none = none;
      remembers_first = remembers_of matcher sense call [] first refl met;
      remembers = λ s as' r result end at run some step. remembers_of matcher sense call as' r refl
          (subst (λ z. MeetsEach matcher (starting as') ((run_with as').met z) r) (sym (later as' some)) (h s as' r result end (reached_has s at) step (pairs_differ sense call run).1).1);
      gives = λ s as' r result end at run some step all. (h s as' r result end (reached_has s at) step (pairs_differ sense call run).1).0;
    }

    pub verdict_runs : (view : T → Bool) (first : Remembered) → first.assumptions ≡ [] → MeetsEach matcher (starting []) ((run_with []).met for_verdict) first
        → ((s : S) (as' : Assumptions) (r : Remembered) (b : T) (end : S) → Has s → Step s (starting as') r b end → Extends (completion_of as') as' → (view b ≡ ((run_with as').outcome tt).verdict) × MeetsEach matcher (starting as') ((run_with as').met for_verdict) r)
        → IsRunOf sense is_valid Step first start view (verdict_of sense)
    verdict_runs view first none met h = search_runs is_valid for_verdict (λ as' some. refl) view (verdict_of sense) first none met
        (λ s as' r b end has step once. let told = h s as' r b end has step once in (told.0 ∙ ap (λ (o : Outcome). o.verdict) (outcome as'), told.1))

-- ---- a matcher that leaves no match unfinished finishes each

pub finishes_of : (matcher : Matcher) → FinishesEach matcher → Finishes matcher
finishes_of matcher each pattern text = go (matcher.is_match pattern text) refl
  where
    go : (m : Match) → matcher.is_match pattern text ≡ m → (b : Bool) × (matcher.is_match pattern text ≡ finished b)
    go (finished b) e = (b, e)
    go (unfinished reason) e = absurd (each pattern text reason e)

-- ---- what is said of a result that is there

pub if_ok_each : {T E A : Type 0} (r : Result T E) (P : A → T → Type 0) → ((a : A) → IfOk r (P a)) → IfOk r (λ x. (a : A) → P a x)
if_ok_each (Ok x) P h = h
if_ok_each (Err e) P h = tt

pub none_of : {A : Type 0} (o : Option A) → is_some o ≡ false → o ≡ None
none_of None e = refl
none_of (Some x) e = absurd (cc e)

pub truth_is : (a b : Bool) → truth a ≡ truth b → a ≡ b
truth_is a b e = cc

pub first_is : (a b : Option Error) → first_of_it a ≡ first_of_it b → a ≡ b
first_is a b e = cc

pub errors_are : (a b : List Error) → all_of_it a ≡ all_of_it b → a ≡ b
errors_are a b e = cc
