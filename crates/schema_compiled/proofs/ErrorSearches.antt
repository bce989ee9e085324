-- What a search over the nodes' errors answers, is what is said of the calls.
use Rattle.std.proofs.Common.{◌≤◌, ◌≡◌, ◌∙◌, ◌&&◌, ◌⊎◌, inl, inr, ℕ, zero, Bool, true, false, List, [], ◌∷◌, refl, sym, ap, subst, arith, map, Some, None}
use Rattle.std.specs.Prelude.{All, Contains, IfSome, Option, find, is_none, is_some, not, option_map, slice_get, unwrap_or}
use Rattle.std.specs.Global.{Vec}
use Rattle.std.proofs.lemmas.List.Elements.{All-cons, All-contains, All-contains_itself, All-head, All-nil, All-tail, All-weaker}
use Rattle.serde_json.specs.Data.{Data}
use Rattle.theory_definitions.specs.Instance.{Place, Subject, Text, a_value, subject_at}
use Rattle.schema_reports.specs.InstanceViews.{subject_of}
use Rattle.theory_definitions.specs.Reports.{Error, Outcome, report_of}
use Rattle.theory_definitions.specs.Matching.{Assumptions, Completion, Extends, Matcher, assumed, completion_of}
use Rattle.theory_definitions.specs.Keywords.{Keywords, for_all, for_first, for_units}
use Rattle.theory_definitions.specs.Runs.{Met, Run, first_error}
use Rattle.theory_definitions.specs.Unfinished.{Failure, Remembered, starting}
use Rattle.theory_definitions.specs.Cover.{Call, Cover, Decides, Sense, branch_at, evaluate, is_valid, iter_errors, mode_of, validate, whole}
use Rattle.theory_meaning.specs.Headline.{ErrorsOf, ErrorsSay, FirstSays, IsFailure, OneFailure, VerdictSays, shown_at}
use Rattle.theory_definitions.specs.Laws.{Agrees, EachKeeps}
use Rattle.theory_meaning.specs.Members.{Finishes, Follows, Speaks, is_nil, verdict_of}
use Rattle.theory_meaning.specs.Shared.{errors_of}
use Rattle.unfinished_search.specs.SharedResults.{is_empty}
use Rattle.unfinished_search.specs.Outcomes.{errors_in, none_in}
use Rattle.theory_meaning.specs.Searched.{IsRunOf, WantsAllLater}
use Rattle.unfinished_search.specs.SearchGives.{FailureAlone, GivesErrors, OfRun}
use Rattle.theory_definitions.specs.Guarded.{Nodes, guarded_units}
use Rattle.theory_meaning.specs.Numbered.{subject_in}
use Rattle.schema_reports.specs.UnitViews.{unit_of}
use Rattle.schema_reports.specs.declared.evaluation.EvaluationNode.{EvaluationNode}
use Rattle.theory_meaning.proofs.GuardedSense.{guarded_speaks}
use Rattle.schema_output.specs.ErrorUnits.{errors_unit}
use Rattle.schema_compiled.specs.Evaluated.{EvaluationAnswered}
use Rattle.schema_reports.specs.ReportViews.{BorrowsItsPlace, error_of}
use Rattle.schema_reports.specs.declared.reports.ValidationError.{ValidationError}
use Rattle.theory_meaning.proofs.CoverCounts.{pairs_differ}
use Rattle.theory_meaning.proofs.ErrorsLead.{Stands}
use Rattle.theory_meaning.proofs.Finishing.{nodes_decide}
use Rattle.theory_meaning.proofs.ShownPlaces.{shown_stands}
use Rattle.theory_meaning.proofs.Sentences.{errors_say, evaluate_later, first_says, listed_alone, validate_later, verdict_says}
use Rattle.theory_meaning.proofs.SitesInside.{MetInside, sites_inside}
use Rattle.schema_run_context.specs.Matches.{MeetsEach}
use Rattle.schema_compiled.specs.Spoken.{ErrorsAnswered, FirstAnswered, IsGiven}
use Rattle.schema_compiled.proofs.Remembers.{remembers_of}
use Rattle.schema_compiled.proofs.Searches.{follows, outcome, reached_has, run_with, search_runs, sense}

-- ---- errors and no errors

nil_told : (texts : Bool) (es : List ValidationError) → is_empty es ≡ is_nil (map (error_of texts) es)
nil_told texts [] = refl
nil_told texts (e ∷ es) = refl

nil_agrees : (o : Outcome) → Agrees o → is_nil o.errors ≡ o.verdict
nil_agrees o a = go o.verdict o.errors refl refl
  where
    go : (b : Bool) (es : List Error) → o.verdict ≡ b → o.errors ≡ es → is_nil es ≡ b
    go true [] e e' = refl
    go false (x ∷ es) e e' = refl
    go true (x ∷ es) e e' = absurd (let none : o.errors ≡ [] = a.0 e in cc)
    go false [] e e' = absurd (let yes : o.verdict ≡ true = a.1 e' in cc)

none_first : (o : Option Error) (es : List Error) → o ≡ first_error es → is_none o ≡ is_nil es
none_first o [] e = ap is_none e
none_first o (x ∷ es) e = ap is_none e

none_mapped : (texts : Bool) (o : Option ValidationError) → is_none o ≡ is_none (option_map (error_of texts) o)
none_mapped texts None = refl
none_mapped texts (Some e) = refl

none_head : (es : List ValidationError) → is_none (slice_get es 0) ≡ is_empty es
none_head [] = refl
none_head (e ∷ es) = refl

head_mapped : (texts : Bool) (es : List ValidationError) → first_error (map (error_of texts) es) ≡ option_map (error_of texts) (slice_get es 0)
head_mapped texts [] = refl
head_mapped texts (e ∷ es) = refl

of_mapped : (P : Error → Type 0) (f : ValidationError → Error) (es : List ValidationError) → All P (map f es) → All (λ e. P (f e)) es
of_mapped P f [] h = All-nil (λ e. P (f e))
of_mapped P f (e ∷ es) h = All-cons (λ e. P (f e)) e es (All-head P (f e) (map f es) h) (of_mapped P f es (All-tail P (f e) (map f es) h))

-- errors that an outcome produces
given_of : (v : Sense) (texts : Bool) (es : List ValidationError) (c : Completion) → map (error_of texts) es ≡ (v.says c).errors → All (IsGiven v texts) es
given_of v texts es c e = All-weaker (λ x. Contains (v.says c).errors (error_of texts x)) (IsGiven v texts) (λ x inside. (c, inside)) es
    (of_mapped (Contains (v.says c).errors) (error_of texts) es (subst (All (Contains (v.says c).errors)) (sym e) (All-contains_itself (v.says c).errors)))

in_first : (es : List Error) (x : Error) → Some x ≡ first_error es → Contains es x
in_first [] x e = absurd (cc e)
in_first (y ∷ es) x e = let same : y ≡ x = cc in (zero, omega arith, same)

any_error : Error
any_error = record { place = []; schema_path = []; evaluation_path = []; absolute = None; name = []; text = [] }

-- ---- what an error of the failure borrows

from_some : (o : Option Subject) (x d : Subject) → is_some o ≡ true → x ≡ unwrap_or o d → o ≡ Some x
from_some None x d h e = absurd (cc h)
from_some (Some y) x d h e = ap Some (sym e)

failure_stands : (instance : Data) (met : Met) → MetInside instance met → (path : Text) (place : Place) → ◌≡◌ {A = Text × Place} (path, place) (shown_at (unwrap_or met.site.located (met.site.schema_path, []))) → Stands instance place
failure_stands instance met inside path place e = go met.site.located refl e
  where
    go : (o : Option (Text × Place)) → met.site.located ≡ o → ◌≡◌ {A = Text × Place} (path, place) (shown_at (unwrap_or o (met.site.schema_path, []))) → Stands instance place
    go None is e' = subst (Stands instance) (sym (ap (λ (l : Text × Place). l.1) e')) refl
    go (Some l) is e' = subst (Stands instance) (sym (ap (λ (x : Text × Place). x.1) e')) (shown_stands instance l.1 (inside l.0 l.1 is))

-- of calls that make so many runs at most
module _ {K R : Type 0} (keywords : Keywords K R) (each : EachKeeps keywords) (matcher : Matcher) (nodes : Nodes K) (instance : Data) (root n most : ℕ) (some_run : 1 ≤ most) where
  abbrev v : Sense
  v = sense keywords each matcher nodes instance root n

  abbrev run_under : Assumptions → Run
  run_under as' = run_with keywords each matcher nodes instance root n as'

  follows_it : Follows v
  follows_it = follows keywords each matcher nodes instance root n

  told : (as' : Assumptions) (es : List Error) → es ≡ ((run_under as').outcome tt).errors → es ≡ errors_of v as'
  told as' es e = e ∙ ap (λ (o : Outcome). o.errors) (outcome keywords each matcher nodes instance root n as')

  -- ---- a first run that meets no unfinished match is the only one

  no_branch : (call : Call) (r : Remembered) → MeetsEach matcher (starting []) ((run_under []).met (mode_of call [])) r → r.unassumed ≡ None → branch_at v call [] ≡ None
  no_branch call r met none = let h = remembers_of matcher v call [] r refl met in sym h.first ∙ ap (option_map (λ (f : Failure). f.met)) none

  module _ (call : Call) (none : branch_at v call [] ≡ None) where
    alone : Cover v call [] ([] ∷ [])
    alone = whole none

    decides : Decides v most call
    decides = ([] ∷ [], alone, omega arith)

    no_failure : (m : Met) → branch_at v call [] ≡ Some m → IsFailure v most call any_error
    no_failure m e = absurd (cc (sym none ∙ e))

    verdict_alone : (b : Bool) → b ≡ verdict_of v [] → VerdictSays v most call b
    verdict_alone b e = subst (VerdictSays v most call) (and_true (verdict_of v []) ∙ sym e) (verdict_says v call follows_it ([] ∷ []) alone most (omega arith))
      where
        and_true : (b : Bool) → (b && true) ≡ b
        and_true true = refl
        and_true false = refl

  nil_is : (es : List Error) → es ≡ errors_of v [] → is_nil es ≡ verdict_of v []
  nil_is es e = ap is_nil e ∙ nil_agrees (v.says (completion_of [])) (follows_it.agrees (completion_of []))

  errors_alone : branch_at v iter_errors [] ≡ None → (es : List Error) → es ≡ errors_of v [] → ErrorsSay v most es
  errors_alone none es e = subst (ErrorsSay v most) (listed_alone v [] any_error ∙ sym e) (errors_say v follows_it [] [] any_error most ([] ∷ []) (alone iter_errors none) refl (omega arith) (no_failure iter_errors none))

  first_alone : branch_at v validate [] ≡ None → (o : Option Error) → o ≡ first_error (errors_of v []) → FirstSays v most o
  first_alone none o e = subst (FirstSays v most) (ap first_error (listed_alone v [] any_error) ∙ sym e) (first_says v follows_it [] [] any_error most ([] ∷ []) (alone validate none) refl (omega arith) (no_failure validate none))

  errors_whole : (texts : Bool) (es : List ValidationError) → map (error_of texts) es ≡ ((run_under []).outcome tt).errors → branch_at v iter_errors [] ≡ None → ErrorsAnswered v most texts es
  errors_whole true es says branch = errors_alone branch (map (error_of true) es) (told [] _ says)
  errors_whole false es says branch = record {
    verdict = verdict_alone iter_errors branch (is_empty es) (nil_told false es ∙ nil_is (map (error_of false) es) (told [] _ says));
    given = inl (given_of v false es (completion_of []) (told [] _ says));
    undecided = λ not. absurd (not (decides iter_errors branch));
    alone = λ e. errors_alone branch (map (error_of false) es) (told [] _ says);
  }

  first_whole : (texts : Bool) (o : Option ValidationError) → option_map (error_of texts) o ≡ first_error ((run_under []).outcome tt).errors → branch_at v validate [] ≡ None → FirstAnswered v most texts o
  first_whole texts o says branch = go texts o (says ∙ ap (λ (o : Outcome). first_error o.errors) (outcome keywords each matcher nodes instance root n []))
    where
      given : (o : Option ValidationError) → option_map (error_of false) o ≡ first_error (errors_of v []) → IfSome o (λ e. IsGiven v false e ⊎ IsFailure v most validate (error_of true e))
      given None e = tt
      given (Some x) e = inl (completion_of [], in_first (errors_of v []) (error_of false x) e)

      go : (texts : Bool) (o : Option ValidationError) → option_map (error_of texts) o ≡ first_error (errors_of v []) → FirstAnswered v most texts o
      go true o e = first_alone branch (option_map (error_of true) o) e
      go false o e = record {
        verdict = verdict_alone validate branch (is_none o) (none_mapped false o ∙ none_first (option_map (error_of false) o) (errors_of v []) e ∙ nil_is (errors_of v []) refl);
        given = given o e;
        undecided = λ not. absurd (not (decides validate branch));
        alone = λ k. first_alone branch (option_map (error_of false) o) e;
      }

  pub errors_first : (texts : Bool) (es : List ValidationError) (r : Remembered) → map (error_of texts) es ≡ ((run_under []).outcome tt).errors → MeetsEach matcher (starting []) ((run_under []).met for_all) r → r.unassumed ≡ None → ErrorsAnswered v most texts es
  errors_first texts es r says met none = errors_whole texts es says (no_branch iter_errors r met none)

  pub first_first : (texts : Bool) (o : Option ValidationError) (r : Remembered) → option_map (error_of texts) o ≡ first_error ((run_under []).outcome tt).errors → MeetsEach matcher (starting []) ((run_under []).met for_first) r → r.unassumed ≡ None → FirstAnswered v most texts o
  first_first texts o r says met none = first_whole texts o says (no_branch validate r met none)

  -- ---- a matcher that finishes every match: no run meets an unfinished one, so "valid" means that there is no error

  module _ (finishes : Finishes matcher) where
    none_met : (call : Call) → branch_at v call [] ≡ None
    none_met call = ap (find (λ (m : Met). not (is_some (assumed [] m.pair)))) ((nodes_decide keywords matcher finishes nodes (subject_in instance) n root).meets_none call [])

    no_error : true ≡ ((run_under []).outcome tt).verdict → [] ≡ ((run_under []).outcome tt).errors
    no_error accepts =
        let agrees : Agrees ((run_under []).outcome tt) = subst Agrees (sym (outcome keywords each matcher nodes instance root n [])) (follows_it.agrees (completion_of [])) in
        sym (agrees.0 (sym accepts))

    pub verdict_at_once : (valid : Bool) → valid ≡ ((run_under []).outcome tt).verdict → VerdictSays v most is_valid valid
    verdict_at_once valid says = verdict_alone is_valid (none_met is_valid) valid (says ∙ ap (λ (o : Outcome). o.verdict) (outcome keywords each matcher nodes instance root n []))

    pub errors_at_once : (texts : Bool) → true ≡ ((run_under []).outcome tt).verdict → ErrorsAnswered v most texts []
    errors_at_once texts accepts = errors_whole texts [] (no_error accepts) (none_met iter_errors)

    pub first_at_once : (texts : Bool) → true ≡ ((run_under []).outcome tt).verdict → FirstAnswered v most texts None
    first_at_once texts accepts = first_whole texts None (ap first_error (no_error accepts)) (none_met validate)

  -- ---- an evaluation whose first run meets no unfinished match

  -- what a run without assumptions says of a completion, with its units
  speaks_for : (c : Completion) → Speaks [] (run_under []) (v.says c) (guarded_units keywords matcher nodes (subject_in instance) c n root [] [] [])
  speaks_for c = guarded_speaks keywords matcher nodes (subject_in instance) (λ m. (each m).0) (λ m. (each m).1) [] c (λ a b is. absurd (cc is)) (λ a b is. absurd (cc is)) n root [] [] []

  unit_verdict : (texts : Bool) (u : EvaluationNode) → unit_of texts u ≡ (run_under []).units tt → (report_of (unit_of texts u)).valid ≡ verdict_of v []
  unit_verdict texts u e = ap (λ u. (report_of u).valid) e ∙ (speaks_for (completion_of [])).run_valid ∙ ap (λ (o : Outcome). o.verdict) (outcome keywords each matcher nodes instance root n [])

  pub evaluated_first : (texts : Bool) (u : EvaluationNode) (r : Remembered) → unit_of texts u ≡ (run_under []).units tt → MeetsEach matcher (starting []) ((run_under []).met for_units) r → r.unassumed ≡ None → EvaluationAnswered v most texts u
  evaluated_first texts u r says met none =
      let branch = no_branch evaluate r met none in
      record { makes_one = some_run; verdict = verdict_alone evaluate branch (report_of (unit_of texts u)).valid (unit_verdict texts u says); apart = λ some. absurd (some branch) }

  pub units_first : (texts : Bool) (u : EvaluationNode) → unit_of texts u ≡ (run_under []).units tt → branch_at v evaluate [] ≡ None → (c : Completion)
      → unit_of texts u ≡ guarded_units keywords matcher nodes (subject_in instance) c n root [] [] []
  units_first texts u says branch c = says ∙ (speaks_for c).units branch

  -- a first run that meets one has a branch
  pub units_searched : (r : Remembered) → r.assumptions ≡ [] → is_some r.unassumed ≡ true → MeetsEach matcher (starting []) ((run_under []).met for_units) r → branch_at v evaluate [] ≡ None → ⊥
  units_searched r none some met e = go r.unassumed some ((remembers_of matcher v evaluate [] r refl met).first ∙ e)
    where
      go : (o : Option Failure) → is_some o ≡ true → option_map (λ (f : Failure). f.met) o ≡ None → ⊥
      go None h k = absurd (cc h)
      go (Some f) h k = absurd (cc k)

  -- ---- a search, by a closure whose states have what the first one has

  module _ {S : Type 0} (Step : S → Remembered → Remembered → Vec ValidationError → S → Type 0) (start : S) (Has : S → Type 0) (begins : Has start)
      (keeps : (s : S) (given r : Remembered) (es : Vec ValidationError) (end : S) → Has s → Step s given r es end → Has end) (first : Remembered) (none : first.assumptions ≡ []) where
    -- each step from such a state is the run for all errors
    abbrev pub AreRuns : Bool → Type 0
    AreRuns texts = (s : S) (as' : Assumptions) (r : Remembered) (es : Vec ValidationError) (end : S) → Has s → Step s (starting as') r es end → Extends (completion_of as') as'
        → (map (error_of texts) es.items ≡ ((run_under as').outcome tt).errors) × MeetsEach matcher (starting as') ((run_under as').met for_all) r

    -- a fact about each step from such a state is one about each error of a run
    of_run : (call : Call) (P : ValidationError → Type 0) → ((s : S) (as' : Assumptions) (r : Remembered) (es : Vec ValidationError) (end : S) → Has s → Step s (starting as') r es end → Extends (completion_of as') as' → All P es.items)
        → (e : ValidationError) → OfRun v call Step start e → P e
    of_run call P h e o = All-contains P o.errors.items e (h o.before o.assumptions o.remembered o.errors o.after (reached_has keywords each matcher nodes instance root n Step start Has begins keeps o.before o.reaches) o.is_step (pairs_differ v call o.runs).1) o.gives

    module _ (call : Call) (later : WantsAllLater call) (met : MeetsEach matcher (starting []) ((run_under []).met (mode_of call [])) first) where
      spoken_runs : AreRuns true → IsRunOf v call Step first start errors_in (errors_of v)
      spoken_runs runs = search_runs keywords each matcher nodes instance root n Step start Has begins keeps call for_all later errors_in (errors_of v) first none met
          (λ s as' r es end has step once. let h = runs s as' r es end has step once in (told as' _ h.0, h.1))

      pub none_runs : (texts : Bool) → AreRuns texts → IsRunOf v call Step first start none_in (λ m. is_nil (errors_of v m))
      none_runs texts runs = search_runs keywords each matcher nodes instance root n Step start Has begins keeps call for_all later none_in (λ m. is_nil (errors_of v m)) first none met
          (λ s as' r es end has step once. let h = runs s as' r es end has step once in (nil_told texts es.items ∙ ap is_nil (told as' _ h.0), h.1))

      some_branch : is_some first.unassumed ≡ true → branch_at v call [] ≡ None → ⊥
      some_branch some e = go first.unassumed some ((remembers_of matcher v call [] first refl met).first ∙ e)
        where
          go : (o : Option Failure) → is_some o ≡ true → option_map (λ (f : Failure). f.met) o ≡ None → ⊥
          go None h k = absurd (cc h)
          go (Some f) h k = absurd (cc k)

      each_given : AreRuns false → (e : ValidationError) → OfRun v call Step start e → IsGiven v false e
      each_given runs = of_run call (IsGiven v false) (λ s as' r es end has step once. given_of v false es.items (completion_of as') (told as' _ (runs s as' r es end has step once).0))

      -- every returned error borrows the value at its place, if each run's errors do
      pub borrowed : (texts : Bool) → AreRuns texts → ((s : S) (as' : Assumptions) (r : Remembered) (es : Vec ValidationError) (end : S) → Has s → Step s (starting as') r es end → All (BorrowsItsPlace instance) es.items)
          → (es : List ValidationError) → ((u : Sense) (call' : Call) → IsRunOf u call' Step first start none_in (λ m. is_nil (errors_of u m)) → GivesErrors u call' most Step start instance es) → All (BorrowsItsPlace instance) es
      borrowed texts runs borrows es gives = elim (gives v call (none_runs texts runs)).each [
        | inl all ↦ All-weaker (OfRun v call Step start) (BorrowsItsPlace instance) (of_run call (BorrowsItsPlace instance) (λ s as' r es' end has step once. borrows s as' r es' end has step)) es all
        | inr f ↦ subst (All (BorrowsItsPlace instance)) (sym f.alone) (All-cons (BorrowsItsPlace instance) f.error [] (at_failure f.error f.is f.instance) (All-nil (BorrowsItsPlace instance)))
      ]
        where
          at_failure : (e : ValidationError) → IsFailure v most call (error_of true e) → subject_of e.instance ≡ unwrap_or (subject_at instance e.place) (a_value instance) → BorrowsItsPlace instance e
          at_failure e is at = from_some (subject_at instance e.place) (subject_of e.instance) (a_value instance)
              (failure_stands instance is.met (All-contains (MetInside instance) (v.meets call is.run) is.met (sites_inside instance keywords each matcher nodes n root call is.run) is.meets) e.evaluation_path e.place is.located) at

    failure_of : (call : Call) (es : List ValidationError) → FailureAlone v call most instance es → OneFailure v most call (map (error_of true) es)
    failure_of call es f = (error_of true f.error, f.is, ap (map (error_of true)) f.alone)

    -- ---- all errors

    abbrev pub SaysErrors : Vec ValidationError → Type 0
    SaysErrors es = (u : Sense) (call : Call) → WantsAllLater call → Follows u → IsRunOf u call Step first start errors_in (errors_of u) → ErrorsOf u most call (errors_in es)

    abbrev pub SaysVerdict : Vec ValidationError → Type 0
    SaysVerdict es = (u : Sense) (call : Call) → Follows u → IsRunOf u call Step first start none_in (λ m. is_nil (errors_of u m)) → VerdictSays u most call (none_in es)

    abbrev pub Gives : Vec ValidationError → Type 0
    Gives es = (u : Sense) (call : Call) → IsRunOf u call Step first start none_in (λ m. is_nil (errors_of u m)) → GivesErrors u call most Step start instance es.items

    pub errors_searched : (texts : Bool) → AreRuns texts → MeetsEach matcher (starting []) ((run_under []).met for_all) first → is_some first.unassumed ≡ true → (es : Vec ValidationError) → SaysErrors es → SaysVerdict es → Gives es → ErrorsAnswered v most texts es.items
    errors_searched true runs met some es says verdict gives = says v iter_errors (λ as' k. refl) follows_it (spoken_runs iter_errors (λ as' k. refl) met runs)
    errors_searched false runs met some es says verdict gives =
        let is = none_runs iter_errors (λ as' k. refl) met false runs in
        let given = gives v iter_errors is in
        record {
          verdict = verdict v iter_errors follows_it is;
          given = elim given.each [
            | inl all ↦ inl (All-weaker (OfRun v iter_errors Step start) (IsGiven v false) (each_given iter_errors (λ as' k. refl) met runs) es.items all)
            | inr f ↦ inr (failure_of iter_errors es.items f)
          ];
          undecided = λ not. failure_of iter_errors es.items (given.undecided not);
          alone = λ e. absurd (some_branch iter_errors (λ as' k. refl) met some e);
        }

    -- ---- units that are made of errors

    no_error_valid : (es : List Error) → (report_of (errors_unit es)).valid ≡ is_nil es
    no_error_valid [] = refl
    no_error_valid (e ∷ es) = refl

    pub evaluated_searched : (texts : Bool) → AreRuns texts → MeetsEach matcher (starting []) ((run_under []).met for_units) first → (es : Vec ValidationError) → SaysErrors es → SaysVerdict es → Gives es
        → (u : EvaluationNode) → unit_of texts u ≡ errors_unit (map (error_of texts) es.items) → EvaluationAnswered v most texts u
    evaluated_searched texts runs met es says verdict gives u made =
        let is = none_runs evaluate evaluate_later met texts runs in
        let given = gives v evaluate is in
        let valid : is_empty es.items ≡ (report_of (unit_of texts u)).valid = nil_told texts es.items ∙ sym (no_error_valid (map (error_of texts) es.items)) ∙ sym (ap (λ u. (report_of u).valid) made) in
        record {
          makes_one = some_run;
          verdict = subst (VerdictSays v most evaluate) valid (verdict v evaluate follows_it is);
          apart = λ some. record {
            errors = es.items;
            made = made;
            given = elim given.each [
              | inl all ↦ inl (All-weaker (OfRun v evaluate Step start) (IsGiven v texts) (of_run evaluate (IsGiven v texts) (λ s as' r es end has step once. given_of v texts es.items (completion_of as') (told as' _ (runs s as' r es end has step once).0))) es.items all)
              | inr f ↦ inr (failure_of evaluate es.items f)
            ];
            undecided = λ not. failure_of evaluate es.items (given.undecided not);
            shared = λ spoken. says v evaluate evaluate_later follows_it (spoken_runs evaluate evaluate_later met (subst AreRuns spoken runs));
          };
        }

    -- ---- the first one

    pub first_searched : (texts : Bool) → AreRuns texts → MeetsEach matcher (starting []) ((run_under []).met for_first) first → is_some first.unassumed ≡ true → (es : Vec ValidationError)
        → ((u : Sense) → Follows u → IsRunOf u validate Step first start errors_in (errors_of u) → FirstSays u most (first_error (errors_in es))) → SaysVerdict es → Gives es → FirstAnswered v most texts (slice_get es.items 0)
    first_searched true runs met some es says verdict gives = subst (FirstSays v most) (head_mapped true es.items) (says v follows_it (spoken_runs validate validate_later met runs))
    first_searched false runs met some es says verdict gives =
        let is = none_runs validate validate_later met false runs in
        let given = gives v validate is in
        record {
          verdict = subst (VerdictSays v most validate) (sym (none_head es.items)) (verdict v validate follows_it is);
          given = elim given.each [ inl all ↦ of_all es.items all | inr f ↦ subst (λ xs. IfSome (slice_get xs 0) (λ e. IsGiven v false e ⊎ IsFailure v most validate (error_of true e))) (sym f.alone) (inr f.is) ];
          undecided = λ not. let f = given.undecided not in (error_of true f.error, f.is, ap (λ xs. option_map (error_of true) (slice_get xs 0)) f.alone);
          alone = λ e. absurd (some_branch validate validate_later met some e);
        }
      where
        of_all : (xs : List ValidationError) → All (OfRun v validate Step start) xs → IfSome (slice_get xs 0) (λ e. IsGiven v false e ⊎ IsFailure v most validate (error_of true e))
        of_all [] all = tt
        of_all (x ∷ xs) all = inl (each_given validate validate_later met runs x (All-head (OfRun v validate Step start) x xs all))

-- what all errors have, the first one has
pub first_has : (P : ValidationError → Type 0) (es : List ValidationError) → All P es → IfSome (slice_get es 0) P
first_has P [] h = tt
first_has P (e ∷ es) h = All-head P e es h
