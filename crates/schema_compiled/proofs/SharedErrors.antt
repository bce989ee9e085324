-- The result of a search over the nodes' errors, by the call whose first run began it.
use Rattle.std.proofs.Common.{◌≡◌, ◌∙◌, ◌<◌, ◌≤◌, ℕ, Bool, List, true, false, suc, [], arith, length, subst}
use Rattle.std.specs.Prelude.{All, is_some}
use Rattle.std.specs.Global.{Vec}
use Rattle.serde_json.specs.Data.{Data}
use Rattle.serde_json.specs.View.{view}
use Rattle.serde_json.specs.declared.value.Value.{Value}
use Rattle.theory_definitions.specs.Cover.{Call, Sense, validate}
use Rattle.theory_definitions.specs.Keywords.{for_all}
use Rattle.theory_definitions.specs.Laws.{EachKeeps}
use Rattle.theory_definitions.specs.Matching.{Assumptions}
use Rattle.theory_definitions.specs.Runs.{first_error}
use Rattle.theory_definitions.specs.Unfinished.{Remembered, starting}
use Rattle.theory_meaning.specs.Headline.{ErrorsOf, FirstSays, VerdictSays}
use Rattle.theory_meaning.specs.Members.{Follows, is_nil}
use Rattle.theory_meaning.specs.Numbered.{left, subject_in}
use Rattle.theory_meaning.specs.Searched.{IsRunOf, Reaches, WantsAllLater}
use Rattle.theory_meaning.specs.Shared.{errors_of}
use Rattle.unfinished_search.specs.Outcomes.{errors_in, none_in}
use Rattle.unfinished_search.specs.RunCounts.{MakesFurther}
use Rattle.unfinished_search.specs.SearchGives.{GivesErrors}
use Rattle.schema_reports.specs.ReportViews.{BorrowsItsPlace}
use Rattle.schema_reports.specs.declared.reports.ValidationError.{ValidationError}
use Rattle.schema_node_table.specs.NodeTable.{numbered}
use Rattle.schema_run_context.specs.Works.{Asks, Budget}
use Rattle.schema_run_context.proofs.Matches.{nothing_twice}
use Rattle.schema_traits.specs.declared.keyword.Validate.{Ghosts as KeywordMembers}
use Rattle.schema_traits.specs.declared.matcher.Matcher.{Ghosts as MatcherMembers}
use Rattle.schema_compiled.specs.Asked.{RunListsErrors, RunMeets}
use Rattle.schema_compiled.specs.Program.{Program, Speaks}
use Rattle.schema_compiled.specs.SharedErrors.{AreShared, Begins}
use Rattle.schema_compiled.specs.Taken.{TakesByRuns}
use Rattle.schema_compiled.proofs.Taken.{takes_searched}
use Rattle.schema_compiled.proofs.Searches.{sense}
use Rattle.schema_compiled.proofs.ErrorSearches.{AreRuns, borrowed, errors_searched, evaluated_searched, first_searched, none_runs}

-- what two values have stays so of what they become
pub both_on : {A B : Type 0} {x y p : A} {u v q : B} → x ≡ y → u ≡ v → (y ≡ p) × (v ≡ q) → (x ≡ p) × (u ≡ q)
both_on h k has = (h ∙ has.0, k ∙ has.1)

-- a fact about a run of a program and an instance is one about their values
pub told_of : {C Run K M : Type 0} (keywords : KeywordMembers C Run K) (matchers : MatcherMembers M) (q p : Program C M) (v instance : Value) (as' : Assumptions) (r : Remembered) (es : List ValidationError)
    → RunListsErrors keywords matchers q (view v) as' es → RunMeets keywords matchers q (view v) for_all (starting as') r → All (BorrowsItsPlace (view v)) es → (q ≡ p) × (v ≡ instance)
    → RunListsErrors keywords matchers p (view instance) as' es × RunMeets keywords matchers p (view instance) for_all (starting as') r × All (BorrowsItsPlace (view instance)) es
told_of {C = C} {M = M} keywords matchers q p v instance as' r es lists meets borrows is =
    let here = subst (λ (x : Value). RunListsErrors keywords matchers q (view x) as' es × RunMeets keywords matchers q (view x) for_all (starting as') r × All (BorrowsItsPlace (view x)) es) is.1 (lists, meets, borrows) in
    subst (λ (x : Program C M). RunListsErrors keywords matchers x (view instance) as' es × RunMeets keywords matchers x (view instance) for_all (starting as') r × All (BorrowsItsPlace (view instance)) es) is.0 here

module _ {C Run K M : Type 0} (keywords : KeywordMembers C Run K) (matchers : MatcherMembers M) (p : Program C M) (instance : Data) (some_run : 1 ≤ p.runs) (each : (texts : Bool) → EachKeeps (keywords.words texts)) where
  -- a search by a closure whose states have what the first one has, each of whose steps from there is a run for all errors
  module _ {S : Type 0} (Step : S → Remembered → Remembered → Vec ValidationError → S → Type 0) (start : S) (Has : S → Type 0) (begins : Has start)
      (keeps : (s : S) (given r : Remembered) (es : Vec ValidationError) (end : S) → Has s → Step s given r es end → Has end) (first : Remembered) (none : first.assumptions ≡ []) where
    abbrev pub IsToldRun : Type 0
    IsToldRun = (s : S) (as' : Assumptions) (r : Remembered) (es : Vec ValidationError) (end : S) → Has s → Step s (starting as') r es end
        → RunListsErrors keywords matchers p instance as' es.items × RunMeets keywords matchers p instance for_all (starting as') r × All (BorrowsItsPlace instance) es.items

    -- each step is the run for all errors
    are_runs : IsToldRun → (texts : Bool) → Speaks keywords.shape keywords.words keywords.is_whole matchers.matching p instance texts → (n : ℕ) → left (numbered keywords.shape p.nodes) (length p.nodes) p.root (subject_in instance []) [] < n
        → AreRuns (keywords.words texts) (each texts) (matchers.matching p.matcher) (numbered keywords.shape p.nodes) instance p.root n p.runs some_run Step start Has begins keeps first none texts
    are_runs told texts speaks n enough s as' r es end has step once = let h = told s as' r es end has step in (h.0 texts speaks once n enough, h.1 texts speaks once n enough)

    shared_within : is_some first.unassumed ≡ true → IsToldRun → (es : Vec ValidationError)
        → ((u : Sense) (call : Call) → WantsAllLater call → Follows u → IsRunOf u call Step first start errors_in (errors_of u) → ErrorsOf u p.runs call (errors_in es))
        → ((u : Sense) → Follows u → IsRunOf u validate Step first start errors_in (errors_of u) → FirstSays u p.runs (first_error (errors_in es)))
        → ((u : Sense) (call : Call) → Follows u → IsRunOf u call Step first start none_in (λ m. is_nil (errors_of u m)) → VerdictSays u p.runs call (none_in es))
        → ((u : Sense) (call : Call) → IsRunOf u call Step first start none_in (λ m. is_nil (errors_of u m)) → GivesErrors u call p.runs Step start instance es.items)
        → AreShared keywords matchers p instance first es.items
    shared_within some told es says says_first verdict gives =
        let matcher = matchers.matching p.matcher in
        let nodes = numbered keywords.shape p.nodes in
        let deep = left nodes (length p.nodes) p.root (subject_in instance []) [] in
        let runs = are_runs told in
        record {
          errors = λ began texts speaks. (
            suc deep,
            λ n more.
                let enough : deep < n = omega (arith, more) in
                errors_searched (keywords.words texts) (each texts) matcher nodes instance p.root n p.runs some_run Step start Has begins keeps first none texts (runs texts speaks n enough) (began texts speaks nothing_twice n enough) some es says verdict gives,
          );
          first_error = λ began texts speaks. (
            suc deep,
            λ n more.
                let enough : deep < n = omega (arith, more) in
                first_searched (keywords.words texts) (each texts) matcher nodes instance p.root n p.runs some_run Step start Has begins keeps first none texts (runs texts speaks n enough) (began texts speaks nothing_twice n enough) some es says_first verdict gives,
          );
          units = λ began u made texts speaks. (
            suc deep,
            λ n more.
                let enough : deep < n = omega (arith, more) in
                evaluated_searched (keywords.words texts) (each texts) matcher nodes instance p.root n p.runs some_run Step start Has begins keeps first none texts (runs texts speaks n enough) (began texts speaks nothing_twice n enough) es says verdict gives u (made texts),
          );
          borrows = λ call later began.
              let speaks : Speaks keywords.shape keywords.words keywords.is_whole matchers.matching p instance false = λ e. absurd (cc e) in
              let n = suc deep in
              let enough : deep < n = omega arith in
              borrowed (keywords.words false) (each false) matcher nodes instance p.root n p.runs some_run Step start Has begins keeps first none call later (began false speaks nothing_twice n enough) false (runs false speaks n enough) (λ s as' r es end has step. (told s as' r es end has step).2) es.items gives;
        }

    -- the same by a number that is the limit of runs
    pub shared_of : is_some first.unassumed ≡ true → IsToldRun → (es : Vec ValidationError) (most : ℕ) → most ≡ p.runs
        → ((u : Sense) (call : Call) → WantsAllLater call → Follows u → IsRunOf u call Step first start errors_in (errors_of u) → ErrorsOf u most call (errors_in es))
        → ((u : Sense) → Follows u → IsRunOf u validate Step first start errors_in (errors_of u) → FirstSays u most (first_error (errors_in es)))
        → ((u : Sense) (call : Call) → Follows u → IsRunOf u call Step first start none_in (λ m. is_nil (errors_of u m)) → VerdictSays u most call (none_in es))
        → ((u : Sense) (call : Call) → IsRunOf u call Step first start none_in (λ m. is_nil (errors_of u m)) → GivesErrors u call most Step start instance es.items)
        → AreShared keywords matchers p instance first es.items
    shared_of some told es most same says says_first verdict gives = shared_within some told es (rw same at says) (rw same at says_first) (rw same at verdict) (rw same at gives)

    -- what such a search takes of a budget, of which its states hold what is left
    pub shared_takes : IsToldRun → (work : S → Budget) → ((s : S) (given r : Remembered) (es : Vec ValidationError) (end : S) → Step s given r es end → Asks (work s) (work end))
        → (end : S) → Reaches Step start end → (most : ℕ) → most ≡ p.runs
        → ((u : Sense) (call : Call) → IsRunOf u call Step first start none_in (λ m. is_nil (errors_of u m)) → MakesFurther u most call Step start end)
        → (call : Call) → WantsAllLater call → Begins keywords matchers p instance first call → TakesByRuns keywords matchers p instance call (work start) (work end)
    shared_takes told work asks end reaches most same makes_most call later began =
        let makes = rw same at makes_most in
        let matcher = matchers.matching p.matcher in
        let nodes = numbered keywords.shape p.nodes in
        takes_searched keywords matchers p instance call Step work asks start end reaches (λ texts speaks n enough.
        makes (sense (keywords.words texts) (each texts) matcher nodes instance p.root n) call
        (none_runs (keywords.words texts) (each texts) matcher nodes instance p.root n p.runs some_run Step start Has begins keeps first none call later (began texts speaks nothing_twice n enough) texts
        (are_runs told texts speaks n enough)))
