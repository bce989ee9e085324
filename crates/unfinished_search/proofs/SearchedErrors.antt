-- The errors of the search over a sense's runs are those that the sense's call lists.
use Rattle.std.proofs.Common.{◌≡◌, ◌<◌, ℕ, zero, List, [], ◌∷◌, ◌++◌, ◌⊎◌, inl, inr, Bool, true, false, ◌&&◌, ◌||◌, cond, Some, None, sym, ◌∙◌, ap, ap₂, subst, refl, arith, map}
use Rattle.std.specs.Prelude.{All, Contains, Option, filter, option_map}
use Rattle.std.proofs.lemmas.List.Elements.{All-contains, All-contains_itself, All-filter, All-map, All-nil, All-weaker, Contains-append_right}
use Rattle.std.specs.List.{list_all, list_any}
use Rattle.std.specs.Global.{Vec}
use Rattle.serde_json.specs.Data.{Data}
use Rattle.theory_definitions.specs.Matching.{Assumptions, completion_of}
use Rattle.theory_definitions.specs.Reports.{Error, Outcome, same_error}
use Rattle.theory_definitions.specs.Runs.{first_error}
use Rattle.theory_definitions.specs.Cover.{Call, IsRun, Sense, branch_at, validate}
use Rattle.theory_meaning.specs.Headline.{ErrorsOf, FirstSays, IsFailure, VerdictSays}
use Rattle.theory_definitions.specs.Laws.{Agrees}
use Rattle.theory_meaning.specs.Members.{Follows, all_accept, is_nil, listed, none_has, or_failure, shared_with, verdict_of}
use Rattle.theory_meaning.specs.Shared.{errors_of, in_each}
use Rattle.schema_reports.specs.ReportViews.{error_of}
use Rattle.theory_definitions.specs.Unfinished.{Failure, Remembered, starting}
use Rattle.theory_meaning.specs.Search.{Made, Tree, lists_of, results_of, sites}
use Rattle.unfinished_search.specs.SearchGives.{FailureAlone, GivesErrors, OfRun}
use Rattle.unfinished_search.specs.SharedResults.{IsSharedBy, OneError, OrFailure, has_key, in_each_of, is_empty, or_none, shared_among}
use Rattle.unfinished_search.specs.Outcomes.{AreErrors, AreOutcomes, errors_in, none_in}
use Rattle.theory_meaning.specs.Searched.{IsRunOf, Reaches, WantsAllLater, failure_error}
use Rattle.schema_reports.specs.declared.reports.ValidationError.{ValidationError}
use Rattle.unfinished_search.specs.declared.search.Outcomes.{Outcomes}
use Rattle.unfinished_search.specs.declared.search.Outcomes.TheVariants.{Assumed, Undecided}
use Rattle.theory_meaning.proofs.CoversApart.{both_left, both_right}
use Rattle.theory_meaning.proofs.Sentences.{first_says, later_errors_say, verdict_says}
use Rattle.unfinished_search.proofs.SharedLists.{map_last}
use Rattle.unfinished_search.proofs.SearchedSense.{call_each, call_sited, some_run}
use Rattle.unfinished_search.proofs.SearchedFailure.{IsAt, at_all, at_first, is_failure}
use Rattle.unfinished_search.proofs.SearchedSays.{all_map, are_few, not_decided}

-- ---- lists

any_map : {A B : Type 0} (p : B → Bool) (f : A → B) (xs : List A) → list_any p (map f xs) ≡ list_any (λ x. p (f x)) xs
any_map p f [] = refl
any_map p f (x ∷ xs) = ap (λ z. p (f x) || z) (any_map p f xs)

map_map : {A B C : Type 0} (g : B → C) (f : A → B) (xs : List A) → map g (map f xs) ≡ map (λ x. g (f x)) xs
map_map g f [] = refl
map_map g f (x ∷ xs) = ap (λ z. g (f x) ∷ z) (map_map g f xs)

all_same : {A : Type 0} (p q : A → Bool) (xs : List A) → ((x : A) → p x ≡ q x) → list_all p xs ≡ list_all q xs
all_same p q [] e = refl
all_same p q (x ∷ xs) e = ap₂ (λ a b. a && b) (e x) (all_same p q xs e)

map_filter : {A B : Type 0} (f : A → B) (p : A → Bool) (q : B → Bool) (xs : List A) → ((x : A) → p x ≡ q (f x)) → map f (filter p xs) ≡ filter q (map f xs)
map_filter f p q [] e = refl
map_filter {A} {B} f p q (x ∷ xs) e = go (p x) (q (f x)) (e x) (map_filter f p q xs e)
  where
    go : (a b : Bool) → a ≡ b → map f (filter p xs) ≡ filter q (map f xs) → map f (cond a (x ∷ filter p xs) (filter p xs)) ≡ cond b (f x ∷ filter q (map f xs)) (filter q (map f xs))
    go true true is h = ap (λ z. f x ∷ z) h
    go false false is h = h
    go true false is h = absurd (cc is)
    go false true is h = absurd (cc is)

filter_at : {A : Type 0} (p q : A → Bool) (xs : List A) → ((x : A) → p x ≡ q x) → filter p xs ≡ filter q xs
filter_at p q [] e = refl
filter_at p q (x ∷ xs) e = ap₂ (λ b ys. cond b (x ∷ ys) ys) (e x) (filter_at p q xs e)

front_of : {A : Type 0} → List A → List A
front_of [] = []
front_of (x ∷ []) = []
front_of (x ∷ (y ∷ xs)) = x ∷ front_of (y ∷ xs)

front_is : {A : Type 0} (xs : List A) (x : A) → front_of (xs ++ x ∷ []) ≡ xs
unfolding front_of
front_is [] x = refl
front_is (y ∷ []) x = refl
front_is (y ∷ (z ∷ xs)) x = ap (λ l. y ∷ l) (front_is (z ∷ xs) x)

last_or : {A : Type 0} → A → List A → A
last_or d [] = d
last_or d (x ∷ xs) = last_or x xs

last_is : {A : Type 0} (d : A) (xs : List A) (x : A) → last_or d (xs ++ x ∷ []) ≡ x
unfolding last_or
last_is d [] x = refl
last_is d (y ∷ xs) x = last_is y xs x

same_front : {A : Type 0} (xs ys : List A) (x y : A) → xs ++ x ∷ [] ≡ ys ++ y ∷ [] → xs ≡ ys
same_front xs ys x y e = sym (front_is xs x) ∙ (ap front_of e ∙ front_is ys y)

same_last : {A : Type 0} (xs ys : List A) (x y : A) → xs ++ x ∷ [] ≡ ys ++ y ∷ [] → x ≡ y
same_last xs ys x y e = sym (last_is x xs x) ∙ (ap (last_or x) e ∙ last_is x ys y)

no_end : {A : Type 0} (xs : List A) (x : A) → [] ≡ xs ++ x ∷ [] → ⊥
no_end [] x e = cc e
no_end (y ∷ xs) x e = cc e

-- ---- results as the definitions have them

abbrev told : List ValidationError → List Error
told es = map (error_of true) es

nil_told : (es : List ValidationError) → is_empty es ≡ is_nil (told es)
nil_told [] = refl
nil_told (e ∷ es) = refl

abbrev in_all : List (List Error) → Error → Bool
in_all others e = list_all (λ es. list_any (same_error e) es) others

in_each_told : (others : List (List ValidationError)) (e : ValidationError) → in_each_of others e ≡ in_all (map told others) (error_of true e)
in_each_told others e =
    all_same (λ es. has_key es e) (λ es. list_any (same_error (error_of true e)) (told es)) others (λ es. sym (any_map (same_error (error_of true e)) (error_of true) es))
    ∙ sym (all_map (λ es. list_any (same_error (error_of true e)) es) told others)

shared_told : (others : List (List ValidationError)) (last : List ValidationError) → told (shared_among others last) ≡ filter (in_all (map told others)) (told last)
shared_told others last = map_filter (error_of true) (in_each_of others) (in_all (map told others)) last (in_each_told others)

shared_with_is : (v : Sense) (others : List Assumptions) (last : Assumptions) → shared_with v others last ≡ filter (in_all (map (errors_of v) others)) (errors_of v last)
shared_with_is v others last = filter_at (in_each v others) (in_all (map (errors_of v) others)) (errors_of v last) (λ e. sym (all_map (λ es. list_any (same_error e) es) (errors_of v) others))

empty_told : (results : List (List ValidationError)) → list_all is_empty results ≡ list_all is_nil (map told results)
empty_told results = all_same is_empty (λ es. is_nil (told es)) results nil_told ∙ sym (all_map is_nil told results)

none_has_is : (v : Sense) (ms : List Assumptions) → none_has v ms ≡ list_all is_nil (map (errors_of v) ms)
none_has_is v ms = sym (all_map is_nil (errors_of v) ms)

-- ---- what is listed

module _ (root : Data) (f : Failure) where
  answer_is : (shared : List ValidationError) (empty : Bool) (o : Option (List ValidationError)) (answer : List ValidationError) → o ≡ or_none shared empty → OrFailure root f o answer
      → told answer ≡ or_failure (told shared) empty (failure_error f)
  answer_is shared empty o answer e h = go shared empty (subst (λ z. OrFailure root f z answer) e h)
    where
      go : (s : List ValidationError) (b : Bool) → OrFailure root f (or_none s b) answer → told answer ≡ or_failure (told s) b (failure_error f)
      go (x ∷ s) b k = ap told k
      go [] true k = ap told k
      go [] false k = ap told k.alone ∙ ap (λ z. z ∷ []) k.is

  module _ (v : Sense) (others : List Assumptions) (last : Assumptions) where
    pub listed_is : (results : List (List ValidationError)) (o : Option (List ValidationError)) (answer : List ValidationError) → map told results ≡ map (errors_of v) (others ++ last ∷ [])
        → IsSharedBy results o → OrFailure root f o answer → told answer ≡ listed v others last (failure_error f)
    listed_is [] o answer e h k = absurd (no_end (map (errors_of v) others) (errors_of v last) (e ∙ map_last (errors_of v) others last))
    listed_is (r ∷ rs) o answer e (front, end, is, shared) k =
        let ends : map told front ++ told end ∷ [] ≡ map (errors_of v) others ++ errors_of v last ∷ [] = sym (map_last told front end) ∙ (ap (map told) (sym is) ∙ (e ∙ map_last (errors_of v) others last)) in
        let fronts = same_front (map told front) (map (errors_of v) others) (told end) (errors_of v last) ends in
        let lasts = same_last (map told front) (map (errors_of v) others) (told end) (errors_of v last) ends in
        let one : told (shared_among front end) ≡ shared_with v others last = shared_told front end ∙ (ap₂ (λ a b. filter (in_all a) b) fronts lasts ∙ sym (shared_with_is v others last)) in
        let two : list_all is_empty (front ++ end ∷ []) ≡ none_has v (others ++ last ∷ []) = empty_told (front ++ end ∷ []) ∙ (ap (λ z. list_all is_nil (map told z)) (sym is) ∙ (ap (list_all is_nil) e ∙ sym (none_has_is v (others ++ last ∷ [])))) in
        answer_is (shared_among front end) (list_all is_empty (front ++ end ∷ [])) o answer shared k ∙ ap₂ (λ a b. or_failure a b (failure_error f)) one two

-- ---- if only the absence of errors is looked at

-- an outcome has no error exactly if it is a yes
nil_agrees : (o : Outcome) → Agrees o → is_nil o.errors ≡ o.verdict
nil_agrees o a = go o.verdict o.errors refl refl
  where
    go : (b : Bool) (es : List Error) → o.verdict ≡ b → o.errors ≡ es → is_nil es ≡ b
    go true [] e e' = refl
    go false (x ∷ es) e e' = refl
    go true (x ∷ es) e e' = absurd (let none : o.errors ≡ [] = a.0 e in cc)
    go false [] e e' = absurd (let yes : o.verdict ≡ true = a.1 e' in cc)

none_of : (es : List ValidationError) → is_empty es ≡ true → es ≡ []
none_of [] e = refl
none_of (x ∷ es) e = absurd (cc e)

last_of_all : {A : Type 0} (p : A → Bool) (xs : List A) (x : A) → list_all p (xs ++ x ∷ []) ≡ true → p x ≡ true
last_of_all p [] x e = both_left (p x) true e
last_of_all p (y ∷ xs) x e = last_of_all p xs x (both_right (p y) _ e)

module _ (root : Data) (f : Failure) where
  none_is : (shared : List ValidationError) (empty : Bool) (o : Option (List ValidationError)) (answer : List ValidationError) → (empty ≡ true → shared ≡ []) → o ≡ or_none shared empty → OrFailure root f o answer
      → is_empty answer ≡ empty
  none_is shared empty o answer n e h = go shared empty n (subst (λ z. OrFailure root f z answer) e h)
    where
      go : (s : List ValidationError) (b : Bool) → (b ≡ true → s ≡ []) → OrFailure root f (or_none s b) answer → is_empty answer ≡ b
      go (x ∷ s) true n k = absurd (cc (n refl))
      go (x ∷ s) false n k = ap is_empty k
      go [] true n k = ap is_empty k
      go [] false n k = ap is_empty k.alone

  none_answer : (results : List (List ValidationError)) (o : Option (List ValidationError)) (answer : List ValidationError) → IsSharedBy results o → OrFailure root f o answer → is_empty answer ≡ list_all is_empty results
  none_answer [] o answer h k = ap is_empty (subst (λ z. OrFailure root f z answer) h k)
  none_answer (r ∷ rs) o answer (front, end, is, shared) k =
      none_is (shared_among front end) (list_all is_empty (front ++ end ∷ [])) o answer (λ e. ap (filter (in_each_of front)) (none_of end (last_of_all is_empty front end e))) shared k
      ∙ ap (list_all is_empty) (sym is)

-- ---- the calls

module _ (v : Sense) (call : Call) {S T V : Type 0} (Step : S → Remembered → Remembered → T → S → Type 0) (first : Remembered) (start : S) (view : T → V) (says : Assumptions → V) (is : IsRunOf v call Step first start view says) (limit : ℕ) where
  pub first_is : {end : S} (tree : Tree T) (f : Failure) (made : Made Step first start limit end tree f) → branch_at v call [] ≡ Some made.unassumed.met
  first_is tree f made = sym is.remembers_first.first ∙ ap (option_map (λ (g : Failure). g.met)) made.is_first

  -- the failure of the search is one of the call's
  pub fails : {end : S} (tree : Tree T) (f : Failure) → Made Step first start limit end tree f → IsFailure v limit call (failure_error f)
  fails {end} tree f made =
      let e = first_is tree f made in
      let sited = call_sited v call Step first start view says is limit tree end made.grows made.in_order made.few in
      let some : 0 < limit = omega (arith, some_run v call Step first start view says is tree end made.grows, made.few) in
      let at : IsAt v call limit made.unassumed f = subst (IsAt v call limit made.unassumed) (sym made.located) (at_all v call limit made.unassumed made.unassumed (sites tree) sited (at_first v call limit made.unassumed some e)) in
      is_failure v call limit made.unassumed f at e (is.remembers_first.reason made.unassumed made.is_first) (failure_error f) refl

module _ (v : Sense) (follows : Follows v) (root : Data) {S : Type 0} (Step : S → Remembered → Remembered → Vec ValidationError → S → Type 0) (first : Remembered) (start end : S) (limit : ℕ) where
  told_results : (tree : Tree (Vec ValidationError)) (results : List (Vec ValidationError)) (ms : List Assumptions) → results ≡ results_of tree → map errors_in (results_of tree) ≡ map (errors_of v) ms
      → map told (map (λ (r : Vec ValidationError). r.items) results) ≡ map (errors_of v) ms
  told_results tree results ms e same = map_map told (λ (r : Vec ValidationError). r.items) results ∙ (ap (map errors_in) e ∙ same)

  -- the errors are those that the call lists, for each call whose further runs find all errors
  pub all_errors_say : (call : Call) → WantsAllLater call → IsRunOf v call Step first start errors_in (errors_of v) → (o : Outcomes (Vec ValidationError)) → AreOutcomes Step first start limit end o → (es : Vec ValidationError) → AreErrors root o es.items → ErrorsOf v limit call (errors_in es)
  all_errors_say call later is (Assumed results f) (tree, made, whole, same) es (o, shared, answer) =
      let m = are_few v call Step first start errors_in (errors_of v) is limit tree f made whole in
      let some : ¬ (branch_at v call [] ≡ None) = λ e. absurd (cc (sym e ∙ first_is v call Step first start errors_in (errors_of v) is limit tree f made)) in
      let it = listed_is root f v m.others m.last (map (λ (r : Vec ValidationError). r.items) results.items) o es.items (told_results tree results.items (lists_of [] tree) same m.same ∙ ap (map (errors_of v)) m.split) shared answer in
      subst (ErrorsOf v limit call) (sym it) (later_errors_say v follows m.others m.last (failure_error f) limit call later (lists_of [] tree) m.cover some m.split m.few (λ x e. fails v call Step first start errors_in (errors_of v) is limit tree f made))
  all_errors_say call later is (Undecided f) (tree, made, cut) es one = (
    λ d. absurd (not_decided v call Step first start errors_in (errors_of v) is limit tree f made cut d),
    λ n. (failure_error f, fails v call Step first start errors_in (errors_of v) is limit tree f made, ap told one.alone ∙ ap (λ z. z ∷ []) one.is),
  )

  pub first_error_says : IsRunOf v validate Step first start errors_in (errors_of v) → (o : Outcomes (Vec ValidationError)) → AreOutcomes Step first start limit end o → (es : Vec ValidationError) → AreErrors root o es.items → FirstSays v limit (first_error (errors_in es))
  first_error_says is (Assumed results f) (tree, made, whole, same) es (o, shared, answer) =
      let m = are_few v validate Step first start errors_in (errors_of v) is limit tree f made whole in
      let it = listed_is root f v m.others m.last (map (λ (r : Vec ValidationError). r.items) results.items) o es.items (told_results tree results.items (lists_of [] tree) same m.same ∙ ap (map (errors_of v)) m.split) shared answer in
      subst (λ z. FirstSays v limit (first_error z)) (sym it) (first_says v follows m.others m.last (failure_error f) limit (lists_of [] tree) m.cover m.split m.few (λ x e. fails v validate Step first start errors_in (errors_of v) is limit tree f made))
  first_error_says is (Undecided f) (tree, made, cut) es one = (
    λ d. absurd (not_decided v validate Step first start errors_in (errors_of v) is limit tree f made cut d),
    λ n. (failure_error f, fails v validate Step first start errors_in (errors_of v) is limit tree f made, ap (λ z. first_error (told z)) one.alone ∙ ap Some one.is),
  )

  accepts_is : (ms : List Assumptions) → none_has v ms ≡ all_accept v ms
  accepts_is ms = all_same (λ m. is_nil (errors_of v m)) (verdict_of v) ms (λ m. nil_agrees (v.says (completion_of m)) (follows.agrees (completion_of m)))

  -- there is no error exactly if the call says yes
  pub none_says : (call : Call) → IsRunOf v call Step first start none_in (λ m. is_nil (errors_of v m)) → (o : Outcomes (Vec ValidationError)) → AreOutcomes Step first start limit end o → (es : Vec ValidationError) → AreErrors root o es.items → VerdictSays v limit call (none_in es)
  none_says call is (Assumed results f) (tree, made, whole, same) es (o, shared, answer) =
      let m = are_few v call Step first start none_in (λ x. is_nil (errors_of v x)) is limit tree f made whole in
      let it = none_answer root f (map (λ (r : Vec ValidationError). r.items) results.items) o es.items shared answer in
      let none : list_all is_empty (map (λ (r : Vec ValidationError). r.items) results.items) ≡ none_has v (lists_of [] tree) =
      all_map is_empty (λ (r : Vec ValidationError). r.items) results.items ∙ (sym (all_map (λ b. b) none_in results.items) ∙ (ap (λ z. list_all (λ b. b) (map none_in z)) same
      ∙ (ap (list_all (λ b. b)) m.same ∙ all_map (λ b. b) (λ x. is_nil (errors_of v x)) (lists_of [] tree)))) in
      subst (VerdictSays v limit call) (sym (accepts_is (lists_of [] tree)) ∙ (sym none ∙ sym it)) (verdict_says v call follows (lists_of [] tree) m.cover limit m.few)
  none_says call is (Undecided f) (tree, made, cut) es one =
      (λ d. absurd (not_decided v call Step first start none_in (λ x. is_nil (errors_of v x)) is limit tree f made cut d), λ n. ap is_empty one.alone)

-- ---- the errors that are returned

shared_each : (P : ValidationError → Type 0) (results : List (List ValidationError)) (xs : List ValidationError) → All (All P) results → IsSharedBy results (Some xs) → All P xs
shared_each P [] xs h e = let none : xs ≡ [] = cc in subst (All P) (sym none) (All-nil P)
shared_each P (r ∷ rs) xs h (front, end, is, shared) =
    subst (All P) (sym (kept (shared_among front end) (list_all is_empty (front ++ end ∷ [])) shared)) (All-filter (in_each_of front) P end (All-contains (All P) (r ∷ rs) end h (subst (λ l. Contains l end) (sym is) (Contains-append_right front (end ∷ []) end (zero, omega arith, refl)))))
  where
    kept : (s : List ValidationError) (b : Bool) → Some xs ≡ or_none s b → xs ≡ s
    kept (x ∷ s) b e = cc
    kept [] true e = cc
    kept [] false e = absurd (cc e)

module _ (v : Sense) (call : Call) (root : Data) {S : Type 0} (Step : S → Remembered → Remembered → Vec ValidationError → S → Type 0) (first : Remembered) (start end : S) (limit : ℕ) (is : IsRunOf v call Step first start none_in (λ m. is_nil (errors_of v m))) where
  failure_alone : (tree : Tree (Vec ValidationError)) (f : Failure) → Made Step first start limit end tree f → (es : List ValidationError) → OneError root f es → FailureAlone v call limit root es
  failure_alone tree f made es one = record {
    error = one.error;
    alone = one.alone;
    is = subst (IsFailure v limit call) (sym one.is) (fails v call Step first start none_in (λ m. is_nil (errors_of v m)) is limit tree f made);
    instance = one.instance;
  }

  abbrev AllOfRuns : Vec ValidationError → Type 0
  AllOfRuns r = All (OfRun v call Step start) r.items

  all_of_runs : (s : S) (as' : Assumptions) (r : Remembered) (result : Vec ValidationError) (end : S) → Reaches Step start s → IsRun v call as' → ¬ (as' ≡ []) → Step s (starting as') r result end → r.unassumed ≡ None → AllOfRuns result
  all_of_runs s as' r result end at run some step none = All-weaker (Contains result.items) (OfRun v call Step start)
      (λ e inside. record { before = s; assumptions = as'; remembered = r; errors = result; after = end; reaches = at; runs = run; further = some; is_step = step; all_assumed = none; gives = inside })
      result.items (All-contains_itself result.items)

  pub errors_given : (o : Outcomes (Vec ValidationError)) → AreOutcomes Step first start limit end o → (es : Vec ValidationError) → AreErrors root o es.items → GivesErrors v call limit Step start root es.items
  errors_given (Assumed results f) (tree, made, whole, same) es (o, shared, answer) = record {
    each = go o shared answer;
    undecided = λ n. let m = are_few v call Step first start none_in (λ x. is_nil (errors_of v x)) is limit tree f made whole in absurd (n (lists_of [] tree, m.cover, m.few));
  }
    where
      lists : All (All (OfRun v call Step start)) (map (λ (r : Vec ValidationError). r.items) results.items)
      lists = All-map (All (OfRun v call Step start)) (λ (r : Vec ValidationError). r.items) results.items
          (subst (All AllOfRuns) (sym same) (call_each v call Step first start none_in (λ m. is_nil (errors_of v m)) is AllOfRuns all_of_runs tree end made.grows))

      go : (o : Option (List ValidationError)) → IsSharedBy (map (λ (r : Vec ValidationError). r.items) results.items) o → OrFailure root f o es.items → All (OfRun v call Step start) es.items ⊎ FailureAlone v call limit root es.items
      go (Some xs) shared answer = inl (subst (All (OfRun v call Step start)) (sym answer) (shared_each (OfRun v call Step start) (map (λ (r : Vec ValidationError). r.items) results.items) xs lists shared))
      go None shared answer = inr (failure_alone tree f made es.items answer)
  errors_given (Undecided f) (tree, made, cut) es one = record { each = inr (failure_alone tree f made es.items one); undecided = λ n. failure_alone tree f made es.items one }
