-- What a solver says of the root's number is what the run of the root's node decides; and that a validator that is made has a solver.
use Rattle.std.proofs.Common.{◌&&◌, ◌+◌, ◌∙◌, ◌≡◌, Bool, List, [], ap, arith, false, length, refl, subst, sym, true, ℕ}
use Rattle.std.specs.Prelude.{Err, IfOk, IfSome, None, Ok, OnErr, Option, Result, Some, is_some}
use Rattle.serde_json.specs.Data.{Data}
use Rattle.serde_json.specs.declared.value.Value.{Value}
use Rattle.theory_definitions.specs.Cover.{Decides, Sense, is_valid}
use Rattle.theory_definitions.specs.Guarded.{guarded_sense}
use Rattle.theory_definitions.specs.Keywords.{Keywords}
use Rattle.theory_definitions.specs.Matching.{Matcher}
use Rattle.theory_definitions.specs.Reports.{Outcome}
use Rattle.theory_meaning.specs.Headline.{VerdictSays}
use Rattle.theory_meaning.specs.Numbered.{subject_in}
use Rattle.schema_run_context.specs.Works.{Budget, allowed, down_to}
use Rattle.theory_runs.proofs.NodeOutcomes.{outcome_is}
use Rattle.schema_node_table.specs.NodeTable.{NodeEntry, numbered}
use Rattle.schema_solver_state.specs.Following.{IsFollowing}
use Rattle.schema_solver.specs.Asked.{solver_over}
use Rattle.schema_solver.specs.Solving.{LimitWithinBound, SaysAsNodes}
use Rattle.schema_solver.specs.Saying.{EachSays}
use Rattle.schema_compiled.specs.Answers.{SaysVerdict}
use Rattle.schema_compiled.specs.Asked.{DecidesFromSomeDepth}
use Rattle.schema_compiled.specs.Program.{Program}
use Rattle.schema_traits.specs.declared.keyword.Validate.{Ghosts as KeywordMembers}
use Rattle.schema_traits.specs.declared.matcher.Matcher.{Ghosts as MatcherMembers}
use Rattle.schema_compiled.specs.Solved.{AreEnough, HasSolver, IsDecidedWithin, StopsLate}

pub solved_decides : {K S R M : Type 0} (shape : K → S) (words : Bool → Keywords S R) (is_whole : S → Bool) (matching : M → Matcher) (p : Program K M) (followed : List Bool) (instance : Data) (valid : Bool)
    → SaysAsNodes (solver_over words is_whole shape p.nodes followed (matching p.matcher)) instance p.root valid → SaysVerdict shape words is_whole matching p instance [] valid
solved_decides shape words is_whole matching p followed instance valid says = λ texts speaks once n more.
    sym (says texts (record { keywords = λ t. (speaks t).1; instance = λ t. (speaks t).0 }) [] n more)
    ∙ sym (ap (λ (o : Outcome). o.verdict) (outcome_is (words texts) (matching p.matcher) (numbered shape p.nodes) (subject_in instance) [] n p.root [] [] []))

-- what is so of the value that there is, if there is one
pub of_some : {X : Type 0} (found : Option X) (x : X) (P : X → Type 0) → found ≡ Some x → IfSome found P → P x
of_some found x P is h = subst (λ o. IfSome o P) is h

-- a validator that is made of nodes, with what finds verdicts of these
pub solves_made : {C M : Type 0} (nodes : List (NodeEntry C)) (followed : Option (List Bool)) (p : Program C M) → p.nodes ≡ nodes → p.followed ≡ followed
    → is_some followed ≡ true → IfSome followed (IsFollowing nodes) → HasSolver p
solves_made {C = C} nodes followed p same is made follows =
    subst (λ (o : Option (List Bool)). (is_some o ≡ true) × IfSome o (IsFollowing p.nodes)) (sym is)
    (subst (λ (ns : List (NodeEntry C)). (is_some followed ≡ true) × IfSome followed (IsFollowing ns)) (sym same) (made, follows))

-- what holds anyway holds if there is an error
pub on_err : {T E P : Type 0} (r : Result T E) → P → OnErr r P
on_err (Ok x) p = tt
on_err (Err e) p = p

-- what follows from two facts about the value that there is, if there is one
pub if_ok_some_both : {X E : Type 0} (found : Result (Option X) E) (P Q R : X → Type 0) → ((x : X) → P x → Q x → R x)
    → IfOk found (λ o. IfSome o P) → IfOk found (λ o. IfSome o Q) → IfOk found (λ o. IfSome o R)
if_ok_some_both (Ok (Some x)) P Q R both p q = both x p q
if_ok_some_both (Ok None) P Q R both p q = tt
if_ok_some_both (Err e) P Q R both p q = tt

-- if a limit on pairs is enough, a solver with that limit is not stopped
pub enough_decide : {C Run K M T E : Type 0} (keywords : KeywordMembers C Run K) (matchers : MatcherMembers M) (p : Program C M) (instance : Value) (limit : ℕ) (result : Result T E) (before after : Bool)
    → OnErr result (before ≡ false → after ≡ true → StopsLate keywords matchers p instance limit) → AreEnough keywords matchers p instance limit → OnErr result (before ≡ false → after ≡ false)
enough_decide keywords matchers p instance limit (Ok x) before after late enough = tt
enough_decide keywords matchers p instance limit (Err e) before false late enough = λ fresh. refl
enough_decide keywords matchers p instance limit (Err e) before true late enough = λ fresh.
    let most : LimitWithinBound (solver_over keywords.words keywords.is_whole keywords.shape p.nodes enough.followed (matchers.matching p.matcher)) instance limit =
    of_some p.followed enough.followed (λ followed. LimitWithinBound (solver_over keywords.words keywords.is_whole keywords.shape p.nodes followed (matchers.matching p.matcher)) instance limit) enough.is_followed (late fresh refl) in
    let more = most enough.numbers enough.each in
    let bound = enough.bound in
    absurd (omega (arith, more, bound))

no_verdict : {X : Type 0} (found : Option X) → is_some found ≡ true → ¬ ((x : X) → ¬ (found ≡ Some x))
no_verdict None some none = absurd (let f : ⊥ = cc in f)
no_verdict (Some x) some none = none x refl

-- if the verdict is found within a limit, the solver is used and does not give up: there is a verdict
pub gives_a_verdict : {C Run K M X : Type 0} (keywords : KeywordMembers C Run K) (matchers : MatcherMembers M) (p : Program C M) (instance : Value) (limit : ℕ) (finishes : Bool) (found : Option X)
    → finishes ≡ matchers.finishing p.matcher → (EachSays keywords.says_monotone (numbered keywords.shape p.nodes) (length p.nodes) → is_some found ≡ (is_some p.followed && finishes))
    → ((x : X) → ¬ (found ≡ Some x)) → ¬ IsDecidedWithin keywords matchers p instance limit
gives_a_verdict keywords matchers p instance limit finishes found says exactly none decided =
    let asked : (is_some p.followed && finishes) ≡ true = rw (decided.enough.is_followed, says ∙ decided.finishing) refl in
    no_verdict found (exactly decided.monotone ∙ asked) none

-- if the verdict is found within its limit, a call is not stopped
pub not_stopped : {C Run K M : Type 0} (keywords : KeywordMembers C Run K) (matchers : MatcherMembers M) (p : Program C M) (instance : Value) (limit : ℕ) (before after : Budget)
    → before ≡ down_to p.depth (allowed (Some limit)) → p.work ≡ Some limit → IfSome p.work (IsDecidedWithin keywords matchers p instance)
    → (IsDecidedWithin keywords matchers p instance before.left → before.stopped ≡ false → after.stopped ≡ false) → ¬ (after.stopped ≡ true)
not_stopped keywords matchers p instance limit before after given limited decided going stopped =
    let enough = of_some p.work limit (IsDecidedWithin keywords matchers p instance) limited decided in
    let left : limit ≡ before.left = sym (ap (λ (b : Budget). b.left) given) in
    let still : after.stopped ≡ false = going (subst (IsDecidedWithin keywords matchers p instance) left enough) (ap (λ (b : Budget). b.stopped) given) in
    cc (still, stopped)

-- a call does not say both "valid" and "invalid" of an instance
not_both : (v : Sense) (most : ℕ) → VerdictSays v most is_valid true → ¬ VerdictSays v most is_valid false
not_both v most accepts refuses =
    let undecided : ¬ Decides v most is_valid = λ decides. (let wrong : false ≡ true = (refuses.0 decides).1 ((accepts.0 decides).0 refl) in cc wrong) in
    let wrong : true ≡ false = accepts.1 undecided in
    cc wrong

pub one_verdict : {C Run K M : Type 0} (keywords : KeywordMembers C Run K) (matchers : MatcherMembers M) (p : Program C M) (instance : Data) (valid : Bool)
    → DecidesFromSomeDepth keywords matchers p instance true → DecidesFromSomeDepth keywords matchers p instance valid → valid ≡ true
one_verdict keywords matchers p instance true accepts says = refl
one_verdict keywords matchers p instance false accepts refuses =
    let (deep, f) = accepts false (λ e. absurd (cc e)) in
    let (deep', f') = refuses false (λ e. absurd (cc e)) in
    absurd (not_both (guarded_sense (keywords.words false) (matchers.matching p.matcher) (numbered keywords.shape p.nodes) (subject_in instance) (deep + deep') p.root) p.runs
    (f (deep + deep') (omega arith)) (f' (deep + deep') (omega arith)))
