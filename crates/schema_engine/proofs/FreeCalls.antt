-- Calls of one schema and one instance speak of one sense, and so agree.
use Rattle.std.proofs.Common.{arith, false, sym, Bool, List, [], ℕ, ◌+◌, ◌∙◌, ◌≡◌, ◌≤◌, subst}
use Rattle.std.specs.Prelude.{None, Option, is_none}
use Rattle.std.specs.Cmp.{both_ways}
use Rattle.serde_json.specs.Data.{Data}
use Rattle.theory_definitions.specs.Cover.{Call, Decides, Sense, branch_at, evaluate, is_valid, iter_errors, validate}
use Rattle.theory_meaning.specs.Headline.{VerdictSays}
use Rattle.theory_definitions.specs.Laws.{EachKeeps}
use Rattle.theory_definitions.specs.Matching.{completion_of}
use Rattle.theory_meaning.specs.Members.{Follows}
use Rattle.theory_meaning.specs.Numbered.{subject_in}
use Rattle.unfinished_search.specs.SharedResults.{is_empty}
use Rattle.schema_reports.specs.UnitViews.{unit_of}
use Rattle.schema_reports.specs.declared.evaluation.EvaluationNode.{EvaluationNode}
use Rattle.schema_reports.specs.declared.reports.ValidationError.{ValidationError}
use Rattle.theory_meaning.proofs.GuardedSense.{all_nodes_follow}
use Rattle.schema_node_table.specs.NodeTable.{numbered}
use Rattle.schema_traits.specs.declared.keyword.Validate.{Ghosts as KeywordMembers}
use Rattle.schema_traits.specs.declared.matcher.Matcher.{Ghosts as MatcherMembers}
use Rattle.schema_validator.specs.Called.{GuardedlyOf, IsCompiledFrom, UnitsGuardedly}
use Rattle.schema_compiled.specs.Evaluated.{EvaluationAnswered, verdict_in}
use Rattle.schema_validator.specs.Handed.{Handed, Options}
use Rattle.schema_compiled.specs.Program.{FromSomeDepth, Program}
use Rattle.schema_compiled.specs.Spoken.{ErrorsAnswered, FirstAnswered}
use Rattle.schema_engine.specs.FreeCalls as calls
use Rattle.schema_engine.specs.FreeCalls.{OfAllCompiled}
use Rattle.schema_engine.specs.Nesting.{ErrorsAgree, EvaluationsAgree, FirstsAgree}
use Rattle.schema_compiled.proofs.Verdicts.{errors_verdict, first_verdict}
use Rattle.schema_engine.proofs.Nesting.{errors_agree, evaluations_agree, firsts_agree, same_verdict}
use Rattle.schema_engine.proofs.OneTable.{speak_alike}

-- ---- the verdict in what is answered

module _ (v : Sense) (most : ℕ) where
  -- two calls that decide have one verdict
  both_decide : (call call' : Call) (b b' : Bool) → VerdictSays v most call b → VerdictSays v most call' b'
      → Decides v most call → Decides v most call' → b ≡ b'
  both_decide call call' b b' says says' d d' = both_ways b b' (λ e. (says'.0 d').1 ((says.0 d).0 e)) (λ e. (says.0 d).1 ((says'.0 d').0 e))

-- ---- two calls speak of one sense

-- what the answers of the calls say, whether texts are covered or not
abbrev Verdict : ℕ → Bool → Bool → Sense → Type 0
Verdict most b texts v = VerdictSays v most is_valid b

abbrev First : ℕ → Option ValidationError → Bool → Sense → Type 0
First most o texts v = FirstAnswered v most texts o

abbrev Errors : ℕ → List ValidationError → Bool → Sense → Type 0
Errors most es texts v = ErrorsAnswered v most texts es

abbrev Evaluated : ℕ → EvaluationNode → Bool → Sense → Type 0
Evaluated most u texts v = EvaluationAnswered v most texts u

-- a fact if both calls decide
abbrev WhereBoth : ℕ → Call → Call → Type 0 → Bool → Sense → Type 0
WhereBoth most call call' fact texts v = Decides v most call → Decides v most call' → fact

module _ {S K R C M : Type 0} (h : Handed S K R C M) where
  pub one_sense : calls.OneSense h
  one_sense options schema nested p p' of of' instance texts = speak_alike h options schema nested p p' of of' texts instance

  module _ (options : Options) (schema instance : Data) where
    -- what the nodes of a validator say from some depth on
    abbrev Says : Program C M → (Bool → Sense → Type 0) → Type 0
    Says p fact = FromSomeDepth h.shape h.words h.is_whole h.matching p instance fact

    -- a fact at every great enough depth
    abbrev FromSomeDepthAt : Program C M → (Bool → ℕ → Type 0) → Type 0
    FromSomeDepthAt p fact = (texts : Bool) → calls.SpeaksOf h instance texts p → (deep : ℕ) × ((n : ℕ) → deep ≤ n → fact texts n)

    abbrev IsOf : Program C M → Type 0
    IsOf p = IsCompiledFrom h options schema options.nested p

    moved : (fact : Bool → Sense → Type 0) (p p' : Program C M) → IsOf p → IsOf p' → Says p fact → Says p' fact
    moved fact p p' of of' told = λ texts speaks.
        let alike = speak_alike h options schema options.nested p' p of' of texts instance in
        let (deep, f) = told texts (alike.speaks speaks) in
        (deep, λ n more. subst (fact texts) (sym (alike.senses n)) (f n more))

    -- what a call says is so of all nodes that are compiled from the schema
    of_all : (fact : Bool → Sense → Type 0) → GuardedlyOf h options schema instance fact → OfAllCompiled h options schema instance fact
    of_all fact (p, of, told) p' of' = moved fact p p' of of' told

    -- where the first run meets no unfinished match, the units of an evaluation are those of all these nodes
    units_of_all : (u : EvaluationNode) → UnitsGuardedly h options schema instance u
        → (p : Program C M) → IsOf p → FromSomeDepthAt p (λ texts n. branch_at (calls.sense_of h instance texts p n) evaluate [] ≡ None → unit_of texts u ≡ calls.units_under h instance texts p [] n)
    units_of_all u (p', of', has) p of = λ texts speaks.
        let alike = speak_alike h options schema options.nested p p' of of' texts instance in
        let (deep, f) = has texts (alike.speaks speaks) in (
          deep,
          λ n more none. f n more (subst (λ (v : Sense). branch_at v evaluate [] ≡ None) (alike.senses n) none) (completion_of []) ∙ sym (alike.units [] n),
        )

  pub one_tree : calls.OneTree h
  one_tree options schema instance u u' told told' p of = λ texts speaks.
      let (deep, f) = units_of_all options schema instance u told p of texts speaks in
      let (deep', f') = units_of_all options schema instance u' told' p of texts speaks in
      (deep + deep', λ n more none. f n (omega (arith, more)) none ∙ sym (f' n (omega (arith, more)) none))

  module _ (keeps : (texts : Bool) → EachKeeps (h.words texts)) where
    -- so what follows from two answers for one sense is so of all these nodes
    both_say : (options : Options) (schema instance : Data) (fact fact' says : Bool → Sense → Type 0)
        → ((texts : Bool) (v : Sense) → Follows v → fact texts v → fact' texts v → says texts v)
        → GuardedlyOf h options schema instance fact → GuardedlyOf h options schema instance fact'
        → OfAllCompiled h options schema instance says
    both_say options schema instance fact fact' says joined told told' p of = λ texts speaks.
        let (deep, f) = of_all options schema instance fact told p of texts speaks in
        let (deep', f') = of_all options schema instance fact' told' p of texts speaks in
        let nodes = numbered h.shape p.nodes in
        let follow = all_nodes_follow (h.words texts) (keeps texts) (h.matching p.matcher) nodes (subject_in instance) in
        (deep + deep', λ n more. joined texts _ (follow n p.root) (f n (omega (arith, more))) (f' n (omega (arith, more))))

    -- ---- the laws

    pub one_verdict : calls.OneVerdict h
    one_verdict options schema instance b b' told told' =
        let all = both_say options schema instance (Verdict options.runs b) (Verdict options.runs b') (λ texts v. b ≡ b')
        (λ texts v follows. same_verdict v options.runs is_valid b b') told told' in
        let (deep, f) = all told.0 told.1 false (λ e. absurd (cc e)) in f deep (omega arith)

    pub one_first_error : calls.OneFirstError h
    one_first_error options schema instance o o' = both_say options schema instance (First options.runs o) (First options.runs o')
        (λ texts v. FirstsAgree v options.runs texts o o') (λ texts v follows. firsts_agree v options.runs texts o o')

    pub one_error_list : calls.OneErrorList h
    one_error_list options schema instance es es' = both_say options schema instance (Errors options.runs es) (Errors options.runs es')
        (λ texts v. ErrorsAgree v options.runs texts es es') (λ texts v follows. errors_agree v options.runs texts es es')

    pub one_evaluation : calls.OneEvaluation h
    one_evaluation options schema instance u u' = both_say options schema instance (Evaluated options.runs u) (Evaluated options.runs u')
        (λ texts v. EvaluationsAgree v options.runs texts u u') (λ texts v follows. evaluations_agree v options.runs texts u u')

    pub true_iff_none : calls.TrueIffNone h
    true_iff_none options schema instance b o = both_say options schema instance (Verdict options.runs b) (First options.runs o)
        (WhereBoth options.runs is_valid validate (b ≡ is_none o))
        (λ texts v follows says first. both_decide v options.runs is_valid validate b (is_none o) says (first_verdict v options.runs follows texts o first))

    pub true_iff_empty : calls.TrueIffEmpty h
    true_iff_empty options schema instance b es = both_say options schema instance (Verdict options.runs b) (Errors options.runs es)
        (WhereBoth options.runs is_valid iter_errors (b ≡ is_empty es))
        (λ texts v follows says errors.
        both_decide v options.runs is_valid iter_errors b (is_empty es) says (errors_verdict v options.runs follows texts es errors))

    pub none_iff_empty : calls.NoneIffEmpty h
    none_iff_empty options schema instance o es = both_say options schema instance (First options.runs o) (Errors options.runs es)
        (WhereBoth options.runs validate iter_errors (is_none o ≡ is_empty es))
        (λ texts v follows first errors.
        both_decide v options.runs validate iter_errors (is_none o) (is_empty es) (first_verdict v options.runs follows texts o first)
        (errors_verdict v options.runs follows texts es errors))

    pub true_iff_valid : calls.TrueIffValid h
    true_iff_valid options schema instance b u = both_say options schema instance (Verdict options.runs b) (Evaluated options.runs u)
        (λ texts v. WhereBoth options.runs is_valid evaluate (b ≡ verdict_in texts u) texts v)
        (λ texts v follows says evaluated. both_decide v options.runs is_valid evaluate b (verdict_in texts u) says evaluated.verdict)

    pub none_iff_valid : calls.NoneIffValid h
    none_iff_valid options schema instance o u = both_say options schema instance (First options.runs o) (Evaluated options.runs u)
        (λ texts v. WhereBoth options.runs validate evaluate (is_none o ≡ verdict_in texts u) texts v)
        (λ texts v follows first evaluated.
        both_decide v options.runs validate evaluate (is_none o) (verdict_in texts u) (first_verdict v options.runs follows texts o first) evaluated.verdict)

    pub empty_iff_valid : calls.EmptyIffValid h
    empty_iff_valid options schema instance es u = both_say options schema instance (Errors options.runs es) (Evaluated options.runs u)
        (λ texts v. WhereBoth options.runs iter_errors evaluate (is_empty es ≡ verdict_in texts u) texts v)
        (λ texts v follows errors evaluated.
        both_decide v options.runs iter_errors evaluate (is_empty es) (verdict_in texts u) (errors_verdict v options.runs follows texts es errors) evaluated.verdict)

-- ---- the four calls of one validator

module _ (v : Sense) (most : ℕ) (follows : Follows v) where
  all_have_one : (texts : Bool) (b : Bool) (o : Option ValidationError) (es : List ValidationError) (u : EvaluationNode)
      → VerdictSays v most is_valid b → FirstAnswered v most texts o → ErrorsAnswered v most texts es → EvaluationAnswered v most texts u
      → calls.OneVerdictOfAll v most texts b o es u
  all_have_one texts b o es u says first errors evaluated =
      let none : VerdictSays v most validate (is_none o) = first_verdict v most follows texts o first in
      let empty : VerdictSays v most iter_errors (is_empty es) = errors_verdict v most follows texts es errors in
      let yes : VerdictSays v most evaluate (verdict_in texts u) = evaluated.verdict in
      record {
        true_none = both_decide v most is_valid validate b (is_none o) says none;
        true_empty = both_decide v most is_valid iter_errors b (is_empty es) says empty;
        true_valid = both_decide v most is_valid evaluate b (verdict_in texts u) says yes;
        none_empty = both_decide v most validate iter_errors (is_none o) (is_empty es) none empty;
        none_valid = both_decide v most validate evaluate (is_none o) (verdict_in texts u) none yes;
        empty_valid = both_decide v most iter_errors evaluate (is_empty es) (verdict_in texts u) empty yes;
      }

module _ {C Run K M : Type 0} (keywords : KeywordMembers C Run K) (matchers : MatcherMembers M) (keeps : (texts : Bool) → EachKeeps (keywords.words texts)) where
  pub validator_calls : calls.ValidatorCallsAgree keywords matchers
  validator_calls p instance b o es u says first errors evaluated = λ texts speaks.
      let (deep1, f1) = says texts speaks in
      let (deep2, f2) = first texts speaks in
      let (deep3, f3) = errors texts speaks in
      let (deep4, f4) = evaluated texts speaks in
      let nodes = numbered keywords.shape p.nodes in
      let follow = all_nodes_follow (keywords.words texts) (keeps texts) (matchers.matching p.matcher) nodes (subject_in instance) in (
        deep1 + deep2 + deep3 + deep4,
        λ n more. all_have_one _ p.runs (follow n p.root) texts b o es u
            (f1 n (omega (arith, more))) (f2 n (omega (arith, more))) (f3 n (omega (arith, more))) (f4 n (omega (arith, more))),
      )

-- ---- one call of one validator and one instance, made twice

module _ {C Run K M : Type 0} (keywords : KeywordMembers C Run K) (matchers : MatcherMembers M) where
  -- what follows from two answers for one sense is so from some depth on
  twice : (p : Program C M) (instance : Data) (fact fact' says : Bool → Sense → Type 0) → ((texts : Bool) (v : Sense) → fact texts v → fact' texts v → says texts v)
      → calls.NodesSay keywords matchers p instance fact → calls.NodesSay keywords matchers p instance fact' → calls.NodesSay keywords matchers p instance says
  twice p instance fact fact' says joined told told' = λ texts speaks.
      let (deep, f) = told texts speaks in
      let (deep', f') = told' texts speaks in
      (deep + deep', λ n more. joined texts _ (f n (omega (arith, more))) (f' n (omega (arith, more))))

  pub verdict_again : calls.VerdictAgain keywords matchers
  verdict_again p instance b b' told told' =
      let all = twice p instance (Verdict p.runs b) (Verdict p.runs b') (λ texts v. b ≡ b') (λ texts v. same_verdict v p.runs is_valid b b') told told' in
      let (deep, f) = all false (λ e. absurd (cc e)) in f deep (omega arith)

  pub first_error_again : calls.FirstErrorAgain keywords matchers
  first_error_again p instance o o' = twice p instance (First p.runs o) (First p.runs o') (λ texts v. FirstsAgree v p.runs texts o o') (λ texts v. firsts_agree v p.runs texts o o')

  pub error_list_again : calls.ErrorListAgain keywords matchers
  error_list_again p instance es es' = twice p instance (Errors p.runs es) (Errors p.runs es') (λ texts v. ErrorsAgree v p.runs texts es es') (λ texts v. errors_agree v p.runs texts es es')

  pub evaluation_again : calls.EvaluationAgain keywords matchers
  evaluation_again p instance u u' = twice p instance (Evaluated p.runs u) (Evaluated p.runs u') (λ texts v. EvaluationsAgree v p.runs texts u u') (λ texts v. evaluations_agree v p.runs texts u u')

  pub units_again : calls.UnitsAgain keywords matchers
  units_again p instance u u' told told' = λ texts speaks.
      let (deep, f) = told texts speaks in
      let (deep', f') = told' texts speaks in
      (deep + deep', λ n more none. f n (omega (arith, more)) none (completion_of []) ∙ sym (f' n (omega (arith, more)) none (completion_of [])))
