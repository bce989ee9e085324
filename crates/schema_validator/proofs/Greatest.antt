-- Where each keyword is monotone, what the calls of a validator answer is the greatest solution of its nodes, and these accept as the
-- keys do that they stand for.
use Rattle.std.proofs.Common.{◌≡◌, ◌+◌, ◌<◌, ◌∙◌, ℕ, suc, Bool, true, List, [], length, map, arith, subst, sym}
use Rattle.std.specs.Prelude.{Option, Some, is_none, ◌↔◌, Decides as IsDecided}
use Rattle.std.proofs.lemmas.List.{length-map}
use Rattle.std.proofs.lemmas.Option.{slice_get_within}
use Rattle.serde_json.specs.Data.{Data}
use Rattle.theory_definitions.specs.Matching.{Completion, Matcher}
use Rattle.theory_definitions.specs.Keywords.{Keywords}
use Rattle.theory_definitions.specs.Parts.{Parts}
use Rattle.theory_definitions.specs.Plan.{Key}
use Rattle.theory_definitions.specs.Cover.{Call, Decides, evaluate, is_valid, iter_errors, validate}
use Rattle.theory_definitions.specs.Guarded.{Nodes, guarded_sense}
use Rattle.theory_definitions.specs.Laws.{EachKeeps}
use Rattle.theory_meaning.specs.Headline.{Guardedly}
use Rattle.theory_meaning.specs.Members.{Follows}
use Rattle.theory_meaning.specs.Numbered.{AreNumbered, Ranked, left, subject_in}
use Rattle.theory_meaning.specs.Reach.{at_first}
use Rattle.theory_meaning.specs.Shared.{EachAccepts}
use Rattle.theory_meaning.proofs.GuardedSense.{all_nodes_follow}
use Rattle.theory_fixed_points.specs.NodesSay.{AreMonotone, NodeAcceptsGreatest}
use Rattle.theory_fixed_points.specs.Solutions.{AcceptsEach, EachIsMonotone}
use Rattle.theory_fixed_points.proofs.Edges.{numbers_are_monotone}
use Rattle.theory_fixed_points.proofs.NodesSay.{nodes_say_greatest}
use Rattle.theory_fixed_points.proofs.NumbersSay.{numbers_say_greatest}
use Rattle.unfinished_search.specs.SharedResults.{is_empty}
use Rattle.schema_reports.specs.declared.evaluation.EvaluationNode.{EvaluationNode}
use Rattle.schema_reports.specs.declared.reports.ValidationError.{ValidationError}
use Rattle.schema_traits.specs.declared.keyword.Validate.{Ghosts as KeywordMembers}
use Rattle.schema_traits.specs.declared.matcher.Matcher.{Ghosts as MatcherMembers}
use Rattle.schema_node_table.specs.NodeTable.{NodeEntry, numbered}
use Rattle.schema_keys.specs.Compiling.{no_keywords, no_matcher}
use Rattle.schema_compiled.specs.Asked.{DecidesFromSomeDepth, ErrorsFromSomeDepth, EvaluatesFromSomeDepth, FirstFromSomeDepth}
use Rattle.schema_validator.specs.Called.{IsCompiledFrom}
use Rattle.schema_validator.specs.Compiled.{IsCompiled}
use Rattle.schema_validator.specs.Greatest.{AcceptAlike, AcceptsAsKey, AcceptsAsSchema, DecidesAccepted, ErrorsAccepted, EvaluatesAccepted, FirstAccepted, SaysAccepted}
use Rattle.schema_validator.specs.Handed.{Handed, Options, parts_of}
use Rattle.schema_compiled.specs.Evaluated.{verdict_in}
use Rattle.schema_compiled.specs.Program.{FromSomeDepth, Program}
use Rattle.schema_validator.specs.ProgramOf.{IsProgramFrom}
use Rattle.schema_validator.proofs.Built.{in_map}
use Rattle.schema_compiled.proofs.Verdicts.{errors_verdict, first_verdict}
use Rattle.schema_validator.proofs.OtherParts.{numbered_too, reached_too}
use Rattle.schema_validator.proofs.RootKeys.{one_root_key, root_key_of, root_key_too}

pub through : {P Q T : Type 0} → P ↔ Q → Q ↔ T → P ↔ T
through f g = (λ p. g.0 (f.0 p), λ t. f.1 (g.1 t))

-- ---- numbered nodes

module _ {K R : Type 0} (keywords : Keywords K R) (keeps : EachKeeps keywords) (matcher : Matcher) (nodes : Nodes K) (count : ℕ) (ranked : Ranked nodes count) (instance : Data) (i : ℕ) (inside : i < count) where
  -- under every completion they accept at each great enough depth
  abbrev Accept : Type 0
  Accept = (c : Completion) → NodeAcceptsGreatest keywords matcher nodes (subject_in instance) c count i []

  each_accepts : (n : ℕ) → left nodes count i (subject_in instance []) [] < n → AreMonotone keywords nodes count → EachAccepts (guarded_sense keywords matcher nodes (subject_in instance) n i) ↔ Accept
  each_accepts n low monotone =
      let says = λ (c : Completion). nodes_say_greatest keywords keeps matcher nodes count ranked monotone instance c i [] [] inside n low in
      (λ each c. (says c).0 (each c), λ greatest c. (says c).1 (greatest c))

  -- so a call answers that answers by the verdict
  call_accepts : (call : Call) (is_yes : Type 0) (most : ℕ) → Guardedly keywords matcher nodes (subject_in instance) i (λ v. Decides v most call → is_yes ↔ EachAccepts v)
      → Guardedly keywords matcher nodes (subject_in instance) i (λ v. AreMonotone keywords nodes count → Decides v most call → is_yes ↔ Accept)
  call_accepts call is_yes most (deep, f) = (
    deep + suc (left nodes count i (subject_in instance []) []),
    λ n more monotone decides. through (f n (omega (arith, more)) decides) (each_accepts n (omega (arith, more)) monotone),
  )

-- ---- the calls of a validator

module _ {C Run K M : Type 0} (keywords : KeywordMembers C Run K) (matchers : MatcherMembers M) (keeps : (texts : Bool) → EachKeeps (keywords.words texts)) (p : Program C M)
    (ranked : Ranked (numbered keywords.shape p.nodes) (length p.nodes)) (inside : p.root < length p.nodes) (instance : Data) where
  says_accepted : (call : Call) (answer : Bool → Bool)
      → FromSomeDepth keywords.shape keywords.words keywords.is_whole matchers.matching p instance (λ texts v. Decides v p.runs call → (answer texts ≡ true) ↔ EachAccepts v)
      → SaysAccepted keywords matchers p instance call answer
  says_accepted call answer told = λ texts speaks.
      call_accepts (keywords.words texts) (keeps texts) (matchers.matching p.matcher) (numbered keywords.shape p.nodes) (length p.nodes) ranked instance p.root inside call (answer texts ≡ true) p.runs (told texts speaks)

  follows : (texts : Bool) (n : ℕ) → Follows (guarded_sense (keywords.words texts) (matchers.matching p.matcher) (numbered keywords.shape p.nodes) (subject_in instance) n p.root)
  follows texts n = all_nodes_follow (keywords.words texts) (keeps texts) (matchers.matching p.matcher) (numbered keywords.shape p.nodes) (subject_in instance) n p.root

  pub decides_accepted : (valid : Bool) → DecidesFromSomeDepth keywords matchers p instance valid → DecidesAccepted keywords matchers p instance valid
  decides_accepted valid told = says_accepted is_valid (λ texts. valid) (λ texts speaks. let (deep, f) = told texts speaks in (deep, λ n more. (f n more).0))

  pub first_accepted : (o : Option ValidationError) → FirstFromSomeDepth keywords matchers p instance o → FirstAccepted keywords matchers p instance o
  first_accepted o told = says_accepted validate (λ texts. is_none o) (λ texts speaks.
      let (deep, f) = told texts speaks in
      (deep, λ n more. (first_verdict _ p.runs (follows texts n) texts o (f n more)).0))

  pub errors_accepted : (es : List ValidationError) → ErrorsFromSomeDepth keywords matchers p instance es → ErrorsAccepted keywords matchers p instance es
  errors_accepted es told = says_accepted iter_errors (λ texts. is_empty es) (λ texts speaks.
      let (deep, f) = told texts speaks in
      (deep, λ n more. (errors_verdict _ p.runs (follows texts n) texts es (f n more)).0))

  pub evaluates_accepted : (u : EvaluationNode) → EvaluatesFromSomeDepth keywords matchers p instance u → EvaluatesAccepted keywords matchers p instance u
  evaluates_accepted u told = says_accepted evaluate (λ texts. verdict_in texts u) (λ texts speaks. let (deep, f) = told texts speaks in (deep, λ n more. (f n more).verdict.0))

-- ---- nodes that are compiled from a key

module _ {S K R C M : Type 0} (h : Handed S K R C M) (keeps : (texts : Bool) → EachKeeps (h.words texts)) (same : (a b : S) → IsDecided (h.resolver.same_state a b) (a ≡ b)) (options : Options) where
  abbrev w : Bool → Parts S K R
  w texts = parts_of h.resolver h.table h.matcher (h.words texts) options

  abbrev w0 : Parts S K (Unit {0})
  w0 = parts_of h.resolver h.table no_matcher no_keywords options

  module _ (texts : Bool) (nodes : List (NodeEntry C)) (number : ℕ) (key : Key S) (compiled : IsCompiled w0 h.shape key nodes number) where
    numbers : AreNumbered (w texts) (map Some compiled.keys) (numbered h.shape nodes)
    numbers = numbered_too h.resolver h.table no_matcher h.matcher no_keywords (h.words texts) options (map Some compiled.keys) (numbered h.shape nodes) compiled.numbers

    count : length nodes ≡ length (map Some compiled.keys)
    count = compiled.lengths ∙ sym (length-map compiled.keys Some)

    nodes_are_monotone : EachIsMonotone (w texts) key → AreMonotone (h.words texts) (numbered h.shape nodes) (length nodes)
    nodes_are_monotone each = subst (AreMonotone (h.words texts) (numbered h.shape nodes)) (sym compiled.lengths)
        (numbers_are_monotone (w texts) compiled.keys (numbered h.shape nodes) numbers key
        (λ i k e. reached_too h.resolver h.table no_matcher h.matcher no_keywords (h.words texts) options (compiled.reached i k e)) each)

    nodes_accept : AreMonotone (h.words texts) (numbered h.shape nodes) (length nodes) → (instance : Data)
        → ((c : Completion) → NodeAcceptsGreatest (h.words texts) h.matcher (numbered h.shape nodes) (subject_in instance) c (length nodes) number []) ↔ AcceptsEach (w texts) key instance
    nodes_accept monotone instance =
        let table = numbered h.shape nodes in
        let n : ℕ = suc (left table (length nodes) number (subject_in instance []) []) in
        let is_root = in_map compiled.keys number key compiled.is_root in
        let here = slice_get_within (map Some compiled.keys) number (Some key) is_root in
        let by_nodes = λ (c : Completion). nodes_say_greatest (h.words texts) (keeps texts) h.matcher table (length nodes) compiled.ranked monotone instance c number [] [] (omega (arith, here, count)) n (omega arith) in
        let by_keys = λ (c : Completion). numbers_say_greatest (w texts) (map Some compiled.keys) table (keeps texts) same numbers
        (subst (Ranked table) count compiled.ranked) (subst (AreMonotone (h.words texts) table) count monotone) key instance c number key [] [] at_first is_root n
        (subst (λ m. left table m number (subject_in instance []) [] < n) count (omega arith)) in
        (λ accept c. (by_keys c).0 ((by_nodes c).1 (accept c)), λ accept c. (by_nodes c).0 ((by_keys c).1 (accept c)))

  module _ (schema : Data) {nested : ℕ} (p : Program C M) where
    pub accepts_as_key : (key : Key S) → IsProgramFrom h.resolver h.table h.matcher options nested schema h.shape h.matching key p → AcceptsAsKey h options key p
    accepts_as_key key program = λ texts. record {
      monotone = nodes_are_monotone texts p.nodes p.root key program.compiled.compiled;
      accepts = λ monotone instance. subst (λ (m : Matcher).
          ((c : Completion) → NodeAcceptsGreatest (h.words texts) m (numbered h.shape p.nodes) (subject_in instance) c (length p.nodes) p.root []) ↔ AcceptsEach (w texts) key instance)
          (sym program.matcher_is) (nodes_accept texts p.nodes p.root key program.compiled.compiled monotone instance);
    }

    -- what is compiled from the root's key is compiled from each root key, which is the same
    pub accepts_as_schema : IsCompiledFrom h options schema nested p → AcceptsAsSchema h options schema p
    accepts_as_schema program = λ texts root is_root.
        let one = one_root_key w0 schema program.root root program.is_root
        (root_key_too h.resolver h.table h.table h.matcher no_matcher (h.words texts) no_keywords options schema root (root_key_of (w texts) schema root is_root)) in
        subst (λ (k : Key S). AcceptAlike h options texts k p) one
        (accepts_as_key program.root (record { compiled = program.compiled; drafted = program.drafted; matcher_is = program.matcher_is; runs_are = program.runs_are; work_is = program.work_is; depth_is = program.depth_is }) texts)
