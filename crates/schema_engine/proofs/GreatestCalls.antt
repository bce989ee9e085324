-- Where each keyword is monotone, the calls of a schema and an instance answer the greatest solution of the schema.
use Rattle.std.proofs.Common.{◌≡◌, ◌+◌, Bool, true, arith, subst, sym}
use Rattle.std.specs.Cmp.{both_ways}
use Rattle.std.specs.Prelude.{◌↔◌, Decides as IsDecided}
use Rattle.serde_json.specs.Data.{Data}
use Rattle.theory_definitions.specs.Cover.{Call, Decides, is_valid}
use Rattle.theory_definitions.specs.Guarded.{guarded_sense}
use Rattle.theory_definitions.specs.Laws.{EachKeeps}
use Rattle.theory_meaning.specs.Numbered.{subject_in}
use Rattle.theory_meaning.proofs.Finishing.{nodes_decide}
use Rattle.schema_traits.specs.declared.keyword.Validate.{Ghosts as KeywordMembers}
use Rattle.schema_traits.specs.declared.matcher.Matcher.{Ghosts as MatcherMembers}
use Rattle.schema_traits.specs.declared.resolver.Resolver.{Ghosts as ResolverMembers}
use Rattle.schema_traits.specs.declared.table.KeywordTable.{Ghosts as TableMembers}
use Rattle.schema_node_table.specs.NodeTable.{numbered}
use Rattle.schema_validator.specs.Called.{IsCompiledFrom, MeansPlainly}
use Rattle.schema_validator.specs.Greatest.{NodesAccept, NodesAreMonotone}
use Rattle.schema_validator.specs.Handed.{Handed, Options}
use Rattle.schema_compiled.specs.Program.{FromSomeDepth, Program}
use Rattle.schema_engine.specs.GreatestCalls.{FinishingAccepts, FinishingGreatest, GreatestAnswersAgree, GreatestVerdictsAgree, SaysGreatest}
use Rattle.schema_validator.proofs.Greatest.{accepts_as_schema, through}

pub finishing_accepts : {C Run K M : Type 0} (keywords : KeywordMembers C Run K) (matchers : MatcherMembers M) → FinishingAccepts keywords matchers
finishing_accepts keywords matchers p instance finishes some call answer says texts speaks monotone =
    let (deep, f) = says texts speaks in
    f deep (omega arith) monotone ((nodes_decide (keywords.words texts) (matchers.matching p.matcher) finishes (numbered keywords.shape p.nodes) (subject_in instance) deep p.root).decides p.runs call some)

-- ---- the calls of schema and instance

module _ {S K R C M : Type 0} (h : Handed S K R C M) (keeps : (texts : Bool) → EachKeeps (h.words texts)) (same : (a b : S) → IsDecided (h.resolver.same_state a b) (a ≡ b)) (options : Options)
    (schema : Data) (p : Program C M) (program : IsCompiledFrom h options schema options.nested p) (meant : MeansPlainly h options schema p) (instance : Data) where
  pub says_greatest : (call : Call) (answer : Bool → Bool)
      → FromSomeDepth h.shape h.words h.is_whole h.matching p instance (λ texts v. NodesAreMonotone h.shape h.words p texts → Decides v p.runs call → (answer texts ≡ true) ↔ NodesAccept h.shape h.words h.matching p texts instance)
      → SaysGreatest h options schema instance call answer
  says_greatest call answer told = (
    p,
    program,
    λ texts root is_root speaks.
        let (deep, f) = told texts (meant instance texts root is_root speaks).0 in
        let alike = accepts_as_schema h keeps same options schema p program texts root is_root in (
          deep,
          λ n more each decides. through
              (f n more (alike.monotone each) (subst (λ most. Decides (guarded_sense (h.words texts) (h.matching p.matcher) (numbered h.shape p.nodes) (subject_in instance) n p.root) most call) (sym program.runs_are) decides))
              (alike.accepts (alike.monotone each) instance),
        ),
  )

-- ---- two validators of one schema

module _ {A State S T C Maker Run K M : Type 0} (resolvers : ResolverMembers A State S) (tables : TableMembers T C Maker Run K) (keywords : KeywordMembers C Run K) (matchers : MatcherMembers M) (resolver : A) (table : T) (matcher : M) where
  pub greatest_answers_agree : GreatestAnswersAgree resolvers tables keywords matchers resolver table matcher
  greatest_answers_agree options schema p p' of of' instance call call' answer answer' says says' texts root is_root each speaks speaks' =
      let (deep, f) = says texts speaks in
      let (deep', f') = says' texts speaks' in
      let alike = of texts root is_root in
      let alike' = of' texts root is_root in (
        deep + deep',
        λ n more decides decides'.
            let to = through (f n (omega (arith, more)) (alike.monotone each) decides) (alike.accepts (alike.monotone each) instance) in
            let to' = through (f' n (omega (arith, more)) (alike'.monotone each) decides') (alike'.accepts (alike'.monotone each) instance) in
            both_ways (answer texts) (answer' texts) (λ e. to'.1 (to.0 e)) (λ e. to.1 (to'.0 e)),
      )

  pub greatest_verdicts_agree : GreatestVerdictsAgree resolvers tables keywords matchers resolver table matcher
  greatest_verdicts_agree options schema p p' of of' instance b b' = greatest_answers_agree options schema p p' of of' instance is_valid is_valid (λ texts. b) (λ texts. b')

  pub finishing_greatest : FinishingGreatest resolvers tables keywords matchers resolver table matcher
  finishing_greatest options schema p of instance finishes some call answer says texts root is_root each speaks =
      let alike = of texts root is_root in
      through (finishing_accepts keywords matchers p instance finishes some call answer says texts speaks (alike.monotone each)) (alike.accepts (alike.monotone each) instance)
