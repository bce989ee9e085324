-- What the program prints, by the plain meaning of the schema and of the engine's parts.
use Rattle.std.specs.Prelude.{Bool, IfOk, List, Result, [], false, string_bytes, ℕ, ◌≡◌, ◌⊎◌}
use Rattle.serde_json.specs.Data.{Data}
use Rattle.serde_json.specs.View.{view}
use Rattle.theory_definitions.specs.Drafts.{draft_2020_12}
use Rattle.schema_drafts.specs.KeywordTable.{builtin_in}
use Rattle.theory_definitions.specs.Instance.{Text}
use Rattle.theory_definitions.specs.Cover.{Sense}
use Rattle.theory_meaning.specs.Headline.{Plainly, PlainlyWithUnits}
use Rattle.theory_definitions.specs.Making.{Table}
use Rattle.theory_definitions.specs.Matching.{Matcher}
use Rattle.theory_definitions.specs.Resolving.{Resolver}
use Rattle.schema_reports.specs.declared.evaluation.EvaluationNode.{EvaluationNode}
use Rattle.schema_keys.specs.declared.error.BuildError.{BuildError}
use Rattle.schema_validator.specs.Checked.{FailsCheck, PassesCheck}
use Rattle.schema_validator.specs.Handed.{default_nested, default_runs, Options, default_options, parts_of, table_of}
use Rattle.schema_compiled.specs.Evaluated.{UnitsAnswered}
use Rattle.schema_compiled.specs.Program.{FromSomeDepth, HasUnits, OfEveryEvaluation, OfEverySense, Program}
use Rattle.schema_validator.specs.ProgramOf.{IsProgramOf}
use Rattle.schema_validator.specs.Promised.{HasSchemasUnits, MeansSchema, OfSchema}
use Rattle.schema_validator.specs.Roots.{Builds, RefusesBuild}
use Rattle.standard_resolver.specs.ResolverAnswers.{document_resolving}
use Rattle.standard_subschemas.specs.declared.rules.Rule.TheVariants.{Narrow}
use Rattle.standard_subschemas.specs.SubschemaRules.{document_uri}
use Rattle.standard_resolver.specs.ResolverDocuments.{HeldDocuments, HasCustom, HasDrafts}
use Rattle.bench_parts.specs.BenchMatching.{bench_matcher}
use Rattle.bench_parts.specs.BenchMeta.{document_fault}
use Rattle.standard_resolver.specs.DocumentStates.{Point}
use Rattle.standard_basics.specs.Makers.{basic_script}
use Rattle.standard_basics.specs.BasicShape.{BasicShape, is_whole}
use Rattle.bench_program.specs.ProgramAnswers.{Answers}
use Rattle.bench_program.specs.ProgramWords.{Holds}
use Rattle.standard_basics.specs.Shapes.{shape_of}
use Rattle.standard_basics.specs.Words.{words}
use Rattle.standard_basics.specs.declared.keyword.BasicKeyword.{BasicKeyword}
use Rattle.bench_program.specs.declared.program.answers.Answer.{Answer}
use Rattle.bench_program.specs.declared.program.requests.Call.{Call}

module _ (resolver : Resolver Point) (table : Table BasicShape) (matcher : Matcher) (options : Options) (schema : Data) where
  -- a fact about the plain meaning for each root key of the schema, and also about its texts if
  -- they are covered
  abbrev pub OfPlainMeaning : Data → (Bool → Sense → Type 0) → Type 0
  OfPlainMeaning instance fact = OfSchema resolver table matcher words options schema instance (λ spoken w root. Plainly w root instance (fact spoken))

  -- if no match stays unfinished, then the units are those of the plain meaning, under every
  -- outcome
  abbrev pub PlainUnitsOf : Data → EvaluationNode → Type 0
  PlainUnitsOf instance u = OfSchema resolver table matcher words options schema instance (λ spoken w root. PlainlyWithUnits w root instance (λ v units. UnitsAnswered v spoken units u))

  -- the answers of calls that make at most this many runs
  abbrev pub AnswersPlainly : ℕ → Data → Call → Bool → Text → Type 0
  AnswersPlainly most instance call accepted text = Answers most (OfPlainMeaning instance) (PlainUnitsOf instance) call accepted text

  -- the validator has the meaning of the schema and the parts
  abbrev pub BenchMeans : Program BasicKeyword (List Text) → Type 0
  BenchMeans p = MeansSchema resolver table matcher words options schema shape_of is_whole bench_matcher p

  -- it has the units of their plain meaning
  abbrev pub BenchHasUnits : Program BasicKeyword (List Text) → Type 0
  BenchHasUnits p = HasSchemasUnits resolver table matcher words options schema shape_of is_whole bench_matcher p

-- what a validator's nodes say of an instance
module _ (p : Program BasicKeyword (List Text)) (instance : Data) where
  -- in every sense that they mean, with all units that they have
  abbrev pub AnswersInEverySense : Call → Bool → Text → Type 0
  AnswersInEverySense = Answers p.runs (OfEverySense shape_of words is_whole bench_matcher p instance)
      (λ u. OfEveryEvaluation shape_of words is_whole bench_matcher p instance (λ spoken v units. UnitsAnswered v spoken units u))

  -- from some depth on, also if chains of references return
  abbrev pub AnswersFromSomeDepth : Call → Bool → Text → Type 0
  AnswersFromSomeDepth = Answers p.runs (FromSomeDepth shape_of words is_whole bench_matcher p instance) (HasUnits shape_of words is_whole bench_matcher p instance)

  -- both facts about the answer of a result, if it is `Ok`
  abbrev pub InEverySense : {E : Type 0} → Call → Result Answer E → Type 0
  InEverySense call result = IfOk result (λ a. AnswersInEverySense call a.accepted (string_bytes a.text))

  abbrev pub FromDepth : {E : Type 0} → Call → Result Answer E → Type 0
  FromDepth call result = IfOk result (λ a. AnswersFromSomeDepth call a.accepted (string_bytes a.text))

-- the basic table, with the names of the standard
abbrev pub bench_table : Table BasicShape
bench_table = table_of (λ name. false) builtin_in basic_script

-- a resolver of this document alone by the narrow rule, under its own URI, in 2020-12, with no
-- required vocabularies apart from the draft's own
pub record Resolves (schema : Data) (r : HeldDocuments) : Type 0 where
  pub rule : r.rule ≡ Narrow
  pub document : view r.document ≡ schema
  pub uri : r.uri ≡ document_uri draft_2020_12 schema
  pub alone : r.others ≡ []
  pub draft : r.default_draft ≡ draft_2020_12
  pub drafts : HasDrafts [] r.vocabularies
  pub custom : HasCustom [] r.vocabularies

-- what the arguments hold: a call, its schema and instance, the patterns that stay unfinished, and
-- a resolver of the schema
pub record Asked (ts : List Text) : Type 0 where
  pub call : Call
  pub schema : Data
  pub instance : Data
  pub unfinished : List Text
  pub holds : Holds ts call schema instance unfinished
  pub resolver : HeldDocuments
  pub resolves : Resolves schema resolver

module _ {ts : List Text} (a : Asked ts) where
  -- the schema builds with these parts and the default options
  abbrev pub IsBuilt : Type 0
  IsBuilt = (texts : Bool) → Builds (parts_of (document_resolving a.resolver) bench_table (bench_matcher a.unfinished) (words texts) default_options) a.schema default_options.limit

  -- each of its documents is accepted by the meta validators
  abbrev pub IsPassed : Type 0
  IsPassed = PassesCheck (document_resolving a.resolver) document_fault default_options a.schema

  -- the schema is refused for a real cause, or because the meta validators refuse one of its
  -- documents
  abbrev pub IsRefused : BuildError → Type 0
  IsRefused e = ((texts : Bool) → RefusesBuild (parts_of (document_resolving a.resolver) bench_table (bench_matcher a.unfinished) (words texts) default_options) a.schema default_options.limit e)
      ⊎ FailsCheck (document_resolving a.resolver) document_fault default_options a.schema e

  -- a validator is compiled from it
  abbrev pub IsCompiledFrom : Program BasicKeyword (List Text) → Type 0
  IsCompiledFrom p = IsProgramOf (document_resolving a.resolver) bench_table (bench_matcher a.unfinished) default_options default_nested a.schema shape_of bench_matcher p

-- what the arguments request, if the schema builds and the meta validators accept it: the answer is
-- the one by the plain meaning of the schema with these parts and the default options, and, if
-- chains of references return, the one by what the compiled nodes say from some depth on
pub record AnswersWords (ts : List Text) (accepted : Bool) (text : Text) : Type 0 where
  pub asked : Asked ts
  pub builds : IsBuilt asked
  pub passes : IsPassed asked
  pub plain : AnswersPlainly (document_resolving asked.resolver) bench_table (bench_matcher asked.unfinished) default_options asked.schema default_runs asked.instance asked.call accepted text
  pub program : Program BasicKeyword (List Text)
  pub compiled : IsCompiledFrom asked program
  pub guarded : AnswersFromSomeDepth program asked.instance asked.call accepted text
