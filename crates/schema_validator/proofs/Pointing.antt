-- The errors of a validator that is compiled from a key point at keywords and at values; so do those of one that is compiled from
-- the schema's root, and the errors in its units.
use Rattle.std.proofs.Common.{◌≡◌, ◌+◌, ℕ, arith, sym, subst, Bool, true, false, List, [], ◌∷◌, map, Some, None, inl, inr}
use Rattle.std.proofs.lemmas.List.Elements.{All-cons, All-contains, All-contains_itself, All-head, All-map, All-nil, All-tail, All-weaker}
use Rattle.std.specs.Prelude.{All, Contains, Option, ◌⊎◌}
use Rattle.serde_json.specs.Data.{Data}
use Rattle.theory_definitions.specs.Instance.{Text}
use Rattle.theory_definitions.specs.Reports.{Error, Unit_}
use Rattle.theory_definitions.specs.Matching.{Completion, Matcher, all_match}
use Rattle.theory_definitions.specs.Resolving.{Resolver}
use Rattle.theory_definitions.specs.Making.{Table}
use Rattle.theory_definitions.specs.Keywords.{Keywords}
use Rattle.theory_definitions.specs.Parts.{Parts}
use Rattle.theory_definitions.specs.Plan.{Key}
use Rattle.theory_definitions.specs.Cover.{Sense, iter_errors, validate}
use Rattle.theory_meaning.specs.Headline.{FirstShared, IsFailure, IsFirst}
use Rattle.schema_reports.specs.ReportViews.{error_of}
use Rattle.schema_reports.specs.UnitViews.{unit_of}
use Rattle.schema_reports.specs.declared.evaluation.EvaluationNode.{EvaluationNode}
use Rattle.schema_reports.specs.declared.reports.ValidationError.{ValidationError}
use Rattle.theory_meaning.specs.ErrorsLead.{EachKeepsAbsorbing, EachLeads, MakesAbsorbing, PointsAt}
use Rattle.theory_meaning.specs.UnitsLead.{EachHandsUnitsOn, UnitsPoint}
use Rattle.theory_meaning.specs.Means as means
use Rattle.theory_definitions.specs.Guarded.{guarded_sense, guarded_units}
use Rattle.theory_meaning.specs.Numbered.{subject_in}
use Rattle.theory_meaning.proofs.NodeErrorsLead.{node_errors_lead}
use Rattle.theory_meaning.proofs.UnitsLead.{node_units_lead}
use Rattle.theory_meaning.proofs.ListedLead.{of_failure, of_first, of_found, of_lists}
use Rattle.schema_node_table.specs.NodeTable.{numbered}
use Rattle.schema_traits.proofs.PartLaws.{makes_absorbed}
use Rattle.schema_compiled.specs.Evaluated.{EvaluationAnswered, IsOfErrors}
use Rattle.schema_compiled.specs.Program.{FromSomeDepth, HasUnits, Program}
use Rattle.schema_compiled.specs.Spoken.{EachIsGiven, ErrorsAnswered, FirstAnswered, FirstIsGiven, IsGiven}
use Rattle.schema_validator.specs.Compiled.{IsWhole}
use Rattle.schema_validator.specs.ProgramOf.{IsProgramFrom, IsProgramOf}
use Rattle.schema_keys.specs.Compiling.{no_keywords, no_matcher}
use Rattle.schema_validator.specs.Handed.{Options, parts_of}
use Rattle.schema_validator.specs.Promised.{MeansSchema, OfSchema, PointsFromKey, PointsIntoSchema, UnitsPointFromKey, UnitsPointIntoSchema}
use Rattle.schema_validator.specs.Pointing.{EachPoints, EvaluationPoints, FirstPoints, IsOfPointing}
use Rattle.schema_validator.proofs.Built.{EachScript, in_map}
use Rattle.schema_validator.proofs.OtherParts.{numbered_too}
use Rattle.schema_validator.proofs.RootKeys.{one_root_key, root_key_of, root_key_too}

-- ---- where the errors of a call come from

module _ (v : Sense) where
  -- some outcome produces the error
  abbrev Given : Error → Type 0
  Given e = (c : Completion) × Contains (v.says c).errors e

  all_given : All Given (v.says all_match).errors
  all_given = All-weaker (Contains (v.says all_match).errors) Given (λ e h. (all_match, h)) (v.says all_match).errors (All-contains_itself (v.says all_match).errors)

  of_mapped : (P : Error → Type 0) (f : ValidationError → Error) (es : List ValidationError) → All P (map f es) → All (λ e. P (f e)) es
  of_mapped P f [] h = All-nil (λ e. P (f e))
  of_mapped P f (e ∷ es) h = All-cons (λ x. P (f x)) e es (All-head P (f e) (map f es) h) (of_mapped P f es (All-tail P (f e) (map f es) h))

  pub each_is_given : (most : ℕ) (texts : Bool) (es : List ValidationError) → ErrorsAnswered v most texts es → EachIsGiven v most texts es
  each_is_given most true es says = (
    λ decides. elim (of_lists Given v most iter_errors (map (error_of true) es) all_given (says.0 decides)) [ inl all ↦ inl (of_mapped Given (error_of true) es all) | inr failure ↦ inr failure ],
    says.1,
  )
  each_is_given most false es says = (λ decides. says.given, says.undecided)

  first_given : (most : ℕ) (o : Option Error) (e : Error) → FirstShared v (v.says all_match).errors o → IsFirst v most o (Some e) → Given e ⊎ IsFailure v most validate e
  first_given most o e found is = of_found Given v most o e (of_first Given v found all_given) is

  pub first_is_given : (most : ℕ) (texts : Bool) (o : Option ValidationError) → FirstAnswered v most texts o → FirstIsGiven v most texts o
  first_is_given most texts None says = tt
  first_is_given most true (Some e) says = (λ decides. let f = says.0 decides in first_given most f.0 (error_of true e) f.1 f.2, λ not. of_failure Given v most (error_of true e) (says.1 not))
  first_is_given most false (Some e) says = (λ decides. says.given, λ not. of_failure Given v most (error_of true e) (says.undecided not))

-- ---- where the errors of compiled nodes point

makers : {K : Type 0} (absorbed : K → List Text) (is_whole : K → Bool) (table : Table K) → EachScript absorbed is_whole table → MakesAbsorbing absorbed table
makers absorbed is_whole table scripts custom name whole draft vocabularies formats is_self m names ends =
    makes_absorbed absorbed is_whole whole is_self (table.script custom name whole draft vocabularies formats) (scripts custom name whole draft vocabularies formats) m names ends

module _ {S K R C M : Type 0} (resolver : Resolver S) (table : Table K) (matcher : Matcher) (words : Bool → Keywords K R) (options : Options) (schema : Data) (shape : C → K) (matching : M → Matcher) (p : Program C M) where
  abbrev w : Bool → Parts S K R
  w texts = parts_of resolver table matcher (words texts) options

  abbrev w0 : Parts S K (Unit {0})
  w0 = parts_of resolver table no_matcher no_keywords options

  abbrev sense_at : Bool → Data → Matcher → (n : ℕ) → Sense
  sense_at texts instance m n = guarded_sense (words texts) m (numbered shape p.nodes) (subject_in instance) n p.root

  -- the units of the root's node, under a completion
  abbrev units_at : Bool → Data → Matcher → ℕ → Completion → Unit_
  units_at texts instance m n c = guarded_units (words texts) m (numbered shape p.nodes) (subject_in instance) c n p.root [] [] []

  module _ (absorbed : K → List Text) (is_whole : K → Bool) (each : (texts : Bool) → EachKeepsAbsorbing (words texts) absorbed) (scripts : EachScript absorbed is_whole table)
      {nested : ℕ} where
    pub points_from_key : (key : Key S) → IsProgramFrom resolver table matcher options nested schema shape matching key p → PointsFromKey resolver table matcher words options key shape matching p
    points_from_key key program = λ instance texts speaks n.
        let keys = program.compiled.compiled.keys in
        subst (λ m. EachLeads (w texts) key instance (sense_at texts instance m n)) (sym program.matcher_is) (λ c.
        node_errors_lead (w texts) absorbed (map Some keys) (numbered shape p.nodes) (each texts) (makers absorbed is_whole table scripts)
        (numbered_too resolver table no_matcher matcher no_keywords (words texts) options (map Some keys) (numbered shape p.nodes) program.compiled.compiled.numbers)
        instance c n p.root key (in_map keys p.root key program.compiled.compiled.is_root))

    -- what is compiled from the root's key is compiled from each root key, which is the same
    from_root : (program : IsProgramOf resolver table matcher options nested schema shape matching p) (root : Key S) → program.root ≡ root → IsProgramFrom resolver table matcher options nested schema shape matching root p
    from_root program root same = record {
      compiled = subst (λ k. IsWhole w0 shape nested k p.nodes p.root) same program.compiled;
      drafted = program.drafted;
      matcher_is = program.matcher_is;
      runs_are = program.runs_are;
      work_is = program.work_is;
      depth_is = program.depth_is;
    }

    pub points_into : IsProgramOf resolver table matcher options nested schema shape matching p → PointsIntoSchema resolver table matcher words options schema shape matching p
    points_into program = λ instance texts root is_root speaks n.
        let same = one_root_key w0 schema program.root root program.is_root (root_key_too resolver table table matcher no_matcher (words texts) no_keywords options schema root (root_key_of (w texts) schema root is_root)) in
        points_from_key root (from_root program root same) instance texts speaks n

    -- ---- where the errors in units of compiled nodes point

    pub units_point_from_key : ((texts : Bool) → EachHandsUnitsOn (words texts) absorbed) → (key : Key S) → IsProgramFrom resolver table matcher options nested schema shape matching key p
        → UnitsPointFromKey resolver table matcher words options key shape matching p
    units_point_from_key hands key program = λ instance texts speaks n c.
        let keys = program.compiled.compiled.keys in
        subst (λ m. UnitsPoint (w texts) key instance (units_at texts instance m n c)) (sym program.matcher_is)
        (node_units_lead (w texts) absorbed (map Some keys) (numbered shape p.nodes) (each texts) (makers absorbed is_whole table scripts) (hands texts)
        (numbered_too resolver table no_matcher matcher no_keywords (words texts) options (map Some keys) (numbered shape p.nodes) program.compiled.compiled.numbers)
        instance c n p.root key (in_map keys p.root key program.compiled.compiled.is_root))

    pub units_point_into : ((texts : Bool) → EachHandsUnitsOn (words texts) absorbed) → IsProgramOf resolver table matcher options nested schema shape matching p
        → UnitsPointIntoSchema resolver table matcher words options schema shape matching p
    units_point_into hands program = λ instance texts root is_root speaks n c.
        let same = one_root_key w0 schema program.root root program.is_root (root_key_too resolver table table matcher no_matcher (words texts) no_keywords options schema root (root_key_of (w texts) schema root is_root)) in
        units_point_from_key hands root (from_root program root same) instance texts speaks n c

  -- ---- what a build and a call say, together

  module _ (is_whole : K → Bool) (meant : MeansSchema resolver table matcher words options schema shape is_whole matching p) (points : PointsIntoSchema resolver table matcher words options schema shape matching p) (instance : Data) where
    -- an error that an outcome produces points at keyword and value
    given_points : (texts : Bool) (root : Key S) (v : Sense) → EachLeads (w texts) root instance v → (e : ValidationError) → IsGiven v texts e → PointsAt (w texts) root instance (error_of texts e)
    given_points texts root v lead e given = All-contains (PointsAt (w texts) root instance) (v.says given.0).errors (error_of texts e) (lead given.0) given.1

    each_given : (texts : Bool) (root : Key S) (v : Sense) → EachLeads (w texts) root instance v → (es : List ValidationError) → All (IsGiven v texts) es → All (PointsAt (w texts) root instance) (map (error_of texts) es)
    each_given texts root v lead es all = All-map (PointsAt (w texts) root instance) (error_of texts) es (All-weaker (IsGiven v texts) (λ e. PointsAt (w texts) root instance (error_of texts e)) (given_points texts root v lead) es all)

    each_points_at : (texts : Bool) (root : Key S) (v : Sense) → EachLeads (w texts) root instance v → (es : List ValidationError) → EachIsGiven v p.runs texts es → EachPoints (w texts) root instance v p.runs texts es
    each_points_at texts root v lead es says = (λ decides. elim (says.0 decides) [ inl all ↦ inl (each_given texts root v lead es all) | inr failure ↦ inr failure ], says.1)

    pub each_points : (es : List ValidationError) → FromSomeDepth shape words is_whole matching p instance (λ texts v. EachIsGiven v p.runs texts es)
        → OfSchema resolver table matcher words options schema instance (λ texts w root. means.FromSomeDepth (words texts) (matching p.matcher) (numbered shape p.nodes) p.root instance (λ v. EachPoints w root instance v p.runs texts es))
    each_points es says = λ texts root is_root speaks.
        let deep = says texts (meant instance texts root is_root speaks).0 in
        (deep.0, λ n more. each_points_at texts root (sense_at texts instance (matching p.matcher) n) (points instance texts root is_root speaks n) es (deep.1 n more))

    first_points_at : (texts : Bool) (root : Key S) (v : Sense) → EachLeads (w texts) root instance v → (o : Option ValidationError) → FirstIsGiven v p.runs texts o → FirstPoints (w texts) root instance v p.runs texts o
    first_points_at texts root v lead None says = tt
    first_points_at texts root v lead (Some e) says = (
      λ decides. elim (says.0 decides) [ inl given ↦ inl (given_points texts root v lead e given) | inr failure ↦ inr failure ],
      says.1,
    )

    pub first_points : (o : Option ValidationError) → FromSomeDepth shape words is_whole matching p instance (λ texts v. FirstIsGiven v p.runs texts o)
        → OfSchema resolver table matcher words options schema instance (λ texts w root. means.FromSomeDepth (words texts) (matching p.matcher) (numbered shape p.nodes) p.root instance (λ v. FirstPoints w root instance v p.runs texts o))
    first_points o says = λ texts root is_root speaks.
        let deep = says texts (meant instance texts root is_root speaks).0 in
        (deep.0, λ n more. first_points_at texts root (sense_at texts instance (matching p.matcher) n) (points instance texts root is_root speaks n) o (deep.1 n more))

    -- the errors that units are made of
    made_of_pointing : (texts : Bool) (root : Key S) (v : Sense) → EachLeads (w texts) root instance v → (u : Unit_) → IsOfErrors v p.runs texts u → IsOfPointing (w texts) root instance v p.runs texts u
    made_of_pointing texts root v lead u of = record {
      errors = of.errors;
      made = of.made;
      point = (λ decides. elim of.given [ inl all ↦ inl (each_given texts root v lead of.errors all) | inr failure ↦ inr failure ], of.undecided);
    }

    module _ (absorbed : K → List Text) (each : (texts : Bool) → EachKeepsAbsorbing (words texts) absorbed) (hands : (texts : Bool) → EachHandsUnitsOn (words texts) absorbed)
        (scripts : EachScript absorbed is_whole table) {nested : ℕ} (program : IsProgramOf resolver table matcher options nested schema shape matching p) where
      pub evaluation_points : (u : EvaluationNode) → FromSomeDepth shape words is_whole matching p instance (λ texts v. EvaluationAnswered v p.runs texts u) → HasUnits shape words is_whole matching p instance u
          → OfSchema resolver table matcher words options schema instance (λ texts w root. means.FromSomeDepth (words texts) (matching p.matcher) (numbered shape p.nodes) p.root instance (λ v. EvaluationPoints w root instance v p.runs texts u))
      evaluation_points u says has = λ texts root is_root speaks.
          let told = (meant instance texts root is_root speaks).0 in
          let (deep, f) = says texts told in
          let (deep', g) = has texts told in (
            deep + deep',
            λ n more. record {
              apart = λ met. made_of_pointing texts root (sense_at texts instance (matching p.matcher) n) (points instance texts root is_root speaks n) (unit_of texts u) ((f n (omega (arith, more))).apart met);
              alone = λ none. subst (UnitsPoint (w texts) root instance) (sym (g n (omega (arith, more)) none all_match)) (units_point_into absorbed is_whole each scripts hands program instance texts root is_root speaks n all_match);
            },
          )
