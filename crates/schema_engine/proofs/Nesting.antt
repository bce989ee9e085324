-- One sense determines what each call answers, up to the site of its failure; so two validators that mean the plain meaning of one
-- schema answer alike.
use Rattle.std.proofs.Common.{◌≤◌, ℕ, Bool, List, [], ap, arith, false, inl, inr, map, refl, subst, sym, true, ◌∙◌, ◌∷◌, ◌≡◌, ◌⊎◌}
use Rattle.std.specs.Prelude.{IfSome, None, Option, Some, is_none, option_map}
use Rattle.serde_json.specs.Data.{Data}
use Rattle.theory_definitions.specs.Cover.{Call, Decides, Sense, branch_at, evaluate, is_valid, iter_errors, validate, whole}
use Rattle.theory_meaning.specs.Deciding.{decides_or_not, larger_decides}
use Rattle.theory_meaning.specs.Headline as h
use Rattle.theory_meaning.proofs.RunOrder.{failure_within}
use Rattle.theory_definitions.specs.Keywords.{Answer}
use Rattle.theory_definitions.specs.Matching.{all_match}
use Rattle.theory_definitions.specs.Reports.{Error, Unit_}
use Rattle.schema_reports.specs.ReportViews.{error_of}
use Rattle.theory_meaning.specs.Shared.{Kept, keep, leave, none}
use Rattle.unfinished_search.specs.SharedResults.{is_empty}
use Rattle.schema_reports.specs.UnitViews.{unit_of}
use Rattle.schema_reports.specs.declared.evaluation.EvaluationNode.{EvaluationNode}
use Rattle.schema_reports.specs.declared.reports.ValidationError.{ValidationError}
use Rattle.schema_traits.specs.declared.keyword.Validate.{Ghosts as KeywordMembers}
use Rattle.schema_traits.specs.declared.matcher.Matcher.{Ghosts as MatcherMembers}
use Rattle.schema_traits.specs.declared.resolver.Resolver.{Ghosts as ResolverMembers}
use Rattle.schema_traits.specs.declared.table.KeywordTable.{Ghosts as TableMembers}
use Rattle.schema_output.specs.ErrorUnits.{errors_unit}
use Rattle.schema_compiled.specs.Asked.{UnitsInEverySense}
use Rattle.schema_validator.specs.Called.{HasPlainUnits, MeansPlainly, PlainlyOf, UnitsPlainly}
use Rattle.schema_compiled.specs.Evaluated.{EvaluationAnswered, verdict_in}
use Rattle.schema_validator.specs.Handed.{Handed, Options}
use Rattle.schema_compiled.specs.Program.{OfEverySense, Program}
use Rattle.schema_compiled.specs.Spoken.{ErrorsAnswered, FirstAnswered, IsGiven}
use Rattle.schema_engine.specs.Nesting.{AllErrorsAgree, ErrorsAgree, EvaluationsAgree, EvaluationsOfBoth, FirstErrorsAgree, FirstsAgree, IsOfFailure, LargerErrors, LargerEvaluations, LargerFirstErrors, LargerVerdicts, SameErrors, SameFirst, SameUnits, UnitsOfBoth, VerdictsAgree, handed_to_both as both}
use Rattle.schema_validator.proofs.PlainAnswers.{plainly_from}

module _ (v : Sense) (most : ℕ) where
  -- ---- the verdict

  pub same_verdict : (call : Call) (b b' : Bool) → h.VerdictSays v most call b → h.VerdictSays v most call b' → b ≡ b'
  same_verdict call b b' says says' = go (decides_or_not v most call)
    where
      alike : (b b' : Bool) → (b ≡ true → b' ≡ true) → (b' ≡ true → b ≡ true) → b ≡ b'
      alike true b' to from = sym (to refl)
      alike false true to from = from refl
      alike false false to from = refl

      go : Decides v most call ⊎ ¬ (Decides v most call) → b ≡ b'
      go (inl d) = alike b b' (λ e. (says'.0 d).1 ((says.0 d).0 e)) (λ e. (says.0 d).1 ((says'.0 d).0 e))
      go (inr n) = says.1 n ∙ sym (says'.1 n)

  -- ---- the first error

  one_first : {es : List Error} {o o' : Option Error} → h.FirstShared v es o → h.FirstShared v es o' → o ≡ o'
  one_first h.none h.none = refl
  one_first (h.here s) (h.here s') = refl
  one_first (h.here s) (h.later n k) = absurd (n s)
  one_first (h.later n k) (h.here s) = absurd (n s)
  one_first (h.later n k) (h.later n' k') = one_first k k'

  by_shared : (shared shared' o o' : Option Error) → shared ≡ shared' → h.IsFirst v most shared o → h.IsFirst v most shared' o' → SameFirst v most o o'
  by_shared (Some e) (Some e') o o' same is is' = inl (is ∙ (same ∙ sym is'))
  by_shared (Some e) None o o' same is is' = absurd (cc same)
  by_shared None (Some e) o o' same is is' = absurd (cc same)
  by_shared None None None None same is is' = inl refl
  by_shared None None None (Some e) same is is' = let ((c, nay), fails) = is' in absurd (cc (is c, nay))
  by_shared None None (Some e) None same is is' = let ((c, nay), fails) = is in absurd (cc (is' c, nay))
  by_shared None None (Some e) (Some e') same is is' = inr ((e, is.1, refl), (e', is'.1, refl))

  pub same_first : (o o' : Option Error) → h.FirstSays v most o → h.FirstSays v most o' → SameFirst v most o o'
  same_first o o' says says' = go (decides_or_not v most validate)
    where
      go : Decides v most validate ⊎ ¬ (Decides v most validate) → SameFirst v most o o'
      go (inl d) = let (shared, first, is) = says.0 d in let (shared', first', is') = says'.0 d in by_shared shared shared' o o' (one_first first first') is is'
      go (inr n) = inr (says.1 n, says'.1 n)

  -- if no match is met there is no failure
  pub first_alone : (o o' : Option Error) → branch_at v validate [] ≡ None → SameFirst v most o o' → o ≡ o'
  first_alone o o' e (inl same) = same
  first_alone o o' e (inr ((x, fails, is), other)) = absurd (cc (e, fails.is_first))

  pub firsts_agree : (texts : Bool) (o o' : Option ValidationError) → FirstAnswered v most texts o → FirstAnswered v most texts o' → FirstsAgree v most texts o o'
  firsts_agree true o o' says says' = same_first (option_map (error_of true) o) (option_map (error_of true) o') says says'
  firsts_agree false o o' says says' = record {
    verdict = same_verdict validate (is_none o) (is_none o') says.verdict says'.verdict;
    undecided = λ n. (says.undecided n, says'.undecided n);
    alone = λ e. first_alone (option_map (error_of false) o) (option_map (error_of false) o') e
        (same_first (option_map (error_of false) o) (option_map (error_of false) o') (says.alone e) (says'.alone e));
  }

  -- ---- all errors

  one_kept : {es kept kept' : List Error} → Kept v es kept → Kept v es kept' → kept ≡ kept'
  one_kept none none = refl
  one_kept (keep {e = e} s k) (keep s' k') = ap (λ z. e ∷ z) (one_kept k k')
  one_kept (keep s k) (leave n k') = absurd (n s)
  one_kept (leave n k) (keep s k') = absurd (n s)
  one_kept (leave n k) (leave n' k') = one_kept k k'

  module _ (call : Call) where
    by_kept : (shared shared' es es' : List Error) → shared ≡ shared' → h.IsListed v most call shared es → h.IsListed v most call shared' es' → SameErrors v most call es es'
    by_kept (f ∷ fs) (f' ∷ fs') es es' same is is' = inl (is ∙ (same ∙ sym is'))
    by_kept (f ∷ fs) [] es es' same is is' = absurd (cc same)
    by_kept [] (f ∷ fs) es es' same is is' = absurd (cc same)
    by_kept [] [] [] [] same is is' = inl refl
    by_kept [] [] [] (e ∷ es) same is is' = let ((c, nay), fails, last) = is' in absurd (cc (is c, nay))
    by_kept [] [] (e ∷ es) [] same is is' = let ((c, nay), fails, last) = is in absurd (cc (is' c, nay))
    by_kept [] [] (e ∷ es) (e' ∷ es') same is is' = let (some, fails, last) = is in let (some', fails', last') = is' in
        inr ((e, fails, ap (λ z. e ∷ z) last), (e', fails', ap (λ z. e' ∷ z) last'))

    pub same_errors : (es es' : List Error) → h.ErrorsOf v most call es → h.ErrorsOf v most call es' → SameErrors v most call es es'
    same_errors es es' says says' = go (decides_or_not v most call)
      where
        go : Decides v most call ⊎ ¬ (Decides v most call) → SameErrors v most call es es'
        go (inl d) = let (shared, kept, is) = says.0 d in let (shared', kept', is') = says'.0 d in by_kept shared shared' es es' (one_kept kept kept') is is'
        go (inr n) = inr (says.1 n, says'.1 n)

    pub errors_alone : (es es' : List Error) → branch_at v call [] ≡ None → SameErrors v most call es es' → es ≡ es'
    errors_alone es es' e (inl same) = same
    errors_alone es es' e (inr ((x, fails, is), other)) = absurd (cc (e, fails.is_first))

  pub errors_agree : (texts : Bool) (es es' : List ValidationError) → ErrorsAnswered v most texts es → ErrorsAnswered v most texts es' → ErrorsAgree v most texts es es'
  errors_agree true es es' says says' = same_errors iter_errors (map (error_of true) es) (map (error_of true) es') says says'
  errors_agree false es es' says says' = record {
    verdict = same_verdict iter_errors (is_empty es) (is_empty es') says.verdict says'.verdict;
    undecided = λ n. (says.undecided n, says'.undecided n);
    alone = λ e. errors_alone iter_errors (map (error_of false) es) (map (error_of false) es') e
        (same_errors iter_errors (map (error_of false) es) (map (error_of false) es') (says.alone e) (says'.alone e));
  }

  -- ---- evaluations

  -- the units of errors that are the failure alone
  of_failure : (texts : Bool) (u : Unit_) (errors : List ValidationError) → u ≡ errors_unit (map (error_of texts) errors)
      → h.OneFailure v most evaluate (map (error_of true) errors) → IsOfFailure v most texts u
  of_failure texts u [] made (e, fails, is) = absurd (cc is)
  of_failure texts u (x ∷ (y ∷ more)) made (e, fails, is) = absurd (cc is)
  of_failure texts u (x ∷ []) made (e, fails, is) =
      let same : e ≡ error_of true x = cc in
      record { error = x; fails = subst (h.IsFailure v most evaluate) same fails; made = made }

  -- an evaluation that doesn't decide meets an unfinished match
  meets_one : 1 ≤ most → ¬ (Decides v most evaluate) → branch_at v evaluate [] ≡ None → ⊥
  meets_one some not e = not ([] ∷ [], whole e, omega arith)

  undecided_units : (texts : Bool) (u : EvaluationNode) → EvaluationAnswered v most texts u → ¬ (Decides v most evaluate) → IsOfFailure v most texts (unit_of texts u)
  undecided_units texts u says not = let of = says.apart (meets_one says.makes_one not) in of_failure texts (unit_of texts u) of.errors of.made (of.undecided not)

  units_apart : (texts : Bool) (u u' : EvaluationNode) → EvaluationAnswered v most texts u → EvaluationAnswered v most texts u'
      → texts ≡ true → ¬ (branch_at v evaluate [] ≡ None) → SameUnits v most (unit_of true u) (unit_of true u')
  units_apart false u u' says says' e some = absurd (cc e)
  units_apart true u u' says says' e some =
      let of = says.apart some in
      let of' = says'.apart some in
      elim (same_errors evaluate (map (error_of true) of.errors) (map (error_of true) of'.errors) (of.shared refl) (of'.shared refl)) [
        | inl same ↦ inl (of.made ∙ (ap errors_unit same ∙ sym of'.made))
        | inr (one, one') ↦ inr (of_failure true (unit_of true u) of.errors of.made one, of_failure true (unit_of true u') of'.errors of'.made one')
      ]

  pub evaluations_agree : (texts : Bool) (u u' : EvaluationNode) → EvaluationAnswered v most texts u → EvaluationAnswered v most texts u' → EvaluationsAgree v most texts u u'
  evaluations_agree texts u u' says says' = record {
    verdict = same_verdict evaluate (verdict_in texts u) (verdict_in texts u') says.verdict says'.verdict;
    undecided = λ not. (undecided_units texts u says not, undecided_units texts u' says' not);
    apart = units_apart texts u u' says says';
  }

-- ---- calls with two limits

-- if a call decides within two limits, it says the same within both
module _ (v : Sense) (most most' : ℕ) (call : Call) (here : Decides v most call) (there : Decides v most' call) where
  within : {P Q : Type 0} → h.Either (Decides v most' call) P Q → h.Either (Decides v most call) P Q
  within says = (λ decides. says.0 there, λ not. absurd (not here))

  fails_within : (e : Error) → h.IsFailure v most' call e → h.IsFailure v most call e
  fails_within e = failure_within v call most most' e here

  or_one_within : {P : Type 0} (es : List Error) → P ⊎ h.OneFailure v most' call es → P ⊎ h.OneFailure v most call es
  or_one_within es (inl p) = inl p
  or_one_within es (inr (e, fails, is)) = inr (e, fails_within e fails, is)

  listed_within : (shared es : List Error) → h.IsListed v most' call shared es → h.IsListed v most call shared es
  listed_within (f ∷ shared) es is = is
  listed_within [] [] is = is
  listed_within [] (e ∷ es) is = (is.0, fails_within e is.1, is.2)

  errors_of_within : (es : List Error) → h.ErrorsOf v most' call es → h.ErrorsOf v most call es
  errors_of_within es says = (λ decides. let (shared, kept, is) = says.0 there in (shared, kept, listed_within shared es is), λ not. absurd (not here))

module _ (v : Sense) (most most' : ℕ) (here : Decides v most validate) (there : Decides v most' validate) where
  is_first_within : (shared o : Option Error) → h.IsFirst v most' shared o → h.IsFirst v most shared o
  is_first_within (Some e) o is = is
  is_first_within None None is = is
  is_first_within None (Some e) is = (is.0, fails_within v most most' validate here there e is.1)

  first_says_within : (o : Option Error) → h.FirstSays v most' o → h.FirstSays v most o
  first_says_within o says = (λ decides. let (shared, first, is) = says.0 there in (shared, first, is_first_within shared o is), λ not. absurd (not here))

  first_given_within : (o : Option ValidationError) → IfSome o (λ e. IsGiven v false e ⊎ h.IsFailure v most' validate (error_of true e)) → IfSome o (λ e. IsGiven v false e ⊎ h.IsFailure v most validate (error_of true e))
  first_given_within None given = tt
  first_given_within (Some e) (inl given) = inl given
  first_given_within (Some e) (inr fails) = inr (fails_within v most most' validate here there (error_of true e) fails)

first_within : (v : Sense) (most most' : ℕ) → Decides v most validate → Decides v most' validate → (texts : Bool) (o : Option ValidationError) → FirstAnswered v most' texts o → FirstAnswered v most texts o
first_within v most most' here there true o says = first_says_within v most most' here there (option_map (error_of true) o) says
first_within v most most' here there false o says = record {
  verdict = within v most most' validate here there says.verdict;
  given = first_given_within v most most' here there o says.given;
  undecided = λ not. absurd (not here);
  alone = λ e. first_says_within v most most' here there (option_map (error_of false) o) (says.alone e);
}

errors_within : (v : Sense) (most most' : ℕ) → Decides v most iter_errors → Decides v most' iter_errors → (texts : Bool) (es : List ValidationError) → ErrorsAnswered v most' texts es → ErrorsAnswered v most texts es
errors_within v most most' here there true es says = errors_of_within v most most' iter_errors here there (map (error_of true) es) says
errors_within v most most' here there false es says = record {
  verdict = within v most most' iter_errors here there says.verdict;
  given = or_one_within v most most' iter_errors here there (map (error_of true) es) says.given;
  undecided = λ not. absurd (not here);
  alone = λ e. errors_of_within v most most' iter_errors here there (map (error_of false) es) (says.alone e);
}

evaluation_within : (v : Sense) (most most' : ℕ) → 1 ≤ most → Decides v most evaluate → Decides v most' evaluate → (texts : Bool) (u : EvaluationNode) → EvaluationAnswered v most' texts u → EvaluationAnswered v most texts u
evaluation_within v most most' some here there texts u says = record {
  makes_one = some;
  verdict = within v most most' evaluate here there says.verdict;
  apart = λ met.
      let of = says.apart met in
      record {
        errors = of.errors;
        made = of.made;
        given = or_one_within v most most' evaluate here there (map (error_of true) of.errors) of.given;
        undecided = λ not. absurd (not here);
        shared = λ spoken. errors_of_within v most most' evaluate here there (map (error_of true) of.errors) (of.shared spoken);
      };
}

-- ---- two validators of one schema

module _ {A State S T C Maker Run K M : Type 0} (resolvers : ResolverMembers A State S) (tables : TableMembers T C Maker Run K) (keywords : KeywordMembers C Run K) (matchers : MatcherMembers M) (resolver : A) (table : T) (matcher : M) where
  -- what is handed in to both
  abbrev parts : Handed S K (Run × Answer) C M
  parts = both resolvers tables keywords matchers resolver table matcher

  -- what a validator says of every sense that its nodes mean
  abbrev Says : Program C M → Data → (Bool → Sense → Type 0) → Type 0
  Says p instance = OfEverySense keywords.shape keywords.words keywords.is_whole matchers.matching p instance

  -- if it means the plain meaning, this is said of the plain meaning
  of_plain : (options : Options) (schema : Data) (p : Program C M) → MeansPlainly parts options schema p → (instance : Data) (fact : Bool → Sense → Type 0) → Says p instance fact → PlainlyOf parts options schema instance fact
  of_plain options schema p means instance fact =
      plainly_from parts.resolver parts.table parts.matcher parts.words options schema parts.shape parts.is_whole parts.matching p instance fact means

  -- so what both say is said of one sense
  both_plainly : (options : Options) (schema : Data) (p p' : Program C M) → MeansPlainly parts options schema p → MeansPlainly parts options schema p'
      → (instance : Data) (fact fact' says : Bool → Sense → Type 0) → ((texts : Bool) (v : Sense) → fact texts v → fact' texts v → says texts v)
      → Says p instance fact → Says p' instance fact' → PlainlyOf parts options schema instance says
  both_plainly options schema p p' means means' instance fact fact' says agree told told' = λ texts root is_root speaks no_return keys reach n deep. agree texts _
      (of_plain options schema p means instance fact told texts root is_root speaks no_return keys reach n deep)
      (of_plain options schema p' means' instance fact' told' texts root is_root speaks no_return keys reach n deep)

  pub verdicts : VerdictsAgree resolvers tables keywords matchers resolver table matcher
  verdicts options schema nested nested' p p' runs means means' instance b b' = both_plainly options schema p p' means means' instance
      (λ texts v. h.VerdictSays v p.runs is_valid b) (λ texts v. h.VerdictSays v p'.runs is_valid b') (λ texts v. b ≡ b') (λ texts v says says'. same_verdict v p.runs is_valid b b' says (subst (λ most. h.VerdictSays v most is_valid b') (sym runs) says'))

  pub first_errors : FirstErrorsAgree resolvers tables keywords matchers resolver table matcher
  first_errors options schema nested nested' p p' runs means means' instance o o' = both_plainly options schema p p' means means' instance
      (λ texts v. FirstAnswered v p.runs texts o) (λ texts v. FirstAnswered v p'.runs texts o') (λ texts v. FirstsAgree v p.runs texts o o') (λ texts v says says'. firsts_agree v p.runs texts o o' says (subst (λ most. FirstAnswered v most texts o') (sym runs) says'))

  pub all_errors : AllErrorsAgree resolvers tables keywords matchers resolver table matcher
  all_errors options schema nested nested' p p' runs means means' instance es es' = both_plainly options schema p p' means means' instance
      (λ texts v. ErrorsAnswered v p.runs texts es) (λ texts v. ErrorsAnswered v p'.runs texts es') (λ texts v. ErrorsAgree v p.runs texts es es') (λ texts v says says'. errors_agree v p.runs texts es es' says (subst (λ most. ErrorsAnswered v most texts es') (sym runs) says'))

  pub evaluations : EvaluationsOfBoth resolvers tables keywords matchers resolver table matcher
  evaluations options schema nested nested' p p' runs means means' instance u u' = both_plainly options schema p p' means means' instance
      (λ texts v. EvaluationAnswered v p.runs texts u) (λ texts v. EvaluationAnswered v p'.runs texts u') (λ texts v. EvaluationsAgree v p.runs texts u u') (λ texts v says says'. evaluations_agree v p.runs texts u u' says (subst (λ most. EvaluationAnswered v most texts u') (sym runs) says'))

  -- the units of an evaluation are those of the plain meaning, if the validator has these
  plain_units : (options : Options) (schema : Data) (p : Program C M) → MeansPlainly parts options schema p → HasPlainUnits parts options schema p
      → (instance : Data) (u : EvaluationNode) → UnitsInEverySense keywords matchers p instance u → UnitsPlainly parts options schema instance u
  plain_units options schema p means has instance u told texts root is_root speaks no_return keys reach n deep =
      let meant = means instance texts root is_root speaks in
      told texts meant.0 _ (meant.1 no_return keys reach n deep) _ (has instance texts root is_root speaks no_return keys reach n deep)

  pub units : UnitsOfBoth resolvers tables keywords matchers resolver table matcher
  units options schema nested nested' p p' runs means means' has has' instance u u' told told' = λ texts root is_root speaks no_return keys reach n deep none.
      plain_units options schema p means has instance u told texts root is_root speaks no_return keys reach n deep none all_match
      ∙ sym (plain_units options schema p' means' has' instance u' told' texts root is_root speaks no_return keys reach n deep none all_match)

  pub larger_verdicts : LargerVerdicts resolvers tables keywords matchers resolver table matcher
  larger_verdicts options schema nested nested' p p' less means means' instance b b' = both_plainly options schema p p' means means' instance
      (λ texts v. h.VerdictSays v p.runs is_valid b) (λ texts v. h.VerdictSays v p'.runs is_valid b') (λ texts v. Decides v p.runs is_valid → Decides v p'.runs is_valid × (b ≡ b'))
      (λ texts v says says' d. let d' = larger_decides v p.runs p'.runs is_valid less d in (d', same_verdict v p.runs is_valid b b' says (within v p.runs p'.runs is_valid d d' says')))

  pub larger_first_errors : LargerFirstErrors resolvers tables keywords matchers resolver table matcher
  larger_first_errors options schema nested nested' p p' less means means' instance o o' = both_plainly options schema p p' means means' instance
      (λ texts v. FirstAnswered v p.runs texts o) (λ texts v. FirstAnswered v p'.runs texts o') (λ texts v. Decides v p.runs validate → Decides v p'.runs validate × FirstsAgree v p.runs texts o o')
      (λ texts v says says' d. let d' = larger_decides v p.runs p'.runs validate less d in (d', firsts_agree v p.runs texts o o' says (first_within v p.runs p'.runs d d' texts o' says')))

  pub larger_errors : LargerErrors resolvers tables keywords matchers resolver table matcher
  larger_errors options schema nested nested' p p' less means means' instance es es' = both_plainly options schema p p' means means' instance
      (λ texts v. ErrorsAnswered v p.runs texts es) (λ texts v. ErrorsAnswered v p'.runs texts es') (λ texts v. Decides v p.runs iter_errors → Decides v p'.runs iter_errors × ErrorsAgree v p.runs texts es es')
      (λ texts v says says' d. let d' = larger_decides v p.runs p'.runs iter_errors less d in (d', errors_agree v p.runs texts es es' says (errors_within v p.runs p'.runs d d' texts es' says')))

  pub larger_evaluations : LargerEvaluations resolvers tables keywords matchers resolver table matcher
  larger_evaluations options schema nested nested' p p' less means means' instance u u' = both_plainly options schema p p' means means' instance
      (λ texts v. EvaluationAnswered v p.runs texts u) (λ texts v. EvaluationAnswered v p'.runs texts u') (λ texts v. Decides v p.runs evaluate → Decides v p'.runs evaluate × EvaluationsAgree v p.runs texts u u')
      (λ texts v says says' d. let d' = larger_decides v p.runs p'.runs evaluate less d in (d', evaluations_agree v p.runs texts u u' says (evaluation_within v p.runs p'.runs says.makes_one d d' texts u' says')))
