-- If the matcher finishes every match, the first error that a call returns is a function of the
-- instance.
use Rattle.std.proofs.Common.{◌≡◌, ◌≤◌, ◌∙◌, ◌+◌, ℕ, suc, List, [], ◌∷◌, refl, sym, ap, subst, arith}
use Rattle.std.specs.Prelude.{None, Option, Some, find, is_some, not}
use Rattle.theory_definitions.specs.Cover.{Decides, Sense, branch_at, validate, whole}
use Rattle.theory_definitions.specs.Guarded.{guarded_sense}
use Rattle.theory_definitions.specs.Instance.{a_value}
use Rattle.theory_definitions.specs.Keywords.{Keywords}
use Rattle.theory_definitions.specs.Matching.{assumed}
use Rattle.theory_definitions.specs.Reports.{Error}
use Rattle.theory_definitions.specs.Runs.{Met, first_error}
use Rattle.theory_meaning.specs.Headline as h
use Rattle.theory_meaning.specs.Members.{Follows}
use Rattle.theory_meaning.specs.Numbered.{left, subject_in}
use Rattle.theory_meaning.specs.Shared.{errors_of}
use Rattle.theory_meaning.proofs.Finishing.{nodes_decide}
use Rattle.theory_meaning.proofs.GuardedSense.{all_nodes_follow}
use Rattle.theory_meaning.proofs.NodeRuns.{guarded_sense_settles}
use Rattle.theory_meaning.proofs.Sentences.{first_says, listed_alone}
use Rattle.meta_checker.specs.FirstErrors.{FirstAlone, FirstIsTold, enough, first_told}

any_error : Error
any_error = record { place = []; schema_path = []; evaluation_path = []; absolute = None; name = []; text = [] }

-- ---- a sense whose first run meets no unfinished match has one first error

module _ (v : Sense) (most : ℕ) (some : 1 ≤ most) (none : branch_at v validate [] ≡ None) where
  decides : Decides v most validate
  decides = ([] ∷ [], whole none, omega (arith, some))

  one_first : {es : List Error} {o o' : Option Error} → h.FirstShared v es o → h.FirstShared v es o' → o ≡ o'
  one_first h.none h.none = refl
  one_first (h.here s) (h.here s') = refl
  one_first (h.here s) (h.later n k) = absurd (n s)
  one_first (h.later n k) (h.here s) = absurd (n s)
  one_first (h.later n k) (h.later n' k') = one_first k k'

  by_shared : (s s' o o' : Option Error) → s ≡ s' → h.IsFirst v most s o → h.IsFirst v most s' o' → o ≡ o'
  by_shared (Some e) (Some e') o o' same is is' = is ∙ (same ∙ sym is')
  by_shared (Some e) None o o' same is is' = absurd (cc same)
  by_shared None (Some e) o o' same is is' = absurd (cc same)
  by_shared None None None None same is is' = refl
  by_shared None None (Some e) o' same is is' = let fails = is.1 in absurd (cc (sym none ∙ fails.is_first))
  by_shared None None None (Some e) same is is' = let fails = is'.1 in absurd (cc (sym none ∙ fails.is_first))

  pub one_answer : (o o' : Option Error) → h.FirstSays v most o → h.FirstSays v most o' → o ≡ o'
  one_answer o o' says says' =
      let (shared, first, is) = says.0 decides in
      let (shared', first', is') = says'.0 decides in
      by_shared shared shared' o o' (one_first first first') is is'

  -- and it is that of the first run
  pub first_answer : Follows v → h.FirstSays v most (first_error (errors_of v []))
  first_answer follows = subst (h.FirstSays v most) (ap first_error (listed_alone v [] any_error))
      (first_says v follows [] [] any_error most ([] ∷ []) (whole none) refl (omega (arith, some)) (λ m e. absurd (cc (sym none ∙ e))))

-- ---- numbered nodes

pub first_is_told : {K R : Type 0} (keywords : Keywords K R) → FirstIsTold keywords
first_is_told {K} keywords each matcher finishes nodes count ranked instance root inside most some o (deep, says) =
    let measure = left nodes count root (a_value instance) [] in
    let far : ℕ = suc (measure + deep) in
    let near : Sense = guarded_sense keywords matcher nodes (subject_in instance) (enough keywords matcher nodes count root instance) root in
    let same : guarded_sense keywords matcher nodes (subject_in instance) far root ≡ near
    = guarded_sense_settles keywords each matcher nodes count ranked instance root inside far (suc measure) (omega arith) (omega arith) in
    let alone : FirstAlone near most o = subst (λ (v : Sense). FirstAlone v most o) same (says far (omega arith)) in
    let none : branch_at near validate [] ≡ None
    = ap (find (λ (m : Met). not (is_some (assumed [] m.pair)))) ((nodes_decide keywords matcher finishes nodes (subject_in instance) (suc measure) root).meets_none validate []) in
    one_answer near most some none o (first_told keywords matcher nodes count root instance) (alone none)
    (first_answer near most some none (all_nodes_follow keywords each matcher nodes (subject_in instance) (suc measure) root))
