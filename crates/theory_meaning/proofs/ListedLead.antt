-- The errors that the calls return point at a keyword and at a value, except the failure.
use Rattle.std.proofs.Common.{◌≡◌, ℕ, List, [], ◌∷◌, sym, subst, ap, inl, inr}
use Rattle.std.specs.Prelude.{All, Option, Some, None, ◌⊎◌}
use Rattle.std.proofs.lemmas.List.Elements.{All-nil, All-cons, All-head, All-tail}
use Rattle.serde_json.specs.Data.{Data}
use Rattle.theory_definitions.specs.Reports.{Error}
use Rattle.theory_definitions.specs.Matching.{all_match}
use Rattle.theory_definitions.specs.Parts.{Parts}
use Rattle.theory_definitions.specs.Plan.{Key}
use Rattle.theory_definitions.specs.Cover.{Call, Sense, iter_errors, validate}
use Rattle.theory_meaning.specs.Shared.{Kept, none, keep, leave}
use Rattle.theory_meaning.specs.Headline.{IsFailure, OneFailure, Lists, FirstShared, here, later, IsFirst}
use Rattle.theory_meaning.specs.Headline as headline
use Rattle.theory_meaning.specs.ErrorsLead.{PointsAt, ListedLead, FirstLeads}

module _ (P : Error → Type 0) (v : Sense) where
  of_kept : {es kept : List Error} → Kept v es kept → All P es → All P kept
  of_kept none h = h
  of_kept (keep {e = e} {es = es} {kept = kept} is k) h = All-cons P e kept (All-head P e es h) (of_kept k (All-tail P e es h))
  of_kept (leave {e = e} {es = es} is k) h = of_kept k (All-tail P e es h)

  pub of_lists : (most : ℕ) (call : Call) (es : List Error) → All P (v.says all_match).errors → Lists v most call es → All P es ⊎ OneFailure v most call es
  of_lists most call es h (f ∷ shared, kept, is) = inl (subst (All P) (sym is) (of_kept kept h))
  of_lists most call [] h ([], kept, accepts) = inl (All-nil P)
  of_lists most call (e ∷ es) h ([], kept, (refuses, failure, is)) = inr (e, failure, ap (λ (xs : List Error). e ∷ xs) is)

  abbrev pub OfOption : Option Error → Type 0
  OfOption None = Unit {0}
  OfOption (Some e) = P e

  pub of_first : {es : List Error} {o : Option Error} → FirstShared v es o → All P es → OfOption o
  of_first headline.none h = tt
  of_first (here {e = e} {es = es} is) h = All-head P e es h
  of_first (later {e = e} {es = es} is k) h = of_first k (All-tail P e es h)

  abbrev error_or : Error → Option Error → Error
  error_or e None = e
  error_or e (Some x) = x

  same_some : (a b : Error) → ◌≡◌ {A = Option Error} (Some a) (Some b) → a ≡ b
  same_some a b is = ap (error_or a) is

  pub of_found : (most : ℕ) (o : Option Error) (e : Error) → OfOption o → IsFirst v most o (Some e) → P e ⊎ IsFailure v most validate e
  of_found most None e h is = inr is.1
  of_found most (Some x) e h is = inl (subst P (sym (same_some e x is)) h)

  pub of_failure : (most : ℕ) (e : Error) → (x : Error) × IsFailure v most validate x × (◌≡◌ {A = Option Error} (Some e) (Some x)) → IsFailure v most validate e
  of_failure most e (x, failure, is) = subst (IsFailure v most validate) (sym (same_some e x is)) failure

module _ {S K R : Type 0} (w : Parts S K R) (root : Key S) (instance : Data) where
  pub listed_lead : ListedLead w root instance
  listed_lead v leads limit errors says = (λ decides. of_lists (PointsAt w root instance) v limit iter_errors errors (leads all_match) (says.0 decides), says.1)

  pub first_leads : FirstLeads w root instance
  first_leads v leads limit e says =
      (λ decides. let (o, found, is) = says.0 decides in of_found (PointsAt w root instance) v limit o e (of_first (PointsAt w root instance) v found (leads all_match)) is, λ undecided. of_failure (PointsAt w root instance) v limit e (says.1 undecided))
