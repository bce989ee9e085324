-- The answers that fit what is found; and what is stated of them still holds as more is found.
use Rattle.std.proofs.Common.{◌≡◌, ◌∙◌, ℕ, ◌++◌, ◌||◌, not, Bool, true, false, refl, sym, subst, ap, append_assoc, true≢false, inl, inr}
use Rattle.std.specs.Prelude.{None, Option, Some}
use Rattle.std.proofs.lemmas.Bool.{false_from_ne_true, or_left, or_right}
use Rattle.theory_definitions.specs.Instance.{Place}
use Rattle.theory_definitions.specs.Keywords.{Below}
use Rattle.theory_definitions.specs.Meaning.{place_below}
use Rattle.theory_definitions.proofs.Products.{in_either}
use Rattle.theory_fixed_points.specs.Under.{EdgeAnswers, Solving, by_set}
use Rattle.theory_fixed_points.specs.Found.{Found, Grows, accepted_now, refused, settled}
use Rattle.theory_fixed_points.specs.Stages.{Fits, IsStaged, PairTells, for_now}
use Rattle.theory_fixed_points.proofs.Under.{below_begins}

-- ---- known verdicts

module _ (f : Found) (i : ℕ) (p : Place) where
  pub settled_by : f.known i p ≡ Some true → settled f i p ≡ true
  settled_by is = ap (λ o. elim o as (λ (o : Option Bool). Bool) [ None ↦ false | Some v ↦ v ]) is

  pub refused_by : f.known i p ≡ Some false → refused f i p ≡ true
  refused_by is = ap (λ o. elim o as (λ (o : Option Bool). Bool) [ None ↦ false | Some v ↦ not v ]) is

  pub unknown_not_settled : f.known i p ≡ None → settled f i p ≡ false
  unknown_not_settled is = ap (λ o. elim o as (λ (o : Option Bool). Bool) [ None ↦ false | Some v ↦ v ]) is

  pub unknown_not_refused : f.known i p ≡ None → refused f i p ≡ false
  unknown_not_refused is = ap (λ o. elim o as (λ (o : Option Bool). Bool) [ None ↦ false | Some v ↦ not v ]) is

  pub is_settled : settled f i p ≡ true → f.known i p ≡ Some true
  is_settled = go (f.known i p)
    where
      go : (o : Option Bool) → (let b : Bool = elim o [ None ↦ false | Some v ↦ v ] in b) ≡ true → o ≡ Some true
      go None is = absurd (true≢false (sym is))
      go (Some v) is = ap Some is

  pub is_refused : refused f i p ≡ true → f.known i p ≡ Some false
  is_refused = go (f.known i p)
    where
      go : (o : Option Bool) → (let b : Bool = elim o [ None ↦ false | Some v ↦ not v ] in b) ≡ true → o ≡ Some false
      go None is = absurd (true≢false (sym is))
      go (Some true) is = absurd (true≢false (sym is))
      go (Some false) is = refl

  pub by_busy : f.busy i p ≡ true → accepted_now f i p ≡ true
  by_busy is = or_left _ _ is

  pub by_assumed : f.assumed i p ≡ true → accepted_now f i p ≡ true
  by_assumed is = or_right (f.busy i p) _ (or_left _ _ is)

  pub by_settled : settled f i p ≡ true → accepted_now f i p ≡ true
  by_settled is = or_right (f.busy i p) _ (or_right (f.assumed i p) _ is)

  pub accepted_cases : {P : Type 0} → (f.busy i p ≡ true → P) → (f.assumed i p ≡ true → P) → (settled f i p ≡ true → P) → accepted_now f i p ≡ true → P
  accepted_cases a b c is = in_either (f.busy i p) _ a (in_either (f.assumed i p) _ b c) is

module _ (f : Found) (i : ℕ) (p : Place) where
  pub now_busy : f.busy i p ≡ true → for_now f i p ≡ true
  now_busy is = or_left _ _ is

  pub now_assumed : f.assumed i p ≡ true → for_now f i p ≡ true
  now_assumed is = or_right (f.busy i p) _ is

  pub now_cases : {P : Type 0} → (f.busy i p ≡ true → P) → (f.assumed i p ≡ true → P) → for_now f i p ≡ true → P
  now_cases a b is = in_either (f.busy i p) (f.assumed i p) a b is

-- ---- answers that fit

-- Answers that fit with provisional yeses fit without them, too.
pub lean_less : (f : Found) (l k : Bool) (answers : EdgeAnswers) → (l ≡ true → k ≡ true) → Fits f k answers → Fits f l answers
lean_less f l k answers less fits = record { alike = fits.alike; known = fits.known; leaning = λ is. fits.leaning (less is) }

pub lean_none : (f : Found) (l : Bool) (answers : EdgeAnswers) → Fits f l answers → Fits f false answers
lean_none f l answers fits = lean_less f false l answers (λ is. absurd (true≢false (sym is))) fits

module _ {K R : Type 0} (w : Solving K R) (f : Found) (staged : IsStaged w f) where
  pub known_not_now : (i : ℕ) (p : Place) (v : Bool) → f.known i p ≡ Some v → for_now f i p ≡ false
  known_not_now i p v is = false_from_ne_true (for_now f i p) (λ now. let f : ⊥ = let both : Some v ≡ None = sym is ∙ staged.apart i p now in cc both in f)

  pub busy_unknown : (i : ℕ) (p : Place) → f.busy i p ≡ true → f.known i p ≡ None
  busy_unknown i p is = staged.apart i p (now_busy f i p is)

  pub assumed_unknown : (i : ℕ) (p : Place) → f.assumed i p ≡ true → f.known i p ≡ None
  assumed_unknown i p is = staged.apart i p (now_assumed f i p is)

  -- The given answers, with a yes for the provisional pairs.
  abbrev pub with_now : EdgeAnswers → EdgeAnswers
  with_now answers e p = answers e p || for_now f e.node p

  pub with_now_fits : (answers : EdgeAnswers) → Fits f false answers → Fits f true (with_now answers)
  with_now_fits answers fits = record {
    alike = λ a b p node guards. both (answers a p) (answers b p) (for_now f a.node p) (for_now f b.node p) (fits.alike a b p node guards) (ap (λ n. for_now f n p) node);
    known = λ e p v is. both (answers e p) v (for_now f e.node p) false (fits.known e p v is) (known_not_now e.node p v is) ∙ no_more v;
    leaning = λ is e p now. or_right (answers e p) _ now;
  }
    where
      both : (a b c d : Bool) → a ≡ b → c ≡ d → (a || c) ≡ (b || d)
      both a b c d x y = ap (λ z. z || c) x ∙ ap (λ z. b || z) y

      no_more : (v : Bool) → (v || false) ≡ v
      no_more true = refl
      no_more false = refl

  -- The pairs that count as yes, as a set of answers, fit.
  pub accepted_fits : Fits f true (by_set (accepted_now f))
  accepted_fits = record {
    alike = λ a b p node guards. ap (λ n. accepted_now f n p) node;
    known = λ e p v is. answered e.node p v is;
    leaning = λ is e p. now_cases f e.node p (by_busy f e.node p) (by_assumed f e.node p);
  }
    where
      known_value : (o : Option Bool) (v : Bool) → o ≡ Some v → (let b : Bool = elim o [ None ↦ false | Some x ↦ x ] in b) ≡ v
      known_value o v is = ap (λ o. elim o as (λ (o : Option Bool). Bool) [ None ↦ false | Some x ↦ x ]) is

      joined : (a b c v : Bool) → (a || b) ≡ false → c ≡ v → (a || (b || c)) ≡ v
      joined true b c v none is = absurd (true≢false none)
      joined false true c v none is = absurd (true≢false none)
      joined false false c v none is = is

      answered : (i : ℕ) (p : Place) (v : Bool) → f.known i p ≡ Some v → accepted_now f i p ≡ v
      answered i p v is = joined (f.busy i p) (f.assumed i p) (settled f i p) v (known_not_now i p v is) (known_value (f.known i p) v is)

-- ---- pairs that are answered at once

pub tells_known : (f : Found) (i : ℕ) (p : Place) (v l : Bool) → f.known i p ≡ Some v → PairTells f i p v l
tells_known f i p v l is answers fits e node = fits.known e p v (subst (λ n. f.known n p ≡ Some v) (sym node) is)

pub tells_now : (f : Found) (i : ℕ) (p : Place) → for_now f i p ≡ true → PairTells f i p true true
tells_now f i p is answers fits e node = fits.leaning refl e p (subst (λ n. for_now f n p ≡ true) (sym node) is)

-- ---- as more is found

pub grows_none : (q : Place) (f : Found) → Grows q f f
grows_none q f = record { busy = λ i p. refl; known = λ i p v is. is; assumed = λ i p is. is; here = λ i p is. inl is }

pub grows_on : (q : Place) (f g h : Found) → Grows q f g → Grows q g h → Grows q f h
grows_on q f g h a b = record {
  busy = λ i p. b.busy i p ∙ a.busy i p;
  known = λ i p v is. b.known i p v (a.known i p v is);
  assumed = λ i p is. b.assumed i p (a.assumed i p is);
  here = λ i p is. elim (b.here i p is) [ inl was ↦ a.here i p was | inr there ↦ inr there ];
}

-- A step at a place below is a step below.
pub grows_below : (q : Place) (b : Below) (f g : Found) → Grows (place_below q b) f g → Grows q f g
grows_below q b f g a = record {
  busy = a.busy;
  known = a.known;
  assumed = a.assumed;
  here = λ i p is. elim (a.here i p is) [
    | inl was ↦ inl was
    | inr there ↦ let begins = below_begins q b in inr (begins.0 ++ there.0, there.1 ∙ ap (λ z. z ++ there.0) begins.1 ∙ append_assoc q begins.0 there.0)
  ];
}

pub grows_fits : (q : Place) (f g : Found) → Grows q f g → (l k : Bool) → (l ≡ true → k ≡ true) → (answers : EdgeAnswers) → Fits g k answers → Fits f l answers
grows_fits q f g grew l k less answers fits = record {
  alike = fits.alike;
  known = λ e p v is. fits.known e p v (grew.known e.node p v is);
  leaning = λ is e p. now_cases f e.node p
      (λ now. fits.leaning (less is) e p (now_busy g e.node p (grew.busy e.node p ∙ now)))
      (λ now. fits.leaning (less is) e p (now_assumed g e.node p (grew.assumed e.node p now)));
}

pub grows_fits_same : (q : Place) (f g : Found) → Grows q f g → (l : Bool) (answers : EdgeAnswers) → Fits g l answers → Fits f l answers
grows_fits_same q f g grew l answers fits = grows_fits q f g grew l l (λ is. is) answers fits
