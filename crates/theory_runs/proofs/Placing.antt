-- From one step to the next, the subject is at the question's place in the context's instance, and
-- the place carries its own number; also the pair of a guarded question when it is entered.
use Rattle.std.proofs.Common.{◌≡◌, ◌∙◌, ◌⊎◌, ◌++◌, ◌∷◌, ◌==◌, ℕ, Bool, false, true, [], ap, inl, inr, refl, subst, sym}
use Rattle.std.specs.Prelude.{None, Option, Some, option_and_then, unwrap_or}
use Rattle.std.proofs.lemmas.Option.{none-some}
use Rattle.std.specs.List.{list_any}
use Rattle.serde_json.specs.Data.{Data}
use Rattle.serde_json.specs.View.{view}
use Rattle.serde_json.specs.declared.value.Value.{Value}
use Rattle.theory_definitions.specs.Instance.{Place, Step, Subject, a_value, after_step, subject_at}
use Rattle.theory_meaning.proofs.Falls.{from_below}
use Rattle.schema_run_context.specs.Progress.{Context, NoDeeper, Pairs, busy_at, root_places}
use Rattle.schema_run_context.specs.Verdicts.{read_verdict, verdict_of}
use Rattle.schema_run_steps.specs.Askings.{Asking, IsAskedOf}
use Rattle.schema_run_steps.specs.EvaluationPlaces.{CarriesItsNumber}
use Rattle.schema_run_steps.specs.declared.evaluation_place.EvaluationPlace.{EvaluationPlace}
use Rattle.theory_runs.specs.RunStates.{Keeps, MayRun, Setting, StaysRight}

-- One step below.
pub stands_below : (root : Data) (p : Place) (s t : Subject) (step : Step) (lower : Place) → subject_at root p ≡ Some s → lower ≡ p ++ step ∷ [] → after_step step s ≡ Some t → subject_at root lower ≡ Some t
stands_below root p s t step lower h e a =
    ap (subject_at root) e ∙ from_below p step (a_value root) ∙ ap (option_and_then (after_step step)) h ∙ a

-- In another context with the same instance.
pub stands_on : (v w : Value) (q : Asking) → w ≡ v → IsAskedOf (view v) q → IsAskedOf (view w) q
stands_on v w q e = subst (λ (u : Value). IsAskedOf (view u) q) (sym e)

pub carries_on : (v w : Value) (p : EvaluationPlace) → w ≡ v → CarriesItsNumber (root_places v) p → CarriesItsNumber (root_places w) p
carries_on v w p e = subst (λ (u : Value). CarriesItsNumber (root_places u) p) (sym e)

-- Two runs, one after the other, do not change what each of them keeps.
pub keeps_on : (a b c : Context) → Keeps a b → Keeps b c → Keeps a c
keeps_on a b c h k = record {
  root = k.root ∙ h.root;
  in_progress = k.in_progress ∙ h.in_progress;
  assumptions = k.assumptions ∙ h.assumptions;
  marking = k.marking ∙ h.marking;
}

-- Whatever might be asked before a run may be asked after it.
pub may_on : {K R : Type 0} (g : Setting K R) (q : Asking) (c c' : Context) (i : ℕ) → Keeps c c' → StaysRight g q c c' → MayRun g q c i → MayRun g q c' i
may_on g q c c' i keeps stays may =
    let (layout, laid, right) = may.goes_on in
    record {
      known = may.known;
      ranked = may.ranked;
      above = subst (NoDeeper q.place) (sym keeps.in_progress) may.above;
      wanted = may.wanted;
      stands = stands_on c.root c'.root q keeps.root may.stands;
      goes_on = (layout, laid, stays layout laid right);
    }

-- At a place that is the same.
pub stands_at : (v w : Value) (q : Asking) (p : Place) → w ≡ v → p ≡ q.place → IsAskedOf (view v) q → subject_at (view w) p ≡ Some q.subject
stands_at v w q p e there h = ap (subject_at (view w)) there ∙ stands_on v w q e h

-- A pair is in progress, or not, depending on its node and its place.
pub pair_busy : (n m : ℕ) (p q : Place) (c d : Context) (b r : Bool) → m ≡ n → q ≡ p → d ≡ c → b ≡ list_any (λ i. i == m) (busy_at q d.in_progress) → b ≡ r → list_any (λ i. i == n) (busy_at p c.in_progress) ≡ r
pair_busy n m p q c d b r node place same found is =
    ap (λ (k : ℕ). list_any (λ i. i == k) (busy_at p c.in_progress)) (sym node)
    ∙ ap (λ (z : Place). list_any (λ i. i == m) (busy_at z c.in_progress)) (sym place)
    ∙ ap (λ (z : Context). list_any (λ i. i == m) (busy_at q z.in_progress)) (sym same)
    ∙ sym found ∙ is

-- An entered pair is the last one.
pub pair_entered : (n m : ℕ) (p q : Place) (c d : Context) (new : Pairs) → m ≡ n → q ≡ p → d ≡ c → new ≡ d.in_progress ++ (m, q) ∷ [] → new ≡ c.in_progress ++ (n, p) ∷ []
pair_entered n m p q c d new node place same entered =
    entered ∙ ap (λ (z : Context). z.in_progress ++ (m, q) ∷ []) same ∙ ap (λ (k : ℕ). c.in_progress ++ (k, q) ∷ []) node
    ∙ ap (λ (z : Place). c.in_progress ++ (n, z) ∷ []) place

-- The known verdict of a pair is yes if the pair is in progress, and the remembered one otherwise.
known : (b : Bool) (read : Option Bool) (v : Bool) → (b ≡ true → Some v ≡ Some true) → (b ≡ false → Some v ≡ read) → ((b ≡ true) × (v ≡ true)) ⊎ ((b ≡ false) × (read ≡ Some v))
known true read v busy free = inl (refl, ap (λ o. unwrap_or o v) (busy refl))
known false read v busy free = inr (refl, sym (free refl))

-- If no verdict of a pair is known, the pair is not in progress and no verdict of it is remembered.
unknown : (b : Bool) (read : Option Bool) → (b ≡ true → None ≡ Some true) → (b ≡ false → None ≡ read) → (b ≡ false) × (read ≡ None)
unknown true read busy free = absurd (none-some true (busy refl))
unknown false read busy free = (refl, sym (free refl))

module _ (n m : ℕ) (p q : Place) (c d : Context) (node : m ≡ n) (place : q ≡ p) (same : d ≡ c) where
  pair_read : read_verdict m q d ≡ read_verdict n p c
  pair_read =
      ap (λ (z : Context). read_verdict m q z) same ∙ ap (λ (k : ℕ). read_verdict k q c) node ∙ ap (λ (z : Place). read_verdict n z c) place

  pub pair_known : (v : Bool) → (list_any (λ i. i == m) (busy_at q d.in_progress) ≡ true → Some v ≡ Some true) → (list_any (λ i. i == m) (busy_at q d.in_progress) ≡ false → Some v ≡ read_verdict m q d)
      → ((list_any (λ i. i == n) (busy_at p c.in_progress) ≡ true) × (v ≡ true)) ⊎ ((list_any (λ i. i == n) (busy_at p c.in_progress) ≡ false) × (read_verdict n p c ≡ Some v))
  pair_known v busy free = elim (known _ _ v busy free) [
    | inl h ↦ inl (pair_busy n m p q c d _ true node place same refl h.0, h.1)
    | inr h ↦ inr (pair_busy n m p q c d _ false node place same refl h.0, sym pair_read ∙ h.1)
  ]

  pub pair_unknown : (list_any (λ i. i == m) (busy_at q d.in_progress) ≡ true → None ≡ Some true) → (list_any (λ i. i == m) (busy_at q d.in_progress) ≡ false → None ≡ read_verdict m q d)
      → (list_any (λ i. i == n) (busy_at p c.in_progress) ≡ false) × (read_verdict n p c ≡ None)
  pair_unknown busy free =
      let h = unknown _ _ busy free in
      (pair_busy n m p q c d _ false node place same refl h.0, sym pair_read ∙ h.1)

  pub pair_lasting : (o : Option Bool) → o ≡ verdict_of m q d.verdicts → verdict_of n p c.verdicts ≡ o
  pair_lasting o read = sym (read ∙ ap (λ (z : Context). verdict_of m q z.verdicts) same ∙ ap (λ (k : ℕ). verdict_of k q c.verdicts) node ∙ ap (λ (z : Place). verdict_of n z c.verdicts) place)
