-- The keywords of a number are whole if the schema of its key contains no fraction.
use Rattle.std.proofs.Common.{◌≡◌, ℕ, Bool, true, false, List, [], ◌∷◌, ap, ◌∙◌, arith}
use Rattle.std.specs.Prelude.{All, flat_map}
use Rattle.std.proofs.lemmas.List.Elements.{All-cons, All-append}
use Rattle.serde_json.specs.Data.{Data, null, boolean, number, string, array, object}
use Rattle.serde_json.specs.Written.{has_float}
use Rattle.theory_definitions.specs.Parts.{Parts}
use Rattle.theory_definitions.specs.Plan.{Key, Part, Form, is_refused, keyword, reference, Plan, always, never, these, plan, plan_of, schema_of, scripted}
use Rattle.theory_definitions.specs.Guarded.{NodeForm, node_keyword, node_reference, NodePart, NodePlan, node_always, node_never, node_these, Nodes}
use Rattle.theory_meaning.specs.Numbered.{Numbers, SamePlan, SameParts, SameForm}
use Rattle.theory_meaning.specs.Fractions.{MakesWhole, form_words, node_words, IsWholeWord, NumbersAreWhole}
use Rattle.theory_meaning.proofs.Makings.{ends_until}
use Rattle.theory_meaning.proofs.PlanForms.{EachForm, PlanForms, plan_forms}

none : {A : Type 0} (P : A → Type 0) → All P []
none P = λ k d h. absurd (omega (arith, h))

module _ {S K R : Type 0} (w : Parts S K R) (is_whole : K → Bool) (keys : Numbers S) (nodes : Nodes K) (k : Key S) where
  abbrev WholeForm : Form K → Type 0
  WholeForm (keyword m requests absorbed) = is_whole m ≡ true
  WholeForm (reference kind text) = Unit {0}

  abbrev Each : List (Part K) → Type 0
  Each [] = Unit {0}
  Each (x ∷ xs) = WholeForm x.form × Each xs

  abbrev OfPlan : Plan K → Type 0
  OfPlan always = Unit {0}
  OfPlan never = Unit {0}
  OfPlan (these xs) = Each xs

  form_whole : (name : List ℕ) (x : NodeForm K) (y : Form K) → SameForm w keys nodes k name x y → WholeForm y → All (IsWholeWord is_whole) (form_words x)
  form_whole name (node_keyword m es) (keyword m' requests absorbed) s h = All-cons (IsWholeWord is_whole) m [] (ap is_whole s.0 ∙ h) (none (IsWholeWord is_whole))
  form_whole name (node_keyword m es) (reference kind text) s h = absurd s
  form_whole name (node_reference e) y s h = none (IsWholeWord is_whole)

  parts_whole : (xs : List (NodePart K)) (ys : List (Part K)) → SameParts w keys nodes k xs ys → Each ys → All (IsWholeWord is_whole) (flat_map (λ x. form_words x.form) xs)
  parts_whole [] ys s h = none (IsWholeWord is_whole)
  parts_whole (x ∷ xs) [] s h = absurd s
  parts_whole (x ∷ xs) (y ∷ ys) s h = All-append (IsWholeWord is_whole) (form_words x.form) (flat_map (λ x. form_words x.form) xs) (form_whole y.name x.form y.form s.0.form h.0) (parts_whole xs ys s.1 h.1)

  pub plan_whole : (p : NodePlan K) (q : Plan K) → SamePlan w keys nodes k p q → OfPlan q → All (IsWholeWord is_whole) (node_words p)
  plan_whole node_always q s h = none (IsWholeWord is_whole)
  plan_whole node_never q s h = none (IsWholeWord is_whole)
  plan_whole (node_these xs) always s h = absurd s
  plan_whole (node_these xs) never s h = absurd s
  plan_whole (node_these xs) (these ys) s h = parts_whole xs ys s h

  each_of : (xs : List (Part K)) → EachForm WholeForm xs → Each xs
  each_of [] t = tt
  each_of (x ∷ xs) t = (t.0, each_of xs t.1)

  plan_of_each : (p : Plan K) → PlanForms WholeForm p → OfPlan p
  plan_of_each always t = tt
  plan_of_each never t = tt
  plan_of_each (these xs) t = each_of xs t

  of_schema : MakesWhole is_whole w.table → (d : Data) → has_float d ≡ false → OfPlan (plan_of w k d)
  of_schema table null h = tt
  of_schema table (boolean true) h = tt
  of_schema table (boolean false) h = tt
  of_schema table (number n) h = tt
  of_schema table (string s) h = tt
  of_schema table (array ds) h = tt
  of_schema table (object ms) h = plan_of_each _ (plan_forms w k ms WholeForm (λ kind text. tt) (λ custom name m absorbed e. table custom name ms _ _ _ _ m absorbed (ends_until (is_refused w k) (scripted w k ms custom name).requests (scripted w k ms custom name).ends m absorbed e) h))

pub numbers_are_whole : {S K R : Type 0} (w : Parts S K R) (is_whole : K → Bool) (keys : Numbers S) (nodes : Nodes K) → NumbersAreWhole w is_whole keys nodes
numbers_are_whole w is_whole keys nodes = λ table numbered i k is h.
    plan_whole w is_whole keys nodes k (nodes.entries i) (plan w k) (numbered.stands i k is).entries (of_schema w is_whole keys nodes k table (schema_of w k) h)
