-- Errors of numbered nodes point at a keyword and at a value, whether questions return or not.
use Rattle.std.proofs.Common.{◌≡◌, ℕ, zero, suc, Bool, true, false, ◌==◌, List, [], ◌∷◌, ◌++◌, refl, sym, subst, arith}
use Rattle.std.specs.Prelude.{Contains, Option, Some, None}
use Rattle.std.specs.List.{list_any}
use Rattle.std.proofs.lemmas.List.Elements.{All-nil, All-cons, All-map, All-append}
use Rattle.serde_json.specs.Data.{Data}
use Rattle.theory_definitions.specs.Instance.{Text, Place, Step}
use Rattle.theory_definitions.specs.Reports.{Outcome, accepted}
use Rattle.theory_definitions.specs.Parts.{Parts}
use Rattle.theory_definitions.specs.Matching.{Completion, matching, beside}
use Rattle.theory_definitions.specs.Keywords.{Below, here}
use Rattle.theory_definitions.specs.Plan.{Key, Edge, Part, Form, keyword, reference, Plan, always, never, these, plan, child, requested, reference_edge}
use Rattle.theory_definitions.specs.Meaning.{Where, at, place_below, stamped, false_outcome, keyword_outcome, reference_outcome, kept, told_of}
use Rattle.theory_meaning.specs.Paths.{part_edges}
use Rattle.theory_definitions.specs.Guarded.{NodeEdge, node_child, NodeForm, node_keyword, node_reference, NodePart, NodePlan, node_always, node_never, node_these, Nodes, progress_below, across, guarded_within, node_at, node_asked, node_part, node_parts, node_outcome, yes_outcome, node_others, node_told}
use Rattle.theory_meaning.specs.Numbered.{Numbers, IsNumber, SameEdge, SameForm, SamePart, SameParts, SamePlan, StandsFor, AreNumbered, subject_in}
use Rattle.theory_meaning.specs.ErrorsLead.{EachKeepsAbsorbing, MakesAbsorbing, keyword_location, Passes, begins, passes, NodeErrorsLead}
use Rattle.theory_meaning.proofs.Questions.{later}
use Rattle.theory_meaning.proofs.Settles.{picked}
use Rattle.theory_meaning.proofs.SameOutcome.{in_option_list}
use Rattle.theory_meaning.proofs.ErrorsLead.{Stands, Leading, AllLead, keeps, is_part, false_leads, keyword_leads, each_passed, at_root}

module _ {S K R : Type 0} (w : Parts S K R) (absorbs : K → List Text) (laws : EachKeepsAbsorbing w.keywords absorbs) (makers : MakesAbsorbing absorbs w.table) (keys : Numbers S) (nodes : Nodes K) (root : Key S) (instance : Data) where
  abbrev Lead : List (Option Text) → Outcome → Type 0
  Lead locations o = AllLead w absorbs laws makers root instance locations o

  nothing_leads : (locations : List (Option Text)) → Lead locations accepted
  nothing_leads locations = All-nil (Leading w root instance locations)

  module _ (c : Completion) (i : ℕ) (k : Key S) (same : StandsFor w keys nodes i k) (path : Text) (locations : List (Option Text)) (way : Passes w root path k locations) (p : Place) (there : Stands instance p) (go : NodeEdge → Below → Outcome)
      (answers : (x : Part K) (edge : Edge S) (e : NodeEdge) (b : Below) → IsNumber keys e.node edge.key → e.path ≡ edge.path → Passes w root (path ++ edge.path) edge.key (keyword_location w k x.name ∷ locations)
      → Stands instance (place_below p b) → Lead (keyword_location w k x.name ∷ locations) (go e b)) where
    at_same : ◌≡◌ {A = Where} (node_at w.keywords w.matcher nodes (subject_in instance) i path p) (at w instance k path p)
    at_same = λ j. record { place = p; path = path; location = same.location j; absolute = λ l. same.absolute l j }

    module _ (ys : List (Part K)) (is_plan : plan w k ≡ these ys) (y : Part K) (in_ys : Contains ys y) where
      edge_leads : (o : Option NodeEdge) (o' : Option (Edge S)) (b : Below) → SameEdge w keys nodes o o' → Stands instance (place_below p b) → ((edge : Edge S) → o' ≡ Some edge → Contains (part_edges w k y.name y.form) edge)
          → Lead (keyword_location w k y.name ∷ locations) (elim o [ None ↦ accepted | Some e ↦ go e b ])
      edge_leads None o' b s at_b h = nothing_leads (keyword_location w k y.name ∷ locations)
      edge_leads (Some e) None b s at_b h = absurd s
      edge_leads (Some e) (Some edge) b s at_b h = answers y edge e b s.0 s.1 (passes y edge way (is_part w root instance path k locations way p there ys is_plan y in_ys) (h edge refl)) at_b

      form_leads : (others : Step → Bool) (x : NodeForm K) (form : Form K) → y.form ≡ form → SameForm w keys nodes k y.name x form → Lead locations (node_part w.keywords w.matcher nodes (subject_in instance) c i path p go others y.name x)
      form_leads others (node_keyword m es) (keyword m' requests absorbed) is s =
          let answered = node_asked w.keywords w.matcher nodes (subject_in instance) accepted es go in
          subst (λ (word : K). Lead locations (keyword_outcome w.keywords (node_at w.keywords w.matcher nodes (subject_in instance) i path p) y.name word (subject_in instance p) (beside others (matching w.matcher c)) answered)) (sym s.0)
          (subst (λ (x' : Where). Lead locations (keyword_outcome w.keywords x' y.name m' (subject_in instance p) (beside others (matching w.matcher c)) answered)) (sym at_same)
          (keyword_leads w root instance path k locations way p there ys is_plan y in_ys m' requests absorbed is (keeps w absorbs laws makers root instance k ys is_plan y in_ys m' requests absorbed is)
          (beside others (matching w.matcher c)) answered
          (λ q may at_q. edge_leads (node_child es q.child) (child w k y.name requests q.child) q.below (s.1 q.child) at_q
          (λ edge e. subst (λ form. Contains (part_edges w k y.name form) edge) (sym is) (picked (requested w k y.name) requests q.child edge e)))))
      form_leads others (node_reference e) (reference kind text) is s =
          subst (λ (x' : Where). Lead locations (reference_outcome x' y.name (go e here))) (sym at_same)
          (All-map (Leading w root instance locations) (stamped (keyword_location w k y.name)) (go e here).errors
          (each_passed w root instance path k locations way p there ys is_plan y in_ys (go e here).errors
          (edge_leads (Some e) (reference_edge w k y.name kind text) here s there
          (λ edge e'. subst (λ form. Contains (part_edges w k y.name form) edge) (sym is) (in_option_list (reference_edge w k y.name kind text) edge e')))))
      form_leads others (node_keyword m es) (reference kind text) is s = absurd s
      form_leads others (node_reference e) (keyword m' requests absorbed) is s = absurd s

      part_leads : (others : Step → Bool) (x : NodePart K) → SamePart w keys nodes k x y → Lead locations (node_part w.keywords w.matcher nodes (subject_in instance) c i path p go others x.name x.form)
      part_leads others x s = subst (λ (name : Text). Lead locations (node_part w.keywords w.matcher nodes (subject_in instance) c i path p go others name x.form)) (sym s.name) (form_leads others x.form y.form refl s.form)

    parts_lead : (others : Step → Bool) (all : List (Part K)) → plan w k ≡ these all → (xs : List (NodePart K)) (ys : List (Part K)) → SameParts w keys nodes k xs ys → ((y : Part K) → Contains ys y → Contains all y)
        → Lead locations (node_parts w.keywords w.matcher nodes (subject_in instance) c i path p go others xs)
    parts_lead others all is [] ys s h = nothing_leads locations
    parts_lead others all is (x ∷ xs) [] s h = absurd s
    parts_lead others all is (x ∷ xs) (y ∷ ys) s h =
        let told = told_of others (node_told w.keywords x.form) in
        let a : Outcome = node_part w.keywords w.matcher nodes (subject_in instance) c i path p go told x.name x.form in
        let b : Outcome = node_parts w.keywords w.matcher nodes (subject_in instance) c i path p go others xs in
        All-append (Leading w root instance locations) a.errors b.errors (part_leads all is y (h y (zero, omega arith, refl)) told x s.0) (parts_lead others all is xs ys s.1 (λ z in_ys. h z (later y ys z in_ys)))

    plan_leads : (n : NodePlan K) (o : Plan K) → plan w k ≡ o → SamePlan w keys nodes k n o
        → Lead locations (elim n [ node_always ↦ accepted | node_never ↦ false_outcome w.keywords.texts (node_at w.keywords w.matcher nodes (subject_in instance) i path p) (subject_in instance p) | node_these xs ↦ kept (node_parts w.keywords w.matcher nodes (subject_in instance) c i path p go (node_others w.keywords w.matcher nodes (subject_in instance) c i path p go xs) xs) ])
    plan_leads node_always o is s = nothing_leads locations
    plan_leads node_never never is s = subst (λ (x' : Where). Lead locations (false_outcome w.keywords.texts x' (subject_in instance p))) (sym at_same)
        (All-cons (Leading w root instance locations) _ [] (false_leads w root instance path k locations way p there is) (nothing_leads locations))
    plan_leads node_never always is s = absurd s
    plan_leads node_never (these ys) is s = absurd s
    plan_leads (node_these xs) (these ys) is s = parts_lead (node_others w.keywords w.matcher nodes (subject_in instance) c i path p go xs) ys is xs ys s (λ y in_ys. in_ys)
    plan_leads (node_these xs) always is s = absurd s
    plan_leads (node_these xs) never is s = absurd s

    outcome_leads : Lead locations (node_outcome w.keywords w.matcher nodes (subject_in instance) c i path p go)
    outcome_leads = plan_leads (nodes.entries i) (plan w k) refl same.entries

  -- ---- at any depth

  by_guard : (guarded busy : Bool) (locations : List (Option Text)) (x y : Outcome) → Lead locations x → Lead locations y
      → Lead locations (elim guarded [ false ↦ x | true ↦ elim busy [ true ↦ accepted | false ↦ y ] ])
  by_guard false busy locations x y f g = f
  by_guard true true locations x y f g = nothing_leads locations
  by_guard true false locations x y f g = g

  guarded_leads : AreNumbered w keys nodes → (c : Completion) (n i : ℕ) (k : Key S) → IsNumber keys i k → (path : Text) (locations : List (Option Text)) → Passes w root path k locations → (p : Place) → Stands instance p → (busy : List ℕ)
      → Lead locations (guarded_within yes_outcome (node_outcome w.keywords w.matcher nodes (subject_in instance) c) n i path p busy)
  guarded_leads numbered c zero i k number path locations way p there busy = nothing_leads locations
  guarded_leads numbered c (suc n) i k number path locations way p there busy =
      let say : ℕ → Text → Place → List ℕ → Outcome = guarded_within yes_outcome (node_outcome w.keywords w.matcher nodes (subject_in instance) c) n in
      outcome_leads c i k (numbered.stands i k number) path locations way p there
      (across yes_outcome (node_outcome w.keywords w.matcher nodes (subject_in instance) c) say path p busy)
      (λ x edge e b number' same_path way' at_b.
      let above : List (Option Text) = keyword_location w k x.name ∷ locations in
      let way'' : Passes w root (path ++ e.path) edge.key above = subst (λ (t : Text). Passes w root (path ++ t) edge.key above) (sym same_path) way' in
      let again : (busy' : List ℕ) → Lead above (say e.node (path ++ e.path) (place_below p b) busy') = guarded_leads numbered c n e.node edge.key number' (path ++ e.path) above way'' (place_below p b) at_b in
      by_guard e.guarded (list_any (λ j. j == e.node) (progress_below busy b)) above
      (say e.node (path ++ e.path) (place_below p b) (progress_below busy b)) (say e.node (path ++ e.path) (place_below p b) (e.node ∷ progress_below busy b))
      (again (progress_below busy b)) (again (e.node ∷ progress_below busy b)))

pub node_errors_lead : {S K R : Type 0} (w : Parts S K R) (absorbs : K → List Text) (keys : Numbers S) (nodes : Nodes K) → NodeErrorsLead w absorbs keys nodes
node_errors_lead w absorbs keys nodes laws makers numbered instance c n i root number =
    at_root w absorbs laws makers root instance (guarded_within yes_outcome (node_outcome w.keywords w.matcher nodes (subject_in instance) c) n i [] [] [])
    (guarded_leads w absorbs laws makers keys nodes root instance numbered c n i root number [] [] begins [] refl [])
