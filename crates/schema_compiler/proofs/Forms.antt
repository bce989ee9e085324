-- What a key requests, by the value at its place.
use Rattle.std.proofs.Common.{◌≡◌, ◌∙◌, ℕ, Bool, true, false, List, [], ◌∷◌, refl, ap, sym, subst}
use Rattle.std.specs.Prelude.{Option, Some, None}
use Rattle.serde_json.specs.Data.{Data, Members, array, boolean, null, number, object, string}
use Rattle.theory_definitions.specs.Parts.{Parts}
use Rattle.theory_definitions.specs.Plan.{Edge, Key, Plan, plan, plan_of, schema_of}
use Rattle.theory_meaning.specs.Reach.{asked_edges}
use Rattle.theory_meaning.specs.Refusals.{Cause, causes, not_a_schema, schema_causes}
use Rattle.theory_definitions.specs.Units.{annotations_of, object_annotations}
use Rattle.theory_definitions.specs.Guarded.{NodePlan, node_edges}
use Rattle.schema_node_table.specs.NodeTable.{NodeEntry}
use Rattle.schema_node_table.specs.NodeViews.{boolean_plan}
use Rattle.schema_keys.specs.Compiling.{object_edges}
use Rattle.schema_keys.specs.Refusing.{Names, Refused}
use Rattle.schema_compiler.specs.Filling.{IsPlan, IsTable}
use Rattle.schema_compiler.specs.Steps.{MakesPlan}
use Rattle.schema_compiler.specs.Carried.{Table, Task}
use Rattle.schema_compiler.specs.UnderWay.{Goes, IsUnderWay}
use Rattle.schema_compiler.proofs.UnderWay.{goes_none}
use Rattle.schema_keys.specs.declared.error.BuildError.{BuildError}
use Rattle.schema_compiler.proofs.Growing.{names_refused, step_none}
use Rattle.schema_keys.proofs.Lists.{some_is}
use Rattle.serde_json.specs.Find.{as_bool, as_object}

module _ {S K R : Type 0} (w : Parts S K R) (k : Key S) where
  abbrev edges_at : Data → List (Edge S)
  edges_at d = elim d [ object ms ↦ object_edges w k ms | _ ↦ [] ]

  abbrev annotations_at : Data → Option Data
  annotations_at d = elim d [ object ms ↦ object_annotations w k ms | _ ↦ None ]

  -- P of an object's requests, its causes, its plan and its annotations
  pub object_stands : (P : List (Edge S) → List Cause → Plan K → Option Data → Type 0) (ms : Members) → schema_of w k ≡ object ms → P (object_edges w k ms) (schema_causes w k (object ms)) (plan_of w k (object ms)) (object_annotations w k ms)
      → P (asked_edges w k) (causes w k) (plan w k) (annotations_of w k)
  object_stands P ms h x = subst (λ d. P (edges_at d) (schema_causes w k d) (plan_of w k d) (annotations_at d)) (sym h) x

  -- a value that is no object
  bool_is : (d : Data) (b : Bool) → as_bool d ≡ Some b → d ≡ boolean b
  bool_is (boolean c) b h = ap boolean (some_is c b h)
  bool_is null b h = cc
  bool_is (number n) b h = cc
  bool_is (string t) b h = cc
  bool_is (array ds) b h = cc
  bool_is (object ms) b h = cc

  pub object_is : (d : Data) (ms : Members) → Some ms ≡ as_object d → d ≡ object ms
  object_is (object es) ms h = ap object (sym (some_is ms es h))
  object_is null ms h = cc
  object_is (boolean b) ms h = cc
  object_is (number n) ms h = cc
  object_is (string t) ms h = cc
  object_is (array ds) ms h = cc

  one_plan : {C : Type 0} (shape : C → K) (keys : List (Key S)) (b : Bool) → IsPlan w keys shape k (boolean_plan b) (plan_of w k (boolean b))
  one_plan shape keys true = tt
  one_plan shape keys false = tt

  pub boolean_made : {C : Type 0} (shape : C → K) (limit : ℕ) (b : Bool) (p : NodePlan C) (keys : List (Key S)) (nodes : List (NodeEntry C)) → as_bool (schema_of w k) ≡ Some b → p ≡ boolean_plan b → IsTable w shape limit keys nodes
      → MakesPlan w shape limit keys keys nodes nodes (asked_edges w k) (causes w k) k p (plan w k) None (annotations_of w k)
  boolean_made shape limit b p keys nodes is e t =
      subst (λ d. MakesPlan w shape limit keys keys nodes nodes (edges_at d) (schema_causes w k d) k p (plan_of w k d) None (annotations_at d)) (sym (bool_is (schema_of w k) b is))
      (record { step = step_none w shape limit keys nodes t; plan = subst (λ x. IsPlan w keys shape k x (plan_of w k (boolean b))) (sym e) (one_plan shape keys b); annotated = refl })

  no_schema : (d : Data) → ◌≡◌ {A = Option Members} None (as_object d) → as_bool d ≡ None → schema_causes w k d ≡ not_a_schema k.location ∷ []
  no_schema null h i = refl
  no_schema (number n) h i = refl
  no_schema (string t) h i = refl
  no_schema (array ds) h i = refl
  no_schema (boolean b) h i = cc
  no_schema (object ms) h i = cc

  pub other_refused : (limit : ℕ) (keys : List (Key S)) (e : BuildError) → ◌≡◌ {A = Option Members} None (as_object (schema_of w k)) → as_bool (schema_of w k) ≡ None → Names (not_a_schema k.location ∷ []) e → Refused w limit (asked_edges w k) (causes w k) keys e
  other_refused limit keys e i j n = names_refused w limit (asked_edges w k) (causes w k) keys e (subst (λ cs. Names cs e) (sym (no_schema (schema_of w k) i j)) n)

-- a boolean requests nothing
pub boolean_goes : {S K C : Type 0} (g : Task S K C) (t : Table S C) (k : Key S) (b : Bool) (p : NodePlan C) → as_bool (schema_of g.parts k) ≡ Some b → p ≡ boolean_plan b → IsUnderWay g t → Goes g t t (asked_edges g.parts k) (node_edges p)
boolean_goes {S} {K} {C} g t k b p is e way =
    let none : (x : Bool) → node_edges (boolean_plan {K = C} x) ≡ [] = elim [ true ↦ refl | false ↦ refl ] in
    subst (λ d. Goes g t t (edges_at g.parts k d) (node_edges p)) (sym (bool_is g.parts k (schema_of g.parts k) b is))
    (subst (Goes g t t []) (sym (ap node_edges e ∙ none b)) (goes_none g t way))
