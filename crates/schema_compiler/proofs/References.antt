-- What a reference requests, and the steps to one subschema or one target.
use Rattle.std.proofs.Common.{◌≡◌, ℕ, Bool, true, false, cond, List, [], ◌∷◌, refl, ap, sym, ◌∙◌, subst, true≢false}
use Rattle.std.specs.Prelude.{Option, Some, None, Result, Ok, Err, flat_map, option_map, unwrap_or}
use Rattle.serde_json.specs.Data.{string}
use Rattle.theory_definitions.specs.Instance.{Text, Place}
use Rattle.theory_definitions.specs.Parts.{Parts}
use Rattle.theory_definitions.specs.Making.{Request, compile, refer}
use Rattle.theory_definitions.specs.Plan.{Edge, Key, Reference, fails, found, is_refused, is_self, ok_of, reference_edge, subschema, to_ref, to_dynamic, to_recursive, option_list}
use Rattle.theory_meaning.specs.Reach.{Reached, reference_edges}
use Rattle.theory_meaning.specs.Refusals.{Cause, lookup_causes, request_causes, undeclared}
use Rattle.schema_node_table.specs.NodeTable.{NodeEntry}
use Rattle.schema_keys.specs.Compiling.{IsDeclared, Settled, reference_asked, StandsBelow}
use Rattle.schema_keys.specs.Refusing.{IsRefusal, Names, Refused}
use Rattle.schema_compiler.specs.Filling.{IsGrown, IsStep, IsTable, LeadsTo}
use Rattle.schema_compiler.specs.Steps.{IsAnswered, IsEdgeTo}
use Rattle.theory_definitions.specs.Guarded.{NodeEdge}
use Rattle.schema_keys.specs.declared.error.BuildError.{BuildError}
use Rattle.schema_compiler.proofs.Growing.{edge_refused, step_edge, step_none, vocabulary_refused}

module _ {S K R : Type 0} (w : Parts S K R) where
  ok_clean : {A B : Type 0} (f : A → B) (r : Result A Text) (b : B) → option_map f (ok_of r) ≡ Some b → lookup_causes w r ≡ []
  ok_clean f (Ok a) b h = refl
  ok_clean f (Err e) b h = absurd (let g : ⊥ = cc in g)

  -- a subschema that has a key is not refused
  pub compile_clean : (k : Key S) (path : Place) (e : Edge S) → subschema w k path ≡ Some e → request_causes w k (compile path) ≡ []
  compile_clean k path e h = ok_clean _ _ e h

  pub reference_clean : (k : Key S) (name : Text) (kind : Reference) (text : Text) (e : Edge S) → reference_edge w k name kind text ≡ Some e → lookup_causes w (found w k kind text) ≡ []
  reference_clean k name kind text e h = ok_clean _ _ e h

  found_clean : {A : Type 0} (r : Result A Text) → lookup_causes w r ≡ [] → fails r ≡ false
  found_clean (Ok a) clean = refl
  found_clean (Err e) clean = absurd (let g : ⊥ = cc in g)

  -- a request that has no cause of refusal is not refused
  pub not_refused : (k : Key S) (r : Request) → request_causes w k r ≡ [] → is_refused w k r ≡ false
  not_refused k (compile path) clean = found_clean _ clean
  not_refused k (refer text) clean = found_clean _ clean

  self_found : {A : Type 0} (p : A → Bool) (r : Result A Text) → unwrap_or (option_map p (ok_of r)) false ≡ true → lookup_causes w r ≡ []
  self_found p (Ok a) h = refl
  self_found p (Err e) h = absurd (true≢false (sym h))

  -- nor is a skipped reference
  pub self_clean : (k : Key S) (kind : Reference) (text : Text) → is_self w k kind text ≡ true → lookup_causes w (found w k kind text) ≡ []
  self_clean k to_ref text h = self_found _ _ h
  self_clean k to_dynamic text h = self_found _ _ h
  self_clean k to_recursive text h = absurd (true≢false (sym h))

  pub asked_self : (k : Key S) (name : Text) (kind : Reference) (text : Text) → is_self w k kind text ≡ true → reference_asked w k name kind text ≡ None
  asked_self k name kind text h = ap (λ b. cond b None (reference_edge w k name kind text)) h

  pub asked_edge : (k : Key S) (name : Text) (kind : Reference) (text : Text) (e : Edge S) → is_self w k kind text ≡ false → reference_edge w k name kind text ≡ Some e → reference_asked w k name kind text ≡ Some e
  asked_edge k name kind text e h r = ap (λ b. cond b None (reference_edge w k name kind text)) h ∙ r

  pub target_refused : (limit : ℕ) (k : Key S) (name : Text) (kind : Reference) (text : Text) (edge : Edge S) (cs : List Cause) (keys : List (Key S)) (e : BuildError)
      → is_self w k kind text ≡ false → reference_edge w k name kind text ≡ Some edge → edge.is_reference ≡ true → Names (flat_map (undeclared w) edge.key.target.vocabularies) e
      → Refused w limit (option_list (reference_asked w k name kind text)) cs keys e
  target_refused limit k name kind text edge cs keys e self at is h =
      subst (λ o. Refused w limit (option_list o) cs keys e) (sym (asked_edge k name kind text edge self at)) (vocabulary_refused w limit edge cs keys e is h)

  -- what a reference requests, in terms of the definitions
  pub reference_edges_of : (k : Key S) (name : Text) (kind : Reference) (text : Text) → option_list (reference_asked w k name kind text) ≡ reference_edges w k name kind (string text)
  reference_edges_of k name kind text =
      let one : (o : Option (Edge S)) → option_list o ≡ option_list o = elim [ None ↦ refl | Some e ↦ refl ] in
      let go : (b : Bool) → option_list (cond b None (reference_edge w k name kind text)) ≡ cond b [] (option_list (reference_edge w k name kind text)) = elim [ true ↦ refl | false ↦ one (reference_edge w k name kind text) ] in
      go (is_self w k kind text)

  module _ {C : Type 0} (shape : C → K) (limit : ℕ) where
    -- the step to the target of one edge
    pub step_asked : (o : Option (Edge S)) (edge : Edge S) (cs : List Cause) (keys keys' : List (Key S)) (nodes nodes' : List (NodeEntry C)) → o ≡ Some edge → cs ≡ []
        → IsTable w shape limit keys' nodes' → IsGrown (Reached w edge.key) keys keys' nodes nodes' → Settled w keys' edge → IsStep w shape limit (option_list o) cs keys keys' nodes nodes'
    step_asked o edge cs keys keys' nodes nodes' e clean t g s =
        subst (λ q. IsStep w shape limit (option_list q) cs keys keys' nodes nodes') (sym e) (subst (λ xs. IsStep w shape limit (edge ∷ []) xs keys keys' nodes nodes') (sym clean) (step_edge w shape limit edge keys keys' nodes nodes' t g s))

    pub step_skipped : (o : Option (Edge S)) (cs : List Cause) (keys : List (Key S)) (nodes : List (NodeEntry C)) → o ≡ None → cs ≡ [] → IsTable w shape limit keys nodes → IsStep w shape limit (option_list o) cs keys keys nodes nodes
    step_skipped o cs keys nodes e clean t =
        subst (λ q. IsStep w shape limit (option_list q) cs keys keys nodes nodes) (sym e) (subst (λ xs. IsStep w shape limit [] xs keys keys nodes nodes) (sym clean) (step_none w shape limit keys nodes t))

    -- the requested edge leads to the number of its key
    pub is_answered : (o : Option (Edge S)) (edge : Edge S) (cs : List Cause) (keys keys' : List (Key S)) (nodes nodes' : List (NodeEntry C)) (e : NodeEdge) (path : Text) → o ≡ Some edge → cs ≡ [] → IsDeclared w edge → path ≡ edge.path
        → IsEdgeTo w shape limit keys keys' nodes nodes' edge.key path e → IsAnswered w shape limit keys keys' nodes nodes' o cs (Some e)
    is_answered o edge cs keys keys' nodes nodes' e path is clean declared same t =
        subst (λ q. IsAnswered w shape limit keys keys' nodes nodes' q cs (Some e)) (sym is) (record {
          step = step_asked (Some edge) edge cs keys keys' nodes nodes' refl clean t.table t.grown (record { numbered = (e.node, t.number); declared = declared });
          leads = (t.number, t.at_path ∙ same);
        })

    -- and there is no edge if it is skipped
    pub is_skipped : (o : Option (Edge S)) (cs : List Cause) (keys : List (Key S)) (nodes : List (NodeEntry C)) → o ≡ None → cs ≡ [] → IsTable w shape limit keys nodes → IsAnswered w shape limit keys keys nodes nodes o cs None
    is_skipped o cs keys nodes is clean t =
        subst (λ q. IsAnswered w shape limit keys keys nodes nodes q cs None) (sym is) (record { step = step_skipped None cs keys nodes refl clean t; leads = tt })

  pub asked_refused : (limit : ℕ) (o : Option (Edge S)) (edge : Edge S) (cs : List Cause) (keys : List (Key S)) (e : BuildError) → o ≡ Some edge
      → IsRefusal limit keys (Reached w edge.key) (StandsBelow w edge.key) e → Refused w limit (option_list o) cs keys e
  asked_refused limit o edge cs keys e is h = subst (λ q. Refused w limit (option_list q) cs keys e) (sym is) (edge_refused w limit edge cs keys e h)

  -- ---- what an edge, or none, says about the request

  pub leads_none : (keys : List (Key S)) (x : Option (Edge S)) → LeadsTo w keys None x → x ≡ None
  leads_none keys None h = refl
  leads_none keys (Some e) h = absurd h

  pub leads_some : (keys : List (Key S)) (e : NodeEdge) (x : Option (Edge S)) → LeadsTo w keys (Some e) x → (edge : Edge S) × (x ≡ Some edge)
  leads_some keys e None h = absurd h
  leads_some keys e (Some edge) h = (edge, refl)

  some_where : {A B : Type 0} (f : A → B) (r : Result A Text) → lookup_causes w r ≡ [] → option_map f (ok_of r) ≡ None → ⊥
  some_where f (Ok a) clean h = let g : ⊥ = cc in g
  some_where f (Err e) clean h = let g : ⊥ = cc in g

  pub skipped_self : (k : Key S) (name : Text) (kind : Reference) (text : Text) → lookup_causes w (found w k kind text) ≡ [] → reference_asked w k name kind text ≡ None → is_self w k kind text ≡ true
  skipped_self k name kind text clean h =
      let go : (b : Bool) → is_self w k kind text ≡ b → cond b None (reference_edge w k name kind text) ≡ None → b ≡ true = elim [ true ↦ λ e q. refl | false ↦ λ e q. absurd (some_where _ (found w k kind text) clean q) ] in
      go (is_self w k kind text) refl h

  pub asked_not_self : (k : Key S) (name : Text) (kind : Reference) (text : Text) → (edge : Edge S) × (reference_asked w k name kind text ≡ Some edge) → is_self w k kind text ≡ false
  asked_not_self k name kind text h =
      let go : (b : Bool) → cond b None (reference_edge w k name kind text) ≡ Some h.0 → b ≡ false = elim [ true ↦ λ q. absurd (let g : ⊥ = cc in g) | false ↦ λ q. refl ] in
      go (is_self w k kind text) h.1
