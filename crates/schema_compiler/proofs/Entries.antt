-- The keywords of an object, member by member.
use Rattle.std.proofs.Common.{◌≡◌, ℕ, Bool, true, false, cond, List, [], ◌∷◌, ◌++◌, refl, sym, ◌∙◌, subst, append_assoc}
use Rattle.std.specs.Prelude.{Option, Some, None, nat_le}
use Rattle.std.proofs.lemmas.List.{append-nil}
use Rattle.serde_json.specs.Data.{Data, Members, member, no_members}
use Rattle.theory_definitions.specs.Instance.{Text}
use Rattle.theory_definitions.specs.Parts.{Parts}
use Rattle.theory_definitions.specs.Plan.{Edge, Key, Part, option_list, part, parts, sorted}
use Rattle.theory_meaning.specs.Reach.{members_edges}
use Rattle.theory_meaning.specs.Refusals.{Cause, members_causes}
use Rattle.theory_definitions.specs.Guarded.{NodeEdge, NodePart, form_edges, node_edges, node_these}
use Rattle.schema_node_table.specs.NodeTable.{NodeEntry}
use Rattle.schema_keys.specs.Compiling.{Each, member_causes, member_edges}
use Rattle.schema_compiler.specs.Ordering.{placed_after}
use Rattle.schema_keys.specs.Refusing.{Refused}
use Rattle.schema_compiler.specs.Carried.{Table, Task}
use Rattle.schema_compiler.specs.UnderWay.{EdgeNow, Goes, IsUnderWay}
use Rattle.schema_compiler.specs.Steps.{part_edges}
use Rattle.schema_compiler.proofs.UnderWay.{goes_made, goes_none, goes_then}
use Rattle.schema_keys.proofs.Lists.{each_append, each_first, each_rest}
use Rattle.schema_compiler.specs.Filling.{AreParts, IsMadePart, IsStep, IsTable}
use Rattle.schema_keys.specs.declared.error.BuildError.{BuildError}
use Rattle.schema_compiler.proofs.Growing.{grown_stays, parts_stay, refused_first, refused_later, step_none, step_then}
use Rattle.schema_compiler.proofs.Placing.{one_placed}

-- the edges of parts after one more is inserted
placed_edges : {C : Type 0} (P : NodeEdge → Type 0) (x : NodePart C) (es : List (NodePart C)) → Each P (form_edges x.form) → Each P (node_edges (node_these es)) → Each P (node_edges (node_these (placed_after x es)))
placed_edges P x [] h hs = each_append P (form_edges x.form) [] h tt
placed_edges P x (y ∷ ys) h hs =
    let mine = each_first P (form_edges y.form) (node_edges (node_these ys)) hs in
    let rest = each_rest P (form_edges y.form) (node_edges (node_these ys)) hs in
    let later = each_append P (form_edges y.form) (node_edges (node_these (placed_after x ys))) mine (placed_edges P x ys h rest) in
    let first = each_append P (form_edges x.form) (node_edges (node_these (y ∷ ys))) h hs in
    let go : (b : Bool) → Each P (node_edges (node_these (cond b (y ∷ placed_after x ys) (x ∷ y ∷ ys)))) = elim [ true ↦ later | false ↦ first ] in
    go (nat_le y.priority x.priority)

module _ {S K C : Type 0} (w : Parts S K (Unit {0})) (shape : C → K) (limit nested : ℕ) (k : Key S) (whole : Members) where
  abbrev given : Task S K C
  given = record { parts = w; shape = shape; limit = limit; nested = nested }

  -- the members before `rest` are done
  pub record SoFar (rest : Members) (es : List (NodePart C)) (keys keys' : List (Key S)) (nodes nodes' : List (NodeEntry C)) (t t' : Table S C) : Type 0 where
    pub edges : List (Edge S)
    pub causes : List Cause
    pub made : List (Part K)
    pub all_edges : members_edges w k whole whole ≡ edges ++ members_edges w k whole rest
    pub all_causes : members_causes w k whole whole ≡ causes ++ members_causes w k whole rest
    pub all_parts : parts w k whole whole ≡ made ++ parts w k whole rest
    pub steps : IsStep w shape limit edges causes keys keys' nodes nodes'
    pub entries : AreParts w keys' shape k es (sorted made)
    pub goes : Goes given t t' edges (node_edges (node_these es))

  pub so_far_none : (keys : List (Key S)) (nodes : List (NodeEntry C)) (t : Table S C) → IsTable w shape limit keys nodes → IsUnderWay given t → SoFar whole [] keys keys nodes nodes t t
  so_far_none keys nodes t stands way = record { edges = []; causes = []; made = []; all_edges = refl; all_causes = refl; all_parts = refl; steps = step_none w shape limit keys nodes stands; entries = tt; goes = goes_none given t way }

  -- the entries with one more, if there is one
  abbrev pub with_one : Option (NodePart C) → List (NodePart C) → List (NodePart C)
  with_one None es = es
  with_one (Some x) es = placed_after x es

  more_entries : (keys : List (Key S)) (o : Option (NodePart C)) (p : Option (Part K)) (es : List (NodePart C)) (ps : List (Part K))
      → IsMadePart w keys shape k o p → AreParts w keys shape k es (sorted ps) → AreParts w keys shape k (with_one o es) (sorted (ps ++ option_list p))
  more_entries keys None None es ps h hs = subst (λ qs. AreParts w keys shape k es (sorted qs)) (sym (append-nil ps)) hs
  more_entries keys (Some x) (Some y) es ps h hs = one_placed w shape keys k x y es ps h hs
  more_entries keys None (Some y) es ps h hs = absurd h
  more_entries keys (Some x) None es ps h hs = absurd h

  more_now : (t : Table S C) (o : Option (NodePart C)) (es : List (NodePart C)) → Each (EdgeNow t) (node_edges (node_these es) ++ part_edges o) → Each (EdgeNow t) (node_edges (node_these (with_one o es)))
  more_now t None es h = each_first (EdgeNow t) (node_edges (node_these es)) [] h
  more_now t (Some x) es h = placed_edges (EdgeNow t) x es (each_rest (EdgeNow t) (node_edges (node_these es)) (form_edges x.form) h) (each_first (EdgeNow t) (node_edges (node_these es)) (form_edges x.form) h)

  pub so_far_more : (name : Text) (value : Data) (rest : Members) (o : Option (NodePart C)) (es : List (NodePart C)) (keys keys' keys'' : List (Key S)) (nodes nodes' nodes'' : List (NodeEntry C)) (t t' t'' : Table S C)
      → SoFar (member name value rest) es keys keys' nodes nodes' t t'
      → IsStep w shape limit (member_edges w k whole name value) (member_causes w k whole name value) keys' keys'' nodes' nodes''
      → IsMadePart w keys'' shape k o (part w k whole name value) → Goes given t' t'' (member_edges w k whole name value) (part_edges o)
      → SoFar rest (with_one o es) keys keys'' nodes nodes'' t t''
  so_far_more name value rest o es keys keys' keys'' nodes nodes' nodes'' t t' t'' a step made goes =
      let stays = grown_stays _ keys' keys'' nodes' nodes'' step.grown in
      let both = goes_then given t t' t'' a.edges (member_edges w k whole name value) (node_edges (node_these es)) (part_edges o) a.goes goes in
      record {
        edges = a.edges ++ member_edges w k whole name value;
        causes = a.causes ++ member_causes w k whole name value;
        made = a.made ++ option_list (part w k whole name value);
        all_edges = a.all_edges ∙ sym (append_assoc a.edges (member_edges w k whole name value) (members_edges w k whole rest));
        all_causes = a.all_causes ∙ sym (append_assoc a.causes (member_causes w k whole name value) (members_causes w k whole rest));
        all_parts = a.all_parts ∙ sym (append_assoc a.made (option_list (part w k whole name value)) (parts w k whole rest));
        steps = step_then w shape limit a.edges (member_edges w k whole name value) a.causes (member_causes w k whole name value) keys keys' keys'' nodes nodes' nodes'' a.steps step;
        entries = more_entries keys'' o (part w k whole name value) es a.made made (parts_stay w shape keys' keys'' stays k es (sorted a.made) a.entries);
        goes = goes_made given t t'' (a.edges ++ member_edges w k whole name value) (node_edges (node_these es) ++ part_edges o) (node_edges (node_these (with_one o es))) both (more_now t'' o es both.now);
      }

  -- if none is left
  pub all_steps : (es : List (NodePart C)) (keys keys' : List (Key S)) (nodes nodes' : List (NodeEntry C)) {t t' : Table S C} → SoFar no_members es keys keys' nodes nodes' t t'
      → IsStep w shape limit (members_edges w k whole whole) (members_causes w k whole whole) keys keys' nodes nodes'
  all_steps es keys keys' nodes nodes' a =
      subst (λ xs. IsStep w shape limit xs (members_causes w k whole whole) keys keys' nodes nodes') (sym (a.all_edges ∙ append-nil a.edges))
      (subst (λ xs. IsStep w shape limit a.edges xs keys keys' nodes nodes') (sym (a.all_causes ∙ append-nil a.causes)) a.steps)

  pub all_entries : (es : List (NodePart C)) (keys keys' : List (Key S)) (nodes nodes' : List (NodeEntry C)) {t t' : Table S C} → SoFar no_members es keys keys' nodes nodes' t t'
      → AreParts w keys' shape k es (sorted (parts w k whole whole))
  all_entries es keys keys' nodes nodes' a = subst (λ ps. AreParts w keys' shape k es (sorted ps)) (sym (a.all_parts ∙ append-nil a.made)) a.entries

  pub all_goes : (es : List (NodePart C)) (keys keys' : List (Key S)) (nodes nodes' : List (NodeEntry C)) {t t' : Table S C} → SoFar no_members es keys keys' nodes nodes' t t'
      → Goes given t t' (members_edges w k whole whole) (node_edges (node_these es))
  all_goes es keys keys' nodes nodes' {t} {t'} a = subst (λ xs. Goes given t t' xs (node_edges (node_these es))) (sym (a.all_edges ∙ append-nil a.edges)) a.goes

  -- a refusal by the next member
  pub member_refused : (name : Text) (value : Data) (rest : Members) (es : List (NodePart C)) (keys keys' : List (Key S)) (nodes nodes' : List (NodeEntry C)) {t t' : Table S C} (e : BuildError)
      → SoFar (member name value rest) es keys keys' nodes nodes' t t' → Refused w limit (member_edges w k whole name value) (member_causes w k whole name value) keys' e
      → Refused w limit (members_edges w k whole whole) (members_causes w k whole whole) keys e
  member_refused name value rest es keys keys' nodes nodes' e a h =
      let later = refused_later w shape limit a.edges (members_edges w k whole (member name value rest)) a.causes (members_causes w k whole (member name value rest)) keys keys' nodes nodes' e a.steps
      (refused_first w (member_edges w k whole name value) (members_edges w k whole rest) (member_causes w k whole name value) (members_causes w k whole rest) limit keys' e h) in
      subst (λ xs. Refused w limit xs (members_causes w k whole whole) keys e) (sym a.all_edges) (subst (λ xs. Refused w limit (a.edges ++ members_edges w k whole (member name value rest)) xs keys e) (sym a.all_causes) later)
