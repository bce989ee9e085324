-- What one member requests: the table's own keyword, a reference, or another keyword of the
-- standard.
use Rattle.std.proofs.Common.{◌≡◌, ℕ, Bool, true, false, List, [], ◌∷◌, cond, refl, sym, subst, ap}
use Rattle.std.specs.Prelude.{Option, Some, None, codes, option_map}
use Rattle.serde_json.specs.Data.{Data, Members, array, boolean, null, number, object, string}
use Rattle.serde_json.specs.Find.{as_str}
use Rattle.theory_definitions.specs.Instance.{Text}
use Rattle.theory_definitions.specs.Making.{Builtin}
use Rattle.theory_definitions.specs.Parts.{Parts}
use Rattle.theory_definitions.specs.Pointer.{joined}
use Rattle.theory_definitions.specs.Plan.{Edge, Key, Part, Plan, Reference, found, is_self, making, part, part_made, builtin_part, parts, plan_alone, plan_of, reference, reference_edge, reference_named, reference_part, sorted, these, to_ref, option_list}
use Rattle.theory_meaning.specs.Reach.{builtin_edges, lone_ref, maker_edges, members_edges, reference_edges}
use Rattle.theory_meaning.specs.Refusals.{Cause, builtin_causes, lookup_causes, maker_causes, members_causes, reference_causes, reference_not_text, schema_causes}
use Rattle.theory_definitions.specs.Units.{absorbed_by, annotating, object_annotations, object_of}
use Rattle.theory_definitions.specs.Guarded.{NodeEdge, NodePart, NodePlan, form_edges, node_edges, node_reference, node_these}
use Rattle.serde_json.specs.View.{view}
use Rattle.serde_json.specs.declared.value.Value.{Value}
use Rattle.schema_node_table.specs.NodeTable.{NodeEntry}
use Rattle.schema_keys.specs.Compiling.{member_causes, member_edges, object_edges, reference_asked}
use Rattle.schema_keys.specs.Refusing.{Names, Refused}
use Rattle.schema_compiler.specs.Filling.{IsMadePart, IsPlan, LeadsTo}
use Rattle.schema_compiler.specs.Steps.{IsAnswered, MakesPart, MakesPlan, alone, part_edges}
use Rattle.schema_keys.specs.declared.error.BuildError.{BuildError}
use Rattle.schema_compiler.proofs.Growing.{names_refused}
use Rattle.schema_keys.proofs.Lists.{each_append}
use Rattle.schema_compiler.specs.Carried.{Table, Task}
use Rattle.schema_compiler.specs.UnderWay.{EdgeNow, Goes}
use Rattle.schema_compiler.proofs.UnderWay.{goes_made}
use Rattle.schema_compiler.proofs.References.{asked_not_self, leads_none, leads_some, reference_edges_of, skipped_self}

module _ {S K R : Type 0} (w : Parts S K R) (k : Key S) where
  -- ---- a member: P of its edges, its causes and its part

  module _ (whole : Members) (name : Text) (value : Data) (P : List (Edge S) → List Cause → Option (Part K) → Type 0) where
    abbrev part_by_name : Builtin → Option Reference → Type 0
    part_by_name b r = P (elim r [ Some kind ↦ reference_edges w k name kind value | None ↦ maker_edges w k name (making w k whole false name) ])
        (elim r [ Some kind ↦ reference_causes w k name kind value | None ↦ maker_causes w k (making w k whole false name) ])
        (elim r [ Some kind ↦ reference_part w k name b.priority kind value | None ↦ part_made w name b.priority b.is_leaf (making w k whole false name) ])

    abbrev part_by_row : Option Builtin → Type 0
    part_by_row o = P (elim o [ None ↦ [] | Some b ↦ elim (reference_named name) [ Some kind ↦ reference_edges w k name kind value | None ↦ maker_edges w k name (making w k whole false name) ] ])
        (elim o [ None ↦ [] | Some b ↦ elim (reference_named name) [ Some kind ↦ reference_causes w k name kind value | None ↦ maker_causes w k (making w k whole false name) ] ])
        (elim o [ None ↦ None | Some b ↦ elim (reference_named name) [ Some kind ↦ reference_part w k name b.priority kind value | None ↦ part_made w name b.priority b.is_leaf (making w k whole false name) ] ])

    abbrev part_by_owner : Bool → Type 0
    part_by_owner owned = P (elim owned [ true ↦ maker_edges w k name (making w k whole true name) | false ↦ builtin_edges w k whole name value ])
        (elim owned [ true ↦ maker_causes w k (making w k whole true name) | false ↦ builtin_causes w k whole name value ])
        (elim owned [ true ↦ part_made w name 80 false (making w k whole true name) | false ↦ builtin_part w k whole name value ])

    pub own_is : w.table.owns name ≡ true → P (maker_edges w k name (making w k whole true name)) (maker_causes w k (making w k whole true name)) (part_made w name 80 false (making w k whole true name))
        → P (member_edges w k whole name value) (member_causes w k whole name value) (part w k whole name value)
    own_is h x = subst part_by_owner (sym h) x

    pub no_member : w.table.owns name ≡ false → None ≡ w.table.builtin k.target.draft k.target.vocabularies name → P [] [] None
        → P (member_edges w k whole name value) (member_causes w k whole name value) (part w k whole name value)
    no_member h o x = subst part_by_owner (sym h) (subst part_by_row o x)

    by_name : (b : Builtin) (r : Option Reference) → w.table.owns name ≡ false → Some b ≡ w.table.builtin k.target.draft k.target.vocabularies name → r ≡ reference_named name → part_by_name b r
        → P (member_edges w k whole name value) (member_causes w k whole name value) (part w k whole name value)
    by_name b r h o q x = subst part_by_owner (sym h) (subst part_by_row o (subst (part_by_name b) q x))

    pub reference_is : (b : Builtin) (kind : Reference) → w.table.owns name ≡ false → Some b ≡ w.table.builtin k.target.draft k.target.vocabularies name → Some kind ≡ reference_named name
        → P (reference_edges w k name kind value) (reference_causes w k name kind value) (reference_part w k name b.priority kind value)
        → P (member_edges w k whole name value) (member_causes w k whole name value) (part w k whole name value)
    reference_is b kind h o q x = by_name b (Some kind) h o q x

    pub built_is : (b : Builtin) → w.table.owns name ≡ false → Some b ≡ w.table.builtin k.target.draft k.target.vocabularies name → None ≡ reference_named name
        → P (maker_edges w k name (making w k whole false name)) (maker_causes w k (making w k whole false name)) (part_made w name b.priority b.is_leaf (making w k whole false name))
        → P (member_edges w k whole name value) (member_causes w k whole name value) (part w k whole name value)
    built_is b h o q x = by_name b None h o q x

  -- a reference absorbs no name
  pub reference_absorbs : (name : Text) (priority : ℕ) (kind : Reference) (value : Data) → absorbed_by (reference_part w k name priority kind value) ≡ []
  reference_absorbs name priority kind (string text) = go (is_self w k kind text)
    where
      go : (b : Bool) → absorbed_by {K = K} (cond b None (Some (record { name = name; priority = priority; is_leaf = false; form = reference kind text }))) ≡ []
      go true = refl
      go false = refl
  reference_absorbs name priority kind null = refl
  reference_absorbs name priority kind (boolean b) = refl
  reference_absorbs name priority kind (number n) = refl
  reference_absorbs name priority kind (array ds) = refl
  reference_absorbs name priority kind (object ms) = refl

  -- ---- an object: P of its edges, its causes, its plan and its annotations

  module _ (ms : Members) (P : List (Edge S) → List Cause → Plan K → Option Data → Type 0) where
    abbrev object_by : Option Data → Type 0
    object_by o = P (elim o [ Some value ↦ reference_edges w k (codes "$ref") to_ref value | None ↦ members_edges w k ms ms ])
        (elim o [ Some value ↦ reference_causes w k (codes "$ref") to_ref value | None ↦ members_causes w k ms ms ])
        (elim o [ Some value ↦ plan_alone w (reference_part w k (codes "$ref") 70 to_ref value) | None ↦ these (sorted (parts w k ms ms)) ])
        (elim o [ Some value ↦ None | None ↦ object_of (annotating w k ms) ])

    pub lone_is : (d : Data) → Some d ≡ lone_ref w k ms
        → P (reference_edges w k (codes "$ref") to_ref d) (reference_causes w k (codes "$ref") to_ref d) (plan_alone w (reference_part w k (codes "$ref") 70 to_ref d)) None
        → P (object_edges w k ms) (schema_causes w k (object ms)) (plan_of w k (object ms)) (object_annotations w k ms)
    lone_is d h x = subst object_by h x

    pub members_are : None ≡ lone_ref w k ms → P (members_edges w k ms ms) (members_causes w k ms ms) (these (sorted (parts w k ms ms))) (object_of (annotating w k ms))
        → P (object_edges w k ms) (schema_causes w k (object ms)) (plan_of w k (object ms)) (object_annotations w k ms)
    members_are h x = subst object_by h x

  module _ (limit : ℕ) (keys : List (Key S)) (e : BuildError) (ms : Members) where
    pub lone_refused : (d : Data) → Some d ≡ lone_ref w k ms → Refused w limit (reference_edges w k (codes "$ref") to_ref d) (reference_causes w k (codes "$ref") to_ref d) keys e
        → Refused w limit (object_edges w k ms) (schema_causes w k (object ms)) keys e
    lone_refused d h x = lone_is ms (λ es cs q a. Refused w limit es cs keys e) d h x

    pub members_refused : None ≡ lone_ref w k ms → Refused w limit (members_edges w k ms ms) (members_causes w k ms ms) keys e
        → Refused w limit (object_edges w k ms) (schema_causes w k (object ms)) keys e
    members_refused h x = members_are ms (λ es cs q a. Refused w limit es cs keys e) h x

  -- ---- a reference

  pub text_refused : (limit : ℕ) (keys : List (Key S)) (e : BuildError) (name : Text) (kind : Reference) (text : Text) (d : Data) → d ≡ string text → Refused w limit (option_list (reference_asked w k name kind text)) (lookup_causes w (found w k kind text)) keys e
      → Refused w limit (reference_edges w k name kind d) (reference_causes w k name kind d) keys e
  text_refused limit keys e name kind text d is r = subst (λ x. Refused w limit (reference_edges w k name kind x) (reference_causes w k name kind x) keys e) (sym is)
      (subst (λ es. Refused w limit es (lookup_causes w (found w k kind text)) keys e) (reference_edges_of w k name kind text) r)

  no_text : (name : Text) (kind : Reference) (d : Data) → as_str d ≡ None → reference_causes w k name kind d ≡ reference_not_text (joined k.location name) ∷ []
  no_text name kind null h = refl
  no_text name kind (boolean b) h = refl
  no_text name kind (number n) h = refl
  no_text name kind (string t) h = cc
  no_text name kind (array ds) h = refl
  no_text name kind (object ms) h = refl

  pub other_text_refused : (limit : ℕ) (keys : List (Key S)) (e : BuildError) (name : Text) (kind : Reference) (d : Data) → as_str d ≡ None → Names (reference_not_text (joined k.location name) ∷ []) e
      → Refused w limit (reference_edges w k name kind d) (reference_causes w k name kind d) keys e
  other_text_refused limit keys e name kind d h n = names_refused w limit (reference_edges w k name kind d) (reference_causes w k name kind d) keys e (subst (λ cs. Names cs e) (sym (no_text name kind d h)) n)

  module _ {C : Type 0} (shape : C → K) (limit : ℕ) (keys keys' : List (Key S)) (nodes nodes' : List (NodeEntry C)) where
    -- the part of a reference, from the edge that it got
    abbrev pub reference_node : Text → ℕ → NodeEdge → NodePart C
    reference_node name priority e = record { name = name; priority = priority; is_leaf = false; form = node_reference e }

    made_of : (name : Text) (kind : Reference) (text : Text) (priority : ℕ) (o : Option NodeEdge) → IsAnswered w shape limit keys keys' nodes nodes' (reference_asked w k name kind text) (lookup_causes w (found w k kind text)) o
        → IsMadePart w keys' shape k (option_map (reference_node name priority) o) (reference_part w k name priority kind (string text))
    made_of name kind text priority None a =
        let self = skipped_self w k name kind text a.step.clean (leads_none w keys' _ a.leads) in
        subst (λ b. IsMadePart w keys' shape k None (cond b None (Some (record { name = name; priority = priority; is_leaf = false; form = reference kind text })))) (sym self) tt
    made_of name kind text priority (Some e) a =
        let self = asked_not_self w k name kind text (leads_some w keys' e _ a.leads) in
        let leads : LeadsTo w keys' (Some e) (reference_edge w k name kind text) = subst (λ b. LeadsTo w keys' (Some e) (cond b None (reference_edge w k name kind text))) self a.leads in
        subst (λ b. IsMadePart w keys' shape k (Some (reference_node name priority e)) (cond b None (Some (record { name = name; priority = priority; is_leaf = false; form = reference kind text })))) (sym self)
        (record { name = refl; priority = refl; is_leaf = refl; form = leads })

    pub reference_made : (name : Text) (kind : Reference) (text : Text) (d : Data) (priority : ℕ) (o : Option NodeEdge) → d ≡ string text
        → IsAnswered w shape limit keys keys' nodes nodes' (reference_asked w k name kind text) (lookup_causes w (found w k kind text)) o
        → MakesPart w shape limit keys keys' nodes nodes' (reference_edges w k name kind d) (reference_causes w k name kind d) k (option_map (reference_node name priority) o) (reference_part w k name priority kind d)
    reference_made name kind text d priority o is a =
        subst (λ x. MakesPart w shape limit keys keys' nodes nodes' (reference_edges w k name kind x) (reference_causes w k name kind x) k (option_map (reference_node name priority) o) (reference_part w k name priority kind x)) (sym is)
        (subst (λ es. MakesPart w shape limit keys keys' nodes nodes' es (lookup_causes w (found w k kind text)) k (option_map (reference_node name priority) o) (reference_part w k name priority kind (string text))) (reference_edges_of w k name kind text)
        (record { step = a.step; made = made_of name kind text priority o a }))

    made_alone : (o : Option (NodePart C)) (p : Option (Part K)) → IsMadePart w keys' shape k o p → IsPlan w keys' shape k (alone o) (plan_alone w p)
    made_alone None None h = tt
    made_alone (Some x) (Some y) h = (h, tt)
    made_alone None (Some y) h = absurd h
    made_alone (Some x) None h = absurd h

    -- the plan with only one part
    pub planned_alone : (es : List (Edge S)) (cs : List Cause) (o : Option (NodePart C)) (p : Option (Part K)) (n : NodePlan C) (annotations : Option Value) → n ≡ alone o → annotations ≡ None
        → MakesPart w shape limit keys keys' nodes nodes' es cs k o p → MakesPlan w shape limit keys keys' nodes nodes' es cs k n (plan_alone w p) (option_map view annotations) None
    planned_alone es cs o p n annotations is none m = record { step = m.step; plan = subst (λ x. IsPlan w keys' shape k x (plan_alone w p)) (sym is) (made_alone o p m.made); annotated = ap (option_map view) none }

-- a reference continues as its text says
pub text_goes : {S K C : Type 0} (g : Task S K C) (t t' : Table S C) (k : Key S) (name : Text) (kind : Reference) (text : Text) (d : Data) (made : List NodeEdge) → d ≡ string text
    → Goes g t t' (option_list (reference_asked g.parts k name kind text)) made → Goes g t t' (reference_edges g.parts k name kind d) made
text_goes g t t' k name kind text d made is h = subst (λ x. Goes g t t' (reference_edges g.parts k name kind x) made) (sym is)
    (subst (λ es. Goes g t t' es made) (reference_edges_of g.parts k name kind text) h)

-- a part that is alone has the edges of its plan
pub alone_goes : {S K C : Type 0} (g : Task S K C) (t t' : Table S C) (es : List (Edge S)) (o : Option (NodePart C)) → Goes g t t' es (part_edges o) → Goes g t t' es (node_edges (alone o))
alone_goes g t t' es None h = h
alone_goes g t t' es (Some x) h = goes_made g t t' es (form_edges x.form) (node_edges (node_these (x ∷ []))) h (each_append (EdgeNow t') (form_edges x.form) [] h.now tt)
