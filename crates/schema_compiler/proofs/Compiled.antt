-- A table whose every number has its form is the compilation of its root.
use Rattle.std.proofs.Common.{◌≡◌, ℕ, zero, suc, ◌<◌, Bool, true, false, cond, List, [], ◌∷◌, ◌++◌, length, map, refl, ap, sym, ◌∙◌, subst, arith, inl, inr}
use Rattle.std.specs.List.{starts_with}
use Rattle.std.specs.Prelude.{AllPairs, Option, Some, None, slice_get, slice_index_or, option_map, option_and_then, unwrap_or, flat_map, codes, drop, ◌==◌}
use Rattle.std.proofs.lemmas.Bool.{eqb-true}
use Rattle.std.proofs.lemmas.Slice.Eq.{bytes_eq-Decides}
use Rattle.std.proofs.lemmas.Option.{slice_get-map, slice_get_within}
use Rattle.theory_definitions.specs.Instance.{Text}
use Rattle.theory_definitions.specs.Drafts.{Draft}
use Rattle.theory_definitions.specs.Resolving.{Resolver}
use Rattle.theory_definitions.specs.Matching.{Matcher}
use Rattle.theory_definitions.specs.Making.{Request, Table}
use Rattle.theory_definitions.specs.Keywords.{Keywords}
use Rattle.theory_definitions.specs.Parts.{Parts}
use Rattle.theory_definitions.specs.Plan.{Edge, Form, Key, Part, Plan, absolute_of, always, child, encoded, keyword, never, plan, reference, requested, same_key, these, without_fragment}
use Rattle.serde_json.specs.View.{view}
use Rattle.theory_meaning.specs.Reach.{Reached, asked_by, asked_edges, asked_for, at_first, different}
use Rattle.theory_meaning.specs.MapPointers as alone
use Rattle.theory_meaning.specs.MapPointers.{required_in, stands_in}
use Rattle.theory_meaning.specs.Refusals.{Cause, Stands, is_required, referred_by, stands_at, the_root, undeclared}
use Rattle.theory_definitions.specs.Guarded.{Children, NodeEdge, NodeForm, NodePart, NodePlan, Nodes, node_always, node_child, node_keyword, node_never, node_reference, node_these}
use Rattle.theory_meaning.specs.Numbered.{IsNumber, Ranked, SameEdge, SameForm, SameParts, SamePlan, StandsFor}
use Rattle.schema_node_table.specs.NodeTable.{IsOrdered, NodeEntry, absolute_in, numbered, shaped, shaped_form, plan_in}
use Rattle.schema_node_table.proofs.RankedTable.{ranked_table}
use Rattle.schema_keys.specs.Compiling.{Each, In, Settled, StandsBelow, parts_of}
use Rattle.schema_keys.specs.Refusing.{AreDistinct, IsRefusal}
use Rattle.schema_compiler.specs.Finding.{FindsAll, GuardsByStanding, standing_of}
use Rattle.schema_compiler.specs.UnderWay.{EdgesWithin}
use Rattle.schema_compiler.proofs.OtherCourses.{finds_all_too}
use Rattle.schema_compiler.proofs.GuardsAgree.{guards_agree}
use Rattle.schema_keys.specs.ShownBases.{shown_base}
use Rattle.schema_compiler.specs.Filling.{AreChildren, AreParts, IsForm, IsGrown, IsNode, IsPlan, IsPlanned, IsTable, LeadsTo}
use Rattle.schema_keys.specs.Alone.{NamesFirst, RefusesVocabularies}
use Rattle.schema_compiler.specs.Compilation.{IsCompilation, IsCompilationAlone, RefusesAlone, RefusesRoot, all_parts}
use Rattle.schema_keys.specs.declared.error.BuildError.{BuildError}
use Rattle.schema_keys.specs.declared.error.BuildError.TheVariants.{KeywordRefused, Lookup, MetaSchema, MissingRoot, NodeLimit, NotASchema, OutOfMemory, ReferenceNotText, UnsupportedVocabulary}
use Rattle.schema_keys.proofs.Lists.{all_of, contains_of, each_in, each_map, in_of, there}
use Rattle.schema_keys.proofs.SameKeys.{and_parts, draft_true, one_key, schema_place_true, vocabularies_true}

-- keys with the same parts are equal
same_key_true : {S K R : Type 0} (w : Parts S K R) → ((a b : S) → w.resolver.same_state a b ≡ true → a ≡ b) → (a b : Key S) → same_key w a b ≡ true → a ≡ b
same_key_true w law a b h =
    let h1 = and_parts _ _ h in
    let h2 = and_parts _ _ h1.0 in
    let h3 = and_parts _ _ h2.0 in
    let t1 = and_parts _ _ h3.0 in
    let t2 = and_parts _ _ t1.0 in
    let t3 = and_parts _ _ t2.0 in
    one_key a b (schema_place_true _ _ t3.0) (law _ _ t3.1) (draft_true _ _ t2.1) (vocabularies_true _ _ t1.1) ((bytes_eq-Decides a.location b.location).0 h3.1) ((bytes_eq-Decides a.base b.base).0 h2.1) (eqb-true a.start b.start h1.1)

get_at : {A : Type 0} (xs : List A) (i : ℕ) (d : A) → i < length xs → slice_get xs i ≡ Some (slice_index_or xs i d)
get_at [] i d h = absurd (omega arith)
get_at (x ∷ xs) zero d h = refl
get_at (x ∷ xs) (suc i) d h = get_at xs i d (omega arith)

distinct_differ : {S K R : Type 0} (w : Parts S K R) → ((a b : S) → w.resolver.same_state a b ≡ true → a ≡ b) → (keys : List (Key S)) → AreDistinct keys → AllPairs (different w) keys
distinct_differ {S} w law keys d i j x lt within =
    let a = slice_index_or keys i x in
    let b = slice_index_or keys j x in
    let go : (t : Bool) → same_key w a b ≡ t → t ≡ false = elim [
      | true ↦ λ e. absurd (let one : a ≡ b = same_key_true w law a b e in
          let at : slice_get keys i ≡ Some a = get_at keys i x (omega arith) in
          let at' : slice_get keys j ≡ Some b = get_at keys j x within in
          let same = d i j a at (at' ∙ ap Some (sym one)) in omega (arith, same))
      | false ↦ λ e. refl
    ] in
    go (same_key w a b) refl

-- ---- a root and a subschema that is compiled by itself

-- the first element is in the list
front : {A : Type 0} (xs : List A) (x : A) → slice_get xs 0 ≡ Some x → In xs x
front [] x e = absurd cc
front (y ∷ ys) x e = inl cc

module _ {S K R : Type 0} (w : Parts S K R) where
  -- a cause below is also one of the root, whose vocabularies have to be declared besides
  pub stands_too : {root : Key S} {cause : Cause} → alone.StandsBelow w root cause → Stands w root cause
  stands_too (stands_in k reach has) = stands_at k reach has
  stands_too (required_in edge reach asks is has) = is_required edge.key (referred_by edge reach asks is) has

  pub stands_but : {root : Key S} {cause : Cause} → flat_map (undeclared w) root.target.vocabularies ≡ [] → Stands w root cause → alone.StandsBelow w root cause
  stands_but clean (stands_at k reach has) = stands_in k reach has
  stands_but {cause = cause} clean (is_required k the_root has) = absurd (subst (λ cs. In cs cause) clean (in_of _ cause has))
  stands_but clean (is_required k (referred_by edge reach asks is) has) = required_in edge reach asks is has

  -- if the root's vocabularies are declared
  pub compilation_of : {C : Type 0} {shape : C → K} {limit nested : ℕ} {root : Key S} {keys : List (Key S)} {nodes : List (NodeEntry C)} → flat_map (undeclared w) root.target.vocabularies ≡ []
      → IsCompilationAlone w shape limit nested root keys nodes → IsCompilation w shape limit nested root keys nodes
  compilation_of clean c = record {
    first = c.first;
    numbers = c.numbers;
    ranked = c.ranked;
    filled = c.filled;
    lengths = c.lengths;
    whole = c.whole;
    sound = c.sound;
    within = c.within;
    compiles = λ cause stands. c.compiles cause (stands_but clean stands);
    order = c.order;
    guards = c.guards;
  }

  pub refuses_root : (limit : ℕ) (root : Key S) (e : BuildError) → RefusesAlone w limit root e → RefusesRoot w limit root e
  refuses_root limit root (NotASchema l) h = stands_too h
  refuses_root limit root (ReferenceNotText l) h = stands_too h
  refuses_root limit root (Lookup t) h = stands_too h
  refuses_root limit root (KeywordRefused x) h = (h.0, stands_too h.1)
  refuses_root limit root (UnsupportedVocabulary u) h = stands_too h
  refuses_root limit root (MetaSchema x) h = h
  refuses_root limit root (MissingRoot u) h = h
  refuses_root limit root (NodeLimit n) h = h
  refuses_root limit root OutOfMemory h = tt

  pub vocabularies_refuse : (limit : ℕ) (root : Key S) (e : BuildError) → RefusesVocabularies w root e → RefusesRoot w limit root e
  vocabularies_refuse limit root (NotASchema l) h = absurd h
  vocabularies_refuse limit root (ReferenceNotText l) h = absurd h
  vocabularies_refuse limit root (Lookup t) h = absurd h
  vocabularies_refuse limit root (KeywordRefused x) h = absurd h
  vocabularies_refuse limit root (UnsupportedVocabulary u) h = is_required root the_root (contains_of _ _ (front _ _ h))
  vocabularies_refuse limit root (MetaSchema x) h = h
  vocabularies_refuse limit root (MissingRoot u) h = h
  vocabularies_refuse limit root (NodeLimit n) h = absurd h
  vocabularies_refuse limit root OutOfMemory h = tt

module _ {S K R : Type 0} (resolver : Resolver S) (table : Table K) (formats : Option Bool) (declared : List Text) (matcher : Matcher) (keywords : Keywords K R) (draft : Option Draft) (base : Option Text) where
  abbrev w : Parts S K (Unit {0})
  w = parts_of resolver table formats declared

  abbrev whole : Parts S K R
  whole = all_parts resolver table formats declared matcher keywords draft base

  to_whole : {a b : Key S} → Reached w a b → Reached whole a b
  to_whole at_first = at_first
  to_whole (asked_by before asks) = asked_by (to_whole before) asks

  from_whole : {a b : Key S} → Reached whole a b → Reached w a b
  from_whole at_first = at_first
  from_whole (asked_by before asks) = asked_by (from_whole before) asks

  -- ---- refusals

  below_stands : (root : Key S) (c : Cause) → StandsBelow w root c → alone.StandsBelow whole root c
  below_stands root c (q, r, inl i) = stands_in q (to_whole r) (contains_of _ c i)
  below_stands root c (q, r, inr d) = required_in d.0 (to_whole r) (contains_of _ d.0 d.1) d.2 (contains_of _ c d.3)

  pub refuses_alone : ((a b : S) → resolver.same_state a b ≡ true → a ≡ b) → (limit : ℕ) (root : Key S) (e : BuildError) → IsRefusal limit [] (Reached w root) (StandsBelow w root) e → RefusesAlone whole limit root e
  refuses_alone law limit root (NotASchema l) h = below_stands root _ h
  refuses_alone law limit root (ReferenceNotText l) h = below_stands root _ h
  refuses_alone law limit root (Lookup t) h = below_stands root _ h
  refuses_alone law limit root (KeywordRefused x) h = (h.0, below_stands root _ h.1)
  refuses_alone law limit root (UnsupportedVocabulary u) h = below_stands root _ h
  refuses_alone law limit root (MetaSchema x) h = h
  refuses_alone law limit root (MissingRoot u) h = h
  refuses_alone law limit root (NodeLimit n) h =
      (h.0, (h.1.0, all_of (Reached whole root) h.1.0 (each_map (Reached w root) (Reached whole root) h.1.0 (λ k r. to_whole r) h.1.1), distinct_differ whole law h.1.0 h.1.2, h.1.3))
  refuses_alone law limit root OutOfMemory h = tt

  -- a root's own vocabularies
  pub vocabulary_refuses : (root : Key S) (e : BuildError) → NamesFirst (flat_map (undeclared w) root.target.vocabularies) e → RefusesVocabularies whole root e
  vocabulary_refuses root e h = h

  -- ---- numbers

  module _ {C : Type 0} (shape : C → K) (keys : List (Key S)) (nodes : List (NodeEntry C)) where
    abbrev numbers : List (Option (Key S))
    numbers = map Some keys

    abbrev table_of : Nodes K
    table_of = numbered shape nodes

    number_of : (i : ℕ) (k : Key S) → slice_get keys i ≡ Some k → IsNumber numbers i k
    number_of i k h = slice_get-map Some keys i ∙ ap (option_map Some) h

    key_of : (i : ℕ) (k : Key S) → IsNumber numbers i k → slice_get keys i ≡ Some k
    key_of i k h =
        let go : (o : Option (Key S)) → option_map Some o ≡ Some (Some k) → o ≡ Some k = elim [ None ↦ λ e. cc | Some q ↦ λ e. cc ] in
        go (slice_get keys i) (sym (slice_get-map Some keys i) ∙ h)

    same_edge : (o : Option NodeEdge) (e : Option (Edge S)) → LeadsTo w keys o e → SameEdge whole numbers table_of o e
    same_edge None None h = tt
    same_edge (Some x) (Some e) h = (number_of x.node e.key h.0, h.1)
    same_edge None (Some e) h = absurd h
    same_edge (Some x) None h = absurd h

    same_children : (k : Key S) (name : Text) (es : Children) (rs : List Request) → AreChildren w keys k name es rs → (i : ℕ) → SameEdge whole numbers table_of (node_child es i) (child whole k name rs i)
    same_children k name [] [] h i = tt
    same_children k name (e ∷ es) (r ∷ rs) h zero = same_edge e (requested w k name r) h.0
    same_children k name (e ∷ es) (r ∷ rs) h (suc i) = same_children k name es rs h.1 i
    same_children k name [] (r ∷ rs) h i = absurd h
    same_children k name (e ∷ es) [] h i = absurd h

    same_form : (k : Key S) (name : Text) (x : NodeForm C) (y : Form K) → IsForm w keys shape k name x y → SameForm whole numbers table_of k name (shaped_form shape x) y
    same_form k name (node_keyword m es) (keyword m' requests absorbed) h = (h.0, same_children k name es requests h.1)
    same_form k name (node_reference e) (reference kind text) h = same_edge (Some e) _ h
    same_form k name (node_keyword m es) (reference kind text) h = absurd h
    same_form k name (node_reference e) (keyword m' requests absorbed) h = absurd h

    same_parts : (k : Key S) (xs : List (NodePart C)) (ys : List (Part K)) → AreParts w keys shape k xs ys
        → SameParts whole numbers table_of k (map (λ (x : NodePart C). record { name = x.name; priority = x.priority; is_leaf = x.is_leaf; form = shaped_form shape x.form }) xs) ys
    same_parts k [] [] h = tt
    same_parts k (x ∷ xs) (y ∷ ys) h = (record { name = h.0.name; priority = h.0.priority; is_leaf = h.0.is_leaf; form = same_form k y.name x.form y.form h.0.form }, same_parts k xs ys h.1)
    same_parts k [] (y ∷ ys) h = absurd h
    same_parts k (x ∷ xs) [] h = absurd h

    same_plan : (k : Key S) (p : NodePlan C) (q : Plan K) → IsPlan w keys shape k p q → SamePlan whole numbers table_of k (shaped shape p) q
    same_plan k node_always always h = tt
    same_plan k node_never never h = tt
    same_plan k (node_these xs) (these ys) h = same_parts k xs ys h
    same_plan k node_always never h = absurd h
    same_plan k node_always (these ys) h = absurd h
    same_plan k node_never always h = absurd h
    same_plan k node_never (these ys) h = absurd h
    same_plan k (node_these xs) always h = absurd h
    same_plan k (node_these xs) never h = absurd h

    -- absolute locations
    shown : (k : Key S) (n : NodeEntry C) (t : Text) → n.base ≡ shown_base w k → n.start ≡ k.start → absolute_in n t ≡ absolute_of whole k t
    shown k n t b s =
        let uri = resolver.base_uri k.target.state in
        let go : (x : Bool) → option_map (λ base. base ++ (35 ∷ encoded (drop k.start t))) (cond x None (Some (without_fragment uri))) ≡ cond x None (Some (without_fragment uri ++ (35 ∷ encoded (drop k.start t)))) = elim [ true ↦ refl | false ↦ refl ] in
        ap (λ n'. option_map (λ base. base ++ (35 ∷ encoded (drop n' t))) n.base) s ∙ ap (option_map (λ base. base ++ (35 ∷ encoded (drop k.start t)))) b ∙ go (starts_with (λ x y. x == y) uri (codes "json-schema:"))

    module _ (limit nested : ℕ) (root : Key S) (t : IsTable w shape limit keys nodes) (g : IsGrown (Reached w root) [] keys [] nodes) (formed : (i : ℕ) (n : NodeEntry C) → slice_get nodes i ≡ Some n → (p : NodePlan C) × (n.plan ≡ Some p)) (first : slice_get keys 0 ≡ Some root) where
      planned_at : (i : ℕ) (k : Key S) → slice_get keys i ≡ Some k → (n : NodeEntry C) × (p : NodePlan C) × (slice_get nodes i ≡ Some n) × (n.plan ≡ Some p) × IsNode w shape keys k n
      planned_at i k at =
          let within = slice_get_within keys i k at in
          let e = t.lengths in
          let n = there nodes i (omega arith) in
          let f = formed i n.0 n.1 in
          (n.0, f.0, n.1, f.1, t.stands i k n.0 at n.1)

      planned : (i : ℕ) (k : Key S) → slice_get keys i ≡ Some k → (p : NodePlan C) × IsPlanned w shape keys k p
      planned i k at = let n = planned_at i k at in (n.1, n.4.planned n.1 n.3)

      stands_for : (i : ℕ) (k : Key S) → IsNumber numbers i k → StandsFor whole numbers table_of i k
      stands_for i k h =
          let at = key_of i k h in
          let n = planned_at i k at in
          record {
            entries = subst (λ (o : Option (NodeEntry C)). SamePlan whole numbers table_of k (shaped shape (plan_in o)) (plan whole k)) (sym n.2)
                (subst (λ (o : Option (NodePlan C)). SamePlan whole numbers table_of k (shaped shape (unwrap_or o node_always)) (plan whole k)) (sym n.3) (same_plan k n.1 (plan w k) (n.4.planned n.1 n.3).plans));
            location = ap (λ (o : Option (NodeEntry C)). unwrap_or (option_map (λ (m : NodeEntry C). m.location) o) []) n.2 ∙ n.4.location;
            absolute = λ l. ap (λ (o : Option (NodeEntry C)). unwrap_or (option_map (λ (m : NodeEntry C). absolute_in m l) o) None) n.2 ∙ shown k n.0 l n.4.base n.4.start;
            annotations = ap (λ (o : Option (NodeEntry C)). option_and_then (λ (m : NodeEntry C). option_map view m.annotations) o) n.2 ∙ n.4.annotated n.1 n.3;
          }

      settled_key : (es : List (Edge S)) (l : Key S) → Each (Settled w keys) es → In (map (λ (d : Edge S). d.key) es) l → (i : ℕ) × (slice_get keys i ≡ Some l)
      settled_key [] l h i = absurd i
      settled_key (d ∷ es) l h (inl e) = (h.0.numbered.0, h.0.numbered.1 ∙ ap Some e)
      settled_key (d ∷ es) l h (inr i) = settled_key es l h.1 i

      numbered_key : {k : Key S} → Reached w root k → (i : ℕ) × (slice_get keys i ≡ Some k)
      numbered_key at_first = (0, first)
      numbered_key (asked_by {k} {l} before asks) =
          let at = numbered_key before in
          let p = planned at.0 k at.1 in
          settled_key (asked_edges w k) l p.1.settled (in_of (asked_for w k) l asks)

      no_cause : (cause : Cause) → ¬ (alone.StandsBelow whole root cause)
      no_cause cause (stands_in k reach has) =
          let at = numbered_key (from_whole reach) in
          let p = planned at.0 k at.1 in
          subst (λ cs. In cs cause) p.1.clean (in_of _ cause has)
      no_cause cause (required_in {k = q} edge reach asks is has) =
          let at = numbered_key (from_whole reach) in
          let p = planned at.0 q at.1 in
          let s = each_in (Settled w keys) (asked_edges w q) edge p.1.settled (in_of _ edge asks) in
          subst (λ cs. In cs cause) (s.declared is) (in_of _ cause has)

      pub compiled : (finished : ℕ) → IsOrdered nodes finished → FindsAll w nested root keys (map standing_of nodes) → GuardsByStanding nodes → EdgesWithin nodes
          → IsCompilationAlone whole shape limit nested root keys nodes
      compiled finished ordered order guards inside =
          let within : (i : ℕ) (k : Key S) → slice_get keys i ≡ Some k → i < length nodes = λ i k at. let l = slice_get_within keys i k at in let e = t.lengths in omega arith in
          record {
            first = first;
            numbers = record { stands = stands_for; once = λ i j k a b. t.distinct i j k (key_of i k a) (key_of j k b); guards = λ i k is. guards_agree nodes shape guards inside i (within i k (key_of i k is)) };
            ranked = subst (Ranked table_of) t.lengths (ranked_table shape nodes finished ordered);
            filled = formed;
            lengths = t.lengths;
            whole = λ k r. numbered_key (from_whole r);
            sound = all_of (Reached whole root) keys (each_map (Reached w root) (Reached whole root) keys (λ k r. to_whole r) (subst (Each (Reached w root)) (sym g.added.1) g.added.2));
            within = t.within;
            compiles = no_cause;
            order = finds_all_too w whole (λ k. refl) nested root keys (map standing_of nodes) order;
            guards = guards;
          }

pub none_in_none : {S : Type 0} (i : ℕ) (k : Key S) → slice_get [] i ≡ Some k → ⊥
none_in_none i k e = let g : ⊥ = cc in g
