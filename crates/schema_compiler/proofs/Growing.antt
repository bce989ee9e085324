-- Reached keys and causes along edges, refusals, and tables that grow.
use Rattle.std.proofs.Common.{◌≡◌, ℕ, ◌<◌, ◌≤◌, inl, inr, List, [], ◌∷◌, ◌++◌, length, map, refl, ap, sym, ◌∙◌, subst, arith, append_assoc, true}
use Rattle.std.specs.Prelude.{Option, Some, None, slice_get, flat_map}
use Rattle.std.proofs.lemmas.List.{append-nil}
use Rattle.std.proofs.lemmas.Option.{slice_get_within}
use Rattle.theory_definitions.specs.Instance.{Text}
use Rattle.theory_definitions.specs.Parts.{Parts}
use Rattle.theory_definitions.specs.Making.{Request}
use Rattle.theory_definitions.specs.Plan.{Edge, Form, Key, Part, Plan, always, keyword, never, plan, reference, these, requested}
use Rattle.theory_meaning.specs.Reach.{Reached, asked_by, asked_edges, asked_for, at_first}
use Rattle.theory_meaning.specs.Refusals.{Cause, causes, undeclared}
use Rattle.theory_definitions.specs.Guarded.{NodeEdge, NodeForm, NodePart, NodePlan, Children, node_always, node_keyword, node_never, node_reference, node_these}
use Rattle.schema_node_table.specs.NodeTable.{NodeEntry}
use Rattle.schema_keys.specs.Compiling.{Blames, Each, In, ReachedFrom, Settled, StandsBelow}
use Rattle.schema_keys.specs.Refusing.{AreDistinct, IsRefusal, Names, Refused}
use Rattle.schema_compiler.specs.Filling.{AreChildren, AreParts, HasFormOrWaits, IsForm, IsGrown, IsNode, IsPart, IsPlan, IsPlanned, IsStep, IsTable, LeadsTo}
use Rattle.schema_keys.specs.declared.error.BuildError.{BuildError}
use Rattle.schema_keys.specs.declared.error.BuildError.TheVariants.{KeywordRefused, Lookup, MetaSchema, MissingRoot, NodeLimit, NotASchema, OutOfMemory, ReferenceNotText, UnsupportedVocabulary}
use Rattle.schema_keys.proofs.Lists.{below_or, contains_of, each_append, each_map, get-append, in_left, in_right, longer, there}

-- the key of an edge is among the edges' keys
key_in : {S : Type 0} (es : List (Edge S)) (e : Edge S) → In es e → In (map (λ (d : Edge S). d.key) es) e.key
key_in [] e i = absurd i
key_in {S} (d ∷ es) e (inl q) = inl (ap (λ (d : Edge S). d.key) q)
key_in (d ∷ es) e (inr i) = inr (key_in es e i)

-- ---- refusals

module _ {S : Type 0} (limit : ℕ) where
  pub refusal_map : (P Q : Key S → Type 0) (C D : Cause → Type 0) (keys keys' added : List (Key S)) → ((k : Key S) → P k → Q k) → ((c : Cause) → C c → D c)
      → keys' ≡ keys ++ added → Each Q added → (e : BuildError) → IsRefusal limit keys' P C e → IsRefusal limit keys Q D e
  refusal_map P Q C D keys keys' added f g is each (NotASchema l) h = g _ h
  refusal_map P Q C D keys keys' added f g is each (ReferenceNotText l) h = g _ h
  refusal_map P Q C D keys keys' added f g is each (Lookup t) h = g _ h
  refusal_map P Q C D keys keys' added f g is each (KeywordRefused x) h = (h.0, g _ h.1)
  refusal_map P Q C D keys keys' added f g is each (UnsupportedVocabulary u) h = g _ h
  refusal_map P Q C D keys keys' added f g is each (MetaSchema x) h = h
  refusal_map P Q C D keys keys' added f g is each (MissingRoot u) h = h
  refusal_map P Q C D keys keys' added f g is each (NodeLimit n) h =
      let e : keys' ++ h.1.0 ≡ keys ++ (added ++ h.1.0) = ap (λ ks. ks ++ h.1.0) is ∙ append_assoc keys added h.1.0 in
      (h.0, (added ++ h.1.0, each_append Q added h.1.0 each (each_map P Q h.1.0 f h.1.1), subst AreDistinct e h.1.2, subst (λ ks. limit < length ks) e h.1.3))
  refusal_map P Q C D keys keys' added f g is each OutOfMemory h = tt

  pub refusal_same : (P Q : Key S → Type 0) (C D : Cause → Type 0) (keys : List (Key S)) → ((k : Key S) → P k → Q k) → ((c : Cause) → C c → D c)
      → (e : BuildError) → IsRefusal limit keys P C e → IsRefusal limit keys Q D e
  refusal_same P Q C D keys f g e h = refusal_map P Q C D keys keys [] f g (sym (append-nil keys)) tt e h

module _ {S K R : Type 0} (w : Parts S K R) where
  pub reach_on : {a b : Key S} → Reached w a b → {c : Key S} → Reached w b c → Reached w a c
  reach_on h at_first = h
  reach_on h (asked_by before asks) = asked_by (reach_on h before) asks

  pub edge_reached : (k : Key S) (e : Edge S) → In (asked_edges w k) e → {q : Key S} → Reached w e.key q → Reached w k q
  edge_reached k e i r = reach_on (asked_by at_first (contains_of (asked_for w k) e.key (key_in (asked_edges w k) e i))) r

  pub from_key : (k q : Key S) → ReachedFrom w (asked_edges w k) q → Reached w k q
  from_key k q h = edge_reached k h.0 h.1 h.2

  pub blames_key : (k : Key S) (c : Cause) → Blames w (asked_edges w k) (causes w k) c → StandsBelow w k c
  blames_key k c (inl d) = (k, at_first, d)
  blames_key k c (inr b) = (b.2.0, edge_reached k b.0 b.1 b.2.1, b.2.2)

  -- ---- more edges and more causes

  module _ (es es' : List (Edge S)) (cs cs' : List Cause) where
    pub from_first : (q : Key S) → ReachedFrom w es q → ReachedFrom w (es ++ es') q
    from_first q h = (h.0, in_left es es' h.0 h.1, h.2)

    pub from_later : (q : Key S) → ReachedFrom w es' q → ReachedFrom w (es ++ es') q
    from_later q h = (h.0, in_right es es' h.0 h.1, h.2)

    pub blames_first : (c : Cause) → Blames w es cs c → Blames w (es ++ es') (cs ++ cs') c
    blames_first c (inl (inl i)) = inl (inl (in_left cs cs' c i))
    blames_first c (inl (inr d)) = inl (inr (d.0, in_left es es' d.0 d.1, d.2, d.3))
    blames_first c (inr b) = inr (b.0, in_left es es' b.0 b.1, b.2)

    pub blames_later : (c : Cause) → Blames w es' cs' c → Blames w (es ++ es') (cs ++ cs') c
    blames_later c (inl (inl i)) = inl (inl (in_right cs cs' c i))
    blames_later c (inl (inr d)) = inl (inr (d.0, in_right es es' d.0 d.1, d.2, d.3))
    blames_later c (inr b) = inr (b.0, in_right es es' b.0 b.1, b.2)

    pub refused_first : (limit : ℕ) (keys : List (Key S)) (e : BuildError) → Refused w limit es cs keys e → Refused w limit (es ++ es') (cs ++ cs') keys e
    refused_first limit keys e h = refusal_same limit (ReachedFrom w es) (ReachedFrom w (es ++ es')) (Blames w es cs) (Blames w (es ++ es') (cs ++ cs')) keys from_first blames_first e h

  -- a refusal of one of these causes
  pub names_refused : (limit : ℕ) (es : List (Edge S)) (cs : List Cause) (keys : List (Key S)) (e : BuildError) → Names cs e → Refused w limit es cs keys e
  names_refused limit es cs keys (NotASchema l) h = inl (inl h)
  names_refused limit es cs keys (ReferenceNotText l) h = inl (inl h)
  names_refused limit es cs keys (Lookup t) h = inl (inl h)
  names_refused limit es cs keys (KeywordRefused x) h = (h.0, inl (inl h.1))
  names_refused limit es cs keys (UnsupportedVocabulary u) h = inl (inl h)
  names_refused limit es cs keys (MetaSchema x) h = absurd h
  names_refused limit es cs keys (MissingRoot u) h = absurd h
  names_refused limit es cs keys (NodeLimit n) h = absurd h
  names_refused limit es cs keys OutOfMemory h = tt

  -- a refusal by a vocabulary that a reference leads to
  pub vocabulary_refused : (limit : ℕ) (edge : Edge S) (cs : List Cause) (keys : List (Key S)) (e : BuildError) → edge.is_reference ≡ true
      → Names (flat_map (undeclared w) edge.key.target.vocabularies) e → Refused w limit (edge ∷ []) cs keys e
  vocabulary_refused limit edge cs keys (NotASchema l) r h = inl (inr (edge, inl refl, r, h))
  vocabulary_refused limit edge cs keys (ReferenceNotText l) r h = inl (inr (edge, inl refl, r, h))
  vocabulary_refused limit edge cs keys (Lookup t) r h = inl (inr (edge, inl refl, r, h))
  vocabulary_refused limit edge cs keys (KeywordRefused x) r h = (h.0, inl (inr (edge, inl refl, r, h.1)))
  vocabulary_refused limit edge cs keys (UnsupportedVocabulary u) r h = inl (inr (edge, inl refl, r, h))
  vocabulary_refused limit edge cs keys (MetaSchema x) r h = absurd h
  vocabulary_refused limit edge cs keys (MissingRoot u) r h = absurd h
  vocabulary_refused limit edge cs keys (NodeLimit n) r h = absurd h
  vocabulary_refused limit edge cs keys OutOfMemory r h = tt

  -- a refusal below the target of an edge
  pub edge_refused : (limit : ℕ) (edge : Edge S) (cs : List Cause) (keys : List (Key S)) (e : BuildError)
      → IsRefusal limit keys (Reached w edge.key) (StandsBelow w edge.key) e → Refused w limit (edge ∷ []) cs keys e
  edge_refused limit edge cs keys e h =
      refusal_same limit (Reached w edge.key) (ReachedFrom w (edge ∷ [])) (StandsBelow w edge.key) (Blames w (edge ∷ []) cs) keys (λ k r. (edge, inl refl, r)) (λ c s. inr (edge, inl refl, s)) e h

-- ---- tables that grow

module _ {S C : Type 0} where
  pub grown_none : (P : Key S → Type 0) (keys : List (Key S)) (nodes : List (NodeEntry C)) → length nodes ≡ length keys → IsGrown P keys keys nodes nodes
  grown_none P keys nodes e = record {
    added = ([], sym (append-nil keys), tt);
    stay = λ i n h. h;
    filled = λ i n le h. let w = slice_get_within nodes i n h in absurd (omega arith);
  }

  pub grown_map : (P Q : Key S → Type 0) (keys keys' : List (Key S)) (nodes nodes' : List (NodeEntry C)) → ((k : Key S) → P k → Q k) → IsGrown P keys keys' nodes nodes' → IsGrown Q keys keys' nodes nodes'
  grown_map P Q keys keys' nodes nodes' f g = record {
    added = (g.added.0, g.added.1, each_map P Q g.added.0 f g.added.2);
    stay = g.stay;
    filled = g.filled;
  }

  pub keys_longer : (P : Key S → Type 0) (keys keys' : List (Key S)) (nodes nodes' : List (NodeEntry C)) → IsGrown P keys keys' nodes nodes' → length keys ≤ length keys'
  keys_longer P keys keys' nodes nodes' g = subst (λ ks. length keys ≤ length ks) (sym g.added.1) (longer keys g.added.0)

  pub grown_then : (P : Key S → Type 0) (keys keys' keys'' : List (Key S)) (nodes nodes' nodes'' : List (NodeEntry C)) → length nodes' ≡ length keys'
      → IsGrown P keys keys' nodes nodes' → IsGrown P keys' keys'' nodes' nodes'' → IsGrown P keys keys'' nodes nodes''
  grown_then P keys keys' keys'' nodes nodes' nodes'' e g h = record {
    added = (g.added.0 ++ h.added.0, h.added.1 ∙ ap (λ ks. ks ++ h.added.0) g.added.1 ∙ append_assoc keys g.added.0 h.added.0, each_append P g.added.0 h.added.0 g.added.2 h.added.2);
    stay = λ i n at. h.stay i n (g.stay i n at);
    filled = λ i n le at. elim (below_or i (length keys')) [
      | inl lt ↦ let w = there nodes' i (omega arith) in
          let f = g.filled i w.0 le w.1 in
          let same : w.0 ≡ n = (let a = h.stay i w.0 w.1 in cc) in
          subst (λ (m : NodeEntry C). HasFormOrWaits m) same f
      | inr ge ↦ h.filled i n ge at
    ];
  }

-- what stays: the numbers of keys
abbrev pub Stays : {S : Type 0} → List (Key S) → List (Key S) → Type 0
Stays {S} keys keys' = (i : ℕ) (k : Key S) → slice_get keys i ≡ Some k → slice_get keys' i ≡ Some k

pub grown_stays : {S C : Type 0} (P : Key S → Type 0) (keys keys' : List (Key S)) (nodes nodes' : List (NodeEntry C)) → IsGrown P keys keys' nodes nodes' → Stays keys keys'
grown_stays {S} P keys keys' nodes nodes' g = λ i k h. subst (λ (ks : List (Key S)). slice_get ks i ≡ Some k) (sym g.added.1) (get-append keys g.added.0 i k h)

module _ {S K R C : Type 0} (w : Parts S K R) (shape : C → K) (keys keys' : List (Key S)) (s : Stays keys keys') where
  pub leads_stay : (o : Option NodeEdge) (e : Option (Edge S)) → LeadsTo w keys o e → LeadsTo w keys' o e
  leads_stay None None h = tt
  leads_stay (Some x) (Some e) h = (s x.node e.key h.0, h.1)
  leads_stay None (Some e) h = absurd h
  leads_stay (Some x) None h = absurd h

  pub children_stay : (k : Key S) (name : Text) (es : Children) (rs : List Request) → AreChildren w keys k name es rs → AreChildren w keys' k name es rs
  children_stay k name [] [] h = tt
  children_stay k name (e ∷ es) (r ∷ rs) h = (leads_stay e (requested w k name r) h.0, children_stay k name es rs h.1)
  children_stay k name [] (r ∷ rs) h = absurd h
  children_stay k name (e ∷ es) [] h = absurd h

  form_stay : (k : Key S) (name : Text) (x : NodeForm C) (y : Form K) → IsForm w keys shape k name x y → IsForm w keys' shape k name x y
  form_stay k name (node_keyword m es) (keyword m' requests absorbed) h = (h.0, children_stay k name es requests h.1)
  form_stay k name (node_reference e) (reference kind text) h = leads_stay (Some e) _ h
  form_stay k name (node_keyword m es) (reference kind text) h = absurd h
  form_stay k name (node_reference e) (keyword m' requests absorbed) h = absurd h

  pub part_stays : (k : Key S) (x : NodePart C) (y : Part K) → IsPart w keys shape k x y → IsPart w keys' shape k x y
  part_stays k x y h = record {
    name = h.name;
    priority = h.priority;
    is_leaf = h.is_leaf;
    form = form_stay k y.name x.form y.form h.form;
  }

  pub parts_stay : (k : Key S) (xs : List (NodePart C)) (ys : List (Part K)) → AreParts w keys shape k xs ys → AreParts w keys' shape k xs ys
  parts_stay k [] [] h = tt
  parts_stay k (x ∷ xs) (y ∷ ys) h = (part_stays k x y h.0, parts_stay k xs ys h.1)
  parts_stay k [] (y ∷ ys) h = absurd h
  parts_stay k (x ∷ xs) [] h = absurd h

  pub plan_stays : (k : Key S) (p : NodePlan C) (q : Plan K) → IsPlan w keys shape k p q → IsPlan w keys' shape k p q
  plan_stays k node_always always h = tt
  plan_stays k node_never never h = tt
  plan_stays k (node_these xs) (these ys) h = parts_stay k xs ys h
  plan_stays k node_always never h = absurd h
  plan_stays k node_always (these ys) h = absurd h
  plan_stays k node_never always h = absurd h
  plan_stays k node_never (these ys) h = absurd h
  plan_stays k (node_these xs) always h = absurd h
  plan_stays k (node_these xs) never h = absurd h

  settled_one : (e : Edge S) → Settled w keys e → Settled w keys' e
  settled_one e h = record { numbered = (h.numbered.0, s h.numbered.0 e.key h.numbered.1); declared = h.declared }

  pub settled_stay : (es : List (Edge S)) → Each (Settled w keys) es → Each (Settled w keys') es
  settled_stay es h = each_map (Settled w keys) (Settled w keys') es settled_one h

  pub planned_stays : (k : Key S) (p : NodePlan C) → IsPlanned w shape keys k p → IsPlanned w shape keys' k p
  planned_stays k p h = record { plans = plan_stays k p (plan w k) h.plans; settled = settled_stay (asked_edges w k) h.settled; clean = h.clean }

  pub node_stays : (k : Key S) (n : NodeEntry C) → IsNode w shape keys k n → IsNode w shape keys' k n
  node_stays k n h = record { location = h.location; base = h.base; start = h.start; planned = λ p e. planned_stays k p (h.planned p e); annotated = h.annotated }

-- ---- steps, one after another

module _ {S K R C : Type 0} (w : Parts S K R) (shape : C → K) (limit : ℕ) where
  pub step_none : (keys : List (Key S)) (nodes : List (NodeEntry C)) → IsTable w shape limit keys nodes → IsStep w shape limit [] [] keys keys nodes nodes
  step_none keys nodes t = record { table = t; grown = grown_none (ReachedFrom w []) keys nodes t.lengths; settled = tt; clean = refl }

  pub step_then : (es es' : List (Edge S)) (cs cs' : List Cause) (keys keys' keys'' : List (Key S)) (nodes nodes' nodes'' : List (NodeEntry C))
      → IsStep w shape limit es cs keys keys' nodes nodes' → IsStep w shape limit es' cs' keys' keys'' nodes' nodes''
      → IsStep w shape limit (es ++ es') (cs ++ cs') keys keys'' nodes nodes''
  step_then es es' cs cs' keys keys' keys'' nodes nodes' nodes'' a b =
      let stays = grown_stays (ReachedFrom w es') keys' keys'' nodes' nodes'' b.grown in
      record {
        table = b.table;
        grown = grown_then (ReachedFrom w (es ++ es')) keys keys' keys'' nodes nodes' nodes'' a.table.lengths
            (grown_map (ReachedFrom w es) (ReachedFrom w (es ++ es')) keys keys' nodes nodes' (from_first w es es' cs cs') a.grown)
            (grown_map (ReachedFrom w es') (ReachedFrom w (es ++ es')) keys' keys'' nodes' nodes'' (from_later w es es' cs cs') b.grown);
        settled = each_append (Settled w keys'') es es' (settled_stay w shape keys' keys'' stays es a.settled) b.settled;
        clean = ap (λ xs. xs ++ cs') a.clean ∙ b.clean;
      }

  pub step_edge : (edge : Edge S) (keys keys' : List (Key S)) (nodes nodes' : List (NodeEntry C)) → IsTable w shape limit keys' nodes' → IsGrown (Reached w edge.key) keys keys' nodes nodes'
      → Settled w keys' edge → IsStep w shape limit (edge ∷ []) [] keys keys' nodes nodes'
  step_edge edge keys keys' nodes nodes' t g s = record {
    table = t;
    grown = grown_map (Reached w edge.key) (ReachedFrom w (edge ∷ [])) keys keys' nodes nodes' (λ k r. (edge, inl refl, r)) g;
    settled = (s, tt);
    clean = refl;
  }

  -- a refusal after a step
  pub refused_later : (es es' : List (Edge S)) (cs cs' : List Cause) (keys keys' : List (Key S)) (nodes nodes' : List (NodeEntry C)) (e : BuildError)
      → IsStep w shape limit es cs keys keys' nodes nodes' → Refused w limit es' cs' keys' e → Refused w limit (es ++ es') (cs ++ cs') keys e
  refused_later es es' cs cs' keys keys' nodes nodes' e a h =
      refusal_map limit (ReachedFrom w es') (ReachedFrom w (es ++ es')) (Blames w es' cs') (Blames w (es ++ es') (cs ++ cs')) keys keys' a.grown.added.0
      (from_later w es es' cs cs') (blames_later w es es' cs cs') a.grown.added.1
      (each_map (ReachedFrom w es) (ReachedFrom w (es ++ es')) a.grown.added.0 (from_first w es es' cs cs') a.grown.added.2) e h
