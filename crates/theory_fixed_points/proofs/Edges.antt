-- The edges of a number lead to the numbers of keys that its key's makers request, and its keywords
-- are those of the plan of its key.
use Rattle.std.proofs.Common.{◌≡◌, ℕ, zero, suc, ◌<◌, List, [], ◌∷◌, length, map, refl, sym, subst, ap, ap₂, ◌++◌, arith}
use Rattle.std.specs.Prelude.{All, Contains, Option, Some, None, filter_map, flat_map, option_and_then, slice_get}
use Rattle.std.specs.List.{cons_option}
use Rattle.std.proofs.lemmas.List.Elements.{All-append, All-cons, All-contains}
use Rattle.serde_json.specs.Data.{null}
use Rattle.theory_definitions.specs.Instance.{Text}
use Rattle.theory_definitions.specs.Making.{Request}
use Rattle.theory_definitions.specs.Keywords.{here}
use Rattle.theory_definitions.specs.Parts.{Parts}
use Rattle.theory_definitions.specs.Plan.{Edge, Form, Key, Part, Plan, Reference, always, child, keyword, never, plan, reference, reference_edge, these}
use Rattle.theory_definitions.specs.Guarded.{NodeEdge, NodeForm, NodePart, NodePlan, Nodes, form_edges, node_always, node_edges, node_keyword, node_never, node_reference, node_these}
use Rattle.theory_meaning.specs.Fractions as fractions
use Rattle.theory_meaning.specs.Greatest.{IsMonotone}
use Rattle.theory_meaning.specs.Numbered.{IsNumber, Numbers, SameEdge, SameForm, SameParts, SamePlan}
use Rattle.theory_meaning.specs.Reach.{asked_for}
use Rattle.theory_meaning.proofs.Questions.{Asks, PartAsks, asked_in, by_keyword, by_reference, later}
use Rattle.theory_meaning.proofs.Reaching.{question_asked}
use Rattle.theory_fixed_points.specs.Solutions.{form_words, plan_words}
use Rattle.theory_fixed_points.specs.NumbersSay.{NumbersAreMonotone}

none : {A : Type 0} (P : A → Type 0) → All P []
none P = λ k d h. absurd (omega (arith, h))

-- A property that holds of the result at each position holds of all results.
all_given : {A B : Type 0} (h : A → Option B) (P : B → Type 0) (xs : List A) → ((i : ℕ) (y : B) → option_and_then h (slice_get xs i) ≡ Some y → P y) → All P (filter_map h xs)
all_given h P [] f = none P
all_given {A} {B} h P (x ∷ xs) f = go (h x) (f 0) (all_given h P xs (λ i. f (suc i)))
  where
    go : (o : Option B) → ((y : B) → o ≡ Some y → P y) → All P (filter_map h xs) → All P (cons_option o (filter_map h xs))
    go None g rest = rest
    go (Some y) g rest = All-cons P y _ (g y refl) rest

-- ---- the makers of a key request the keys that its children and its references lead to

module _ {S K R : Type 0} (w : Parts S K R) (k : Key S) where
  -- The same parts, with keywords that all ask one child: the requested keys are the same.
  abbrev asking : ℕ → Parts S K R
  asking i = record w { keywords = record w.keywords { may_ask = λ m s. record { child = i; below = here } ∷ [] } }

  asked_as : (i : ℕ) (edge : Edge S) → Asks (asking i) null k [] edge [] → Contains (asked_for w k) edge.key
  asked_as i edge asks = question_asked (asking i) null (record { key = k; path = []; place = [] }) _ (asked_in (asking i) null (record { key = k; path = []; place = [] }) edge [] asks)

  module _ (ys : List (Part K)) (is_plan : plan w k ≡ these ys) (y : Part K) (in_ys : Contains ys y) where
    child_asked : (m : K) (requests : List Request) (absorbed : List Text) → y.form ≡ keyword m requests absorbed → (i : ℕ) (edge : Edge S) → child w k y.name requests i ≡ Some edge → Contains (asked_for w k) edge.key
    child_asked m requests absorbed form i edge at_i = asked_as i edge (record {
      xs = ys;
      is_plan = is_plan;
      part = y;
      is_part = in_ys;
      asks = subst (λ x. PartAsks (asking i) null k [] y.name x edge []) (sym form) (by_keyword (record { child = i; below = here }) (zero, omega arith, refl) at_i);
    })

    reference_asked : (kind : Reference) (text : Text) → y.form ≡ reference kind text → (edge : Edge S) → reference_edge w k y.name kind text ≡ Some edge → Contains (asked_for w k) edge.key
    reference_asked kind text form edge is = asked_as 0 edge (record {
      xs = ys;
      is_plan = is_plan;
      part = y;
      is_part = in_ys;
      asks = subst (λ x. PartAsks (asking 0) null k [] y.name x edge []) (sym form) (by_reference is);
    })

module _ {S K R : Type 0} (w : Parts S K R) (keys : Numbers S) (nodes : Nodes K) (k : Key S) where
  -- ---- edges

  -- The edge leads to the number of a key that the makers of this key request.
  pub record Leads (e : NodeEdge) : Type 0 where
    pub key : Key S
    pub number : IsNumber keys e.node key
    pub asked : Contains (asked_for w k) key

  edge_leads : (e : NodeEdge) (o : Option (Edge S)) → SameEdge w keys nodes (Some e) o → ((edge : Edge S) → o ≡ Some edge → Contains (asked_for w k) edge.key) → Leads e
  edge_leads e None s h = absurd s
  edge_leads e (Some edge) s h = record { key = edge.key; number = s.0; asked = h edge refl }

  module _ (all : List (Part K)) (is_plan : plan w k ≡ these all) where
    form_leads : (y : Part K) → Contains all y → (x : NodeForm K) (form : Form K) → y.form ≡ form → SameForm w keys nodes k y.name x form → All Leads (form_edges x)
    form_leads y in_all (node_keyword m es) (keyword m' requests absorbed) is s = all_given (λ o. o) Leads es (λ i e at_i.
        edge_leads e (child w k y.name requests i) (subst (λ o. SameEdge w keys nodes o (child w k y.name requests i)) at_i (s.1 i))
        (λ edge. child_asked w k all is_plan y in_all m' requests absorbed is i edge))
    form_leads y in_all (node_reference e) (reference kind text) is s = All-cons Leads e [] (edge_leads e (reference_edge w k y.name kind text) s (λ edge. reference_asked w k all is_plan y in_all kind text is edge)) (none Leads)
    form_leads y in_all (node_keyword m es) (reference kind text) is s = absurd s
    form_leads y in_all (node_reference e) (keyword m' requests absorbed) is s = absurd s

    parts_lead : (xs : List (NodePart K)) (ys : List (Part K)) → SameParts w keys nodes k xs ys → ((y : Part K) → Contains ys y → Contains all y) → All Leads (flat_map (λ x. form_edges x.form) xs)
    parts_lead [] ys s h = none Leads
    parts_lead (x ∷ xs) [] s h = absurd s
    parts_lead (x ∷ xs) (y ∷ ys) s h = All-append Leads (form_edges x.form) (flat_map (λ x. form_edges x.form) xs) (form_leads y (h y (zero, omega arith, refl)) x.form y.form refl s.0.form) (parts_lead xs ys s.1 (λ z in_ys. h z (later y ys z in_ys)))

  plan_leads : (n : NodePlan K) (o : Plan K) → plan w k ≡ o → SamePlan w keys nodes k n o → All Leads (node_edges n)
  plan_leads node_always o is s = none Leads
  plan_leads node_never o is s = none Leads
  plan_leads (node_these xs) (these ys) is s = parts_lead ys is xs ys s (λ y in_ys. in_ys)
  plan_leads (node_these xs) always is s = absurd s
  plan_leads (node_these xs) never is s = absurd s

  pub edges_lead : (i : ℕ) → SamePlan w keys nodes k (nodes.entries i) (plan w k) → (e : NodeEdge) → Contains (node_edges (nodes.entries i)) e → Leads e
  edges_lead i s e is = All-contains Leads (node_edges (nodes.entries i)) e (plan_leads (nodes.entries i) (plan w k) refl s) is

  -- ---- keywords

  form_same : (name : Text) (x : NodeForm K) (y : Form K) → SameForm w keys nodes k name x y → fractions.form_words x ≡ form_words y
  form_same name (node_keyword m es) (keyword m' requests absorbed) s = ap (λ z. z ∷ []) s.0
  form_same name (node_reference e) (reference kind text) s = refl
  form_same name (node_keyword m es) (reference kind text) s = absurd s
  form_same name (node_reference e) (keyword m' requests absorbed) s = absurd s

  parts_words : (xs : List (NodePart K)) (ys : List (Part K)) → SameParts w keys nodes k xs ys → flat_map (λ x. fractions.form_words x.form) xs ≡ flat_map (λ y. form_words y.form) ys
  parts_words [] [] s = refl
  parts_words (x ∷ xs) [] s = absurd s
  parts_words [] (y ∷ ys) s = absurd s
  parts_words (x ∷ xs) (y ∷ ys) s = ap₂ (λ as' bs. as' ++ bs) (form_same y.name x.form y.form s.0.form) (parts_words xs ys s.1)

  plan_same_words : (n : NodePlan K) (o : Plan K) → SamePlan w keys nodes k n o → fractions.node_words n ≡ plan_words o
  plan_same_words node_always always s = refl
  plan_same_words node_never never s = refl
  plan_same_words (node_these xs) (these ys) s = parts_words xs ys s
  plan_same_words node_always never s = absurd s
  plan_same_words node_always (these ys) s = absurd s
  plan_same_words node_never always s = absurd s
  plan_same_words node_never (these ys) s = absurd s
  plan_same_words (node_these xs) always s = absurd s
  plan_same_words (node_these xs) never s = absurd s

there : {A : Type 0} (xs : List A) (i : ℕ) → i < length xs → (x : A) × (slice_get xs i ≡ Some x)
there [] i h = absurd (omega arith)
there (x ∷ xs) zero h = (x, refl)
there (x ∷ xs) (suc i) h = there xs i (omega arith)

pub in_map : {A : Type 0} (xs : List A) (i : ℕ) (x : A) → slice_get xs i ≡ Some x → slice_get (map Some xs) i ≡ Some (Some x)
in_map [] i x e = absurd (let f : ⊥ = cc in f)
in_map (y ∷ xs) zero x e = let same : y ≡ x = cc in ap (λ z. Some (Some z)) same
in_map (y ∷ xs) (suc i) x e = in_map xs i x e

pub numbers_are_monotone : {S K R : Type 0} (w : Parts S K R) (keys : List (Key S)) (nodes : Nodes K) → NumbersAreMonotone w keys nodes
numbers_are_monotone w keys nodes numbered root reached monotone i l =
    let k = there keys i l in
    subst (All (IsMonotone w.keywords)) (sym (plan_same_words w (map Some keys) nodes k.0 (nodes.entries i) (plan w k.0) (numbered.stands i k.0 (in_map keys i k.0 k.1)).entries))
    (monotone k.0 (reached i k.0 k.1))
