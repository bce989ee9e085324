-- Units of numbered nodes that have errors point at a keyword and at a value, whether questions
-- return or not.
use Rattle.std.proofs.Common.{◌≡◌, ℕ, zero, suc, Bool, true, false, ◌==◌, List, [], ◌∷◌, ◌++◌, refl, sym, subst, ap, ◌∙◌, arith, map}
use Rattle.std.specs.Prelude.{All, Contains, Option, Some, None, filter, flat_map, option_map, if◌then◌else◌, nat_le, not}
use Rattle.std.specs.List.{list_any}
use Rattle.std.proofs.lemmas.List.{append-nil}
use Rattle.std.proofs.lemmas.List.Elements.{All-nil, All-cons, All-head, All-tail, All-map, All-append, All-weaker, All-contains, All-filter}
use Rattle.serde_json.specs.Data.{Data}
use Rattle.theory_definitions.specs.Instance.{Text, Place, Step}
use Rattle.theory_definitions.specs.Pointer.{joined, pointer_to}
use Rattle.theory_definitions.specs.Reports.{Report, Unit_, unit, no_units, units_of, report_of, Outcome}
use Rattle.theory_definitions.specs.Parts.{Parts}
use Rattle.theory_definitions.specs.Matching.{Completion, matching, beside}
use Rattle.theory_definitions.specs.Keywords.{Below, Gives, Named, Question, here}
use Rattle.theory_definitions.specs.Laws.{IsPresent, steps_below}
use Rattle.theory_definitions.specs.Making.{Request}
use Rattle.theory_definitions.specs.Resolving.{Found}
use Rattle.theory_definitions.specs.Plan.{Key, Edge, Part, Form, keyword, reference, Reference, Plan, always, never, these, plan, child, requested, reference_edge, referred, found, is_recursive_ref, ok_of}
use Rattle.theory_definitions.specs.Meaning.{Where, place_below, told_of}
use Rattle.theory_definitions.specs.Units.{Entry, PartUnits, entry_units, false_unit, in_order, is_type, keyword_unit, keyword_units, no_unit, plan_unit, reference_units, true_unit, Valued}
use Rattle.theory_definitions.specs.Guarded.{NodeEdge, node_child, NodeForm, node_keyword, node_reference, NodePart, NodePlan, node_always, node_never, node_these, Nodes, progress_below, across, guarded_within, node_at, node_asked, node_part_units, node_entries_of, node_unit, guarded_units, node_others, node_told, node_valued, yes_valued}
use Rattle.theory_meaning.specs.Paths.{Walks, stands, goes, edges, names, part_edges, IsRest}
use Rattle.theory_meaning.specs.Numbered.{Numbers, IsNumber, SameEdge, SameForm, SamePart, SameParts, SamePlan, StandsFor, AreNumbered, subject_in}
use Rattle.theory_meaning.specs.ErrorsLead.{EachKeepsAbsorbing, MakesAbsorbing}
use Rattle.theory_meaning.specs.UnitsLead.{EachHandsUnitsOn, EachUnit, EachUnitOf, IsHandedOn, NodeUnitsLead, UnitPointsAt, UnitsPoint}
use Rattle.theory_meaning.proofs.Questions.{later, in_flat_map}
use Rattle.theory_meaning.proofs.Settles.{picked}
use Rattle.theory_meaning.proofs.SameOutcome.{in_option_list}
use Rattle.theory_meaning.proofs.ErrorsLead.{Stands, absorbs_its, stands_at}

-- ---- lists of units

module _ (P : Report → Type 0) where
  abbrev Each : Unit_ → Type 0
  Each u = EachUnit P u

  -- All units of a list.
  each_in : (us : List Unit_) → All Each us → EachUnitOf P (units_of us)
  each_in [] h = tt
  each_in (u ∷ us) h = (All-head Each u us h, each_in us (All-tail Each u us h))

  -- The units of an entry: its own, and those that it absorbs.
  abbrev EachOfPart : PartUnits → Type 0
  EachOfPart x = Each x.0 × All (λ (a : Text × Unit_). Each a.1) x.1

  owns_of : (xs : List Entry) → All (λ (x : Entry). EachOfPart x.units) xs → All Each (map (λ (x : Entry). x.units.0) xs)
  owns_of [] h = All-nil Each
  owns_of (x ∷ xs) h = All-cons Each x.units.0 _ (All-head (λ (x : Entry). EachOfPart x.units) x xs h).0 (owns_of xs (All-tail (λ (x : Entry). EachOfPart x.units) x xs h))

  absorbed_of : (xs : List Entry) → All (λ (x : Entry). EachOfPart x.units) xs → All (λ (a : Text × Unit_). Each a.1) (flat_map (λ (x : Entry). x.units.1) xs)
  absorbed_of [] h = All-nil (λ (a : Text × Unit_). Each a.1)
  absorbed_of (x ∷ xs) h = All-append (λ (a : Text × Unit_). Each a.1) x.units.1 _ (All-head (λ (x : Entry). EachOfPart x.units) x xs h).1 (absorbed_of xs (All-tail (λ (x : Entry). EachOfPart x.units) x xs h))

  either : (b : Bool) (us vs : List Unit_) → All Each us → All Each vs → All Each (if b then us else vs)
  either true us vs f g = f
  either false us vs f g = g

  ordered : (counts : List Unit_) → All Each counts → (xs : List Entry) → All (λ (x : Entry). EachOfPart x.units) xs → All Each (in_order counts xs)
  ordered counts c [] h = c
  ordered counts c (x ∷ xs) h =
      let own = (All-head (λ (x : Entry). EachOfPart x.units) x xs h).0 in
      let rest = All-tail (λ (x : Entry). EachOfPart x.units) x xs h in
      either (nat_le 22 x.priority) (counts ++ (x.units.0 ∷ map (λ (y : Entry). y.units.0) xs)) (x.units.0 ∷ in_order counts xs)
      (All-append Each counts _ c (All-cons Each x.units.0 _ own (owns_of xs rest)))
      (All-cons Each x.units.0 _ own (ordered counts c xs rest))

  picked_of : (test : Text × Unit_ → Bool) (us : List (Text × Unit_)) → All (λ (a : Text × Unit_). Each a.1) us → All Each (map (λ (a : Text × Unit_). a.1) (filter test us))
  picked_of test us h = All-map Each (λ (a : Text × Unit_). a.1) (filter test us) (All-filter test (λ (a : Text × Unit_). Each a.1) us h)

  entries_each : (xs : List Entry) → All (λ (x : Entry). EachOfPart x.units) xs → All Each (entry_units xs)
  entries_each xs h =
      let absorbed = flat_map (λ (x : Entry). x.units.1) xs in
      let each = absorbed_of xs h in
      All-append Each (map (λ (a : Text × Unit_). a.1) (filter is_type absorbed)) _ (picked_of is_type absorbed each)
      (ordered (map (λ (a : Text × Unit_). a.1) (filter (λ a. not (is_type a)) absorbed)) (picked_of (λ a. not (is_type a)) absorbed each) xs h)

-- ---- parts

-- A reference's edge adds the name of its keyword to the evaluation path.
path_named : {S K R : Type 0} (w : Parts S K R) (k : Key S) (name : Text) (kind : Reference) (text : Text) (edge : Edge S) → reference_edge w k name kind text ≡ Some edge → edge.path ≡ joined [] name
path_named w k name kind text edge is = go (ok_of (found w k kind text)) is
  where
    go : (o : Option (Found _)) → option_map (λ f. record { key = referred w k f kind text; path = joined [] name; is_reference = true; is_recursive = is_recursive_ref kind }) o ≡ Some edge → edge.path ≡ joined [] name
    go None e = absurd (let f : ⊥ = cc in f)
    go (Some f) e = let same : edge ≡ record { key = referred w k f kind text; path = joined [] name; is_reference = true; is_recursive = is_recursive_ref kind } = cc in ap (λ (edge' : Edge _). edge'.path) same

-- ---- units without errors

quiet : (P : Report → Type 0) (r : Report) → r.errors ≡ [] → ((¬ (r.errors ≡ []) → P r))
quiet P r none wrong = absurd (wrong none)

module _ {S K R : Type 0} (w : Parts S K R) (absorbs : K → List Text) (laws : EachKeepsAbsorbing w.keywords absorbs) (makers : MakesAbsorbing absorbs w.table) (hands : EachHandsUnitsOn w.keywords absorbs) (keys : Numbers S) (nodes : Nodes K) (root : Key S) (instance : Data) where
  abbrev Points : Report → Type 0
  Points r = ¬ (r.errors ≡ []) → UnitPointsAt w root instance r

  abbrev AllPoint : Unit_ → Type 0
  AllPoint u = UnitsPoint w root instance u

  -- The answer to a question at an evaluation path: its unit is at that path, and all units in it
  -- point.
  abbrev Lead : Text → Unit_ → Type 0
  Lead path u = ((report_of u).evaluation_path ≡ path) × AllPoint u

  -- The rest of a path, by the target's plan.
  abbrev RestOf : Text → Plan K → Type 0
  RestOf rest o = elim o [ always ↦ ⊥ | never ↦ rest ≡ [] | these xs ↦ (name : Text) × (steps : Place) × (Contains (flat_map (names w) xs) name) × (rest ≡ joined [] name ++ pointer_to steps) ]

  alone : (r : Report) → r.errors ≡ [] → AllPoint (unit r no_units)
  alone r none = (quiet (UnitPointsAt w root instance) r none, tt)

  module _ (c : Completion) (i : ℕ) (k : Key S) (same : StandsFor w keys nodes i k) (path : Text) (way : Walks w root path k) (p : Place) (there : Stands instance p) (go : NodeEdge → Below → Unit_)
      (answers : (edge : Edge S) (e : NodeEdge) (b : Below) → IsNumber keys e.node edge.key → e.path ≡ edge.path → Walks w root (path ++ edge.path) edge.key
      → Stands instance (place_below p b) → Lead (path ++ e.path) (go e b)) where
    abbrev at_node : Where
    at_node = node_at w.keywords w.matcher nodes (subject_in instance) i path p

    -- A unit at the keyword of a name, or at the target itself if that is `false`.
    pointing : (rest : Text) → IsRest w k rest → (r : Report) → r.evaluation_path ≡ path ++ rest → r.schema_path ≡ nodes.location i ++ rest → r.instance_location ≡ pointer_to p
        → r.absolute ≡ nodes.absolute i r.schema_path → UnitPointsAt w root instance r
    pointing rest ends r at_path at_schema at_instance at_absolute = record {
      key = k;
      rest = rest;
      leads = record { front = path; walks = way; ends = ends; is = at_path };
      schema_path = at_schema ∙ ap (λ (t : Text). t ++ rest) same.location;
      place = p;
      present = there;
      instance_location = at_instance;
      absolute = at_absolute ∙ same.absolute r.schema_path;
    }

    false_points : plan w k ≡ never → Lead path (false_unit w.keywords.texts at_node (subject_in instance p))
    false_points is = (
      refl,
      (λ wrong. pointing [] (subst (RestOf []) (sym is) refl) _ (sym (append-nil path)) (sym (append-nil (nodes.location i))) refl refl, tt),
    )

    module _ (ys : List (Part K)) (is_plan : plan w k ≡ these ys) (y : Part K) (in_ys : Contains ys y) where
      -- The rest that is the path of one of the part's names.
      named : (name : Text) → Contains (names w y) name → IsRest w k (joined [] name)
      named name in_names = subst (RestOf (joined [] name)) (sym is_plan)
          (name, [], in_flat_map (names w) ys y name in_ys in_names, sym (append-nil (joined [] name)))

      is_edge : (edge : Edge S) → Contains (part_edges w k y.name y.form) edge → Contains (edges w k) edge
      is_edge edge h = subst (λ (o : Plan K). Contains (elim o [ always ↦ [] | never ↦ [] | these xs ↦ flat_map (λ x. part_edges w k x.name x.form) xs ]) edge) (sym is_plan)
          (in_flat_map (λ (x : Part K). part_edges w k x.name x.form) ys y edge in_ys h)

      -- The unit of a name, with units inside it that point.
      unit_points : (a : Named) → Contains (names w y) a.name → All AllPoint a.children → AllPoint (keyword_unit at_node a)
      unit_points a in_names inside = (λ wrong. pointing (joined [] a.name) (named a.name in_names) _ refl refl refl refl, each_in Points a.children inside)

      edge_leads : (o : Option NodeEdge) (o' : Option (Edge S)) (b : Below) → SameEdge w keys nodes o o' → Stands instance (place_below p b) → ((edge : Edge S) → o' ≡ Some edge → Contains (part_edges w k y.name y.form) edge)
          → AllPoint (elim o [ None ↦ no_unit | Some e ↦ go e b ])
      edge_leads None o' b s at_b h = alone _ refl
      edge_leads (Some e) None b s at_b h = absurd s
      edge_leads (Some e) (Some edge) b s at_b h = (answers edge e b s.0 s.1 (goes edge way (is_edge edge (h edge refl))) at_b).1

      -- Answers that are passed on point as they do.
      handed : (asked : Question → Unit_) (qs : List Question) → ((q : Question) → Contains qs q → AllPoint (asked q)) → (u : Unit_) → IsHandedOn asked qs u → AllPoint u
      handed asked qs each u on = subst AllPoint (sym on.2) (each on.0 on.1)

      keyword_points : (others : Step → Bool) (m : K) (requests : List Request) (absorbed : List Text) → y.form ≡ keyword m requests absorbed → absorbed ≡ absorbs m → (es : List (Option NodeEdge))
          → ((j : ℕ) → SameEdge w keys nodes (node_child es j) (child w k y.name requests j))
          → EachOfPart Points (keyword_units w.keywords at_node y.name m (subject_in instance p) (beside others (matching w.matcher c)) (node_asked w.keywords w.matcher nodes (subject_in instance) no_unit es go))
      keyword_points others m requests absorbed is absorbing es children =
          let s = subject_in instance p in
          let asked : Question → Unit_ = node_asked w.keywords w.matcher nodes (subject_in instance) no_unit es go in
          let qs = w.keywords.may_ask m s in
          let gives : Gives = w.keywords.units m s (beside others (matching w.matcher c)) asked in
          let on = hands m s (beside others (matching w.matcher c)) asked in
          let present : (q : Question) → Contains qs q → IsPresent s (steps_below q.below) = λ q may. All-contains (λ (q : Question). IsPresent s (steps_below q.below)) qs q ((laws m).present s) may in
          let each : (q : Question) → Contains qs q → AllPoint (asked q) = λ q may. edge_leads (node_child es q.child) (child w k y.name requests q.child) q.below (children q.child)
          (stands_at instance p q.below there (present q may))
          (λ edge e. subst (λ (form : Form K). Contains (part_edges w k y.name form) edge) (sym is) (picked (requested w k y.name) requests q.child edge e)) in
          let inside : (us : List Unit_) → All (IsHandedOn asked qs) us → All AllPoint us = λ us h. All-weaker (IsHandedOn asked qs) AllPoint (handed asked qs each) us h in
          let in_names : (name : Text) → Contains (absorbs m) name → Contains (names w y) name = λ name h.
          subst (λ (form : Form K). Contains (y.name ∷ elim form [ keyword m' requests' absorbed' ↦ absorbed' | reference kind text ↦ [] ]) name) (sym is) (later y.name absorbed name (subst (λ (ns : List Text). Contains ns name) (sym absorbing) h)) in (
            unit_points (record { name = y.name; valid = gives.valid; children = gives.children; annotations = gives.annotations; errors = gives.errors }) (zero, omega arith, refl) (inside gives.children on.own),
            All-map (λ (a : Text × Unit_). AllPoint a.1) (λ (a : Named). (a.name, keyword_unit at_node a)) gives.absorbed
                (All-weaker (λ (a : Named). Contains (absorbs m) a.name × All (IsHandedOn asked qs) a.children) (λ (a : Named). AllPoint (keyword_unit at_node a))
                (λ a h. unit_points a (in_names a.name h.0) (inside a.children h.1)) gives.absorbed on.absorbed),
          )

      -- The unit of a reference is that of its target, at the path of the reference, which is the
      -- path of the target.
      reference_points : (e : NodeEdge) (u : Unit_) → e.path ≡ joined [] y.name → Lead (path ++ e.path) u → EachOfPart Points (reference_units at_node y.name u)
      reference_points e (unit r us) at_name h = (
        subst (λ (t : Text). AllPoint (unit (record r { evaluation_path = t }) us)) (h.0 ∙ ap (λ (t : Text). path ++ t) at_name) h.1,
        All-nil (λ (a : Text × Unit_). AllPoint a.1),
      )

      form_points : (others : Step → Bool) (x : NodeForm K) (form : Form K) → y.form ≡ form → SameForm w keys nodes k y.name x form
          → EachOfPart Points (node_part_units w.keywords w.matcher nodes (subject_in instance) c i path p go others y.name x)
      form_points others (node_keyword m es) (keyword m' requests absorbed) is s =
          subst (λ (word : K). EachOfPart Points (keyword_units w.keywords at_node y.name word (subject_in instance p) (beside others (matching w.matcher c)) (node_asked w.keywords w.matcher nodes (subject_in instance) no_unit es go))) (sym s.0)
          (keyword_points others m' requests absorbed is (absorbs_its w absorbs makers k ys is_plan y in_ys m' requests absorbed is) es s.1)
      form_points others (node_reference e) (reference kind text) is s = by_edge (reference_edge w k y.name kind text) refl s
        where
          by_edge : (o : Option (Edge S)) → reference_edge w k y.name kind text ≡ o → SameEdge w keys nodes (Some e) o → EachOfPart Points (reference_units at_node y.name (go e here))
          by_edge None found t = absurd t
          by_edge (Some edge) found t =
              let in_edges : Contains (part_edges w k y.name y.form) edge = subst (λ (form : Form K). Contains (part_edges w k y.name form) edge) (sym is) (in_option_list (reference_edge w k y.name kind text) edge found) in
              reference_points e (go e here) (t.1 ∙ path_named w k y.name kind text edge found) (answers edge e here t.0 t.1 (goes edge way (is_edge edge in_edges)) there)
      form_points others (node_keyword m es) (reference kind text) is s = absurd s
      form_points others (node_reference e) (keyword m' requests absorbed) is s = absurd s

      part_points : (others : Step → Bool) (x : NodePart K) → SamePart w keys nodes k x y → EachOfPart Points (node_part_units w.keywords w.matcher nodes (subject_in instance) c i path p go others x.name x.form)
      part_points others x s = subst (λ (name : Text). EachOfPart Points (node_part_units w.keywords w.matcher nodes (subject_in instance) c i path p go others name x.form)) (sym s.name) (form_points others x.form y.form refl s.form)

    -- All entries of a target.
    entries_point : (others : Step → Bool) (all : List (Part K)) → plan w k ≡ these all → (xs : List (NodePart K)) (ys : List (Part K)) → SameParts w keys nodes k xs ys → ((y : Part K) → Contains ys y → Contains all y)
        → All (λ (x : Entry). EachOfPart Points x.units) (node_entries_of w.keywords w.matcher nodes (subject_in instance) c i path p go others xs)
    entries_point others all is [] ys s h = All-nil (λ (x : Entry). EachOfPart Points x.units)
    entries_point others all is (x ∷ xs) [] s h = absurd s
    entries_point others all is (x ∷ xs) (y ∷ ys) s h = All-cons (λ (x : Entry). EachOfPart Points x.units) _ _
        (part_points all is y (h y (zero, omega arith, refl)) (told_of others (node_told w.keywords x.form)) x s.0) (entries_point others all is xs ys s.1 (λ z in_ys. h z (later y ys z in_ys)))

    plan_points : (says : NodeEdge → Below → Outcome) (n : NodePlan K) (o : Plan K) → plan w k ≡ o → SamePlan w keys nodes k n o
        → Lead path (elim n [ node_always ↦ true_unit at_node | node_never ↦ false_unit w.keywords.texts at_node (subject_in instance p) | node_these xs ↦ plan_unit at_node (nodes.annotations i) (node_entries_of w.keywords w.matcher nodes (subject_in instance) c i path p go (node_others w.keywords w.matcher nodes (subject_in instance) c i path p says xs) xs) ])
    plan_points says node_always o is s = (refl, alone _ refl)
    plan_points says node_never never is s = false_points is
    plan_points says node_never always is s = absurd s
    plan_points says node_never (these ys) is s = absurd s
    plan_points says (node_these xs) (these ys) is s =
        let others = node_others w.keywords w.matcher nodes (subject_in instance) c i path p says xs in
        let entries = node_entries_of w.keywords w.matcher nodes (subject_in instance) c i path p go others xs in
        (refl, (quiet (UnitPointsAt w root instance) _ refl, each_in Points (entry_units entries) (entries_each Points entries (entries_point others ys is xs ys s (λ y in_ys. in_ys)))))
    plan_points says (node_these xs) always is s = absurd s
    plan_points says (node_these xs) never is s = absurd s

    unit_leads : (says : NodeEdge → Below → Outcome) → Lead path (node_unit w.keywords w.matcher nodes (subject_in instance) c i path p says go)
    unit_leads says = plan_points says (nodes.entries i) (plan w k) refl same.entries

  -- ---- at any depth

  by_guard : (guarded busy : Bool) (path : Text) (x y z : Valued) → Lead path x.units → Lead path y.units → Lead path z.units
      → Lead path (let v : Valued = elim guarded [ false ↦ x | true ↦ elim busy [ true ↦ y | false ↦ z ] ] in v.units)
  by_guard false busy path x y z f g h = f
  by_guard true true path x y z f g h = g
  by_guard true false path x y z f g h = h

  guarded_leads : AreNumbered w keys nodes → (c : Completion) (n i : ℕ) (k : Key S) → IsNumber keys i k → (path : Text) → Walks w root path k → (p : Place) → Stands instance p → (busy : List ℕ)
      → Lead path (guarded_units w.keywords w.matcher nodes (subject_in instance) c n i path p busy)
  guarded_leads numbered c zero i k number path way p there busy = (refl, alone _ refl)
  guarded_leads numbered c (suc n) i k number path way p there busy =
      let say : ℕ → Text → Place → List ℕ → Valued = guarded_within (yes_valued nodes) (node_valued w.keywords w.matcher nodes (subject_in instance) c) n in
      let below : NodeEdge → Below → Valued = across (yes_valued nodes) (node_valued w.keywords w.matcher nodes (subject_in instance) c) say path p busy in
      unit_leads c i k (numbered.stands i k number) path way p there (λ e b. (below e b).units)
      (λ edge e b number' same_path way' at_b.
      let way'' : Walks w root (path ++ e.path) edge.key = subst (λ (t : Text). Walks w root (path ++ t) edge.key) (sym same_path) way' in
      let again : (busy' : List ℕ) → Lead (path ++ e.path) (say e.node (path ++ e.path) (place_below p b) busy').units = guarded_leads numbered c n e.node edge.key number' (path ++ e.path) way'' (place_below p b) at_b in
      by_guard e.guarded (list_any (λ j. j == e.node) (progress_below busy b)) (path ++ e.path)
      (say e.node (path ++ e.path) (place_below p b) (progress_below busy b)) (yes_valued nodes e.node (path ++ e.path) (place_below p b)) (say e.node (path ++ e.path) (place_below p b) (e.node ∷ progress_below busy b))
      (again (progress_below busy b)) (refl, alone _ refl) (again (e.node ∷ progress_below busy b)))
      (λ e b. (below e b).outcome)

pub node_units_lead : {S K R : Type 0} (w : Parts S K R) (absorbs : K → List Text) (keys : Numbers S) (nodes : Nodes K) → NodeUnitsLead w absorbs keys nodes
node_units_lead w absorbs keys nodes laws makers hands numbered instance c n i root number =
    (guarded_leads w absorbs laws makers hands keys nodes root instance numbered c n i root number [] stands [] refl []).1
