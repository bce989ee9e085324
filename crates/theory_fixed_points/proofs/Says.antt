-- How the statements of a solver's functions follow from those of the functions that they call.
use Rattle.std.proofs.Common.{◌≡◌, ◌∙◌, ℕ, ◌<◌, ◌&&◌, ◌||◌, Bool, true, false, List, [], refl, ap, ap₂}
use Rattle.std.specs.Prelude.{None, Option, Some}
use Rattle.std.proofs.lemmas.Bool.{or_right}
use Rattle.theory_definitions.specs.Instance.{Place, Step}
use Rattle.theory_definitions.specs.Keywords.{Below, Question, down, here}
use Rattle.theory_definitions.specs.Meaning.{place_below}
use Rattle.theory_definitions.specs.Guarded.{Children, NodeEdge, NodeForm, NodePart, NodePlan, node_always, node_child, node_never, node_reference, node_these}
use Rattle.theory_fixed_points.specs.Under.{EdgeAnswers, Solving, IsSolvable, by_set, under_by}
use Rattle.theory_fixed_points.specs.Found.{Found, Grows, accepted_now}
use Rattle.theory_fixed_points.specs.Stages.{ChildTells, Consistent, EdgeTells, Fits, FormTells, IsStaged, PairTells, PartsTell, Tells, edges_by, parts_by}
use Rattle.theory_fixed_points.proofs.Under.{under_is}
use Rattle.theory_fixed_points.proofs.Between.{accepted_fits, grows_fits, grows_none, lean_none}

module _ {K R : Type 0} (w : Solving K R) (f : Found) (p : Place) where
  by_cut : (c x y b : Bool) → (c ≡ true → x ≡ b) → (c ≡ false → y ≡ b) → ◌≡◌ {A = Bool} (elim c [ true ↦ x | false ↦ y ]) b
  by_cut true x y b h k = h refl
  by_cut false x y b h k = k refl

  -- An edge that a pair answers, and one that its node answers.
  pub edge_by_pair : (e : NodeEdge) (below : Below) (b l : Bool) → w.cut e ≡ true → PairTells f e.node (place_below p below) b l → EdgeTells w p f e below b l
  edge_by_pair e below b l cut says answers fits = ap (λ c. elim c as (λ c. Bool) [ true ↦ answers e (place_below p below) | false ↦ under_by w answers e.node (place_below p below) ]) cut ∙ says answers fits e refl

  pub edge_by_node : (e : NodeEdge) (below : Below) (b l : Bool) → w.cut e ≡ false → Tells w f e.node (place_below p below) b l → EdgeTells w p f e below b l
  edge_by_node e below b l free says answers fits = ap (λ c. elim c as (λ c. Bool) [ true ↦ answers e (place_below p below) | false ↦ under_by w answers e.node (place_below p below) ]) free ∙ says answers fits

  -- An edge to one step below is asked there.
  pub edge_below : (e : NodeEdge) (s : Step) (b l : Bool) → EdgeTells w (place_below p (down s)) f e here b l → EdgeTells w p f e (down s) b l
  edge_below e s b l says answers fits = says answers fits

  -- A child says what its edge says, and yes if there is none.
  pub child_none : (es : Children) (q : Question) (l : Bool) → node_child es q.child ≡ None → ChildTells w p f es q true l
  child_none es q l is given consistent = ap (λ o. elim o as (λ (o : Option NodeEdge). Bool) [ None ↦ true | Some e ↦ given e q.below ]) is

  pub child_some : (es : Children) (q : Question) (e : NodeEdge) (b l : Bool) → node_child es q.child ≡ Some e → EdgeTells w p f e q.below b l → ChildTells w p f es q b l
  child_some es q e b l is says given consistent = ap (λ o. elim o as (λ (o : Option NodeEdge). Bool) [ None ↦ true | Some e ↦ given e q.below ]) is ∙ go b says consistent
    where
      go : (b : Bool) → EdgeTells w p f e q.below b l → Consistent w p f (b && l) given → given e q.below ≡ b
      go true says consistent = consistent.yes e q.below says
      go false says consistent = consistent.no e q.below says

  -- A reference says what its edge says.
  pub form_reference : (e : NodeEdge) (b l : Bool) → EdgeTells w p f e here b l → FormTells w p f (node_reference e) b l
  form_reference e b l says = says

  -- ---- entries in order; after a no, no more of them are asked

  pub parts_none : (l : Bool) → PartsTell w p f [] true l
  parts_none l answers fits = refl

  -- ---- a node

  module _ (solvable : IsSolvable w) (i : ℕ) (l : i < w.count) where
    by_plan : (o : NodePlan K) → w.nodes.entries i ≡ o → (answers : EdgeAnswers)
        → under_by w answers i p ≡ (elim o [ node_always ↦ true | node_never ↦ false | node_these xs ↦ parts_by w p answers xs ])
    by_plan o is answers = under_is w solvable answers i p l ∙ ap (λ o. elim o as (λ (o : NodePlan K). Bool) [ node_always ↦ true | node_never ↦ false | node_these xs ↦ parts_by w p answers xs ]) is

    pub node_says_always : (k : Bool) → w.nodes.entries i ≡ node_always → Tells w f i p true k
    node_says_always k is answers fits = by_plan node_always is answers

    pub node_says_never : (k : Bool) → w.nodes.entries i ≡ node_never → Tells w f i p false k
    node_says_never k is answers fits = by_plan node_never is answers

    pub node_says_parts : (xs : List (NodePart K)) (b k : Bool) → w.nodes.entries i ≡ node_these xs → PartsTell w p f xs b k → Tells w f i p b k
    node_says_parts xs b k is says answers fits = by_plan (node_these xs) is answers ∙ says answers fits

-- ---- statements still hold later

module _ {K R : Type 0} (w : Solving K R) (p q : Place) (f g : Found) (grew : Grows q f g) where
  pub form_still : (form : NodeForm K) (b l : Bool) → FormTells w p f form b l → FormTells w p g form b l
  form_still form b l says answers fits = says answers (grows_fits q f g grew (b && l) (b && l) (λ is. is) answers fits)

  pub parts_still : (xs : List (NodePart K)) (b l : Bool) → PartsTell w p f xs b l → PartsTell w p g xs b l
  parts_still xs b l says answers fits = says answers (grows_fits q f g grew (b && l) (b && l) (λ is. is) answers fits)

-- ---- answers of edges that agree with what the edges say

module _ {K R : Type 0} (w : Solving K R) (p : Place) where
  pub consistent_at : (q : Place) (f g : Found) → Grows q f g → (l k : Bool) → (l ≡ true → k ≡ true) → (given : NodeEdge → Below → Bool) → Consistent w p g k given → Consistent w p f l given
  consistent_at q f g grew l k less given consistent = record {
    alike = consistent.alike;
    yes = λ e below says. consistent.yes e below (λ answers fits. says answers (grows_fits q f g grew l k less answers fits));
    no = λ e below says. consistent.no e below (λ answers fits. says answers (grows_fits q f g grew false false (λ is. is) answers fits));
  }

  pub consistent_grows : (f g : Found) → Grows p f g → (l k : Bool) → (l ≡ true → k ≡ true) → (given : NodeEdge → Below → Bool) → Consistent w p g k given → Consistent w p f l given
  consistent_grows f g grew = consistent_at p f g grew

  pub consistent_less : (f : Found) (l k : Bool) → (l ≡ true → k ≡ true) → (given : NodeEdge → Below → Bool) → Consistent w p f k given → Consistent w p f l given
  consistent_less f l k less given = consistent_at p f f (grows_none p f) l k less given

  module _ (solvable : IsSolvable w) where
    edges_alike : (answers : EdgeAnswers) → ((a b : NodeEdge) (q : Place) → a.node ≡ b.node → a.guarded ≡ b.guarded → answers a q ≡ answers b q)
        → (a b : NodeEdge) (below : Below) → a.node ≡ b.node → a.guarded ≡ b.guarded → edges_by w p answers a below ≡ edges_by w p answers b below
    edges_alike answers alike a b below node guards =
        ap (λ c. elim c as (λ c. Bool) [ true ↦ answers a (place_below p below) | false ↦ under_by w answers a.node (place_below p below) ]) (solvable.alike a b node guards)
        ∙ go (w.cut b)
      where
        go : (c : Bool) → ◌≡◌ {A = Bool} (elim c [ true ↦ answers a (place_below p below) | false ↦ under_by w answers a.node (place_below p below) ]) (elim c [ true ↦ answers b (place_below p below) | false ↦ under_by w answers b.node (place_below p below) ])
        go true = alike a b (place_below p below) node guards
        go false = ap (λ n. under_by w answers n (place_below p below)) node

    -- The edges have such answers if the given answers fit.
    pub fits_consistent : (f : Found) (l : Bool) (answers : EdgeAnswers) → Fits f l answers → Consistent w p f l (edges_by w p answers)
    fits_consistent f l answers fits = record {
      alike = edges_alike answers fits.alike;
      yes = λ e below says. says answers fits;
      no = λ e below says. says answers (lean_none f l answers fits);
    }

    -- The answers of edges by these answers, or with a yes for all provisional pairs.
    abbrev pub consistent_with : Found → EdgeAnswers → NodeEdge → Below → Bool
    consistent_with f answers e below = edges_by w p answers e below || edges_by w p (by_set (accepted_now f)) e below

    pub with_now_consistent : (f : Found) → IsStaged w f → (answers : EdgeAnswers) → Fits f false answers → Consistent w p f true (consistent_with f answers)
    with_now_consistent f staged answers fits = record {
      alike = λ a b below node guards. ap₂ (λ x y. x || y) (edges_alike answers fits.alike a b below node guards) (edges_alike (by_set (accepted_now f)) (accepted_fits w f staged).alike a b below node guards);
      yes = λ e below says. or_right (edges_by w p answers e below) _ (says (by_set (accepted_now f)) (accepted_fits w f staged));
      no = λ e below says. ap₂ (λ x y. x || y) (says answers fits) (says (by_set (accepted_now f)) (lean_none f true (by_set (accepted_now f)) (accepted_fits w f staged)));
    }
