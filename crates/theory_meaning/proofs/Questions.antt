-- The questions that a key may ask at a place, as edges and places.
use Rattle.std.proofs.Common.{◌≡◌, zero, suc, List, [], ◌∷◌, ◌++◌, refl, ap, sym, subst, ◌∙◌, arith}
use Rattle.std.specs.Prelude.{Contains, Option, Some, None, option_map, filter_map, flat_map}
use Rattle.std.specs.List.{cons_option}
use Rattle.std.proofs.lemmas.List.Elements.{Contains-append_left, Contains-append_right}
use Rattle.serde_json.specs.Data.{Data}
use Rattle.theory_definitions.specs.Instance.{Text, Place}
use Rattle.theory_definitions.specs.Parts.{Parts}
use Rattle.theory_definitions.specs.Keywords.{Question}
use Rattle.theory_definitions.specs.Making.{Request}
use Rattle.theory_definitions.specs.Plan.{Key, Edge, Part, Form, keyword, reference, Reference, Plan, always, never, these, plan, child, reference_edge}
use Rattle.theory_meaning.specs.Returns.{Asked, questions, part_questions, LeadsTo, stays, asks}
use Rattle.theory_definitions.specs.Meaning.{subject, place_below}

pub later : {A : Type 0} (x : A) (xs : List A) (y : A) → Contains xs y → Contains (x ∷ xs) y
later x xs y (i, is, at_i) = (suc i, omega arith, at_i)

pub in_filter_map : {A B : Type 0} (h : A → Option B) (xs : List A) (x : A) (y : B) → Contains xs x → h x ≡ Some y → Contains (filter_map h xs) y
in_filter_map h [] x y (i, is, at_i) e = absurd (omega arith)
in_filter_map {B = B} h (z ∷ zs) x y (zero, is, at_i) e = subst (λ (o : Option B). Contains (cons_option o (filter_map h zs)) y) (sym (ap h at_i ∙ e)) (zero, omega arith, refl)
in_filter_map {B = B} h (z ∷ zs) x y (suc i, is, at_i) e = go (h z) (in_filter_map h zs x y (i, omega arith, at_i) e)
  where
    go : (o : Option B) → Contains (filter_map h zs) y → Contains (cons_option o (filter_map h zs)) y
    go None k = k
    go (Some u) k = later u _ y k

pub in_flat_map : {A B : Type 0} (f : A → List B) (xs : List A) (x : A) (y : B) → Contains xs x → Contains (f x) y → Contains (flat_map f xs) y
in_flat_map f [] x y (i, is, at_i) k = absurd (omega arith)
in_flat_map f (z ∷ zs) x y (zero, is, at_i) k = Contains-append_left (f z) _ y (subst (λ u. Contains (f u) y) (sym at_i) k)
in_flat_map f (z ∷ zs) x y (suc i, is, at_i) k = Contains-append_right (f z) _ y (in_flat_map f zs x y (i, omega arith, at_i) k)

module _ {S K R : Type 0} (w : Parts S K R) (instance : Data) where
  -- The edges and places that a part may ask.
  pub data PartAsks (k : Key S) (p : Place) : Text → Form K → Edge S → Place → Type 0 where
    by_keyword : {name : Text} {m : K} {requests : List Request} {absorbed : List Text} {edge : Edge S} (q : Question)
        → Contains (w.keywords.may_ask m (subject w instance p)) q → child w k name requests q.child ≡ Some edge
        → PartAsks k p name (keyword m requests absorbed) edge (place_below p q.below)
    by_reference : {name : Text} {kind : Reference} {text : Text} {edge : Edge S} → reference_edge w k name kind text ≡ Some edge
        → PartAsks k p name (reference kind text) edge p

  pub record Asks (k : Key S) (p : Place) (edge : Edge S) (q : Place) : Type 0 where
    pub xs : List (Part K)
    pub is_plan : plan w k ≡ these xs
    pub part : Part K
    pub is_part : Contains xs part
    pub asks : PartAsks k p part.name part.form edge q

  part_in : (a : Asked w instance) (name : Text) (form : Form K) (edge : Edge S) (q : Place) → PartAsks a.key a.place name form edge q
      → Contains (part_questions w instance a name form) (record { key = edge.key; path = a.path ++ edge.path; place = q })
  part_in a name (keyword m requests absorbed) edge _ (by_keyword q is at_edge) = in_filter_map _ (w.keywords.may_ask m (subject w instance a.place)) q _ is
      (ap (option_map (λ e. record { key = e.key; path = a.path ++ e.path; place = place_below a.place q.below })) at_edge)
  part_in a name (reference kind text) edge _ (by_reference is) = subst (λ (o : Option (Edge S)). Contains {X = Asked w instance} (elim o [ None ↦ [] | Some e ↦ record { key = e.key; path = a.path ++ e.path; place = a.place } ∷ [] ]) (record { key = edge.key; path = a.path ++ edge.path; place = a.place })) (sym is) (zero, omega arith, refl)

  -- Whatever may be asked is a question.
  pub asked_in : (a : Asked w instance) (edge : Edge S) (q : Place) → Asks a.key a.place edge q
      → Contains (questions w instance a) (record { key = edge.key; path = a.path ++ edge.path; place = q })
  asked_in a edge q h = subst (λ (o : Plan K). Contains {X = Asked w instance} (elim o [ always ↦ [] | never ↦ [] | these xs ↦ flat_map (λ x. part_questions w instance a x.name x.form) xs ]) (record { key = edge.key; path = a.path ++ edge.path; place = q })) (sym h.is_plan)
      (in_flat_map (λ x. part_questions w instance a x.name x.form) h.xs h.part _ h.is_part (part_in a h.part.name h.part.form edge q h.asks))

  pub further : {a b d : Asked w instance} → LeadsTo w instance a b → Contains (questions w instance b) d → LeadsTo w instance a d
  further stays h = asks h stays
  further (asks g l) h = asks g (further l h)

  -- The first question of a chain.
  pub goes_by : {a b d : Asked w instance} → LeadsTo w instance a b → Contains (questions w instance b) d
      → (next : Asked w instance) × Contains (questions w instance a) next × LeadsTo w instance next d
  goes_by {d = d} stays h = (d, h, stays)
  goes_by (asks {b = b} g l) h = (b, g, further l h)
