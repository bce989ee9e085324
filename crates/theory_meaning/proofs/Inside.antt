-- Subschemas lie strictly inside their schema.
use Rattle.std.proofs.Common.{◌≡◌, ℕ, zero, suc, ◌<◌, Bool, true, false, cond, List, [], ◌∷◌, ◌++◌, refl, subst, arith, true≢false}
use Rattle.std.specs.Prelude.{Contains, Option, Some, None, option_map, unwrap_or, filter_map, flat_map, All, nat_le, codes}
use Rattle.std.specs.List.{cons_option}
use Rattle.std.proofs.lemmas.List.Elements.{All-head, All-tail}
use Rattle.serde_json.specs.Data.{Data, null, boolean, number, string, array, object, Members, no_members, member, depth}
use Rattle.theory_definitions.specs.Instance.{Text, Place, Step, a_value, subject_at, member_of}
use Rattle.theory_definitions.specs.Pointer.{joined, pointer_to}
use Rattle.theory_definitions.specs.Drafts.{at_path, ref_stands_alone}
use Rattle.theory_definitions.specs.Parts.{Parts}
use Rattle.theory_definitions.specs.Making.{Request, compile, refer, Making, Made, a_keyword, nothing, refused, Builtin}
use Rattle.theory_definitions.specs.Resolving.{Found}
use Rattle.theory_definitions.specs.Plan.{Key, Part, Form, keyword, reference, Reference, to_ref, reference_named, Plan, always, never, these, Edge, plan, plan_of, plan_alone, parts, part, builtin_part, part_made, reference_part, is_refused, making, option_list, scripted, sorted, placed, requested, inside, referred, reference_edge, is_self, found, ok_of, schema_at, schema_of, height, is_recursive_ref}
use Rattle.theory_meaning.specs.Paths.{part_edges}
use Rattle.theory_meaning.specs.Numbered.{ValuesInside, IsBelow, MakersAskBelow, SubschemasInside}
use Rattle.theory_meaning.proofs.Falls.{path_falls}
use Rattle.theory_meaning.proofs.Makings.{each_until}

module _ {S K R : Type 0} (w : Parts S K R) (values : ValuesInside w) (makers : MakersAskBelow w.table) where
  FormBelow : Form K → Type 0
  FormBelow (keyword m requests absorbed) = All IsBelow requests
  FormBelow (reference kind text) = Unit {0}

  abbrev PartsBelow : List (Part K) → Type 0
  PartsBelow [] = Unit {0}
  PartsBelow (x ∷ xs) = FormBelow x.form × PartsBelow xs

  abbrev OptionBelow : Option (Part K) → Type 0
  OptionBelow None = Unit {0}
  OptionBelow (Some x) = FormBelow x.form

  placed_below : (x : Part K) (xs : List (Part K)) → FormBelow x.form → PartsBelow xs → PartsBelow (placed x xs)
  placed_below x [] h t = (h, tt)
  placed_below x (y ∷ ys) h t = go (nat_le x.priority y.priority) (placed_below x ys h t.1)
    where
      go : (b : Bool) → PartsBelow (placed x ys) → PartsBelow (cond b (x ∷ y ∷ ys) (y ∷ placed x ys))
      go true r = (h, t)
      go false r = (t.0, r)

  sorted_below : (xs : List (Part K)) → PartsBelow xs → PartsBelow (sorted xs)
  sorted_below [] t = tt
  sorted_below (x ∷ xs) t = placed_below x (sorted xs) t.0 (sorted_below xs t.1)

  joined_below : (o : Option (Part K)) (xs : List (Part K)) → OptionBelow o → PartsBelow xs → PartsBelow (option_list o ++ xs)
  joined_below None xs h t = t
  joined_below (Some x) xs h t = (h, t)

  made_below : (name : Text) (n : ℕ) (leaf : Bool) (m : Making K) → All IsBelow m.requests → OptionBelow (part_made w name n leaf m)
  unfolding FormBelow
  made_below name n leaf m h = go m.ends
    where
      go : (e : Made K) → OptionBelow (elim e [ a_keyword meaning absorbed ↦ Some (record { name = name; priority = n; is_leaf = leaf; form = keyword meaning m.requests absorbed }) | nothing ↦ None | refused told error ↦ None ])
      go (a_keyword meaning absorbed) = h
      go nothing = tt
      go (refused told error) = tt

  reference_below : (k : Key S) (name : Text) (n : ℕ) (kind : Reference) (value : Data) → OptionBelow (reference_part w k name n kind value)
  unfolding FormBelow
  reference_below k name n kind (string text) = go (is_self w k kind text)
    where
      go : (b : Bool) → OptionBelow (cond b None (Some (record { name = name; priority = n; is_leaf = false; form = reference kind text })))
      go true = tt
      go false = tt
  reference_below k name n kind null = tt
  reference_below k name n kind (boolean b) = tt
  reference_below k name n kind (number b) = tt
  reference_below k name n kind (array b) = tt
  reference_below k name n kind (object b) = tt

  builtin_below : (k : Key S) (whole : Members) (name : Text) (value : Data) → OptionBelow (builtin_part w k whole name value)
  builtin_below k whole name value = go (w.table.builtin k.target.draft k.target.vocabularies name) (reference_named name)
    where
      go : (o : Option Builtin) (r : Option Reference) → OptionBelow (elim o [ None ↦ None | Some b ↦ elim r [ Some kind ↦ reference_part w k name b.priority kind value | None ↦ part_made w name b.priority b.is_leaf (making w k whole false name) ] ])
      go None r = tt
      go (Some b) (Some kind) = reference_below k name b.priority kind value
      go (Some b) None = made_below name b.priority b.is_leaf (making w k whole false name) (each_until (is_refused w k) IsBelow (scripted w k whole false name).requests (scripted w k whole false name).ends (makers false name whole _ _ _ _))

  part_below : (k : Key S) (whole : Members) (name : Text) (value : Data) → OptionBelow (part w k whole name value)
  part_below k whole name value = go (w.table.owns name)
    where
      go : (b : Bool) → OptionBelow (elim b [ true ↦ part_made w name 80 false (making w k whole true name) | false ↦ builtin_part w k whole name value ])
      go true = made_below name 80 false (making w k whole true name) (each_until (is_refused w k) IsBelow (scripted w k whole true name).requests (scripted w k whole true name).ends (makers true name whole _ _ _ _))
      go false = builtin_below k whole name value

  parts_below : (k : Key S) (whole ms : Members) → PartsBelow (parts w k whole ms)
  parts_below k whole no_members = tt
  parts_below k whole (member name value rest) = joined_below (part w k whole name value) (parts w k whole rest) (part_below k whole name value) (parts_below k whole rest)

  abbrev PlanBelow : Data → Plan K → Type 0
  PlanBelow d always = Unit {0}
  PlanBelow d never = Unit {0}
  PlanBelow d (these xs) = PartsBelow xs × (0 < depth d)

  alone_below : (d : Data) (o : Option (Part K)) → 0 < depth d → OptionBelow o → PlanBelow d (plan_alone w o)
  alone_below d None l h = tt
  alone_below d (Some x) l h = ((h, tt), l)

  plan_below : (k : Key S) (d : Data) → PlanBelow d (plan_of w k d)
  plan_below k null = tt
  plan_below k (boolean true) = tt
  plan_below k (boolean false) = tt
  plan_below k (number n) = tt
  plan_below k (string s) = tt
  plan_below k (array ds) = tt
  plan_below k (object ms) = go (cond (ref_stands_alone k.target.draft) (member_of (codes "$ref") ms) None)
    where
      go : (o : Option Data) → PlanBelow (object ms) (elim o [ Some value ↦ plan_alone w (reference_part w k (codes "$ref") 70 to_ref value) | None ↦ these (sorted (parts w k ms ms)) ])
      go (Some value) = alone_below (object ms) _ (omega arith) (reference_below k (codes "$ref") 70 to_ref value)
      go None = (sorted_below (parts w k ms ms) (parts_below k ms ms), omega arith)

  -- ---- edges

  module _ (k : Key S) (deep : 0 < depth (schema_of w k)) where
    Falls : Edge S → Type 0
    Falls edge = edge.is_reference ≡ false → height w edge.key < height w k

    abbrev EachFalls : List (Edge S) → Type 0
    EachFalls [] = Unit {0}
    EachFalls (e ∷ es) = Falls e × EachFalls es

    abbrev OptionFalls : Option (Edge S) → Type 0
    OptionFalls None = Unit {0}
    OptionFalls (Some e) = Falls e

    lower : (s : Step) (path : Place) → depth (schema_at w (at_path k.target.place (s ∷ path))) < depth (schema_of w k)
    lower s path = go (w.resolver.value (at_path k.target.place (s ∷ path))) (values k.target.place (s ∷ path))
      where
        go : (o : Option Data) → ((v : Data) → o ≡ Some v → subject_at (schema_of w k) (s ∷ path) ≡ Some (a_value v)) → depth (unwrap_or o null) < depth (schema_of w k)
        go None f = deep
        go (Some v) f = let h : suc (depth v) < suc (depth (schema_of w k)) = path_falls s path (a_value (schema_of w k)) (a_value v) (f v refl) in omega arith

    reference_falls : (name : Text) (kind : Reference) (text : Text) → OptionFalls (reference_edge w k name kind text)
    unfolding Falls
    reference_falls name kind text = go (ok_of (found w k kind text))
      where
        go : (o : Option (Found S)) → OptionFalls (option_map (λ f. record { key = referred w k f kind text; path = joined [] name; is_reference = true; is_recursive = is_recursive_ref kind }) o)
        go None = tt
        go (Some f) = λ e. absurd (true≢false e)

    request_falls : (name : Text) (r : Request) → IsBelow r → OptionFalls (requested w k name r)
    unfolding Falls
    request_falls name (compile []) h = absurd h
    request_falls name (compile (s ∷ path)) h = go (ok_of (w.resolver.in_subresource k.target.state (w.resolver.detect k.target.draft (schema_at w (at_path k.target.place (s ∷ path)))) (at_path k.target.place (s ∷ path)))) (lower s path)
      where
        go : (o : Option S) → depth (schema_at w (at_path k.target.place (s ∷ path))) < depth (schema_of w k) → OptionFalls (option_map (λ state. record { key = inside w k (s ∷ path) state (w.resolver.detect k.target.draft (schema_at w (at_path k.target.place (s ∷ path)))); path = pointer_to (s ∷ path); is_reference = false; is_recursive = false }) o)
        go None l = tt
        go (Some state) l = λ e. omega arith
    request_falls name (refer text) h = go (is_self w k to_ref text) (reference_falls name to_ref text)
      where
        go : (b : Bool) → OptionFalls (reference_edge w k name to_ref text) → OptionFalls (cond b None (reference_edge w k name to_ref text))
        go true f = tt
        go false f = f

    requests_fall : (name : Text) (rs : List Request) → All IsBelow rs → EachFalls (filter_map (requested w k name) rs)
    requests_fall name [] h = tt
    requests_fall name (r ∷ rs) h = go (requested w k name r) (request_falls name r (All-head IsBelow r rs h)) (requests_fall name rs (All-tail IsBelow r rs h))
      where
        go : (o : Option (Edge S)) → OptionFalls o → EachFalls (filter_map (requested w k name) rs) → EachFalls (cons_option o (filter_map (requested w k name) rs))
        go None f t = t
        go (Some e) f t = (f, t)

    append_falls : (xs ys : List (Edge S)) → EachFalls xs → EachFalls ys → EachFalls (xs ++ ys)
    append_falls [] ys h t = t
    append_falls (x ∷ xs) ys h t = (h.0, append_falls xs ys h.1 t)

    form_falls : (name : Text) (x : Form K) → FormBelow x → EachFalls (part_edges w k name x)
    unfolding FormBelow
    form_falls name (keyword m requests absorbed) h = requests_fall name requests h
    form_falls name (reference kind text) h = go (reference_edge w k name kind text) (reference_falls name kind text)
      where
        go : (o : Option (Edge S)) → OptionFalls o → EachFalls (option_list o)
        go None f = tt
        go (Some e) f = (f, tt)

    parts_fall : (xs : List (Part K)) → PartsBelow xs → EachFalls (flat_map (λ x. part_edges w k x.name x.form) xs)
    parts_fall [] h = tt
    parts_fall (x ∷ xs) h = append_falls (part_edges w k x.name x.form) _ (form_falls x.name x.form h.0) (parts_fall xs h.1)

    each : (es : List (Edge S)) → EachFalls es → (edge : Edge S) → Contains es edge → Falls edge
    each [] h edge (i, is, at_i) = absurd (omega arith)
    each (e ∷ es) h edge (zero, is, at_i) = subst Falls at_i h.0
    each (e ∷ es) h edge (suc i, is, at_i) = each es h.1 edge (i, omega arith, at_i)

  pub subschemas_inside : SubschemasInside w
  unfolding Falls
  subschemas_inside k edge in_edges = go (plan w k) (plan_below k (schema_of w k)) in_edges
    where
      go : (o : Plan K) → PlanBelow (schema_of w k) o → Contains {X = Edge S} (elim o [ always ↦ [] | never ↦ [] | these xs ↦ flat_map (λ x. part_edges w k x.name x.form) xs ]) edge → edge.is_reference ≡ false → height w edge.key < height w k
      go always h (i, is, at_i) = absurd (omega arith)
      go never h (i, is, at_i) = absurd (omega arith)
      go (these xs) h c = each k h.1 (flat_map (λ x. part_edges w k x.name x.form) xs) (parts_fall k h.1 xs h.0) edge c
