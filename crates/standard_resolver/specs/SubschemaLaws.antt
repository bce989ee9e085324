-- Each subschema lies below its schema.
use Rattle.std.proofs.Common.{ℕ, suc, ◌≡◌, ◌∙◌, ◌+◌, ◌++◌, ◌∷◌, [], List, Bool, true, false, cond, Option, Some, None, option_and_then}
use Rattle.std.proofs.Common.{option_map, map, refl, sym, ap, arith}
use Rattle.std.specs.Prelude.{flat_map, slice_get}
use Rattle.std.specs.List.{AllByRecursion}
use Rattle.std.specs.Str.{bytes_eq}
use Rattle.std.proofs.lemmas.Slice.Eq.{bytes_eq-Decides}
use Rattle.serde_json.specs.Data.{Data, Items, Members, array, boolean, item, member, no_items, no_members, null, number, object, string}
use Rattle.serde_json.specs.Find.{get}
use Rattle.theory_definitions.specs.Instance.{Place, Step, Subject, Text, a_name, a_value, item_of, member_of, subject_at, subject_from}
use Rattle.theory_definitions.specs.Instance.{to_item, to_member}
use Rattle.theory_definitions.specs.Drafts.{Draft, SchemaPlace, at_path}
use Rattle.schema_reports.proofs.Found.{after_member}
use Rattle.schema_traits.proofs.Replies.{from_append}
use Rattle.schema_traits.specs.ResolverViews.{Placed, StandsBelow, SubschemasStandBelow, placed_in}
use Rattle.standard_subschemas.specs.declared.rules.Rule.{Rule}
use Rattle.standard_subschemas.specs.SubschemaRules.{below_list, below_object, below_value, data_of, is_schema, items_below, members_below}
use Rattle.standard_subschemas.specs.SubschemaRules.{names_of_lists, names_of_objects, names_of_values, place_if, subschemas, subschemas_of}
use Rattle.standard_subschemas.specs.FoundSchemas.{found_at}
use Rattle.standard_subschemas.specs.FoundViews.{placed_at}
use Rattle.standard_resolver.specs.ResolverDocuments.{HeldDocuments, Document, documents_of, value_in, value_of}
use Rattle.standard_resolver.specs.ResolverAnswers.{document_resolving}

-- the path has at least one step, and there is a value at its end
abbrev StandsIn : Data → Place → Type 0
StandsIn d path = (step : Step) × (rest : Place) × (there : Data) × (path ≡ step ∷ rest) × (subject_at d path ≡ Some (a_value there))

-- ---- lists of paths

module _ (d : Data) where
  appended : (ps qs : List Place) → AllByRecursion (StandsIn d) ps → AllByRecursion (StandsIn d) qs
      → AllByRecursion (StandsIn d) (ps ++ qs)
  appended [] qs h k = k
  appended (p ∷ ps) qs h k = (h.0, appended ps qs h.1 k)

  of_names : (f : Text → List Place) → ((k : Text) → AllByRecursion (StandsIn d) (f k)) → (names : List Text)
      → AllByRecursion (StandsIn d) (flat_map f names)
  of_names f h [] = tt
  of_names f h (k ∷ names) = appended (f k) (flat_map f names) (h k) (of_names f h names)

  if_schema : (b : Bool) (p : Place) (ps : List Place) → StandsIn d p → AllByRecursion (StandsIn d) ps
      → AllByRecursion (StandsIn d) (place_if b p ps)
  if_schema true p ps h k = (h, k)
  if_schema false p ps h k = k

-- ---- members, items and values

-- the values below a member
after_it : (k : Text) (p : Place) (d v : Data) → get k d ≡ Some v → subject_at d (to_member k ∷ p) ≡ subject_from p (a_value v)
after_it k p d v e = ap (option_and_then (subject_from p)) (after_member k d ∙ ap (option_map a_value) e)

found_first : (l : Text) (v : Data) (more : Members) → member_of l (member l v more) ≡ Some v
found_first l v more = ap (λ (b : Bool). cond b (Some v) (member_of l more)) ((bytes_eq-Decides l l).1 refl)

found_later : (k l : Text) (v w : Data) (more : Members) → member_of k more ≡ Some w → (u : Data)
    × (member_of k (member l v more) ≡ Some u)
found_later k l v w more e = go (bytes_eq k l)
  where
    go : (b : Bool) → (u : Data) × (cond b (Some v) (member_of k more) ≡ Some u)
    go true = (v, refl)
    go false = (w, e)

module _ (k : Text) (d : Data) where
  member_stands : (whole : Members) (l : Text) (u : Data) → get k d ≡ Some (object whole) → member_of l whole ≡ Some u
      → StandsIn d (to_member k ∷ to_member l ∷ [])
  member_stands whole l u e f = (
    to_member k,
    to_member l ∷ [],
    u,
    refl,
    after_it k (to_member l ∷ []) d (object whole) e
        ∙ ap (λ (o : Option Data). option_and_then (subject_from []) (option_and_then (λ v. Some (a_value v)) o)) f,
  )

  members_stand : (whole rest : Members) → get k d ≡ Some (object whole)
      → ((l : Text) (v : Data) → member_of l rest ≡ Some v → (u : Data) × (member_of l whole ≡ Some u))
      → AllByRecursion (StandsIn d) (members_below k rest)
  members_stand whole no_members e found = tt
  members_stand whole (member l v rest) e found =
      let here = found l v (found_first l v rest) in
      if_schema d (is_schema v) (to_member k ∷ to_member l ∷ []) (members_below k rest) (member_stands whole l here.0 e here.1)
      (members_stand whole rest e (λ m w f. let later = found_later m l v w rest f in found m later.0 later.1))

  item_stands : (whole : Items) (i : ℕ) (v : Data) → get k d ≡ Some (array whole) → item_of i whole ≡ Some v
      → StandsIn d (to_member k ∷ to_item i ∷ [])
  item_stands whole i v e f = (
    to_member k,
    to_item i ∷ [],
    v,
    refl,
    after_it k (to_item i ∷ []) d (array whole) e
        ∙ ap (λ (o : Option Data). option_and_then (subject_from []) (option_and_then (λ v. Some (a_value v)) o)) f,
  )

  items_stand : (whole : Items) (i : ℕ) (rest : Items) → get k d ≡ Some (array whole) → ((n : ℕ) → item_of (i + n) whole ≡ item_of n rest)
      → AllByRecursion (StandsIn d) (items_below k i rest)
  items_stand whole i no_items e found = tt
  items_stand whole i (item v rest) e found =
      let same : i + 0 ≡ i = omega arith in
      if_schema d (is_schema v) (to_member k ∷ to_item i ∷ []) (items_below k (i + 1) rest)
      (item_stands whole i v e (ap (λ (n : ℕ). item_of n whole) (sym same) ∙ found 0))
      (items_stand whole (i + 1) rest e (λ n. let more : (i + 1) + n ≡ i + suc n = omega arith in ap (λ (m : ℕ). item_of m whole) more
      ∙ found (suc n)))

  in_object : (o : Option Data) → get k d ≡ o → AllByRecursion (StandsIn d) (below_object k o)
  in_object None e = tt
  in_object (Some (object ms)) e = members_stand ms ms e (λ l v f. (v, f))
  in_object (Some null) e = tt
  in_object (Some (boolean b)) e = tt
  in_object (Some (number n)) e = tt
  in_object (Some (string s)) e = tt
  in_object (Some (array ds)) e = tt

  in_list : (o : Option Data) → get k d ≡ o → AllByRecursion (StandsIn d) (below_list k o)
  in_list None e = tt
  in_list (Some (array ds)) e = items_stand ds 0 ds e (λ n. let same : 0 + n ≡ n = omega arith in ap (λ (m : ℕ). item_of m ds) same)
  in_list (Some null) e = tt
  in_list (Some (boolean b)) e = tt
  in_list (Some (number n)) e = tt
  in_list (Some (string s)) e = tt
  in_list (Some (object ms)) e = tt

  in_value : (o : Option Data) → get k d ≡ o → AllByRecursion (StandsIn d) (below_value k o)
  in_value None e = tt
  in_value (Some v) e = if_schema d (is_schema v) (to_member k ∷ []) [] (to_member k, [], v, refl, after_it k [] d v e) tt

all_stand : (rule : Rule) (draft : Draft) (d : Data) → AllByRecursion (StandsIn d) (subschemas rule draft d)
all_stand rule draft d =
    let objects = flat_map (λ k. below_object k (get k d)) (names_of_objects rule draft) in
    let lists = flat_map (λ k. below_list k (get k d)) (names_of_lists rule draft) in
    let values = flat_map (λ k. below_value k (get k d)) (names_of_values rule draft) in
    appended d (objects ++ lists) values
    (appended d objects lists (of_names d _ (λ k. in_object k d (get k d) refl) (names_of_objects rule draft))
    (of_names d _ (λ k. in_list k d (get k d) refl) (names_of_lists rule draft)))
    (of_names d _ (λ k. in_value k d (get k d) refl) (names_of_values rule draft))

-- ---- the law

data-is : (o : Option Subject) (d : Data) → data_of o ≡ Some d → o ≡ Some (a_value d)
data-is None d h = cc
data-is (Some (a_value e)) d h = let same : e ≡ d = cc in ap (λ x. Some (a_value x)) same
data-is (Some (a_name k)) d h = cc

value_below : (o : Option Document) (p : SchemaPlace) (path : Place) (outer there : Data) → value_of o p ≡ Some outer
    → subject_at outer path ≡ Some (a_value there) → value_of o (at_path p path) ≡ Some there
value_below None p path outer there h e = absurd (let no_data : ⊥ = cc in no_data)
value_below (Some d) p path outer there h e =
    ap data_of (from_append p.path path (a_value d.value)
    ∙ ap (λ (o : Option Subject). option_and_then (subject_from path) o) (data-is (subject_at d.value p.path) outer h) ∙ e)

module _ (r : HeldDocuments) (p : SchemaPlace) where
  placed : (d : Data) → value_in (documents_of r) p ≡ Some d → (ps : List Place) → AllByRecursion (StandsIn d) ps
      → AllByRecursion (StandsBelow (document_resolving r) p) (map (at_path p) ps)
  placed d e [] h = tt
  placed d e (path ∷ ps) h =
      let one = h.0 in (
        (one.0, one.1, one.2, ap (at_path p) one.3, value_below (slice_get (documents_of r) p.document) p path d one.2 e one.4),
        placed d e ps h.1,
      )

  below_it : (draft : Draft) (o : Option Data) → value_in (documents_of r) p ≡ o
      → AllByRecursion (StandsBelow (document_resolving r) p) (map (at_path p) (subschemas_of r.rule draft o))
  below_it draft None e = tt
  below_it draft (Some d) e = placed d e (subschemas r.rule draft d) (all_stand r.rule draft d)

pub subschemas_stand_below : (r : HeldDocuments) → SubschemasStandBelow (document_resolving r)
subschemas_stand_below r = λ draft p. below_it r p draft (value_in (documents_of r) p) refl

-- ---- subschemas with their values

module _ (r : HeldDocuments) (p : SchemaPlace) where
  values_there : (d : Data) → value_in (documents_of r) p ≡ Some d → (ps : List Place) → AllByRecursion (StandsIn d) ps
      → map (placed_at p) (map (found_at d) ps) ≡ map (placed_in (document_resolving r)) (map (at_path p) ps)
  values_there d e [] h = refl
  values_there d e (path ∷ ps) h =
      let one = h.0 in
      let there = value_below (slice_get (documents_of r) p.document) p path d one.2 e one.4 in
      let same : data_of (subject_at d path) ≡ value_in (documents_of r) (at_path p path) = ap data_of one.4 ∙ sym there in
      ap (λ (v : Option Data). let first : Placed = record { place = at_path p path; value = v } in first
      ∷ map (placed_at p) (map (found_at d) ps)) same
      ∙ ap (λ (qs : List Placed). placed_in (document_resolving r) (at_path p path) ∷ qs) (values_there d e ps h.1)

  -- the subschemas that are found in a schema are the values at their places
  pub found_there : (draft : Draft) (d : Data) → value_in (documents_of r) p ≡ Some d
      → map (placed_at p) (map (found_at d) (subschemas r.rule draft d))
      ≡ map (placed_in (document_resolving r)) (map (at_path p) (subschemas r.rule draft d))
  found_there draft d e = values_there d e (subschemas r.rule draft d) (all_stand r.rule draft d)
