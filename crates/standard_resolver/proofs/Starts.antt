-- A target lies in the resource of the innermost subschema with an identifier on its path.
use Rattle.std.proofs.Common.{◌≡◌, ◌∙◌, ◌+◌, ◌-◌, ◌==◌, ◌&&◌, ◌++◌, ◌∷◌, [], ℕ, zero, suc, List, Bool, true, false, cond, Option, Some}
use Rattle.std.proofs.Common.{None, Result, Ok, Err, length, map, option_map, refl, sym, ap, subst, take, append-nil, append_assoc, arith}
use Rattle.std.proofs.Common.{eq-eqb, true≢false}
use Rattle.std.specs.Prelude.{flat_map, is_some, option_and_then, slice_get}
use Rattle.std.specs.List.{AllByRecursion, slice_split}
use Rattle.std.specs.Str.Lossy.{utf8_lossy}
use Rattle.std.proofs.lemmas.List.{take-append-le, take_all, length-append}
use Rattle.std.proofs.lemmas.Bool.{eqb-true}
use Rattle.std.proofs.lemmas.List.Sums.{sum_by-cons}
use Rattle.std.proofs.lemmas.List.Splits.{length-slice_split}
use Rattle.std.proofs.lemmas.Option.{slice_get-map}
use Rattle.std.proofs.lemmas.Slice.Eq.{bytes_eq-Decides}
use Rattle.percent_encoding.specs.Percent.{percent_decode}
use Rattle.serde_json.specs.Data.{Data}
use Rattle.theory_definitions.specs.Instance.{Place, Step, Text, a_value, after_step, same_place}
use Rattle.schema_reports.specs.SamePlaces.{places_equiv}
use Rattle.theory_definitions.specs.Drafts.{Draft, SchemaPlace, same_schema_place}
use Rattle.theory_definitions.specs.Resolving.{Found, Resolver}
use Rattle.theory_definitions.specs.Parts.{Parts}
use Rattle.theory_definitions.specs.Plan.{lies_in, segment_count, segments_length}
use Rattle.theory_meaning.proofs.SameRun.{place_is}
use Rattle.standard_subschemas.specs.declared.rules.Rule.{Rule}
use Rattle.standard_subschemas.specs.declared.rules.Rule.TheVariants.{Narrow, Standard}
use Rattle.standard_subschemas.specs.SubschemaRules.{data_of, fragment_of, identifier, without_fragment}
use Rattle.standard_resolver.specs.Dialects.{Reading, detected, is_refused, root_dialect}
use Rattle.standard_resolver.specs.ResolverDocuments.{HeldDocuments, Document, documents_of, value_in}
use Rattle.standard_subschemas.specs.DocumentKeys.{has_text, number_in}
use Rattle.standard_subschemas.specs.DocumentPointers.{is_read, path_by_pointer, path_named, path_of_pointer, step_named}
use Rattle.standard_subschemas.specs.DocumentUris.{own_uri, resolve_uri, root_base}
use Rattle.standard_resolver.specs.DocumentResources.{Resource, Table, Visited, base_in, document_resources, embedded, embedded_resources}
use Rattle.standard_resolver.specs.DocumentResources.{identified as resources_at, identified_by, identified_root, normal_by, number_of}
use Rattle.standard_resolver.specs.DocumentResources.{place_of_resource, resource_if, resource_key, resources_of, root_visited, uri_at, walked}
use Rattle.standard_resolver.specs.DocumentResources.{with_resource, with_resources}
use Rattle.standard_resolver.specs.DocumentStates.{Point, enter, entered_by, entered_if_known, entered_inner, no_identified, number_if_at, resource_under, root_of, state_outside}
use Rattle.standard_resolver.specs.DocumentLookups.{arrived, is_subschema, target_by_path, target_by_pointer, target_in, target_of_uri}
use Rattle.standard_resolver.specs.DocumentLookups.{target_under}
use Rattle.standard_resolver.specs.ResolverAnswers.{document_resolving, reading_in, table_of}
use Rattle.standard_resolver.specs.ResolverStart.{BasesStand, NarrowBasesStand, StartsAtInnermost, innermost, innermost_along, innermost_in}
use Rattle.standard_resolver.specs.ResolverStart.{innermost_under}
use Rattle.standard_resolver.proofs.Arrivals.{arrives_inside, arrives_nowhere, arrives_past, arrives_refused}

-- ---- the element with a number

is_text : (t : Text) (k : Option Text) → has_text t k ≡ true → k ≡ Some t
is_text t None h = absurd (true≢false (sym h))
is_text t (Some u) h = ap (λ x. Some x) (sym ((bytes_eq-Decides t u).0 h))

text_at : (t : Text) (ks : List (Option Text)) (n : ℕ) → number_in t ks ≡ Some n → slice_get ks n ≡ Some (Some t)
text_at t [] n h = absurd (let no : ⊥ = cc in no)
text_at t (k ∷ ks) n h = go (has_text t k) refl (number_in t ks) (text_at t ks) n h where
  go : (b : Bool) → has_text t k ≡ b → (o : Option ℕ) → ((m : ℕ) → o ≡ Some m → slice_get ks m ≡ Some (Some t)) → (m : ℕ)
      → cond b (Some zero) (option_map (λ i. suc i) o) ≡ Some m → slice_get (k ∷ ks) m ≡ Some (Some t)
  go true e o ih zero h = ap (λ x. Some x) (is_text t k e)
  go true e o ih (suc m) h = absurd (let no : 0 ≡ suc m = cc in omega arith)
  go false e None ih m h = absurd (let no : ⊥ = cc in no)
  go false e (Some i) ih zero h = absurd (let no : suc i ≡ 0 = cc in omega arith)
  go false e (Some i) ih (suc m) h = let same : suc i ≡ suc m = cc in let less : i ≡ m = omega arith in ih m (ap (λ x. Some x) less)

-- what is not refused
not_refused : {A : Type 0} (b : Bool) (text : Text) (r : Result A Text) (x : A) → cond b (Err text) r ≡ Ok x → r ≡ Ok x
not_refused true text r x h = absurd (let no : ⊥ = cc in no)
not_refused false text r x h = h

module _ (table : Table) where
  named_uri : (uri : Text) (n : ℕ) (x : Resource) → number_of uri table.resources ≡ Some n → slice_get table.resources n ≡ Some x → x.uri
      ≡ uri
  named_uri uri n x number there =
      let key : Some (Some x.uri)
      ≡ Some (Some uri) = sym (slice_get-map resource_key table.resources n ∙ ap (option_map resource_key) there)
      ∙ text_at uri (map resource_key table.resources) n number in cc

  -- the state in a resource is that resource's
  found_root : (uri : Text) (n : ℕ) (x : Resource) (s : Point) → number_of uri table.resources ≡ Some n → slice_get table.resources n
      ≡ Some x → root_of table (enter n uri s) ≡ place_of_resource x
  found_root uri n x s number there = rw (number, there, root_of) refl

  -- ---- the entered resource begins at the place

  same_schema : (a b : SchemaPlace) → same_schema_place a b ≡ true → a ≡ b
  same_schema a b e = go (a.document == b.document) refl e where
    go : (v : Bool) → (a.document == b.document) ≡ v → (v && same_place a.path b.path) ≡ true → a ≡ b
    go true same e = ap (λ (n : ℕ). let p : SchemaPlace = record { document = n; path = a.path } in p)
        (eqb-true a.document b.document same)
        ∙ ap (λ (q : Place). let p : SchemaPlace = record { document = b.document; path = q } in p) (place_is a.path b.path e)
    go false same e = absurd (true≢false (sym e))

  abbrev state_where : Text → Text → Point → Option ℕ → Result Point Text
  state_where id uri s o = elim o [ None ↦ Err (no_identified id) | Some n ↦ Ok (enter n uri s) ]

  module _ (p : SchemaPlace) (id uri : Text) (s inside : Point) where
    by_place : (n : ℕ) (x : Resource) → number_of uri table.resources ≡ Some n → slice_get table.resources n ≡ Some x → (b : Bool)
        → same_schema_place (place_of_resource x) p ≡ b
        → state_where id uri s (cond b (Some n) None) ≡ Ok inside → root_of table inside ≡ p
    by_place n x number there true is h = let same : enter n uri s ≡ inside = cc in
        subst (λ q. root_of table q ≡ p) same (found_root uri n x s number there ∙ same_schema (place_of_resource x) p is)
    by_place n x number there false is h = absurd (let no : ⊥ = cc in no)

    by_resource : (n : ℕ) → number_of uri table.resources ≡ Some n → (o : Option Resource) → slice_get table.resources n ≡ o
        → state_where id uri s (elim o [ None ↦ None | Some x ↦ cond (same_schema_place (place_of_resource x) p) (Some n) None ])
        ≡ Ok inside → root_of table inside ≡ p
    by_resource n number None there h = absurd (let no : ⊥ = cc in no)
    by_resource n number (Some x) there h = by_place n x number there (same_schema_place (place_of_resource x) p) refl h

    by_number : (o : Option ℕ) → number_of uri table.resources ≡ o → state_where id uri s (option_and_then (number_if_at table p) o)
        ≡ Ok inside → root_of table inside ≡ p
    by_number None number h = absurd (let no : ⊥ = cc in no)
    by_number (Some n) number h = by_resource n number (slice_get table.resources n) refl h

  by_uri : (p : SchemaPlace) (id : Text) (s inside : Point) (o : Option Text) → entered_by table p id s o ≡ Ok inside
      → root_of table inside ≡ p
  by_uri p id s inside None h = absurd (let no : ⊥ = cc in no)
  by_uri p id s inside (Some uri) h = by_number p id uri s inside (number_of uri table.resources) refl h

  by_identifier : (draft : Draft) (schema : Data) (p outside : SchemaPlace) (before s inside : Point) (o : Option Text)
      → root_of table s ≡ outside
      → elim o as (λ _. Result Point Text) [
        | None ↦ Ok s
        | Some id ↦ entered_if_known table draft schema
            (entered_by table p id (state_outside table.reading.rule before s) (own_uri table.reading.rule s.base id))
      ] ≡ Ok inside
      → root_of table inside ≡ cond (is_some o) p outside
  by_identifier draft schema p outside before s inside None was h = let same : s ≡ inside = cc in
      subst (λ q. root_of table q ≡ outside) same was
  by_identifier draft schema p outside before s inside (Some id) was h =
      by_uri p id (state_outside table.reading.rule before s) inside (own_uri table.reading.rule s.base id)
      (not_refused (is_refused table.reading.rule draft) _ _ _ h)

-- ---- along a path below a resource's root

module _ (table : Table) (reference : Text) (document : ℕ) (before : Point) (root : Place) where
  abbrev pub at : Place → SchemaPlace
  at p = record { document = document; path = root ++ p }

  -- a target lies at a place below the root, in the resource that begins at an outer one
  pub record Lies (inner whole : Place) (f : Found Point) : Type 0 where
    pub place : f.place ≡ at whole
    pub resource : root_of table f.state ≡ at inner
    pub rest : Place
    pub within : whole ≡ inner ++ rest

  abbrev Along : Place → Type 0
  Along path = (draft : Draft) (schema : Data) (since : Place) (reached : Data) (gone last rest gone_in : Place) (s : Point)
      (f : Found Point)
      → gone ≡ last ++ rest → gone_in ≡ root ++ gone → root_of table s ≡ at last
      → arrived table reference document before draft schema since reached gone_in s path ≡ Ok f
      → Lies (innermost_along table.reading draft schema since reached gone last path) (gone ++ path) f

  longer : (gone step last rest : Place) → gone ≡ last ++ rest → gone ++ step ≡ last ++ (rest ++ step)
  longer gone step last rest e = ap (λ p. p ++ step) e ∙ append_assoc last rest step

  ended : Along []
  ended draft schema since reached gone last rest gone_in s f within same begins h =
      let found : Found Point =
      record { place = record { document = document; path = gone_in }; state = s; draft = detected table.reading draft reached } in
      let is : found ≡ f = cc in
      subst (Lies last (gone ++ [])) is (record {
        place = ap (λ (p : Place). let q : SchemaPlace = record { document = document; path = p } in q)
            (same ∙ ap (λ p. root ++ p) (sym (append-nil gone)));
        resource = begins;
        rest = rest;
        within = append-nil gone ∙ within;
      })

  module _ (step : Step) (path : Place) (ih : Along path) (draft : Draft) (schema : Data) (since : Place) (reached : Data)
      (gone last rest gone_in : Place) (s : Point) (f : Found Point)
      (within : gone ≡ last ++ rest) (same : gone_in ≡ root ++ gone) (begins : root_of table s ≡ at last)
      (h : arrived table reference document before draft schema since reached gone_in s (step ∷ path) ≡ Ok f) where
    abbrev Goal : Type 0
    Goal = Lies (innermost_along table.reading draft schema since reached gone last (step ∷ path)) (gone ++ step ∷ path) f

    next : gone_in ++ step ∷ [] ≡ root ++ (gone ++ step ∷ [])
    next = ap (λ p. p ++ step ∷ []) same ∙ append_assoc root gone (step ∷ [])

    whole : (gone ++ step ∷ []) ++ path ≡ gone ++ step ∷ path
    whole = append_assoc gone (step ∷ []) path

    module _ (below : Data) (stands : data_of (after_step step (a_value reached)) ≡ Some below) where
      past : is_subschema table.reading.rule draft (since ++ step ∷ []) schema ≡ false → Goal
      past e =
          let inner : innermost_along table.reading draft schema since reached gone last (step ∷ path)
          ≡ innermost_along table.reading draft schema (since ++ step ∷ []) below (gone ++ step ∷ []) last path =
          rw (stands, e, innermost_along) refl in
          let found = sym (arrives_past table reference document before draft schema since reached gone_in s step path below stands e) ∙ h in
          let lies = ih draft schema (since ++ step ∷ []) below (gone ++ step ∷ []) last (rest ++ step ∷ []) (gone_in ++ step ∷ []) s f
          (longer gone (step ∷ []) last rest within) next begins found in
          subst (λ p. Lies p (gone ++ step ∷ path) f) (sym inner)
          (subst (λ p. Lies (innermost_along table.reading draft schema (since ++ step ∷ []) below (gone ++ step ∷ []) last path) p f)
          whole lies)

      module _ (is : is_subschema table.reading.rule draft (since ++ step ∷ []) schema ≡ true) where
        abbrev here : SchemaPlace
        here = record { document = document; path = gone_in ++ step ∷ [] }

        abbrev identified : Bool
        identified = is_some (identifier (detected table.reading draft below) below)

        -- the last subschema with an identifier, and the path from there
        inside : (state : Point) → entered_inner table before s (detected table.reading draft below) here below ≡ Ok state → (b : Bool)
            → identified ≡ b → Goal
        inside state entered b was =
            let inner : innermost_along table.reading draft schema since reached gone last (step ∷ path)
            ≡ innermost_along table.reading (detected table.reading draft below) below
            [] below (gone ++ step ∷ []) (cond b (gone ++ step ∷ []) last) path
            = rw (stands, is, was, innermost_along) refl in
            let found = sym (arrives_inside table reference document before draft schema since reached gone_in s step path below stands state is
            entered) ∙ h in
            let from : root_of table state ≡ cond b here (at last) =
            by_identifier table (detected table.reading draft below) below here (at last) before s state
            (identifier (detected table.reading draft below) below) begins entered
            ∙ ap (λ v. cond v here (at last)) was in
            let go : (v : Bool) → root_of table state ≡ cond v here (at last)
            → Lies (innermost_along table.reading (detected table.reading draft below) below
            [] below (gone ++ step ∷ []) (cond v (gone ++ step ∷ []) last) path) ((gone ++ step ∷ []) ++ path) f
            = elim [
              | true ↦ λ e. ih (detected table.reading draft below) below [] below (gone ++ step ∷ []) (gone ++ step ∷ [])
                  [] (gone_in ++ step ∷ []) state f (sym (append-nil (gone ++ step ∷ []))) next
                  (e ∙ ap (λ (p : Place). let q : SchemaPlace = record { document = document; path = p } in q) next) found
              | false ↦ λ e. ih (detected table.reading draft below) below
                  [] below (gone ++ step ∷ []) last (rest ++ step ∷ []) (gone_in ++ step ∷ []) state f
                  (longer gone (step ∷ []) last rest within) next e found
            ] in
            subst (λ p. Lies p (gone ++ step ∷ path) f) (sym inner)
            (subst (λ p. Lies (innermost_along table.reading (detected table.reading draft below) below
            [] below (gone ++ step ∷ []) (cond b (gone ++ step ∷ []) last) path) p f) whole (go b from))

        subschema : (o : Result Point Text) → entered_inner table before s (detected table.reading draft below) here below ≡ o → Goal
        subschema (Ok state) e = inside state e identified refl
        subschema (Err text) e =
            absurd (let no = sym (arrives_refused table reference document before draft schema since reached gone_in s step path below stands text
            is e) ∙ h in let never : ⊥ = cc in never)

      either : (b : Bool) → is_subschema table.reading.rule draft (since ++ step ∷ []) schema ≡ b → Goal
      either false e = past e
      either true e = subschema e
          (entered_inner table before s (detected table.reading draft below) (record { document = document; path = gone_in ++ step ∷ [] }) below) refl

    one_step : (o : Option Data) → data_of (after_step step (a_value reached)) ≡ o → Goal
    one_step None e = absurd (let no = sym (arrives_nowhere table reference document before draft schema since reached gone_in s step path e)
        ∙ h in let never : ⊥ = cc in never)
    one_step (Some below) e = either below e (is_subschema table.reading.rule draft (since ++ step ∷ []) schema) refl

  along : (path : Place) → Along path
  along [] = ended
  along (step ∷ path) = λ draft schema since reached gone last rest gone_in s f within same begins h.
      one_step step path (along path) draft schema since reached gone last rest gone_in s f within same begins h
      (data_of (after_step step (a_value reached))) refl

  -- ---- the depth of the resource's root

  taken : (xs ys : Place) → take (length xs) (xs ++ ys) ≡ xs
  taken xs ys = take-append-le (length xs) xs ys (omega arith) ∙ take_all (length xs) xs (omega arith)

  pub lies_inside : (inner whole : Place) (f : Found Point) → Lies inner whole f → lies_in f.place (root_of table f.state) ≡ true
  lies_inside inner whole f h =
      let path : root ++ whole ≡ (root ++ inner) ++ h.rest = ap (λ p. root ++ p) h.within ∙ sym (append_assoc root inner h.rest) in
      let begin : take (length (root ++ inner)) (root ++ whole) ≡ root ++ inner = ap (take (length (root ++ inner))) path
      ∙ taken (root ++ inner) h.rest in
      rw (h.place, h.resource, eq-eqb document document refl, begin) (places_equiv.refl (root ++ inner))

  pub depth_is : (inner whole : Place) (f : Found Point) (segments : ℕ) → Lies inner whole f → segments ≡ length whole
      → cond (lies_in f.place (root_of table f.state)) (length (root_of table f.state).path - (length f.place.path - segments)) 0
      ≡ length inner
  depth_is inner whole f segments h count =
      rw (lies_inside inner whole f h, h.place, h.resource) (omega (arith, length-append root inner, length-append root whole))

-- ---- the segments of a pointer

abbrev Counted : List Text → Type 0
Counted ts = (d : Data) (path : Place) → path_named ts d ≡ Some path → length ts ≡ length path

module _ (t : Text) (ts : List Text) (ih : Counted ts) (d : Data) (path : Place) where
  last : (step : Step) (below : Data) (o : Option Place) → path_named ts below ≡ o → option_map (λ p. step ∷ p) o ≡ Some path
      → suc (length ts) ≡ length path
  last step below None is e = absurd (let no : ⊥ = cc in no)
  last step below (Some p) is e = let same : step ∷ p ≡ path = cc in ap (λ n. suc n) (ih below p is) ∙ ap length same

  further : (step : Step) (o : Option Data) → option_and_then (λ below. option_map (λ p. step ∷ p) (path_named ts below)) o ≡ Some path
      → suc (length ts) ≡ length path
  further step None e = absurd (let no : ⊥ = cc in no)
  further step (Some below) e = last step below (path_named ts below) refl e

  first : (o : Option Step)
      → option_and_then (λ step. option_and_then (λ below. option_map (λ p. step ∷ p) (path_named ts below))
      (data_of (after_step step (a_value d)))) o ≡ Some path → suc (length ts) ≡ length path
  first None e = absurd (let no : ⊥ = cc in no)
  first (Some step) e = further step (data_of (after_step step (a_value d))) e

named_count : (ts : List Text) → Counted ts
named_count [] d path h = let same : [] ≡ path = cc in ap length same
named_count (t ∷ ts) d path h = first t ts (named_count ts) d path (step_named t d) h

one_more : (n k m : ℕ) → k ≡ n + 1 → k ≡ m → 1 + n ≡ m
one_more n k m e f = omega arith

pointer_count : (pointer : Text) (d : Data) (path : Place) → path_of_pointer pointer d ≡ Some path → segment_count pointer ≡ length path
pointer_count [] d path h = let same : [] ≡ path = cc in ap length same
pointer_count (x ∷ xs) d path h = go (x == 47) refl h where
  go : (b : Bool) → (x == 47) ≡ b → cond b (path_named (slice_split (λ y. y == 47) xs) d) None ≡ Some path → segment_count (x ∷ xs)
      ≡ length path
  go true is e = sum_by-cons (λ y. cond (y == 47) 1 0) x xs ∙ ap (λ b. cond b 1 0 + segment_count xs) is
      ∙ one_more (segment_count xs) (length (slice_split (λ y. y == 47) xs)) (length path) (length-slice_split (λ y. y == 47) xs)
      (named_count (slice_split (λ y. y == 47) xs) d path e)
  go false is e = absurd (let no : ⊥ = cc in no)

-- a pointer that is read names the path that it names by any rule
read_path : (b : Bool) (o : Option Place) (path : Place) → cond b o None ≡ Some path → o ≡ Some path
read_path true o path e = e
read_path false o path e = absurd (let no : ⊥ = cc in no)

-- ---- a lookup by a pointer

module _ (r : HeldDocuments) (stand : BasesStand (table_of r)) (s : Point) (reference uri tail : Text) (dynamic : Bool)
    (f : Found Point) where
  abbrev table : Table
  table = table_of r

  abbrev pointer : Text
  pointer = utf8_lossy (percent_decode (47 ∷ tail))

  -- the pointer's part up to the root of a resource
  abbrev start_in : Resolver Point → ℕ
  start_in resolver = segments_length
      (cond (lies_in f.place (resolver.resource_root f.state))
      (length (resolver.resource_root f.state).path - (length f.place.path - segment_count pointer)) 0) pointer

  abbrev Starts : Type 0
  Starts = start_in (document_resolving r) ≡ segments_length (length (innermost_under r uri pointer)) pointer

  module _ (n : ℕ) (x : Resource) (number : number_of (without_fragment uri) table.resources ≡ Some n) (there : slice_get table.resources n
      ≡ Some x) where
    by_path : (schema : Data) → value_in (documents_of r) (place_of_resource x) ≡ Some schema → (o : Option Place)
        → path_by_pointer table.reading.rule pointer schema ≡ o
        → target_by_path table reference x s (enter n x.base s) schema o ≡ Ok f → Starts
    by_path schema stands None by h = absurd (let no : ⊥ = cc in no)
    by_path schema stands (Some path) by h =
        let is = read_path (is_read table.reading.rule pointer) (path_of_pointer pointer schema) path by in
        let inner = innermost_along table.reading x.draft schema [] schema [] [] path in
        let begin : root_of table (enter n x.base s) ≡ place_of_resource x
        = stand (without_fragment uri) n x s number there in
        let at_root : place_of_resource x ≡ record { document = x.document; path = x.path ++ [] }
        = ap (λ (p : Place). let q : SchemaPlace = record { document = x.document; path = p } in q) (sym (append-nil x.path)) in
        let lies = along table reference x.document s x.path path x.draft schema [] schema [] []
        [] x.path (enter n x.base s) f refl (sym (append-nil x.path)) (begin ∙ at_root) h in
        let depth = depth_is table reference x.document s x.path inner path f (segment_count pointer) lies
        (pointer_count pointer schema path is) in
        let known : resource_under table (without_fragment uri) ≡ Some x = ap (option_and_then (slice_get table.resources)) number
        ∙ there in
        let under : innermost_under r uri pointer
        ≡ inner = ap (λ (o : Option Resource). elim o as (λ _. Place) [ None ↦ [] | Some y ↦ innermost_in r pointer y ]) known
        ∙ ap (λ (o : Option Data). elim o as (λ _. Place)
        [ None ↦ [] | Some whole ↦ innermost (reading_in r) x.draft whole (path_of_pointer pointer whole) ]) stands
        ∙ ap (innermost (reading_in r) x.draft schema) is in
        ap (λ d. segments_length d pointer) (depth ∙ ap length (sym under))

    by_pointer : (o : Option Data) → value_in (documents_of r) (place_of_resource x) ≡ o
        → target_by_pointer table reference x s (enter n x.base s) (47 ∷ tail) o ≡ Ok f → Starts
    by_pointer None is h = absurd (let no : ⊥ = cc in no)
    by_pointer (Some schema) is h = by_path schema is (path_by_pointer table.reading.rule pointer schema) refl h

  in_resource : (n : ℕ) → number_of (without_fragment uri) table.resources ≡ Some n → (o : Option Resource) → slice_get table.resources n
      ≡ o
      → target_in table (documents_of r) reference uri s dynamic (47 ∷ tail) n o ≡ Ok f → Starts
  in_resource n number None there h = absurd (let no : ⊥ = cc in no)
  in_resource n number (Some x) there h = by_pointer n x number there (value_in (documents_of r) (place_of_resource x)) refl
      (not_refused (is_refused table.reading.rule x.draft) _ _ _ h)

  under_uri : (o : Option ℕ) → number_of (without_fragment uri) table.resources ≡ o
      → target_under table (documents_of r) reference uri s dynamic (47 ∷ tail) o ≡ Ok f → Starts
  under_uri None number h = absurd (let no : ⊥ = cc in no)
  under_uri (Some n) number h = in_resource n number (slice_get table.resources n) refl h

  pub starts_there : resolve_uri table.reading.rule s.base reference ≡ Ok uri → fragment_of uri ≡ 47 ∷ tail
      → (document_resolving r).lookup s reference dynamic ≡ Ok f → Starts
  starts_there stands_for by h =
      under_uri (number_of (without_fragment uri) table.resources) refl
      (subst (λ t. target_under table (documents_of r) reference uri s dynamic t (number_of (without_fragment uri) table.resources)
      ≡ Ok f) by
      (subst (λ o. target_of_uri table (documents_of r) reference s dynamic o ≡ Ok f) stands_for h))

pub starts : {K R : Type 0} (w : Parts Point K R) → StartsAtInnermost w
starts w r stand is s reference uri tail dynamic f stands_for by found =
    subst (λ (resolver : Resolver Point). start_in r stand s reference uri tail dynamic f resolver
    ≡ segments_length (length (innermost_under r uri (utf8_lossy (percent_decode (47 ∷ tail)))))
    (utf8_lossy (percent_decode (47 ∷ tail)))) (sym is)
    (starts_there r stand s reference uri tail dynamic f stands_for by found)

-- ---- by the narrow rule the base inside a resource is its URI

abbrev SameBase : Resource → Type 0
SameBase x = x.base ≡ x.uri

abbrev SameBases : List Resource → Type 0
SameBases = AllByRecursion SameBase

joined : (xs ys : List Resource) → SameBases xs → SameBases ys → SameBases (xs ++ ys)
joined [] ys h k = k
joined (x ∷ xs) ys h k = (h.0, joined xs ys h.1 k)

listed_with : (b : Bool) (x : Resource) (listed : List Resource) → SameBase x → SameBases listed
    → SameBases (cond b listed (listed ++ x ∷ []))
listed_with true x listed h k = k
listed_with false x listed h k = joined listed (x ∷ []) k (h, tt)

all_listed : (xs listed : List Resource) → SameBases xs → SameBases listed → SameBases (with_resources listed xs)
all_listed [] listed h k = k
all_listed (x ∷ xs) listed h k = all_listed xs (with_resource listed x) h.1 (listed_with (is_some (number_of x.uri listed)) x listed h.0 k)

module _ (reading : Reading) where
  if_identified : (n : ℕ) (v : Visited) (o : Option Text) → SameBases (resource_if reading n v o)
  if_identified n v None = tt
  if_identified n v (Some uri) = (refl, tt)

  all_identified : (n : ℕ) (vs : List Visited) → SameBases (flat_map (resources_at reading n) vs)
  all_identified n [] = tt
  all_identified n (v ∷ vs) = joined (resources_at reading n v) (flat_map (resources_at reading n) vs)
      (if_identified n v (uri_at reading.rule v)) (all_identified n vs)

  of_root : (rule : Rule) → rule ≡ Narrow → (n : ℕ) (v : Visited) → SameBases (identified_by rule reading n v)
  of_root Narrow e n v = tt
  of_root Standard e n v = absurd (let no : ⊥ = cc in no)

  of_normal : (rule : Rule) → rule ≡ Narrow → (n : ℕ) (d : Document) → SameBases (normal_by rule reading n d)
  of_normal Narrow e n d = tt
  of_normal Standard e n d = absurd (let no : ⊥ = cc in no)

  of_documents : reading.rule ≡ Narrow → (n : ℕ) (ds : List Document) → SameBases (document_resources reading n ds)
  of_documents e n [] = tt
  of_documents e n (d ∷ ds) = (
    ap (λ (rule : Rule). root_base rule d.uri (root_dialect reading n d.value).draft d.value) e,
    joined (normal_by reading.rule reading n d) (document_resources reading (n + 1) ds) (of_normal reading.rule e n d)
        (of_documents e (n + 1) ds),
  )

  of_embedded : reading.rule ≡ Narrow → (n : ℕ) (ds : List Document) → SameBases (embedded_resources reading n ds)
  of_embedded e n [] = tt
  of_embedded e n (d ∷ ds) =
      let inside = walked reading true [] (base_in reading n d) (root_dialect reading n d.value) d.value in
      joined (embedded reading n d) (embedded_resources reading (n + 1) ds)
      (joined (identified_root reading n (root_visited reading n d)) (flat_map (resources_at reading n) inside)
      (of_root reading.rule e n (root_visited reading n d)) (all_identified n inside)) (of_embedded e (n + 1) ds)

  same_bases : reading.rule ≡ Narrow → (ds : List Document) → SameBases (resources_of reading ds)
  same_bases e ds =
      all_listed (embedded_resources reading 0 ds) (with_resources [] (document_resources reading 0 ds)) (of_embedded e 0 ds)
      (all_listed (document_resources reading 0 ds) [] (of_documents e 0 ds) tt)

base_at : (xs : List Resource) (n : ℕ) (x : Resource) → SameBases xs → slice_get xs n ≡ Some x → SameBase x
base_at [] n x h e = absurd (let no : ⊥ = cc in no)
base_at (y ∷ xs) zero x h e = let same : y ≡ x = cc in subst SameBase same h.0
base_at (y ∷ xs) (suc n) x h e = base_at xs n x h.1 e

pub narrow_bases : NarrowBasesStand
narrow_bases r e uri n x s number there =
    let table = table_of r in
    let same = base_at table.resources n x (same_bases (reading_in r) e (documents_of r)) there in
    ap (λ u. root_of table (enter n u s)) (same ∙ named_uri table uri n x number there) ∙ found_root table uri n x s number there
