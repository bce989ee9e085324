-- The walk through a document goes down, and keeps the schemas that it looks for.
use Rattle.std.proofs.Common.{◌≡◌, ◌∙◌, ◌<◌, ◌≤◌, ◌+◌, ◌-◌, ℕ, zero, suc, Bool, true, false, List, [], ◌∷◌, ◌++◌, Option, cond, drop}
use Rattle.std.proofs.Common.{length, length-append, map, get_or, refl, sym, ap, subst, arith, append-nil, append_assoc, option_and_then}
use Rattle.std.proofs.Common.{take}
use Rattle.std.specs.Prelude.{None, Some, flat_map, is_some, option_map, ◌||◌}
use Rattle.std.specs.List.{filter}
use Rattle.std.proofs.lemmas.List.{drop_all, drop_more, flat_map_more}
use Rattle.std.proofs.lemmas.List.Elements.{filter-append}
use Rattle.serde_json.specs.Data.{Data, depth}
use Rattle.serde_json.specs.View.{view}
use Rattle.theory_definitions.specs.Drafts.{Draft}
use Rattle.theory_definitions.specs.Instance.{Place, Subject, Text, a_name, a_value, subject_at}
use Rattle.theory_meaning.proofs.Falls.{path_falls}
use Rattle.standard_subschemas.specs.declared.rules.Rule.{Rule}
use Rattle.standard_subschemas.specs.FragmentNames.{name_read}
use Rattle.standard_subschemas.specs.SubschemaRules.{data_of, dynamic_name, identifier, plain_name, subschemas}
use Rattle.standard_subschemas.specs.FoundSchemas.{Found, found_at}
use Rattle.standard_subschemas.specs.FoundViews.{found_of, path_of}
use Rattle.standard_subschemas.specs.PlainSchemas.{IsPlain}
use Rattle.standard_subschemas.specs.declared.below.FoundSchema.{FoundSchema}
use Rattle.standard_resolver.specs.Dialects.{Dialect, Reading, dialect_inside}
use Rattle.standard_resolver.specs.DocumentResources.{Visited, goes_into, identified, name_if, names_at, resource_if, visited_at, visited_below}
use Rattle.standard_resolver.specs.DocumentResources.{visited_if}
use Rattle.standard_resolver.specs.ResourceSpeaking.{kept_if, speaking, speaks}
use Rattle.standard_subschemas.specs.DocumentUris.{base_inside, own_uri}
use Rattle.standard_resolver.specs.OnWay.{pairs_below, singles_below}
use Rattle.standard_resolver.proofs.OnWay.{Long, long_pairs, long_singles}

-- the paths of subschemas have steps
abbrev pub HaveSteps : List Place → Type 0
HaveSteps [] = Unit {0}
HaveSteps (p ∷ ps) = (0 < length p) × HaveSteps ps

of_long : (n : ℕ) (ps : List Place) → Long (suc n) ps → HaveSteps ps
of_long n [] h = tt
of_long n (p ∷ ps) h = (omega (arith, h.0), of_long n ps h.1)

both : (ps qs : List Place) → HaveSteps ps → HaveSteps qs → HaveSteps (ps ++ qs)
both [] qs h k = k
both (p ∷ ps) qs h k = (h.0, both ps qs h.1 k)

pub subschemas_have : (rule : Rule) (draft : Draft) (d : Data) → HaveSteps (subschemas rule draft d)
subschemas_have rule draft d = both (pairs_below rule draft d) (singles_below rule draft d)
    (of_long 1 (pairs_below rule draft d) (long_pairs rule draft d)) (of_long 0 (singles_below rule draft d) (long_singles rule draft d))

pub lower : (schema below : Data) (p : Place) → 0 < length p → subject_at schema p ≡ Some (a_value below) → depth below < depth schema
lower schema below [] l h = absurd (omega arith)
lower schema below (s ∷ p) l h = let e : suc (depth below) < suc (depth schema) = path_falls s p (a_value schema) (a_value below) h in
    omega arith

-- ---- the schemas that the walk keeps

-- the schemas that are kept below the subschemas of a schema; the base is the one inside it
abbrev pub from : Reading → Bool → ℕ → Place → Text → Dialect → Found → List Visited
from reading everywhere n path base dialect f =
    filter (speaking reading.rule everywhere) (visited_at reading (visited_below reading everywhere n) everywhere (path ++ f.path) base dialect f.schema)

module _ {A B : Type 0} (p : B → Bool) (f : A → List B) where
  filter_flat : (xs : List A) → filter p (flat_map f xs) ≡ flat_map (λ x. filter p (f x)) xs
  filter_flat [] = refl
  filter_flat (x ∷ xs) = filter-append p (f x) (flat_map f xs) ∙ ap (λ ys. filter p (f x) ++ ys) (filter_flat xs)

kept_below : (reading : Reading) (everywhere : Bool) (n : ℕ) (path : Place) (base : Text) (dialect : Dialect) (schema : Data) (ps : List Place)
    → flat_map (from reading everywhere n path base dialect) (map (found_at schema) ps)
    ≡ flat_map (λ p. filter (speaking reading.rule everywhere)
    (visited_at reading (visited_below reading everywhere n) everywhere (path ++ p) base dialect (data_of (subject_at schema p)))) ps
kept_below reading everywhere n path base dialect schema [] = refl
kept_below reading everywhere n path base dialect schema (p ∷ ps) =
    ap (λ ys. from reading everywhere n path base dialect (found_at schema p) ++ ys) (kept_below reading everywhere n path base dialect schema ps)

-- ---- subschemas lie deeper

data_is : (o : Option Subject) (d : Data) → Some d ≡ data_of o → o ≡ Some (a_value d)
data_is None d e = absurd (let none : ⊥ = cc in none)
data_is (Some (a_value x)) d e = let same : x ≡ d = cc in ap (λ y. Some (a_value y)) same
data_is (Some (a_name k)) d e = absurd (let none : ⊥ = cc in none)

pub found_lower : (schema : Data) (items : List FoundSchema) (ps : List Place) (k : ℕ) (f : FoundSchema) → map found_of items
    ≡ map (found_at schema) ps → HaveSteps ps → k < length items
    → f ≡ get_or items k f → depth (view f.schema.now) < depth schema
found_lower schema [] ps k f e have l at = absurd (omega arith)
found_lower schema (x ∷ items) [] k f e have l at = absurd (let none : ⊥ = cc in none)
found_lower schema (x ∷ items) (p ∷ ps) zero f e have l at =
    let first : found_of x ≡ found_at schema p = cc in
    let there : Some (view x.schema.now) ≡ data_of (subject_at schema p) = ap (λ (g : Found). g.schema) first in
    subst (λ (g : FoundSchema). depth (view g.schema.now) < depth schema) (sym at)
    (lower schema (view x.schema.now) p have.0 (data_is _ _ there))
found_lower schema (x ∷ items) (p ∷ ps) (suc k) f e have l at =
    let rest : map found_of items ≡ map (found_at schema) ps = cc in
    found_lower schema items ps k f rest have.1 (omega arith) at

-- ---- a turn of the walk

pub next_found : (f : Found → List Visited) (items : List FoundSchema) (k : ℕ) (x : FoundSchema) → k < length items → x ≡ get_or items k x
    → flat_map f (map found_of (drop k items)) ≡ f (found_of x) ++ flat_map f (map found_of (drop (k + 1) items))
next_found f items k x l at = ap (λ (xs : List FoundSchema). flat_map f (map found_of xs)) (drop_more items k x l)
    ∙ ap (λ (y : FoundSchema). f (found_of y) ++ flat_map f (map found_of (drop (k + 1) items))) (sym at)

pub turned : {A : Type 0} (old new x rest next whole : List A) → old ++ rest ≡ whole → rest ≡ x ++ next → new ≡ old ++ x → new ++ next
    ≡ whole
turned old new x rest next whole so_far one_more added = ap (λ ys. ys ++ next) added ∙ append_assoc old x next
    ∙ ap (λ ys. old ++ ys) (sym one_more) ∙ so_far

kept_first : (rule : Rule) (everywhere b : Bool) (v : Visited) (rest : List Visited) → speaking rule everywhere v ≡ b
    → kept_if b v ++ filter (speaking rule everywhere) rest ≡ filter (speaking rule everywhere) (v ∷ rest)
kept_first rule everywhere true v rest e =
    ap (λ b. cond b (v ∷ filter (speaking rule everywhere) rest) (filter (speaking rule everywhere) rest)) (sym e)
kept_first rule everywhere false v rest e =
    ap (λ b. cond b (v ∷ filter (speaking rule everywhere) rest) (filter (speaking rule everywhere) rest)) (sym e)

-- the path, one step longer
pub way_more : (path : Place) (way : List FoundSchema) (f : FoundSchema) → path ++ flat_map path_of (way ++ f ∷ [])
    ≡ (path ++ flat_map path_of way) ++ path_of f
way_more path way f = sym (flat_map_more path_of path way f)

take_first : (way : List FoundSchema) (more : List FoundSchema) → take (length way) (way ++ more) ≡ way
take_first [] more = refl
take_first (w ∷ way) more = ap (λ (ws : List FoundSchema). w ∷ ws) (take_first way more)

-- and back
pub one_back : (way longer back : List FoundSchema) (f : FoundSchema) (n : ℕ) → n ≡ length longer → longer ≡ way ++ f ∷ [] → back
    ≡ take (n - 1) longer → back ≡ way
one_back way longer back f n count is rest =
    let e : n ≡ length way + 1 = count ∙ ap length is ∙ length-append way (f ∷ []) in
    let less : n - 1 ≡ length way = omega arith in
    rest ∙ ap (λ m. take m longer) less ∙ ap (take (length way)) is ∙ take_first way (f ∷ [])

module _ (reading : Reading) (everywhere : Bool) (n : ℕ) (path : Place) (base : Text) (dialect : Dialect) (below : Data) (q : Place) (d : Dialect)
    (is : d ≡ dialect_inside reading dialect below) where
  pub leaves : goes_into everywhere d.draft below ≡ false → from reading everywhere n path base dialect (record { path = q; schema = Some below })
      ≡ []
  leaves goes = ap (λ (d' : Dialect). filter (speaking reading.rule everywhere)
      (visited_if reading (visited_below reading everywhere n) (path ++ q) base d' below (goes_into everywhere d'.draft below))) (sym is)
      ∙ ap (λ b. filter (speaking reading.rule everywhere) (visited_if reading (visited_below reading everywhere n) (path ++ q) base d below b)) goes

  pub goes_on : (old kept new : List Visited) (at : Place) (inside : Text) → at ≡ path ++ q → inside ≡ base_inside reading.rule base d.draft below
      → goes_into everywhere d.draft below ≡ true
      → kept ≡ old ++ kept_if (speaks reading.rule everywhere d.draft below) (record { path = at; base = base; dialect = d; schema = below })
      → new ≡ kept ++ filter (speaking reading.rule everywhere) (visited_below reading everywhere n at inside d below)
      → new ≡ old ++ from reading everywhere n path base dialect (record { path = q; schema = Some below })
  goes_on old kept new at inside there based goes k m =
      let v : Visited = record { path = at; base = base; dialect = d; schema = below } in
      let rest = visited_below reading everywhere n at (base_inside reading.rule base d.draft below) d below in
      m ∙ ap (λ (t : Text). kept ++ filter (speaking reading.rule everywhere) (visited_below reading everywhere n at t d below)) based
      ∙ ap (λ (xs : List Visited). xs ++ filter (speaking reading.rule everywhere) rest) k
      ∙ append_assoc old (kept_if (speaks reading.rule everywhere d.draft below) v) (filter (speaking reading.rule everywhere) rest)
      ∙ ap (λ (xs : List Visited). old ++ xs) (
      kept_first reading.rule everywhere (speaks reading.rule everywhere d.draft below) v rest refl
      ∙ ap (λ (p : Place). filter (speaking reading.rule everywhere) (record { path = p; base = base; dialect = d; schema = below }
      ∷ visited_below reading everywhere n p (base_inside reading.rule base d.draft below) d below)) there
      ∙ ap (λ b. filter (speaking reading.rule everywhere) (visited_if reading (visited_below reading everywhere n) (path ++ q) base d below b))
      (sym goes)
      ∙ ap (λ (d' : Dialect). filter (speaking reading.rule everywhere)
      (visited_if reading (visited_below reading everywhere n) (path ++ q) base d' below (goes_into everywhere d'.draft below))) is
      )

-- a schema that does not concern the resolver adds nothing
module _ (reading : Reading) (everywhere : Bool) (path : Place) (base : Text) (dialect : Dialect) (below : Data) (plain : IsPlain reading.rule below) where
  quiet : (b : Bool) → speaks reading.rule b dialect.draft below ≡ false
  quiet true = ap is_some (plain.no_identifier dialect.draft)
  quiet false = ap (λ o. is_some o || is_some (dynamic_name reading.rule dialect.draft below)) (plain.no_name dialect.draft)
      ∙ ap is_some (plain.no_dynamic_name dialect.draft)

  nothing_deeper : (n : ℕ) (inside : Text) → visited_below reading everywhere n path inside dialect below ≡ []
  nothing_deeper zero inside = refl
  nothing_deeper (suc n) inside =
      ap (flat_map (λ p. visited_at reading (visited_below reading everywhere n) everywhere (path ++ p) inside dialect
      (data_of (subject_at below p)))) (plain.no_subschemas dialect.draft)

  nothing_if : (n : ℕ) (b : Bool)
      → filter (speaking reading.rule everywhere) (visited_if reading (visited_below reading everywhere n) path base dialect below b) ≡ []
  nothing_if n false = refl
  nothing_if n true =
      let v : Visited = record { path = path; base = base; dialect = dialect; schema = below } in
      let inside = base_inside reading.rule base dialect.draft below in
      let rest = filter (speaking reading.rule everywhere) (visited_below reading everywhere n path inside dialect below) in
      ap (λ b. cond b (v ∷ rest) rest) (quiet everywhere) ∙ ap (filter (speaking reading.rule everywhere)) (nothing_deeper n inside)

pub adds_nothing : (reading : Reading) (everywhere : Bool) (n : ℕ) (path : Place) (base : Text) (dialect : Dialect) (below : Data) (q : Place)
    → IsPlain reading.rule below
    → from reading everywhere n path base dialect (record { path = q; schema = Some below }) ≡ []
adds_nothing reading everywhere n path base dialect below q plain =
    nothing_if reading everywhere (path ++ q) base (dialect_inside reading dialect below) below plain n (goes_into everywhere (dialect_inside reading dialect below).draft below)

pub passed : {A : Type 0} (old none : List A) → none ≡ [] → old ≡ old ++ none
passed old none e = sym (append-nil old) ∙ ap (λ ys. old ++ ys) (sym e)

-- all of them
pub finished : (reading : Reading) (everywhere : Bool) (path : Place) (base : Text) (dialect : Dialect) (schema : Data) (items : List FoundSchema)
    (k : ℕ) (old new : List Visited)
    → map found_of items ≡ map (found_at schema) (subschemas reading.rule dialect.draft schema) → length items ≤ k
    → ((n : ℕ) → depth schema ≤ n → new ++ flat_map (from reading everywhere n path base dialect) (map found_of (drop k items)) ≡ old
    ++ flat_map (from reading everywhere n path base dialect) (map found_of items))
    → (n : ℕ) → depth schema < n → new ≡ old ++ filter (speaking reading.rule everywhere) (visited_below reading everywhere n path base dialect schema)
finished reading everywhere path base dialect schema items k old new paths l so_far zero less = absurd (omega arith)
finished reading everywhere path base dialect schema items k old new paths l so_far (suc n) less =
    let f = from reading everywhere n path base dialect in
    sym (append-nil new) ∙ ap (λ (xs : List FoundSchema). new ++ flat_map f (map found_of xs)) (sym (drop_all k items l))
    ∙ so_far n (omega arith) ∙ ap (λ (fs : List Found). old ++ flat_map f fs) paths
    ∙ ap (λ (vs : List Visited). old ++ vs) (
    kept_below reading everywhere n path base dialect schema (subschemas reading.rule dialect.draft schema)
    ∙ sym (filter_flat (speaking reading.rule everywhere)
    (λ p. visited_at reading (visited_below reading everywhere n) everywhere (path ++ p) base dialect (data_of (subject_at schema p)))
    (subschemas reading.rule dialect.draft schema))
    )

-- ---- the schemas that the walk skips add nothing

skips : {A B : Type 0} (p : A → Bool) (f : A → List B) → ((x : A) → p x ≡ false → f x ≡ []) → (xs : List A) → flat_map f (filter p xs)
    ≡ flat_map f xs
skips p f none [] = refl
skips p f none (x ∷ xs) = go (p x) refl (skips p f none xs)
  where
    go : (b : Bool) → p x ≡ b → flat_map f (filter p xs) ≡ flat_map f xs → flat_map f (cond b (x ∷ filter p xs) (filter p xs)) ≡ f x
        ++ flat_map f xs
    go true e rest = ap (λ ys. f x ++ ys) rest
    go false e rest = rest ∙ ap (λ ys. ys ++ flat_map f xs) (sym (none x e))

no_names : (v : Visited) (read : Text → Text) (a b : Option Text) → (is_some a || is_some b) ≡ false
    → name_if (option_map read a) false v ++ name_if b true v ≡ []
no_names v read None None e = refl
no_names v read None (Some y) e = absurd (let none : ⊥ = cc in none)
no_names v read (Some x) b e = absurd (let none : ⊥ = cc in none)

-- names are in the schemas that are kept
pub names_kept : (rule : Rule) (vs kept : List Visited) → kept ≡ filter (speaking rule false) vs → flat_map (names_at rule) vs
    ≡ flat_map (names_at rule) kept
names_kept rule vs kept e =
    sym (skips (speaking rule false) (names_at rule)
    (λ v. no_names v (name_read rule v.dialect.draft) (plain_name rule v.dialect.draft v.schema) (dynamic_name rule v.dialect.draft v.schema)) vs)
    ∙ ap (flat_map (names_at rule)) (sym e)

no_uri : (reading : Reading) (document : ℕ) (v : Visited) (o : Option Text) → is_some o ≡ false
    → resource_if reading document v (option_and_then (own_uri reading.rule v.base) o) ≡ []
no_uri reading document v None e = refl
no_uri reading document v (Some t) e = absurd (let none : ⊥ = cc in none)

-- resources begin with the schemas that are kept
pub resources_kept : (reading : Reading) (document : ℕ) (vs kept : List Visited) → kept ≡ filter (speaking reading.rule true) vs
    → flat_map (identified reading document) vs ≡ flat_map (identified reading document) kept
resources_kept reading document vs kept e =
    sym (skips (speaking reading.rule true) (identified reading document) (λ v. no_uri reading document v (identifier v.dialect.draft v.schema)) vs)
    ∙ ap (flat_map (identified reading document)) (sym e)
