-- A map that holds what compiles of the document's objects and booleans holds all that compiles.
use Rattle.std.proofs.Common.{◌≡◌, ◌∙◌, ◌∷◌, [], Bool, true, false, List, inl, ap, append-nil, refl, subst, sym}
use Rattle.std.specs.Prelude.{Contains, IsTrue, MatchOption, None, Option, Some, flat_map, is_some, option_map, unwrap_or}
use Rattle.std.proofs.lemmas.Option.{MatchOption-at_some}
use Rattle.serde_json.specs.Data.{Data, array, boolean, null, number, object, string}
use Rattle.theory_definitions.specs.Drafts.{SchemaPlace, at_path}
use Rattle.theory_definitions.specs.Instance.{Place, Text, a_value, subject_at}
use Rattle.theory_meaning.specs.MapPointers.{EntryCompiles, IsCompiled, StandsBelow, entry_key, is_schema, stands_in}
use Rattle.theory_definitions.specs.Parts.{Parts}
use Rattle.theory_definitions.specs.Plan.{Edge, Key, inside, ok_of, schema_of}
use Rattle.theory_definitions.specs.Pointer.{pointer_to}
use Rattle.theory_meaning.specs.Reach.{at_first}
use Rattle.theory_meaning.specs.Refusals.{Cause, not_a_schema, schema_causes, undeclared}
use Rattle.schema_traits.specs.ResolverViews.{IsInside}
use Rattle.schema_keys.specs.Compiling.{Each, In}
use Rattle.schema_compiler.proofs.Compiled.{stands_but}
use Rattle.schema_keys.proofs.Lists.{contains_of, each_in}
use Rattle.schema_keys.specs.DocumentSchemas.{IndicesFit, schemas_of}
use Rattle.schema_validator.specs.Entries.{HoldsPlaces, IsCompiledAlone, IsEntry, IsLeftOut}
use Rattle.schema_validator.specs.Handed.{Handed, Options, parts_of}
use Rattle.schema_validator.specs.MapViews.{Entries, at_pointer}
use Rattle.schema_validator.specs.Mapped.{HoldsCompiled, HoldsEach, IsNameOfCompiled, IsValidatorOf, OfEach, name_of}
use Rattle.schema_compiled.specs.Program.{Program}
use Rattle.schema_validator.specs.Roots.{IsRootKey}
use Rattle.schema_keys.proofs.DocumentPlaces.{document_schema}
use Rattle.schema_keys.proofs.PlaceNames.{one_place}
use Rattle.schema_validator.proofs.RootKeys.{one_root_key, some_is}

module _ {S K R : Type 0} (w : Parts S K R) where
  -- if there is no cause to refuse a key, its value is an object or a boolean
  is_schema_there : (key : Key S) → ((cause : Cause) → ¬ (StandsBelow w key cause)) → is_schema w (schema_of w key) ≡ true
  is_schema_there key none = go (schema_of w key) refl
    where
      neither : (d : Data) → schema_of w key ≡ d → schema_causes w key d ≡ not_a_schema key.location ∷ [] → ⊥
      neither d e are = none (not_a_schema key.location) (stands_in key at_first
          (subst (λ (cs : List Cause). Contains cs (not_a_schema key.location)) (sym (ap (schema_causes w key) e ∙ are)) (contains_of (not_a_schema key.location ∷ []) (not_a_schema key.location) (inl refl))))

      go : (d : Data) → schema_of w key ≡ d → is_schema w d ≡ true
      go null e = absurd (neither null e refl)
      go (boolean b) e = refl
      go (number n) e = absurd (neither (number n) e refl)
      go (string s) e = absurd (neither (string s) e refl)
      go (array ds) e = absurd (neither (array ds) e refl)
      go (object ms) e = refl

  module _ (root : Key S) where
    -- an entry is at its path below the root
    entry_place : (path : Place) (key : Key S) → entry_key w root path ≡ Some key → key.target.place ≡ at_path root.target.place path
    entry_place [] key e = ap (λ (k : Key S). k.target.place) (sym (some_is (Some root) root key refl e)) ∙ ap (λ (q : Place). let p : SchemaPlace = record { document = root.target.place.document; path = q } in p) (sym (append-nil root.target.place.path))
    entry_place (s ∷ path) key e =
        let place = at_path root.target.place (s ∷ path) in
        let draft = w.resolver.detect root.target.draft (unwrap_or (w.resolver.value place) null) in
        go (ok_of (w.resolver.in_subresource root.target.state draft place)) e
      where
        go : (o : Option S) → option_map (λ (edge : Edge S). record edge.key { location = []; base = []; start = 0 })
            (option_map (λ (state : S). record { key = inside w root (s ∷ path) state (w.resolver.detect root.target.draft (unwrap_or (w.resolver.value (at_path root.target.place (s ∷ path))) null)); path = pointer_to (s ∷ path); is_reference = false; is_recursive = false }) o) ≡ Some key
            → key.target.place ≡ at_path root.target.place (s ∷ path)
        go None q = absurd (let no : ⊥ = cc in no)
        go (Some state) q = ap (λ (k : Key S). k.target.place) (sym (some_is _ _ key refl q))

    -- if the root's own vocabularies are declared, the root compiles as a subschema does
    entry_compiles : flat_map (undeclared w) root.target.vocabularies ≡ [] → (path : Place) (key : Key S) → entry_key w root path ≡ Some key → ((cause : Cause) → ¬ (StandsBelow w key cause)) → EntryCompiles w path key
    entry_compiles declared [] key e none = λ cause stands. none cause (stands_but w (subst (λ (k : Key S). flat_map (undeclared w) k.target.vocabularies ≡ []) (some_is (Some root) root key refl e) declared) stands)
    entry_compiles declared (s ∷ path) key e none = none

    -- what compiles is in the document
    record StandsIn (path : Place) : Type 0 where
      document : Data
      value : Data
      is_document : w.resolver.value root.target.place ≡ Some document
      stands : subject_at document path ≡ Some (a_value value)
      is_schema_there : is_schema w value ≡ true

    stands_in_document : IsInside w.resolver → (path : Place) → IsCompiled w root path → StandsIn path
    stands_in_document law path c = go (w.resolver.value (at_path root.target.place path)) refl (ap (λ (p : SchemaPlace). is_schema w (unwrap_or (w.resolver.value p) null)) (sym (entry_place path c.key c.is_key)) ∙ c.schema)
      where
        go : (v : Option Data) → w.resolver.value (at_path root.target.place path) ≡ v → is_schema w (unwrap_or v null) ≡ true → StandsIn path
        go None e is = absurd (let no : ⊥ = cc in no)
        go (Some inner) e is = let outer = law root.target.place path inner e in record { document = outer.0; value = inner; is_document = outer.1; stands = outer.2; is_schema_there = is }

    -- so it is listed
    listed : IsInside w.resolver → (path : Place) → IsCompiled w root path → (o : Option Data) → w.resolver.value root.target.place ≡ o → In (schemas_of o) path
    listed law path c o document =
        let there = stands_in_document law path c in
        subst (λ (d : Option Data). In (schemas_of d) path) (sym there.is_document ∙ document) (document_schema w there.document there.value [] path there.stands there.is_schema_there)

    -- two that compile are the same if they have the same pointer
    one_compiled : IsInside w.resolver → (p q : Place) → IsCompiled w root p → IsCompiled w root q → IndicesFit p → IndicesFit q → pointer_to p ≡ pointer_to q → p ≡ q
    one_compiled law p q c d fit fit' e =
        let there = stands_in_document law p c in
        let other = stands_in_document law q d in
        let same : other.document ≡ there.document = some_is (w.resolver.value root.target.place) other.document there.document other.is_document there.is_document in
        one_place there.document there.value other.value p q fit fit' there.stands (subst (λ (x : Data). subject_at x q ≡ Some (a_value other.value)) same other.stands) e

module _ {S K R C M : Type 0} (h : Handed S K R C M) (options : Options) (schema : Data) (root : Key S) where
  abbrev w : Bool → Parts S K R
  w texts = parts_of h.resolver h.table h.matcher (h.words texts) options

  module _ (law : IsInside h.resolver) (is_root : (texts : Bool) → IsRootKey (w texts) schema root) (declared : (texts : Bool) → flat_map (undeclared (w texts)) root.target.vocabularies ≡ [])
      (document : Option Data) (stands : h.resolver.value root.target.place ≡ document) (m : Entries (Program C M)) (held : HoldsPlaces h options schema root (schemas_of document) m) where
    abbrev entry_at : (texts : Bool) (path : Place) (p : Program C M) → IsEntry h options schema root path p → IsCompiled (w texts) root path
    entry_at texts path p e = record {
      key = e.0;
      is_key = e.1 texts;
      schema = is_schema_there (w texts) e.0 (e.2.compiles texts);
      compiles = entry_compiles (w texts) root (declared texts) path e.0 (e.1 texts) (e.2.compiles texts);
    }

    abbrev Holds : Text → Option (Program C M) → Type 0
    Holds name o = MatchOption o (Each (λ path. name ≡ name_of path → IsLeftOut h options root path) (schemas_of document)) (λ p. (path : Place) × (name ≡ name_of path) × IsEntry h options schema root path p)

    pub holds_compiled : HoldsCompiled h options schema m
    holds_compiled name = (named (at_pointer m name) (held name), there (at_pointer m name) (held name))
      where
        named : (o : Option (Program C M)) → Holds name o → IsTrue (is_some o) → IsNameOfCompiled h options schema name
        named None e is = absurd (let no : ⊥ = cc in no)
        named (Some p) e is = λ texts other is_other.
            subst (λ (k : Key S). (path : Place) × (name ≡ name_of path) × IsCompiled (w texts) k path) (one_root_key (w texts) schema root other (is_root texts) is_other) (e.0, e.1, entry_at texts e.0 p e.2)

        there : (o : Option (Program C M)) → Holds name o → IsNameOfCompiled h options schema name → IsTrue (is_some o)
        there None out n =
            let c = n true root (is_root true) in
            absurd (each_in (λ (path : Place). name ≡ name_of path → IsLeftOut h options root path) (schemas_of document) c.0 out (listed (w true) root law c.0 c.2 document stands) c.1 true c.2)
        there (Some p) e n = refl

    pub of_each : (fact : Key S → Program C M → Type 0) → ((key : Key S) (p : Program C M) → IsCompiledAlone h options schema key p → fact key p) → OfEach h options schema m fact
    of_each fact gives = λ texts other is_other name p at.
        let e = MatchOption-at_some _ _ p at (held name) in
        subst (λ (k : Key S). (path : Place) × (c : IsCompiled (w texts) k path) × (name ≡ name_of path) × fact c.key p) (one_root_key (w texts) schema root other (is_root texts) is_other)
        (e.0, entry_at texts e.0 p e.2, e.1, gives e.2.0 p e.2.2)

    -- what compiles has its own validator under its own name
    pub holds_each : Each IndicesFit (schemas_of document) → ((key : Key S) (p : Program C M) → IsCompiledAlone h options schema key p → IsValidatorOf h options schema key p) → HoldsEach h options schema m
    holds_each fit gives = λ texts other is_other. subst (λ (k : Key S). (path : Place) (c : IsCompiled (w texts) k path) → (p : Program C M) × (at_pointer m (name_of path) ≡ Some p) × IsValidatorOf h options schema c.key p)
        (one_root_key (w texts) schema root other (is_root texts) is_other) (λ path c. go texts path c (at_pointer m (name_of path)) refl (held (name_of path)))
      where
        fits : (texts : Bool) (path : Place) → IsCompiled (w texts) root path → IndicesFit path
        fits texts path c = each_in IndicesFit (schemas_of document) path fit (listed (w texts) root law path c document stands)

        go : (texts : Bool) (path : Place) (c : IsCompiled (w texts) root path) (o : Option (Program C M)) → at_pointer m (name_of path) ≡ o → Holds (name_of path) o
            → (p : Program C M) × (at_pointer m (name_of path) ≡ Some p) × IsValidatorOf h options schema c.key p
        go texts path c None e out = absurd (each_in (λ (q : Place). name_of path ≡ name_of q → IsLeftOut h options root q) (schemas_of document) path out (listed (w texts) root law path c document stands) refl texts c)
        go texts path c (Some p) e found =
            let d = entry_at texts found.0 p found.2 in
            let pointers : pointer_to path ≡ pointer_to found.0 = let named : name_of path ≡ name_of found.0 = found.1 in cc in
            let same : path ≡ found.0 = one_compiled (w texts) root law path found.0 c d (fits texts path c) (fits texts found.0 d) pointers in
            let one_key : found.2.0 ≡ c.key = some_is (entry_key (w texts) root path) found.2.0 c.key (ap (entry_key (w texts) root) same ∙ found.2.1 texts) c.is_key in
            (p, e, subst (λ (k : Key S). IsValidatorOf h options schema k p) one_key (gives found.2.0 p found.2.2))
