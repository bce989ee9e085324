-- Lists of resources, as more are added.
use Rattle.std.proofs.Common.{◌≡◌, ◌<◌, ◌≤◌, ℕ, zero, suc, ◌+◌, Bool, true, false, cond, List, [], ◌∷◌, ◌++◌, get_or, length, map, take}
use Rattle.std.proofs.Common.{refl, ap, sym, ◌∙◌, arith, append_assoc, append-nil, subst}
use Rattle.std.specs.Prelude.{IsSome, Some, flat_map, is_some, slice_get}
use Rattle.std.proofs.lemmas.List.{flat_map_more, get_or-map, length-map, length-take-le, map-append, map_more, take-map, take_all}
use Rattle.std.proofs.lemmas.Slice.Eq.{bytes_eq-Decides}
use Rattle.theory_definitions.specs.Instance.{Text}
use Rattle.standard_subschemas.specs.SubschemaRules.{without_fragment}
use Rattle.standard_subschemas.specs.DocumentKeys.{number_in}
use Rattle.standard_resolver.specs.ResolverAnswers.{entrance, entrance_at}
use Rattle.standard_resolver.specs.Dialects.{Reading}
use Rattle.standard_resolver.specs.ResolverDocuments.{Document}
use Rattle.standard_resolver.specs.DocumentResources.{Resource, document_resource, document_resources, embedded, embedded_resources, number_of}
use Rattle.standard_resolver.specs.DocumentResources.{normal_resource, resource_key, resources_of, whole_document, with_resource, with_resources}
use Rattle.standard_resolver.specs.ResourcesGathered.{Adds, list_of}
use Rattle.standard_resolver.specs.declared.resources.Gathered.{Gathered}
use Rattle.standard_subschemas.proofs.Numbered.{number-append}
use Rattle.standard_subschemas.proofs.PointerTexts.{no_fragment_left}

pub with_resources-append : (xs ys listed : List Resource) → with_resources (with_resources listed xs) ys
    ≡ with_resources listed (xs ++ ys)
with_resources-append [] ys listed = refl
with_resources-append (x ∷ xs) ys listed = with_resources-append xs ys (with_resource listed x)

-- ---- the gathered resources

pub adds_both : (xs ys : List Resource) (a b c : Gathered) → Adds xs a b → Adds ys b c → Adds (xs ++ ys) a c
adds_both xs ys a b c first second = λ found.
    let h = first found in
    let k = second h.1 in
    (k.0 ∙ ap (λ l. with_resources l ys) h.0 ∙ with_resources-append xs ys (list_of a), k.1)

-- ---- the resources in documents, with one document more

pub documents-append : (reading : Reading) (n : ℕ) (ds : List Document) (d : Document)
    → document_resources reading n (ds ++ d ∷ []) ≡ document_resources reading n ds ++ whole_document reading (n + length ds) d
documents-append reading n [] d = let e : n ≡ n + 0 = omega arith in append-nil (whole_document reading n d)
    ∙ ap (λ m. whole_document reading m d) e
documents-append reading n (x ∷ ds) d = let e : n + 1 + length ds ≡ n + suc (length ds) = omega arith in
    ap (λ l. whole_document reading n x ++ l) (documents-append reading (n + 1) ds d
    ∙ ap (λ m. document_resources reading (n + 1) ds ++ whole_document reading m d) e)
    ∙ sym (append_assoc (whole_document reading n x) (document_resources reading (n + 1) ds)
    (whole_document reading (n + suc (length ds)) d))

pub embedded-append : (reading : Reading) (n : ℕ) (ds : List Document) (d : Document)
    → embedded_resources reading n (ds ++ d ∷ []) ≡ embedded_resources reading n ds ++ embedded reading (n + length ds) d
embedded-append reading n [] d = let e : n ≡ n + 0 = omega arith in append-nil (embedded reading n d)
    ∙ ap (λ m. embedded reading m d) e
embedded-append reading n (x ∷ ds) d = let e : n + 1 + length ds ≡ n + suc (length ds) = omega arith in
    ap (λ l. embedded reading n x ++ l) (embedded-append reading (n + 1) ds d
    ∙ ap (λ m. embedded_resources reading (n + 1) ds ++ embedded reading m d) e)
    ∙ sym (append_assoc (embedded reading n x) (embedded_resources reading (n + 1) ds) (embedded reading (n + suc (length ds)) d))

-- ---- a resource that is found keeps its number

pub record Stays (uri : Text) (n : ℕ) (r : Resource) (listed : List Resource) : Type 0 where
  pub number : number_of uri listed ≡ Some n
  pub there : slice_get listed n ≡ Some r

get-append : {A : Type 0} (xs : List A) (n : ℕ) (x y : A) → slice_get xs n ≡ Some x → slice_get (xs ++ y ∷ []) n ≡ Some x
get-append [] n x y e = absurd (let no : ⊥ = cc in no)
get-append (z ∷ xs) zero x y e = e
get-append (z ∷ xs) (suc n) x y e = get-append xs n x y e

stays_one : (uri : Text) (n : ℕ) (r : Resource) (listed : List Resource) (x : Resource) → Stays uri n r listed
    → Stays uri n r (with_resource listed x)
stays_one uri n r listed x h = go (is_some (number_of x.uri listed)) where
  more : number_of uri (listed ++ x ∷ []) ≡ Some n
  more = ap (number_in uri) (map-append resource_key listed (x ∷ [])) ∙ number-append (map resource_key listed) (resource_key x) uri
      ∙ rw h.number refl

  go : (b : Bool) → Stays uri n r (cond b listed (listed ++ x ∷ []))
  go true = h
  go false = record { number = more; there = get-append listed n r x h.there }

pub stays : (xs : List Resource) (uri : Text) (n : ℕ) (r : Resource) (listed : List Resource) → Stays uri n r listed
    → Stays uri n r (with_resources listed xs)
stays [] uri n r listed h = h
stays (x ∷ xs) uri n r listed h = stays xs uri n r (with_resource listed x) (stays_one uri n r listed x h)

pub first_stays : (r : Resource) → Stays r.uri 0 r (r ∷ [])
first_stays r = record { number = rw ((bytes_eq-Decides r.uri r.uri).1 refl) refl; there = refl }

is_entered : (listed : List Resource) (n : ℕ) (r : Resource) → slice_get listed n ≡ Some r → IsSome (entrance_at listed (Some n))
is_entered listed n r e = rw (e, entrance_at) refl

-- the first document is found under its URI
pub root_found : (reading : Reading) (d : Document) (ds : List Document)
    → IsSome (entrance (resources_of reading (d ∷ ds)) (without_fragment d.uri))
root_found reading d ds =
    subst (λ u. IsSome (entrance_at (resources_of reading (d ∷ ds)) (number_of u (resources_of reading (d ∷ ds)))))
    (sym (no_fragment_left d.uri))
    (subst (λ o. IsSome (entrance_at (resources_of reading (d ∷ ds)) o)) (sym h.number)
    (is_entered (resources_of reading (d ∷ ds)) 0 (document_resource reading 0 d) h.there)) where
      h : Stays (without_fragment d.uri) 0 (document_resource reading 0 d) (resources_of reading (d ∷ ds))
      h = stays (embedded_resources reading 0 (d ∷ ds)) _ 0 (document_resource reading 0 d) _
          (stays (normal_resource reading 0 d ++ document_resources reading 1 ds) _ 0 (document_resource reading 0 d) _
          (first_stays (document_resource reading 0 d)))

-- ---- turns of the code

-- the resources that one more schema adds
pub one_more : {A B C : Type 0} (f : B → List C) (g : A → B) (xs : List A) (i : ℕ) (x : A) → i < length xs → x ≡ get_or xs i x
    → flat_map f (map g (take i xs)) ++ f (g x) ≡ flat_map f (map g (take (i + 1) xs))
one_more f g xs i x less at = flat_map_more f [] (map g (take i xs)) (g x)
    ∙ ap (λ y. flat_map f (map g (take i xs) ++ g y ∷ [])) at ∙ sym (ap (flat_map f) (map_more g xs i x less))

-- the resources that one more document adds
pub other_taken : {A B C : Type 0} (f : A → B) (g : B → C) (xs : List A) (i : ℕ) (x : A) → i < length xs → x ≡ get_or xs i x
    → take (i + 1) (map g (map f xs)) ≡ take i (map g (map f xs)) ++ g (f x) ∷ []
other_taken f g xs i x less at =
    let small : i < length (map f xs) = omega (arith, length-map xs f) in
    take-map g (i + 1) (map f xs) ∙ map_more g (map f xs) i (f x) small
    ∙ ap (λ ys. ys ++ g (get_or (map f xs) i (f x)) ∷ []) (sym (take-map g i (map f xs)))
    ∙ ap (λ y. take i (map g (map f xs)) ++ g y ∷ []) (get_or-map f xs i x (f x) less ∙ ap f (sym at))

taken_length : {A B C : Type 0} (f : A → B) (g : B → C) (xs : List A) (i : ℕ) → i < length xs → length (take i (map g (map f xs))) ≡ i
taken_length f g xs i less = length-take-le i (map g (map f xs)) (omega (arith, length-map xs f, length-map (map f xs) g))

all_taken : {A B C : Type 0} (f : A → B) (g : B → C) (xs : List A) (i : ℕ) → length xs ≤ i → take i (map g (map f xs)) ≡ map g (map f xs)
all_taken f g xs i l = take_all i (map g (map f xs)) (omega (arith, length-map xs f, length-map (map f xs) g))

module _ {A B : Type 0} (reading : Reading) (first : Document) (f : A → B) (g : B → Document) (xs : List A) (i : ℕ)
    (old new : Gathered) where
  -- the first documents after the root
  abbrev some_of : ℕ → List Document
  some_of n = first ∷ take n (map g (map f xs))

  module _ (later : Gathered) (x : A) (less : i < length xs) (at : x ≡ get_or xs i x) where
    taken : some_of (i + 1) ≡ some_of i ++ g (f x) ∷ []
    taken = ap (λ ds. first ∷ ds) (other_taken f g xs i x less at)

    number : i + 1 ≡ 0 + length (some_of i)
    number = omega (arith, taken_length f g xs i less)

    pub next_document : Adds (document_resources reading 0 (some_of i)) old new
        → Adds (whole_document reading (i + 1) (g (f x))) new later
        → Adds (document_resources reading 0 (some_of (i + 1))) old later
    next_document so_far added = subst (λ rs. Adds rs old later)
        (ap (λ m. document_resources reading 0 (some_of i) ++ whole_document reading m (g (f x))) number
        ∙ sym (documents-append reading 0 (some_of i) (g (f x))) ∙ ap (document_resources reading 0) (sym taken))
        (adds_both (document_resources reading 0 (some_of i)) (whole_document reading (i + 1) (g (f x))) old new later so_far added)

    pub next_embedded : Adds (embedded_resources reading 0 (some_of i)) old new → Adds (embedded reading (i + 1) (g (f x))) new later
        → Adds (embedded_resources reading 0 (some_of (i + 1))) old later
    next_embedded so_far added = subst (λ rs. Adds rs old later)
        (ap (λ m. embedded_resources reading 0 (some_of i) ++ embedded reading m (g (f x))) number
        ∙ sym (embedded-append reading 0 (some_of i) (g (f x))) ∙ ap (embedded_resources reading 0) (sym taken))
        (adds_both (embedded_resources reading 0 (some_of i)) (embedded reading (i + 1) (g (f x))) old new later so_far added)

  pub all_documents : length xs ≤ i → Adds (document_resources reading 0 (some_of i)) old new
      → Adds (document_resources reading 0 (first ∷ map g (map f xs))) old new
  all_documents l = subst (λ ds. Adds (document_resources reading 0 (first ∷ ds)) old new) (all_taken f g xs i l)

  pub all_embedded : length xs ≤ i → Adds (embedded_resources reading 0 (some_of i)) old new
      → Adds (embedded_resources reading 0 (first ∷ map g (map f xs))) old new
  all_embedded l = subst (λ ds. Adds (embedded_resources reading 0 (first ∷ ds)) old new) (all_taken f g xs i l)

-- the resources of the root document only
pub only_first : (rs : List Resource) (old new : Gathered) → Adds rs old new → Adds (rs ++ []) old new
only_first rs old new = subst (λ qs. Adds qs old new) (sym (append-nil rs))
