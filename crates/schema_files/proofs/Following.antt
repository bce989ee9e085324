-- References that are followed, one after the other.
use Rattle.std.proofs.Common.{◌≡◌, ◌∙◌, ◌<◌, ◌≤◌, ◌+◌, ◌++◌, ◌∷◌, ◌||◌, [], ℕ, Bool, List, None, ap, append-nil, append_assoc, arith, bytes_eq, false, get_or, length, map, refl, subst, sym, take, true}
use Rattle.std.specs.Prelude.{IsSome, flat_map}
use Rattle.std.specs.List.{AllByRecursion}
use Rattle.std.proofs.lemmas.List.{map-append, take-append-le, take_all, take_more}
use Rattle.std.proofs.lemmas.List.Folds.{list_any-append}
use Rattle.std.proofs.lemmas.Grind.{flat_map-append}
use Rattle.std.proofs.lemmas.Slice.Eq.{bytes_eq-Decides}
use Rattle.theory_definitions.specs.Drafts.{Draft}
use Rattle.theory_definitions.specs.Instance.{Text}
use Rattle.schema_files.specs.FileUris.{path_of_uri}
use Rattle.schema_files.specs.Gathering.{LeadsAmong, is_among, supplied_references}
use Rattle.schema_files.specs.GatheringViews.{Follows, Lead, LeadOn, file_references, supplied_of, uri_of}
use Rattle.schema_files.specs.ReferenceViews.{reference_of}
use Rattle.schema_files.specs.References as spec
use Rattle.schema_files.specs.declared.gathering.LinkedFile.{LinkedFile}
use Rattle.schema_files.specs.declared.gathering.Supplied.{Supplied}
use Rattle.schema_files.specs.declared.references.Reference.{Reference}

or_first : (a b : Bool) → a ≡ true → (a || b) ≡ true
or_first a b h = rw h refl

or_second : (a b : Bool) → b ≡ true → (a || b) ≡ true
or_second true b h = refl
or_second false b h = h

pub among_first : (uri : Text) (us vs : List Text) → is_among uri us ≡ true → is_among uri (us ++ vs) ≡ true
among_first uri us vs h = list_any-append _ us vs ∙ or_first (is_among uri us) (is_among uri vs) h

pub among_second : (uri : Text) (us vs : List Text) → is_among uri vs ≡ true → is_among uri (us ++ vs) ≡ true
among_second uri us vs h = list_any-append _ us vs ∙ or_second (is_among uri us) (is_among uri vs) h

itself : (uri : Text) → is_among uri (uri ∷ []) ≡ true
itself uri = or_first (bytes_eq uri uri) false ((bytes_eq-Decides uri uri).1 refl)

-- ---- one reference

pub stays : (taken : List Text) (files : List LinkedFile) (r : spec.Reference) → LeadsAmong (taken ++ map uri_of files) r
    → Follows taken files files (r ∷ [])
stays taken files r leads = record { more = []; grows = sym (append-nil files); lead = (leads, tt) }

pub is_taken : (taken : List Text) (files : List LinkedFile) (r : spec.Reference) → is_among r.uri taken ≡ true → Follows taken files files (r ∷ [])
is_taken taken files r there = stays taken files r (λ some. among_first r.uri taken (map uri_of files) there)

pub is_linked : (taken : List Text) (files : List LinkedFile) (r : spec.Reference) → is_among r.uri (map uri_of files) ≡ true
    → Follows taken files files (r ∷ [])
is_linked taken files r there = stays taken files r (λ some. among_second r.uri taken (map uri_of files) there)

pub no_file : (taken : List Text) (files : List LinkedFile) (r : spec.Reference) → path_of_uri r.uri ≡ None → Follows taken files files (r ∷ [])
no_file taken files r none = stays taken files r (λ some. let e : false ≡ true = subst IsSome none some in cc)

pub is_read : (taken : List Text) (old new : List LinkedFile) (file : LinkedFile) (r : spec.Reference) → new ≡ old ++ file ∷ [] → uri_of file ≡ r.uri
    → Follows taken old new (r ∷ [])
is_read taken old new file r is named =
    let all : map uri_of new ≡ map uri_of old ++ r.uri ∷ [] =
    ap (map uri_of) is ∙ map-append uri_of old (file ∷ []) ∙ ap (λ u. map uri_of old ++ u ∷ []) named in
    let there : is_among r.uri (taken ++ map uri_of new) ≡ true =
    among_second r.uri taken (map uri_of new)
    (ap (is_among r.uri) all ∙ among_second r.uri (map uri_of old) (r.uri ∷ []) (itself r.uri)) in
    record { more = file ∷ []; grows = is; lead = (λ some. there, tt) }

-- ---- more references

leads_later : (uris more : List Text) (r : spec.Reference) → LeadsAmong uris r → LeadsAmong (uris ++ more) r
leads_later uris more r leads = λ some. among_first r.uri uris more (leads some)

lead_later : (uris more : List Text) (rs : List spec.Reference) → AllByRecursion (LeadsAmong uris) rs → AllByRecursion (LeadsAmong (uris ++ more)) rs
lead_later uris more [] h = tt
lead_later uris more (r ∷ rs) h = (leads_later uris more r h.0, lead_later uris more rs h.1)

pub grown : (taken : List Text) (old new more : List LinkedFile) (rs : List spec.Reference) → new ≡ old ++ more → Lead taken old rs → Lead taken new rs
grown taken old new more rs is h =
    let all : (taken ++ map uri_of old) ++ map uri_of more ≡ taken ++ map uri_of new =
    append_assoc taken (map uri_of old) (map uri_of more) ∙ ap (λ us. taken ++ us) (sym (ap (map uri_of) is ∙ map-append uri_of old more)) in
    subst (λ (us : List Text). AllByRecursion (LeadsAmong us) rs) all (lead_later (taken ++ map uri_of old) (map uri_of more) rs h)

all_both : (P : spec.Reference → Type 0) (xs ys : List spec.Reference) → AllByRecursion P xs → AllByRecursion P ys → AllByRecursion P (xs ++ ys)
all_both P [] ys h k = k
all_both P (x ∷ xs) ys h k = (h.0, all_both P xs ys h.1 k)

pub starts : (taken : List Text) (files : List LinkedFile) → Follows taken files files []
starts taken files = record { more = []; grows = sym (append-nil files); lead = tt }

pub joins : (taken : List Text) (first old new : List LinkedFile) (rs ss : List spec.Reference) → Follows taken first old rs → Follows taken old new ss
    → Follows taken first new (rs ++ ss)
joins taken first old new rs ss a b = record {
  more = a.more ++ b.more;
  grows = b.grows ∙ ap (λ fs. fs ++ b.more) a.grows ∙ append_assoc first a.more b.more;
  lead = all_both (LeadsAmong (taken ++ map uri_of new)) rs ss (grown taken old new b.more rs b.grows a.lead) b.lead;
}

-- a turn of a loop over references
pub turn : (taken : List Text) (first old new : List LinkedFile) (references : List Reference) (i : ℕ) (r : Reference) → i < length references
    → r ≡ get_or references i r → Follows taken first old (map reference_of (take i references)) → Follows taken old new (reference_of r ∷ [])
    → Follows taken first new (map reference_of (take (i + 1) references))
turn taken first old new references i r within is a b =
    let all : map reference_of (take (i + 1) references) ≡ map reference_of (take i references) ++ reference_of r ∷ [] =
    ap (map reference_of) (take_more references i r within ∙ ap (λ (x : Reference). take i references ++ x ∷ []) (sym is))
    ∙ map-append reference_of (take i references) (r ∷ []) in
    subst (Follows taken first new) (sym all) (joins taken first old new (map reference_of (take i references)) (reference_of r ∷ []) a b)

pub turned : (taken : List Text) (first now : List LinkedFile) (references : List Reference) (i : ℕ) → length references ≤ i
    → Follows taken first now (map reference_of (take i references)) → Follows taken first now (map reference_of references)
turned taken first now references i past h = subst (λ (rs : List Reference). Follows taken first now (map reference_of rs)) (take_all i references past) h

-- ---- files, and documents at hand

-- the files at the front stay when more are added
front_stays : (old more : List LinkedFile) (i : ℕ) → i ≤ length old → take i (old ++ more) ≡ take i old
front_stays old more i within = take-append-le i old more within

module _ (taken : List Text) (draft : Draft) where
  -- a turn of the loop over the files
  pub next_file : (first old new : List LinkedFile) (i : ℕ) (file : LinkedFile) (rs : List spec.Reference) → i < length old → file ≡ get_or old i file
      → rs ≡ file_references draft file → Follows taken first old (flat_map (file_references draft) (take i old)) → Follows taken old new rs
      → Follows taken first new (flat_map (file_references draft) (take (i + 1) new))
  next_file first old new i file rs within is read a b =
      let front : take (i + 1) new ≡ take i old ++ file ∷ [] =
      ap (take (i + 1)) b.grows ∙ front_stays old b.more (i + 1) (omega arith) ∙ take_more old i file within
      ∙ ap (λ (x : LinkedFile). take i old ++ x ∷ []) (sym is) in
      let all : flat_map (file_references draft) (take (i + 1) new) ≡ flat_map (file_references draft) (take i old) ++ rs =
      ap (flat_map (file_references draft)) front ∙ flat_map-append (file_references draft) (take i old) (file ∷ [])
      ∙ ap (λ us. flat_map (file_references draft) (take i old) ++ us) (append-nil (file_references draft file) ∙ sym read) in
      subst (Follows taken first new) (sym all) (joins taken first old new (flat_map (file_references draft) (take i old)) rs a b)

  pub last_file : (first now : List LinkedFile) (i : ℕ) → length now ≤ i → Follows taken first now (flat_map (file_references draft) (take i now))
      → Follows taken first now (flat_map (file_references draft) now)
  last_file first now i past h =
      subst (λ (fs : List LinkedFile). Follows taken first now (flat_map (file_references draft) fs)) (take_all i now past) h

  -- a turn of the loop over the documents at hand
  pub next_document : (old new : List LinkedFile) (documents : List Supplied) (i : ℕ) (d : Supplied) → i < length documents → d ≡ get_or documents i d
      → Lead taken old (flat_map (supplied_references draft) (map supplied_of (take i documents)))
      → Follows taken old new (supplied_references draft (supplied_of d))
      → Lead taken new (flat_map (supplied_references draft) (map supplied_of (take (i + 1) documents)))
  next_document old new documents i d within is a b =
      let front : map supplied_of (take (i + 1) documents) ≡ map supplied_of (take i documents) ++ supplied_of d ∷ [] =
      ap (map supplied_of) (take_more documents i d within ∙ ap (λ (x : Supplied). take i documents ++ x ∷ []) (sym is))
      ∙ map-append supplied_of (take i documents) (d ∷ []) in
      let before = map supplied_of (take i documents) in
      let all : flat_map (supplied_references draft) (map supplied_of (take (i + 1) documents))
      ≡ flat_map (supplied_references draft) before ++ supplied_references draft (supplied_of d) =
      ap (flat_map (supplied_references draft)) front ∙ flat_map-append (supplied_references draft) before (supplied_of d ∷ [])
      ∙ ap (λ us. flat_map (supplied_references draft) before ++ us) (append-nil (supplied_references draft (supplied_of d))) in
      subst (Lead taken new) (sym all)
      (all_both (LeadsAmong (taken ++ map uri_of new)) (flat_map (supplied_references draft) before) (supplied_references draft (supplied_of d))
      (grown taken old new b.more (flat_map (supplied_references draft) before) b.grows a) b.lead)

  pub all_lead : (old new : List LinkedFile) (documents : List Supplied) (i : ℕ) → length documents ≤ i
      → Lead taken old (flat_map (supplied_references draft) (map supplied_of (take i documents)))
      → Follows taken old new (flat_map (file_references draft) new)
      → LeadOn taken draft (map supplied_of documents) new
  all_lead old new documents i past a b = record {
    documents = grown taken old new b.more (flat_map (supplied_references draft) (map supplied_of documents)) b.grows
        (subst (λ (ds : List Supplied). Lead taken old (flat_map (supplied_references draft) (map supplied_of ds))) (take_all i documents past) a);
    files_too = b.lead;
  }
