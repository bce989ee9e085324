-- A URI that is not among those before it is new.
use Rattle.std.proofs.Common.{◌≡◌, ◌∙◌, ◌++◌, ◌∷◌, ◌||◌, [], Bool, List, ap, append-nil, append_assoc, bytes_eq, false, map, refl, subst, sym, true}
use Rattle.std.proofs.lemmas.List.{map-append}
use Rattle.theory_definitions.specs.Instance.{Text}
use Rattle.schema_files.specs.Gathering.{AreNew, is_among}
use Rattle.schema_files.specs.GatheringViews.{uri_of}
use Rattle.schema_files.specs.declared.gathering.LinkedFile.{LinkedFile}

either : (a b : Bool) → a ≡ false → b ≡ false → (a || b) ≡ false
either a b none nor = rw (none, nor) refl

or_false : (a b : Bool) → (a || b) ≡ false → (a ≡ false) × (b ≡ false)
or_false true b h = cc
or_false false b h = (refl, h)

none_of_both : (uri : Text) (us vs : List Text) → is_among uri us ≡ false → is_among uri vs ≡ false → is_among uri (us ++ vs) ≡ false
none_of_both uri [] vs none nor = nor
none_of_both uri (u ∷ us) vs none nor =
    let parts = or_false (bytes_eq u uri) (is_among uri us) none in
    either (bytes_eq u uri) (is_among uri (us ++ vs)) parts.0 (none_of_both uri us vs parts.1 nor)

pub one_more : (taken uris : List Text) (uri : Text) → AreNew taken uris → is_among uri (taken ++ uris) ≡ false → AreNew taken (uris ++ uri ∷ [])
one_more taken [] uri new none = (ap (is_among uri) (sym (append-nil taken)) ∙ none, tt)
one_more taken (u ∷ uris) uri new none =
    (new.0, one_more (taken ++ u ∷ []) uris uri new.1 (ap (is_among uri) (append_assoc taken (u ∷ []) uris) ∙ none))

pub added : (taken uris : List Text) (uri : Text) → AreNew taken uris → is_among uri taken ≡ false → is_among uri uris ≡ false
    → AreNew taken (uris ++ uri ∷ [])
added taken uris uri new untaken unlinked = one_more taken uris uri new (none_of_both uri taken uris untaken unlinked)

-- the same of the code's files
pub pushed : (taken : List Text) (old new : List LinkedFile) (file : LinkedFile) (uri : Text) → new ≡ old ++ file ∷ [] → uri_of file ≡ uri
    → is_among uri taken ≡ false → is_among uri (map uri_of old) ≡ false → AreNew taken (map uri_of old) → AreNew taken (map uri_of new)
pushed taken old new file uri is named untaken unlinked before =
    let all : map uri_of new ≡ map uri_of old ++ uri ∷ [] =
    ap (map uri_of) is ∙ map-append uri_of old (file ∷ []) ∙ ap (λ u. map uri_of old ++ u ∷ []) named in
    subst (AreNew taken) (sym all) (added taken (map uri_of old) uri before untaken unlinked)
