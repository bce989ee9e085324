-- Lists whose elements are found by a text, with one element more; and a resource whose URI an earlier
-- one has.
use Rattle.std.proofs.Common.{◌≡◌, ◌<◌, ◌+◌, ◌∙◌, ◌∷◌, ◌++◌, [], ℕ, List, ap, arith, cond, get_or, length, map, subst, sym, take, true}
use Rattle.std.specs.Prelude.{Option, is_some}
use Rattle.std.specs.HashMap.{get_by_text}
use Rattle.std.proofs.lemmas.List.{length-map, length-take-le, map-append, map_more}
use Rattle.theory_definitions.specs.Instance.{Text}
use Rattle.standard_subschemas.specs.DocumentKeys.{IsNumbered, NumbersNext}
use Rattle.standard_resolver.specs.DocumentResources.{Resource, number_of}
use Rattle.standard_resolver.specs.ResourcesGathered.{Adds, list_of}
use Rattle.standard_resolver.specs.declared.resources.Gathered.{Gathered}

module _ {A B : Type 0} (key : B → Option Text) (seen : A → B) (xs : List A) (i : ℕ) (x : A) (less : i < length xs)
    (at : x ≡ get_or xs i x) where
  next_keys : map key (map seen (take (i + 1) xs)) ≡ map key (map seen (take i xs)) ++ key (seen x) ∷ []
  next_keys = ap (map key) (map_more seen xs i x less) ∙ map-append key (map seen (take i xs)) (seen (get_or xs i x) ∷ [])
      ∙ ap (λ y. map key (map seen (take i xs)) ++ key (seen y) ∷ []) (sym at)

  keys_count : length (map key (map seen (take i xs))) ≡ i
  keys_count = omega (arith, length-map (map seen (take i xs)) key, length-map (take i xs) seen, length-take-le i xs (omega arith))

  pub numbered_next : (old new : Text → Option ℕ) (text : Option Text) → text ≡ key (seen x) → NumbersNext old new i text
      → IsNumbered (map key (map seen (take i xs))) old → IsNumbered (map key (map seen (take (i + 1) xs))) new
  numbered_next old new text is next so_far =
      let keys = map key (map seen (take i xs)) in
      subst (λ ks. IsNumbered ks new) (ap (λ t. keys ++ t ∷ []) is ∙ sym next_keys) (next keys so_far keys_count)

-- nothing is added
pub relisted : (x : Resource) (old : Gathered) (t : Text) → t ≡ x.uri → is_some (get_by_text old.numbers t) ≡ true → Adds (x ∷ []) old old
relisted x old t same has = λ found.
    let there : is_some (number_of x.uri (list_of old)) ≡ true = ap is_some (sym (found x.uri) ∙ ap (get_by_text old.numbers) (sym same))
    ∙ has in
    (sym (ap (λ b. cond b (list_of old) (list_of old ++ x ∷ [])) there), found)
