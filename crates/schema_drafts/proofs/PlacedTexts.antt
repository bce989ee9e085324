-- A text is inserted into the rest of a list, from an index on.
use Rattle.std.proofs.Common.{◌≡◌, ◌∙◌, ◌+◌, ◌<◌, ◌≤◌, ◌++◌, ℕ, suc, List, [], ◌∷◌, refl, ap, ap₂, sym, subst, add-one, append_assoc, drop, get_or, length, map, take}
use Rattle.std.proofs.Math.Seq.{drop-cons, drop-length, take-length}
use Rattle.std.proofs.lemmas.List.{drop_all, map-append, take-append-drop, take_all, take_more}
use Rattle.std.specs.Cmp.Lexicographic.{slice_cmp}
use Rattle.std.specs.Ordering.{nat_cmp}
use Rattle.std.specs.declared.cmp.Ordering.{Ordering}
use Rattle.std.specs.declared.cmp.Ordering.TheVariants.{Less, Equal, Greater}
use Rattle.theory_definitions.specs.Instance.{Text}
use Rattle.theory_definitions.specs.VocabularySets.{placed_by, placed_text}

module _ {X : Type 0} (f : X → Text) (text : Text) (xs : List X) where
  -- if it is inserted among those from the index on, it is inserted among all
  pub record PlacedFrom (i : ℕ) : Type 0 where
    pub is : placed_text text (map f xs) ≡ map f (take i xs) ++ placed_text text (map f (drop i xs))

  module _ (i : ℕ) (x : X) (within : i < length xs) (item : x ≡ get_or xs i x) where
    left : drop i xs ≡ (x ∷ drop (i + 1) xs)
    left = rw add-one (subst (λ (y : X). drop i xs ≡ (y ∷ drop (suc i) xs)) (sym item) (drop-cons xs i x within))

    one_of : (o : Ordering) → slice_cmp nat_cmp text (f x) ≡ o → PlacedFrom i
        → placed_text text (map f xs) ≡ map f (take i xs) ++ placed_by o text (f x) (map f (drop (i + 1) xs)) (placed_text text (map f (drop (i + 1) xs)))
    one_of o is from = from.is ∙ ap (λ (l : List X). map f (take i xs) ++ placed_text text (map f l)) left
        ∙ ap (λ (c : Ordering). map f (take i xs) ++ placed_by c text (f x) (map f (drop (i + 1) xs)) (placed_text text (map f (drop (i + 1) xs)))) is

    pub placed_here : slice_cmp nat_cmp text (f x) ≡ Less → PlacedFrom i → placed_text text (map f xs) ≡ map f (take i xs) ++ text ∷ map f (drop i xs)
    placed_here is from = one_of Less is from ∙ ap (λ (l : List X). map f (take i xs) ++ text ∷ map f l) (sym left)

    pub placed_one_of : slice_cmp nat_cmp text (f x) ≡ Equal → PlacedFrom i → placed_text text (map f xs) ≡ map f xs
    placed_one_of is from = one_of Equal is from
        ∙ ap (λ (l : List X). map f (take i xs) ++ map f l) (sym left)
        ∙ sym (map-append f (take i xs) (drop i xs))
        ∙ ap (map f) (take-append-drop i xs)

    one_more : map f (take (i + 1) xs) ≡ map f (take i xs) ++ f x ∷ []
    one_more = ap (map f) (take_more xs i x within ∙ ap (λ (y : X). take i xs ++ y ∷ []) (sym item)) ∙ map-append f (take i xs) (x ∷ [])

    pub placed_later : slice_cmp nat_cmp text (f x) ≡ Greater → PlacedFrom i → PlacedFrom (i + 1)
    placed_later is from = record {
      is = one_of Greater is from
          ∙ sym (append_assoc (map f (take i xs)) (f x ∷ []) (placed_text text (map f (drop (i + 1) xs))))
          ∙ ap (λ (l : List Text). l ++ placed_text text (map f (drop (i + 1) xs))) (sym one_more);
    }

  pub placed_first : PlacedFrom 0
  placed_first = record { is = refl }

  pub placed_last : (i : ℕ) → length xs ≤ i → PlacedFrom i → placed_text text (map f xs) ≡ map f (take (length xs) xs) ++ text ∷ map f (drop (length xs) xs)
  placed_last i past from = from.is ∙ ap₂ (λ (a b : List X). map f a ++ placed_text text (map f b)) (take_all i xs past) (drop_all i xs past)
      ∙ ap₂ (λ (a b : List X). map f a ++ text ∷ map f b) (sym (take-length xs)) (sym (drop-length xs))
