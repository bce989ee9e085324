-- Lists that are concatenated.
use Rattle.std.proofs.Common.{◌≡◌, ◌∙◌, ◌++◌, [], List, map, ap, sym}
use Rattle.std.proofs.lemmas.List.{map-append}

pub parts : {A B : Type 0} (f : A → B) (a b c : List A) → (([] ++ map f a) ++ map f b) ++ map f c ≡ map f (a ++ b ++ c)
parts f a b c = ap (λ x. x ++ map f c) (sym (map-append f a b)) ∙ sym (map-append f (a ++ b) c)
