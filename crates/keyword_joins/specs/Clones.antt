-- A clone of one of two is on the side of its source.
use Rattle.std.proofs.Common.{◌≡◌, ap}
use Rattle.keyword_joins.specs.Sides.{side_of}
use Rattle.keyword_joins.specs.declared.both.Both.{Both}
use Rattle.keyword_joins.specs.declared.both.Both.TheVariants.{First, Second}

abbrev pub AreClones : {A B : Type 0} → (A → A → Type 0) → (B → B → Type 0) → Both A B → Both A B → Type 0
AreClones one other (First x) (First y) = one x y
AreClones one other (First x) (Second y) = ⊥
AreClones one other (Second x) (First y) = ⊥
AreClones one other (Second x) (Second y) = other x y

-- a clone has the shape of its source, if that is so on each side
pub cloned_alike : {A B M N : Type 0} {one : A → A → Type 0} {other : B → B → Type 0} {shape_one : A → M} {shape_other : B → N}
    → ((x y : A) → one x y → shape_one y ≡ shape_one x) → ((x y : B) → other x y → shape_other y ≡ shape_other x)
    → (m n : Both A B) → AreClones one other m n → side_of shape_one shape_other n ≡ side_of shape_one shape_other m
cloned_alike alike_one alike_other (First x) (First y) h = ap First (alike_one x y h)
cloned_alike alike_one alike_other (First x) (Second y) h = absurd h
cloned_alike alike_one alike_other (Second x) (First y) h = absurd h
cloned_alike alike_one alike_other (Second x) (Second y) h = ap Second (alike_other x y h)
