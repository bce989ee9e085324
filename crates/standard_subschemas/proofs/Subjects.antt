-- Values that the code reads, as subjects.
use Rattle.std.proofs.Common.{◌≡◌, Option, Some, None, option_map, refl}

pub map_then : {A B C : Type 0} (f : A → B) (g : B → C) (o : Option A) → option_map (λ a. g (f a)) o ≡ option_map g (option_map f o)
map_then f g None = refl
map_then f g (Some a) = refl
