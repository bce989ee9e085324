-- What stands for the unit of a schema object, and one value more in a list that is seen as data.
use Rattle.std.proofs.Common.{◌≡◌, ◌++◌, ◌∷◌, List, [], Option, Some, ap, false, map, refl}
use Rattle.theory_definitions.specs.Reports.{Report, Unit_, children_of, report_of, unit}
use Rattle.standard_outputs.specs.Hierarchical.{node_object, nodes_for, nodes_for_each}
use Rattle.standard_outputs.specs.KeywordUnits.{is_keyword_in}

pub node_for : (outer : Option Report) (u : Unit_) → is_keyword_in outer (report_of u) ≡ false
    → nodes_for outer u ≡ node_object (report_of u) (children_of u) (nodes_for_each (Some (report_of u)) (children_of u)) ∷ []
node_for outer (unit r us) e = rw e refl

pub map_one_more : {A B : Type 0} (f : A → B) (xs : List A) (x : A) → map f (xs ++ x ∷ []) ≡ map f xs ++ f x ∷ []
map_one_more f [] x = refl
map_one_more f (y ∷ xs) x = ap (λ l. f y ∷ l) (map_one_more f xs x)
