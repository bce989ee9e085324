-- What numbers say if they stand for the keys that a root reaches.
use Rattle.std.proofs.Common.{◌≡◌, ℕ, List, length, map, sym, subst}
use Rattle.std.specs.Prelude.{Some, slice_get}
use Rattle.std.proofs.lemmas.List.{length-map}
use Rattle.theory_definitions.specs.Parts.{Parts}
use Rattle.theory_definitions.specs.Plan.{Key}
use Rattle.theory_definitions.specs.Guarded.{Nodes}
use Rattle.theory_meaning.specs.Numbered.{AreNumbered, Ranked}
use Rattle.theory_meaning.specs.Reach.{Reached}
use Rattle.theory_fixed_points.specs.Solutions.{EachIsMonotone}
use Rattle.theory_fixed_points.specs.NodesSay.{AreMonotone}
use Rattle.theory_fixed_points.specs.NumbersSay.{ReachedAnswer, ReachedFinish, ReachedStand}
use Rattle.theory_fixed_points.proofs.Edges.{in_map, numbers_are_monotone}
use Rattle.theory_fixed_points.proofs.NumbersSay.{finishing_answers, greatest_answers, largest_stands}

module _ {S K R : Type 0} (w : Parts S K R) (keys : List (Key S)) (nodes : Nodes K) (numbered : AreNumbered w (map Some keys) nodes) (ranked : Ranked nodes (length keys))
    (root : Key S) (reached : (i : ℕ) (k : Key S) → slice_get keys i ≡ Some k → Reached w root k) (monotone : EachIsMonotone w root) where
  count : length keys ≡ length (map Some keys)
  count = sym (length-map keys Some)

  ranked_too : Ranked nodes (length (map Some keys))
  ranked_too = subst (Ranked nodes) count ranked

  monotone_too : AreMonotone w.keywords nodes (length (map Some keys))
  monotone_too = subst (AreMonotone w.keywords nodes) count (numbers_are_monotone w keys nodes numbered root reached monotone)

pub reached_answer : {S K R : Type 0} (w : Parts S K R) (keys : List (Key S)) (nodes : Nodes K) → ReachedAnswer w keys nodes
reached_answer w keys nodes laws states numbered ranked root reached monotone instance i is_root limit =
    greatest_answers w (map Some keys) nodes laws states numbered (ranked_too w keys nodes numbered ranked root reached monotone) (monotone_too w keys nodes numbered ranked root reached monotone)
    instance i root (in_map keys i root is_root) limit

pub reached_finish : {S K R : Type 0} (w : Parts S K R) (keys : List (Key S)) (nodes : Nodes K) → ReachedFinish w keys nodes
reached_finish w keys nodes laws states numbered ranked root reached monotone finishes instance i is_root limit some =
    finishing_answers w (map Some keys) nodes laws states numbered (ranked_too w keys nodes numbered ranked root reached monotone) (monotone_too w keys nodes numbered ranked root reached monotone)
    finishes instance i root (in_map keys i root is_root) limit some

pub reached_stand : {S K R : Type 0} (w : Parts S K R) (keys : List (Key S)) (nodes : Nodes K) → ReachedStand w keys nodes
reached_stand w keys nodes laws states numbered ranked root reached monotone whole =
    largest_stands w (map Some keys) nodes laws states numbered (ranked_too w keys nodes numbered ranked root reached monotone) (monotone_too w keys nodes numbered ranked root reached monotone)
    root (λ k r. let (i, is) = whole k r in (i, in_map keys i k is))
