-- The makers of two tables that are joined by a route make as they should, since those of each
-- table do.
use Rattle.std.specs.Prelude.{Bool, List, refl}
use Rattle.serde_json.specs.Data.{Members}
use Rattle.theory_definitions.specs.Instance.{Text}
use Rattle.theory_definitions.specs.Drafts.{Draft}
use Rattle.keyword_joins.specs.BothScripts.{Scripts, script_as}
use Rattle.keyword_joins.specs.BothTables.{EachMakesRightly, makes_rightly, one_of}
use Rattle.keyword_joins.specs.RoutedScripts.{goes_to_first, routed_script}
use Rattle.keyword_joins.specs.Sides.{by_side}
use Rattle.keyword_joins.specs.declared.both.Both.TheVariants.{First, Second}

pub routed_make_rightly : {S R T A B : Type 0} (owned : S → Text → Bool) (leads : R → Draft → Members → Text → Bool) (one : Scripts S A) (other : Scripts T B)
    (absorbs_one : A → List Text) (absorbs_other : B → List Text) (is_whole_one : A → Bool) (is_whole_other : B → Bool)
    → EachMakesRightly absorbs_one is_whole_one one → EachMakesRightly absorbs_other is_whole_other other
    → EachMakesRightly (by_side absorbs_one absorbs_other) (by_side is_whole_one is_whole_other) (routed_script owned leads one other)
routed_make_rightly owned leads one other absorbs_one absorbs_other is_whole_one is_whole_other right_one right_other t own name object draft vocabularies formats =
    let absorbs = by_side absorbs_one absorbs_other in
    let is_whole = by_side is_whole_one is_whole_other in
    let first = one t.first own name object draft vocabularies formats in
    let second = other t.second own name object draft vocabularies formats in
    one_of absorbs is_whole object (goes_to_first owned leads t own draft object name) (script_as First first) (script_as Second second)
    (makes_rightly First absorbs_one absorbs is_whole_one is_whole (λ m. refl) (λ m. refl) object first (right_one t.first own name object draft vocabularies formats))
    (makes_rightly Second absorbs_other absorbs is_whole_other is_whole (λ m. refl) (λ m. refl) object second (right_other t.second own name object draft vocabularies formats))
