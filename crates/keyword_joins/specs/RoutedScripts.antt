-- What the makers of two tables that are joined by a route request and make: the same as the makers
-- of the table that the member goes to.
use Rattle.std.specs.Prelude.{Bool, if◌then◌else◌, ◌||◌}
use Rattle.serde_json.specs.Data.{Members}
use Rattle.theory_definitions.specs.Instance.{Text}
use Rattle.theory_definitions.specs.Drafts.{Draft}
use Rattle.keyword_joins.specs.BothScripts.{Scripts, script_as}
use Rattle.keyword_joins.specs.declared.both.Both.{Both}
use Rattle.keyword_joins.specs.declared.both.Both.TheVariants.{First, Second}
use Rattle.keyword_joins.specs.declared.routed.RoutedTables.{RoutedTables}

module _ {S R T : Type 0} where
  -- a name that is a table's own goes to the first table if that table owns it, and a keyword of
  -- the standard if the route leads there
  abbrev pub goes_to_first : (S → Text → Bool) → (R → Draft → Members → Text → Bool) → RoutedTables S R T → Bool → Draft → Members → Text → Bool
  goes_to_first owned leads t own draft object name = if own then owned t.first name else leads t.route draft object name

  abbrev pub routed_owned : (S → Text → Bool) → (T → Text → Bool) → RoutedTables S R T → Text → Bool
  routed_owned one other t name = one t.first name || other t.second name

  abbrev pub routed_script : {A B : Type 0} → (S → Text → Bool) → (R → Draft → Members → Text → Bool) → Scripts S A → Scripts T B → Scripts (RoutedTables S R T) (Both A B)
  routed_script owned leads one other t own name object draft vocabularies formats =
      if goes_to_first owned leads t own draft object name then script_as First (one t.first own name object draft vocabularies formats)
      else script_as Second (other t.second own name object draft vocabularies formats)
