-- How each keyword evaluates an instance.
use Rattle.std.proofs.Common.{refl}
use Rattle.std.specs.Prelude.{Bool, codes, min, true, ◌-◌}
use Rattle.theory_definitions.specs.Instance.{Subject}
use Rattle.keyword_authoring.specs.Items.{child_at_item, each_from, first_at_item, item_count}
use Rattle.keyword_authoring.specs.OwnWays.{leaf_way}
use Rattle.keyword_authoring.specs.Places.{first_items_present, later_items_present, nothing_asked}
use Rattle.keyword_authoring.specs.Plans.{plan_ways, plans_present}
use Rattle.keyword_authoring.specs.WayGrows.{plans_grow, way_grows}
use Rattle.keyword_authoring.specs.Ways.{passes_on, passes_some}
use Rattle.standard_applicators.specs.Containing as contains
use Rattle.standard_applicators.specs.CourseLaws.{CoursesGrow, CoursesPresent, told_grows}
use Rattle.standard_applicators.specs.Courses.{Course, by_way, tells_first}
use Rattle.standard_applicators.specs.Dependents.{dependents_from, dependents_present}
use Rattle.standard_applicators.specs.Unexpected as unexpected
use Rattle.standard_applicators.specs.Wanting.{missing_texts}
use Rattle.standard_applicators.specs.declared.applicator.StandardApplicator.{StandardApplicator}
use Rattle.standard_applicators.specs.declared.applicator.StandardApplicator.TheVariants.{Contains, Dependencies, DependentSchemas, LaterItems, ListedItems, NoLaterItems}

abbrev pub course : StandardApplicator → Subject → Course
course (Contains k) s = by_way (plan_ways contains.planned contains.called contains.error_text k.keyword s)
course (DependentSchemas ks) s = by_way (passes_some (dependents_from 0 ks s))
course (Dependencies wants ks) s = tells_first (codes "dependencies") (missing_texts wants s) (dependents_from 0 ks s)
course (ListedItems n) s = by_way (passes_on (each_from child_at_item 0 (min n (item_count s))))
course (LaterItems n) s = by_way (passes_on (each_from first_at_item n (item_count s - n)))
course (NoLaterItems k) s = by_way (leaf_way (unexpected.called k) (unexpected.accepts k s) (unexpected.error_text k s))

-- Each question is asked at a place that is present.
pub present : CoursesPresent course
present (Contains k) s = plans_present contains.planned contains.called contains.error_text k.keyword s
present (DependentSchemas ks) s = dependents_present 0 ks s
present (Dependencies wants ks) s = dependents_present 0 ks s
present (ListedItems n) s = first_items_present s n
present (LaterItems n) s = later_items_present s n
present (NoLaterItems k) s = nothing_asked s

-- All keywords declare themselves monotone, except for a `contains` with a greatest number.
abbrev pub says_monotone : StandardApplicator → Bool
says_monotone (Contains k) = contains.says_monotone k.keyword
says_monotone _ = true

pub grows : CoursesGrow course says_monotone
grows (Contains k) s h = plans_grow contains.planned contains.called contains.error_text contains.says_monotone contains.grows k.keyword s h
grows (DependentSchemas ks) s h = way_grows (passes_some (dependents_from 0 ks s)) refl
grows (Dependencies wants ks) s h = told_grows (codes "dependencies") (missing_texts wants s) (dependents_from 0 ks s)
grows (ListedItems n) s h = way_grows (passes_on (each_from child_at_item 0 (min n (item_count s)))) refl
grows (LaterItems n) s h = way_grows (passes_on (each_from first_at_item n (item_count s - n))) refl
grows (NoLaterItems k) s h = way_grows (leaf_way (unexpected.called k) (unexpected.accepts k s) (unexpected.error_text k s)) refl
