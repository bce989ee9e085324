-- What is left of an iteration over children at the keyword's own place, or over items.
use Rattle.std.specs.Prelude.{List, length, map, ℕ, ◌-◌, ◌≤◌}
use Rattle.serde_json.specs.Data.{array}
use Rattle.serde_json.specs.View.{items_view}
use Rattle.serde_json.specs.declared.value.Value.{Value}
use Rattle.theory_definitions.specs.Instance.{Subject, a_value}
use Rattle.theory_definitions.specs.Keywords.{Question}
use Rattle.schema_reports.specs.InstanceViews.{subject_of}
use Rattle.schema_traits.specs.AskedAtOnce.{child_at, child_here, numbers_from}
use Rattle.schema_traits.specs.declared.asked.counted.Walk.{Walk}
use Rattle.schema_traits.specs.declared.asked.counted.Walk.TheVariants as walk

-- the subject that the questions are about
abbrev pub subject_in : Walk → Subject
subject_in (walk.Here w) = subject_of w.instance
subject_in (walk.Items w) = a_value (array (items_view w.items.now))
subject_in (walk.Listed w) = a_value (array (items_view w.items.now))

-- an array of these items, as a subject
abbrev pub of_items : List Value → Subject
of_items items = a_value (array (items_view items))

-- the questions to the children from one number up to another, at the keyword's own place
abbrev pub children_between : ℕ → ℕ → List Question
children_between next end = map child_here (numbers_from next (end - next))

-- the questions to the first child at these items, from an index on
abbrev pub at_items_from : ℕ → List Value → List Question
at_items_from next items = map (child_at 0) (numbers_from next (length items - next))

-- the questions to each child at the item with its index, from one number up to another
abbrev pub listed_between : ℕ → ℕ → List Question
listed_between next end = map (λ k. child_at k k) (numbers_from next (end - next))

-- the questions that are left, in order
abbrev pub left_in : Walk → List Question
left_in (walk.Here w) = map child_here (numbers_from w.next (w.end - w.next))
left_in (walk.Items w) = map (child_at 0) (numbers_from w.next (length w.items.now - w.next))
left_in (walk.Listed w) = map (λ k. child_at k k) (numbers_from w.next (w.end - w.next))

-- the iteration ends within the items
abbrev pub IsOnItsWay : Walk → Type 0
IsOnItsWay (walk.Here w) = Unit {0}
IsOnItsWay (walk.Items w) = Unit {0}
IsOnItsWay (walk.Listed w) = w.end ≤ length w.items.now
