use Rattle.std.proofs.Common.{◌∙◌, ◌&&◌, ap, sym}
use Rattle.serde_json.specs.View.{members_view}
use Rattle.json_values.specs.Equality.{members_within}
use Rattle.json_values.proofs.Walking.{members_walk_is}
use Rattle.json_values.proofs.equality.+equal.Goals as goal

pub are_equal_members-returns-then-are_as_many : goal.are_equal_members-returns-then-are_as_many
are_equal_members-returns-then-are_as_many t c =
    let both = c.are_as_many.ensures in
    record { members = c.are_equal_in_order.ensures.walk ∙ members_walk_is c.args.left.now.entries c.args.right.now.entries both.left_ordered both.right_ordered }

pub are_equal_members-returns-else-are_as_many : goal.are_equal_members-returns-else-are_as_many
are_equal_members-returns-else-are_as_many t c =
    let fails = c.if-are_as_many.false in
    record { members = fails ∙ ap (λ b. b && members_within (members_view c.args.left.now.entries) (members_view c.args.right.now.entries)) (sym fails ∙ c.are_as_many.ensures.as_many) }
