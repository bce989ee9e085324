-- A run that branches, by the numbers of its children, each asked at the keyword's own place.
use Rattle.std.specs.Prelude.{Bool, Option, option_map, ℕ, ◌≡◌}
use Rattle.theory_definitions.specs.Keywords.{Question}
use Rattle.keyword_authoring.specs.Items.{child_here}
use Rattle.keyword_authoring.specs.Ways.{Way, branch_number, branches, chosen, stage_at}
use Rattle.keyword_authoring.specs.declared.run.Progress.{Progress}

-- the first child is asked, and then the child of the branch that its verdict selects, if any
abbrev pub branches_here : Option ℕ → Option ℕ → Way
branches_here accepted refused = branches (child_here 0) (option_map child_here accepted) (option_map child_here refused)

-- the question of the branch that a verdict selects
abbrev pub chosen_here : Bool → Option ℕ → Option ℕ → Option Question
chosen_here accepts accepted refused = chosen accepts (option_map child_here accepted) (option_map child_here refused)

-- the run is at the stage that asks this question
abbrev pub StandsAtBranch : Bool → Option ℕ → Option ℕ → Progress → Progress → Type 0
StandsAtBranch accepts accepted refused run run' = run' ≡ record run { stage = stage_at (branch_number accepts) (chosen_here accepts accepted refused) }
