-- Keywords that judge by how many of their questions are accepted: `anyOf`, `oneOf` and `not`, and
-- how their runs count. (Core 2020-12, 10.2.1.2, 10.2.1.3 and 10.2.1.4)
use Rattle.std.specs.Prelude.{Bool, List, [], false, min, nat_le, not, true, ℕ, ◌++◌, ◌+◌, ◌&&◌, ◌∷◌}
use Rattle.theory_definitions.specs.Instance.{Text}
use Rattle.theory_definitions.specs.Reports.{Unit_, report_of}
use Rattle.theory_definitions.specs.Keywords.{Answer, Gives, Question, Reply, all_of_it, first_of_it, for_units, no_reply, truth, unit_of_it}
use Rattle.schema_traits.specs.declared.keyword.Mode.{Mode}
use Rattle.schema_traits.specs.declared.keyword.Mode.TheVariants as mode

-- how a keyword judges: `told` returns the texts of its errors for a number of accepted questions,
-- where `enough` stands for that number or more; if `shows` is true, the units of its questions are
-- returned
pub record Tally : Type 0 where
  pub name : Text
  pub enough : ℕ
  pub told : ℕ → List Text
  pub shows : Bool

-- one more, if an answer accepts
abbrev pub counted : Bool → ℕ → ℕ
counted true n = n + 1
counted false n = n

-- the number of accepted questions
abbrev pub yes_count : (Question → Bool) → List Question → ℕ
yes_count accepts [] = 0
yes_count accepts (q ∷ qs) = counted (accepts q) (yes_count accepts qs)

-- the texts of the errors, by the verdicts of the questions
abbrev pub told_by : Tally → (Question → Bool) → List Question → List Text
told_by t accepts qs = t.told (min t.enough (yes_count accepts qs))

-- ---- its runs

-- the run asks for verdicts, except that it asks for units if they are wanted and returned
abbrev pub wants_units : Tally → Mode → Bool
wants_units t mode.Verdict = false
wants_units t mode.First = false
wants_units t mode.All = false
wants_units t mode.Evaluate = t.shows

abbrev pub asked_in : Bool → Mode
asked_in true = mode.Evaluate
asked_in false = mode.Verdict

-- a run that wants no units ends as soon as further accepted questions change nothing
abbrev pub is_settled : Bool → ℕ → ℕ → Bool
is_settled units enough n = not units && nat_le enough n

-- whether a reply is an accepting verdict or a valid unit
abbrev pub says_yes : Reply → Bool
says_yes no_reply = false
says_yes (truth b) = b
says_yes (first_of_it e) = false
says_yes (all_of_it es) = false
says_yes (unit_of_it u) = (report_of u).valid

-- the number of accepted questions after a reply, at most `enough`
abbrev pub tallied : ℕ → Reply → ℕ → ℕ
tallied enough reply n = min enough (counted (says_yes reply) n)

-- an answer of an evaluation, with this verdict
abbrev pub in_evaluation : Bool → Gives → Answer
in_evaluation v g = record { mode = for_units; verdict = v; errors = []; gives = g }

-- a result with one more unit inside
abbrev pub with_inside : Gives → Unit_ → Gives
with_inside g u = record g { children = g.children ++ u ∷ [] }

-- an answer with the unit that a child returned, whatever its verdict
abbrev pub with_child : Answer → Reply → Answer
with_child a no_reply = a
with_child a (truth b) = a
with_child a (first_of_it e) = a
with_child a (all_of_it es) = a
with_child a (unit_of_it u) = in_evaluation a.verdict (with_inside a.gives u)
