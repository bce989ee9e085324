-- How deep a question stands: how many other questions are open while it is.
use Rattle.std.specs.Prelude.{ℕ, ◌≡◌, min}
use Rattle.schema_run_context.specs.EvaluationPaths.{edges_in}
use Rattle.schema_run_steps.specs.declared.question.Question.{Question}

-- a number as the code holds it; it stays at the greatest number of 64 bits
abbrev pub held : ℕ → ℕ
held n = min n 18446744073709551615

-- a question stands as deep as its path says: one level for each edge that was crossed
abbrev pub StandsDeep : Question → Type 0
StandsDeep q = q.depth ≡ held (edges_in q.path.now)
