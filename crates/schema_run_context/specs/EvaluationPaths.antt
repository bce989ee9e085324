-- The text of the evaluation path that led to a node.
use Rattle.std.specs.Prelude.{◌++◌, ◌≡◌, ℕ, suc, Bool, IfOk, Result, false, true}
use Rattle.theory_definitions.specs.Instance.{Text}
use Rattle.theory_definitions.specs.Pointer.{joined}
use Rattle.schema_run_context.specs.declared.evaluation_path.EvaluationPath.{EvaluationPath, Given, Across', UnderReference', Kept'}

-- the text of a path: the one that the caller supplied, with what each edge adds to it
abbrev pub path_of : EvaluationPath → Text
path_of (Given path) = path.now
path_of (Across' pointer before added) = path_of before ++ added.now
path_of (UnderReference' pointer before) = path_of before
path_of (Kept' pointer before texts) = texts.now.path

-- whether the path continues under a reference somewhere
abbrev pub is_under_reference : EvaluationPath → Bool
is_under_reference (Given path) = false
is_under_reference (Across' pointer before added) = is_under_reference before
is_under_reference (UnderReference' pointer before) = true
is_under_reference (Kept' pointer before texts) = texts.now.under_reference

-- how many edges the path crossed
abbrev pub edges_in : EvaluationPath → ℕ
edges_in (Given path) = 0
edges_in (Across' pointer before added) = suc (edges_in before)
edges_in (UnderReference' pointer before) = edges_in before
edges_in (Kept' pointer before texts) = edges_in before

-- a text is the path of a keyword with this name after a path, followed by the rest
abbrev pub IsPathTo : EvaluationPath → Text → Text → Text → Type 0
IsPathTo path name rest l = l ≡ joined (path_of path) name ++ rest

-- if a result is a text, then the text is such a path
abbrev pub GivesPath : {E : Type 0} → EvaluationPath → Text → Text → Result Text E → Type 0
GivesPath path name rest result = IfOk result (λ l. IsPathTo path name rest l)
