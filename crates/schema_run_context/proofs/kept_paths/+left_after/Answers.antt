use Rattle.std.proofs.Common.{◌≡◌, ◌≢◌, ◌∙◌, ◌++◌, ℕ, IfNone, List, MatchOption, None, Option, Some, ap, append_assoc, sym, Bor}
use Rattle.std.proofs.lemmas.Bool.Decides.{Decides-eqb}
use Rattle.std.proofs.lemmas.List.{append_cancel_left}
use Rattle.std.proofs.lemmas.Slice.Eq.{strip_prefix_is}
use Rattle.schema_run_context.specs.EvaluationPaths.{path_of}
use Rattle.schema_run_context.proofs.kept_paths.+left_after.Goals as goal

-- what is left does not begin with what is added, so the text does not begin with both
none_of_both : (o : Option (Bor (List ℕ))) (text before left added whole : List ℕ) → text ≡ before ++ left → whole ≡ before ++ added
    → MatchOption o ((rest : List ℕ) → left ≢ added ++ rest) (λ x. left ≡ added ++ x.now) → IfNone o ((rest : List ℕ) → text ≢ whole ++ rest)
none_of_both None text before left added whole is both h = λ rest same. h rest (append_cancel_left before left (added ++ rest) (sym is ∙ same ∙ ap (λ p. p ++ rest) both ∙ append_assoc before added rest))
none_of_both (Some x) text before left added whole is both h = tt

pub returns-in_ok-left-in-Across-clause-none : goal.returns-in_ok-left-in-Across-clause-none
returns-in_ok-left-in-Across-clause-none t c =
    let stripped = rw (c.as_bytes-in-Across.ensures.value, c.as_str-in-Across.ensures.text) at c.strip_prefix-in-Across.ensures.cases in
    none_of_both c.strip_prefix-in-Across.result c.args.text.now (path_of c.in-Across.before.now) c.in_ok-left-in-Across.left.now c.in-Across.added.now _ c.in_ok-left-in-Across.ensures.left (ap path_of c.in-Across.is)
    (strip_prefix_is Decides-eqb c.in_ok-left-in-Across.left.now c.in-Across.added.now c.strip_prefix-in-Across.result stripped)
