use Rattle.std.proofs.Common.{◌≡◌, ◌∙◌, ◌+◌, ◌∷◌, Global, List, String, ap, arith, drop, map, string_bytes, suc, sym, ℕ}
use Rattle.std.proofs.Math.Seq.{drop-cons}
use Rattle.serde_json.specs.View.{members_view}
use Rattle.theory_definitions.specs.Instance.{Text}
use Rattle.theory_definitions.specs.Units.{without, without_name}
use Rattle.schema_compiler.proofs.Absorbed.{without_entry}
use Rattle.schema_compiler.proofs.compiler.annotations.without.Goals as goal

pub loop-name-preserved : goal.loop-name-preserved
loop-name-preserved c =
    let i = c.loop-name.name-index in
    let names = c.args.names.now in
    let name = c.name-item.result in
    let left = c.loop-name.left.entries in
    let after : i + 1 ≡ suc i = omega arith in
    let dropped : drop i names ≡ name ∷ drop (suc i) names = drop-cons names i name c.loop-name-test.true ∙ ap (λ (x : String Global). x ∷ drop (suc i) names) (sym c.name-item.is) in
    let removed = ap members_view c.remove.ensures.entries ∙ without_entry c.as_str.result.now left
    ∙ ap (λ (k : Text). without_name k (members_view left)) c.as_str.ensures.value in
    ap (without (map string_bytes (drop (i + 1) names))) removed
    ∙ ap (λ (j : ℕ). without (map string_bytes (drop j names)) (without_name (string_bytes name) (members_view left))) after
    ∙ sym (ap (λ (ns : List (String Global)). without (map string_bytes ns) (members_view left)) dropped)
    ∙ c.loop-name.invariant
