use Rattle.std.proofs.Common.{◌≡◌, ◌∙◌, ◌+◌, ◌++◌, ◌∷◌, arith, ap, drop, map, rules, string_bytes, sym}
use Rattle.std.specs.Prelude.{codes}
use Rattle.schema_traits.proofs.Drops.{drop_at}
use Rattle.standard_pattern_properties.specs.GatedKeywords.{in_quotes}
use Rattle.standard_pattern_properties.proofs.Quoting.{one_more}
use Rattle.standard_pattern_properties.proofs.telling.push_quoted.Goals as goal

pub loop-name-preserved : goal.loop-name-preserved
loop-name-preserved c =
    let text = string_bytes c.loop-name.text in let before = c.loop-name.before.now in let rest = map string_bytes (drop (c.loop-name.name-index + 1) c.args.names.now) in
    let pushed : string_bytes c.push_str-in-loop-name-3.new.self ≡ (((text ++ before) ++ codes "'") ++ c.as_str.result.now) ++ codes "'"
    = c.in_ok-push_str-4.ensures.bytes ∙ ap (λ t. t ++ codes "'") (c.in_ok-push_str-3.ensures.bytes
    ∙ ap (λ t. t ++ c.as_str.result.now) (c.in_ok-push_str-2.ensures.bytes ∙ ap (λ t. t ++ codes "'") c.in_ok-push_str.ensures.bytes)) in
    let name : c.as_str.result.now ≡ string_bytes c.name-item.result = search rules in (
      search rules,
      ap (λ t. t ++ in_quotes (codes ", ") rest) pushed ∙ (one_more text before c.as_str.result.now rest
          ∙ (ap (λ k. text ++ in_quotes before (k ∷ rest)) name
          ∙ (ap (λ ks. text ++ in_quotes before (map string_bytes ks)) (sym (drop_at c.args.names.now c.loop-name.name-index c.name-item.result (omega arith) c.name-item.is))
          ∙ c.loop-name.invariant.1))),
    )
