use Rattle.std.proofs.Common.{[], ap, arith, length, map, string_bytes, sym, take, ◌+◌, ◌++◌, ◌<◌, ◌∙◌, ◌∷◌, ◌≡◌}
use Rattle.std.proofs.lemmas.List.{map-append, take_more}
use Rattle.pattern_matcher.specs.PatternTables.{distinct, with_text}
use Rattle.pattern_matcher.proofs.Tables.{distinct_more}
use Rattle.pattern_matcher.proofs.patterns.Patterns.for_schemas.Goals as goal

pub loop-text-preserved : goal.loop-text-preserved
loop-text-preserved c =
    let i = c.loop-text.text-index in
    let items = c.as_slice-text-items.result.now in
    let item = c.text-item.result in
    let within : i < length items = omega arith in
    let more : take (i + 1) items ≡ take i items ++ item ∷ [] = take_more items i item within ∙ ap (λ x. take i items ++ x ∷ []) (sym c.text-item.is) in
    let texts : map string_bytes (take (i + 1) items) ≡ map string_bytes (take i items) ++ string_bytes item ∷ [] =
    ap (map string_bytes) more ∙ map-append string_bytes (take i items) (item ∷ []) in
    c.in_ok-add.ensures.added
    ∙ (ap (λ ts. with_text ts c.as_str.result.now) c.loop-text.invariant
    ∙ (ap (with_text (distinct (map string_bytes (take i items)))) c.as_str.ensures.value
    ∙ (sym (distinct_more (map string_bytes (take i items)) (string_bytes item)) ∙ sym (ap distinct texts))))
