use Rattle.std.proofs.Common.{◌≡◌, ◌++◌, false, rules, string_bytes, subst}
use Rattle.serde_json.specs.Data.{Items, item}
use Rattle.serde_json.specs.View.{items_view, view}
use Rattle.serde_json.specs.Written.{items_have_float}
use Rattle.standard_assertions.specs.Constants.{more_values}
use Rattle.standard_assertions.proofs.ListedValues.{one_more}
use Rattle.standard_assertions.proofs.constants.push_more.Goals as goal

pub loop-first-preserved : goal.loop-first-preserved
loop-first-preserved c = λ whole.
    let is : items_view c.loop-first.rest.now ≡ item (view c.in-Some.first.now) (items_view c.in-Some.others.now) = search rules in
    let kept = c.loop-first.invariant whole in
    let left : items_have_float (item (view c.in-Some.first.now) (items_view c.in-Some.others.now)) ≡ false = subst (λ (ds : Items). items_have_float ds ≡ false) is kept.0 in
    let so_far : string_bytes c.args.text.now ++ more_values (items_view c.args.values.now) ≡ string_bytes c.loop-first.text ++ more_values (item (view c.in-Some.first.now) (items_view c.in-Some.others.now)) =
    subst (λ (ds : Items). string_bytes c.args.text.now ++ more_values (items_view c.args.values.now) ≡ string_bytes c.loop-first.text ++ more_values ds) is kept.1 in
    one_more _ _ _ _ _ left so_far (λ h. search rules)
