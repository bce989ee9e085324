use Rattle.std.proofs.Common.{◌≡◌, ◌∙◌, ◌∷◌, ap, drop, rules, string_bytes, sym}
use Rattle.serde_json.specs.View.{members_view}
use Rattle.keyword_authoring.specs.Members.{names_in}
use Rattle.test_laws.specs.EachName.{first_name}
use Rattle.test_laws.proofs.NamesPast.{names_rest}
use Rattle.test_laws.proofs.each_name.name_after.Goals as goal

pub loop-name-preserved : goal.loop-name-preserved
loop-name-preserved c =
    let all_left : names_in (members_view c.loop-name.name-iterator) ≡ string_bytes c.in-Some.name.now ∷ names_in (members_view c.next.new.self) = search rules in
    let more : c.loop-name.left ≡ 0 → ⊥ = λ e. search rules in
    sym (names_rest c.loop-name.left (string_bytes c.in-Some.name.now) (names_in (members_view c.next.new.self)) more)
    ∙ (ap (λ ks. first_name (drop c.loop-name.left ks)) (sym all_left) ∙ c.loop-name.invariant)
