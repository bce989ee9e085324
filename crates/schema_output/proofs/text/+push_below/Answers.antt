use Rattle.std.proofs.Common.{◌≡◌, ◌+◌, ◌++◌, ◌∷◌, ◌∙◌, [], append_assoc, arith, ap, drop, map, refl, string_bytes, subst, sym, true}
use Rattle.std.proofs.lemmas.List.{drop_all, drop_more}
use Rattle.theory_definitions.specs.Reports.{report_of, units_of}
use Rattle.schema_reports.specs.UnitViews.{unit_of}
use Rattle.schema_output.specs.Output.{reports_in_each, unit_object}
use Rattle.schema_output.specs.Texts.{Follow, Prints, objects_below}
use Rattle.schema_output.proofs.Following.{follow_unit}
use Rattle.schema_output.proofs.Opened.{seen}
use Rattle.schema_output.proofs.text.+push_below.Goals as goal

pub loop-child-preserved : goal.loop-child-preserved
loop-child-preserved t c = λ end rest.
    let l = c.loop-child in
    let xs = c.deref-child-items.result.now in
    let x = c.child-item.result in
    let later = units_of (map (unit_of true) (drop (l.child-index + 1) xs)) in
    let here : drop l.child-index xs ≡ x ∷ drop (l.child-index + 1) xs = drop_more xs l.child-index x (omega arith) ∙ ap (λ y. y ∷ drop (l.child-index + 1) xs) (sym c.child-item.is) in
    let o0 = string_bytes l.out in
    let o1 = string_bytes c.push_str.new.self in
    let o2 = string_bytes c.push_unit.new.out in
    let o3 = string_bytes c.push_below.new.out in
    let made = c.in_ok-push_unit.ensures.pushed in
    let text = made.0 in
    let prints : Prints (unit_object (report_of (unit_of true x))) text = subst (λ u. Prints (unit_object (report_of u)) text) (sym (seen x)) made.1 in
    let stands : o2 ≡ o0 ++ 44 ∷ text = made.2 ∙ ap (λ s. s ++ text) c.in_ok-push_str.ensures.bytes ∙ append_assoc o0 (44 ∷ []) text in
    let below : Follow (objects_below (unit_of true x)) (o0 ++ 44 ∷ text) o3 = subst (λ s. Follow (objects_below (unit_of true x)) s o3) stands c.in_ok-push_below.ensures.pushed in
    l.invariant end (subst (λ ys. Follow (map unit_object (reports_in_each (units_of (map (unit_of true) ys)))) o0 end) (sym here) (follow_unit (unit_of true x) later o0 o3 end text prints below rest))

pub returns : goal.returns
returns t c =
    let l = c.loop-child in
    let xs = c.deref-child-items.result.now in
    let out = string_bytes l.out in
    let start = string_bytes c.args.out.now in
    let none : drop l.child-index xs ≡ [] = drop_all l.child-index xs (omega arith) in
    let all : Follow (map unit_object (reports_in_each (units_of (map (unit_of true) xs)))) start out =
    l.invariant out (subst (λ ys. Follow (map unit_object (reports_in_each (units_of (map (unit_of true) ys)))) out out) (sym none) refl) in
    record {
      pushed = subst (λ u. Follow (objects_below u) start out) (sym (seen c.args.node.now))
          (subst (λ ys. Follow (map unit_object (reports_in_each (units_of (map (unit_of true) ys)))) start out) c.deref-child-items.ensures.value all);
    }
