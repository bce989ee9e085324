use Rattle.std.proofs.Common.{Bor, Option, ◌≡◌, ◌++◌, ◌∷◌, ◌∙◌, [], ap, arith, cond, option_map, string_bytes, subst, sym, true}
use Rattle.std.specs.Prelude.{None, Some, bytes_eq, is_some}
use Rattle.std.specs.HashMap.{get_by_text}
use Rattle.std.proofs.lemmas.Grind.{common_steps}
use Rattle.std.proofs.lemmas.Map.Text.{hash_map_updates_text}
use Rattle.theory_definitions.specs.Instance.{Text}
use Rattle.standard_subschemas.specs.DocumentKeys.{IsNumbered}
use Rattle.standard_subschemas.proofs.Numbered.{numbered_again, numbered_more, numbered_none}
use Rattle.standard_subschemas.proofs.numbers.add_number.Goals as goal

pub returns-in_ok-insert : goal.returns-in_ok-insert
returns-in_ok-insert c =
    let old = get_by_text c.args.numbers.now in
    let text = c.in-Some.text.now in
    let e1 = c.get.ensures.value in let e2 = c.is_none.ensures in let e3 = c.if-is_none.ensures in let e4 = c.if-is_none.true in
    let new : old text ≡ None = grind (arith, common_steps) in
    let is = sym (ap (option_map (λ (t : Bor Text). t.now)) c.in-Some.is) in
    let key = string_bytes c.in_ok-from_str.field-0 in
    let same : key ≡ text = c.in_ok-from_str.ensures.ok in
    let after = get_by_text c.insert.new.self in
    record {
      added = λ keys numbered count. subst (λ (k : Option Text). IsNumbered (keys ++ k ∷ []) after) is
          (numbered_more keys old after text numbered new (λ t.
          hash_map_updates_text key c.args.numbers.now c.insert.new.self _ c.in_ok-insert.ensures.updates t
          ∙ ap (λ (k : Text). cond (bytes_eq k t) (Some c.args.number) (old t)) same
          ∙ ap (λ n. cond (bytes_eq text t) (Some n) (old t)) (sym count)));
    }

pub returns-else-is_none : goal.returns-else-is_none
returns-else-is_none c =
    let old = get_by_text c.args.numbers.now in
    let text = c.in-Some.text.now in
    let e1 = c.get.ensures.value in let e2 = c.is_none.ensures in let e3 = c.if-is_none.ensures in let e4 = c.if-is_none.false in
    let has : is_some (old text) ≡ true = grind (arith, common_steps) in
    let is = sym (ap (option_map (λ (t : Bor Text). t.now)) c.in-Some.is) in
    record {
      added = λ keys numbered count. subst (λ (k : Option Text). IsNumbered (keys ++ k ∷ []) old) is
          (numbered_again keys old text numbered has);
    }

pub returns-in_default : goal.returns-in_default
returns-in_default c =
    let old = get_by_text c.args.numbers.now in
    let is = sym (ap (option_map (λ (t : Bor Text). t.now)) c.in_default.is) in
    record {
      added = λ keys numbered count. subst (λ (k : Option Text). IsNumbered (keys ++ k ∷ []) old) is
          (numbered_none keys old numbered);
    }
