use Rattle.std.proofs.Common.{String, [], ap, arith, drop, false, length, string_bytes, subst, sym, true, ◌+◌, ◌<◌, ◌∙◌, ◌∷◌, ◌≡◌}
use Rattle.std.proofs.lemmas.List.{length-map}
use Rattle.std.specs.Rc.{rc_str_bytes}
use Rattle.std.specs.declared.alloc.Global.{Global}
use Rattle.serde_json.specs.declared.value.Value.{Value}
use Rattle.theory_definitions.specs.Instance.{after_step, to_member}
use Rattle.schema_traits.specs.Ascending.{place_from}
use Rattle.schema_traits.specs.AskedAtOnce.{child_below}
use Rattle.schema_traits.specs.Members.{HaveAllOf}
use Rattle.schema_traits.specs.Questions.{AsksFirst, at_names}
use Rattle.schema_traits.proofs.MemberWalks.{found_asked, found_goes_on, found_stands, found_within, none_asked, passed_asked, passed_goes_on}
use Rattle.schema_traits.proofs.asked.members.next_member.Goals as goal

pub returns-in_err-name-clause-way : goal.returns-in_err-name-clause-way
returns-in_err-name-clause-way c = λ s h.
    subst (HaveAllOf s (drop c.loop-next.next c.args.names.now)) (c.in_err-name.ensures.steps.0 ∙ sym c.in_err-name.ensures.steps.1) (c.loop-next.invariant s h).0

pub returns-in_err-name-clause-asks : goal.returns-in_err-name-clause-asks
returns-in_err-name-clause-asks c = λ s h.
    let names = c.args.names.now in
    let asked = c.loop-next.invariant s h in
    let left : at_names s c.loop-next.next (drop c.loop-next.next names) ≡ [] = none_asked s c.loop-next.next (drop c.loop-next.next names) c.loop-next.members c.in_err-name.ensures.steps.0 asked.0 in
    subst (λ r. AsksFirst s (at_names s c.args.next.now (drop c.args.next.now names)) r (at_names s c.loop-next.next (drop c.loop-next.next names))) (sym c.from_residual.ensures) (asked.1 ∙ left, left)

pub overflow_add-next : goal.overflow_add-next
overflow_add-next c =
    let names = c.args.names.now in
    let name = c.as_str-name.result.now in
    let place : place_from name c.loop-next.next (drop c.loop-next.next names) ≡ (c.place_from-child.result.0, true) = sym c.place_from-child.ensures.place ∙ ap (λ b. (c.place_from-child.result.0, b)) c.if-found.true in
    let within : c.place_from-child.result.0 < length names = found_within names c.place_from-child.ensures.ascend c.loop-next.next c.place_from-child.result.0 name place in
    let many : length names ≡ length c.as_slice-count.result.now = ap length (sym c.as_slice-count.ensures.names) ∙ length-map c.as_slice-count.result.now rc_str_bytes in
    omega arith

pub returns-then-found-clause-way : goal.returns-then-found-clause-way
returns-then-found-clause-way c = λ s h.
    let names = c.args.names.now in
    let i = c.loop-next.next in
    let p = c.place_from-child.result.0 in
    let e : String Global × Value = (c.in_ok-name.name.now, c.in_ok-name.member.now) in
    let place : place_from (string_bytes c.in_ok-name.name.now) i (drop i names) ≡ (p, true) = ap (λ t. place_from t i (drop i names)) (sym c.as_str-name.ensures.value) ∙ sym c.place_from-child.ensures.place ∙ ap (λ b. (p, b)) c.if-found.true in
    let have : HaveAllOf s (drop i names) (e ∷ c.next.new.self) = subst (HaveAllOf s (drop i names)) c.in_ok-name.ensures.steps (c.loop-next.invariant s h).0 in
    found_goes_on s names c.place_from-child.ensures.ascend i p e c.next.new.self have place

pub returns-then-found-clause-asks : goal.returns-then-found-clause-asks
returns-then-found-clause-asks c = λ s h.
    let names = c.args.names.now in
    let i = c.loop-next.next in
    let p = c.place_from-child.result.0 in
    let e : String Global × Value = (c.in_ok-name.name.now, c.in_ok-name.member.now) in
    let place : place_from (string_bytes c.in_ok-name.name.now) i (drop i names) ≡ (p, true) = ap (λ t. place_from t i (drop i names)) (sym c.as_str-name.ensures.value) ∙ sym c.place_from-child.ensures.place ∙ ap (λ b. (p, b)) c.if-found.true in
    let have : HaveAllOf s (drop i names) (e ∷ c.next.new.self) = subst (HaveAllOf s (drop i names)) c.in_ok-name.ensures.steps (c.loop-next.invariant s h).0 in
    let asked = found_asked s names c.place_from-child.ensures.ascend i p e c.next.new.self have place in
    let stands = found_stands s names c.place_from-child.ensures.ascend i p e c.next.new.self have place in (
      (c.loop-next.invariant s h).1 ∙ asked ∙ ap (λ t. child_below p t ∷ at_names s (p + 1) (drop (p + 1) names)) (sym c.as_str-name.ensures.value),
      ap (λ t. after_step (to_member t) s) c.as_str-name.ensures.value ∙ stands,
    )

pub loop-next-preserved : goal.loop-next-preserved
loop-next-preserved c = λ s h.
    let names = c.args.names.now in
    let i = c.loop-next.next in
    let p = c.place_from-child.result.0 in
    let e : String Global × Value = (c.in_ok-name.name.now, c.in_ok-name.member.now) in
    let place : place_from (string_bytes c.in_ok-name.name.now) i (drop i names) ≡ (p, false) = ap (λ t. place_from t i (drop i names)) (sym c.as_str-name.ensures.value) ∙ sym c.place_from-child.ensures.place ∙ ap (λ b. (p, b)) c.if-found.false in
    let have : HaveAllOf s (drop i names) (e ∷ c.next.new.self) = subst (HaveAllOf s (drop i names)) c.in_ok-name.ensures.steps (c.loop-next.invariant s h).0 in (
      passed_goes_on s names c.place_from-child.ensures.ascend i p e c.next.new.self have place,
      (c.loop-next.invariant s h).1 ∙ passed_asked s names c.place_from-child.ensures.ascend i p e c.next.new.self have place,
    )

pub returns-clause-way : goal.returns-clause-way
returns-clause-way c = λ s h. (c.loop-next.invariant s h).0
