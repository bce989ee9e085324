use Rattle.std.proofs.Common.{◌∙◌, ◌≡◌, ◌+◌, IfOk, Some, ap, option_map, subst, sym}
use Rattle.schema_reports.specs.InstanceViews.{subject_of}
use Rattle.standard_pattern_properties.specs.GatedKeywords.{form_of, gate_of, gates_of, move_of, moved_by, name_here}
use Rattle.standard_pattern_properties.specs.GateMoves.{seeks, tested}
use Rattle.standard_pattern_properties.proofs.GateNumbers.{first_drop}
use Rattle.standard_pattern_properties.proofs.Seeking.{tested_passed}
use Rattle.standard_pattern_properties.proofs.keyword.GatedKeyword.after_match.Goals as goal

pub returns-in-None-clause-tested : goal.returns-in-None-clause-tested
returns-in-None-clause-tested c =
    let gates = gates_of c.args.self.now in let form = form_of c.args.self.now in let s = subject_of c.args.instance in
    let here : name_here s c.args.run.now.names ≡ Some c.in-Some-Some.name.now = sym c.name_here.ensures.name ∙ ap (option_map (λ k. k.now)) c.in-Some-Some.is-0 in
    let on : tested gates form s c.args.run.now.mode c.args.won c.args.number c.args.place c.args.run.now.left c.args.run.now.names
    ≡ seeks gates form s c.take_match.new.run.mode (c.args.number + 1) c.take_match.new.run.left c.take_match.new.run.names
    = tested_passed gates form s c.args.run.now.mode c.args.won c.args.number c.args.place c.args.run.now.left c.take_match.new.run.left c.args.run.now.names c.in-Some-Some.name.now
    (gate_of c.in-Some-Some.gate) here
    (first_drop c.args.number gates (gate_of c.in-Some-Some.gate) (sym c.gate.ensures.gate ∙ ap (option_map gate_of) c.in-Some-Some.is-1))
    (λ next. c.in_ok-made-in-Some-Some.ensures.takes s next ∙ ap (λ o. moved_by o c.take_match.new.run next) c.in-None.is)
    ∙ (ap (λ m. seeks gates form s m (c.args.number + 1) c.take_match.new.run.left c.args.run.now.names) (sym c.in_ok-made-in-Some-Some.ensures.mode)
    ∙ ap (λ ns. seeks gates form s c.take_match.new.run.mode (c.args.number + 1) c.take_match.new.run.left ns) (sym c.in_ok-made-in-Some-Some.ensures.names)) in
    subst (λ x. IfOk c.go_on.result (λ made. x ≡ move_of made c.go_on.new.run.names c.go_on.new.run.left)) (sym on) c.go_on.ensures.seeks
