use Rattle.std.proofs.Common.{◌≡◌, ◌∙◌, IfOk, ap, option_map, subst, sym}
use Rattle.schema_reports.specs.InstanceViews.{subject_of}
use Rattle.standard_pattern_properties.specs.GatedKeywords.{form_of, gate_of, gates_of, move_of}
use Rattle.standard_pattern_properties.specs.GateMoves.{seeks}
use Rattle.standard_pattern_properties.proofs.GateNumbers.{first_none}
use Rattle.standard_pattern_properties.proofs.Seeking.{seeks_next}
use Rattle.standard_pattern_properties.proofs.keyword.GatedKeyword.go_on.Goals as goal

pub returns-in-None-clause-seeks : goal.returns-in-None-clause-seeks
returns-in-None-clause-seeks c =
    let gates = gates_of c.args.self.now in let form = form_of c.args.self.now in let s = subject_of c.args.instance in let run = c.args.run.now in
    let on : seeks gates form s run.mode c.args.number run.left run.names ≡ seeks gates form s run.mode 0 run.left c.advance.new.self
    = seeks_next gates form s run.mode c.args.number (first_none c.args.number gates (sym c.gate.ensures.gate ∙ ap (option_map gate_of) c.in-None.is)) run.left run.names
    ∙ ap (seeks gates form s run.mode 0 run.left) (sym c.advance.ensures.advanced) in
    subst (λ x. IfOk c.seek-in-None.result (λ made. x ≡ move_of made c.seek-in-None.new.run.names c.seek-in-None.new.run.left)) (sym on) c.seek-in-None.ensures.seeks
