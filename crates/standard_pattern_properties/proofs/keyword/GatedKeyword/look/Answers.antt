use Rattle.std.proofs.Common.{◌∙◌, ap, arith, string_bytes, sym}
use Rattle.standard_pattern_properties.specs.GatedKeywords.{form_of, gate_of, gates_of}
use Rattle.standard_pattern_properties.specs.GateMoves.{at_pattern, tests}
use Rattle.standard_pattern_properties.proofs.GateNumbers.{pattern_at}
use Rattle.standard_pattern_properties.proofs.keyword.GatedKeyword.look.Goals as goal

pub returns-then-place-gate-clause-looks : goal.returns-then-place-gate-clause-looks
returns-then-place-gate-clause-looks c = λ s next.
    ap (λ ps. at_pattern (gates_of c.args.self.now) (form_of c.args.self.now) s c.args.run.now.mode c.args.run.now.names c.args.run.now.left c.args.name.now c.args.number c.args.place (gate_of c.args.gate) ps next)
    (pattern_at c.args.gate.patterns.now c.args.place c.index-gate-place.result (omega arith) c.index-gate-place.is)
    ∙ (ap (λ p. tests c.args.run.now.names c.args.run.now.left c.args.number c.args.place (string_bytes p) c.args.name.now) c.index-gate-place.is
    ∙ ap (λ p. tests c.args.run.now.names c.args.run.now.left c.args.number c.args.place p c.args.name.now) (sym c.as_str-pattern.ensures.value))
