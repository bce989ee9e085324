use Rattle.std.proofs.Common.{◌∙◌, ◌+◌, ap, drop, option_map, sym}
use Rattle.standard_pattern_properties.specs.GatedKeywords.{form_of, gate_of, gates_of, moved_by}
use Rattle.standard_pattern_properties.specs.GateMoves.{at_gates}
use Rattle.standard_pattern_properties.proofs.GateNumbers.{first_drop}
use Rattle.standard_pattern_properties.proofs.Seeking.{gate_passed}
use Rattle.standard_pattern_properties.proofs.keyword.GatedKeyword.seek_here.Goals as goal

pub loop-gate-preserved : goal.loop-gate-preserved
loop-gate-preserved c =
    let gates = gates_of c.args.self.now in let form = form_of c.args.self.now in
    let n = c.loop-gate.number in let before = c.loop-gate.run in let after = c.look.new.run in (
      c.in_ok-made.ensures.names ∙ c.loop-gate.invariant.0,
      c.in_ok-made.ensures.mode ∙ c.loop-gate.invariant.1,
      λ s next. ap (λ m. at_gates gates form s m after.names after.left c.args.name.now (n + 1) (drop (n + 1) gates) next) c.in_ok-made.ensures.mode
          ∙ (ap (λ ns. at_gates gates form s before.mode ns after.left c.args.name.now (n + 1) (drop (n + 1) gates) next) c.in_ok-made.ensures.names
          ∙ (sym (gate_passed gates form s before.mode before.names before.left after.left c.args.name.now n (gate_of c.in-Some.gate) next
          (first_drop n gates (gate_of c.in-Some.gate) (sym c.gate.ensures.gate ∙ ap (option_map gate_of) c.in-Some.is))
          (λ next'. c.in_ok-made.ensures.looks s next' ∙ ap (λ o. moved_by o after next') c.in_default-2.is))
          ∙ c.loop-gate.invariant.2 s next)),
    )
