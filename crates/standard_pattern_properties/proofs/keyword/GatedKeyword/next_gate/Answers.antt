use Rattle.std.proofs.Common.{◌∙◌, ap, option_map, sym}
use Rattle.standard_pattern_properties.specs.GatedKeywords.{form_of, gate_of, gates_of}
use Rattle.standard_pattern_properties.proofs.GateNumbers.{first_none}
use Rattle.standard_pattern_properties.proofs.Seeking.{seeks_past}
use Rattle.standard_pattern_properties.proofs.keyword.GatedKeyword.next_gate.Goals as goal

pub returns-in-None : goal.returns-in-None
returns-in-None c = record {
  next = λ s m left names. seeks_past (gates_of c.args.self.now) (form_of c.args.self.now) s m c.args.number
      (first_none c.args.number (gates_of c.args.self.now) (sym c.gate.ensures.gate ∙ ap (option_map gate_of) c.in-None.is)) left names;
}
