use Rattle.std.proofs.Common.{subst, sym}
use Rattle.std.specs.Prelude.{IfOk}
use Rattle.command_line.specs.declared.options.Output.TheVariants as output
use Rattle.jsonschema_cli.specs.contracts.validating.ValidatingAnswerer.TheImpl.{ghosts}
use Rattle.jsonschema_cli.proofs.validating.ValidatingAnswerer.answer.Goals as goal

pub returns-in-None : goal.returns-in-None
returns-in-None c = record {
  right = subst (λ o. IfOk c.errors.result (λ a. ghosts.right c.args.self.now o c.args.subject.line c.args.instance.now a.0)) (sym c.in-Text.is)
      (subst (λ l. IfOk c.errors.result (λ a. ghosts.right c.args.self.now output.Text l c.args.instance.now a.0)) (sym c.in-None.is)
      c.errors.ensures.errors);
}

pub returns-in-Some : goal.returns-in-Some
returns-in-Some c = record {
  right = subst (λ o. IfOk c.first_error.result (λ a. ghosts.right c.args.self.now o c.args.subject.line c.args.instance.now a.0)) (sym c.in-Text.is)
      (subst (λ l. IfOk c.first_error.result (λ a. ghosts.right c.args.self.now output.Text l c.args.instance.now a.0)) (sym c.in-Some.is)
      c.first_error.ensures.first);
}

pub returns-in-Flag : goal.returns-in-Flag
returns-in-Flag c = record {
  right = subst (λ o. IfOk c.verdict.result (λ a. ghosts.right c.args.self.now o c.args.subject.line c.args.instance.now a.0)) (sym c.in-Flag.is)
      c.verdict.ensures.verdict;
}

pub returns-in-List : goal.returns-in-List
returns-in-List c = record {
  right = subst (λ o. IfOk c.units.result (λ a. ghosts.right c.args.self.now o c.args.subject.line c.args.instance.now a.0)) (sym c.in-List.is)
      c.units.ensures.unit;
}

pub returns-in-Basic : goal.returns-in-Basic
returns-in-Basic c = record {
  right = subst (λ o. IfOk c.units-in-Basic.result (λ a. ghosts.right c.args.self.now o c.args.subject.line c.args.instance.now a.0)) (sym c.in-Basic.is)
      c.units-in-Basic.ensures.unit;
}

pub returns-in-Hierarchical : goal.returns-in-Hierarchical
returns-in-Hierarchical c = record {
  right = subst (λ o. IfOk c.units-in-Hierarchical.result (λ a. ghosts.right c.args.self.now o c.args.subject.line c.args.instance.now a.0)) (sym c.in-Hierarchical.is)
      c.units-in-Hierarchical.ensures.unit;
}
