use Rattle.std.proofs.Common.{◌≡◌, ◌∙◌, ap, sym}
use Rattle.test_laws.specs.Items.{marks}
use Rattle.test_laws.specs.Marking.{first}
use Rattle.test_laws.proofs.items.ItemsKeywordValidate.begin.Goals as goal

pub returns : goal.returns
returns c = record {
  begins = λ texts.
      let stage : c.first_stage.result ≡ first (marks c.args.self.now.planned.keyword) = c.first_stage.ensures.first ∙ ap first c.marks.ensures.marks in
      let begun = c.in_ok-progress.ensures.begins texts in
      λ i. ((sym stage i, (begun i).0), (begun i).1);
}
