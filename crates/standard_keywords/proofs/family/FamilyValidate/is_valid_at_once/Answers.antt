use Rattle.schema_reports.specs.InstanceViews.{subject_of}
use Rattle.standard_keywords.proofs.AtOnce.{applicator_at_once, assertion_at_once, basic_at_once, format_at_once, pattern_at_once}
use Rattle.standard_keywords.proofs.family.FamilyValidate.is_valid_at_once.Goals as goal

pub returns-in-Assertion : goal.returns-in-Assertion
returns-in-Assertion g c = record {
  at_once = rw c.in-Assertion.is (assertion_at_once g.A.Validate.words g.L.Validate.words g.P.Validate.words g.F.Validate.words g.B.Validate.words
      g.A.Validate.is_whole g.L.Validate.is_whole g.P.Validate.is_whole g.F.Validate.is_whole g.B.Validate.is_whole (subject_of c.args.instance) g.met.A.Validate.answers
      (g.A.Validate.shape c.in-Assertion.keyword) c.is_valid_at_once.result c.is_valid_at_once.ensures.at_once);
}

pub returns-in-Applicator : goal.returns-in-Applicator
returns-in-Applicator g c = record {
  at_once = rw c.in-Applicator.is (applicator_at_once g.A.Validate.words g.L.Validate.words g.P.Validate.words g.F.Validate.words g.B.Validate.words
      g.A.Validate.is_whole g.L.Validate.is_whole g.P.Validate.is_whole g.F.Validate.is_whole g.B.Validate.is_whole (subject_of c.args.instance) g.met.L.Validate.answers
      (g.L.Validate.shape c.in-Applicator.keyword) c.is_valid_at_once-in-Applicator.result c.is_valid_at_once-in-Applicator.ensures.at_once);
}

pub returns-in-PatternProperties : goal.returns-in-PatternProperties
returns-in-PatternProperties g c = record {
  at_once = rw c.in-PatternProperties.is (pattern_at_once g.A.Validate.words g.L.Validate.words g.P.Validate.words g.F.Validate.words g.B.Validate.words
      g.A.Validate.is_whole g.L.Validate.is_whole g.P.Validate.is_whole g.F.Validate.is_whole g.B.Validate.is_whole (subject_of c.args.instance) g.met.P.Validate.answers
      (g.P.Validate.shape c.in-PatternProperties.keyword) c.is_valid_at_once-in-PatternProperties.result c.is_valid_at_once-in-PatternProperties.ensures.at_once);
}

pub returns-in-Format : goal.returns-in-Format
returns-in-Format g c = record {
  at_once = rw c.in-Format.is (format_at_once g.A.Validate.words g.L.Validate.words g.P.Validate.words g.F.Validate.words g.B.Validate.words
      g.A.Validate.is_whole g.L.Validate.is_whole g.P.Validate.is_whole g.F.Validate.is_whole g.B.Validate.is_whole (subject_of c.args.instance) g.met.F.Validate.answers
      (g.F.Validate.shape c.in-Format.keyword) c.is_valid_at_once-in-Format.result c.is_valid_at_once-in-Format.ensures.at_once);
}

pub returns-in-Basic : goal.returns-in-Basic
returns-in-Basic g c = record {
  at_once = rw c.in-Basic.is (basic_at_once g.A.Validate.words g.L.Validate.words g.P.Validate.words g.F.Validate.words g.B.Validate.words
      g.A.Validate.is_whole g.L.Validate.is_whole g.P.Validate.is_whole g.F.Validate.is_whole g.B.Validate.is_whole (subject_of c.args.instance) g.met.B.Validate.answers
      (g.B.Validate.shape c.in-Basic.keyword) c.is_valid_at_once-in-Basic.result c.is_valid_at_once-in-Basic.ensures.at_once);
}
