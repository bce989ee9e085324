use Rattle.std.proofs.Common.{codes, map}
use Rattle.std.specs.Bool.{one_answer}
use Rattle.std.specs.Char.{to_ascii_lowercase}
use Rattle.std.proofs.lemmas.Slice.Eq.{bytes_eq-Decides}
use Rattle.standard_formats.proofs.table.is_base64_name.Goals as goal

pub returns : goal.returns
returns c = record {
  base64 = one_answer _ _ c.eq_ignore_ascii_case.ensures.test
      (bytes_eq-Decides (map to_ascii_lowercase c.args.name.now) (map to_ascii_lowercase (codes "base64")));
}
