use Rattle.std.specs.Bool.{one_answer}
use Rattle.std.specs.Str.{chars}
use Rattle.std.proofs.lemmas.Slice.Eq.{bytes_eq-Decides}
use Rattle.unicode_normalization.specs.Forms.{nfc}
use Rattle.schema_traits.proofs.Replies.{if_ok_mono}
use Rattle.standard_formats.proofs.idn_hostnames.is_normal.Goals as goal

pub returns : goal.returns
returns c = record {
  normal = if_ok_mono c.is_nfc.result _ _ (λ b told. one_answer b _ told (bytes_eq-Decides (nfc (chars c.args.text.now)) (chars c.args.text.now)))
      c.is_nfc.ensures.answer;
}
