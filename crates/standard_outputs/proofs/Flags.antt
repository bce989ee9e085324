-- The texts of the two verdicts.
use Rattle.std.proofs.Common.{◌≡◌, codes, false, refl, true}
use Rattle.serde_json.specs.Written.{compact_text}
use Rattle.serde_json.proofs.OnLiterals.{serde_json_on_literals}
use Rattle.standard_outputs.specs.Basic.{flag_object}

pub flag_accepted : codes "{\"valid\":true}" ≡ compact_text (flag_object true)
unfolding serde_json_on_literals
flag_accepted = refl

pub flag_refused : codes "{\"valid\":false}" ≡ compact_text (flag_object false)
unfolding serde_json_on_literals
flag_refused = refl
