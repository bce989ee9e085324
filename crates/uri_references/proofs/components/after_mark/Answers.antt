use Rattle.std.proofs.lemmas.Str.Pattern.{strip_prefix_char}
use Rattle.uri_references.proofs.Cutting.{marked}
use Rattle.uri_references.proofs.components.after_mark.Goals as goal

pub returns : goal.returns
returns c = record { after = marked _ _ _ (strip_prefix_char _ _ _ c.strip_prefix.ensures.cases c.requires) }
