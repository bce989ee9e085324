use Rattle.std.proofs.Common.{◌∙◌, lit<}
use Rattle.std.specs.Prelude.{Some, None}
use Rattle.std.proofs.lemmas.Str.Pattern.{split_once_first}
use Rattle.schema_keys.proofs.Fragments.{after_mark, after_none}
use Rattle.schema_keys.proofs.text.fragment_of.Goals as goal

pub returns-in-Some : goal.returns-in-Some
returns-in-Some c = record { fragment = (split_once_first 35 c.args.text.now (Some c.in-Some.parts) c.in-Some.ensures.cases (lit< tt)).2 ∙ after_mark c.args.text.now }

pub returns-in-None : goal.returns-in-None
returns-in-None c = record { fragment = after_none c.args.text.now (split_once_first 35 c.args.text.now None c.in-None.ensures.cases (lit< tt)) }
