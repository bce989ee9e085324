use Rattle.std.proofs.Common.{sym, arith, lit<}
use Rattle.serde_json.specs.View.{view}
use Rattle.std.proofs.lemmas.Bool.Decides.{nat_tests}
use Rattle.std.proofs.lemmas.Str.Pattern.{strip_prefix_char}
use Rattle.standard_subschemas.proofs.PointerTexts.{no_path}
use Rattle.standard_subschemas.proofs.pointers.path_of_pointer.Goals as goal

pub returns-in-None : goal.returns-in-None
returns-in-None c =
    let other = rw c.in-None.is at
    (strip_prefix_char 47 c.args.pointer.now c.strip_prefix.result c.strip_prefix.ensures.cases (lit< tt)) in
    record { path = sym (no_path c.args.pointer.now (view c.args.document.now) (grind (arith, nat_tests)) other) }
