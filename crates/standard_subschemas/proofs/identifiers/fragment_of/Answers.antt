use Rattle.std.proofs.Common.{◌==◌, sym, lit<}
use Rattle.std.proofs.lemmas.Str.Pattern.{split_once_first}
use Rattle.standard_subschemas.proofs.Fragments.{none_after}
use Rattle.standard_subschemas.proofs.identifiers.fragment_of.Goals as goal

pub returns-in-Some : goal.returns-in-Some
returns-in-Some c =
    let cut = rw c.in-Some.is at (split_once_first 35 c.args.uri.now c.split_once.result c.split_once.ensures.cases (lit< tt)) in
    record { fragment = cut.2 }

pub returns-in-None : goal.returns-in-None
returns-in-None c =
    let none = rw c.in-None.is at (split_once_first 35 c.args.uri.now c.split_once.result c.split_once.ensures.cases (lit< tt)) in
    record { fragment = sym (none_after (λ x. x == 35) c.args.uri.now none) }
