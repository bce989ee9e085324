use Rattle.std.proofs.Common.{◌∙◌, ap, lit<, sym}
use Rattle.std.proofs.lemmas.Str.Pattern.{strip_suffix_char}
use Rattle.standard_outputs.specs.Hierarchical.{without_last_hash}
use Rattle.standard_outputs.proofs.Hashes.{hash_cut, hash_kept}
use Rattle.standard_outputs.proofs.hierarchical_units.without_last_hash.Goals as goal

pub returns-in-Some : goal.returns-in-Some
returns-in-Some c =
    let cut = rw c.in-Some.is at (strip_suffix_char 35 c.args.uri.now c.strip_suffix.result c.strip_suffix.ensures.cases (lit< tt)) in
    record { uri = sym (hash_cut c.in-Some.rest.now) ∙ ap without_last_hash (sym cut) }

pub returns-in-None : goal.returns-in-None
returns-in-None c =
    let none = rw c.in-None.is at (strip_suffix_char 35 c.args.uri.now c.strip_suffix.result c.strip_suffix.ensures.cases (lit< tt)) in
    record { uri = sym (hash_kept c.args.uri.now none) }
