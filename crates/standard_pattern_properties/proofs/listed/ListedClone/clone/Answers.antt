use Rattle.std.proofs.Common.{◌≡◌, ◌∙◌, map, string_bytes, subst, sym}
use Rattle.std.specs.Prelude.{IfSome}
use Rattle.standard_pattern_properties.proofs.ListedNames.{alike_if_some, cloned_alike}
use Rattle.standard_pattern_properties.proofs.listed.ListedClone.clone.Goals as goal

pub returns : goal.returns
returns c = record { cases = cloned_alike c.self.inside.names.keys c.in_ok-names.names.keys c.in_ok-names.ensures.cases ∙ c.self.view_is }

pub invariant_of-result : goal.invariant_of-result
invariant_of-result c =
    let same = cloned_alike c.self.inside.names.keys c.in_ok-names.names.keys c.in_ok-names.ensures.cases in
    alike_if_some (λ names. names ≡ map string_bytes c.in_ok-names.names.keys) c.self.inside.ascending c.in_ok-ascending.ascending c.in_ok-ascending.ensures.cases
    (subst (λ ks. IfSome c.self.inside.ascending (λ names. names ≡ ks)) (sym same) c.self.invariant)
