use Rattle.std.proofs.Common.{◌∙◌, subst, sym}
use Rattle.std.specs.Cmp.Lexicographic.{slice_cmp}
use Rattle.std.specs.List.Sorted.{IsStrictlySortedBy}
use Rattle.std.specs.Ordering.{nat_cmp}
use Rattle.std.specs.Rc.{rc_str_bytes}
use Rattle.schema_traits.proofs.NamesAscend.{cloned_alike}
use Rattle.schema_traits.proofs.ascending.AscendingNamesClone.clone.Goals as goal

pub invariant_of-result : goal.invariant_of-result
invariant_of-result c = subst (IsStrictlySortedBy (slice_cmp nat_cmp)) (sym (cloned_alike rc_str_bytes c.self.inside.names.items c.in_ok-names.names.items c.in_ok-names.ensures.cases.0)) c.self.invariant

pub returns : goal.returns
returns c = record { cases = cloned_alike rc_str_bytes c.self.inside.names.items c.in_ok-names.names.items c.in_ok-names.ensures.cases.0 ∙ c.self.view_is }
