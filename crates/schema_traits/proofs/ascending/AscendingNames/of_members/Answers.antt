use Rattle.std.proofs.Common.{◌≡◌, ◌∙◌, ◌++◌, ap, append-nil, map, string_bytes, subst, sym}
use Rattle.std.specs.Cmp.Lexicographic.{slice_cmp}
use Rattle.std.specs.List.Sorted.{IsStrictlySortedBy}
use Rattle.std.specs.Map.{keys_of}
use Rattle.std.specs.Rc.{rc_str_bytes}
use Rattle.std.specs.Ordering.{nat_cmp}
use Rattle.schema_traits.proofs.NamesAscend.{texts_ascend}
use Rattle.schema_traits.proofs.ascending.AscendingNames.of_members.Goals as goal

pub invariant_of-result : goal.invariant_of-result
invariant_of-result c =
    let names = map rc_str_bytes c.loop-name.names.items in
    let all : names ++ map string_bytes (keys_of c.loop-name.name-iterator) ≡ map string_bytes (keys_of c.args.members.now.entries) = c.loop-name.invariant in
    let same : names ≡ map string_bytes (keys_of c.args.members.now.entries) = sym (append-nil names) ∙ ap (λ es. names ++ map string_bytes (keys_of es)) (sym c.in-None.ensures.steps.0) ∙ all in
    subst (IsStrictlySortedBy (slice_cmp nat_cmp)) (sym same) (texts_ascend (keys_of c.args.members.now.entries) c.into_iter-name-iterator.ensures.into_iter_gives.5)
