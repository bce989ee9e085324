use Rattle.std.proofs.Common.{◌≡◌, drop}
use Rattle.std.specs.Slice.Iter.{iter_rest}
use Rattle.serde_json.specs.View.{items_view}
use Rattle.test_rows.specs.Wanted.{are_these_errors}
use Rattle.test_rows.proofs.comparing.are_these_errors.Given as goal

abbrev pub invariant-loop-error : goal.invariant-loop-error
invariant-loop-error l =
    are_these_errors (items_view l.errors) (items_view l.wanted)
    ≡ are_these_errors (items_view (drop l.error-index l.errors)) (items_view (iter_rest l.others))
