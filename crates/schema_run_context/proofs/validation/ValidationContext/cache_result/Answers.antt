use Rattle.std.proofs.Common.{length, subst}
use Rattle.schema_run_context.specs.Progress.{FewRows, IsWide, root_places, row_words}
use Rattle.schema_run_context.specs.Rows.{row_numbers}
use Rattle.schema_run_context.proofs.Few.{few_lists}
use Rattle.schema_run_context.proofs.RowsChanged.{distinct_rows}
use Rattle.schema_run_context.proofs.Widths.{all_wide}
use Rattle.schema_run_context.proofs.validation.ValidationContext.cache_result.Goals as goal

pub returns-then-saturating_sub-lt-MEMO_MIN_VISITS-clause-few : goal.returns-then-saturating_sub-lt-MEMO_MIN_VISITS-clause-few
returns-then-saturating_sub-lt-MEMO_MIN_VISITS-clause-few c =
    subst FewRows c.self.view_is (few_lists (row_numbers c.self.inside.guard) (row_numbers c.self.inside.known) (distinct_rows c.self.inside.known))

pub returns-then-not-is_container-clause-few : goal.returns-then-not-is_container-clause-few
returns-then-not-is_container-clause-few c =
    subst FewRows c.self.view_is (few_lists (row_numbers c.self.inside.guard) (row_numbers c.self.inside.known) (distinct_rows c.self.inside.known))

pub returns-then-not-is_alone-clause-few : goal.returns-then-not-is_alone-clause-few
returns-then-not-is_alone-clause-few c =
    subst FewRows c.self.view_is (few_lists (row_numbers c.self.inside.guard) (row_numbers c.self.inside.known) (distinct_rows c.self.inside.known))

pub returns-then-saturating_sub-lt-MEMO_MIN_VISITS-clause-wide : goal.returns-then-saturating_sub-lt-MEMO_MIN_VISITS-clause-wide
returns-then-saturating_sub-lt-MEMO_MIN_VISITS-clause-wide c =
    let i = c.self.inside in
    subst IsWide c.self.view_is (all_wide (row_words (length (root_places i.places))) i.guard i.known c.self.invariant.wide_guard c.self.invariant.wide_known)

pub returns-then-not-is_container-clause-wide : goal.returns-then-not-is_container-clause-wide
returns-then-not-is_container-clause-wide c =
    let i = c.self.inside in
    subst IsWide c.self.view_is (all_wide (row_words (length (root_places i.places))) i.guard i.known c.self.invariant.wide_guard c.self.invariant.wide_known)

pub returns-then-not-is_alone-clause-wide : goal.returns-then-not-is_alone-clause-wide
returns-then-not-is_alone-clause-wide c =
    let i = c.self.inside in
    subst IsWide c.self.view_is (all_wide (row_words (length (root_places i.places))) i.guard i.known c.self.invariant.wide_guard c.self.invariant.wide_known)
