use Rattle.std.proofs.Common.{ℕ, ◌≡◌}
use Rattle.theory_definitions.specs.Keywords.{Answer}
use Rattle.standard_basics.specs.declared.names.NamesRun.{NamesRun}
use Rattle.test_parts.specs.Detours.{Detouring}
use Rattle.test_parts.proofs.detour_keyword.DetourKeywordValidate.begin.Goals as goal

both : (left before : ℕ) (run own : NamesRun × Answer) → before ≡ left → run ≡ own → ◌≡◌ {A = Detouring × Answer} ((left, run.0), run.1) ((before, own.0), own.1)
both left before run own e f = cc

pub returns : goal.returns
returns c = record { begins = λ texts. both _ _ _ _ (rw c.as_slice.ensures.value at c.matches_before.ensures.before) (c.in_ok-own.ensures.begins texts) }
