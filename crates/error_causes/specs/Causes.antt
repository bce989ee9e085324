-- The causes of an error: the errors of an evaluation that stand inside its keyword, such as those of
-- the branches of `anyOf`, and the one of them that lies deepest in the instance. (Core 2020-12,
-- 12.3.1 to 12.3.3)
use Rattle.std.specs.List.{IsFirstMaxByKey, starts_with}
use Rattle.std.specs.Prelude.{Bool, List, None, Option, Some, bytes_eq, count_by, false, length, nat_eq, not, slice_get, true, ℕ, ◌&&◌, ◌==◌, ◌≡◌}
use Rattle.theory_definitions.specs.Instance.{Text}
use Rattle.theory_definitions.specs.Reports.{Report}
use Rattle.schema_output.specs.EntryViews.{shown_of}
use Rattle.schema_output.specs.Output.{Shown}
use Rattle.schema_output.specs.declared.errors.ErrorEntry.{ErrorEntry}

-- nothing follows in a pointer, or a further step does (RFC 6901, 3)
abbrev pub ends_or_steps : Option ℕ → Bool
ends_or_steps None = true
ends_or_steps (Some c) = c == 47

-- a pointer is another one, or points below it
abbrev pub is_within : Text → Text → Bool
is_within outer inner = starts_with nat_eq inner outer && ends_or_steps (slice_get inner (length outer))

-- a unit is at this evaluation path and at this instance
abbrev pub is_at : Text → Text → Report → Bool
is_at path instance r = bytes_eq r.evaluation_path path && bytes_eq r.instance_location instance

-- an error of an evaluation is a cause of the error of the keyword at this evaluation path, at this
-- instance: its unit is inside that keyword, and at that instance or below
abbrev pub is_cause : Text → Text → Shown → Bool
is_cause path instance s = (is_within path s.report.evaluation_path && is_within instance s.report.instance_location)
    && not (is_at path instance s.report)

-- how many steps a pointer has
abbrev pub steps_of : Text → ℕ
steps_of pointer = count_by (λ c. c == 47) pointer

-- how deep in the instance an error lies
abbrev pub depth_of : Shown → ℕ
depth_of s = steps_of s.report.instance_location

-- an error of the code lies this deep
abbrev pub entry_depth : ErrorEntry → ℕ
entry_depth e = depth_of (shown_of false e)

-- of these errors none lies deeper in the instance than this one, and none before it as deep
abbrev pub IsFirstDeepest : List ErrorEntry → ErrorEntry → Type 0
IsFirstDeepest es best = (i : ℕ) × (slice_get es i ≡ Some best) × IsFirstMaxByKey entry_depth es (length es) i
