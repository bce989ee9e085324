-- Meta-schemas that are compiled one after the other.
use Rattle.std.proofs.Common.{true, ◌≡◌}
use Rattle.std.specs.Prelude.{is_some}
use Rattle.theory_definitions.specs.Drafts.{Draft, draft_2019_09, draft_2020_12, draft_4, draft_6, draft_7, draft_unknown}
use Rattle.meta_checker.specs.DraftChecks.{DraftPrograms, program_of}

-- a draft has a program
abbrev pub Has : {C M : Type 0} → DraftPrograms C M → Draft → Type 0
Has ps d = is_some (program_of ps d) ≡ true

-- if each known draft has one, so has an unknown draft
pub has_each : {C M : Type 0} (ps : DraftPrograms C M) → Has ps draft_4 → Has ps draft_6 → Has ps draft_7 → Has ps draft_2019_09 → Has ps draft_2020_12
    → (d : Draft) → is_some (program_of ps d) ≡ true
has_each ps four six seven early late draft_4 = four
has_each ps four six seven early late draft_6 = six
has_each ps four six seven early late draft_7 = seven
has_each ps four six seven early late draft_2019_09 = early
has_each ps four six seven early late draft_2020_12 = late
has_each ps four six seven early late draft_unknown = late
