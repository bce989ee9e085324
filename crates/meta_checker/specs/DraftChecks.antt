-- The meta validators as data: a program for each draft, or none. An unknown draft has that of
-- 2020-12. A draft that has none accepts no schema: it refuses each as the schema `false` does.
-- (Core 2020-12, 8.1.1)
use Rattle.std.specs.Prelude.{Bool, IfSome, None, Option, Some, []}
use Rattle.serde_json.specs.Data.{Data}
use Rattle.theory_definitions.specs.Drafts.{Draft, draft_2019_09, draft_2020_12, draft_4, draft_6, draft_7, draft_unknown}
use Rattle.theory_definitions.specs.Instance.{a_value}
use Rattle.theory_definitions.specs.Meaning.{false_error}
use Rattle.theory_definitions.specs.Reports.{Error}
use Rattle.schema_reports.specs.ReportViews.{where_of}
use Rattle.schema_traits.specs.declared.keyword.Validate.{Ghosts as KeywordMembers}
use Rattle.schema_traits.specs.declared.matcher.Matcher.{Ghosts as MatcherMembers}
use Rattle.schema_compiled.specs.Program.{Program}
use Rattle.meta_checker.specs.Checks.{first_by}

pub record DraftPrograms (C M : Type 0) : Type 0 where
  pub of_draft_4 : Option (Program C M)
  pub of_draft_6 : Option (Program C M)
  pub of_draft_7 : Option (Program C M)
  pub of_2019_09 : Option (Program C M)
  pub of_2020_12 : Option (Program C M)

-- no draft has a program
abbrev pub no_programs : {C M : Type 0} → DraftPrograms C M
no_programs = record { of_draft_4 = None; of_draft_6 = None; of_draft_7 = None; of_2019_09 = None; of_2020_12 = None }

abbrev pub program_of : {C M : Type 0} → DraftPrograms C M → Draft → Option (Program C M)
program_of ps draft_4 = ps.of_draft_4
program_of ps draft_6 = ps.of_draft_6
program_of ps draft_7 = ps.of_draft_7
program_of ps draft_2019_09 = ps.of_2019_09
program_of ps draft_2020_12 = ps.of_2020_12
program_of ps draft_unknown = ps.of_2020_12

-- the draft whose meta-schema a draft has: an unknown one has that of 2020-12
abbrev pub known : Draft → Draft
known draft_4 = draft_4
known draft_6 = draft_6
known draft_7 = draft_7
known draft_2019_09 = draft_2019_09
known draft_2020_12 = draft_2020_12
known draft_unknown = draft_2020_12

-- the programs, with this one for a draft
abbrev pub with_program : {C M : Type 0} → DraftPrograms C M → Draft → Program C M → DraftPrograms C M
with_program ps draft_4 p = record ps { of_draft_4 = Some p }
with_program ps draft_6 p = record ps { of_draft_6 = Some p }
with_program ps draft_7 p = record ps { of_draft_7 = Some p }
with_program ps draft_2019_09 p = record ps { of_2019_09 = Some p }
with_program ps draft_2020_12 p = record ps { of_2020_12 = Some p }
with_program ps draft_unknown p = record ps { of_2020_12 = Some p }

-- each program is one that is specified for its draft
pub record EachChecks {C M : Type 0} (checks : Draft → Program C M → Type 0) (ps : DraftPrograms C M) : Type 0 where
  pub of_draft_4 : IfSome ps.of_draft_4 (checks draft_4)
  pub of_draft_6 : IfSome ps.of_draft_6 (checks draft_6)
  pub of_draft_7 : IfSome ps.of_draft_7 (checks draft_7)
  pub of_2019_09 : IfSome ps.of_2019_09 (checks draft_2019_09)
  pub of_2020_12 : IfSome ps.of_2020_12 (checks draft_2020_12)

-- the error of a document of a draft that has no program
abbrev pub unchecked_error : Bool → Data → Error
unchecked_error texts document = false_error texts (where_of [] [] [] None) (a_value document)

-- the first error of a document by a program, or by none
abbrev pub first_of : {C Run K M : Type 0} → KeywordMembers C Run K → MatcherMembers M → Option (Program C M) → Bool → Data → Option Error
first_of keywords matchers None texts document = Some (unchecked_error texts document)
first_of keywords matchers (Some p) texts document = first_by keywords matchers p texts document

-- the first error of a document in a draft
abbrev pub checked_by : {C Run K M : Type 0} → KeywordMembers C Run K → MatcherMembers M → DraftPrograms C M → Bool → Draft → Data → Option Error
checked_by keywords matchers ps texts draft document = first_of keywords matchers (program_of ps draft) texts document
