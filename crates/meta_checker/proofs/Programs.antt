-- A draft's program is added to those of the drafts.
use Rattle.std.proofs.Common.{◌≡◌, refl, true}
use Rattle.std.specs.Prelude.{is_some}
use Rattle.theory_definitions.specs.Drafts.{Draft, draft_2019_09, draft_2020_12, draft_4, draft_6, draft_7, draft_unknown}
use Rattle.schema_compiled.specs.Program.{Program}
use Rattle.meta_checker.specs.DraftChecks.{DraftPrograms, EachChecks, known, no_programs, program_of, with_program}

module _ {C M : Type 0} where
  -- the draft has a program then
  pub has_program : (ps : DraftPrograms C M) (d : Draft) (p : Program C M) → is_some (program_of (with_program ps (known d) p) d) ≡ true
  has_program ps draft_4 p = refl
  has_program ps draft_6 p = refl
  has_program ps draft_7 p = refl
  has_program ps draft_2019_09 p = refl
  has_program ps draft_2020_12 p = refl
  has_program ps draft_unknown p = refl

  -- and so has each that had one
  pub keeps_programs : (ps : DraftPrograms C M) (d : Draft) (p : Program C M) (e : Draft) → is_some (program_of ps e) ≡ true
      → is_some (program_of (with_program ps d p) e) ≡ true
  keeps_programs ps draft_4 p draft_4 had = refl
  keeps_programs ps draft_4 p draft_6 had = had
  keeps_programs ps draft_4 p draft_7 had = had
  keeps_programs ps draft_4 p draft_2019_09 had = had
  keeps_programs ps draft_4 p draft_2020_12 had = had
  keeps_programs ps draft_4 p draft_unknown had = had
  keeps_programs ps draft_6 p draft_4 had = had
  keeps_programs ps draft_6 p draft_6 had = refl
  keeps_programs ps draft_6 p draft_7 had = had
  keeps_programs ps draft_6 p draft_2019_09 had = had
  keeps_programs ps draft_6 p draft_2020_12 had = had
  keeps_programs ps draft_6 p draft_unknown had = had
  keeps_programs ps draft_7 p draft_4 had = had
  keeps_programs ps draft_7 p draft_6 had = had
  keeps_programs ps draft_7 p draft_7 had = refl
  keeps_programs ps draft_7 p draft_2019_09 had = had
  keeps_programs ps draft_7 p draft_2020_12 had = had
  keeps_programs ps draft_7 p draft_unknown had = had
  keeps_programs ps draft_2019_09 p draft_4 had = had
  keeps_programs ps draft_2019_09 p draft_6 had = had
  keeps_programs ps draft_2019_09 p draft_7 had = had
  keeps_programs ps draft_2019_09 p draft_2019_09 had = refl
  keeps_programs ps draft_2019_09 p draft_2020_12 had = had
  keeps_programs ps draft_2019_09 p draft_unknown had = had
  keeps_programs ps draft_2020_12 p draft_4 had = had
  keeps_programs ps draft_2020_12 p draft_6 had = had
  keeps_programs ps draft_2020_12 p draft_7 had = had
  keeps_programs ps draft_2020_12 p draft_2019_09 had = had
  keeps_programs ps draft_2020_12 p draft_2020_12 had = refl
  keeps_programs ps draft_2020_12 p draft_unknown had = refl
  keeps_programs ps draft_unknown p draft_4 had = had
  keeps_programs ps draft_unknown p draft_6 had = had
  keeps_programs ps draft_unknown p draft_7 had = had
  keeps_programs ps draft_unknown p draft_2019_09 had = had
  keeps_programs ps draft_unknown p draft_2020_12 had = refl
  keeps_programs ps draft_unknown p draft_unknown had = refl

  -- what is specified of each stays so
  pub each_with : (checks : Draft → Program C M → Type 0) (ps : DraftPrograms C M) (d : Draft) (p : Program C M) → checks (known d) p
      → EachChecks checks ps → EachChecks checks (with_program ps (known d) p)
  each_with checks ps draft_4 p is each = record {
    of_draft_4 = is;
    of_draft_6 = each.of_draft_6;
    of_draft_7 = each.of_draft_7;
    of_2019_09 = each.of_2019_09;
    of_2020_12 = each.of_2020_12;
  }
  each_with checks ps draft_6 p is each = record {
    of_draft_4 = each.of_draft_4;
    of_draft_6 = is;
    of_draft_7 = each.of_draft_7;
    of_2019_09 = each.of_2019_09;
    of_2020_12 = each.of_2020_12;
  }
  each_with checks ps draft_7 p is each = record {
    of_draft_4 = each.of_draft_4;
    of_draft_6 = each.of_draft_6;
    of_draft_7 = is;
    of_2019_09 = each.of_2019_09;
    of_2020_12 = each.of_2020_12;
  }
  each_with checks ps draft_2019_09 p is each = record {
    of_draft_4 = each.of_draft_4;
    of_draft_6 = each.of_draft_6;
    of_draft_7 = each.of_draft_7;
    of_2019_09 = is;
    of_2020_12 = each.of_2020_12;
  }
  each_with checks ps draft_2020_12 p is each = record {
    of_draft_4 = each.of_draft_4;
    of_draft_6 = each.of_draft_6;
    of_draft_7 = each.of_draft_7;
    of_2019_09 = each.of_2019_09;
    of_2020_12 = is;
  }
  each_with checks ps draft_unknown p is each = record {
    of_draft_4 = each.of_draft_4;
    of_draft_6 = each.of_draft_6;
    of_draft_7 = each.of_draft_7;
    of_2019_09 = each.of_2019_09;
    of_2020_12 = is;
  }

  -- no program is one that is not as specified
  pub each_of_none : (checks : Draft → Program C M → Type 0) → EachChecks checks no_programs
  each_of_none checks = record { of_draft_4 = tt; of_draft_6 = tt; of_draft_7 = tt; of_2019_09 = tt; of_2020_12 = tt }
