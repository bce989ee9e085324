-- The five keywords mean what the definitions of the five say.
use Rattle.std.specs.Prelude.{Bool, List, Option, codes, map, option_map, true, ℕ, ◌↔◌, ◌≡◌}
use Rattle.theory_definitions.specs.Instance.{Subject, Text}
use Rattle.theory_definitions.specs.Keywords.{Answers, Question, here, passed}
use Rattle.theory_definitions.specs.Matching.{Matching}
use Rattle.theory_definitions.specs.Reports.{Error}
use Rattle.keyword_authoring.specs.Items.{each_from}
use Rattle.schema_applicators.specs.AllOf.{AllAccept, all_errors}
use Rattle.schema_applicators.specs.AnyOf.{OneAccepts}
use Rattle.schema_applicators.specs.ApplicatorShape.{has_all_of, has_any_of, has_if, has_not, has_one_of}
use Rattle.schema_applicators.specs.If.{branch_accepts, branch_errors, picked}
use Rattle.schema_applicators.specs.Not.{Refuses}
use Rattle.schema_applicators.specs.OneOf.{OneAcceptsAlone}
use Rattle.schema_applicators.specs.OwnErrors.{OneUnless}
use Rattle.schema_applicators.specs.Words.{words}

-- the question that evaluates the keyword's schema with this number at the instance's own place
abbrev pub schema : ℕ → Question
schema i = record { child = i; below = here }

-- the questions for the first n schemas, in order
abbrev pub schemas : ℕ → List Question
schemas n = each_from schema 0 n

abbrev pub verdict_in : Answers → Question → Bool
verdict_in answers q = (answers q).verdict

abbrev pub errors_in : Answers → Question → List Error
errors_in answers q = (answers q).errors

module _ (texts : Bool) (s : Subject) (matches : Matching) where
  -- ---- `allOf`

  abbrev pub AllOfHolds : Type 0
  AllOfHolds = (n : ℕ) (accepts : Question → Bool) → ((words texts).holds (has_all_of n) s matches accepts ≡ true) ↔ AllAccept (map accepts (schemas n))

  abbrev pub AllOfFaults : Type 0
  AllOfFaults = (n : ℕ) (answers : Answers) → (words texts).faults (has_all_of n) s matches answers ≡ map passed (all_errors (map (errors_in answers) (schemas n)))

  -- ---- `anyOf`

  abbrev pub AnyOfHolds : Type 0
  AnyOfHolds = (n : ℕ) (accepts : Question → Bool) → ((words texts).holds (has_any_of n) s matches accepts ≡ true) ↔ OneAccepts (map accepts (schemas n))

  abbrev pub AnyOfFaults : Type 0
  AnyOfFaults = (n : ℕ) (answers : Answers) → OneUnless (OneAccepts (map (verdict_in answers) (schemas n))) (codes "anyOf") ((words texts).faults (has_any_of n) s matches answers)

  -- ---- `oneOf`

  abbrev pub OneOfHolds : Type 0
  OneOfHolds = (n : ℕ) (accepts : Question → Bool) → ((words texts).holds (has_one_of n) s matches accepts ≡ true) ↔ OneAcceptsAlone (map accepts (schemas n))

  abbrev pub OneOfFaults : Type 0
  OneOfFaults = (n : ℕ) (answers : Answers) → OneUnless (OneAcceptsAlone (map (verdict_in answers) (schemas n))) (codes "oneOf") ((words texts).faults (has_one_of n) s matches answers)

  -- ---- `not`, whose schema has this text

  abbrev pub NotHolds : Type 0
  NotHolds = (text : Text) (fraction : Bool) (accepts : Question → Bool) → ((words texts).holds (has_not text fraction) s matches accepts ≡ true) ↔ Refuses (accepts (schema 0))

  abbrev pub NotFaults : Type 0
  NotFaults = (text : Text) (fraction : Bool) (answers : Answers)
      → OneUnless (Refuses (verdict_in answers (schema 0))) (codes "not") ((words texts).faults (has_not text fraction) s matches answers)

  -- ---- `if`, whose branches are the schemas with these numbers

  abbrev pub IfHolds : Type 0
  IfHolds = (under_then under_else : Option ℕ) (accepts : Question → Bool)
      → (words texts).holds (has_if under_then under_else) s matches accepts
      ≡ branch_accepts (picked (accepts (schema 0)) (option_map (λ i. accepts (schema i)) under_then) (option_map (λ i. accepts (schema i)) under_else))

  abbrev pub IfFaults : Type 0
  IfFaults = (under_then under_else : Option ℕ) (answers : Answers)
      → (words texts).faults (has_if under_then under_else) s matches answers
      ≡ map passed (branch_errors (picked (verdict_in answers (schema 0)) (option_map (λ i. errors_in answers (schema i)) under_then) (option_map (λ i. errors_in answers (schema i)) under_else)))
