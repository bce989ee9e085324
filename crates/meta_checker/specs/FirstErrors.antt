-- The first error that numbered nodes report of an instance, if the matcher leaves no match
-- unfinished. It is a function of the instance: the first error at a sufficient depth of questions.
-- A call that answers by the nodes from some depth on returns this error, even if chains of
-- references return. (Core 2020-12, 4.3.5 and 8.1)
use Rattle.std.specs.Prelude.{None, Option, [], suc, ℕ, ◌<◌, ◌≡◌, ◌≤◌}
use Rattle.serde_json.specs.Data.{Data}
use Rattle.theory_definitions.specs.Cover.{Sense, branch_at, validate}
use Rattle.theory_definitions.specs.Guarded.{Nodes, guarded_sense}
use Rattle.theory_definitions.specs.Instance.{a_value}
use Rattle.theory_definitions.specs.Keywords.{Keywords}
use Rattle.theory_definitions.specs.Laws.{EachKeeps}
use Rattle.theory_definitions.specs.Matching.{Matcher, completion_of}
use Rattle.theory_definitions.specs.Reports.{Error}
use Rattle.theory_definitions.specs.Runs.{first_error}
use Rattle.theory_meaning.specs.Headline.{FirstSays, Guardedly}
use Rattle.theory_meaning.specs.Members.{Finishes}
use Rattle.theory_meaning.specs.Numbered.{Ranked, left, subject_in}

module _ {K R : Type 0} (keywords : Keywords K R) (matcher : Matcher) (nodes : Nodes K) (count root : ℕ) (instance : Data) where
  -- a depth beyond which more depth changes nothing
  abbrev pub enough : ℕ
  enough = suc (left nodes count root (a_value instance) [])

  -- what the nodes report of the instance at that depth
  abbrev pub settled_sense : Sense
  settled_sense = guarded_sense keywords matcher nodes (subject_in instance) enough root

  -- their first error, if there is one
  abbrev pub first_told : Option Error
  first_told = first_error ((settled_sense.says (completion_of [])).errors)

-- a call returns this first error, or none, if its first run meets no unfinished match
abbrev pub FirstAlone : Sense → ℕ → Option Error → Type 0
FirstAlone v most o = branch_at v validate [] ≡ None → FirstSays v most o

-- if the matcher finishes every match, then a call that returns this first error returns the one
-- that the nodes report of the instance
abbrev pub FirstIsTold : {K R : Type 0} → Keywords K R → Type 0
FirstIsTold {K} keywords = EachKeeps keywords → (matcher : Matcher) → Finishes matcher → (nodes : Nodes K) (count : ℕ) → Ranked nodes count
    → (instance : Data) (root : ℕ) → root < count → (most : ℕ) → 1 ≤ most → (o : Option Error)
    → Guardedly keywords matcher nodes (subject_in instance) root (λ v. FirstAlone v most o) → o ≡ first_told keywords matcher nodes count root instance
