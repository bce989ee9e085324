-- What numbered nodes mean for an instance, as a sense: what they say and meet from some depth on.
use Rattle.std.specs.Prelude.{[], ◌≡◌, ℕ, ◌≤◌, length, Decides}
use Rattle.serde_json.specs.Data.{Data}
use Rattle.theory_definitions.specs.Matching.{Completion, Matcher}
use Rattle.theory_definitions.specs.Keywords.{Keywords}
use Rattle.theory_definitions.specs.Parts.{Parts}
use Rattle.theory_definitions.specs.Plan.{Key}
use Rattle.theory_definitions.specs.Reports.{Unit_}
use Rattle.theory_definitions.specs.Cover.{Sense}
use Rattle.theory_definitions.specs.Laws.{EachKeeps}
use Rattle.theory_definitions.specs.Guarded.{Nodes, guarded_sense, guarded_units}
use Rattle.theory_meaning.specs.Headline.{Guardedly, Plainly, PlainlyWithUnits}
use Rattle.theory_meaning.specs.Numbered.{Numbers, IsNumber, AreNumbered, Ranked, ValuesInside, MakersAskBelow, subject_in}

module _ {K R : Type 0} (keywords : Keywords K R) (matcher : Matcher) (nodes : Nodes K) (root : ℕ) (instance : Data) where
  -- The nodes mean this sense.
  abbrev pub Means : Sense → Type 0
  Means v = (deep : ℕ) × ((n : ℕ) → deep ≤ n → guarded_sense keywords matcher nodes (subject_in instance) n root ≡ v)

  -- A fact that holds of every sense that the nodes mean.
  abbrev pub OfEverySense : (Sense → Type 0) → Type 0
  OfEverySense fact = (v : Sense) → Means v → fact v

  -- A fact that holds of what the nodes say from some depth on, even if chains of questions return.
  abbrev pub FromSomeDepth : (Sense → Type 0) → Type 0
  FromSomeDepth fact = Guardedly keywords matcher nodes (subject_in instance) root fact

  -- From some depth on, the nodes have these units under each completion.
  abbrev pub HaveUnits : (Completion → Unit_) → Type 0
  HaveUnits units = (deep : ℕ) × ((n : ℕ) → deep ≤ n → (c : Completion) → guarded_units keywords matcher nodes (subject_in instance) c n root [] [] [] ≡ units c)

-- If no chain of questions returns, numbers in place of keys have the plain meaning of the root's
-- key.
abbrev pub NumbersMean : {S K R : Type 0} → Parts S K R → Numbers S → Nodes K → Type 0
NumbersMean {S} w keys nodes = EachKeeps w.keywords → ValuesInside w → MakersAskBelow w.table → ((a b : S) → Decides (w.resolver.same_state a b) (a ≡ b)) → AreNumbered w keys nodes → Ranked nodes (length keys)
    → (instance : Data) (i : ℕ) (root : Key S) → IsNumber keys i root → Plainly w root instance (Means w.keywords w.matcher nodes i instance)

-- If no chain of questions returns, numbers in place of keys have the units of the plain meaning.
abbrev pub NumbersHaveUnits : {S K R : Type 0} → Parts S K R → Numbers S → Nodes K → Type 0
NumbersHaveUnits {S} w keys nodes = EachKeeps w.keywords → ValuesInside w → MakersAskBelow w.table → ((a b : S) → Decides (w.resolver.same_state a b) (a ≡ b)) → AreNumbered w keys nodes → Ranked nodes (length keys)
    → (instance : Data) (i : ℕ) (root : Key S) → IsNumber keys i root → PlainlyWithUnits w root instance (λ v units. HaveUnits w.keywords w.matcher nodes i instance units)
