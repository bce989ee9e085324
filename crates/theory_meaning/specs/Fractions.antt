-- Texts of errors are covered only if no fraction occurs, in the instance or in a schema that is
-- reached. The keywords that a table makes from an object without fractions are whole.
use Rattle.std.specs.Prelude.{◌≡◌, ℕ, ◌<◌, List, [], ◌∷◌, Bool, true, false, All, flat_map}
use Rattle.serde_json.specs.Data.{Members}
use Rattle.serde_json.specs.Written.{has_float, members_have_float}
use Rattle.theory_definitions.specs.Instance.{Text}
use Rattle.theory_definitions.specs.Drafts.{Draft, Vocabularies}
use Rattle.theory_definitions.specs.Making.{Table, followed, a_keyword}
use Rattle.theory_definitions.specs.Parts.{Parts}
use Rattle.theory_definitions.specs.Plan.{Key, schema_of}
use Rattle.theory_definitions.specs.Guarded.{NodeForm, node_keyword, node_reference, NodePlan, node_always, node_never, node_these, Nodes}
use Rattle.theory_meaning.specs.Numbered.{Numbers, IsNumber, AreNumbered}

-- A keyword that is made from an object without fractions is whole.
abbrev pub MakesWhole : {K : Type 0} → (K → Bool) → Table K → Type 0
MakesWhole {K} is_whole table = (custom : Bool) (name : Text) (whole : Members) (draft : Draft) (vocabularies : Vocabularies) (formats : Bool) (is_self : Text → Bool) (m : K) (absorbed : List Text)
    → (followed is_self (table.script custom name whole draft vocabularies formats)).ends ≡ a_keyword m absorbed → members_have_float whole ≡ false → is_whole m ≡ true

-- The keywords of one entry of a node.
abbrev pub form_words : {K : Type 0} → NodeForm K → List K
form_words (node_keyword m es) = m ∷ []
form_words (node_reference e) = []

-- The keywords of a node.
abbrev pub node_words : {K : Type 0} → NodePlan K → List K
node_words node_always = []
node_words node_never = []
node_words (node_these xs) = flat_map (λ x. form_words x.form) xs

-- The keyword is whole.
abbrev pub IsWholeWord : {K : Type 0} → (K → Bool) → K → Type 0
IsWholeWord is_whole m = is_whole m ≡ true

-- Each keyword of these numbers is whole.
abbrev pub AreWhole : {K : Type 0} → (K → Bool) → Nodes K → ℕ → Type 0
AreWhole is_whole nodes count = (i : ℕ) → i < count → All (IsWholeWord is_whole) (node_words (nodes.entries i))

-- If the schema of a number's key contains no fraction, the keywords of the number are whole.
abbrev pub NumbersAreWhole : {S K R : Type 0} → Parts S K R → (K → Bool) → Numbers S → Nodes K → Type 0
NumbersAreWhole {S} w is_whole keys nodes = MakesWhole is_whole w.table → AreNumbered w keys nodes
    → (i : ℕ) (k : Key S) → IsNumber keys i k → has_float (schema_of w k) ≡ false → All (IsWholeWord is_whole) (node_words (nodes.entries i))
