-- The first error that a validator reports of an instance, as data, if its matcher leaves no match
-- unfinished. (Core 2020-12, 4.3.5 and 8.1)
use Rattle.std.specs.Prelude.{Bool, None, Option, length, ◌<◌, ◌≡◌, ◌≤◌}
use Rattle.serde_json.specs.Data.{Data}
use Rattle.theory_definitions.specs.Reports.{Error}
use Rattle.theory_meaning.specs.Fractions.{AreWhole}
use Rattle.theory_meaning.specs.Numbered.{Ranked}
use Rattle.schema_traits.specs.MatcherViews.{FinishesEach}
use Rattle.schema_traits.specs.declared.keyword.Validate.{Ghosts as KeywordMembers}
use Rattle.schema_traits.specs.declared.matcher.Matcher.{Ghosts as MatcherMembers}
use Rattle.schema_node_table.specs.NodeTable.{numbered}
use Rattle.schema_compiled.specs.Program.{Program}
use Rattle.meta_checker.specs.FirstErrors.{first_told}

-- C is a keyword of the code, K its abstract value, M a matcher of the code
module _ {C Run K M : Type 0} (keywords : KeywordMembers C Run K) (matchers : MatcherMembers M) (p : Program C M) where
  -- the first error, if there is one; its text is empty unless texts are covered
  abbrev pub first_by : Bool → Data → Option Error
  first_by texts instance = first_told (keywords.words texts) (matchers.matching p.matcher) (numbered keywords.shape p.nodes) (length p.nodes) p.root instance

  -- the matcher leaves no match unfinished, no text of a keyword shows a fraction, the nodes are
  -- those of a validator, and a call has no limit on steps and none on depth
  pub record Checks : Type 0 where
    pub finishes : FinishesEach (matchers.matching p.matcher)
    pub whole : AreWhole keywords.is_whole (numbered keywords.shape p.nodes) (length p.nodes)
    pub ranked : Ranked (numbered keywords.shape p.nodes) (length p.nodes)
    pub inside : p.root < length p.nodes
    pub some : 1 ≤ p.runs
    pub unlimited : p.work ≡ None
    pub shallow : p.depth ≡ None
