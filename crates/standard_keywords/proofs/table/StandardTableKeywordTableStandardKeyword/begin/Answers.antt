use Rattle.std.proofs.Common.{subst}
use Rattle.std.specs.Prelude.{Option}
use Rattle.serde_json.specs.Find.{get_member}
use Rattle.serde_json.specs.View.{members_view}
use Rattle.theory_definitions.specs.Instance.{Text}
use Rattle.schema_drafts.specs.KeywordViews.{draft_of}
use Rattle.schema_traits.specs.MakerViews.{begun, is_own, name_of}
use Rattle.schema_traits.specs.Showing.{Shows}
use Rattle.standard_keywords.specs.StandardScripts.{standard_waiting, treated_script, unless_refused}
use Rattle.standard_keywords.proofs.table.StandardTableKeywordTableStandardKeyword.begin.Goals as goal

pub returns-in-None : goal.returns-in-None
returns-in-None c =
    let name = name_of c.args.origin in
    let object = members_view c.args.object.now.entries in
    let script = treated_script (is_own c.args.origin) name object (draft_of c.args.draft) c.args.vocabularies.now c.args.formats in
    let none = rw c.in-None.is at c.in_ok-refusal.ensures.refusal in
    record {
      begins = subst (λ (refusal : Option Text). Shows standard_waiting c.maker_of.result (begun (unless_refused refusal name (get_member name object) script))) none c.maker_of.ensures.maker;
    }

pub returns-in-Some : goal.returns-in-Some
returns-in-Some c =
    let name = name_of c.args.origin in
    let object = members_view c.args.object.now.entries in
    let script = treated_script (is_own c.args.origin) name object (draft_of c.args.draft) c.args.vocabularies.now c.args.formats in
    let some = rw c.in-Some.is at c.in_ok-refusal.ensures.refusal in
    let refused = rw c.name.ensures.name at c.refused_at.ensures.maker in
    record {
      begins = subst (λ (refusal : Option Text). Shows standard_waiting c.refused_at.result (begun (unless_refused refusal name (get_member name object) script))) some refused;
    }
