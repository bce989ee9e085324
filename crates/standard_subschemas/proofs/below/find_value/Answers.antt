use Rattle.std.proofs.Common.{map}
use Rattle.std.proofs.lemmas.Result.{IfOk-equal}
use Rattle.serde_json.specs.Data.{object}
use Rattle.serde_json.specs.View.{members_view, view}
use Rattle.standard_subschemas.specs.FoundViews.{found_of}
use Rattle.standard_subschemas.proofs.Finding.{read_is, value_found}
use Rattle.standard_subschemas.proofs.below.find_value.Goals as goal

pub returns : goal.returns
returns c =
    let schema = object (members_view c.args.members.now.entries) in
    let at = read_is c.member.result c.in-Some.value _ c.member.ensures.member c.in-Some.is in
    record {
      found = IfOk-equal c.add_schema.result _ _ _ c.add_schema.ensures.added
          (value_found schema c.args.keyword.now (map found_of c.args.found.now.items) (view c.in-Some.value.now) at);
    }
