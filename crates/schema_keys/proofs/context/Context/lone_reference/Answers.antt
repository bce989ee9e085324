use Rattle.std.proofs.Common.{◌≡◌, ◌∙◌, Bool, ap, sym, true, false, refl, true≢false}
use Rattle.std.specs.Prelude.{codes, not, option_map}
use Rattle.serde_json.specs.View.{view, members_view}
use Rattle.serde_json.proofs.Views.{view-lookup, view_of_ref}
use Rattle.theory_definitions.specs.Drafts.{ref_stands_alone}
use Rattle.schema_drafts.specs.KeywordViews.{draft_of}
use Rattle.schema_keys.proofs.Members.{member_of-get_member}
use Rattle.schema_keys.proofs.context.Context.lone_reference.Goals as goal

was_not : (b : Bool) → not b ≡ false → b ≡ true
was_not true e = refl
was_not false e = absurd (true≢false e)

pub returns-else-supports_adjacent_validation : goal.returns-else-supports_adjacent_validation
returns-else-supports_adjacent_validation g c =
    let e : ref_stands_alone (draft_of c.args.self.now.key.now.draft) ≡ true = was_not _ (sym c.supports_adjacent_validation.ensures.beside ∙ c.if-supports_adjacent_validation.false) in
    record { alone = rw e (view_of_ref c.get.result ∙ ap (option_map view) c.get.ensures.value ∙ view-lookup (codes "$ref") c.args.members.now.entries ∙ sym (member_of-get_member (codes "$ref") (members_view c.args.members.now.entries))) }
