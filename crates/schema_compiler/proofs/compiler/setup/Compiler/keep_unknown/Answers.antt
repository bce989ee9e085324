use Rattle.std.proofs.Common.{◌≡◌, false, refl, sym, ap, ◌∙◌}
use Rattle.std.specs.Prelude.{string_bytes}
use Rattle.serde_json.specs.View.{members_view}
use Rattle.serde_json.proofs.Views.{members_view-insert_entry}
use Rattle.schema_drafts.specs.KeywordViews.{draft_of}
use Rattle.schema_compiler.proofs.compiler.setup.Compiler.keep_unknown.Goals as goal

pub returns-in_ok-insert : goal.returns-in_ok-insert
returns-in_ok-insert g c =
    let known = rw c.as_str.ensures.value at c.is_known_keyword.ensures.known in
    let e : (g.R.Resolver.resolving c.args.self.now.resolver.now).is_known_keyword (draft_of c.args.key.now.draft) (string_bytes c.args.name.now) ≡ false = sym known ∙ c.if-not-is_known_keyword.true in
    record { kept = rw e (ap members_view c.in_ok-insert.ensures.entries ∙ members_view-insert_entry c.args.unknown.now.entries c.in_ok-own.own c.in_ok-clone.field-0 ∙ rw (c.in_ok-own.ensures.cases, c.in_ok-clone.ensures.cases) refl) }
