use Rattle.std.proofs.Common.{sym, ◌∙◌, ap}
use Rattle.std.specs.Prelude.{option_map}
use Rattle.schema_drafts.specs.KeywordViews.{draft_of}
use Rattle.schema_traits.specs.ResolverViews.{place_of, entrance_of}
use Rattle.schema_validator.proofs.options.root.root_key.Goals as goal

pub returns-in_ok-key_at-in-Some-clause-key : goal.returns-in_ok-key_at-in-Some-clause-key
returns-in_ok-key_at-in-Some-clause-key g c =
    let point = g.R.Resolver.point in
    let r = g.R.Resolver.resolving c.args.resolver.now in
    record {
      draft = draft_of c.in_ok-draft.draft;
      entrance = record { place = place_of c.in-Some.place; state = point c.in-Some.state };
      drafted = c.in_ok-draft.ensures.drafted;
      entered = ap r.root (sym c.base_of-base.ensures.base) ∙ sym c.in_ok-state.ensures.root ∙ ap (option_map (entrance_of point)) c.in-Some.is;
      is_key = c.in_ok-key_at-in-Some.ensures.key;
    }
