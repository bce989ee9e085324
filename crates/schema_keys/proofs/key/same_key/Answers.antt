use Rattle.std.proofs.Common.{◌∙◌, ap, sym, true≢false, rules}
use denote.Enum.Bare.{same_true}
use Rattle.schema_drafts.specs.contracts.keywords.drafts.Draft.{the_type}
use Rattle.std.proofs.lemmas.Bool.{eqb-true, eq-eqb}
use Rattle.schema_keys.specs.KeyViews.{key_of}
use Rattle.theory_definitions.specs.Plan.{Key}
use Rattle.schema_keys.proofs.SameKeys.{schema_place_true, vocabularies_true, one_key, places_differ, vocabularies_differ}
use Rattle.schema_drafts.specs.KeywordViews.{draft_of}
use Rattle.schema_keys.proofs.key.same_key.Goals as goal

pub returns-then-not-eq : goal.returns-then-not-eq
returns-then-not-eq g c =
    let v = key_of g.R.Resolver.point in
    record { same = (λ f. absurd (true≢false (sym f)), λ e. absurd (places_differ (v c.args.left.now) (v c.args.right.now) (sym c.eq.ensures ∙ c.if-not-eq.true) e)) }

pub returns-then-not-same : goal.returns-then-not-same
returns-then-not-same g c =
    let v = key_of g.R.Resolver.point in
    record { same = (λ f. absurd (true≢false (sym f)), λ e. absurd (vocabularies_differ (v c.args.left.now) (v c.args.right.now) (sym c.same.ensures.same ∙ c.if-not-same.true) e)) }

pub returns : goal.returns
returns g c =
    let v = key_of g.R.Resolver.point in
    let l = v c.args.left.now in
    let r = v c.args.right.now in
    record {
      same = (
        λ f. one_key l r (schema_place_true _ _ (sym c.eq.ensures ∙ c.if-not-eq.false)) ((g.met.R.Resolver.equal c.args.left.now.state c.args.right.now.state).0 (sym c.eq-2.ensures ∙ c.if-not-eq-2.false)) (ap draft_of (same_true the_type (search rules) _ _ (sym c.eq-3.ensures ∙ c.if-not-eq-3.false))) (vocabularies_true _ _ (sym c.same.ensures.same ∙ c.if-not-same.false)) (c.same_location.ensures.same.0 c.if-not-same_location.false) (c.same_location-2.ensures.same.0 c.if-not-same_location-2.false) (eqb-true _ _ f),
        λ e. eq-eqb _ _ (ap (λ (q : Key _). q.start) e),
      );
    }
