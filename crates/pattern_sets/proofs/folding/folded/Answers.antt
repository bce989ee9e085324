use Rattle.std.proofs.Common.{◌∙◌, sym, refl}
use Rattle.pattern_sets.proofs.Repeating.{fold_bounded, fold_inner, fold_outer}
use Rattle.pattern_sets.proofs.folding.folded.Goals as goal

pub returns-in_default : goal.returns-in_default
returns-in_default c =
    record { alike = λ p. fold_inner c.args.outer c.args.inner c.more_turns-more.result c.in_ok-min.min p c.more_turns-more.ensures.more (sym c.in_default.is ∙ c.more_turns.ensures.more) c.in_ok-min.ensures.least (c.if-not-is_open.ensures.some refl) }

pub returns-in_default-more : goal.returns-in_default-more
returns-in_default-more c =
    record { alike = λ p. fold_outer c.args.outer c.args.inner c.in-Some.extra c.in_ok-min.min p c.in_default-more.ensures.more c.in-Some.ensures.more c.in_ok-min.ensures.least (c.if-not-goes_on.ensures.some refl) (c.if-not-goes_on.ensures.reach refl) }

pub returns : goal.returns
returns c =
    record { alike = λ p. fold_bounded c.args.outer c.args.inner c.in-Some-more.more c.in-Some.extra c.in_ok-min.min c.in_ok-max.max p c.in-Some-more.ensures.more c.in-Some.ensures.more c.in_ok-min.ensures.least (c.if-not-has_no_gap.ensures.gap refl) c.in_ok-max.ensures.all }
