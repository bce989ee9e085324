use Rattle.pattern_sets.proofs.FormsAlike.{sets_alike}
use Rattle.pattern_sets.proofs.preparing.one_set.Goals as goal

pub returns : goal.returns
returns c =
    record { alike = rw (c.in-OneOf.is, c.in-OneOf-b.is, c.in_ok-set.ensures.spans) (sets_alike c.in-OneOf.x.spans.items c.in-OneOf-b.y.spans.items) }
