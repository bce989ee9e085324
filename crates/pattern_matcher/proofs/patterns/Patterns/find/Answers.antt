use Rattle.std.proofs.Common.{Some, sym, ◌∙◌, ◌≡◌}
use Rattle.std.specs.HashMap.{get_by_text}
use Rattle.pattern_matcher.proofs.Tables.{lent_place}
use Rattle.pattern_matcher.proofs.patterns.Patterns.find.Goals as goal

pub returns : goal.returns
returns c =
    let placed : get_by_text c.self.inside.places c.args.pattern.now ≡ Some c.in_ok-place.place =
    sym c.get.ensures.value ∙ (sym c.copied.ensures ∙ c.in_ok-place.was) in
    let lent = lent_place c.self.inside.read.items _ c.self.invariant c.args.pattern.now c.in_ok-place.place placed
    c.deref.result.now c.deref.ensures.value c.get-2.result c.get-2.ensures.lookup in
    record { found = rw (← c.self.view_is) lent.0; same = lent.1 }
