use Rattle.std.proofs.Common.{◌≡◌, ◌∙◌, ap, map, string_bytes, subst, sym}
use Rattle.std.specs.Prelude.{IfSome}
use Rattle.keyword_authoring.specs.Texts.{is_among}
use Rattle.standard_pattern_properties.proofs.ListedNames.{among_from}
use Rattle.standard_pattern_properties.proofs.listed.Listed.has_from.Goals as goal

pub returns-then-found : goal.returns-then-found
returns-then-found c =
    let place = c.place_from-place.result.0 in
    let same = subst (λ o. IfSome o (λ names. names ≡ map string_bytes c.self.inside.names.keys)) c.in-Some.is c.self.invariant in
    let among = among_from c.args.name.now c.args.from place _ (sym c.place_from-place.ensures.place ∙ ap (λ b. (place, b)) c.if-found.true) in
    record { has = sym among ∙ ap (λ names. is_among names c.args.name.now) (same ∙ c.self.view_is) }
