use Rattle.std.proofs.Common.{◌∙◌, Some, ap, is_some, option_map, sym}
use Rattle.standard_pattern_properties.proofs.Seeking.{as_held, member_there, not_held}
use Rattle.standard_pattern_properties.proofs.keyword.name_among.Goals as goal

pub returns-in-Some : goal.returns-in-Some
returns-in-Some c =
    let there = member_there c.args.name.now c.args.members.now.entries ∙ (ap is_some (sym c.get_key_value.ensures.value) ∙ ap (λ o. is_some (option_map (λ p. p.1.now) o)) c.in-Some.is) in
    record { name = ap (λ k. Some k) c.as_str.ensures.value ∙ as_held c.args.name.now _ _ there (rw c.in-Some.is at c.get_key_value.ensures.same_key) }

pub returns-in-None : goal.returns-in-None
returns-in-None c = record {
  name = not_held c.args.name.now _ (member_there c.args.name.now c.args.members.now.entries ∙ (ap is_some (sym c.get_key_value.ensures.value) ∙ ap (λ o. is_some (option_map (λ p. p.1.now) o)) c.in-None.is));
}
