use Rattle.std.proofs.Common.{◌∙◌, Some, ap, sym, is_some, option_map}
use Rattle.keyword_authoring.specs.Members.{at_name}
use Rattle.standard_basics.proofs.NamesAsked.{asked_as_held, named-lookup, not_asked}
use Rattle.standard_basics.proofs.property_names.name_among.Goals as goal

pub returns-in-Some : goal.returns-in-Some
returns-in-Some c =
    let there = named-lookup c.args.name.now c.args.members.now.entries ∙ ap is_some (sym c.get_key_value.ensures.value) ∙ ap (λ o. is_some (option_map (λ p. p.1.now) o)) c.in-Some.is in
    record { name = ap (λ k. Some (at_name k)) c.as_str.ensures.value ∙ asked_as_held c.args.name.now _ _ there (rw c.in-Some.is at c.get_key_value.ensures.same_key) }

pub returns-in-None : goal.returns-in-None
returns-in-None c = record { name = not_asked c.args.name.now _ (named-lookup c.args.name.now c.args.members.now.entries ∙ ap is_some (sym c.get_key_value.ensures.value) ∙ ap (λ o. is_some (option_map (λ p. p.1.now) o)) c.in-None.is) }
