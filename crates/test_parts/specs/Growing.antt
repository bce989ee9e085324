-- A resolver that never comes back to a state: each lookup leads to the root, in a state greater by
-- one.
use Rattle.std.specs.Prelude.{Err, None, Ok, Result, Some, [], codes, if◌then◌else◌, nat_eq, nat_lt, suc, true, ℕ}
use Rattle.theory_definitions.specs.Instance.{Text}
use Rattle.theory_definitions.specs.Drafts.{draft_7}
use Rattle.theory_definitions.specs.Resolving.{Found, Resolver}
use Rattle.standard_subschemas.specs.SubschemaRules.{root_place}
use Rattle.standard_resolver.specs.ResolverDocuments.{HeldDocuments}
use Rattle.standard_resolver.specs.ResolverAnswers.{document_resolving}

-- the state is the number of lookups; a lookup is refused if that number would exceed 64 bits
abbrev pub next : ℕ → Result (Found ℕ) Text
next n =
    if nat_lt n 18446744073709551615 then
    Ok (record { place = root_place; state = suc n; draft = draft_7 })
    else
    Err (codes "no more states")

abbrev pub growing : HeldDocuments → Resolver ℕ
growing r = record {
  same_state = nat_eq;
  value = (document_resolving r).value;
  root = λ uri. Some (record { place = root_place; state = 0 });
  lookup = λ n reference dynamic. next n;
  lookup_recursive = next;
  in_subresource = λ n d p. Ok n;
  resolve_uri = λ n reference. Ok reference;
  base_uri = λ n. codes "json-schema:///";
  resource_root = λ n. root_place;
  find_vocabularies = λ n d p. [];
  detect = λ d v. d;
  draft_for = λ v. Ok draft_7;
  id = λ d v. None;
  subresources_of = λ d p. [];
  is_known_keyword = λ d name. true;
}
