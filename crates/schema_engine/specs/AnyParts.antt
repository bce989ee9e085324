-- Statements that hold whatever the parts are.
use Rattle.theory_definitions.specs.Keywords.{Answer}
use Rattle.schema_traits.specs.declared.keyword.Validate.{Ghosts as KeywordMembers}
use Rattle.schema_traits.specs.declared.matcher.Matcher.{Ghosts as MatcherMembers}
use Rattle.schema_traits.specs.declared.resolver.Resolver.{Ghosts as ResolverMembers}
use Rattle.schema_traits.specs.declared.table.KeywordTable.{Ghosts as TableMembers}
use Rattle.schema_validator.specs.Handed.{Handed, handed}

-- this holds of any resolver, table and matcher
abbrev pub OfAnyParts : {A T M : Type 0} → (A → T → M → Type 0) → Type 0
OfAnyParts {A} {T} {M} says = (resolver : A) (table : T) (matcher : M) → says resolver table matcher

-- this holds of the parts, whatever the resolver, the table and the matcher are
abbrev pub OfAnyHanded : {A State S T C Maker Run K M : Type 0} → ResolverMembers A State S → TableMembers T C Maker Run K → KeywordMembers C Run K → MatcherMembers M → (Handed S K (Run × Answer) C M → Type 0) → Type 0
OfAnyHanded {A} {T = T} {M = M} resolvers tables keywords matchers says = (resolver : A) (table : T) (matcher : M) → says (handed resolvers tables keywords matchers resolver table matcher)
