-- The input of a build, as data: the options, and the parts, which are the resolver, the table, the
-- matcher and the keywords; and the values of the code as such data.
use Rattle.std.specs.Prelude.{ℕ, List, [], Bool, Option, None, true}
use Rattle.serde_json.specs.Data.{Members}
use Rattle.theory_definitions.specs.Instance.{Text}
use Rattle.theory_definitions.specs.Drafts.{Draft, Vocabularies}
use Rattle.theory_definitions.specs.Resolving.{Resolver}
use Rattle.theory_definitions.specs.Making.{Builtin, Script, Table}
use Rattle.theory_definitions.specs.Matching.{Matcher}
use Rattle.theory_definitions.specs.Keywords.{Answer, Keywords}
use Rattle.schema_drafts.specs.KeywordTable.{builtin_in}
use Rattle.theory_definitions.specs.Parts.{Parts}
use Rattle.schema_traits.specs.declared.keyword.Validate.{Ghosts as KeywordMembers}
use Rattle.schema_traits.specs.declared.matcher.Matcher.{Ghosts as MatcherMembers}
use Rattle.schema_traits.specs.declared.resolver.Resolver.{Ghosts as ResolverMembers}
use Rattle.schema_traits.specs.declared.table.KeywordTable.{Ghosts as TableMembers}

-- the options that a build reads
pub record Options : Type 0 where
  pub draft : Option Draft
  pub base : Option Text
  pub formats : Option Bool
  pub declared : List Text
  pub limit : ℕ
  -- whether the schema is checked by the meta validators
  pub checks : Bool
  -- how many runs a call makes at most
  pub runs : ℕ
  -- how many steps a call takes at most, if there is a limit: each evaluation of a node at a place
  -- is a step, and each pair that a solver begins
  pub work : Option ℕ
  -- how many evaluations a call may have open at once, if there is a limit: each node that a run asks
  -- is open until it has answered, and so is each evaluation that a solver begins
  pub depth : Option ℕ
  -- how many targets of references are compiled one inside another
  pub nested : ℕ

-- how many runs a call makes at most by default
abbrev pub default_runs : ℕ
default_runs = 64

-- how many targets of references are compiled one inside another by default
abbrev pub default_nested : ℕ
default_nested = 8

abbrev pub default_options : Options
default_options = record { draft = None; base = None; formats = None; declared = []; limit = 65536; checks = true; runs = default_runs; work = None; depth = None; nested = default_nested }

-- options with these limits on runs and on nested targets, and otherwise the same
abbrev pub limited : Options → ℕ → ℕ → Options
limited options runs nested = record options { runs = runs; nested = nested }

-- the table that a keyword table and the built-in one make together
abbrev pub table_of : {K : Type 0} → (Text → Bool) → (Draft → Vocabularies → Text → Option Builtin) → (Bool → Text → Members → Draft → Vocabularies → Bool → Script K) → Table K
table_of owns builtin script = record { owns = owns; builtin = builtin; script = script }

-- all parts, with the options
abbrev pub parts_of : {S K R : Type 0} → Resolver S → Table K → Matcher → Keywords K R → Options → Parts S K R
parts_of resolver table matcher keywords options = record {
  resolver = resolver;
  table = table;
  matcher = matcher;
  keywords = keywords;
  draft = options.draft;
  base = options.base;
  formats = options.formats;
  declared = options.declared;
}

-- The parts: the resolver, the table and the matcher, as data, and how keywords run; and the data
-- of a keyword and of a matcher of the code. S is the data of a state, K what is known of a
-- keyword, R a run with its answer so far, C a keyword of the code, M a matcher of it.
pub record Handed (S K R C M : Type 0) : Type 0 where
  pub resolver : Resolver S
  pub table : Table K
  pub matcher : Matcher
  pub words : Bool → Keywords K R
  pub shape : C → K
  pub is_whole : K → Bool
  pub says_monotone : K → Bool
  pub matching : M → Matcher
  -- whether a matcher says that it finishes every match, and whether the one of the parts does
  pub finishing : M → Bool
  pub finishes : Bool

-- the data of these values of the code, by the members of their traits
abbrev pub handed : {A State S T C Maker Run K M : Type 0} → ResolverMembers A State S → TableMembers T C Maker Run K → KeywordMembers C Run K → MatcherMembers M
    → A → T → M → Handed S K (Run × Answer) C M
handed resolvers tables keywords matchers resolver table matcher = record {
  resolver = resolvers.resolving resolver;
  table = table_of (tables.owned table) builtin_in (tables.script table);
  matcher = matchers.matching matcher;
  words = keywords.words;
  shape = keywords.shape;
  is_whole = keywords.is_whole;
  says_monotone = keywords.says_monotone;
  matching = matchers.matching;
  finishing = matchers.finishing;
  finishes = matchers.finishing matcher;
}
