use Rattle.std.specs.Prelude.{drop, ◌≡◌}
use Rattle.schema_drafts.specs.declared.keywords.builtin.TheConstants.{BUILTIN_KEYWORDS}
use Rattle.schema_drafts.proofs.KeywordNames.{is_among}
use Rattle.schema_drafts.proofs.keywords.builtin.BuiltinKeyword.named.Given as goal

-- if the name is among all the keywords, it is among those that are left
abbrev pub invariant-loop-keyword : goal.invariant-loop-keyword
invariant-loop-keyword l = is_among l.name (drop l.keyword-index BUILTIN_KEYWORDS) ≡ is_among l.name BUILTIN_KEYWORDS
