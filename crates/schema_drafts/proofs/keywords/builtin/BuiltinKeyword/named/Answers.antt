use Rattle.std.proofs.Common.{arith, drop_of_length-le, get_or, sym, ◌∙◌}
use Rattle.std.specs.Prelude.{[], bytes_eq, drop, false, length, ◌+◌, ◌≡◌, ◌<◌, ◌≤◌}
use Rattle.schema_drafts.specs.declared.keywords.builtin.BuiltinKeyword.TheVariants.{TypeKeyword}
use Rattle.schema_drafts.specs.declared.keywords.builtin.TheConstants.{BUILTIN_KEYWORDS}
use Rattle.schema_drafts.specs.KeywordViews.{builtin_text}
use Rattle.schema_drafts.proofs.KeywordNames.{is_among, is_among-drop, is_among-none, none_named}
use Rattle.schema_drafts.proofs.keywords.builtin.BuiltinKeyword.named.Goals as goal

pub loop-keyword-preserved : goal.loop-keyword-preserved
loop-keyword-preserved c =
    let within : c.loop-keyword.keyword-index < length BUILTIN_KEYWORDS = omega arith in
    let text : c.as_str.result.now ≡ builtin_text (get_or BUILTIN_KEYWORDS c.loop-keyword.keyword-index TypeKeyword) = c.as_str.ensures.name in
    let equal : bytes_eq c.as_str.result.now c.args.name.now ≡ false = sym c.eq.ensures ∙ c.if-eq.false in
    let differs : bytes_eq (builtin_text (get_or BUILTIN_KEYWORDS c.loop-keyword.keyword-index TypeKeyword)) c.args.name.now ≡ false = rw (← text) equal in
    let step : is_among c.args.name.now (drop c.loop-keyword.keyword-index BUILTIN_KEYWORDS) ≡ is_among c.args.name.now (drop (c.loop-keyword.keyword-index + 1) BUILTIN_KEYWORDS) = is_among-drop c.args.name.now BUILTIN_KEYWORDS c.loop-keyword.keyword-index TypeKeyword within differs in
    sym step ∙ c.loop-keyword.invariant

pub returns-clause-absent : goal.returns-clause-absent
returns-clause-absent c =
    let left : drop c.loop-keyword.keyword-index BUILTIN_KEYWORDS ≡ [] = let over : length BUILTIN_KEYWORDS ≤ c.loop-keyword.keyword-index = omega arith in drop_of_length-le BUILTIN_KEYWORDS over in
    let none : is_among c.args.name.now BUILTIN_KEYWORDS ≡ false = sym c.loop-keyword.invariant ∙ rw left (is_among-none c.args.name.now) in
    none_named c.args.name.now none
