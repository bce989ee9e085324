use Rattle.std.proofs.Common.{◌++◌, ◌∙◌, [], ◌∷◌, sym, ap, lit<, rules, string_bytes}
use Rattle.std.proofs.lemmas.Str.Pattern.{split_parts, strip_prefix_char}
use Rattle.serde_json.specs.Find.{unescape}
use Rattle.serde_json.proofs.Paths.{unescape_plain}
use Rattle.standard_subschemas.proofs.Unescaping.{one_more, unescape_other, unescape_slash, unescape_tilde}
use Rattle.standard_subschemas.proofs.pointers.unescaped.Goals as goal

pub escapes-preserved-in-Some-strip_prefix : goal.escapes-preserved-in-Some-strip_prefix
escapes-preserved-in-Some-strip_prefix c =
    let cut = rw c.in-Some.is at (split_parts 126 c.escapes.rest.now c.split_once.result c.split_once.ensures.cases (lit< tt)) in
    let after = rw c.in-Some-strip_prefix.is at
    (strip_prefix_char 49 c.in-Some.after.now c.strip_prefix.result c.strip_prefix.ensures.cases (lit< tt)) in
    let more = c.in-Some-strip_prefix.more.now in
    let read = ap (λ r. unescape (126 ∷ r)) after ∙ unescape_slash more in
    let pushed = c.in_ok-push_str-2.ensures.bytes ∙ ap (λ r. r ++ 47 ∷ []) c.in_ok-push_str.ensures.bytes in (
      ap (λ r. r ++ unescape more) pushed
          ∙ one_more (string_bytes c.escapes.text) c.in-Some.before.now c.in-Some.after.now c.escapes.rest.now _ more 47
          c.escapes.invariant.0 cut.0 cut.1 read,
      search rules,
    )

pub escapes-preserved-in-Some-strip_prefix-2 : goal.escapes-preserved-in-Some-strip_prefix-2
escapes-preserved-in-Some-strip_prefix-2 c =
    let cut = rw c.in-Some.is at (split_parts 126 c.escapes.rest.now c.split_once.result c.split_once.ensures.cases (lit< tt)) in
    let after = rw c.in-Some-strip_prefix-2.is at
    (strip_prefix_char 48 c.in-Some.after.now c.strip_prefix-in_default-strip_prefix.result
    c.strip_prefix-in_default-strip_prefix.ensures.cases (lit< tt)) in
    let more = c.in-Some-strip_prefix-2.more.now in
    let read = ap (λ r. unescape (126 ∷ r)) after ∙ unescape_tilde more in
    let pushed = c.in_ok-push_str-3.ensures.bytes ∙ ap (λ r. r ++ 126 ∷ []) c.in_ok-push_str.ensures.bytes in (
      ap (λ r. r ++ unescape more) pushed
          ∙ one_more (string_bytes c.escapes.text) c.in-Some.before.now c.in-Some.after.now c.escapes.rest.now _ more 126
          c.escapes.invariant.0 cut.0 cut.1 read,
      search rules,
    )

pub escapes-preserved : goal.escapes-preserved
escapes-preserved c =
    let cut = rw c.in-Some.is at (split_parts 126 c.escapes.rest.now c.split_once.result c.split_once.ensures.cases (lit< tt)) in
    let no_slash = rw c.in_default-strip_prefix.is at
    (strip_prefix_char 49 c.in-Some.after.now c.strip_prefix.result c.strip_prefix.ensures.cases (lit< tt)) in
    let no_tilde = rw c.in_default-strip_prefix-2.is at
    (strip_prefix_char 48 c.in-Some.after.now c.strip_prefix-in_default-strip_prefix.result
    c.strip_prefix-in_default-strip_prefix.ensures.cases (lit< tt)) in
    let more = c.in-Some.after.now in
    let read = unescape_other more no_slash no_tilde in
    let pushed = c.in_ok-push_str-4.ensures.bytes ∙ ap (λ r. r ++ 126 ∷ []) c.in_ok-push_str.ensures.bytes in (
      ap (λ r. r ++ unescape more) pushed
          ∙ one_more (string_bytes c.escapes.text) c.in-Some.before.now c.in-Some.after.now c.escapes.rest.now _ more 126
          c.escapes.invariant.0 cut.0 cut.1 read,
      search rules,
    )

pub returns : goal.returns
returns c =
    let none = rw c.in_default.is at (split_parts 126 c.escapes.rest.now c.split_once.result c.split_once.ensures.cases (lit< tt)) in
    record {
      unescaped = c.in_ok-push_str-5.ensures.bytes
          ∙ ap (λ r. string_bytes c.escapes.text ++ r) (sym (unescape_plain c.escapes.rest.now none)) ∙ c.escapes.invariant.0;
    }
