use Rattle.std.proofs.Common.{◌∙◌, ◌++◌, ap, lit<, string_bytes, sym}
use Rattle.std.proofs.lemmas.Result.{IfOk-weaker}
use Rattle.std.proofs.lemmas.Str.Pattern.{split_once_first}
use Rattle.uri_references.proofs.Hosts.{user_pushed, without_user}
use Rattle.uri_references.proofs.normal.push_lower_host.Goals as goal

pub returns-in_ok-push_str-in-Some-2 : goal.returns-in_ok-push_str-in-Some-2
returns-in_ok-push_str-in-Some-2 c =
    let cut = rw c.in-Some.is at (split_once_first 64 c.args.authority.now c.split_once.result c.split_once.ensures.cases (lit< tt)) in
    record {
      pushed = IfOk-weaker c.push_lower.result _ _
          (λ u is. user_pushed c.args.authority.now (string_bytes c.args.text.now) c.in-Some.user.now c.in-Some.host.now
          (string_bytes c.push_str.new.self) (string_bytes c.push_str-in-Some.new.self) (string_bytes c.push_lower.new.text) cut.0 cut.1 cut.2
          c.in_ok-push_str-in-Some.ensures.bytes c.in_ok-push_str-in-Some-2.ensures.bytes is)
          c.push_lower.ensures.pushed;
    }

pub returns-in-None : goal.returns-in-None
returns-in-None c =
    let none = rw c.in-None.is at (split_once_first 64 c.args.authority.now c.split_once.result c.split_once.ensures.cases (lit< tt)) in
    record {
      pushed = IfOk-weaker c.push_lower-in-None.result _ _
          (λ u is. is ∙ ap (λ t. string_bytes c.args.text.now ++ t) (sym (without_user c.args.authority.now none)))
          c.push_lower-in-None.ensures.pushed;
    }
