use Rattle.std.proofs.Common.{map, string_bytes}
use Rattle.std.proofs.lemmas.Result.{on_ok_weaker}
use Rattle.standard_basics.specs.Telling.{TellsMissing}
use Rattle.standard_basics.proofs.keyword.tell.Goals as goal

pub returns-in-Required-clause-told : goal.returns-in-Required-clause-told
returns-in-Required-clause-told c =
    let told : TellsMissing (map string_bytes c.in-Required.names.items) c.args.instance c.args.mode c.args.answer.now c.tell_required.new.answer c.tell_required.result =
    rw c.as_slice-in-Required.ensures.value at c.tell_required.ensures.told in
    rw c.in-Required.is (on_ok_weaker c.tell_required.result (λ h texts tells. h texts) told)
