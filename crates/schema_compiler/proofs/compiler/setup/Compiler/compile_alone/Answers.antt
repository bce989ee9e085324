use Rattle.std.proofs.Common.{ap, ◌∙◌}
use Rattle.std.proofs.lemmas.Result.{err_from_is_err_and}
use Rattle.schema_keys.specs.KeyViews.{key_of}
use Rattle.schema_compiler.specs.Carried.{filled}
use Rattle.schema_compiler.specs.declared.compiler.compilation.Progress.{Progress}
use Rattle.schema_compiler.proofs.Working.{at_first_number}
use Rattle.schema_compiler.proofs.compiler.setup.Compiler.compile_alone.Goals as goal

pub work_off-requires : goal.work_off-requires
work_off-requires g c =
    let v = key_of g.R.Resolver.point in
    let n = rw c.new-compiled.ensures.nodes at c.in_ok-number_within.ensures.nodes in
    let same = c.in_ok-number_within.ensures.progress in
    record {
      first = at_first_number _ (v c.in_ok-shared.shared.value) (filled g.R.Resolver.point c.number_within.new.compiled) n.0 c.in_ok-number_within.ensures.table (rw c.new-compiled.ensures.keys at c.in_ok-number_within.ensures.keys) n.1 n.2 n.3
          (ap (λ (p : Progress). p.round) same ∙ c.new-compiled.ensures.round) (ap (λ (p : Progress). p.depth) same ∙ c.new-compiled.ensures.depth) (ap (λ (p : Progress). p.reaches_unsettled) same ∙ c.new-compiled.ensures.settled)
          (c.in_ok-number_within.ensures.reserved ∙ c.new-compiled.ensures.unreserved);
    }

pub returns-in_err-number_within : goal.returns-in_err-number_within
returns-in_err-number_within g c =
    let p = err_from_is_err_and c.from_residual-in_err-number_within.result c.from_residual-in_err-number_within.ensures.1 in
    let h = rw (c.new-compiled.ensures.keys, c.in_ok-shared.ensures.ok) at c.in_err-number_within.ensures in
    rw (p.1, p.2) h

pub returns-in_err-work_off : goal.returns-in_err-work_off
returns-in_err-work_off g c =
    let p = err_from_is_err_and c.from_residual-in_err-work_off.result c.from_residual-in_err-work_off.ensures.1 in
    let h = rw c.in_ok-shared.ensures.ok at c.in_err-work_off.ensures in
    rw (p.1, p.2) h

pub returns : goal.returns
returns g c = rw c.in_ok-shared.ensures.ok at c.in_ok-work_off.ensures
