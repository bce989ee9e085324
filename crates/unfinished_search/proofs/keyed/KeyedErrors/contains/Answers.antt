use Rattle.std.proofs.Common.{arith, ◌≡◌, ◌∙◌, length, nat_eq, true, false, sym, refl, subst, List}
use Rattle.std.proofs.lemmas.Grind.{common_steps}
use Rattle.std.proofs.lemmas.Option.{slice_get_read}
use Rattle.std.specs.HashMap.{get}
use Rattle.std.specs.Prelude.{None, Some}
use Rattle.unfinished_search.specs.KeyHashes.{key_hash}
use Rattle.unfinished_search.specs.SharedResults.{has_key, same_key}
use Rattle.schema_reports.specs.declared.reports.ValidationError.{ValidationError}
use Rattle.unfinished_search.proofs.KeysIndexed.{error_there, error_within, no_error}
use Rattle.unfinished_search.proofs.keyed.KeyedErrors.contains.Goals as goal

pub index-requires : goal.index-requires
index-requires c =
    let first = get nat_eq c.self.inside.positions in
    let e1 = c.in-Some.ensures.value in let e2 = c.in-Some.is in let e3 = c.requires.hash in
    let at : first (key_hash c.args.error.now) ≡ Some c.in-Some.position.now = grind (arith, common_steps) in
    let within = error_within first c.args.error.now c.self.inside.errors.items c.self.invariant c.in-Some.position.now at in
    grind (arith, common_steps)

pub returns-then-branch : goal.returns-then-branch
returns-then-branch c =
    let first = get nat_eq c.self.inside.positions in
    let errors = c.self.inside.errors.items in
    let e1 = c.in-Some.ensures.value in let e2 = c.in-Some.is in let e3 = c.requires.hash in
    let at : first (key_hash c.args.error.now) ≡ Some c.in-Some.position.now = grind (arith, common_steps) in
    let within = error_within first c.args.error.now errors c.self.invariant c.in-Some.position.now at in
    let there = slice_get_read errors (length errors) c.in-Some.position.now c.index.result.now refl within c.index.ensures in
    let found : c.in_ok-is_same_key-in-Some.field-0 ≡ true = c.if-branch.true in
    let same : same_key c.args.error.now c.index.result.now ≡ true = sym c.in_ok-is_same_key-in-Some.ensures.same ∙ found in
    let has = error_there first c.args.error.now errors c.self.invariant c.in-Some.position.now c.index.result.now at there same in
    record { has = sym (subst (λ (xs : List ValidationError). has_key xs c.args.error.now ≡ true) c.self.view_is has) }

pub returns-in-None : goal.returns-in-None
returns-in-None c =
    let first = get nat_eq c.self.inside.positions in
    let e1 = c.in-None.ensures.value in let e2 = c.in-None.is in let e3 = c.requires.hash in
    let at : first (key_hash c.args.error.now) ≡ None = grind (arith, common_steps) in
    record { has = sym (subst (λ (xs : List ValidationError). has_key xs c.args.error.now ≡ false) c.self.view_is (no_error first c.args.error.now c.self.inside.errors.items c.self.invariant at)) }
