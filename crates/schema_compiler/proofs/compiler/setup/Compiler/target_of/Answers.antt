use Rattle.std.proofs.Common.{◌≡◌, Option, Some, None, refl, [], true, false}
use Rattle.std.specs.Prelude.{MatchOption, flat_map}
use Rattle.std.proofs.lemmas.Result.{err_from_is_err_and}
use Rattle.theory_definitions.specs.Instance.{Text}
use Rattle.theory_definitions.specs.Pointer.{joined}
use Rattle.theory_definitions.specs.Plan.{is_self, reference_edge, is_recursive_ref}
use Rattle.theory_meaning.specs.Refusals.{undeclared}
use Rattle.schema_keys.specs.Compiling.{resolving_parts}
use Rattle.schema_keys.specs.KeyViews.{key_of, kind_of}
use Rattle.schema_compiler.specs.Options.{given_parts}
use Rattle.schema_keys.specs.Refusing.{Names}
use Rattle.schema_keys.specs.declared.key.SchemaKey.{SchemaKey}
use Rattle.schema_compiler.proofs.References.{target_refused}
use Rattle.schema_compiler.proofs.compiler.setup.Compiler.target_of.Goals as goal

-- what holds of the value, if it cannot be missing
at_some : {X : Type 0} (P : Type 0) (A B : X → Type 0) (Q : Type 0) (o : Option X) → MatchOption o P A → MatchOption o ⊥ B → ((x : X) → A x → B x → Q) → Q
at_some P A B Q None a b f = absurd b
at_some P A B Q (Some x) a b f = f x a b

pub returns-in_err-check_target-clause-refused : goal.returns-in_err-check_target-clause-refused
returns-in_err-check_target-clause-refused g c =
    let v = key_of g.R.Resolver.point in
    let w = given_parts (g.R.Resolver.resolving c.args.self.now.resolver.now) (g.T.KeywordTable.owned c.args.self.now.table.now) (g.T.KeywordTable.script c.args.self.now.table.now) c.args.self.now.options.now in
    let r = resolving_parts (g.R.Resolver.resolving c.args.self.now.resolver.now) in
    let k = v c.args.key.now in
    let kind = kind_of c.args.kind in
    let text = c.args.text.now in
    let p = err_from_is_err_and c.from_residual-in_err-check_target.result c.from_residual-in_err-check_target.ensures.1 in
    rw (p.1, p.2) (λ name keys. at_some _
    (λ (t : SchemaKey g.row.R-State.Denot). (is_self r k kind text ≡ false) × ((n : Text) → reference_edge r k n kind text ≡ Some (record { key = v t; path = joined [] n; is_reference = true; is_recursive = is_recursive_ref kind })))
    (λ (t : SchemaKey g.row.R-State.Denot). Names (flat_map (undeclared w) t.vocabularies) c.in_err-check_target.field-0.0) _
    c.in_ok-target.target c.in_ok-target.ensures.target c.in_err-check_target.ensures.refused
    (λ t a b. target_refused w c.args.self.now.options.now.node_limit k name kind text (record { key = v t; path = joined [] name; is_reference = true; is_recursive = is_recursive_ref kind }) _ keys _ a.0 (a.1 name) refl b))
