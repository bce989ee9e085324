use Rattle.std.proofs.Common.{None, Some, ap, refl, sym, ◌∙◌, ◌≡◌}
use Rattle.std.proofs.lemmas.Result.{IfErr-weaker, IfOk-weaker}
use Rattle.std.specs.Prelude.{option_map}
use Rattle.serde_json.specs.View.{view}
use Rattle.standard_resolver.specs.DocumentViews.{given_of}
use Rattle.jsonschema.proofs.Checking.{checked_standard, checked_supplied, names_under, refused_meta, refused_standard, refused_supplied}
use Rattle.jsonschema.specs.Supplied.{meta_for}
use Rattle.jsonschema.proofs.build_options.BuildOptions.+build_within.Goals as goal

pub returns-in_default-clause-built : goal.returns-in_default-clause-built
returns-in_default-clause-built t c =
    let none : meta_for c.args.self (view c.args.schema.now) ≡ None = sym c.in_ok-meta.ensures.meta ∙ ap (option_map given_of) c.in_default.is in
    IfOk-weaker c.build_any.result _ _ (λ b from. checked_standard _ _ _ _ c.args.self c.args.schema.now none b.validator from) c.build_any.ensures.built

pub returns-in_default-clause-refused : goal.returns-in_default-clause-refused
returns-in_default-clause-refused t c =
    let none : meta_for c.args.self (view c.args.schema.now) ≡ None = sym c.in_ok-meta.ensures.meta ∙ ap (option_map given_of) c.in_default.is in
    IfErr-weaker c.build_any.result _ _ (refused_standard _ _ _ _ c.args.self c.args.schema.now none) c.build_any.ensures.refused

pub returns-then-follows-eq0-clause-refused : goal.returns-then-follows-eq0-clause-refused
returns-then-follows-eq0-clause-refused t c =
    let named : meta_for c.args.self (view c.args.schema.now) ≡ Some (given_of c.in-Some.meta) = sym c.in_ok-meta.ensures.meta ∙ ap (option_map given_of) c.in-Some.is in
    names_under c.args.self c.args.schema.now (given_of c.in-Some.meta) named

pub returns-in-Some-checker_of-clause-built : goal.returns-in-Some-checker_of-clause-built
returns-in-Some-checker_of-clause-built t c =
    let named : meta_for c.args.self (view c.args.schema.now) ≡ Some (given_of c.in-Some.meta) = sym c.in_ok-meta.ensures.meta ∙ ap (option_map given_of) c.in-Some.is in
    IfOk-weaker c.build_beside_supplied.result _ _ (λ b from. checked_supplied _ _ _ _ c.args.self c.args.schema.now (given_of c.in-Some.meta) named
    c.in_ok-options.options c.in_ok-options.ensures.options c.in-Ok.built.validator c.in-Some-checker_of.checker c.in-Some-checker_of.ensures.is c.in-Ok.ensures.built b.validator from)
    c.build_beside_supplied.ensures.built

pub returns-in-Some-checker_of-clause-refused : goal.returns-in-Some-checker_of-clause-refused
returns-in-Some-checker_of-clause-refused t c =
    let named : meta_for c.args.self (view c.args.schema.now) ≡ Some (given_of c.in-Some.meta) = sym c.in_ok-meta.ensures.meta ∙ ap (option_map given_of) c.in-Some.is in
    IfErr-weaker c.build_beside_supplied.result _ _ (refused_supplied _ _ _ _ c.args.self c.args.schema.now (given_of c.in-Some.meta) named
    c.in_ok-options.options c.in_ok-options.ensures.options c.in-Ok.built.validator c.in-Some-checker_of.checker c.in-Some-checker_of.ensures.is c.in-Ok.ensures.built)
    c.build_beside_supplied.ensures.refused

pub returns-in-None-clause-refused : goal.returns-in-None-clause-refused
returns-in-None-clause-refused t c =
    let named : meta_for c.args.self (view c.args.schema.now) ≡ Some (given_of c.in-Some.meta) = sym c.in_ok-meta.ensures.meta ∙ ap (option_map given_of) c.in-Some.is in
    names_under c.args.self c.args.schema.now (given_of c.in-Some.meta) named

pub returns-in-Err-clause-refused : goal.returns-in-Err-clause-refused
returns-in-Err-clause-refused t c =
    let named : meta_for c.args.self (view c.args.schema.now) ≡ Some (given_of c.in-Some.meta) = sym c.in_ok-meta.ensures.meta ∙ ap (option_map given_of) c.in-Some.is in
    refused_meta _ _ _ _ c.args.self c.args.schema.now (given_of c.in-Some.meta) named c.in_ok-options.options c.in_ok-options.ensures.options
    c.in-Some.meta.uri refl c.in-Err.fault c.error_of_meta.result c.error_of_meta.ensures.blamed c.in-Err.ensures.refused
