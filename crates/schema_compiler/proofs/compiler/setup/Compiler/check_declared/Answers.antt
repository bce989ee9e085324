use Rattle.std.proofs.Common.{◌≡◌, ◌∙◌, List, [], ap, map, sym, subst}
use Rattle.std.specs.Prelude.{IfErr, IfOk, flat_map}
use Rattle.theory_definitions.specs.Instance.{Text}
use Rattle.theory_definitions.specs.Drafts.{custom_vocabulary}
use Rattle.theory_meaning.specs.Refusals.{Cause, undeclared}
use Rattle.schema_compiler.specs.Options.{given_parts}
use Rattle.schema_keys.specs.Alone.{NamesFirst}
use Rattle.schema_keys.specs.Refusing.{Names}
use Rattle.schema_keys.proofs.CustomVocabularies.{of_custom}
use Rattle.schema_compiler.proofs.compiler.setup.Compiler.check_declared.Goals as goal

pub returns-clause-declared : goal.returns-clause-declared
returns-clause-declared g c =
    let w = given_parts (g.R.Resolver.resolving c.args.self.now.resolver.now) (g.T.KeywordTable.owned c.args.self.now.table.now) (g.T.KeywordTable.script c.args.self.now.table.now) c.args.self.now.options.now in
    subst (λ (cs : List Cause). IfOk c.check_each.result (λ x. cs ≡ []))
    (ap (λ (us : List Text). flat_map (undeclared w) (map custom_vocabulary us)) c.custom.ensures.custom ∙ sym (of_custom w c.args.vocabularies.now))
    c.check_each.ensures.declared

pub returns-clause-refused : goal.returns-clause-refused
returns-clause-refused g c =
    let w = given_parts (g.R.Resolver.resolving c.args.self.now.resolver.now) (g.T.KeywordTable.owned c.args.self.now.table.now) (g.T.KeywordTable.script c.args.self.now.table.now) c.args.self.now.options.now in
    subst (λ (cs : List Cause). IfErr c.check_each.result (Names cs))
    (ap (λ (us : List Text). flat_map (undeclared w) (map custom_vocabulary us)) c.custom.ensures.custom ∙ sym (of_custom w c.args.vocabularies.now))
    c.check_each.ensures.refused

pub returns-clause-first : goal.returns-clause-first
returns-clause-first g c =
    let w = given_parts (g.R.Resolver.resolving c.args.self.now.resolver.now) (g.T.KeywordTable.owned c.args.self.now.table.now) (g.T.KeywordTable.script c.args.self.now.table.now) c.args.self.now.options.now in
    subst (λ (cs : List Cause). IfErr c.check_each.result (NamesFirst cs))
    (ap (λ (us : List Text). flat_map (undeclared w) (map custom_vocabulary us)) c.custom.ensures.custom ∙ sym (of_custom w c.args.vocabularies.now))
    c.check_each.ensures.first
