use Rattle.std.proofs.Common.{◌≡◌, ◌∙◌, [], Bool, List, subst, sym}
use Rattle.std.specs.Prelude.{IfErr, IfOk, None, Some, flat_map, option_map, string_bytes}
use Rattle.std.proofs.lemmas.Result.{IfErr-weaker, IfOk-weaker, err_from_is_err_and}
use Rattle.serde_json.specs.View.{view}
use Rattle.theory_definitions.specs.Instance.{Place}
use Rattle.schema_drafts.specs.KeywordViews.{draft_of}
use Rattle.theory_meaning.specs.Refusals.{undeclared}
use Rattle.schema_keys.specs.Alone.{RefusesVocabularies}
use Rattle.schema_keys.specs.Builtins.{builtin}
use Rattle.schema_compiler.specs.Compilation.{all_parts}
use Rattle.schema_keys.specs.Compiling.{Each}
use Rattle.schema_keys.specs.KeyViews.{key_of}
use Rattle.schema_keys.specs.DocumentSchemas.{IndicesFit, schemas_of}
use Rattle.schema_validator.specs.BuildResults.{IsMapRefused}
use Rattle.schema_validator.specs.Entries.{HoldsPlaces, RefusesOneOf}
use Rattle.schema_validator.specs.Handed.{Options, handed}
use Rattle.schema_validator.proofs.FirstCauses.{document_first_in_map, entry_first, vocabulary_first}
use Rattle.schema_validator.proofs.MapAnswers.{refuses_entry, refuses_schema, refuses_vocabularies}
use Rattle.schema_validator.proofs.options.map.MapBuilding.checked_map.Goals as goal

pub returns-in_err-validate_schema-clause-refused :
    goal.returns-in_err-validate_schema-clause-refused
returns-in_err-validate_schema-clause-refused g c =
    let self = c.args.self.now in
    let h = handed g.S.Resolver g.T.KeywordTable g.K.Validate g.M.Matcher self.resolver.now self.table.now self.matcher.now in
    let root = key_of g.S.Resolver.point self.root.now in
    let p = err_from_is_err_and c.from_residual.result c.from_residual.ensures.1 in
    let options = self.options.now in
    let schema = view self.schema.now in
    let refuses = g.V.MetaValidators.checked c.args.metas.now in
    let e = c.in_err-validate_schema.field-0.0 in
    let why : IsMapRefused h refuses options schema e = record {
      refused = refuses_schema h options schema root c.requires.root refuses e c.in_err-validate_schema.ensures.refused;
      first = document_first_in_map h refuses options schema root c.requires.root e c.in_err-validate_schema.ensures.refused;
    } in
    rw (p.1, p.2) why

pub returns-in_err-check_vocabularies-clause-refused :
    goal.returns-in_err-check_vocabularies-clause-refused
returns-in_err-check_vocabularies-clause-refused g c =
    let self = c.args.self.now in
    let h = handed g.S.Resolver g.T.KeywordTable g.K.Validate g.M.Matcher self.resolver.now self.table.now self.matcher.now in
    let root = key_of g.S.Resolver.point self.root.now in
    let inside = c.options.inside in
    let e = c.in_err-check_vocabularies.field-0.0 in
    let why = λ (texts : Bool). subst (λ (o : Options). RefusesVocabularies (all_parts h.resolver (record { owns = h.table.owns; builtin = builtin; script = h.table.script }) o.formats o.declared h.matcher (h.words texts) o.draft o.base) root e) c.options.view_is
    (c.in_err-check_vocabularies.ensures.refused h.matcher (h.words texts) (option_map draft_of inside.draft) (option_map string_bytes inside.base)) in
    let p = err_from_is_err_and c.from_residual-in_err-check_vocabularies.result c.from_residual-in_err-check_vocabularies.ensures.1 in
    let options = self.options.now in
    let schema = view self.schema.now in
    let refuses = g.V.MetaValidators.checked c.args.metas.now in
    let refused : IsMapRefused h refuses options schema e = record {
      refused = refuses_vocabularies h options schema root c.requires.root refuses e why;
      first = vocabulary_first h refuses options schema root c.requires.root c.in_ok-validate_schema.ensures.accepted e why;
    } in
    rw (p.1, p.2) refused

pub returns-in_ok-paths-in-Some : goal.returns-in_ok-paths-in-Some
returns-in_ok-paths-in-Some g c =
    let self = c.args.self.now in
    let h = handed g.S.Resolver g.T.KeywordTable g.K.Validate g.M.Matcher self.resolver.now self.table.now self.matcher.now in
    let options = self.options.now in
    let schema = view self.schema.now in
    let refuses = g.V.MetaValidators.checked c.args.metas.now in
    let root = key_of g.S.Resolver.point self.root.now in
    let inside = c.options.inside in
    let declared = λ (texts : Bool). subst (λ (o : Options). flat_map (undeclared (all_parts h.resolver (record { owns = h.table.owns; builtin = builtin; script = h.table.script }) o.formats o.declared h.matcher (h.words texts) o.draft o.base)) root.target.vocabularies ≡ []) c.options.view_is
    (c.in_ok-check_vocabularies.ensures.declared h.matcher (h.words texts) (option_map draft_of inside.draft) (option_map string_bytes inside.base)) in
    let document = view c.in-Some.document.now in
    let made = c.map_of.result in
    let refused : IfErr made (RefusesOneOf h options root (schemas_of (Some document))) =
    subst (λ (ps : List Place). IfErr made (RefusesOneOf h options root ps)) (c.as_slice.ensures.value ∙ c.in_ok-paths-in-Some.ensures.schemas) c.map_of.ensures.refused in
    let held : IfOk made (HoldsPlaces h options schema root (schemas_of (Some document))) =
    subst (λ (ps : List Place). IfOk made (HoldsPlaces h options schema root ps)) (c.as_slice.ensures.value ∙ c.in_ok-paths-in-Some.ensures.schemas) c.map_of.ensures.holds in
    let fit = subst (Each IndicesFit) c.in_ok-paths-in-Some.ensures.schemas c.in_ok-paths-in-Some.ensures.fit in
    record {
      made = IfOk-weaker made _ _ (λ m is. record { accepted = c.in_ok-validate_schema.ensures.accepted; declared = declared; document = Some document; stands = sym c.in-Some.ensures.value; fit = fit; held = is }) held;
      refused = IfErr-weaker made _ (IsMapRefused h refuses options schema) (λ e why. record {
        refused = refuses_entry h options schema root c.requires.root refuses (Some document) (sym c.in-Some.ensures.value) e why;
        first = entry_first h refuses options schema root c.requires.root c.in_ok-validate_schema.ensures.accepted declared (Some document) (sym c.in-Some.ensures.value) e why;
      }) refused;
    }

pub returns-in-None : goal.returns-in-None
returns-in-None g c =
    let self = c.args.self.now in
    let h = handed g.S.Resolver g.T.KeywordTable g.K.Validate g.M.Matcher self.resolver.now self.table.now self.matcher.now in
    let options = self.options.now in
    let schema = view self.schema.now in
    let refuses = g.V.MetaValidators.checked c.args.metas.now in
    let root = key_of g.S.Resolver.point self.root.now in
    let inside = c.options.inside in
    let declared = λ (texts : Bool). subst (λ (o : Options). flat_map (undeclared (all_parts h.resolver (record { owns = h.table.owns; builtin = builtin; script = h.table.script }) o.formats o.declared h.matcher (h.words texts) o.draft o.base)) root.target.vocabularies ≡ []) c.options.view_is
    (c.in_ok-check_vocabularies.ensures.declared h.matcher (h.words texts) (option_map draft_of inside.draft) (option_map string_bytes inside.base)) in
    let made = c.map_of-in-None.result in
    record {
      made = IfOk-weaker made _ _ (λ m is. record { accepted = c.in_ok-validate_schema.ensures.accepted; declared = declared; document = None; stands = sym c.in-None.ensures.value; fit = tt; held = is }) c.map_of-in-None.ensures.holds;
      refused = IfErr-weaker made _ (IsMapRefused h refuses options schema) (λ e why. record {
        refused = refuses_entry h options schema root c.requires.root refuses None (sym c.in-None.ensures.value) e why;
        first = entry_first h refuses options schema root c.requires.root c.in_ok-validate_schema.ensures.accepted declared None (sym c.in-None.ensures.value) e why;
      }) c.map_of-in-None.ensures.refused;
    }
