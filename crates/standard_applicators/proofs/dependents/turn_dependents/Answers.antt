use Rattle.std.proofs.Common.{◌≤◌, [], List, Option, map, length, string_bytes, arith}
use Rattle.std.proofs.lemmas.List.{length-map}
use Rattle.schema_reports.specs.InstanceViews.{subject_of}
use Rattle.theory_definitions.specs.Keywords.{Question}
use Rattle.schema_traits.specs.KeywordViews.{answer_of}
use Rattle.keyword_authoring.proofs.NextQuestions.{some_stepped, some_turned}
use Rattle.standard_applicators.specs.Dependents.{dependents_from}
use Rattle.standard_applicators.proofs.NextDependents.{length-dependents}
use Rattle.standard_applicators.proofs.dependents.turn_dependents.Goals as goal

pub returns-clause-turn : goal.returns-clause-turn
returns-clause-turn c = record {
  turns = λ texts. let os : List (Option Question) = dependents_from 0 (map string_bytes c.args.names.now) (subject_of c.args.instance) in
      let within : length os ≤ length c.args.names.now = omega (arith, length-dependents 0 (map string_bytes c.args.names.now) (subject_of c.args.instance), length-map c.args.names.now string_bytes) in
      some_turned os c.args.run.now c.ask_dependent.new.run _ _ _ c.in_ok-start.start (c.in_ok-start.ensures.next_from texts os within) c.ask_dependent.ensures.stage (c.in_ok-start.ensures.answered texts []);
  steps = λ texts. let os : List (Option Question) = dependents_from 0 (map string_bytes c.args.names.now) (subject_of c.args.instance) in
      let within : length os ≤ length c.args.names.now = omega (arith, length-dependents 0 (map string_bytes c.args.names.now) (subject_of c.args.instance), length-map c.args.names.now string_bytes) in
      some_stepped os c.args.run.now (answer_of texts c.args.answer.now) _ c.in_ok-start.start _ (c.in_ok-start.ensures.next_from texts os within) c.ask_dependent.ensures.step;
}
