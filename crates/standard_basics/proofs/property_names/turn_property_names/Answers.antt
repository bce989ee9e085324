use Rattle.std.proofs.Common.{◌≤◌, [], List, Option, map, length, string_bytes, arith}
use Rattle.std.proofs.lemmas.List.{length-map}
use Rattle.schema_reports.specs.InstanceViews.{subject_of}
use Rattle.theory_definitions.specs.Keywords.{Question}
use Rattle.schema_traits.specs.KeywordViews.{answer_of}
use Rattle.keyword_authoring.proofs.NextQuestions.{some_stepped, some_turned}
use Rattle.standard_basics.specs.Words.{name_asked}
use Rattle.standard_basics.proofs.property_names.turn_property_names.Goals as goal

pub returns-clause-turn : goal.returns-clause-turn
returns-clause-turn c = record {
  turns = λ texts. let os : List (Option Question) = map (name_asked (subject_of c.args.instance)) (map string_bytes c.args.names.now) in
      let within : length os ≤ length c.args.names.now = omega (arith, length-map (map string_bytes c.args.names.now) (name_asked (subject_of c.args.instance)), length-map c.args.names.now string_bytes) in
      some_turned os c.args.run.now c.ask_name.new.run _ _ _ c.in_ok-start.start (c.in_ok-start.ensures.next_from texts os within) c.ask_name.ensures.stage (c.in_ok-start.ensures.answered texts []);
  steps = λ texts. let os : List (Option Question) = map (name_asked (subject_of c.args.instance)) (map string_bytes c.args.names.now) in
      let within : length os ≤ length c.args.names.now = omega (arith, length-map (map string_bytes c.args.names.now) (name_asked (subject_of c.args.instance)), length-map c.args.names.now string_bytes) in
      some_stepped os c.args.run.now (answer_of texts c.args.answer.now) _ c.in_ok-start.start _ (c.in_ok-start.ensures.next_from texts os within) c.ask_name.ensures.step;
}
