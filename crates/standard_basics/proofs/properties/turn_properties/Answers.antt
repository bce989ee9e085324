use Rattle.std.proofs.Common.{◌≤◌, [], List, Option, map, length, arith}
use Rattle.std.proofs.lemmas.List.{length-map}
use Rattle.std.specs.Rc.{rc_str_bytes}
use Rattle.schema_reports.specs.InstanceViews.{subject_of}
use Rattle.theory_definitions.specs.Keywords.{Question}
use Rattle.schema_traits.specs.KeywordViews.{answer_of}
use Rattle.keyword_authoring.specs.Members.{members_from}
use Rattle.keyword_authoring.proofs.NextQuestions.{length-members, some_stepped, some_turned}
use Rattle.standard_basics.proofs.properties.turn_properties.Goals as goal

pub returns-clause-turn : goal.returns-clause-turn
returns-clause-turn c = record {
  turns = λ texts. let os : List (Option Question) = members_from 0 (map rc_str_bytes c.args.names.now) (subject_of c.args.instance) in
      let within : length os ≤ length c.args.names.now = omega (arith, length-members 0 (map rc_str_bytes c.args.names.now) (subject_of c.args.instance), length-map c.args.names.now rc_str_bytes) in
      some_turned os c.args.run.now c.ask_member.new.run _ _ _ c.in_ok-start.start (c.in_ok-start.ensures.next_from texts os within) c.ask_member.ensures.stage (c.in_ok-start.ensures.answered texts []);
  steps = λ texts. let os : List (Option Question) = members_from 0 (map rc_str_bytes c.args.names.now) (subject_of c.args.instance) in
      let within : length os ≤ length c.args.names.now = omega (arith, length-members 0 (map rc_str_bytes c.args.names.now) (subject_of c.args.instance), length-map c.args.names.now rc_str_bytes) in
      some_stepped os c.args.run.now (answer_of texts c.args.answer.now) _ c.in_ok-start.start _ (c.in_ok-start.ensures.next_from texts os within) c.ask_member.ensures.step;
}
