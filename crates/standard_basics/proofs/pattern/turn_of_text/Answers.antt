use Rattle.std.proofs.Common.{ap, codes, sym, ◌∙◌}
use Rattle.schema_reports.specs.InstanceViews.{subject_of}
use Rattle.schema_reports.specs.ReportViews.{spoken}
use Rattle.schema_traits.specs.KeywordViews.{answer_of}
use Rattle.standard_basics.specs.Words.{pattern_text}
use Rattle.standard_basics.proofs.pattern.turn_of_text.Goals as goal

pub returns-in-Asks-clause-turns : goal.returns-in-Asks-clause-turns
returns-in-Asks-clause-turns c = λ texts tells. c.in-Asks.ensures.turns texts (codes "pattern") (spoken texts (pattern_text c.args.pattern.now (subject_of c.args.instance)))
    (record { pattern = c.args.pattern.now; subject = c.args.text.now }) (answer_of texts c.args.answer.now)

pub returns-in-Asks-clause-steps : goal.returns-in-Asks-clause-steps
returns-in-Asks-clause-steps c = λ texts. c.in-Asks.ensures.steps texts (codes "pattern") (spoken texts (pattern_text c.args.pattern.now (subject_of c.args.instance)))
    (record { pattern = c.args.pattern.now; subject = c.args.text.now }) (answer_of texts c.args.answer.now) ∙ sym c.ask_match.ensures.step

pub returns-in_ok-tell_pattern-in-Answered-clause-turns : goal.returns-in_ok-tell_pattern-in-Answered-clause-turns
returns-in_ok-tell_pattern-in-Answered-clause-turns c = λ texts tells. c.in-Answered.ensures.turns texts (codes "pattern") (spoken texts (pattern_text c.args.pattern.now (subject_of c.args.instance)))
    (record { pattern = c.args.pattern.now; subject = c.args.text.now }) (answer_of texts c.args.answer.now)
    ∙ ap (λ a. (c.match_on.new.run, a)) (sym (c.in_ok-tell_pattern-in-Answered.ensures.told texts tells))

pub returns-in_ok-tell_pattern-in-Answered-clause-steps : goal.returns-in_ok-tell_pattern-in-Answered-clause-steps
returns-in_ok-tell_pattern-in-Answered-clause-steps c = λ texts. c.in-Answered.ensures.steps texts (codes "pattern") (spoken texts (pattern_text c.args.pattern.now (subject_of c.args.instance)))
    (record { pattern = c.args.pattern.now; subject = c.args.text.now }) (answer_of texts c.args.answer.now)

pub returns-in_ok-tell_pattern-in-Answered-clause-borrows : goal.returns-in_ok-tell_pattern-in-Answered-clause-borrows
returns-in_ok-tell_pattern-in-Answered-clause-borrows c = λ root errors faults. c.in_ok-tell_pattern-in-Answered.ensures.borrows root faults

pub returns-in-Over-clause-turns : goal.returns-in-Over-clause-turns
returns-in-Over-clause-turns c = λ texts tells. c.in-Over.ensures.turns texts (codes "pattern") (spoken texts (pattern_text c.args.pattern.now (subject_of c.args.instance)))
    (record { pattern = c.args.pattern.now; subject = c.args.text.now }) (answer_of texts c.args.answer.now)

pub returns-in-Over-clause-steps : goal.returns-in-Over-clause-steps
returns-in-Over-clause-steps c = λ texts. c.in-Over.ensures.steps texts (codes "pattern") (spoken texts (pattern_text c.args.pattern.now (subject_of c.args.instance)))
    (record { pattern = c.args.pattern.now; subject = c.args.text.now }) (answer_of texts c.args.answer.now)
