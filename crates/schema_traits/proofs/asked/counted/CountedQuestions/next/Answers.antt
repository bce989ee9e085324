use Rattle.std.proofs.Common.{refl, Option, ap, subst, sym, ◌∙◌, ◌≡◌}
use Rattle.schema_traits.specs.declared.asked.AskedQuestion.{AskedQuestion}
use Rattle.schema_traits.specs.declared.asked.counted.Walk.{Walk}
use Rattle.schema_traits.specs.declared.asked.counted.Walk.TheVariants as walk
use Rattle.schema_traits.specs.Questions.{AsksFirst, QuestionsLeft}
use Rattle.schema_traits.specs.Walks.{IsOnItsWay, left_in, subject_in}
use Rattle.schema_traits.proofs.FirstAsked.{Says, says_first}
use Rattle.schema_traits.proofs.asked.counted.CountedQuestions.next.Goals as goal
use Rattle.schema_traits.proofs.asked.counted.CountedQuestions.next.Goals.{in-Here, in-Items, in-Listed}

pub invariant_of-self : goal.invariant_of-self
invariant_of-self c = elim c.match-self.branch [
  | in-Here w ↦ subst (λ q. IsOnItsWay q.walk) (sym w.self-inside-is) tt
  | in-Items w ↦ subst (λ q. IsOnItsWay q.walk) (sym w.self-inside-is) tt
  | in-Listed w ↦ subst (λ q. IsOnItsWay q.walk) (sym w.self-inside-is) (subst IsOnItsWay w.in-Listed.is c.self.invariant)
]

abbrev left_of : Walk → QuestionsLeft
left_of w = record { subject = subject_in w; left = left_in w }

-- an iterator, and the same one after the call
says : (q : QuestionsLeft) (there before after now : Walk) (asked first : Option AskedQuestion) → left_of there ≡ q → there ≡ before → now ≡ after → asked ≡ first → subject_in after ≡ subject_in before
    → AsksFirst (subject_in before) (left_in before) first (left_in after) → Says q asked (left_of now)
says q there before after now asked first view is came asks same h =
    subst (λ w. Says q asked (left_of w)) (sym came) (subst (λ r. Says q r (left_of after)) (sym asks) (says_first (left_of before) q (left_of after) first (sym (ap left_of is) ∙ view) same h))

pub returns : goal.returns
returns c =
    let it : Says c.args.self.now c.match-self.result (left_of c.match-self.self-inside.walk) = elim c.match-self.branch [
      | in-Here w ↦ says c.args.self.now c.self.inside.walk (walk.Here w.in-Here.walk) _ c.match-self.self-inside.walk c.match-self.result w.next_here.result c.self.view_is w.in-Here.is (ap (λ q. q.walk) w.self-inside-is) w.result-is refl (w.next_here.ensures.asks (subject_in (walk.Here w.in-Here.walk)))
      | in-Items w ↦ says c.args.self.now c.self.inside.walk (walk.Items w.in-Items.walk) _ c.match-self.self-inside.walk c.match-self.result w.next_item.result c.self.view_is w.in-Items.is (ap (λ q. q.walk) w.self-inside-is) w.result-is refl w.next_item.ensures.asks
      | in-Listed w ↦ says c.args.self.now c.self.inside.walk (walk.Listed w.in-Listed.walk) _ c.match-self.self-inside.walk c.match-self.result w.next_listed.result c.self.view_is w.in-Listed.is (ap (λ q. q.walk) w.self-inside-is) w.result-is refl w.next_listed.ensures.asks
    ] in
    record { next = it.0; there = it.1; ended = it.2; subject = it.3 }
