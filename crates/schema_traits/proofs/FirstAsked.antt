-- The contract of `next`, by the question that it returns.
use Rattle.std.proofs.Common.{IfSome, MatchOption, None, Option, Some, [], ap, subst, sym, ◌∙◌, ◌∷◌, ◌≡◌}
use Rattle.schema_traits.specs.declared.asked.AskedQuestion.{AskedQuestion}
use Rattle.schema_traits.specs.Questions.{AsksFirst, QuestionsLeft, StandsThere, question_in}

-- what the contract says of the questions left before the call, of the one that is returned, and
-- of those left after it
abbrev pub Says : QuestionsLeft → Option AskedQuestion → QuestionsLeft → Type 0
Says q asked now =
    MatchOption asked (q.left ≡ []) (λ a. q.left ≡ question_in a ∷ now.left)
    × IfSome asked (λ a. StandsThere q.subject a)
    × (q.left ≡ [] → now.left ≡ [])
    × (now.subject ≡ q.subject)

-- the question that it returns is the first, and the others are left
pub says_first : (before q now : QuestionsLeft) (asked : Option AskedQuestion) → before ≡ q → now.subject ≡ before.subject → AsksFirst before.subject before.left asked now.left → Says q asked now
says_first before q now None is same h = (sym (ap (λ r. r.left) is) ∙ h.0, tt, λ _. h.1, same ∙ ap (λ r. r.subject) is)
says_first before q now (Some a) is same h =
    let asks : q.left ≡ question_in a ∷ now.left = sym (ap (λ r. r.left) is) ∙ h.0 in
    (asks, subst (λ s. StandsThere s a) (ap (λ r. r.subject) is) h.1, λ none. let apart : [] ≡ question_in a ∷ now.left = sym none ∙ asks in cc, same ∙ ap (λ r. r.subject) is)
