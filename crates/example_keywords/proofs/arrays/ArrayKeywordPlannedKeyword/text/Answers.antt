use Rattle.std.proofs.Common.{◌∙◌, ◌++◌, ap}
use Rattle.std.specs.Prelude.{codes, decimal}
use Rattle.example_keywords.proofs.arrays.ArrayKeywordPlannedKeyword.text.Goals as goal

pub returns-in_ok-write-in-MinItems : goal.returns-in_ok-write-in-MinItems
returns-in_ok-write-in-MinItems c = record { text = λ whole plain. rw c.in-MinItems.is (c.in_ok-write-in-MinItems.ensures.bytes ∙ ap (λ t. t ++ (codes " has less than " ++ (decimal c.in-MinItems.limit ++ codes " items"))) (c.in_ok-text.ensures.text plain)) }

pub returns-in_ok-push_str-in-Contains : goal.returns-in_ok-push_str-in-Contains
returns-in_ok-push_str-in-Contains c = record { text = λ whole plain. rw c.in-Contains.is (c.in_ok-push_str-in-Contains.ensures.bytes ∙ ap (λ t. t ++ codes " has no item that is valid") (c.in_ok-text.ensures.text plain)) }
