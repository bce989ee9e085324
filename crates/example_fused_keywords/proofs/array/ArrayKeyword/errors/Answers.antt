use Rattle.std.proofs.Common.{sym, subst}
use Rattle.std.specs.Prelude.{All}
use Rattle.std.proofs.lemmas.List.Elements.{All-nil}
use Rattle.schema_traits.specs.FaultViews.{PassesBorrowed}
use Rattle.example_fused_keywords.proofs.array.ArrayKeyword.errors.Goals as goal

pub returns-in_ok-push_error-in-MinItems-clause-borrows : goal.returns-in_ok-push_error-in-MinItems-clause-borrows
returns-in_ok-push_error-in-MinItems-clause-borrows c = λ root. c.in_ok-push_error-in-MinItems.ensures.borrows root
    (subst (All (PassesBorrowed root)) (sym c.new-faults.ensures.items) (All-nil _))

pub returns-in_ok-push_error-in-ArrayShape-2-clause-borrows : goal.returns-in_ok-push_error-in-ArrayShape-2-clause-borrows
returns-in_ok-push_error-in-ArrayShape-2-clause-borrows c = λ root. c.in_ok-push_error-in-ArrayShape-2.ensures.borrows root
    (c.in_ok-push_error-in-ArrayShape.ensures.borrows root (subst (All (PassesBorrowed root)) (sym c.new-faults.ensures.items) (All-nil _)))
