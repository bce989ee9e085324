-- The answer to a question, and what is known of it if a loop goes on after it, and if it ends.
use Rattle.std.proofs.Common.{◌≡◌, ◌∙◌, ◌&&◌, not, Bool, true, false, refl, subst, true≢false}
use Rattle.std.proofs.lemmas.Bool.{not-false, not-true}
use Rattle.std.specs.Prelude.{Err, Ok, Result}
use Rattle.serde_json.specs.View.{view}
use Rattle.theory_definitions.specs.Instance.{Place}
use Rattle.theory_fixed_points.specs.Under.{Solving}
use Rattle.theory_fixed_points.specs.Found.{Found}
use Rattle.schema_solver_state.specs.Contexts.{Solver, found_of}
use Rattle.schema_solver_state.specs.Saying.{WhatIsSaid}
use Rattle.schema_solver.specs.declared.question.Stopped.{Stopped}
use Rattle.schema_solver.specs.Solved.{Solved}
use Rattle.schema_solver.specs.Solving.{Goes, InEach, Setting}
use Rattle.schema_solver.specs.Telling.{ends_with, leans_in}
use Rattle.schema_solver.proofs.Going.{goes_on}
use Rattle.schema_solver.proofs.Stopping.{stops_on}

-- something is said, and as it has to be
pub record GoesOn (told : Result WhatIsSaid Stopped) (all : Bool) : Type 0 where
  pub said : WhatIsSaid
  pub is : told ≡ Ok said
  pub valid : said.valid ≡ all
  pub leans : leans_in told ≡ said.leans

pub goes_on_after : (told : Result WhatIsSaid Stopped) (all : Bool) → ends_with told all ≡ false → GoesOn told all
goes_on_after (Ok s) true is = record { said = s; is = refl; valid = not-false s.valid is; leans = refl }
goes_on_after (Ok s) false is = record { said = s; is = refl; valid = is; leans = refl }
goes_on_after (Err e) all is = absurd (true≢false is)

other_than : (s : WhatIsSaid) (all : Bool) → ends_with (Ok s) all ≡ true → s.valid ≡ not all
other_than s true is = not-true s.valid is
other_than s false is = is

-- only a "valid" is provisional
pub leans_once : (b leans : Bool) → (b && (b && leans)) ≡ (b && leans)
leans_once true leans = refl
leans_once false leans = refl

-- what is solved by a result is so by one that is the same
pub solved_at : {K R T : Type 0} (g : Setting K R) (says : K → Bool) (p : Place) (c d : Solver) (told same : Result T Stopped) (says_this : T → Solving K R → Found → Type 0)
    → Solved g says p c d told says_this → told ≡ same → Solved g says p c d same says_this
solved_at g says p c d told same says_this solved is = subst (λ r. Solved g says p c d r says_this) is solved

-- a loop ends after it: it has the other verdict, which is the one of all, or none
module _ {K R : Type 0} (g : Setting K R) (says : K → Bool) (p : Place) (a c d : Solver) (went : Goes g p a c) (marking : c.marking ≡ a.marking) where
  pub ends_after : (told : Result WhatIsSaid Stopped) (all : Bool) (says_this says_that : WhatIsSaid → Solving K R → Found → Type 0) → ends_with told all ≡ true
      → ((s : WhatIsSaid) → s.valid ≡ not all → Goes g p c d → InEach g (view d.root) (λ texts w. says_this s w (found_of d)) → InEach g (view d.root) (λ texts w. says_that s w (found_of d)))
      → Solved g says p c d told says_this → Solved g says p a d told says_that
  ends_after (Ok s) all says_this says_that ends step solved = record {
    goes = goes_on g p a c d went solved.goes;
    marking = solved.marking ∙ marking;
    says = step s (other_than s all ends) solved.goes solved.says;
    stops = tt;
  }
  ends_after (Err e) all says_this says_that ends step solved = record { goes = tt; marking = tt; says = tt; stops = stops_on g says p a c d e went solved.stops }
