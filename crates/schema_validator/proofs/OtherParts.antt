-- What is compiled does not depend on the matcher, nor on how keywords run.
use Rattle.std.proofs.Common.{ℕ, List, [], ◌∷◌}
use Rattle.theory_definitions.specs.Instance.{Text}
use Rattle.theory_definitions.specs.Matching.{Matcher}
use Rattle.theory_definitions.specs.Resolving.{Resolver}
use Rattle.theory_definitions.specs.Making.{Table}
use Rattle.theory_definitions.specs.Keywords.{Keywords}
use Rattle.theory_definitions.specs.Parts.{Parts}
use Rattle.theory_definitions.specs.Plan.{Key, Part, Form, keyword, reference, Plan, always, never, these, plan}
use Rattle.theory_meaning.specs.Reach.{Reached, at_first, asked_by}
use Rattle.theory_meaning.specs.Refusals.{Cause, Compiles, Aimed, the_root, referred_by, Stands, stands_at, is_required}
use Rattle.theory_definitions.specs.Guarded.{NodeForm, node_keyword, node_reference, NodePart, NodePlan, node_always, node_never, node_these, Nodes}
use Rattle.theory_meaning.specs.Numbered.{Numbers, SameForm, SameParts, SamePlan, StandsFor, AreNumbered}
use Rattle.schema_validator.specs.Handed.{Options, parts_of}

module _ {S K R R' : Type 0} (resolver : Resolver S) (table : Table K) (matcher matcher' : Matcher) (keywords : Keywords K R) (keywords' : Keywords K R') (options : Options) where
  abbrev w : Parts S K R
  w = parts_of resolver table matcher keywords options

  abbrev w' : Parts S K R'
  w' = parts_of resolver table matcher' keywords' options

  pub reached_too : {root k : Key S} → Reached w root k → Reached w' root k
  reached_too at_first = at_first
  reached_too (asked_by r c) = asked_by (reached_too r) c

  aimed_too : {root k : Key S} → Aimed w root k → Aimed w' root k
  aimed_too the_root = the_root
  aimed_too (referred_by edge r c e) = referred_by edge (reached_too r) c e

  pub stands_too : {root : Key S} {cause : Cause} → Stands w root cause → Stands w' root cause
  stands_too (stands_at k r c) = stands_at k (reached_too r) c
  stands_too (is_required k a c) = is_required k (aimed_too a) c

  module _ (keys : Numbers S) (nodes : Nodes K) (k : Key S) where
    form_too : (name : Text) (x : NodeForm K) (y : Form K) → SameForm w keys nodes k name x y → SameForm w' keys nodes k name x y
    form_too name (node_keyword m es) (keyword m' requests absorbed) s = s
    form_too name (node_keyword m es) (reference kind text) s = s
    form_too name (node_reference e) (keyword m' requests absorbed) s = s
    form_too name (node_reference e) (reference kind text) s = s

    parts_too : (xs : List (NodePart K)) (ys : List (Part K)) → SameParts w keys nodes k xs ys → SameParts w' keys nodes k xs ys
    parts_too [] [] s = tt
    parts_too [] (y ∷ ys) s = s
    parts_too (x ∷ xs) [] s = s
    parts_too (x ∷ xs) (y ∷ ys) s = (record { name = s.0.name; priority = s.0.priority; is_leaf = s.0.is_leaf; form = form_too y.name x.form y.form s.0.form }, parts_too xs ys s.1)

    plan_too : (p : NodePlan K) (q : Plan K) → SamePlan w keys nodes k p q → SamePlan w' keys nodes k p q
    plan_too node_always always s = s
    plan_too node_always never s = s
    plan_too node_always (these ys) s = s
    plan_too node_never always s = s
    plan_too node_never never s = s
    plan_too node_never (these ys) s = s
    plan_too (node_these xs) always s = s
    plan_too (node_these xs) never s = s
    plan_too (node_these xs) (these ys) s = parts_too xs ys s

    stands_for_too : (i : ℕ) → StandsFor w keys nodes i k → StandsFor w' keys nodes i k
    stands_for_too i s = record { entries = plan_too (nodes.entries i) (plan w k) s.entries; location = s.location; absolute = s.absolute; annotations = s.annotations }

  pub numbered_too : (keys : Numbers S) (nodes : Nodes K) → AreNumbered w keys nodes → AreNumbered w' keys nodes
  numbered_too keys nodes n = record { stands = λ i k is. stands_for_too keys nodes k i (n.stands i k is); once = n.once; guards = n.guards }

-- there is no cause of refusal by the one, if there is none by the other
pub compiles_too : {S K R R' : Type 0} (resolver : Resolver S) (table : Table K) (matcher matcher' : Matcher) (keywords : Keywords K R) (keywords' : Keywords K R') (options : Options) (root : Key S)
    → Compiles (parts_of resolver table matcher keywords options) root → Compiles (parts_of resolver table matcher' keywords' options) root
compiles_too resolver table matcher matcher' keywords keywords' options root compiles = λ cause stands. compiles cause (stands_too resolver table matcher' matcher keywords' keywords options stands)
