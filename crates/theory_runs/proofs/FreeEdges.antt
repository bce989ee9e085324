-- The matches that are met across an unguarded edge are those of its node.
use Rattle.std.proofs.Common.{◌≡◌, ◌==◌, ◌∷◌, ◌++◌, false, suc, ap, arith, subst, sym}
use Rattle.std.specs.List.{list_any}
use Rattle.theory_definitions.specs.Guarded.{NodeEdge, yes_run}
use Rattle.theory_definitions.specs.Keywords.{here}
use Rattle.theory_definitions.specs.Runs.{Run}
use Rattle.theory_meaning.specs.Numbered.{left}
use Rattle.schema_run_context.specs.Progress.{Context}
use Rattle.schema_run_context.proofs.Matches.{meets_same}
use Rattle.schema_run_steps.specs.Askings.{Asking}
use Rattle.schema_run_steps.specs.NodeRuns.{edge_needs}
use Rattle.schema_run_steps.proofs.NodeRuns.{free_case}
use Rattle.theory_runs.specs.NodeMeets.{deep_run, edge_run}
use Rattle.theory_runs.specs.RunStates.{MeetsEdge, MeetsNode, Setting, busy, settled_by}

module _ {K R : Type 0} (g : Setting K R) (q : Asking) (c c' : Context) (e : NodeEdge) where
  pub free_meets : e.guarded ≡ false → (q' : Asking) → q' ≡ record q { path = q.path ++ e.path } → MeetsNode g q' c c' e.node → MeetsEdge g q c c' e
  free_meets free q' is h texts root depth reads l =
      let taken = busy g q c in
      let w = settled_by g q c in
      let needs : edge_needs g.nodes g.count e q.subject taken ≡ suc (left g.nodes g.count e.node q.subject taken) = free_case e.guarded (list_any (λ i. i == e.node) taken) _ (suc (left g.nodes g.count e.node q.subject (e.node ∷ taken))) 0 free in
      let run = deep_run g.words g.nodes w texts root depth e.node (q.path ++ e.path) q.place in
      let across : edge_run g.words g.nodes w texts root depth q.path q.place taken e here ≡ run taken = free_case e.guarded (list_any (λ i. i == e.node) taken) (run taken) (run (e.node ∷ taken)) (yes_run g.nodes e.node (q.path ++ e.path) q.place) free in
      let there : MeetsNode g (record q { path = q.path ++ e.path }) c c' e.node = subst (λ z. MeetsNode g z c c' e.node) is h in
      meets_same g.matcher c.remembered c'.remembered _ _ (ap (λ (r : Run). r.met q.mode) (sym across)) (there texts root depth reads (omega (arith, needs, l)))
