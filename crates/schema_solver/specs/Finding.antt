-- The solver of some nodes, and what the context of its verdict holds.
use Rattle.std.specs.Prelude.{[], ℕ, ◌≡◌}
use Rattle.serde_json.specs.declared.value.Value.{Value}
use Rattle.schema_solver.specs.Solving.{HoldsAsNodes, IsSoundIn, RestsOnFound, Setting}
use Rattle.schema_solver.specs.declared.eligible.SolvedVerdict.{SolvedVerdict}

-- the verdict of a number at the root place of an instance rests on the context that comes with it.
-- The context is about the instance, and has no pair in progress. Each verdict in it is what the
-- nodes say, and is true of every set that supports itself if each keyword is monotone. The verdict
-- is what the number says under each set that has all pairs the context accepts, and none that it
-- refuses.
pub record IsFoundAt {K R : Type 0} (g : Setting K R) (instance : Value) (i : ℕ) (v : SolvedVerdict) : Type 0 where
  pub root : v.context.root ≡ instance
  pub idle : v.context.in_progress ≡ []
  pub holds : HoldsAsNodes g v.context
  pub sound : IsSoundIn g v.context
  pub rests : RestsOnFound g v.context i v.valid
