use Rattle.std.proofs.Common.{◌≡◌, ℕ, ◌≤◌, Some, false, length, map}
use Rattle.std.specs.Prelude.{slice_get}
use Rattle.schema_traits.specs.MakerViews.{purpose_of}
use Rattle.schema_traits.specs.ResolverViews.{place_of}
use Rattle.schema_compiler.specs.Reserving.{Reserved, is_for}
use Rattle.schema_compiler.specs.ReservedViews.{reserved_of}
use Rattle.schema_compiler.proofs.compiler.reservations.last_pending.Given as goal

-- no number from this one on is in force for the purpose and the object
abbrev pub invariant-loop-number : goal.invariant-loop-number
invariant-loop-number l = (l.number ≤ length l.items) × ((j : ℕ) (r : Reserved) → l.number ≤ j → slice_get (map reserved_of l.items) j ≡ Some r → is_for (purpose_of l.kind) (place_of l.object) r ≡ false)

abbrev pub decreases-loop-number : goal.decreases-loop-number
decreases-loop-number l = l.number
