use Rattle.std.proofs.Common.{ℕ, ◌≡◌, ◌≤◌, ◌++◌, drop, map}
use Rattle.std.specs.Prelude.{flat_map}
use Rattle.schema_drafts.specs.KeywordViews.{draft_of}
use Rattle.schema_traits.specs.ResolverViews.{place_of}
use Rattle.schema_keys.specs.CutViews.{cut_of}
use Rattle.schema_keys.proofs.CheckedDocuments.{cut_at, height, lies_at}
use Rattle.schema_keys.proofs.check.SchemaCheck.+find_cuts.Given as goal

abbrev pub decreases-find_cuts : goal.decreases-find_cuts
decreases-find_cuts g l = height (g.R.Resolver.resolving l.self.now.resolver.now) (place_of l.place.now)

abbrev pub invariant-loop-below : goal.invariant-loop-below
invariant-loop-below g l = (n : ℕ) → height (g.R.Resolver.resolving l.self.resolver.now) (place_of l.place) ≤ n
    → map cut_of l.cuts.items ++ flat_map (cut_at (g.R.Resolver.resolving l.self.resolver.now) n (draft_of l.document) (draft_of l.draft)) (map lies_at (drop l.below-index l.below-items))
    ≡ map cut_of l.initial.cuts.items ++ flat_map (cut_at (g.R.Resolver.resolving l.self.resolver.now) n (draft_of l.document) (draft_of l.draft)) (map lies_at l.below-items)
