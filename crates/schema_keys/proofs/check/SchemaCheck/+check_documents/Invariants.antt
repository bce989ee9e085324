use Rattle.schema_traits.specs.ResolverViews.{place_of}
use Rattle.schema_keys.proofs.CheckedDocuments.{AcceptedFrom, FollowsFrom, height}
use Rattle.schema_keys.proofs.check.SchemaCheck.+check_documents.Given as goal

abbrev pub decreases-check_documents : goal.decreases-check_documents
decreases-check_documents g l = height (g.R.Resolver.resolving l.self.now.resolver.now) (place_of l.place.now)

abbrev pub invariant-loop-cut : goal.invariant-loop-cut
invariant-loop-cut g l = record {
  accepted : AcceptedFrom (g.R.Resolver.resolving l.self.resolver.now) (g.V.MetaValidators.checked l.self.metas.now) (place_of l.place) l.cut-items l.cut-index;
  follows : FollowsFrom (g.R.Resolver.resolving l.self.resolver.now) (g.V.MetaValidators.checked l.self.metas.now) (place_of l.place) l.cut-items l.cut-index;
}
