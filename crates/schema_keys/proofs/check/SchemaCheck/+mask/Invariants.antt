use Rattle.std.proofs.Common.{◌≡◌, ◌++◌, List, drop, map}
use Rattle.serde_json.specs.View.{members_view, view}
use Rattle.serde_json.proofs.Views.{Entry}
use Rattle.theory_meaning.specs.Documents.{masked_members}
use Rattle.schema_traits.specs.ResolverViews.{place_of}
use Rattle.schema_keys.specs.Compiling.{resolving_parts}
use Rattle.schema_keys.specs.CutViews.{cut_of}
use Rattle.schema_keys.proofs.MaskedDocuments.{children_from}
use Rattle.schema_keys.proofs.check.SchemaCheck.+mask.Given as goal

abbrev pub invariant-masked_items-loop-index : goal.invariant-masked_items-loop-index
invariant-masked_items-loop-index g l =
    map view l.copies.items ++ children_from (resolving_parts (g.R.Resolver.resolving l.self.resolver.now)) (map cut_of l.cuts) (place_of l.place) l.index (drop l.index l.items.items)
    ≡ children_from (resolving_parts (g.R.Resolver.resolving l.self.resolver.now)) (map cut_of l.cuts) (place_of l.place) 0 l.items.items

abbrev pub invariant-masked_members-loop-name : goal.invariant-masked_members-loop-name
invariant-masked_members-loop-name g l =
    (done : List Entry) × (l.members.entries ≡ done ++ l.name-iterator)
    × (members_view l.copies.entries ≡ masked_members (resolving_parts (g.R.Resolver.resolving l.self.resolver.now)) (map cut_of l.cuts) (place_of l.place) (members_view done))
