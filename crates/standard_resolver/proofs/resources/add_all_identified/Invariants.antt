use Rattle.std.proofs.Common.{map, take}
use Rattle.std.specs.Prelude.{flat_map}
use Rattle.standard_resolver.specs.DocumentResources.{identified}
use Rattle.standard_resolver.specs.ResourcesGathered.{Adds}
use Rattle.standard_resolver.specs.DocumentViews.{visited_of}
use Rattle.standard_resolver.proofs.resources.add_all_identified.Given as goal

abbrev pub invariant-loop-visited : goal.invariant-loop-visited
invariant-loop-visited l = Adds (flat_map (identified l.reading l.document) (map visited_of (take l.visited-index l.all))) l.initial.gathered
    l.gathered
