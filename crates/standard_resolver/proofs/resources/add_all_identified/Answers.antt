use Rattle.std.proofs.Common.{List, ap, length, map, subst, take, ◌<◌}
use Rattle.std.specs.Prelude.{flat_map}
use Rattle.std.proofs.lemmas.List.{take_all}
use Rattle.standard_resolver.specs.DocumentResources.{Resource, identified}
use Rattle.standard_resolver.specs.ResourcesGathered.{Adds}
use Rattle.standard_resolver.specs.DocumentViews.{visited_of}
use Rattle.standard_resolver.specs.declared.walk.Visited as code
use Rattle.standard_resolver.proofs.ResourceLists.{adds_both, one_more}
use Rattle.standard_resolver.proofs.resources.add_all_identified.Goals as goal

pub loop-visited-preserved : goal.loop-visited-preserved
loop-visited-preserved c =
    let items = c.args.all.now in
    let i = c.loop-visited.visited-index in
    let v = c.visited-item.result in
    let f = identified c.args.reading.now c.args.document in
    let within : i < length items = c.loop-visited-test.true in
    subst (λ (rs : List Resource). Adds rs c.args.gathered.now c.add_identified.new.gathered)
    (one_more f visited_of items i v within c.visited-item.is)
    (adds_both (flat_map f (map visited_of (take i items))) (f (visited_of v)) c.args.gathered.now c.loop-visited.gathered
    c.add_identified.new.gathered c.loop-visited.invariant c.in_ok-add_identified.ensures.added)

pub returns : goal.returns
returns c =
    let items = c.args.all.now in
    let f = identified c.args.reading.now c.args.document in
    let all = ap (λ (vs : List code.Visited). flat_map f (map visited_of vs))
    (take_all c.loop-visited.visited-index items c.loop-visited-test.false) in
    record { added = subst (λ (rs : List Resource). Adds rs c.args.gathered.now c.loop-visited.gathered) all c.loop-visited.invariant }
