use Rattle.std.proofs.Common.{subst, sym, ◌∙◌}
use Rattle.standard_subschemas.specs.declared.rules.Rule.{Rule}
use Rattle.standard_resolver.specs.DocumentResources.{identified, identified_by, written_root}
use Rattle.standard_resolver.specs.ResourcesGathered.{Adds}
use Rattle.standard_resolver.specs.DocumentViews.{visited_of}
use Rattle.standard_resolver.proofs.ResourceLists.{adds_both}
use Rattle.standard_resolver.proofs.resources.add_identified_root.Goals as goal

pub returns-in_ok-add_written_root-in-Standard : goal.returns-in_ok-add_written_root-in-Standard
returns-in_ok-add_written_root-in-Standard c =
    let reading = c.args.reading.now in
    let v = visited_of c.args.root.now in
    let n = c.args.document in
    record {
      added = subst (λ (r : Rule). Adds (identified_by r reading n v) c.args.gathered.now c.add_written_root.new.gathered)
          (sym c.in-Standard.is ∙ c.rule.ensures.rule)
          (adds_both (identified reading n v) (written_root reading n v) c.args.gathered.now c.add_identified.new.gathered
          c.add_written_root.new.gathered c.in_ok-add_identified-in-Standard.ensures.added
          c.in_ok-add_written_root-in-Standard.ensures.added);
    }
