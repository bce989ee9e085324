use Rattle.std.proofs.Common.{◌∙◌, ◌≡◌, None, Some, ap, option_map, subst, sym}
use Rattle.std.specs.Prelude.{if◌then◌else◌}
use Rattle.schema_reports.specs.InstanceViews.{subject_of}
use Rattle.keyword_authoring.specs.Members.{has_member}
use Rattle.standard_pattern_properties.specs.Firsts.{first_of, later_of}
use Rattle.standard_pattern_properties.specs.GatedKeywords.{form_of, gates_of, moved_by}
use Rattle.standard_pattern_properties.specs.GateMoves.{seeks}
use Rattle.standard_pattern_properties.proofs.Seeking.{GoesOn, seeks_here, seeks_later}
use Rattle.standard_pattern_properties.proofs.keyword.GatedKeyword.seek.Goals.{in-Some-name_in+in_ok-made+in_default-2, in_default-name_in}
use Rattle.standard_pattern_properties.proofs.keyword.GatedKeyword.seek.Goals as goal

pub returns-in-Some-2-clause-seeks : goal.returns-in-Some-2-clause-seeks
returns-in-Some-2-clause-seeks c =
    let gates = gates_of c.args.self.now in let form = form_of c.args.self.now in let s = subject_of c.args.instance in let run = c.loop-next.run in
    let first : first_of run.names ≡ Some c.in-Some.next.now = sym c.first.ensures.first ∙ ap (option_map (λ k. k.now)) c.in-Some.is in
    let held : Some c.in-Some-name_in.name.now ≡ (if has_member c.in-Some.next.now s then Some c.in-Some.next.now else None)
    = ap (option_map (λ k. k.now)) (sym c.in-Some-name_in.is) ∙ c.name_in.ensures.name in
    sym c.loop-next.invariant.1 ∙ (seeks_here gates form s run.mode c.loop-next.number run.left run.names c.in-Some.next.now c.in-Some-name_in.name.now first held
    ∙ (c.in_ok-made.ensures.seeks s (λ left. seeks gates form s run.mode 0 left (later_of run.names))
    ∙ ap (λ o. moved_by o c.seek_here.new.run (λ left. seeks gates form s run.mode 0 left (later_of run.names))) c.in-Some-2.is))

pub loop-next-preserved : goal.loop-next-preserved
loop-next-preserved c =
    let gates = gates_of c.args.self.now in let form = form_of c.args.self.now in let s = subject_of c.args.instance in let run = c.loop-next.run in
    let end = seeks gates form s c.args.run.now.mode c.args.from c.args.run.now.left c.args.run.now.names in
    let first : first_of run.names ≡ Some c.in-Some.next.now = sym c.first.ensures.first ∙ ap (option_map (λ k. k.now)) c.in-Some.is in
    let on : GoesOn gates form s c.args.run.now.mode c.args.run.now.mode end c.match-name_in.run
    = elim c.match-name_in.branch [
      | in-Some-name_in+in_ok-made+in_default-2 w ↦
          let after = w.seek_here.new.run in
          let held : Some w.in-Some-name_in.name.now ≡ (if has_member c.in-Some.next.now s then Some c.in-Some.next.now else None)
          = ap (option_map (λ k. k.now)) (sym w.in-Some-name_in.is) ∙ c.name_in.ensures.name in
          let past : seeks gates form s run.mode c.loop-next.number run.left run.names ≡ seeks gates form s run.mode 0 after.left (later_of run.names)
          = seeks_here gates form s run.mode c.loop-next.number run.left run.names c.in-Some.next.now w.in-Some-name_in.name.now first held
          ∙ (w.in_ok-made.ensures.seeks s (λ left. seeks gates form s run.mode 0 left (later_of run.names))
          ∙ ap (λ o. moved_by o after (λ left. seeks gates form s run.mode 0 left (later_of run.names))) w.in_default-2.is) in
          subst (GoesOn gates form s c.args.run.now.mode c.args.run.now.mode end) (sym w.run-is) (
            w.in_ok-made.ensures.mode ∙ c.loop-next.invariant.0,
            ap (λ m. seeks gates form s m 0 after.left (later_of after.names)) w.in_ok-made.ensures.mode
                ∙ (ap (λ ns. seeks gates form s run.mode 0 after.left (later_of ns)) w.in_ok-made.ensures.names ∙ (sym past ∙ c.loop-next.invariant.1)),
          )
      | in_default-name_in w ↦
          let none : None ≡ (if has_member c.in-Some.next.now s then Some c.in-Some.next.now else None)
          = ap (option_map (λ k. k.now)) (sym w.in_default-name_in.is) ∙ c.name_in.ensures.name in
          subst (GoesOn gates form s c.args.run.now.mode c.args.run.now.mode end) (sym w.run-is) (
            c.loop-next.invariant.0,
            sym (seeks_later gates form s run.mode c.loop-next.number run.left run.names c.in-Some.next.now first none) ∙ c.loop-next.invariant.1,
          )
    ] in
    (on.0, ap (seeks gates form s c.match-name_in.run.mode 0 c.match-name_in.run.left) c.advance.ensures.advanced ∙ on.1)
