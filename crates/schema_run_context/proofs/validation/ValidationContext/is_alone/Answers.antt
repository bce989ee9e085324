use Rattle.std.proofs.Common.{◌≡◌, ◌∙◌, ◌==◌, ◌&&◌, ◌<◌, ℕ, Bool, ap, ap₂, arith, get_or, length, map, subst, sym}
use Rattle.std.specs.Prelude.{◌||◌}
use Rattle.schema_places.specs.Numbers.{place_at}
use Rattle.schema_run_context.specs.ProgressViews.{pair_of}
use Rattle.schema_run_context.specs.Progress.{Context}
use Rattle.schema_run_context.specs.Rows.{has_bit, row_in}
use Rattle.schema_run_context.specs.Verdicts.{is_alone}
use Rattle.schema_run_context.proofs.Guarding.{alone_if}
use Rattle.schema_run_context.proofs.RowsChanged.{other_test}
use Rattle.schema_run_context.specs.Progress.{places_in, root_places}
use Rattle.schema_run_context.proofs.validation.ValidationContext.is_alone.Goals as goal

pub returns-then-count-ne1 : goal.returns-then-count-ne1
returns-then-count-ne1 c =
    let i = c.self.inside in
    let known = subst (λ (x : Context). c.args.place < length (places_in x)) (sym c.self.view_is) c.requires.known in
    let count : c.count_at-count.result ≡ get_or i.counts.items c.args.place 0 = c.count_at-count.ensures.count ∙ ap (λ xs. get_or xs c.args.place 0) c.as_slice.ensures.value in
    let n = c.count_at-count.result in
    let bit = has_bit (row_in i.guard c.args.node.0) c.args.place in
    record {
      alone = sym (
          ap (λ (x : Context). is_alone c.args.node.0 (place_at (places_in x) c.args.place) x.in_progress) (sym c.self.view_is)
          ∙ alone_if (root_places i.places) (map (pair_of (root_places i.places)) i.pairs.items) i.counts.items i.guard c.args.node.0 c.args.place c.self.invariant.guards c.self.invariant.distinct known
          ∙ ap (λ (x : ℕ). (x == 0) || ((x == 1) && bit)) (sym count)
          ∙ ap₂ (λ (x y : Bool). x || (y && bit)) (other_test n 0 (λ e. omega arith)) (other_test n 1 (λ e. omega arith))
          );
    }

pub returns : goal.returns
returns c =
    let i = c.self.inside in
    let known = subst (λ (x : Context). c.args.place < length (places_in x)) (sym c.self.view_is) c.requires.known in
    let count : c.count_at-count.result ≡ get_or i.counts.items c.args.place 0 = c.count_at-count.ensures.count ∙ ap (λ xs. get_or xs c.args.place 0) c.as_slice.ensures.value in
    let one : c.count_at-count.result ≡ 1 = omega arith in
    let bit = has_bit (row_in i.guard c.args.node.0) c.args.place in
    record {
      alone = c.has_bit.ensures.bit ∙ sym (
          ap (λ (x : Context). is_alone c.args.node.0 (place_at (places_in x) c.args.place) x.in_progress) (sym c.self.view_is)
          ∙ alone_if (root_places i.places) (map (pair_of (root_places i.places)) i.pairs.items) i.counts.items i.guard c.args.node.0 c.args.place c.self.invariant.guards c.self.invariant.distinct known
          ∙ ap (λ (x : ℕ). (x == 0) || ((x == 1) && bit)) (sym count ∙ one)
          );
    }
