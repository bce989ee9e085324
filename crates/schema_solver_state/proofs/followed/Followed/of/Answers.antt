use Rattle.std.proofs.Common.{◌≡◌, ◌<◌, ◌||◌, ◌&&◌, ◌∙◌, List, ℕ, ap, arith, leb, length}
use Rattle.std.proofs.lemmas.Grind.{common_steps}
use Rattle.std.specs.Prelude.{min}
use Rattle.std.proofs.lemmas.List.{get_or_read}
use Rattle.schema_solver_state.specs.Following.{is_settled_in, ways_in, weight_in}
use Rattle.schema_solver_state.proofs.Ways.{followed_by, followed_more}
use Rattle.schema_solver_state.proofs.followed.Followed.of.Goals as goal

pub loop-number-preserved : goal.loop-number-preserved
loop-number-preserved g c =
    let ns = c.args.nodes.now in
    let k = c.loop-number.number in
    let ways = c.in_ok-ways.ways.items in
    let weights = c.in_ok-weights.weights.items in
    let within : k < length ways = omega (arith, c.len-count.ensures, c.loop-number-test.true) in
    let counted : c.index.result.now ≡ min 2 (ways_in ns k) = get_or_read ways k c.index.result.now within c.index.ensures 0 ∙ c.in_ok-ways.ensures.counted k within in
    let weighs : c.weight_of-weight.result ≡ weight_in weights k = c.weight_of-weight.ensures.weight ∙ ap (λ (ws : List ℕ). weight_in ws k) c.as_slice-in-loop-number.ensures.value in
    let here = followed_by ns weights k c.index.result.now c.weight_of-weight.result c.is_followed_by.result counted weighs c.is_followed_by.ensures.followed in
    record {
      each = grind (arith, common_steps);
      followed = followed_more (λ (i : ℕ). leb (ways_in ns i) 1 || (is_settled_in ns i && leb (weight_in weights i) 254)) c.loop-number.numbers.items c.push.new.self.items c.is_followed_by.result k c.in_ok-push.ensures.items c.loop-number.invariant.each here c.loop-number.invariant.followed;
    }

pub returns-clause-followed : goal.returns-clause-followed
returns-clause-followed g c = record {
  weights = c.in_ok-weights.weights.items;
  covers = c.in_ok-weights.ensures.covers;
  each = λ i within. c.loop-number.invariant.followed i (omega (arith, within, c.loop-number-test.false, c.len-count.ensures, c.in_ok-ways.ensures.size));
}
