use Rattle.std.proofs.Common.{◌≡◌, ◌∙◌, Bool, arith, false, refl, sym, true, true≢false}
use Rattle.json_values.proofs.Sorting.{distinct_from_neighbours, equal_neighbours}
use Rattle.json_values.proofs.distinct.are_distinct_by_sorting.Goals as goal

never_both : (b t : Bool) → b ≡ t → b ≡ true → t ≡ false → false ≡ true
never_both b t e p q = sym q ∙ sym e ∙ p

pub returns-then-eq : goal.returns-then-eq
returns-then-eq g c =
    let new = c.sort_unstable.new.self in
    let x = c.index-items-later.result in
    let y = c.index-items-later-in-loop-later.result in
    record {
      distinct = (
        λ never. absurd (true≢false (sym never)),
        λ h. never_both c.eq.result (g.T.PartialEq.eq x y) c.eq.ensures c.if-eq.true
            (equal_neighbours g.met.T.Ord.total g.met.T.Ord.matches_eq c.args.items.now new c.sort_unstable.ensures.permutation h
            c.loop-later.later x y c.loop-later.auto.later c.loop-later-test.true c.index-items-later.is c.index-items-later-in-loop-later.is),
      );
    }

pub returns : goal.returns
returns g c =
    let new = c.sort_unstable.new.self in
    record {
      distinct = (
        λ _. distinct_from_neighbours g.met.T.Ord.total g.met.T.Ord.matches_eq c.args.items.now new c.sort_unstable.ensures.permutation
            c.sort_unstable.ensures.sorted (λ k d h. c.loop-later.invariant k d (omega arith)),
        λ _. refl,
      );
    }
