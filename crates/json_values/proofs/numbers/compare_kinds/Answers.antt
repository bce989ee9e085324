use Rattle.std.proofs.Common.{rules, ◌∙◌, ap, SFits, w64, to_z-of_z, true≢false, IsTrue, false, ◌≡◌, refl, sym}
use Rattle.std.specs.Float.{Float, nan, inf, fin, float_is_finite}
use Rattle.std.specs.Float.Ieee
use Rattle.std.specs.Ordering.{ordering_reverse}
use Rattle.json_values.proofs.Comparing.{above_negative, below_natural, integers, mirrored, naturals, reversed}
use Rattle.json_values.proofs.numbers.compare_kinds.Goals as goal

no_nan : (x : Float) → IsTrue (float_is_finite x) → Ieee.is_nan x ≡ false
unfolding Ieee.is_nan float_is_finite
no_nan nan h = absurd (true≢false (sym h))
no_nan (inf s) h = refl
no_nan (fin s m e) h = refl

pub returns-in-Natural-Natural : goal.returns-in-Natural-Natural
returns-in-Natural-Natural c =
    let k = c.in-Natural-Natural in
    record { order = rw (k.is-0, k.is-1) (c.cmp.ensures ∙ naturals k.m k.n) }

pub returns-in-Natural-Negative : goal.returns-in-Natural-Negative
returns-in-Natural-Negative c =
    let k = c.in-Natural-Negative in
    record { order = rw (k.is-0, k.is-1) (above_negative _ _ (rw k.is-1 at c.requires.right_proper)) }

pub returns-in-Negative-Natural : goal.returns-in-Negative-Natural
returns-in-Negative-Natural c =
    let k = c.in-Negative-Natural in
    record { order = rw (k.is-0, k.is-1) (below_natural _ _ (rw k.is-0 at c.requires.left_proper)) }

pub returns-in-Negative-Negative : goal.returns-in-Negative-Negative
returns-in-Negative-Negative c =
    let k = c.in-Negative-Negative in
    let left : SFits w64 k.m = search rules in
    let right : SFits w64 k.n = search rules in
    record { order = rw (k.is-0, k.is-1) ((simp to_z-of_z at c.cmp-in-Negative-Negative.ensures) ∙ integers k.m k.n) }

pub returns-in-Negative-Fraction : goal.returns-in-Negative-Fraction
returns-in-Negative-Fraction c =
    let k = c.in-Negative-Fraction in
    let fits : SFits w64 k.m = search rules in
    let size = simp to_z-of_z at c.unsigned_abs.ensures.value in
    record {
      order = rw (k.is-0, k.is-1) (
          c.reverse.ensures
          ∙ ap ordering_reverse (rw size at c.compare_natural-in-Negative-Fraction.ensures.order)
          ∙ ap ordering_reverse (mirrored k.m k.y (rw k.is-0 at c.requires.left_proper) (no_nan k.y (rw k.is-1 at c.requires.right_proper)))
          ∙ reversed k.y _
          );
    }

pub returns-in-Fraction-Natural : goal.returns-in-Fraction-Natural
returns-in-Fraction-Natural c =
    let k = c.in-Fraction-Natural in
    record {
      order = rw (k.is-0, k.is-1) (
          c.reverse-in-Fraction-Natural.ensures
          ∙ ap ordering_reverse c.compare_natural-in-Fraction-Natural.ensures.order
          ∙ reversed _ _
          );
    }

pub returns-in-Fraction-Negative : goal.returns-in-Fraction-Negative
returns-in-Fraction-Negative c =
    let k = c.in-Fraction-Negative in
    let fits : SFits w64 k.n = search rules in
    let size = simp to_z-of_z at c.unsigned_abs-in-Fraction-Negative.ensures.value in
    record {
      order = rw (k.is-0, k.is-1) (
          (rw size at c.compare_natural-in-Fraction-Negative.ensures.order)
          ∙ mirrored k.n k.x (rw k.is-1 at c.requires.right_proper) (no_nan k.x (rw k.is-0 at c.requires.left_proper))
          );
    }
