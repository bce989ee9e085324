use Rattle.std.proofs.Common.{Bool, ℕ, ◌&&◌, not, refl, arith, ap, ap₂, ◌∙◌, length}
use Rattle.std.proofs.lemmas.List.{get_or_read_under}
use Rattle.pattern_rows.specs.Rows.{has}
use Rattle.pattern_rows.proofs.Words.{Bit, joining_begins, joining_goes_on, joining_ends, joined_bits}
use Rattle.pattern_rows.proofs.row.Row.remove.Goals as goal

pub loop-i-init : goal.loop-i-init
loop-i-init c = record { low = refl; joining = joining_begins (λ (x y : Bool). x && not y) c.args.self.now.high.items c.args.other.now.high.items c.requires.same }

pub loop-i-preserved : goal.loop-i-preserved
loop-i-preserved c =
    let so = c.loop-i.invariant.joining in
    let i = c.loop-i.i in
    let new = c.loop-i.self.high.items in
    let other = c.args.other.now.high.items in
    record {
      low = c.loop-i.invariant.low;
      joining = joining_goes_on (λ (x y : Bool). x && not y) i c.without.result c.args.self.now.high.items new other so (omega arith)
          (λ j h. c.without.ensures.bits j ∙ ap₂ (λ (v w : ℕ). let x : Bool = Bit v j in let y : Bool = Bit w j in x && not y)
          (get_or_read_under new i (length new) c.index.result.now 0 c.index.ensures (omega arith) refl)
          (get_or_read_under other i (length other) c.index-in-loop-i.result.now 0 c.index-in-loop-i.ensures (omega arith) refl));
    }

pub returns-clause-both : goal.returns-clause-both
unfolding has
returns-clause-both c =
    let old = c.args.self.now in
    let other = c.args.other.now in
    joined_bits (λ (x y : Bool). x && not y) refl old.low c.loop-i.self.low other.low old.high.items c.loop-i.self.high.items other.high.items
    (joining_ends (λ (x y : Bool). x && not y) c.loop-i.i old.low c.loop-i.self.low other.low old.high.items c.loop-i.self.high.items other.high.items c.loop-i.invariant.joining (omega arith)
    (λ j h. ap (λ (w : ℕ). Bit w j) c.loop-i.invariant.low ∙ c.without-self.ensures.bits j))
