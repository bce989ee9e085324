use Rattle.std.proofs.Common.{ℕ, List, ap, sym, ◌∙◌, ◌≡◌, ◌∷◌}
use Rattle.std.proofs.lemmas.Slice.Eq.{slice_eq-Decides}
use Rattle.std.proofs.lemmas.Bool.Decides.{Decides-eqb}
use Rattle.pattern_rows.specs.Rows.{has, bit_of}
use Rattle.pattern_rows.proofs.row.Row.is_same.Goals as goal

pub returns-then-self-other : goal.returns-then-self-other
unfolding has
returns-then-self-other c =
    record {
      same = λ h k.
          let s = c.args.self.now in
          let o = c.args.other.now in
          let a : List ℕ = c.as_slice.result.now in
          let b : List ℕ = c.as_slice-then-self-other.result.now in
          let e = (slice_eq-Decides Decides-eqb a b c.eq.result c.eq.ensures).0 h in
          let high : s.high.items ≡ o.high.items = sym c.as_slice.ensures.value ∙ e ∙ c.as_slice-then-self-other.ensures.value in
          ap (λ (low : ℕ). bit_of (low ∷ s.high.items) k) c.if-self-other.true ∙ ap (λ (ws : List ℕ). bit_of (o.low ∷ ws) k) high;
    }
