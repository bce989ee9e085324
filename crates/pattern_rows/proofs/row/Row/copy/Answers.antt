use Rattle.std.proofs.Common.{ℕ, List, ap, ◌∷◌}
use Rattle.std.proofs.lemmas.List.Elements.{same_from_all_zip}
use Rattle.pattern_rows.specs.Rows.{has, bit_of}
use Rattle.pattern_rows.proofs.row.Row.copy.Goals as goal

pub returns-clause-same : goal.returns-clause-same
unfolding has
returns-clause-same c = λ k.
    ap (λ (ws : List ℕ). bit_of (c.args.self.now.low ∷ ws) k)
    (same_from_all_zip _ c.args.self.now.high.items c.in_ok-clone.field-0.items c.in_ok-clone.ensures.cases.0 (λ x y h. h))
