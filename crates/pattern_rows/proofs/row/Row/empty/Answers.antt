use Rattle.std.proofs.Common.{ℕ, List, subst, sym, ◌≡◌, get_or, ◌∷◌, ◌/◌}
use Rattle.pattern_rows.specs.Rows.{has}
use Rattle.pattern_rows.proofs.Words.{none_of, zeros}
use Rattle.pattern_rows.proofs.row.Row.empty.Goals as goal

pub returns-clause-none : goal.returns-clause-none
unfolding has
returns-clause-none c =
    none_of (0 ∷ c.in_ok-high.high.items) (subst (λ (ws : List ℕ). (q : ℕ) → ◌≡◌ {A = ℕ} (get_or (0 ∷ ws) q 0) 0) (sym (c.in_ok-high.ensures.items_if_clones_equal (λ y h. h))) (zeros (c.args.last / 64)))
