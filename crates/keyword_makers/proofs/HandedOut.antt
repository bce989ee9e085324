-- What a maker has moved out is behind it.
use Rattle.std.proofs.Common.{List, drop, suc, ◌≡◌, ◌+◌, ℕ, arith}
use Rattle.std.proofs.Math.ListN.{set}
use Rattle.std.proofs.lemmas.List.{drop-set-lt}

pub handed_out : {A : Type 0} → (ps : List A) (n : ℕ) (p : A) → drop (suc n) (set ps n p) ≡ drop (suc n) ps
handed_out ps n p = drop-set-lt (suc n) ps n p (omega (arith))
