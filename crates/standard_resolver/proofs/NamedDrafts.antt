-- One more meta-schema is followed.
use Rattle.std.proofs.Common.{ℕ, suc, zero, ap, arith, ◌≡◌, ◌<◌, ◌-◌}
use Rattle.theory_definitions.specs.Instance.{Text}
use Rattle.standard_dialects.specs.StandardDrafts.{standard_draft}
use Rattle.standard_resolver.specs.Dialects.{Reading, draft_of_meta, draft_within, known_or, meta_named}

pub unrolled : (r : Reading) (n : ℕ) (t : Text) → 0 < n → draft_within r n t
    ≡ known_or (standard_draft t) (draft_of_meta (draft_within r (n - 1)) r.default_draft (meta_named t r.metas))
unrolled r zero t less = absurd (omega arith)
unrolled r (suc n) t less =
    let one_less : n ≡ suc n - 1 = omega arith in
    ap (λ (m : ℕ). known_or (standard_draft t) (draft_of_meta (draft_within r m) r.default_draft (meta_named t r.metas))) one_less
