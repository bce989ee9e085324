-- One step of a count.
use Rattle.std.proofs.Common.{◌≡◌, ℕ, suc, ◌+◌, ◌-◌, ◌<◌, None, ap, ◌∙◌, arith, slice_get, slice_set}
use Rattle.std.specs.Prelude.{◌&&◌}
use Rattle.pattern_trees.specs.Matching.{Chars, Captures, cleared, same_chars, same_char}

pub cleared-step : (n k i : ℕ) (cs : Captures) → k < n → cleared (n - k) (i + k) cs ≡ cleared (n - (k + 1)) (i + (k + 1)) (slice_set cs (i + k) None)
cleared-step n k i cs h =
    let e : n - k ≡ suc (n - (k + 1)) = omega arith in
    let f : (i + k) + 1 ≡ i + (k + 1) = omega arith in
    ap (λ x. cleared x (i + k) cs) e ∙ ap (λ x. cleared (n - (k + 1)) x (slice_set cs (i + k) None)) f

pub same_chars-step : (n k i j : ℕ) (s : Chars) → k < n → same_chars (n - k) s (i + k) (j + k) ≡ (same_char (slice_get s (i + k)) (slice_get s (j + k)) && same_chars (n - (k + 1)) s (i + (k + 1)) (j + (k + 1)))
same_chars-step n k i j s h =
    let e : n - k ≡ suc (n - (k + 1)) = omega arith in
    let f : (i + k) + 1 ≡ i + (k + 1) = omega arith in
    let g : (j + k) + 1 ≡ j + (k + 1) = omega arith in
    ap (λ x. same_chars x s (i + k) (j + k)) e ∙ ap (λ x. same_char (slice_get s (i + k)) (slice_get s (j + k)) && same_chars (n - (k + 1)) s x ((j + k) + 1)) f ∙ ap (λ x. same_char (slice_get s (i + k)) (slice_get s (j + k)) && same_chars (n - (k + 1)) s (i + (k + 1)) x) g
