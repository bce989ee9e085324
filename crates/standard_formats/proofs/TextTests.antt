-- The test for UTF-8 agrees with the reader of texts.
use Rattle.std.proofs.Common.{List, false, true, ◌≡◌, ℕ}
use Rattle.std.specs.Str.{IsUtf8, is_utf8}
use Rattle.std.proofs.lemmas.Bool.{false_from_ne_true}
use Rattle.std.proofs.lemmas.Str.{IsUtf8-from_is_utf8, is_utf8-from_IsUtf8}

pub told_text : (bytes : List ℕ) → IsUtf8 bytes → is_utf8 bytes ≡ true
told_text bytes h = is_utf8-from_IsUtf8 bytes h

pub told_other : (bytes : List ℕ) → ¬ (IsUtf8 bytes) → is_utf8 bytes ≡ false
told_other bytes h = false_from_ne_true (is_utf8 bytes) (λ is. h (IsUtf8-from_is_utf8 bytes is))
