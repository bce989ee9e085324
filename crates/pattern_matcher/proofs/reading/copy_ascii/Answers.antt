use Rattle.std.proofs.Common.{ℕ, ◌+◌, ◌≡◌, ◌∙◌, ◌<◌, ◌≤◌, ◌++◌, ◌∷◌, [], List, ap, arith, bit_or, get_or, length, nat_lt, subst, sym, take, Bool, true, false, refl}
use Rattle.std.proofs.lemmas.Bool.Decides.{nat_tests}
use Rattle.std.proofs.lemmas.List.{get_or_past, length-set, take_all, take_more, take_more_set}
use Rattle.std.proofs.lemmas.Nat.{le_or_l, le_or_r}
use Rattle.std.proofs.lemmas.Str.{chars-IsAscii}
use Rattle.std.specs.Str.{IsAscii, chars}
use Rattle.pattern_matcher.proofs.reading.copy_ascii.Goals as goal

-- one more byte is no greater than what was seen, it included
seen_more : (bytes : List ℕ) (i seen : ℕ) → ((k : ℕ) → k < i → get_or bytes k 0 ≤ seen) → (k : ℕ) → k < i + 1 → get_or bytes k 0 ≤ bit_or seen (get_or bytes i 0)
seen_more bytes i seen below k l = go (nat_lt k i) refl
  where
    go : (x : Bool) → nat_lt k i ≡ x → get_or bytes k 0 ≤ bit_or seen (get_or bytes i 0)
    go true e = let old : get_or bytes k 0 ≤ seen = below k (grind (arith, nat_tests)) in omega (arith, le_or_l seen (get_or bytes i 0))
    go false e =
        let ge : i ≤ k = grind (arith, nat_tests) in
        let same : i ≡ k = omega arith in
        subst (λ (x : ℕ). get_or bytes x 0 ≤ bit_or seen (get_or bytes i 0)) same (le_or_r seen (get_or bytes i 0))

pub loop-i-preserved : goal.loop-i-preserved
loop-i-preserved c =
    let bytes = c.as_bytes-bytes.result.now in
    let buffer = c.loop-i.buffer in
    let i = c.loop-i.i in
    let size = c.loop-i.invariant.size in
    let within : i < length buffer = omega arith in
    record {
      size = length-set buffer i (get_or bytes i 0) ∙ size;
      copied =
          take_more_set buffer i (get_or bytes i 0) within ∙ ap (λ (p : List ℕ). p ++ get_or bytes i 0 ∷ []) c.loop-i.invariant.copied
          ∙ sym (take_more bytes i 0 c.loop-i-test.true);
      seen = seen_more bytes i c.loop-i.seen c.loop-i.invariant.seen;
    }

-- past the end of a text there is nothing that is not ASCII
all_ascii : (bytes : List ℕ) (i seen : ℕ) → length bytes ≤ i → ((k : ℕ) → k < i → get_or bytes k 0 ≤ seen) → seen < 128 → IsAscii bytes
all_ascii bytes i seen end below low k = go (nat_lt k i) refl
  where
    go : (x : Bool) → nat_lt k i ≡ x → get_or bytes k 0 < 128
    go true e = let old : get_or bytes k 0 ≤ seen = below k (grind (arith, nat_tests)) in omega arith
    go false e = let past : i ≤ k = grind (arith, nat_tests) in omega (arith, get_or_past bytes k 0 (omega arith))

copied_whole : (bytes text buffer : List ℕ) (i : ℕ) → bytes ≡ text → length bytes ≤ i → i ≤ length bytes → take i buffer ≡ take i bytes → IsAscii bytes → take (length text) buffer ≡ chars text
copied_whole bytes text buffer i value end within copied ascii =
    let at : i ≡ length bytes = omega arith in
    let whole : take (length bytes) buffer ≡ chars bytes = subst (λ (n : ℕ). take n buffer ≡ chars bytes) at (copied ∙ take_all i bytes end ∙ sym (chars-IsAscii bytes ascii)) in
    subst (λ (t : List ℕ). take (length t) buffer ≡ chars t) value whole

pub returns : goal.returns
returns c =
    let bytes = c.as_bytes-bytes.result.now in
    let i = c.loop-i.i in
    let value = c.as_bytes-bytes.ensures.value in
    let size = c.loop-i.invariant.size in
    let same = ap (λ (t : List ℕ). length t) value in
    let fits : length c.args.text.now ≤ length c.loop-i.buffer = omega arith in
    record {
      copied = λ h. copied_whole bytes c.args.text.now c.loop-i.buffer i value c.loop-i-test.false c.loop-i.auto.i-end c.loop-i.invariant.copied
          (all_ascii bytes i c.loop-i.seen c.loop-i-test.false c.loop-i.invariant.seen (grind (arith, nat_tests)));
      fits = λ _. fits;
    }
