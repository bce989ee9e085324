-- Sets of positions, word by word.
use Rattle.std.proofs.Common.{◌≡◌, ◌≢◌, ◌<◌, ◌≤◌, ◌==◌, ◌*◌, ◌%◌, ◌/◌, ◌+◌, ◌-◌, ℕ, Bool, true, false, zero, suc, cond, ap, ap₂, refl, sym, ◌∙◌, arith, nat_lt, nat_le, List, [], ◌∷◌, length, get_or}
use Rattle.std.specs.Prelude.{replicate, slice_set}
use Rattle.std.specs.Int.{bit_at}
use Rattle.std.proofs.lemmas.Bool.{eqb-false, eqb-true}
use Rattle.std.proofs.lemmas.Bool.Decides.{nat_tests}
use Rattle.std.proofs.lemmas.Nat.Bits.{bit_at-zero, bit_at_ones}
use Rattle.std.proofs.lemmas.List.{get_or-replicate, get_or_past, length-replicate}
use Rattle.std.proofs.lemmas.List.{get_or-set_other, get_or-set_same, length-set}
use Rattle.pattern_rows.specs.Rows.{bit_of}

-- a bit of a word
abbrev pub Bit : ℕ → ℕ → Bool
Bit word k = bit_at word k == 1

pub no_bit : (k : ℕ) → Bit 0 k ≡ false
no_bit k = ap (λ (n : ℕ). n == 1) (bit_at-zero k)

-- no bit of words that are 0
pub none_of : (words : List ℕ) → ((q : ℕ) → get_or words q 0 ≡ 0) → (k : ℕ) → bit_of words k ≡ false
none_of words h k = ap (λ (w : ℕ). Bit w (k % 64)) (h (k / 64)) ∙ no_bit (k % 64)

pub zeros : (n q : ℕ) → ◌≡◌ {A = ℕ} (get_or (0 ∷ replicate n 0) q 0) 0
zeros n zero = refl
zeros n (suc q) = go (nat_lt q n) refl
  where
    go : (x : Bool) → nat_lt q n ≡ x → ◌≡◌ {A = ℕ} (get_or (replicate n 0) q 0) 0
    go true e = let lt : q < n = grind (arith, nat_tests) in get_or-replicate n q 0 0 lt
    go false e = let le : n ≤ q = grind (arith, nat_tests) in get_or_past (replicate n 0) q 0 (omega (arith, length-replicate {A = ℕ} n 0))

-- all bits up to the last, from what the words are
pub record IsFullTo (last top : ℕ) (words : List ℕ) : Type 0 where
  pub below : (q : ℕ) → q < last / 64 → get_or words q 0 ≡ 18446744073709551615
  pub at : get_or words (last / 64) 0 ≡ top
  pub past : (q : ℕ) → last / 64 < q → get_or words q 0 ≡ 0

nat_le_true : (a b : ℕ) → a ≤ b → nat_le a b ≡ true
nat_le_true a b h = grind (arith, nat_tests)

nat_le_false : (a b : ℕ) → b < a → nat_le a b ≡ false
nat_le_false a b h = grind (arith, nat_tests)

pub full_bits : (last top : ℕ) (words : List ℕ) → IsFullTo last top words → ((k : ℕ) → Bit top k ≡ nat_lt k (last % 64 + 1)) → (k : ℕ) → bit_of words k ≡ nat_le k last
full_bits last top words full tops k = go (nat_lt (k / 64) (last / 64)) (nat_lt (last / 64) (k / 64)) refl refl
  where
    go : (x y : Bool) → nat_lt (k / 64) (last / 64) ≡ x → nat_lt (last / 64) (k / 64) ≡ y → bit_of words k ≡ nat_le k last
    go true y e f =
        let lt : k / 64 < last / 64 = grind (arith, nat_tests) in
        let le : k ≤ last = omega arith in
        ap (λ (w : ℕ). Bit w (k % 64)) (full.below (k / 64) lt) ∙ ap (λ (n : ℕ). n == 1) (bit_at_ones 64 (k % 64) (omega arith)) ∙ sym (nat_le_true k last le)
    go false true e f =
        let lt : last / 64 < k / 64 = grind (arith, nat_tests) in
        let less : last < k = omega arith in
        ap (λ (w : ℕ). Bit w (k % 64)) (full.past (k / 64) lt) ∙ no_bit (k % 64) ∙ sym (nat_le_false k last less)
    go false false e f =
        let le : last / 64 ≤ k / 64 = grind (arith, nat_tests) in
        let ge : k / 64 ≤ last / 64 = grind (arith, nat_tests) in
        let same : k / 64 ≡ last / 64 = omega arith in
        ap (λ (w : ℕ). Bit w (k % 64)) (ap (λ (q : ℕ). get_or words q 0) same ∙ full.at) ∙ tops (k % 64) ∙ within same (nat_le k last) refl
      where
        within : k / 64 ≡ last / 64 → (z : Bool) → nat_le k last ≡ z → nat_lt (k % 64) (last % 64 + 1) ≡ nat_le k last
        within s true g = let le : k ≤ last = grind (arith, nat_tests) in let lt : k % 64 < last % 64 + 1 = omega arith in let r : nat_lt (k % 64) (last % 64 + 1) ≡ true = grind (arith, nat_tests) in r ∙ sym g
        within s false g = let less : last < k = grind (arith, nat_tests) in let ge : last % 64 + 1 ≤ k % 64 = omega arith in let r : nat_lt (k % 64) (last % 64 + 1) ≡ false = grind (arith, nat_tests) in r ∙ sym g

-- one bit is put into one word
pub record PutsInto (words new : List ℕ) (position : ℕ) : Type 0 where
  pub there : (k : ℕ) → Bit (get_or new (position / 64) 0) k ≡ cond (k == position % 64) true (Bit (get_or words (position / 64) 0) k)
  pub others : (q : ℕ) → q ≢ position / 64 → get_or new q 0 ≡ get_or words q 0

eqb_same : (a b : ℕ) → a ≡ b → (a == b) ≡ true
eqb_same a b h = grind (arith, nat_tests)

eqb_other : (a b : ℕ) → a ≢ b → (a == b) ≡ false
eqb_other a b h = grind (arith, nat_tests)

pub put_bits : (words new : List ℕ) (position : ℕ) → PutsInto words new position → (k : ℕ) → bit_of new k ≡ cond (k == position) true (bit_of words k)
put_bits words new position puts k = go (k / 64 == position / 64) refl
  where
    go : (x : Bool) → (k / 64 == position / 64) ≡ x → bit_of new k ≡ cond (k == position) true (bit_of words k)
    go true e =
        let same = eqb-true (k / 64) (position / 64) e in
        ap (λ (q : ℕ). Bit (get_or new q 0) (k % 64)) same ∙ puts.there (k % 64)
        ∙ ap (λ (q : ℕ). cond (k % 64 == position % 64) true (Bit (get_or words q 0) (k % 64))) (sym same)
        ∙ ap (λ (b : Bool). cond b true (bit_of words k)) (agree same (k == position) refl)
      where
        agree : k / 64 ≡ position / 64 → (z : Bool) → (k == position) ≡ z → (k % 64 == position % 64) ≡ (k == position)
        agree s true f = let at = eqb-true k position f in eqb_same (k % 64) (position % 64) (ap (λ (n : ℕ). n % 64) at) ∙ sym f
        agree s false f = let off = eqb-false k position f in eqb_other (k % 64) (position % 64) (λ g. off (omega arith)) ∙ sym f
    go false e =
        let off = eqb-false (k / 64) (position / 64) e in
        ap (λ (w : ℕ). Bit w (k % 64)) (puts.others (k / 64) off)
        ∙ ap (λ (b : Bool). cond b true (bit_of words k)) (sym (eqb_other k position (λ g. off (ap (λ (n : ℕ). n / 64) g))))

-- two rows joined word by word
pub record Joins (f : Bool → Bool → Bool) (low new_low other_low : ℕ) (high new_high other_high : List ℕ) : Type 0 where
  pub size : length new_high ≡ length high
  pub other_size : length high ≡ length other_high
  pub lows : (j : ℕ) → j < 64 → Bit new_low j ≡ f (Bit low j) (Bit other_low j)
  pub highs : (m j : ℕ) → m < length new_high → j < 64 → Bit (get_or new_high m 0) j ≡ f (Bit (get_or high m 0) j) (Bit (get_or other_high m 0) j)

pub joined_bits : (f : Bool → Bool → Bool) → f false false ≡ false → (low new_low other_low : ℕ) (high new_high other_high : List ℕ) → Joins f low new_low other_low high new_high other_high →
    (k : ℕ) → bit_of (new_low ∷ new_high) k ≡ f (bit_of (low ∷ high) k) (bit_of (other_low ∷ other_high) k)
joined_bits f none low new_low other_low high new_high other_high joins k = go (k / 64) (k % 64) (omega arith)
  where
    go : (q j : ℕ) → j < 64 → Bit (get_or (new_low ∷ new_high) q 0) j ≡ f (Bit (get_or (low ∷ high) q 0) j) (Bit (get_or (other_low ∷ other_high) q 0) j)
    go zero j l = joins.lows j l
    go (suc m) j l = within (nat_lt m (length new_high)) refl
      where
        within : (x : Bool) → nat_lt m (length new_high) ≡ x → Bit (get_or new_high m 0) j ≡ f (Bit (get_or high m 0) j) (Bit (get_or other_high m 0) j)
        within true e = joins.highs m j (grind (arith, nat_tests)) l
        within false e =
            let le : length new_high ≤ m = grind (arith, nat_tests) in
            ap (λ (w : ℕ). Bit w j) (get_or_past new_high m 0 le) ∙ no_bit j ∙ sym none
            ∙ ap₂ f (sym (no_bit j) ∙ ap (λ (w : ℕ). Bit w j) (sym (get_or_past high m 0 (omega (arith, joins.size))))) (sym (no_bit j) ∙ ap (λ (w : ℕ). Bit w j) (sym (get_or_past other_high m 0 (omega (arith, joins.size, joins.other_size)))))

-- the words of a full row
pub full_short : (last top : ℕ) → last / 64 ≡ 0 → IsFullTo last top (top ∷ [])
full_short last top e = record {
  below = λ q l. absurd (omega arith);
  at = ap (λ (q : ℕ). get_or (top ∷ []) q 0) e;
  past = λ q l. get_or_past (top ∷ []) q 0 (past_one q (omega arith));
}
  where
    past_one : (q : ℕ) → 0 < q → length (top ∷ []) ≤ q
    past_one q h = omega arith

abbrev all_ones : ℕ
all_ones = 18446744073709551615

pub full_long : (last top : ℕ) → last / 64 ≢ 0 → IsFullTo last top (all_ones ∷ slice_set (replicate (last / 64) all_ones) (last / 64 - 1) top)
full_long last top some = record { below = below; at = at (last / 64) refl; past = past }
  where
    n : ℕ
    n = last / 64

    ws : List ℕ
    ws = slice_set (replicate (last / 64) all_ones) (last / 64 - 1) top

    size : length (slice_set (replicate (last / 64) all_ones) (last / 64 - 1) top) ≡ last / 64
    size = length-set (replicate (last / 64) all_ones) (last / 64 - 1) top ∙ length-replicate (last / 64) all_ones

    below : (q : ℕ) → q < last / 64 → get_or (all_ones ∷ slice_set (replicate (last / 64) all_ones) (last / 64 - 1) top) q 0 ≡ all_ones
    below zero l = refl
    below (suc m) l =
        get_or-set_other (replicate (last / 64) all_ones) (last / 64 - 1) m top 0 (omega arith)
        ∙ get_or-replicate (last / 64) m all_ones 0 (omega arith)

    at : (q : ℕ) → last / 64 ≡ q → get_or (all_ones ∷ slice_set (replicate (last / 64) all_ones) (last / 64 - 1) top) (last / 64) 0 ≡ top
    at zero e = absurd (some e)
    at (suc m) e =
        let prev : last / 64 - 1 ≡ m = omega arith in
        ap (λ (q : ℕ). get_or (all_ones ∷ slice_set (replicate (last / 64) all_ones) (last / 64 - 1) top) q 0) e
        ∙ ap (λ (i : ℕ). get_or (slice_set (replicate (last / 64) all_ones) i top) m 0) prev
        ∙ get_or-set_same (replicate (last / 64) all_ones) m top 0 (omega (arith, length-replicate (last / 64) all_ones))

    past : (q : ℕ) → last / 64 < q → get_or (all_ones ∷ slice_set (replicate (last / 64) all_ones) (last / 64 - 1) top) q 0 ≡ 0
    past zero l = absurd (omega arith)
    past (suc m) l = get_or_past (slice_set (replicate (last / 64) all_ones) (last / 64 - 1) top) m 0 (omega (arith, size))

-- a bit is put into the first word, or into a later one
pub put_low : (low new_low : ℕ) (high : List ℕ) (position : ℕ) → position < 64 → ((k : ℕ) → Bit new_low k ≡ cond (k == position) true (Bit low k)) → PutsInto (low ∷ high) (new_low ∷ high) position
put_low low new_low high position small bits =
    let first : position / 64 ≡ 0 = omega arith in
    let rest : position % 64 ≡ position = omega arith in
    record {
      there = λ k.
          ap (λ (q : ℕ). Bit (get_or (new_low ∷ high) q 0) k) first ∙ bits k
          ∙ ap₂ (λ (p q : ℕ). cond (k == p) true (Bit (get_or (low ∷ high) q 0) k)) (sym rest) (sym first);
      others = λ q off. later q (λ e. off (e ∙ sym first));
    }
  where
    later : (q : ℕ) → q ≢ 0 → get_or (new_low ∷ high) q 0 ≡ get_or (low ∷ high) q 0
    later zero off = absurd (off refl)
    later (suc q) off = refl

pub put_high : (low : ℕ) (high : List ℕ) (word position : ℕ) → 64 ≤ position → position / 64 ≤ length high →
    ((k : ℕ) → Bit word k ≡ cond (k == position % 64) true (Bit (get_or high (position / 64 - 1) 0) k)) → PutsInto (low ∷ high) (low ∷ slice_set high (position / 64 - 1) word) position
put_high low high word position big within bits = go (position / 64) refl
  where
    go : (q : ℕ) → position / 64 ≡ q → PutsInto (low ∷ high) (low ∷ slice_set high (position / 64 - 1) word) position
    go zero e = absurd (omega arith)
    go (suc m) e =
        let prev : position / 64 - 1 ≡ m = omega arith in
        record {
          there = λ k.
              ap (λ (q : ℕ). Bit (get_or (low ∷ slice_set high (position / 64 - 1) word) q 0) k) e
              ∙ ap (λ (i : ℕ). Bit (get_or (slice_set high i word) m 0) k) prev
              ∙ ap (λ (w : ℕ). Bit w k) (get_or-set_same high m word 0 (omega arith))
              ∙ bits k
              ∙ ap (λ (w : ℕ). cond (k == position % 64) true (Bit w k)) (ap (λ (i : ℕ). get_or high i 0) prev ∙ sym (ap (λ (q : ℕ). get_or (low ∷ high) q 0) e));
          others = λ q off. later q off;
        }
      where
        later : (q : ℕ) → q ≢ position / 64 → get_or (low ∷ slice_set high (position / 64 - 1) word) q 0 ≡ get_or (low ∷ high) q 0
        later zero off = refl
        later (suc i) off = get_or-set_other high (position / 64 - 1) i word 0 (λ f. off (omega arith))

-- two rows of words that are being joined: those before a place are
pub record Joining (f : Bool → Bool → Bool) (i : ℕ) (high new other : List ℕ) : Type 0 where
  pub size : length new ≡ length high
  pub other_size : length high ≡ length other
  pub done : (m j : ℕ) → m < i → j < 64 → Bit (get_or new m 0) j ≡ f (Bit (get_or high m 0) j) (Bit (get_or other m 0) j)
  pub rest : (m : ℕ) → i ≤ m → get_or new m 0 ≡ get_or high m 0

pub joining_begins : (f : Bool → Bool → Bool) (high other : List ℕ) → length high ≡ length other → Joining f 0 high high other
joining_begins f high other e = record { size = refl; other_size = e; done = λ m j l h. absurd (omega arith); rest = λ m l. refl }

pub joining_goes_on : (f : Bool → Bool → Bool) (i word : ℕ) (high new other : List ℕ) → Joining f i high new other → i < length new →
    ((j : ℕ) → j < 64 → Bit word j ≡ f (Bit (get_or new i 0) j) (Bit (get_or other i 0) j)) → Joining f (i + 1) high (slice_set new i word) other
joining_goes_on f i word high new other so within bits = record {
  size = length-set new i word ∙ so.size;
  other_size = so.other_size;
  done = done;
  rest = λ m l. get_or-set_other new i m word 0 (omega arith) ∙ so.rest m (omega arith);
}
  where
    done : (m j : ℕ) → m < i + 1 → j < 64 → Bit (get_or (slice_set new i word) m 0) j ≡ f (Bit (get_or high m 0) j) (Bit (get_or other m 0) j)
    done m j l h = go (m == i) refl
      where
        go : (x : Bool) → (m == i) ≡ x → Bit (get_or (slice_set new i word) m 0) j ≡ f (Bit (get_or high m 0) j) (Bit (get_or other m 0) j)
        go true e =
            let at = eqb-true m i e in
            let last : i ≤ i = omega arith in
            ap (λ (k : ℕ). Bit (get_or (slice_set new i word) k 0) j) at
            ∙ ap (λ (w : ℕ). Bit w j) (get_or-set_same new i word 0 within)
            ∙ bits j h
            ∙ ap₂ (λ (w : ℕ) (k : ℕ). f (Bit w j) (Bit (get_or other k 0) j)) (so.rest i last ∙ ap (λ (k : ℕ). get_or high k 0) (sym at)) (sym at)
        go false e =
            let off = eqb-false m i e in
            ap (λ (w : ℕ). Bit w j) (get_or-set_other new i m word 0 off) ∙ so.done m j (omega arith) h

pub joining_ends : (f : Bool → Bool → Bool) (i low new_low other_low : ℕ) (high new other : List ℕ) → Joining f i high new other → length new ≤ i →
    ((j : ℕ) → j < 64 → Bit new_low j ≡ f (Bit low j) (Bit other_low j)) → Joins f low new_low other_low high new other
joining_ends f i low new_low other_low high new other so over lows = record {
  size = so.size;
  other_size = so.other_size;
  lows = lows;
  highs = λ m j l h. so.done m j (omega arith) h;
}

pub bit_of_at : (words : List ℕ) (q j : ℕ) → j < 64 → bit_of words (q * 64 + j) ≡ Bit (get_or words q 0) j
bit_of_at words q j l =
    let at : (q * 64 + j) / 64 ≡ q = omega arith in
    let in_word : (q * 64 + j) % 64 ≡ j = omega arith in
    ap₂ (λ (p k : ℕ). Bit (get_or words p 0) k) at in_word

-- no position from one on stands below another
abbrev pub NoneBelow : List ℕ → ℕ → ℕ → Type 0
NoneBelow words from end = (k : ℕ) → from ≤ k → k < end → bit_of words k ≡ false

-- no bit of the word stands from one on
abbrev pub NoBitFrom : ℕ → ℕ → ℕ → Type 0
NoBitFrom word from end = (j : ℕ) → from ≤ j → j < end → Bit word j ≡ false

pub none_first : (words : List ℕ) (from end : ℕ) → end ≤ 64 → NoBitFrom (get_or words (from / 64) 0) (from % 64) end → NoneBelow words from (from / 64 * 64 + end)
none_first words from end small none k h l =
    let at : k / 64 ≡ from / 64 = omega arith in
    ap (λ (q : ℕ). Bit (get_or words q 0) (k % 64)) at ∙ none (k % 64) (omega arith) (omega arith)

pub none_next : (words : List ℕ) (from q end : ℕ) → end ≤ 64 → NoneBelow words from (q * 64) → NoBitFrom (get_or words q 0) 0 end → NoneBelow words from (q * 64 + end)
none_next words from q end small below none k h l = go (nat_lt k (q * 64)) refl
  where
    go : (x : Bool) → nat_lt k (q * 64) ≡ x → bit_of words k ≡ false
    go true e = below k h (grind (arith, nat_tests))
    go false e =
        let le : q * 64 ≤ k = grind (arith, nat_tests) in
        let at : k / 64 ≡ q = omega arith in
        ap (λ (p : ℕ). Bit (get_or words p 0) (k % 64)) at ∙ none (k % 64) (omega arith) (omega arith)

pub none_at_all : (words : List ℕ) (from q : ℕ) → length words ≤ q → NoneBelow words from (q * 64) → (k : ℕ) → from ≤ k → bit_of words k ≡ false
none_at_all words from q over below k h = go (nat_lt k (q * 64)) refl
  where
    go : (x : Bool) → nat_lt k (q * 64) ≡ x → bit_of words k ≡ false
    go true e = below k h (grind (arith, nat_tests))
    go false e =
        let le : q * 64 ≤ k = grind (arith, nat_tests) in
        let far : q ≤ k / 64 = omega arith in
        ap (λ (w : ℕ). Bit w (k % 64)) (get_or_past words (k / 64) 0 (omega arith)) ∙ no_bit (k % 64)

pub within_words : (words : List ℕ) (k : ℕ) → bit_of words k ≡ true → k / 64 < length words
within_words words k h = go (nat_lt (k / 64) (length words)) refl
  where
    go : (x : Bool) → nat_lt (k / 64) (length words) ≡ x → k / 64 < length words
    go true e = grind (arith, nat_tests)
    go false e =
        let le : length words ≤ k / 64 = grind (arith, nat_tests) in
        let none : bit_of words k ≡ false = ap (λ (w : ℕ). Bit w (k % 64)) (get_or_past words (k / 64) 0 le) ∙ no_bit (k % 64) in
        absurd (cc (none, h))
