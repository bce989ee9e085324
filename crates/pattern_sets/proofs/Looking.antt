-- Lookaround at one position, by whether its body leads anywhere.
use Rattle.std.proofs.Common.{◌≡◌, ◌&&◌, ◌∙◌, ℕ, Bool, true, false, refl, subst, sym, nat_le, true≢false, List, length}
use Rattle.pattern_trees.specs.Patterns.{Look, Pattern}
use Rattle.pattern_sets.specs.Images.{IsImage, IsOne, Joined, Reaches, leads}
use Rattle.pattern_sets.proofs.Walking.{Sees, and_both, and_left, and_right, kept_all, kept_none, le_of, look_either_way, of_le}

pub joined_reaches : (R S : ℕ → ℕ → Type 0) (last : ℕ) (from mid : ℕ → Bool) (found : Bool) → IsImage R from mid → Reaches S last mid found → Reaches (Joined R S) last from found
joined_reaches R S last from mid found image reaches = record {
  yes = λ h. let r = reaches.yes h in let s = image.sound r.0 r.2 in (s.0, r.1, s.1, r.3, (r.0, s.2, r.4));
  no = λ h i j f l r. reaches.no h r.0 j (image.complete i r.0 f r.1) l r.2;
}

-- whether a set has a position up to the last one
pub walked_reaches : (R : ℕ → ℕ → Type 0) (last : ℕ) (from led near : ℕ → Bool) (found : Bool) → IsImage R from led → ((k : ℕ) → near k ≡ (led k && nat_le k last)) → (found ≡ true → (k : ℕ) × (near k ≡ true)) → (found ≡ false → (k : ℕ) → near k ≡ false) → Reaches R last from found
walked_reaches R last from led near found image inside some none = record {
  yes = λ h.
      let n = some h in
      let b = sym (inside n.0) ∙ n.1 in
      let s = image.sound n.0 (and_left (led n.0) (nat_le n.0 last) b) in
      (s.0, n.0, s.1, le_of n.0 last (and_right (led n.0) (nat_le n.0 last) b), s.2);
  no = λ h i j f l r. true≢false (sym (inside j ∙ and_both (led j) (nat_le j last) (image.complete i j f r) (of_le j last l)) ∙ none h j);
}

sees_one : (ahead : Bool) (p : Pattern) (text : List ℕ) (from : ℕ → Bool) (found : Bool) → IsOne from → Reaches (leads ahead p text) (length text) from found → found ≡ true → (x : ℕ) → from x ≡ true → Sees ahead p text x
sees_one ahead p text from found one reaches h x f = let r = reaches.yes h in (r.1, r.3, subst (λ (y : ℕ). leads ahead p text y r.1) (one r.0 x r.2 f) r.4)

blind_one : (ahead : Bool) (p : Pattern) (text : List ℕ) (from : ℕ → Bool) (found : Bool) → Reaches (leads ahead p text) (length text) from found → found ≡ false → (x : ℕ) → from x ≡ true → ¬ (Sees ahead p text x)
blind_one ahead p text from found reaches h x f s = reaches.no h x s.0 f s.1 s.2

pub look_everywhere : (forward ahead : Bool) (p : Pattern) (text : List ℕ) (from : ℕ → Bool) (found : Bool) → IsOne from → Reaches (leads ahead p text) (length text) from found → found ≡ true → IsImage (leads forward (Look ahead true p) text) from from
look_everywhere forward ahead p text from found one reaches h =
    look_either_way forward ahead true p text from from (kept_all (Sees ahead p text) from from (sees_one ahead p text from found one reaches h) (λ k. refl))

pub look_nowhere : (forward ahead : Bool) (p : Pattern) (text : List ℕ) (from to : ℕ → Bool) (found : Bool) → IsOne from → Reaches (leads ahead p text) (length text) from found → found ≡ false → ((k : ℕ) → to k ≡ false) → IsImage (leads forward (Look ahead true p) text) from to
look_nowhere forward ahead p text from to found one reaches h none =
    look_either_way forward ahead true p text from to (kept_none (Sees ahead p text) from to (blind_one ahead p text from found reaches h) none)

pub unlook_nowhere : (forward ahead : Bool) (p : Pattern) (text : List ℕ) (from to : ℕ → Bool) (found : Bool) → IsOne from → Reaches (leads ahead p text) (length text) from found → found ≡ true → ((k : ℕ) → to k ≡ false) → IsImage (leads forward (Look ahead false p) text) from to
unlook_nowhere forward ahead p text from to found one reaches h none =
    look_either_way forward ahead false p text from to (kept_none (λ x. ¬ (Sees ahead p text x)) from to (λ x f n. n (sees_one ahead p text from found one reaches h x f)) none)

pub unlook_everywhere : (forward ahead : Bool) (p : Pattern) (text : List ℕ) (from : ℕ → Bool) (found : Bool) → IsOne from → Reaches (leads ahead p text) (length text) from found → found ≡ false → IsImage (leads forward (Look ahead false p) text) from from
unlook_everywhere forward ahead p text from found one reaches h =
    look_either_way forward ahead false p text from from (kept_all (λ x. ¬ (Sees ahead p text x)) from from (blind_one ahead p text from found reaches h) (λ k. refl))
