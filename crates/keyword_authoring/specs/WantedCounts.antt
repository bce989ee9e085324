-- What the plans that count say: the number of accepted questions is within the bounds, though a
-- run counts no further than is enough.
use Rattle.std.proofs.Common.{◌≡◌, ◌∙◌, ℕ, suc, ◌+◌, ◌≤◌, ◌<◌, ◌⊎◌, ◌∷◌, [], Bool, List, None, Some, true, false, ap, arith, inl, inr, length, min, nat_le, refl, sym}
use Rattle.std.specs.Prelude.{if◌then◌else◌}
use Rattle.std.proofs.Math.Nat.{le-min, min-eq_right}
use Rattle.std.proofs.lemmas.Bool.{le-leb, leb-false, leb-true, lt-leb}
use Rattle.theory_definitions.specs.Instance.{Text}
use Rattle.theory_definitions.specs.Matching.{Matching}
use Rattle.theory_definitions.specs.Keywords.{Question}
use Rattle.keyword_authoring.specs.Plans.{is_wanted, wanting_way}
use Rattle.keyword_authoring.specs.Tallies.{counted, yes_count}
use Rattle.keyword_authoring.specs.Ways.{way_holds}
use Rattle.keyword_authoring.specs.WayGrows.{is_told}

one_more_at_most : (b : Bool) (n most : ℕ) → n ≤ most → counted b n ≤ suc most
one_more_at_most true n most h = omega arith
one_more_at_most false n most h = omega arith

-- no more questions are accepted than there are
pub no_more_yeses : (accepts : Question → Bool) (qs : List Question) → yes_count accepts qs ≤ length qs
no_more_yeses accepts [] = omega arith
no_more_yeses accepts (q ∷ qs) = one_more_at_most (accepts q) (yes_count accepts qs) (length qs) (no_more_yeses accepts qs)

at_most_or_more : (a b : ℕ) → (a ≤ b) ⊎ (b < a)
at_most_or_more a b = at (nat_le a b) refl
  where
    at : (t : Bool) → nat_le a b ≡ t → (a ≤ b) ⊎ (b < a)
    at true h = inl (leb-true a b h)
    at false h = inr (leb-false a b h)

-- a number capped at `least` reaches `least` exactly if the number does
least_counts : (least n : ℕ) → nat_le least (min least n) ≡ nat_le least n
least_counts least n = elim (at_most_or_more least n) [
  | inl more ↦ le-leb least (min least n) (le-min (omega arith) more) ∙ sym (le-leb least n more)
  | inr less ↦ ap (nat_le least) (min-eq_right (omega arith))
]

-- a number above the upper bound is not within the bounds
too_many : (least most n : ℕ) → most < n → is_wanted least (Some most) n ≡ false
too_many least most n more = ap (λ b. if b then nat_le least n else false) (lt-leb n most more)

most_counts : (least most count n : ℕ) → n ≤ count → is_wanted least (Some most) (min (min (most + 1) count) n) ≡ is_wanted least (Some most) n
most_counts least most count n within = elim (at_most_or_more n most) [
  | inr more ↦ too_many least most (min (min (most + 1) count) n) (let few : suc most ≤ min (min (most + 1) count) n = le-min (le-min (omega arith) (omega arith)) (omega arith) in omega arith)
      ∙ sym (too_many least most n more)
  | inl less ↦ ap (is_wanted least (Some most)) (min-eq_right (le-min (omega arith) within))
]

module _ (name : Text) (text : ℕ → Text) (least : ℕ) (qs : List Question) (matching : Matching) (accepts : Question → Bool) where
  -- a keyword that requires at least this many accepted questions accepts exactly if there are as
  -- many
  pub at_least_holds : way_holds (wanting_way name text least None (length qs) qs) matching accepts ≡ nat_le least (yes_count accepts qs)
  at_least_holds = is_told (nat_le least (min least (yes_count accepts qs))) (text (min least (yes_count accepts qs))) ∙ least_counts least (yes_count accepts qs)

  -- a keyword that requires a number of accepted questions within bounds accepts exactly if it is
  pub within_holds : (most : ℕ) → way_holds (wanting_way name text least (Some most) (length qs) qs) matching accepts ≡ is_wanted least (Some most) (yes_count accepts qs)
  within_holds most = is_told (is_wanted least (Some most) (min (min (most + 1) (length qs)) (yes_count accepts qs))) (text (min (min (most + 1) (length qs)) (yes_count accepts qs)))
      ∙ most_counts least most (length qs) (yes_count accepts qs) (no_more_yeses accepts qs)
