-- Questions that are asked one after the other are those that are declared up front.
use Rattle.std.proofs.Common.{◌≡◌, ◌∙◌, ◌-◌, ◌+◌, ◌∷◌, List, ap, length, map, min, refl, suc, zero, ℕ}
use Rattle.serde_json.specs.Data.{array}
use Rattle.serde_json.specs.View.{items_view}
use Rattle.serde_json.specs.declared.value.Value.{Value}
use Rattle.theory_definitions.specs.Instance.{Subject, a_value}
use Rattle.theory_definitions.specs.Keywords.{Question}
use Rattle.schema_traits.specs.AskedAtOnce.{child_at, numbers_from}
use Rattle.keyword_authoring.specs.Items.{child_at_item, each_from, first_at_item, item_count}
use Rattle.keyword_authoring.proofs.MemberCounts.{items_count_length}

pub numbered_alike : (f : ℕ → Question) (i n : ℕ) → each_from f i n ≡ map f (numbers_from i n)
numbered_alike f i zero = refl
numbered_alike f i (suc n) = ap (λ qs. f i ∷ qs) (numbered_alike f (i + 1) n)

module _ (s : Subject) (items : List Value) (is : s ≡ a_value (array (items_view items))) where
  count : item_count s ≡ length items
  count = ap item_count is ∙ items_count_length items

  -- the first child, at each item from an index on
  pub first_at_each : (n : ℕ) → each_from first_at_item n (item_count s - n) ≡ map (child_at 0) (numbers_from n (length items - n))
  first_at_each n = numbered_alike first_at_item n (item_count s - n) ∙ ap (λ (m : ℕ). map (child_at 0) (numbers_from n (m - n))) count

  -- each of this many children, at the item with its index
  pub each_at_its_own : (n : ℕ) → each_from child_at_item 0 (min n (item_count s)) ≡ map (λ k. child_at k k) (numbers_from 0 (min n (length items)))
  each_at_its_own n = numbered_alike child_at_item 0 (min n (item_count s)) ∙ ap (λ (m : ℕ). map (λ k. child_at k k) (numbers_from 0 (min n m))) count
