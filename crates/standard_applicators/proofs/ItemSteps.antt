-- Items from a number on.
use Rattle.std.proofs.Common.{◌≡◌, ◌+◌, ◌<◌, ◌≤◌, List, ℕ, ap, drop, get_or, length}
use Rattle.std.proofs.lemmas.List.{at_drop_all}
use Rattle.serde_json.specs.Data.{item, no_items}
use Rattle.serde_json.specs.View.{items_view, view}
use Rattle.serde_json.specs.declared.value.Value.{Value}
use Rattle.schema_traits.proofs.Drops.{drop_at}

pub items_at : (xs : List Value) (i : ℕ) (x : Value) → i < length xs → x ≡ get_or xs i x → items_view (drop i xs) ≡ item (view x) (items_view (drop (i + 1) xs))
items_at xs i x h is = ap items_view (drop_at xs i x h is)

pub items_end : (xs : List Value) (i : ℕ) → length xs ≤ i → items_view (drop i xs) ≡ no_items
items_end xs i h = at_drop_all items_view xs i h
