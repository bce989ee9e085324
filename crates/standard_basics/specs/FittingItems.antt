-- `prefixItems` accepts a list if each item fits the schema of its number, if there is one (Core
-- 2020-12, 10.3.1.1). `items` accepts a list if each item fits, but for the first ones, which
-- `prefixItems` beside it has schemas for (Core 2020-12, 10.3.1.2). An instance that is no list has
-- no items.
use Rattle.std.specs.Prelude.{Bool, true, ℕ, ◌<◌, ◌≡◌, ◌≤◌}

-- `fits` says whether an item fits the schema of its number.
abbrev pub EachFitsItsOwn : ℕ → ℕ → (ℕ → Bool) → Type 0
EachFitsItsOwn schemas items fits = (i : ℕ) → i < schemas → i < items → fits i ≡ true

-- `fits` says whether an item fits the only schema.
abbrev pub EachLaterFits : ℕ → ℕ → (ℕ → Bool) → Type 0
EachLaterFits before items fits = (i : ℕ) → before ≤ i → i < items → fits i ≡ true
