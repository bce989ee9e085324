-- `items` with a list of schemas accepts a list if each item fits the schema of its number, if
-- there is one (Core 2019-09, 9.3.1.1). `items` with one schema skips the items for which
-- `prefixItems` has a schema, and accepts a list if each of the others fits (Core 2020-12,
-- 10.3.1.2). `additionalItems` skips the items for which `items` lists a schema, and accepts a list
-- if each of the others fits (Core 2019-09, 9.3.1.2); if its value is `false`, there must be no
-- others. An instance that is no list has no items.
use Rattle.std.specs.Prelude.{Bool, true, ℕ, ◌<◌, ◌≡◌, ◌≤◌}

-- `fits` says whether an item fits the schema of its number.
abbrev pub EachFitsItsOwn : ℕ → ℕ → (ℕ → Bool) → Type 0
EachFitsItsOwn schemas items fits = (i : ℕ) → i < schemas → i < items → fits i ≡ true

-- `fits` says whether an item fits the only schema.
abbrev pub EachLaterFits : ℕ → ℕ → (ℕ → Bool) → Type 0
EachLaterFits before items fits = (i : ℕ) → before ≤ i → i < items → fits i ≡ true

abbrev pub AreNoMore : ℕ → ℕ → Type 0
AreNoMore before items = items ≤ before
