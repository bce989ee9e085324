-- Units that are placed one entry after the other end up in the order of their plan.
use Rattle.std.proofs.Common.{ap, ap₂, append-nil, append_assoc, refl, sym, ◌∙◌}
use Rattle.std.proofs.lemmas.List.{map-append}
use Rattle.std.proofs.lemmas.List.Elements.{filter-append}
use Rattle.std.specs.Prelude.{Bool, List, [], false, filter, flat_map, if◌then◌else◌, map, nat_le, not, true, ℕ, ◌++◌, ◌||◌, ◌∷◌, ◌≡◌}
use Rattle.theory_definitions.specs.Instance.{Text}
use Rattle.theory_definitions.specs.Reports.{Unit_}
use Rattle.theory_definitions.specs.Units.{Entry, entry_units, in_order, is_type}
use Rattle.theory_definitions.specs.UnitOrder.{Placed, all_placed, comes_after, each_placed, is_any, nothing_placed, placed, with_absorbed, with_own}

-- The units that pass a test.
abbrev picked : (Text × Unit_ → Bool) → List (Text × Unit_) → List Unit_
picked test xs = map (λ a. a.1) (filter test xs)

-- The absorbed keyword is not `type`.
abbrev is_count : Text × Unit_ → Bool
is_count a = not (is_type a)

-- The absorbed units of all entries.
abbrev absorbed_by : List Entry → List (Text × Unit_)
absorbed_by xs = flat_map (λ x. x.units.1) xs

-- The passing units of the first part, followed by those of the rest.
split : (test : Text × Unit_ → Bool) (before : List Unit_) (xs ys : List (Text × Unit_)) → (before ++ picked test xs) ++ picked test ys ≡ before ++ picked test (xs ++ ys)
split test before xs ys = append_assoc before (picked test xs) (picked test ys) ∙ ap (λ us. before ++ us) (sym (ap (map (λ a. a.1)) (filter-append test xs ys) ∙ map-append (λ a. a.1) (filter test xs) (filter test ys)))

-- The units after the types, depending on whether a unit already comes after the counts.
abbrev rest : List Unit_ → List Unit_ → List Unit_ → List Entry → List Unit_
rest before [] counts xs = before ++ in_order counts xs
rest before (a ∷ more) counts xs = before ++ (counts ++ ((a ∷ more) ++ map (λ x. x.units.0) xs))

module _ (u : Placed) (x : Entry) (xs : List Entry) (counts : List Unit_) where
  abbrev own : Unit_
  own = x.units.0

  abbrev owns : List Unit_
  owns = map (λ y. y.units.0) xs

  -- The same units with one more entry; `inside` says whether its priority puts it after the
  -- counts.
  abbrev with_one : Bool → List Unit_ → List Unit_ → List Unit_
  with_one inside before [] = before ++ (if inside then counts ++ (own ∷ owns) else own ∷ in_order counts xs)
  with_one inside before (a ∷ more) = before ++ (counts ++ ((a ∷ more) ++ (own ∷ owns)))

  -- The placed units, and one more entry.
  abbrev after_one : Bool → List Unit_ → List Unit_ → Placed
  after_one inside before after = if inside || is_any after then record { types = u.types; before = before; counts = u.counts; after = after ++ own ∷ [] } else record { types = u.types; before = before ++ own ∷ []; counts = u.counts; after = after }

  one : (inside : Bool) (before after : List Unit_) → rest (after_one inside before after).before (after_one inside before after).after counts xs ≡ with_one inside before after
  one true before [] = refl
  one false before [] = append_assoc before (own ∷ []) (in_order counts xs)
  one true before (a ∷ more) = ap (λ us. before ++ (counts ++ (a ∷ us))) (append_assoc more (own ∷ []) owns)
  one false before (a ∷ more) = ap (λ us. before ++ (counts ++ (a ∷ us))) (append_assoc more (own ∷ []) owns)

  with_one_is : (before after : List Unit_) → with_one (nat_le 22 x.priority) before after ≡ rest before after counts (x ∷ xs)
  with_one_is before [] = refl
  with_one_is before (a ∷ more) = refl

-- No entry is left.
ends : (before after counts : List Unit_) → before ++ (counts ++ after) ≡ rest before after counts []
ends before [] counts = ap (λ us. before ++ us) (append-nil counts)
ends before (a ∷ more) counts = ap (λ us. before ++ (counts ++ (a ∷ us))) (sym (append-nil more))

-- An entry does not change the types and the counts placed so far.
types_kept : (u : Placed) (priority : ℕ) (own : Unit_) → (with_own u priority own).types ≡ u.types
types_kept u priority own = go (comes_after u priority)
  where
    go : (b : Bool) → (if b then record u { after = u.after ++ own ∷ [] } else record u { before = u.before ++ own ∷ [] }).types ≡ u.types
    go true = refl
    go false = refl

counts_kept : (u : Placed) (priority : ℕ) (own : Unit_) → (with_own u priority own).counts ≡ u.counts
counts_kept u priority own = go (comes_after u priority)
  where
    go : (b : Bool) → (if b then record u { after = u.after ++ own ∷ [] } else record u { before = u.before ++ own ∷ [] }).counts ≡ u.counts
    go true = refl
    go false = refl

-- The order is right, whatever was placed before.
placed_after : (u : Placed) (xs : List Entry) → all_placed (each_placed u xs) ≡ (u.types ++ picked is_type (absorbed_by xs)) ++ rest u.before u.after (u.counts ++ picked is_count (absorbed_by xs)) xs
placed_after u [] = ap₂ (λ ts us. ts ++ us) (sym (append-nil u.types)) (ap (λ cs. u.before ++ (cs ++ u.after)) (sym (append-nil u.counts)) ∙ ends u.before u.after (u.counts ++ []))
placed_after u (x ∷ xs) =
    let mid : Placed = with_absorbed u x.units.1 in
    let types = ap (λ ts. ts ++ picked is_type (absorbed_by xs)) (types_kept mid x.priority x.units.0) ∙ split is_type u.types x.units.1 (absorbed_by xs) in
    let counts = ap (λ cs. cs ++ picked is_count (absorbed_by xs)) (counts_kept mid x.priority x.units.0) ∙ split is_count u.counts x.units.1 (absorbed_by xs) in
    let all : List Unit_ = u.counts ++ picked is_count (x.units.1 ++ absorbed_by xs) in
    placed_after (placed u x) xs
    ∙ ap₂ (λ ts cs. ts ++ rest (placed u x).before (placed u x).after cs xs) types counts
    ∙ ap (λ us. (u.types ++ picked is_type (absorbed_by (x ∷ xs))) ++ us) (one mid x xs all (nat_le 22 x.priority) u.before u.after ∙ with_one_is mid x xs all u.before u.after)

pub placed_in_order : (xs : List Entry) → all_placed (each_placed nothing_placed xs) ≡ entry_units xs
placed_in_order xs = placed_after nothing_placed xs ∙ refl
