-- How a step is found one step below a place: an item by its index, and a name, since names ascend,
-- by bisection.
use Rattle.std.proofs.Common.{◌≡◌, ℕ, zero, suc, ◌+◌, ◌<◌, ◌≤◌, Bool, true, false, cond, bytes_eq, nat_cmp, is_eq, Ordering, Less, Equal, Greater, List, [], ◌∷◌, length, get_or, refl, sym, ◌∙◌, ap, subst, arith, true≢false, Err, ⊎_elim, Bor}
use Rattle.std.specs.Prelude.{Option, Some, None, option_map, slice_get}
use Rattle.std.specs.Cmp.Lexicographic.{slice_cmp}
use Rattle.std.specs.Option.{option_copied}
use Rattle.std.specs.Ordering.{ordering_index}
use Rattle.std.specs.Slice.{IsItemAt}
use Rattle.std.proofs.lemmas.Option.{slice_get_past, slice_get_read}
use Rattle.std.specs.List.Sorted.{IsSearchInRange, IsBinarySearchResult, IsNonDecreasingBy}
use Rattle.std.proofs.lemmas.Cmp.{nat_list_cmp_total}
use Rattle.std.proofs.lemmas.Bool.{cases_lt}
use Rattle.std.proofs.lemmas.List.Sorted.{IsNonDecreasingBy-from_default}
use Rattle.std.proofs.lemmas.Map.Text.{is_eq-slice_cmp}
use Rattle.std.proofs.lemmas.Slice.Eq.{bytes_eq-Decides}
use Rattle.theory_definitions.specs.Instance.{Text, same_step, to_item, to_member, to_name}
use Rattle.schema_places.specs.Rows.{IsFirst, NameNumbers, Rising, leads_to_items, leads_to_names, led_by, named_by, number_of_name}
use Rattle.schema_places.specs.RowViews.{AllSmall}
use Rattle.schema_places.proofs.Names.{less_differs}
use Rattle.schema_places.proofs.Numbers.{items_differ_back, step_itself}

-- a name, by its number, and the name that is sought
abbrev pub compared : (ℕ → Text) → Text → ℕ → Ordering
compared f k n = slice_cmp nat_cmp (f n) k

same_text : (k l : Text) → slice_cmp nat_cmp k l ≡ Equal → k ≡ l
same_text k l e = (bytes_eq-Decides k l).0 (sym (is_eq-slice_cmp k l) ∙ ap is_eq e)

swapped : (k l : Text) → bytes_eq l k ≡ false → bytes_eq k l ≡ false
swapped k l h = go (bytes_eq k l) refl
  where
    go : (b : Bool) → bytes_eq k l ≡ b → b ≡ false
    go true e = let same : k ≡ l = (bytes_eq-Decides k l).0 e in absurd (true≢false (sym ((bytes_eq-Decides l k).1 (sym same)) ∙ h))
    go false e = refl

-- ---- comparisons with a name rise

at_most : (o : Ordering) → ordering_index o ≤ 2
at_most Less = omega arith
at_most Equal = omega arith
at_most Greater = omega arith

rises : (a b k : Text) → slice_cmp nat_cmp a b ≡ Less → ordering_index (slice_cmp nat_cmp a k) ≤ ordering_index (slice_cmp nat_cmp b k)
rises a b k l = go (slice_cmp nat_cmp b k) refl
  where
    go : (o : Ordering) → slice_cmp nat_cmp b k ≡ o → ordering_index (slice_cmp nat_cmp a k) ≤ ordering_index o
    go Less e = let z : ordering_index (slice_cmp nat_cmp a k) ≡ 0 = ap ordering_index (nat_list_cmp_total.trans a b k l e) in omega (arith, z)
    go Equal e =
        let z : ordering_index (slice_cmp nat_cmp a k) ≡ 0 = ap (λ (t : Text). ordering_index (slice_cmp nat_cmp a t)) (sym (same_text b k e)) ∙ ap ordering_index l in
        omega (arith, z)
    go Greater e = at_most (slice_cmp nat_cmp a k)

first_at : (f : ℕ → Text) (k : Text) (ns : List ℕ) (j d : ℕ) → IsFirst k (named_by f ns) → j < length ns → slice_cmp nat_cmp k (f (get_or ns j d)) ≡ Less
first_at f k [] j d h l = absurd (omega arith)
first_at f k (n ∷ ns) zero d h l = h.0
first_at f k (n ∷ ns) (suc j) d h l = first_at f k ns j d h.1 (omega arith)

later_at : (f : ℕ → Text) (ns : List ℕ) (i j d : ℕ) → Rising (named_by f ns) → i < j → j < length ns → slice_cmp nat_cmp (f (get_or ns i d)) (f (get_or ns j d)) ≡ Less
later_at f [] i j d h l w = absurd (omega arith)
later_at f (n ∷ ns) i zero d h l w = absurd (omega arith)
later_at f (n ∷ ns) zero (suc j) d h l w = first_at f (f n) ns j d h.0 (omega arith)
later_at f (n ∷ ns) (suc i) (suc j) d h l w = later_at f ns i j d h.1 (omega arith) (omega arith)

comparisons_rise : (f : ℕ → Text) (k : Text) (ns : List ℕ) (d : ℕ) → Rising (named_by f ns) → IsNonDecreasingBy (λ n. ordering_index (compared f k n)) ns
comparisons_rise f k ns d h = IsNonDecreasingBy-from_default (λ n. ordering_index (compared f k n)) ns d (λ i j l w.
    ⊎_elim
    (λ (v : i < j). rises (f (get_or ns i d)) (f (get_or ns j d)) k (later_at f ns i j d h v w))
    (λ (v : j ≤ i). (
    let same : i ≡ j = omega arith in
    let e : ordering_index (compared f k (get_or ns i d)) ≡ ordering_index (compared f k (get_or ns j d)) = ap (λ (x : ℕ). ordering_index (compared f k (get_or ns x d))) same in
    omega (arith, e)
    ))
    (cases_lt i j))

-- ---- what a search finds

pub present : (f : ℕ → Text) (k : Text) (ns : List ℕ) (j d : ℕ) → Rising (named_by f ns) → j < length ns → compared f k (get_or ns j d) ≡ Equal
    → Some (get_or ns j d) ≡ number_of_name k (named_by f ns)
present f k [] j d h l e = absurd (omega arith)
present f k (n ∷ ns) zero d h l e =
    let same : f n ≡ k = same_text (f n) k e in
    ap (λ (b : Bool). cond b (Some n) (number_of_name k (named_by f ns))) (sym ((bytes_eq-Decides k (f n)).1 (sym same)))
present f k (n ∷ ns) (suc j) d h l e =
    let same : f (get_or ns j d) ≡ k = same_text (f (get_or ns j d)) k e in
    let less : slice_cmp nat_cmp (f n) k ≡ Less = subst (λ (t : Text). slice_cmp nat_cmp (f n) t ≡ Less) same (first_at f (f n) ns j d h.0 (omega arith)) in
    present f k ns j d h.1 (omega arith) e
    ∙ ap (λ (b : Bool). cond b (Some n) (number_of_name k (named_by f ns))) (sym (swapped k (f n) (less_differs (f n) k less)))

nowhere : (f : ℕ → Text) (k : Text) (ns : List ℕ) (d : ℕ) → ((j : ℕ) → j < length ns → bytes_eq k (f (get_or ns j d)) ≡ false) → number_of_name k (named_by f ns) ≡ None
nowhere f k [] d h = refl
nowhere f k (n ∷ ns) d h =
    ap (λ (b : Bool). cond b (Some n) (number_of_name k (named_by f ns))) (h 0 (omega arith)) ∙ nowhere f k ns d (λ j l. h (suc j) (omega arith))

greater_differs : (k l : Text) → slice_cmp nat_cmp k l ≡ Greater → bytes_eq k l ≡ false
greater_differs k l h = sym (is_eq-slice_cmp k l) ∙ ap is_eq h

pub absent : (f : ℕ → Text) (k : Text) (ns : List ℕ) (i : ℕ) → Rising (named_by f ns) → IsSearchInRange (Err i) (length ns) → IsBinarySearchResult (compared f k) ns (Err i) → None ≡ number_of_name k (named_by f ns)
absent f k [] i h w r = refl
absent f k (n ∷ ns) i h w r =
    let parted = r (comparisons_rise f k (n ∷ ns) n h) in
    sym (nowhere f k (n ∷ ns) n (λ j l.
    ⊎_elim
    (λ (v : j < i). swapped k _ (less_differs _ k (parted.0 j n (omega arith) v)))
    (λ (v : i ≤ j). swapped k _ (greater_differs _ k (parted.1 j n v l)))
    (cases_lt j i)))

-- a number that is found has a next one
pub found_small : (f : ℕ → Text) (k : Text) (ns : List ℕ) (n : ℕ) → AllSmall ns → Some n ≡ number_of_name k (named_by f ns) → n < 9223372036854775808
found_small f k [] n h e = absurd (let g : ⊥ = cc in g)
found_small f k (m ∷ ns) n h e = go (λ g. found_small f k ns n h.1 g) (bytes_eq k (f m)) e
  where
    go : (Some n ≡ number_of_name k (named_by f ns) → n < 9223372036854775808) → (b : Bool) → Some n ≡ cond b (Some m) (number_of_name k (named_by f ns)) → n < 9223372036854775808
    go rest true g = let same : n ≡ m = cc in omega (arith, h.0, same)
    go rest false g = rest g

-- ---- where steps lead

pub copied_item : (bs : List ℕ) (i : ℕ) (r : Option (Bor ℕ)) → IsItemAt bs i r → option_copied r ≡ slice_get bs i
copied_item bs i None h = sym (slice_get_past bs i h.3)
copied_item bs i (Some b) h = sym (slice_get_read bs (length bs) i b.now refl h.3.0 h.1)

pub item_leads : (n i : ℕ) (bs : List ℕ) → slice_get bs i ≡ led_by (to_item (n + i)) (leads_to_items n bs)
item_leads n i [] = refl
item_leads n zero (b ∷ bs) =
    let here : n + 0 ≡ n = omega arith in
    ap (λ (x : Bool). cond x (Some b) (led_by (to_item (n + 0)) (leads_to_items (n + 1) bs))) (sym (ap (λ (m : ℕ). same_step (to_item m) (to_item n)) here ∙ step_itself (to_item n)))
item_leads n (suc i) (b ∷ bs) =
    let next : n + 1 + i ≡ n + suc i = omega arith in
    item_leads (n + 1) i bs ∙ ap (λ (m : ℕ). led_by (to_item m) (leads_to_items (n + 1) bs)) next
    ∙ ap (λ (x : Bool). cond x (Some b) (led_by (to_item (n + suc i)) (leads_to_items (n + 1) bs))) (sym (items_differ_back (n + suc i) n (omega arith)))

pub member_no_item : (k : Text) (n : ℕ) (bs : List ℕ) → led_by (to_member k) (leads_to_items n bs) ≡ None
member_no_item k n [] = refl
member_no_item k n (b ∷ bs) = member_no_item k (n + 1) bs

pub name_no_item : (k : Text) (n : ℕ) (bs : List ℕ) → led_by (to_name k) (leads_to_items n bs) ≡ None
name_no_item k n [] = refl
name_no_item k n (b ∷ bs) = name_no_item k (n + 1) bs

pub item_no_member : (i : ℕ) (ms : List NameNumbers) → led_by (to_item i) (leads_to_names ms) ≡ None
item_no_member i [] = refl
item_no_member i (m ∷ ms) = item_no_member i ms

pub member_leads : (f : ℕ → Text) (k : Text) (ns : List ℕ) → option_map (λ n. n + 1) (number_of_name k (named_by f ns)) ≡ led_by (to_member k) (leads_to_names (named_by f ns))
member_leads f k [] = refl
member_leads f k (n ∷ ns) = go (bytes_eq k (f n)) (member_leads f k ns)
  where
    go : (b : Bool) → option_map (λ n. n + 1) (number_of_name k (named_by f ns)) ≡ led_by (to_member k) (leads_to_names (named_by f ns))
        → option_map (λ n. n + 1) (cond b (Some n) (number_of_name k (named_by f ns))) ≡ cond b (Some (n + 1)) (led_by (to_member k) (leads_to_names (named_by f ns)))
    go true e = refl
    go false e = e

pub name_leads : (k : Text) (ms : List NameNumbers) → number_of_name k ms ≡ led_by (to_name k) (leads_to_names ms)
name_leads k [] = refl
name_leads k (m ∷ ms) = ap (λ (o : Option ℕ). cond (bytes_eq k m.0) (Some m.1) o) (name_leads k ms)
