-- The content of rows stays the same while their table grows.
use Rattle.std.proofs.Common.{◌≡◌, ℕ, zero, suc, ◌+◌, ◌-◌, ◌<◌, ◌≤◌, List, [], ◌∷◌, ◌++◌, length, length-append, get_or, take, drop, refl, sym, ◌∙◌, ap, ap₂, subst, arith}
use Rattle.std.specs.Prelude.{slice_range, slice_set}
use Rattle.std.proofs.lemmas.List.{length-map, map-append, map-set, take-append-le, take_all}
use Rattle.theory_definitions.specs.Instance.{Text}
use Rattle.schema_places.specs.Rows.{Laid, LaidBelow, NameNumbers, Walks, items_below, laid, last_in, members_below, name_in, name_of, named_by, numbers_from, row_in}
use Rattle.schema_places.specs.RowViews.{AllSmall, AllWithin, IsWithin, below_of, empty_row, last_at, row_of, rows_of, text_at, text_of}
use Rattle.schema_places.specs.declared.rows.Below.{Below}
use Rattle.schema_places.specs.declared.rows.Below.TheVariants as below
use Rattle.schema_places.specs.declared.rows.Row.{Row}

-- ---- ranges

drop-append_le : {X : Type 0} (i : ℕ) (xs ys : List X) → i ≤ length xs → drop i (xs ++ ys) ≡ drop i xs ++ ys
drop-append_le zero xs ys l = refl
drop-append_le (suc i) [] ys l = absurd (omega arith)
drop-append_le (suc i) (x ∷ xs) ys l = drop-append_le i xs ys (omega arith)

length_drop : {X : Type 0} (i : ℕ) (xs : List X) → i ≤ length xs → length (drop i xs) + i ≡ length xs
length_drop zero xs l = omega arith
length_drop (suc i) [] l = absurd (omega arith)
length_drop (suc i) (x ∷ xs) l = let r = length_drop i xs (omega arith) in omega (arith, r)

-- a range within a table stays while it grows
range_stays : {X : Type 0} (xs ys : List X) (a b : ℕ) → a ≤ b → b ≤ length xs → slice_range (xs ++ ys) a b ≡ slice_range xs a b
range_stays xs ys a b l m =
    let size = length_drop a xs (omega arith) in
    ap (take (b - a)) (drop-append_le a xs ys (omega arith)) ∙ take-append-le (b - a) (drop a xs) ys (omega (arith, size))

drop_past : {X : Type 0} (xs ys : List X) → drop (length xs) (xs ++ ys) ≡ ys
drop_past [] ys = refl
drop_past (x ∷ xs) ys = drop_past xs ys

-- what is put at the end stands there
pub range_added : {X : Type 0} (xs ys : List X) (a b : ℕ) → a ≡ length xs → b ≡ length xs + length ys → slice_range (xs ++ ys) a b ≡ ys
range_added xs ys a b f e = ap₂ (λ (i j : ℕ). take i (drop j (xs ++ ys))) (ap (λ (i : ℕ). b - i) f) f ∙ ap (take (b - length xs)) (drop_past xs ys) ∙ take_all (b - length xs) ys (omega arith)

-- ---- rows

below_stays : (bs cs : List ℕ) (b : Below) → IsWithin (length bs) b → below_of (bs ++ cs) b ≡ below_of bs b
below_stays bs cs below.Nothing h = refl
below_stays bs cs (below.Items a b) h = ap items_below (range_stays bs cs a b h.0 h.1)
below_stays bs cs (below.Members a b) h = ap members_below (range_stays bs cs a b h.0 h.1)
below_stays bs cs (below.Name s) h = refl

rows_stay : (bs cs : List ℕ) (rs : List Row) → AllWithin (length bs) rs → rows_of (bs ++ cs) rs ≡ rows_of bs rs
rows_stay bs cs [] h = refl
rows_stay bs cs (r ∷ rs) h = ap₂ (λ (x : Laid) (xs : List Laid). x ∷ xs) (ap (laid r.last) (below_stays bs cs r.below h.0)) (rows_stay bs cs rs h.1)

within_more : (a c : ℕ) (x : Below) → a ≤ c → IsWithin a x → IsWithin c x
within_more a c below.Nothing l h = tt
within_more a c (below.Items f t) l h = (h.0, omega (arith, h.1))
within_more a c (below.Members f t) l h = (h.0, omega (arith, h.1))
within_more a c (below.Name s) l h = tt

all_within_more : (a c : ℕ) (rs : List Row) → a ≤ c → AllWithin a rs → AllWithin c rs
all_within_more a c [] l h = tt
all_within_more a c (r ∷ rs) l h = (within_more a c r.below l h.0, all_within_more a c rs l h.1)

within_set : (a : ℕ) (rs : List Row) (i : ℕ) (r : Row) → AllWithin a rs → IsWithin a r.below → AllWithin a (slice_set rs i r)
within_set a [] i r h w = tt
within_set a (s ∷ rs) zero r h w = (w, h.1)
within_set a (s ∷ rs) (suc i) r h w = (h.0, within_set a rs i r h.1 w)

pub within_pushed : (a : ℕ) (rs : List Row) (r : Row) → AllWithin a rs → IsWithin a r.below → AllWithin a (rs ++ r ∷ [])
within_pushed a [] r h w = (w, tt)
within_pushed a (s ∷ rs) r h w = (h.0, within_pushed a rs r h.1 w)

pub within_at : (a : ℕ) (rs : List Row) (i : ℕ) (r : Row) → AllWithin a rs → i < length rs → r ≡ get_or rs i r → IsWithin a r.below
within_at a [] i r h l e = absurd (omega arith)
within_at a (s ∷ rs) zero r h l e = subst (λ (x : Row). IsWithin a x.below) (sym e) h.0
within_at a (s ∷ rs) (suc i) r h l e = within_at a rs i r h.1 (omega arith) e

pub row_at : (bs : List ℕ) (rs : List Row) (i : ℕ) (r : Row) → i < length rs → r ≡ get_or rs i r → row_of bs r ≡ row_in (rows_of bs rs) i
row_at bs [] i r l e = absurd (omega arith)
row_at bs (s ∷ rs) zero r l e = ap (row_of bs) e
row_at bs (s ∷ rs) (suc i) r l e = row_at bs rs i r (omega arith) e

pub rows_length : (bs : List ℕ) (rs : List Row) → length (rows_of bs rs) ≡ length rs
rows_length bs rs = length-map rs (row_of bs)

pub row_pushed : (bs : List ℕ) (rs : List Row) (r : Row) → rows_of bs (rs ++ r ∷ []) ≡ rows_of bs rs ++ row_of bs r ∷ []
row_pushed bs rs r = map-append (row_of bs) rs (r ∷ [])

-- the row of an array or an object is put in
pub row_put : (bs cs all : List ℕ) (rs : List Row) (i last : ℕ) (b : Below) (is : LaidBelow) → AllWithin (length bs) rs → all ≡ bs ++ cs → below_of all b ≡ is
    → rows_of all (slice_set rs i (record { last = last; below = b })) ≡ slice_set (rows_of bs rs) i (laid last is)
row_put bs cs all rs i last b is h e k =
    map-set (row_of all) rs i (record { last = last; below = b })
    ∙ ap₂ (λ (xs : List Laid) (x : Laid). slice_set xs i x)
    (ap (λ (ys : List ℕ). rows_of ys rs) e ∙ rows_stay bs cs rs h)
    (ap (laid last) k)

pub put_within : (bs cs all : List ℕ) (rs : List Row) (i : ℕ) (r : Row) → AllWithin (length bs) rs → all ≡ bs ++ cs → IsWithin (length all) r.below → AllWithin (length all) (slice_set rs i r)
put_within bs cs all rs i r h e w =
    let size = ap length e ∙ length-append bs cs in
    within_set (length all) rs i r (all_within_more (length bs) (length all) rs (omega (arith, size)) h) w

-- ---- names and last numbers, of rows and of what they say

row_found : (bs : List ℕ) (rs : List Row) (n : ℕ) → row_in (rows_of bs rs) n ≡ row_of bs (get_or rs n empty_row)
row_found bs [] n = refl
row_found bs (r ∷ rs) zero = refl
row_found bs (r ∷ rs) (suc n) = row_found bs rs n

no_item_name : (bs : List ℕ) → name_of (items_below bs) ≡ []
no_item_name [] = refl
no_item_name (b ∷ bs) = refl

no_member_name : (bs : List ℕ) → name_of (members_below bs) ≡ []
no_member_name [] = refl
no_member_name (b ∷ bs) = refl

name_told : (bs : List ℕ) (b : Below) → name_of (below_of bs b) ≡ text_of b
name_told bs below.Nothing = refl
name_told bs (below.Items f t) = no_item_name (slice_range bs f t)
name_told bs (below.Members f t) = no_member_name (slice_range bs f t)
name_told bs (below.Name s) = refl

name_found : (bs : List ℕ) (rs : List Row) (n : ℕ) → name_in (rows_of bs rs) n ≡ text_at rs n
name_found bs rs n = ap (λ (x : Laid). name_of x.below) (row_found bs rs n) ∙ name_told bs (get_or rs n empty_row).below

last_found : (bs : List ℕ) (rs : List Row) (n : ℕ) → last_in (rows_of bs rs) n ≡ last_at rs n
last_found bs rs n = ap (λ (x : Laid). x.last) (row_found bs rs n)

named_same : (f g : ℕ → Text) (ns : List ℕ) → ((n : ℕ) → f n ≡ g n) → named_by f ns ≡ named_by g ns
named_same f g [] h = refl
named_same f g (n ∷ ns) h = ap₂ (λ (t : Text) (r : List NameNumbers). (t, n, n + 1) ∷ r) (h n) (named_same f g ns h)

pub names_found : (bs : List ℕ) (rs : List Row) (ns : List ℕ) → named_by (name_in (rows_of bs rs)) ns ≡ named_by (text_at rs) ns
names_found bs rs ns = named_same (name_in (rows_of bs rs)) (text_at rs) ns (name_found bs rs)

from_same : (f g : ℕ → ℕ) (m n c : ℕ) → ((i : ℕ) → f i ≡ g i) → numbers_from f m n c ≡ numbers_from g m n c
from_same f g m n zero h = refl
from_same f g m n (suc c) h = ap (λ (r : List ℕ). n ∷ r) (from_same f g m (f (n + m) + 1) c h ∙ ap (λ (i : ℕ). numbers_from g m (i + 1) c) (h (n + m)))

walks_same : (f g : ℕ → ℕ) (size m n c : ℕ) → ((i : ℕ) → f i ≡ g i) → Walks f size m n c → Walks g size m n c
walks_same f g size m n zero h w = tt
walks_same f g size m n (suc c) h w =
    (w.0, omega (arith, w.1, h (n + m)), subst (λ (i : ℕ). Walks g size m (i + 1) c) (h (n + m)) (walks_same f g size m (f (n + m) + 1) c h w.2))

pub numbers_found : (bs : List ℕ) (rs : List Row) (m n c : ℕ) → numbers_from (last_at rs) m n c ≡ numbers_from (last_in (rows_of bs rs)) m n c
numbers_found bs rs m n c = from_same (last_at rs) (last_in (rows_of bs rs)) m n c (λ i. sym (last_found bs rs i))

pub walks_found : (bs : List ℕ) (rs : List Row) (m n c : ℕ) → Walks (last_in (rows_of bs rs)) (length (rows_of bs rs)) m n c → Walks (last_at rs) (length rs) m n c
walks_found bs rs m n c w =
    walks_same (last_in (rows_of bs rs)) (last_at rs) (length rs) m n c (last_found bs rs) (subst (λ (s : ℕ). Walks (last_in (rows_of bs rs)) s m n c) (rows_length bs rs) w)

-- ---- numbers that have a next one

small_append : (bs cs : List ℕ) → AllSmall bs → AllSmall cs → AllSmall (bs ++ cs)
small_append [] cs h k = k
small_append (b ∷ bs) cs h k = (h.0, small_append bs cs h.1 k)

small_walk : (f : ℕ → ℕ) (size m n c : ℕ) → size < 9223372036854775808 → Walks f size m n c → AllSmall (numbers_from f m n c)
small_walk f size m n zero l w = tt
small_walk f size m n (suc c) l w = (omega (arith, w.0), small_walk f size m (f (n + m) + 1) c l w.2)

pub small_more : (f : ℕ → ℕ) (size m n c : ℕ) (bs all : List ℕ) → size < 9223372036854775808 → Walks f size m n c → all ≡ bs ++ numbers_from f m n c → AllSmall bs → AllSmall all
small_more f size m n c bs all l w e h = subst AllSmall (sym e) (small_append bs (numbers_from f m n c) h (small_walk f size m n c l w))

small_drop : (i : ℕ) (bs : List ℕ) → AllSmall bs → AllSmall (drop i bs)
small_drop zero bs h = h
small_drop (suc i) [] h = tt
small_drop (suc i) (b ∷ bs) h = small_drop i bs h.1

small_take : (i : ℕ) (bs : List ℕ) → AllSmall bs → AllSmall (take i bs)
small_take zero bs h = tt
small_take (suc i) [] h = tt
small_take (suc i) (b ∷ bs) h = (h.0, small_take i bs h.1)

pub small_range : (bs : List ℕ) (f t : ℕ) → AllSmall bs → AllSmall (slice_range bs f t)
small_range bs f t h = small_take (t - f) (drop f bs) (small_drop f bs h)
