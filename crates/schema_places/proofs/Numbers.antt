-- The numbers of places: each place has the number at which it stands, and the places right below one have those of its row.
use Rattle.std.proofs.Common.{◌≡◌, ℕ, zero, suc, ◌+◌, ◌-◌, ◌<◌, ◌≤◌, ◌==◌, ◌&&◌, Bool, true, false, cond, bytes_eq, List, [], ◌∷◌, ◌++◌, length, get_or, map, refl, sym, ◌∙◌, ap, ap₂, subst, arith, rules, true≢false, ⊎_elim, length-append}
use Rattle.std.specs.Prelude.{Option, Some, None, option_map, ◌||◌}
use Rattle.std.proofs.lemmas.Bool.{cases_lt, eqb-true}
use Rattle.std.proofs.lemmas.List.{length-map, get_or_append_left, get_or-append_right, get_or-map}
use Rattle.std.proofs.lemmas.Slice.Eq.{bytes_eq-Decides}
use Rattle.serde_json.specs.Data.{Data, Items, Members, array, boolean, item, member, no_items, no_members, null, number, object, string}
use Rattle.theory_definitions.specs.Instance.{Place, Step, Text, item_places, member_places, places, same_place, same_step, to_item, to_member, to_name}
use Rattle.schema_places.specs.Numbers.{number_of}
use Rattle.schema_places.specs.Rows.{Laid, leads_of, nothing, item_numbers, items_below, leads_to_items, leads_to_names, item_rows, laid, led_by, member_rows, members_below, name_in, name_numbers, named_by, own_name, rows_at}
use Rattle.schema_places.proofs.Names.{NamesApart, NamesApartInItems, NamesApartInMembers, has_name}
use Rattle.schema_places.proofs.Laying.{length_rows}
use Rattle.schema_places.proofs.Sitting.{Sits, item_rest, member_numbers, member_rest, names_told, sits_left, sits_rest}

-- ---- steps

pub step_itself : (s : Step) → same_step s s ≡ true
step_itself (to_member k) = (bytes_eq-Decides k k).1 refl
step_itself (to_item i) = search rules
step_itself (to_name k) = (bytes_eq-Decides k k).1 refl

pub items_differ : (m n : ℕ) → m < n → same_step (to_item m) (to_item n) ≡ false
items_differ m n l = go (m == n) refl
  where
    go : (b : Bool) → (m == n) ≡ b → b ≡ false
    go true e = let same : m ≡ n = eqb-true m n e in absurd (omega arith)
    go false e = refl

pub items_differ_back : (m n : ℕ) → n < m → same_step (to_item m) (to_item n) ≡ false
items_differ_back m n l = go (m == n) refl
  where
    go : (b : Bool) → (m == n) ≡ b → b ≡ false
    go true e = let same : m ≡ n = eqb-true m n e in absurd (omega arith)
    go false e = refl

pub or_parts : (a b : Bool) → (a || b) ≡ false → (a ≡ false) × (b ≡ false)
or_parts true b h = absurd (true≢false h)
or_parts false b h = (refl, h)

texts_swap : (k l : Text) → bytes_eq k l ≡ false → bytes_eq l k ≡ false
texts_swap k l h = go (bytes_eq l k) refl
  where
    go : (b : Bool) → bytes_eq l k ≡ b → b ≡ false
    go true e = let same : l ≡ k = (bytes_eq-Decides l k).0 e in absurd (true≢false (sym ((bytes_eq-Decides k l).1 (sym same)) ∙ h))
    go false e = refl

-- ---- numbers, moved

abbrev pub more : ℕ → Option ℕ → Option ℕ
more b o = option_map (λ j. b + j) o

more_twice : (a b c : ℕ) (o : Option ℕ) → c ≡ a + b → more c o ≡ more a (more b o)
more_twice a b c None e = refl
more_twice a b c (Some j) e = let f : c + j ≡ a + (b + j) = omega arith in ap (λ (n : ℕ). Some n) f

more_one : (a c : ℕ) (o : Option ℕ) → c ≡ a + 1 → more c o ≡ more a (option_map (λ n. n + 1) o)
more_one a c None e = refl
more_one a c (Some j) e = let f : c + j ≡ a + (j + 1) = omega arith in ap (λ (n : ℕ). Some n) f

one_more : (a : ℕ) (o : Option ℕ) → more (suc a) o ≡ option_map (λ n. n + 1) (more a o)
one_more a None = refl
one_more a (Some j) = let f : suc a + j ≡ a + j + 1 = omega arith in ap (λ (n : ℕ). Some n) f

pub more_none : (o : Option ℕ) → more 0 o ≡ o
more_none None = refl
more_none (Some j) = let f : 0 + j ≡ j = omega arith in ap (λ (n : ℕ). Some n) f

-- ---- a block of places that begin with one step

pub at_block : (h : Step) (qs : List Place) (ys : List Place) (i : ℕ) → i < length qs → get_or (map (λ p. h ∷ p) qs ++ ys) i [] ≡ h ∷ get_or qs i []
at_block h qs ys i l =
    let n = length-map qs (λ p. h ∷ p) in
    get_or_append_left (map (λ p. h ∷ p) qs) ys [] i (omega (arith, n)) ∙ get_or-map (λ p. h ∷ p) qs i [] [] l

pub past_block : (h : Step) (qs : List Place) (ys : List Place) (i : ℕ) → length qs ≤ i → get_or (map (λ p. h ∷ p) qs ++ ys) i [] ≡ get_or ys (i - length qs) []
past_block h qs ys i l = get_or-append_right (map (λ p. h ∷ p) qs) ys (length qs) i [] (length-map qs (λ p. h ∷ p)) l

in_block : (h : Step) (p : Place) (qs ys : List Place) → number_of (h ∷ p) ys ≡ None → number_of (h ∷ p) (map (λ q. h ∷ q) qs ++ ys) ≡ number_of p qs
in_block h p [] ys e = e
in_block h p (q ∷ qs) ys e =
    let same : (same_step h h && same_place p q) ≡ same_place p q = ap (λ b. b && same_place p q) (step_itself h) in
    ap₂ (λ b (o : Option ℕ). cond b (Some 0) (option_map (λ n. n + 1) o)) same (in_block h p qs ys e)

after_block : (h : Step) (p : Place) (qs ys : List Place) → ((q : Place) → same_place p (h ∷ q) ≡ false) → number_of p (map (λ q. h ∷ q) qs ++ ys) ≡ more (length qs) (number_of p ys)
after_block h p [] ys e = sym (more_none (number_of p ys))
after_block h p (q ∷ qs) ys e =
    ap₂ (λ b (o : Option ℕ). cond b (Some 0) (option_map (λ n. n + 1) o)) (e q) (after_block h p qs ys e) ∙ sym (one_more (length qs) (number_of p ys))

-- a place begins with a step that is not this one
pub record Begins (h : Step) (p : Place) : Type 0 where
  pub first : Step
  pub rest : Place
  pub is : p ≡ first ∷ rest
  pub other : same_step first h ≡ false

differs : (h : Step) (p r q : Place) → Begins h p → same_place (p ++ r) (h ∷ q) ≡ false
differs h p r q b = ap (λ (x : Place). same_place (x ++ r) (h ∷ q)) b.is ∙ ap (λ x. x && same_place (b.rest ++ r) q) b.other

not_root : (h : Step) (p r : Place) → Begins h p → same_place (p ++ r) [] ≡ false
not_root h p r b = ap (λ (x : Place). same_place (x ++ r) []) b.is

begins_so : (h first : Step) (p rest : Place) → p ≡ first ∷ rest → same_step first h ≡ false → Begins h p
begins_so h first p rest e o = record { first = first; rest = rest; is = e; other = o }

no_end : (p : Place) (s : Step) → same_place (p ++ s ∷ []) [] ≡ false
no_end [] s = refl
no_end (t ∷ p) s = refl

-- ---- items

pub item_begins : (n m : ℕ) (ds : Items) (j : ℕ) → n < m → j < length (item_places m ds) → Begins (to_item n) (get_or (item_places m ds) j [])
item_begins n m no_items j l w = absurd (omega arith)
item_begins n m (item d ds) j l w =
    let size = length-append (map (λ p. to_item m ∷ p) (places d)) (item_places (m + 1) ds) in
    let own = length-map (places d) (λ p. to_item m ∷ p) in
    ⊎_elim
    (λ (h : j < length (places d)). begins_so (to_item n) (to_item m) _ (get_or (places d) j []) (at_block (to_item m) (places d) (item_places (m + 1) ds) j h) (items_differ_back m n l))
    (λ (h : length (places d) ≤ j). subst (Begins (to_item n)) (sym (past_block (to_item m) (places d) (item_places (m + 1) ds) j h)) (item_begins n (m + 1) ds (j - length (places d)) (omega arith) (omega (arith, size, own))))
    (cases_lt j (length (places d)))

-- no later item has the index
pub no_item : (n m : ℕ) (p : Place) (ds : Items) → n < m → number_of (to_item n ∷ p) (item_places m ds) ≡ None
no_item n m p no_items l = refl
no_item n m p (item d ds) l =
    after_block (to_item m) (to_item n ∷ p) (places d) (item_places (m + 1) ds) (λ q. ap (λ x. x && same_place p q) (items_differ n m l))
    ∙ ap (more (length (places d))) (no_item n (m + 1) p ds (omega arith))

-- ---- members

-- neither the name nor the member
pub record BeginsOther (k : Text) (p : Place) : Type 0 where
  pub name : Begins (to_name k) p
  pub value : Begins (to_member k) p

pub member_begins : (k : Text) (ms : Members) (j : ℕ) → has_name k ms ≡ false → j < length (member_places ms) → BeginsOther k (get_or (member_places ms) j [])
member_begins k no_members j a w = absurd (omega arith)
member_begins k (member l d ms) zero a w =
    let apart = texts_swap k l (or_parts (bytes_eq k l) (has_name k ms) a).0 in
    record { name = begins_so (to_name k) (to_name l) _ [] refl apart; value = begins_so (to_member k) (to_name l) _ [] refl refl }
member_begins k (member l d ms) (suc j) a w =
    let apart = or_parts (bytes_eq k l) (has_name k ms) a in
    let size = length-append (map (λ p. to_member l ∷ p) (places d)) (member_places ms) in
    let own = length-map (places d) (λ p. to_member l ∷ p) in
    ⊎_elim
    (λ (h : j < length (places d)). (
    let e = at_block (to_member l) (places d) (member_places ms) j h in
    let r : BeginsOther k (get_or (map (λ p. to_member l ∷ p) (places d) ++ member_places ms) j []) = record {
      name = begins_so (to_name k) (to_member l) _ (get_or (places d) j []) e refl;
      value = begins_so (to_member k) (to_member l) _ (get_or (places d) j []) e (texts_swap k l apart.0);
    } in r
    ))
    (λ (h : length (places d) ≤ j). subst (BeginsOther k) (sym (past_block (to_member l) (places d) (member_places ms) j h)) (member_begins k ms (j - length (places d)) apart.1 (omega (arith, size, own))))
    (cases_lt j (length (places d)))

-- nothing lies below a name
pub no_below_name : (k : Text) (s : Step) (p : Place) (ms : Members) → number_of (to_name k ∷ s ∷ p) (member_places ms) ≡ None
no_below_name k s p no_members = refl
no_below_name k s p (member l d ms) =
    ap₂ (λ b (o : Option ℕ). cond b (Some 0) (option_map (λ n. n + 1) o)) (and_false (bytes_eq k l))
    (after_block (to_member l) (to_name k ∷ s ∷ p) (places d) (member_places ms) (λ q. refl) ∙ ap (more (length (places d))) (no_below_name k s p ms))
  where
    and_false : (b : Bool) → (b && false) ≡ false
    and_false true = refl
    and_false false = refl

-- no later member has the name
pub no_member : (k : Text) (p : Place) (ms : Members) → has_name k ms ≡ false → number_of (to_member k ∷ p) (member_places ms) ≡ None
no_member k p no_members a = refl
no_member k p (member l d ms) a =
    let apart = or_parts (bytes_eq k l) (has_name k ms) a in
    ap (option_map (λ n. n + 1)) (after_block (to_member l) (to_member k ∷ p) (places d) (member_places ms) (λ q. ap (λ x. x && same_place p q) apart.0)
    ∙ ap (more (length (places d))) (no_member k p ms apart.1))

-- ---- the places right below one

abbrev pub no_row : Laid
no_row = laid 0 nothing

and_true : (b : Bool) → (b && true) ≡ b
and_true true = refl
and_true false = refl

first_place : (d : Data) → (qs : List Place) × (places d ≡ [] ∷ qs)
first_place null = ([], refl)
first_place (boolean b) = ([], refl)
first_place (number n) = ([], refl)
first_place (string s) = ([], refl)
first_place (array ds) = (item_places 0 ds, refl)
first_place (object ms) = (member_places ms, refl)

step_block : (s h : Step) (d : Data) (ys : List Place)
    → number_of (s ∷ []) (map (λ q. h ∷ q) (places d) ++ ys) ≡ cond (same_step s h) (Some 0) (more (length (places d)) (number_of (s ∷ []) ys))
step_block s h d ys = go (same_step s h) refl
  where
    go : (x : Bool) → same_step s h ≡ x → number_of (s ∷ []) (map (λ q. h ∷ q) (places d) ++ ys) ≡ cond x (Some 0) (more (length (places d)) (number_of (s ∷ []) ys))
    go true e =
        let r = first_place d in
        ap (λ (qs : List Place). number_of (s ∷ []) (map (λ q. h ∷ q) qs ++ ys)) r.1
        ∙ ap (λ (x : Bool). cond (x && true) (Some 0) (option_map (λ n. n + 1) (number_of (s ∷ []) (map (λ q. h ∷ q) r.0 ++ ys)))) e
    go false e = after_block h (s ∷ []) (places d) ys (λ q. ap (λ x. x && same_place [] q) e)

pick : (x : Bool) (b size : ℕ) (o r : Option ℕ) → r ≡ more (b + size) o → cond x (Some b) r ≡ more b (cond x (Some 0) (more size o))
pick true b size o r e = let f : b ≡ b + 0 = omega arith in ap (λ (n : ℕ). Some n) f
pick false b size o r e = e ∙ more_twice b size (b + size) o refl

pick_two : (x y : Bool) (b size : ℕ) (o r : Option ℕ) → r ≡ more (b + 1 + size) o
    → cond x (Some b) (cond y (Some (b + 1)) r) ≡ more b (cond x (Some 0) (option_map (λ n. n + 1) (cond y (Some 0) (more size o))))
pick_two true y b size o r e = let f : b ≡ b + 0 = omega arith in ap (λ (n : ℕ). Some n) f
pick_two false true b size o r e = let f : b + 1 ≡ b + (0 + 1) = omega arith in ap (λ (n : ℕ). Some n) f
pick_two false false b size o r e = e ∙ more_twice (b + 1) size (b + 1 + size) o refl ∙ more_one b (b + 1) (more size o) refl

-- below the root: the steps with their numbers
item_led : (s : Step) (b n : ℕ) (ds : Items) → led_by s (leads_to_items n (item_numbers b ds)) ≡ more b (number_of (s ∷ []) (item_places n ds))
item_led s b n no_items = refl
item_led s b n (item d ds) =
    pick (same_step s (to_item n)) b (length (places d)) (number_of (s ∷ []) (item_places (n + 1) ds)) _ (item_led s (b + length (places d)) (n + 1) ds)
    ∙ ap (more b) (sym (step_block s (to_item n) d (item_places (n + 1) ds)))

member_led : (s : Step) (b : ℕ) (ms : Members) → led_by s (leads_to_names (member_numbers b ms)) ≡ more b (number_of (s ∷ []) (member_places ms))
member_led s b no_members = refl
member_led s b (member k d ms) =
    pick_two (same_step s (to_name k)) (same_step s (to_member k)) b (length (places d)) (number_of (s ∷ []) (member_places ms)) _ (member_led s (b + 1 + length (places d)) ms)
    ∙ ap (more b) (sym (ap₂ (λ (x : Bool) (o : Option ℕ). cond x (Some 0) (option_map (λ n. n + 1) o)) (and_true (same_step s (to_name k))) (step_block s (to_member k) d (member_places ms))))

-- what a row leads to by a step, and the number of the place there
abbrev leads : Step → List Laid → List Laid → ℕ → Option ℕ
leads s all rows i = led_by s (leads_of all (get_or rows i no_row).below)

leads_items : (all : List Laid) (bs : List ℕ) → leads_of all (items_below bs) ≡ leads_to_items 0 bs
leads_items all [] = refl
leads_items all (b ∷ bs) = refl

leads_members : (all : List Laid) (bs : List ℕ) → leads_of all (members_below bs) ≡ leads_to_names (named_by (name_in all) bs)
leads_members all [] = refl
leads_members all (b ∷ bs) = refl

abbrev below : Step → List Place → ℕ → Option ℕ
below s ps i = number_of (get_or ps i [] ++ s ∷ []) ps

mutual
  pub led_at : (s : Step) (all : List Laid) (b : ℕ) (d : Data) (i : ℕ) → Sits all b (rows_at b d) → NamesApart d → i < length (places d) → leads s all (rows_at b d) i ≡ more b (below s (places d) i)
  led_at s all b null zero t a l = refl
  led_at s all b null (suc i) t a l = absurd (omega arith)
  led_at s all b (boolean x) zero t a l = refl
  led_at s all b (boolean x) (suc i) t a l = absurd (omega arith)
  led_at s all b (number n) zero t a l = refl
  led_at s all b (number n) (suc i) t a l = absurd (omega arith)
  led_at s all b (string x) zero t a l = refl
  led_at s all b (string x) (suc i) t a l = absurd (omega arith)
  led_at s all b (array ds) zero t a l = ap (led_by s) (leads_items all (item_numbers (b + 1) ds)) ∙ item_led s (b + 1) 0 ds ∙ more_one b (b + 1) (number_of (s ∷ []) (item_places 0 ds)) refl
  led_at s all b (array ds) (suc i) t a l =
      led_at_item s all (b + 1) 0 ds i (sits_rest all b _ (item_rows (b + 1) ds) t) a (omega arith) ∙ more_one b (b + 1) (below s (item_places 0 ds) i) refl
      ∙ ap (λ x. more b (cond x (Some 0) (option_map (λ n. n + 1) (below s (item_places 0 ds) i)))) (sym (no_end (get_or (item_places 0 ds) i []) s))
  led_at s all b (object ms) zero t a l =
      ap (led_by s) (leads_members all (name_numbers (b + 1) ms) ∙ ap leads_to_names (names_told all (b + 1) ms (sits_rest all b _ (member_rows (b + 1) ms) t)))
      ∙ member_led s (b + 1) ms ∙ more_one b (b + 1) (number_of (s ∷ []) (member_places ms)) refl
  led_at s all b (object ms) (suc i) t a l =
      led_at_member s all (b + 1) ms i (sits_rest all b _ (member_rows (b + 1) ms) t) a (omega arith) ∙ more_one b (b + 1) (below s (member_places ms) i) refl
      ∙ ap (λ x. more b (cond x (Some 0) (option_map (λ n. n + 1) (below s (member_places ms) i)))) (sym (no_end (get_or (member_places ms) i []) s))

  led_at_item : (s : Step) (all : List Laid) (b n : ℕ) (ds : Items) (i : ℕ) → Sits all b (item_rows b ds) → NamesApartInItems ds → i < length (item_places n ds) → leads s all (item_rows b ds) i ≡ more b (below s (item_places n ds) i)
  led_at_item s all b n no_items i t a l = absurd (omega arith)
  led_at_item s all b n (item d ds) i t a l =
      let qs = places d in
      let ys = item_places (n + 1) ds in
      let h = to_item n in
      let own = length_rows b d in
      let size = length-append (map (λ p. h ∷ p) qs) ys in
      let block = length-map qs (λ p. h ∷ p) in
      ⊎_elim
      (λ (w : i < length qs).
      ap (λ (r : Laid). led_by s (leads_of all r.below)) (get_or_append_left (rows_at b d) (item_rows (b + length qs) ds) no_row i (omega (arith, own)))
      ∙ led_at s all b d i (sits_left all b (rows_at b d) _ t) a.0 w
      ∙ ap (more b) (sym (
      ap (λ (p : Place). number_of (p ++ s ∷ []) (map (λ q. h ∷ q) qs ++ ys)) (at_block h qs ys i w)
      ∙ in_block h (get_or qs i [] ++ s ∷ []) qs ys (no_item n (n + 1) (get_or qs i [] ++ s ∷ []) ds (omega arith))
      )))
      (λ (w : length qs ≤ i).
      let j = i - length qs in
      let there : j < length ys = omega (arith, size, block) in
      ap (λ (r : Laid). led_by s (leads_of all r.below)) (get_or-append_right (rows_at b d) (item_rows (b + length qs) ds) (length qs) i no_row own w)
      ∙ led_at_item s all (b + length qs) (n + 1) ds j (item_rest all b d ds t) a.1 there
      ∙ more_twice b (length qs) (b + length qs) (below s ys j) refl
      ∙ ap (more b) (sym (
      ap (λ (p : Place). number_of (p ++ s ∷ []) (map (λ q. h ∷ q) qs ++ ys)) (past_block h qs ys i w)
      ∙ after_block h (get_or ys j [] ++ s ∷ []) qs ys (λ q. differs h (get_or ys j []) (s ∷ []) q (item_begins n (n + 1) ds j (omega arith) there))
      )))
      (cases_lt i (length qs))

  led_at_member : (s : Step) (all : List Laid) (b : ℕ) (ms : Members) (i : ℕ) → Sits all b (member_rows b ms) → NamesApartInMembers ms → i < length (member_places ms) → leads s all (member_rows b ms) i ≡ more b (below s (member_places ms) i)
  led_at_member s all b no_members i t a l = absurd (omega arith)
  led_at_member s all b (member k d ms) zero t a l = ap (more b) (sym (no_below_name k s [] (member k d ms)))
  led_at_member s all b (member k d ms) (suc i) t a l =
      let qs = places d in
      let ys = member_places ms in
      let h = to_member k in
      let own = length_rows (b + 1) d in
      let size = length-append (map (λ p. h ∷ p) qs) ys in
      let block = length-map qs (λ p. h ∷ p) in
      let whole = map (λ q. h ∷ q) qs ++ ys in
      ⊎_elim
      (λ (w : i < length qs).
      ap (λ (r : Laid). led_by s (leads_of all r.below)) (get_or_append_left (rows_at (b + 1) d) (member_rows (b + 1 + length qs) ms) no_row i (omega (arith, own)))
      ∙ led_at s all (b + 1) d i (sits_left all (b + 1) (rows_at (b + 1) d) _ (sits_rest all b (laid b (own_name k)) _ t)) a.1 w
      ∙ more_one b (b + 1) (below s qs i) refl
      ∙ ap (more b) (sym (
      ap (λ (p : Place). number_of (p ++ s ∷ []) ((to_name k ∷ []) ∷ whole)) (at_block h qs ys i w)
      ∙ ap (option_map (λ n. n + 1)) (in_block h (get_or qs i [] ++ s ∷ []) qs ys (no_member k (get_or qs i [] ++ s ∷ []) ms a.0))
      )))
      (λ (w : length qs ≤ i).
      let j = i - length qs in
      let there : j < length ys = omega (arith, size, block) in
      let begins = member_begins k ms j a.0 there in
      ap (λ (r : Laid). led_by s (leads_of all r.below)) (get_or-append_right (rows_at (b + 1) d) (member_rows (b + 1 + length qs) ms) (length qs) i no_row own w)
      ∙ led_at_member s all (b + 1 + length qs) ms j (member_rest all b k d ms t) a.2 there
      ∙ more_twice (b + 1) (length qs) (b + 1 + length qs) (below s ys j) refl
      ∙ more_one b (b + 1) (more (length qs) (below s ys j)) refl
      ∙ ap (more b) (sym (
      ap (λ (p : Place). number_of (p ++ s ∷ []) ((to_name k ∷ []) ∷ whole)) (past_block h qs ys i w)
      ∙ ap₂ (λ (x : Bool) (o : Option ℕ). cond x (Some 0) (option_map (λ n. n + 1) o))
      (differs (to_name k) (get_or ys j []) (s ∷ []) [] begins.name)
      (after_block h (get_or ys j [] ++ s ∷ []) qs ys (λ q. differs h (get_or ys j []) (s ∷ []) q begins.value))
      )))
      (cases_lt i (length qs))

-- ---- each place stands at its own number only

differs_as : (h : Step) (p q : Place) → Begins h p → same_place p (h ∷ q) ≡ false
differs_as h p q b = ap (λ (x : Place). same_place x (h ∷ q)) b.is ∙ ap (λ x. x && same_place b.rest q) b.other

no_root : (h : Step) (p : Place) → Begins h p → same_place p [] ≡ false
no_root h p b = ap (λ (x : Place). same_place x []) b.is

found_next : (x : Bool) (o : Option ℕ) (i : ℕ) → x ≡ false → o ≡ Some i → cond x (Some 0) (option_map (λ n. n + 1) o) ≡ Some (suc i)
found_next x o i e f = ap₂ (λ b (r : Option ℕ). cond b (Some 0) (option_map (λ n. n + 1) r)) e f ∙ (let g : i + 1 ≡ suc i = omega arith in ap (λ (n : ℕ). Some n) g)

-- a place below a root begins with some step
pub item_more : (n : ℕ) (ds : Items) (j : ℕ) → j < length (item_places n ds) → same_place (get_or (item_places n ds) j []) [] ≡ false
item_more n no_items j l = absurd (omega arith)
item_more n (item d ds) j l =
    let size = length-append (map (λ p. to_item n ∷ p) (places d)) (item_places (n + 1) ds) in
    let own = length-map (places d) (λ p. to_item n ∷ p) in
    ⊎_elim
    (λ (h : j < length (places d)). ap (λ (x : Place). same_place x []) (at_block (to_item n) (places d) (item_places (n + 1) ds) j h))
    (λ (h : length (places d) ≤ j). ap (λ (x : Place). same_place x []) (past_block (to_item n) (places d) (item_places (n + 1) ds) j h) ∙ item_more (n + 1) ds (j - length (places d)) (omega (arith, size, own)))
    (cases_lt j (length (places d)))

pub member_more : (ms : Members) (j : ℕ) → j < length (member_places ms) → same_place (get_or (member_places ms) j []) [] ≡ false
member_more no_members j l = absurd (omega arith)
member_more (member k d ms) zero l = refl
member_more (member k d ms) (suc j) l =
    let size = length-append (map (λ p. to_member k ∷ p) (places d)) (member_places ms) in
    let own = length-map (places d) (λ p. to_member k ∷ p) in
    ⊎_elim
    (λ (h : j < length (places d)). ap (λ (x : Place). same_place x []) (at_block (to_member k) (places d) (member_places ms) j h))
    (λ (h : length (places d) ≤ j). ap (λ (x : Place). same_place x []) (past_block (to_member k) (places d) (member_places ms) j h) ∙ member_more ms (j - length (places d)) (omega (arith, size, own)))
    (cases_lt j (length (places d)))

sum_is : (a b c : ℕ) (o : Option ℕ) → o ≡ Some b → a + b ≡ c → more a o ≡ Some c
sum_is a b c o e f = ap (more a) e ∙ ap (λ (n : ℕ). Some n) f

mutual
  pub stands_at : (d : Data) (i : ℕ) → NamesApart d → i < length (places d) → number_of (get_or (places d) i []) (places d) ≡ Some i
  stands_at null zero a l = refl
  stands_at null (suc i) a l = absurd (omega arith)
  stands_at (boolean x) zero a l = refl
  stands_at (boolean x) (suc i) a l = absurd (omega arith)
  stands_at (number n) zero a l = refl
  stands_at (number n) (suc i) a l = absurd (omega arith)
  stands_at (string t) zero a l = refl
  stands_at (string t) (suc i) a l = absurd (omega arith)
  stands_at (array ds) zero a l = refl
  stands_at (array ds) (suc i) a l = found_next _ _ i (item_more 0 ds i (omega arith)) (item_stands 0 ds i a (omega arith))
  stands_at (object ms) zero a l = refl
  stands_at (object ms) (suc i) a l = found_next _ _ i (member_more ms i (omega arith)) (member_stands ms i a (omega arith))

  item_stands : (n : ℕ) (ds : Items) (i : ℕ) → NamesApartInItems ds → i < length (item_places n ds) → number_of (get_or (item_places n ds) i []) (item_places n ds) ≡ Some i
  item_stands n no_items i a l = absurd (omega arith)
  item_stands n (item d ds) i a l =
      let qs = places d in
      let ys = item_places (n + 1) ds in
      let h = to_item n in
      let size = length-append (map (λ p. h ∷ p) qs) ys in
      let block = length-map qs (λ p. h ∷ p) in
      ⊎_elim
      (λ (w : i < length qs).
      ap (λ (p : Place). number_of p (map (λ q. h ∷ q) qs ++ ys)) (at_block h qs ys i w)
      ∙ in_block h (get_or qs i []) qs ys (no_item n (n + 1) (get_or qs i []) ds (omega arith)) ∙ stands_at d i a.0 w)
      (λ (w : length qs ≤ i).
      let j = i - length qs in
      let there : j < length ys = omega (arith, size, block) in
      ap (λ (p : Place). number_of p (map (λ q. h ∷ q) qs ++ ys)) (past_block h qs ys i w)
      ∙ after_block h (get_or ys j []) qs ys (λ q. differs_as h (get_or ys j []) q (item_begins n (n + 1) ds j (omega arith) there))
      ∙ sum_is (length qs) j i _ (item_stands (n + 1) ds j a.1 there) (omega arith))
      (cases_lt i (length qs))

  member_stands : (ms : Members) (i : ℕ) → NamesApartInMembers ms → i < length (member_places ms) → number_of (get_or (member_places ms) i []) (member_places ms) ≡ Some i
  member_stands no_members i a l = absurd (omega arith)
  member_stands (member k d ms) zero a l = ap (λ (x : Bool). cond (x && true) (Some 0) (option_map (λ n. n + 1) (number_of (to_name k ∷ []) (map (λ q. to_member k ∷ q) (places d) ++ member_places ms)))) (step_itself (to_name k))
  member_stands (member k d ms) (suc i) a l =
      let qs = places d in
      let ys = member_places ms in
      let h = to_member k in
      let size = length-append (map (λ p. h ∷ p) qs) ys in
      let block = length-map qs (λ p. h ∷ p) in
      let all = map (λ q. h ∷ q) qs ++ ys in
      ⊎_elim
      (λ (w : i < length qs).
      let e = at_block h qs ys i w in
      found_next _ _ i (ap (λ (p : Place). same_place p (to_name k ∷ [])) e)
      (ap (λ (p : Place). number_of p all) e ∙ in_block h (get_or qs i []) qs ys (no_member k (get_or qs i []) ms a.0) ∙ stands_at d i a.1 w))
      (λ (w : length qs ≤ i).
      let j = i - length qs in
      let there : j < length ys = omega (arith, size, block) in
      let begins = member_begins k ms j a.0 there in
      let e = past_block h qs ys i w in
      found_next _ _ i (ap (λ (p : Place). same_place p (to_name k ∷ [])) e ∙ differs_as (to_name k) (get_or ys j []) [] begins.name)
      (ap (λ (p : Place). number_of p all) e ∙ after_block h (get_or ys j []) qs ys (λ q. differs_as h (get_or ys j []) q begins.value)
      ∙ sum_is (length qs) j i _ (member_stands ms j a.2 there) (omega arith)))
      (cases_lt i (length qs))
