-- Two places of one document that both have values are the same if their pointers are.
use Rattle.std.proofs.Common.{◌≡◌, ◌≢◌, ◌∙◌, ◌<◌, ◌^◌, ◌++◌, ◌∷◌, [], ℕ, Bool, true, false, cond, eqb, ap, arith, refl, subst, sym}
use Rattle.std.specs.Fmt.{decimal}
use Rattle.std.specs.Prelude.{None, Option, Some, option_and_then}
use Rattle.std.proofs.lemmas.Bool.{eqb-false, eqb-true}
use Rattle.std.proofs.lemmas.Fmt.{decimal_by_steps, decimal_injective}
use Rattle.serde_json.specs.Data.{Data, Items, Members, array, boolean, null, number, object, string}
use Rattle.theory_definitions.specs.Instance.{Place, Step, Text, a_name, a_value, item_of, member_of, subject_at, subject_from, to_item, to_member, to_name}
use Rattle.theory_definitions.specs.Pointer.{escaped, pointer_to}
use Rattle.schema_keys.specs.DocumentSchemas.{IndicesFit}
use Rattle.schema_keys.proofs.DocumentPlaces.{no_value_named}

-- ---- segments

NoSlash : Text → Type 0
NoSlash [] = Unit {0}
NoSlash (x ∷ xs) = (x ≢ 47) × NoSlash xs

no_slash_joined : (xs ys : Text) → NoSlash xs → NoSlash ys → NoSlash (xs ++ ys)
unfolding NoSlash
no_slash_joined [] ys h k = k
no_slash_joined (x ∷ xs) ys h k = (h.0, no_slash_joined xs ys h.1 k)

decimal_unslashed : (n : ℕ) → n < 2 ^ 64 → NoSlash (decimal n)
unfolding NoSlash
decimal_unslashed = decimal_by_steps (λ n ds. NoSlash ds) (λ n small. ((λ e. omega arith), tt)) (λ n ds large h. no_slash_joined ds _ h ((λ e. omega arith), tt))

-- how a character is escaped
data Escape (x : ℕ) (xs : Text) : Type 0 where
  a_tilde : x ≡ 126 → escaped (x ∷ xs) ≡ 126 ∷ 48 ∷ escaped xs → Escape x xs
  a_slash : x ≡ 47 → escaped (x ∷ xs) ≡ 126 ∷ 49 ∷ escaped xs → Escape x xs
  plain : x ≢ 126 → x ≢ 47 → escaped (x ∷ xs) ≡ x ∷ escaped xs → Escape x xs

escape_of : (x : ℕ) (xs : Text) → Escape x xs
escape_of x xs = go (eqb x 126) refl (eqb x 47) refl
  where
    shown : (a b : Bool) → eqb x 126 ≡ a → eqb x 47 ≡ b → escaped (x ∷ xs) ≡ cond a (126 ∷ 48 ∷ []) (cond b (126 ∷ 49 ∷ []) (x ∷ [])) ++ escaped xs
    shown a b e f = ap (λ (t : Bool). cond t (126 ∷ 48 ∷ []) (cond (eqb x 47) (126 ∷ 49 ∷ []) (x ∷ [])) ++ escaped xs) e ∙ ap (λ (t : Bool). cond a (126 ∷ 48 ∷ []) (cond t (126 ∷ 49 ∷ []) (x ∷ [])) ++ escaped xs) f

    go : (a : Bool) → eqb x 126 ≡ a → (b : Bool) → eqb x 47 ≡ b → Escape x xs
    go true e b f = a_tilde (eqb-true x 126 e) (shown true b e f)
    go false e true f = a_slash (eqb-true x 47 f) (shown false true e f)
    go false e false f = plain (eqb-false x 126 e) (eqb-false x 47 f) (shown false false e f)

escaped_unslashed : (xs : Text) → NoSlash (escaped xs)
unfolding NoSlash
escaped_unslashed [] = tt
escaped_unslashed (x ∷ xs) =
    let rest = escaped_unslashed xs in
    elim (escape_of x xs) [
      | a_tilde is e ↦ subst NoSlash (sym e) ((λ f. omega arith), ((λ f. omega arith), rest))
      | a_slash is e ↦ subst NoSlash (sym e) ((λ f. omega arith), ((λ f. omega arith), rest))
      | plain other not e ↦ subst NoSlash (sym e) (not, rest)
    ]

escaped_injective : (xs ys : Text) → escaped xs ≡ escaped ys → xs ≡ ys
escaped_injective [] [] e = refl
escaped_injective [] (y ∷ ys) e = elim (escape_of y ys) [ a_tilde is f ↦ cc | a_slash is f ↦ cc | plain other not f ↦ cc ]
escaped_injective (x ∷ xs) [] e = elim (escape_of x xs) [ a_tilde is f ↦ cc | a_slash is f ↦ cc | plain other not f ↦ cc ]
escaped_injective (x ∷ xs) (y ∷ ys) e = go (escaped_injective xs ys) (escape_of x xs) (escape_of y ys)
  where
    go : (escaped xs ≡ escaped ys → xs ≡ ys) → Escape x xs → Escape y ys → x ∷ xs ≡ y ∷ ys
    go rest (a_tilde i f) (a_tilde j g) = let same : xs ≡ ys = rest cc in cc
    go rest (a_slash i f) (a_slash j g) = let same : xs ≡ ys = rest cc in cc
    go rest (plain o n f) (plain o' n' g) = let same : xs ≡ ys = rest cc in cc
    go rest (a_tilde i f) (a_slash j g) = absurd (let no : ◌≡◌ {A = ℕ} 48 49 = cc in omega arith)
    go rest (a_slash i f) (a_tilde j g) = absurd (let no : ◌≡◌ {A = ℕ} 49 48 = cc in omega arith)
    go rest (a_tilde i f) (plain o n g) = absurd (o (let same : y ≡ 126 = cc in same))
    go rest (a_slash i f) (plain o n g) = absurd (o (let same : y ≡ 126 = cc in same))
    go rest (plain o n f) (a_tilde j g) = absurd (o (let same : x ≡ 126 = cc in same))
    go rest (plain o n f) (a_slash j g) = absurd (o (let same : x ≡ 126 = cc in same))

-- what follows a segment
data Follows (x : Text) : Type 0 where
  nothing_more : x ≡ [] → Follows x
  a_segment : (y : Text) → x ≡ 47 ∷ y → Follows x

pointer_follows : (p : Place) → Follows (pointer_to p)
pointer_follows [] = nothing_more refl
pointer_follows (to_member k ∷ p) = a_segment (escaped k ++ pointer_to p) refl
pointer_follows (to_item n ∷ p) = a_segment (decimal n ++ pointer_to p) refl
pointer_follows (to_name k ∷ p) = pointer_follows p

segments_apart : (a b x y : Text) → NoSlash a → NoSlash b → Follows x → Follows y → a ++ x ≡ b ++ y → (a ≡ b) × (x ≡ y)
unfolding NoSlash
segments_apart [] [] x y h k f g e = (refl, e)
segments_apart [] (b ∷ bs) x y h k (nothing_more is) g e = absurd (let no : ⊥ = cc in no)
segments_apart [] (b ∷ bs) x y h k (a_segment z is) g e = absurd (k.0 (let same : b ≡ 47 = cc in same))
segments_apart (a ∷ as') [] x y h k f (nothing_more is) e = absurd (let no : ⊥ = cc in no)
segments_apart (a ∷ as') [] x y h k f (a_segment z is) e = absurd (h.0 (let same : a ≡ 47 = cc in same))
segments_apart (a ∷ as') (b ∷ bs) x y h k f g e =
    let first : a ≡ b = cc in
    let rest = segments_apart as' bs x y h.1 k.1 f g (let tails : as' ++ x ≡ bs ++ y = cc in tails) in
    let named : as' ≡ bs = rest.0 in
    (cc, rest.1)

-- ---- places

-- the value after the first step, if there is a value at the end
data FirstStep (d : Data) (s : Step) (p : Place) (v : Data) : Type 0 where
  into_object : (k : Text) (ms : Members) (inner : Data) → s ≡ to_member k → d ≡ object ms → member_of k ms ≡ Some inner → subject_at inner p ≡ Some (a_value v) → FirstStep d s p v
  into_array : (n : ℕ) (ds : Items) (inner : Data) → s ≡ to_item n → d ≡ array ds → item_of n ds ≡ Some inner → subject_at inner p ≡ Some (a_value v) → FirstStep d s p v

first_step : (d : Data) (s : Step) (p : Place) (v : Data) → subject_at d (s ∷ p) ≡ Some (a_value v) → FirstStep d s p v
first_step (object ms) (to_member k) p v e = go (member_of k ms) refl e
  where
    go : (o : Option Data) → member_of k ms ≡ o → option_and_then (subject_from p) (option_and_then (λ (d : Data). Some (a_value d)) o) ≡ Some (a_value v) → FirstStep (object ms) (to_member k) p v
    go None is f = absurd (let no : ⊥ = cc in no)
    go (Some inner) is f = into_object k ms inner refl refl is f
first_step (array ds) (to_item n) p v e = go (item_of n ds) refl e
  where
    go : (o : Option Data) → item_of n ds ≡ o → option_and_then (subject_from p) (option_and_then (λ (d : Data). Some (a_value d)) o) ≡ Some (a_value v) → FirstStep (array ds) (to_item n) p v
    go None is f = absurd (let no : ⊥ = cc in no)
    go (Some inner) is f = into_array n ds inner refl refl is f
first_step (object ms) (to_name k) p v e = absurd (go (member_of k ms) e)
  where
    go : (o : Option Data) → option_and_then (subject_from p) (option_and_then (λ (d : Data). Some (a_name k)) o) ≡ Some (a_value v) → ⊥
    go None f = cc
    go (Some d) f = no_value_named p k v f
first_step (object ms) (to_item n) p v e = absurd (let no : ⊥ = cc in no)
first_step (array ds) (to_member k) p v e = absurd (let no : ⊥ = cc in no)
first_step (array ds) (to_name k) p v e = absurd (let no : ⊥ = cc in no)
first_step null (to_member k) p v e = absurd (let no : ⊥ = cc in no)
first_step null (to_item n) p v e = absurd (let no : ⊥ = cc in no)
first_step null (to_name k) p v e = absurd (let no : ⊥ = cc in no)
first_step (boolean b) (to_member k) p v e = absurd (let no : ⊥ = cc in no)
first_step (boolean b) (to_item n) p v e = absurd (let no : ⊥ = cc in no)
first_step (boolean b) (to_name k) p v e = absurd (let no : ⊥ = cc in no)
first_step (number x) (to_member k) p v e = absurd (let no : ⊥ = cc in no)
first_step (number x) (to_item n) p v e = absurd (let no : ⊥ = cc in no)
first_step (number x) (to_name k) p v e = absurd (let no : ⊥ = cc in no)
first_step (string x) (to_member k) p v e = absurd (let no : ⊥ = cc in no)
first_step (string x) (to_item n) p v e = absurd (let no : ⊥ = cc in no)
first_step (string x) (to_name k) p v e = absurd (let no : ⊥ = cc in no)

-- a first step shows in the pointer
step_shown : (d : Data) (s : Step) (p : Place) (v : Data) → FirstStep d s p v → pointer_to (s ∷ p) ≡ [] → ⊥
step_shown d s p v (into_object k ms inner is at found rest) e = let shown : pointer_to (to_member k ∷ p) ≡ [] = subst (λ (t : Step). pointer_to (t ∷ p) ≡ []) is e in let no : ⊥ = cc in no
step_shown d s p v (into_array n ds inner is at found rest) e = let shown : pointer_to (to_item n ∷ p) ≡ [] = subst (λ (t : Step). pointer_to (t ∷ p) ≡ []) is e in let no : ⊥ = cc in no

-- the first steps agree, and so do the values after them
steps_agree : (d v u : Data) (s t : Step) (p q : Place) → FirstStep d s p v → FirstStep d t q u → IndicesFit (s ∷ p) → IndicesFit (t ∷ q) → pointer_to (s ∷ p) ≡ pointer_to (t ∷ q)
    → ((inner : Data) → IndicesFit p → IndicesFit q → subject_at inner p ≡ Some (a_value v) → subject_at inner q ≡ Some (a_value u) → pointer_to p ≡ pointer_to q → p ≡ q)
    → s ∷ p ≡ t ∷ q
steps_agree d v u s t p q (into_object k ms x is at found rest) (into_object l ms' y is' at' found' rest') fit fit' e next =
    let shown : pointer_to (to_member k ∷ p) ≡ pointer_to (to_member l ∷ q) = subst (λ (r : Step). pointer_to (r ∷ p) ≡ pointer_to (to_member l ∷ q)) is (subst (λ (r : Step). pointer_to (s ∷ p) ≡ pointer_to (r ∷ q)) is' e) in
    let segments : escaped k ++ pointer_to p ≡ escaped l ++ pointer_to q = cc in
    let apart = segments_apart (escaped k) (escaped l) (pointer_to p) (pointer_to q) (escaped_unslashed k) (escaped_unslashed l) (pointer_follows p) (pointer_follows q) segments in
    let named : k ≡ l = escaped_injective k l apart.0 in
    let members : ms ≡ ms' = cc in
    let one : x ≡ y = cc in
    let rests : p ≡ q = next x (subst (λ (r : Step). IndicesFit (r ∷ p)) is fit) (subst (λ (r : Step). IndicesFit (r ∷ q)) is' fit') rest (subst (λ (z : Data). subject_at z q ≡ Some (a_value u)) (sym one) rest') apart.1 in
    let first : s ≡ t = cc in
    cc
steps_agree d v u s t p q (into_array m ds x is at found rest) (into_array n ds' y is' at' found' rest') fit fit' e next =
    let fits : (m < 2 ^ 64) × IndicesFit p = subst (λ (r : Step). IndicesFit (r ∷ p)) is fit in
    let fits' : (n < 2 ^ 64) × IndicesFit q = subst (λ (r : Step). IndicesFit (r ∷ q)) is' fit' in
    let shown : pointer_to (to_item m ∷ p) ≡ pointer_to (to_item n ∷ q) = subst (λ (r : Step). pointer_to (r ∷ p) ≡ pointer_to (to_item n ∷ q)) is (subst (λ (r : Step). pointer_to (s ∷ p) ≡ pointer_to (r ∷ q)) is' e) in
    let segments : decimal m ++ pointer_to p ≡ decimal n ++ pointer_to q = cc in
    let apart = segments_apart (decimal m) (decimal n) (pointer_to p) (pointer_to q) (decimal_unslashed m fits.0) (decimal_unslashed n fits'.0) (pointer_follows p) (pointer_follows q) segments in
    let counted : m ≡ n = decimal_injective m n fits.0 fits'.0 apart.0 in
    let items : ds ≡ ds' = cc in
    let one : x ≡ y = cc in
    let rests : p ≡ q = next x fits.1 fits'.1 rest (subst (λ (z : Data). subject_at z q ≡ Some (a_value u)) (sym one) rest') apart.1 in
    let first : s ≡ t = cc in
    cc
steps_agree d v u s t p q (into_object k ms x is at found rest) (into_array n ds y is' at' found' rest') fit fit' e next = absurd (let no : object ms ≡ array ds = sym at ∙ at' in let never : ⊥ = cc in never)
steps_agree d v u s t p q (into_array n ds y is at found rest) (into_object k ms x is' at' found' rest') fit fit' e next = absurd (let no : array ds ≡ object ms = sym at ∙ at' in let never : ⊥ = cc in never)

pub one_place : (d v u : Data) (p q : Place) → IndicesFit p → IndicesFit q → subject_at d p ≡ Some (a_value v) → subject_at d q ≡ Some (a_value u) → pointer_to p ≡ pointer_to q → p ≡ q
one_place d v u [] [] fit fit' a b e = refl
one_place d v u [] (t ∷ q) fit fit' a b e = absurd (step_shown d t q u (first_step d t q u b) (sym e))
one_place d v u (s ∷ p) [] fit fit' a b e = absurd (step_shown d s p v (first_step d s p v a) e)
one_place d v u (s ∷ p) (t ∷ q) fit fit' a b e = steps_agree d v u s t p q (first_step d s p v a) (first_step d t q u b) fit fit' e (λ inner f f' a' b' e'. one_place inner v u p q f f' a' b' e')
