-- The pointer of a path is cut into segments, each of which names its step.
use Rattle.std.proofs.Common.{◌≡◌, ◌≢◌, ◌<◌, ◌==◌, ℕ, zero, suc, Bool, true, false, List, [], ◌∷◌, ◌++◌, Option, Some, None, inl, inr}
use Rattle.std.proofs.Common.{length, get_or, option_and_then, option_map, refl, sym, ap, ◌∙◌, arith, ne_eqb, append-nil, decimal}
use Rattle.std.specs.Prelude.{◌&&◌, ◌^◌, if◌then◌else◌, nat_lt}
use Rattle.std.specs.Char.{is_ascii_digit}
use Rattle.std.specs.List.{All, slice_split}
use Rattle.std.specs.Str.{all_ascii_digits}
use Rattle.std.specs.Str.Parse.{digits_value}
use Rattle.std.proofs.lemmas.Bool.{lt-ltb}
use Rattle.std.proofs.lemmas.Bool.Decides.{eqb_tells}
use Rattle.std.proofs.lemmas.Fmt.{decimal_digit, decimal_nonempty, digits_decimal, digits_value-decimal, first_decimal}
use Rattle.std.proofs.lemmas.List.Elements.{All-append, All-cons}
use Rattle.std.proofs.lemmas.List.Splits.{slice_split_at, slice_split_none}
use Rattle.std.proofs.lemmas.Str.Parse.{tells_all_ascii_digits}
use Rattle.serde_json.specs.Data.{Data, array, object}
use Rattle.serde_json.specs.Find.{unescape}
use Rattle.theory_definitions.specs.Instance.{Place, Step, Subject, Text, a_name, a_value, after_step, member_of, subject_at, subject_from}
use Rattle.theory_definitions.specs.Instance.{to_item, to_member, to_name}
use Rattle.theory_definitions.specs.Pointer.{escaped, pointer_to, step_text}
use Rattle.standard_subschemas.specs.SubschemaRules.{data_of}
use Rattle.standard_subschemas.specs.DocumentPointers.{index_named, is_index, path_named, path_of_pointer, step_named}
use Rattle.standard_subschemas.specs.DocumentPointersLead.{FitsWord, HasIndexes}
use Rattle.standard_subschemas.proofs.Indexes.{digits}

-- ---- names

unescape_plain : (x : ℕ) (rest : List ℕ) → x ≢ 126 → unescape (x ∷ rest) ≡ x ∷ unescape rest
unfolding unescape
unescape_plain x [] h = refl
unescape_plain x (y ∷ rest) h = rw (ne_eqb x 126 h)

unescape_slash : (rest : List ℕ) → unescape (126 ∷ 49 ∷ rest) ≡ 47 ∷ unescape rest
unfolding unescape
unescape_slash rest = refl

unescape_tilde : (rest : List ℕ) → unescape (126 ∷ 48 ∷ rest) ≡ 126 ∷ unescape rest
unfolding unescape
unescape_tilde rest = refl

unescape_empty : unescape [] ≡ []
unfolding unescape
unescape_empty = refl

abbrev slash : ℕ → Bool
slash b = b == 47

abbrev NoSlash : List ℕ → Type 0
NoSlash = All (λ b. slash b ≡ false)

-- how one byte of a name is written
abbrev written : ℕ → List ℕ
written x = if x == 126 then 126 ∷ 48 ∷ [] else (if x == 47 then 126 ∷ 49 ∷ [] else x ∷ [])

read_one : (x : ℕ) (rest : List ℕ) → unescape (written x ++ rest) ≡ x ∷ unescape rest
read_one x rest = elim (eqb_tells x 126) [
  | inl t ↦ rw t.0 (unescape_tilde rest ∙ ap (λ y. y ∷ unescape rest) (sym t.1))
  | inr f ↦ elim (eqb_tells x 47) [
    | inl s ↦ rw (f.0, s.0) (unescape_slash rest ∙ ap (λ y. y ∷ unescape rest) (sym s.1))
    | inr g ↦ rw (f.0, g.0) (unescape_plain x rest f.1)
  ]
]

-- decoding an escaped name yields the name
read_again : (k : Text) → unescape (escaped k) ≡ k
read_again [] = unescape_empty
read_again (x ∷ xs) = read_one x (escaped xs) ∙ ap (λ l. x ∷ l) (read_again xs)

nothing_slash : NoSlash []
nothing_slash k d h = absurd (omega arith)

one_slash : (x : ℕ) → slash x ≡ false → NoSlash (x ∷ [])
one_slash x h = All-cons (λ b. slash b ≡ false) x [] h nothing_slash

two_slash : (x y : ℕ) → slash x ≡ false → slash y ≡ false → NoSlash (x ∷ y ∷ [])
two_slash x y h g = All-cons (λ b. slash b ≡ false) x (y ∷ []) h (one_slash y g)

written_slash : (x : ℕ) → NoSlash (written x)
written_slash x = elim (eqb_tells x 126) [
  | inl t ↦ rw t.0 (two_slash 126 48 refl refl)
  | inr f ↦ elim (eqb_tells x 47) [
    | inl s ↦ rw (f.0, s.0) (two_slash 126 49 refl refl)
    | inr g ↦ rw (f.0, g.0) (one_slash x g.0)
  ]
]

escaped_slash : (k : Text) → NoSlash (escaped k)
escaped_slash [] = nothing_slash
escaped_slash (x ∷ xs) = All-append (λ b. slash b ≡ false) (written x) (escaped xs) (written_slash x) (escaped_slash xs)

-- ---- indexes

digits_slash : (ds : List ℕ) → all_ascii_digits ds ≡ true → NoSlash ds
digits_slash [] h = nothing_slash
digits_slash (c ∷ cs) h =
    let both = tells_all_ascii_digits.parts c cs h in
    All-cons (λ b. slash b ≡ false) c cs (ne_eqb c 47 (λ e. omega (arith, both.0.0))) (digits_slash cs both.1)

one_digit : (b : Bool) → (b && true) ≡ true → b ≡ true
one_digit true h = refl
one_digit false h = h

index_from : (t : Text) → 0 < length t → all_ascii_digits t ≡ true → (get_or t 0 0 ≡ 48 → length t ≡ 1) → is_index t ≡ true
index_from [] some h lead = absurd (omega arith)
index_from (x ∷ []) some h lead = one_digit (is_ascii_digit x) h
index_from (x ∷ y ∷ xs) some h lead = rw (ne_eqb x 48 (λ e. absurd (omega (arith, lead e)))) h

leading : (n : ℕ) → n < 2 ^ 64 → get_or (decimal n) 0 0 ≡ 48 → length (decimal n) ≡ 1
leading zero small e = ap length (decimal_digit 0 (omega arith))
leading (suc m) small e = absurd (omega (arith, first_decimal (suc m) (omega arith) small))

index_again : (n : ℕ) → n < 2 ^ 64 → index_named (decimal n) ≡ Some n
index_again n small =
    let is : is_index (decimal n) ≡ true = index_from (decimal n) (decimal_nonempty n small) (digits_decimal digits n small)
    (leading n small) in
    let value : digits_value 10 (decimal n) ≡ n = digits_value-decimal digits n small in
    let fits : nat_lt n (2 ^ 64) ≡ true = lt-ltb n (2 ^ 64) small in
    rw (is, value, fits)

-- ---- steps

abbrev segment : Step → Text
segment (to_member k) = escaped k
segment (to_item n) = decimal n
segment (to_name k) = []

no_name_of : (k : Text) (o : Option Data) (below : Data) → data_of (option_and_then (λ d. Some (a_name k)) o) ≡ Some below → ⊥
no_name_of k None below e = cc
no_name_of k (Some d) below e = cc

no_name : (k : Text) (d below : Data) → data_of (after_step (to_name k) (a_value d)) ≡ Some below → ⊥
no_name k (object ms) below e = no_name_of k (member_of k ms) below e
no_name k d below e = cc

named_by : (s : Step) (d below : Data) → FitsWord s → data_of (after_step s (a_value d)) ≡ Some below → step_named (segment s) d ≡ Some s
named_by (to_member k) (object ms) below f e = ap (λ t. Some (to_member t)) (read_again k)
named_by (to_item n) (array ds) below f e = ap (option_map to_item) (index_again n f)
named_by (to_name k) (object ms) below f e = absurd (no_name k (object ms) below e)
named_by s d below f e = absurd (let no : ⊥ = cc in no)

-- the text of a step is a slash and a segment without slashes
abbrev Plain : Step → Type 0
Plain s = NoSlash (segment s) × (step_text s ≡ 47 ∷ segment s)

abbrev Plains : Place → Type 0
Plains [] = Unit {0}
Plains (s ∷ p) = Plain s × Plains p

plain : (s : Step) (d below : Data) → FitsWord s → data_of (after_step s (a_value d)) ≡ Some below → Plain s
plain (to_member k) d below f e = (escaped_slash k, refl)
plain (to_item n) d below f e = (digits_slash (decimal n) (digits_decimal digits n f), refl)
plain (to_name k) d below f e = absurd (no_name k d below e)

-- ---- paths

abbrev segments : Place → List Text
segments [] = []
segments (s ∷ p) = segment s ∷ segments p

cut : (s : Step) (p : Place) → Plain s → Plains p → slice_split slash (segment s ++ pointer_to p) ≡ segment s ∷ segments p
cut s [] h hs = ap (slice_split slash) (append-nil (segment s)) ∙ slice_split_none slash (segment s) h.0
cut s (next ∷ p) h hs = ap (λ t. slice_split slash (segment s ++ (t ++ pointer_to p))) hs.0.1
    ∙ slice_split_at slash (segment s) 47 (segment next ++ pointer_to p) h.0 refl
    ∙ ap (λ l. segment s ∷ l) (cut next p hs.0 hs.1)

names_end : (p : Place) (k : Text) (v : Data) → data_of (subject_from p (a_name k)) ≡ Some v → ⊥
names_end [] k v e = cc
names_end (s ∷ p) k v e = cc

abbrev Named : Place → Data → Type 0
Named p d = Plains p × (path_named (segments p) d ≡ Some p)

walk_on : (s : Step) (p : Place) (d v : Data) (o : Option Subject) → FitsWord s → after_step s (a_value d) ≡ o
    → data_of (option_and_then (subject_from p) o) ≡ Some v
    → ((below : Data) → data_of (subject_from p (a_value below)) ≡ Some v → Named p below) → Named (s ∷ p) d
walk_on s p d v None f is e later = absurd (let no : ⊥ = cc in no)
walk_on s p d v (Some (a_name k)) f is e later = absurd (names_end p k v e)
walk_on s p d v (Some (a_value below)) f is e later =
    let step : data_of (after_step s (a_value d)) ≡ Some below = ap data_of is in
    let named = named_by s d below f step in
    let rest = later below e in
    ((plain s d below f step, rest.0), rw (named, step, rest.1))

walk : (p : Place) (d v : Data) → HasIndexes p → data_of (subject_from p (a_value d)) ≡ Some v → Named p d
walk [] d v h e = (tt, refl)
walk (s ∷ p) d v h e = walk_on s p d v (after_step s (a_value d)) h.0 refl e (λ below. walk p below v h.1)

pub lead : (document : Data) (path : Place) (value : Data) → HasIndexes path → data_of (subject_at document path) ≡ Some value
    → path_of_pointer (pointer_to path) document ≡ Some path
lead document [] value h e = refl
lead document (s ∷ p) value h e =
    let w = walk (s ∷ p) document value h e in
    ap (λ t. path_of_pointer (t ++ pointer_to p) document) w.0.0.1 ∙ ap (λ ts. path_named ts document) (cut s p w.0.0 w.0.1) ∙ w.1
