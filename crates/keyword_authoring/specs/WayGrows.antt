-- Which keywords are monotone, by their kinds: one more accepted question never turns such a
-- keyword from accepting to refusing. A keyword that reports its own errors or requests a match
-- gets no answers, and one that passes on accepts if all of them accept. A keyword that judges is
-- monotone if it still accepts with one more accepted question, whenever it accepts. A keyword that
-- branches is not monotone in general, since its first answer chooses what is asked.
use Rattle.std.proofs.Common.{◌≡◌, ◌∙◌, ℕ, zero, suc, ◌≤◌, ◌<◌, ◌&&◌, ◌∷◌, [], List, None, Bool, true, false, ap, arith, inl, inr, map, min, nat_le, refl, subst, sym}
use Rattle.std.proofs.Math.Nat.{eq-or-lt_of_le, le-min, min-le_left, min-le_right}
use Rattle.std.proofs.lemmas.Bool.{lt-leb}
use Rattle.std.specs.List.{list_all}
use Rattle.theory_definitions.specs.Instance.{Subject, Text}
use Rattle.theory_definitions.specs.Matching.{Matching}
use Rattle.theory_definitions.specs.Keywords.{Question}
use Rattle.schema_reports.specs.ReportViews.{spoken}
use Rattle.theory_meaning.specs.Greatest.{IsMonotone}
use Rattle.schema_traits.specs.KeywordViews.{is_nil}
use Rattle.keyword_authoring.specs.declared.planned.Plan.{Plan}
use Rattle.keyword_authoring.specs.declared.planned.Plan.TheVariants.{AtLeast, Holds, PassesOn, Within}
use Rattle.keyword_authoring.specs.OwnWays.{judge_ways, leaf_ways, own_words, spoken_way, spoken_ways, telling_ways}
use Rattle.keyword_authoring.specs.Plans.{asks_count, asks_of, plan_says_monotone, plan_ways, wanting_way, way_by}
use Rattle.keyword_authoring.specs.Somes.{somes}
use Rattle.keyword_authoring.specs.Tallies.{counted, yes_count}
use Rattle.keyword_authoring.specs.Ways.{Way, asks_match, branches, judges, passes_on, passes_some, tells, unless, way_holds}
use Rattle.keyword_authoring.specs.WayWords.{words_of}

-- whatever the first answers accept, the second accept too
abbrev pub SaysYesWhere : (Question → Bool) → (Question → Bool) → Type 0
SaysYesWhere a b = (q : Question) → a q ≡ true → b q ≡ true

-- a kind that is monotone
abbrev pub Grows : Way → Type 0
Grows w = (matching : Matching) (a b : Question → Bool) → SaysYesWhere a b → way_holds w matching a ≡ true → way_holds w matching b ≡ true

-- whether the second is true if the first is
abbrev pub stays : Bool → Bool → Bool
stays true b = b
stays false b = true

-- whether no `true` is followed by `false`, up to a number
abbrev pub never_falls : (ℕ → Bool) → ℕ → Bool
never_falls f zero = true
never_falls f (suc n) = never_falls f n && stays (f n) (f (suc n))

-- whether a kind is monotone whatever its questions are
abbrev pub way_says_monotone : Way → Bool
way_says_monotone (tells name ts) = true
way_says_monotone (passes_on qs) = true
way_says_monotone (passes_some os) = true
way_says_monotone (judges t qs) = never_falls (λ n. is_nil (t.told n)) t.enough
way_says_monotone (branches q one other) = false
way_says_monotone (asks_match name a text) = true

-- ---- all of them accept

both_stay : (a b c d : Bool) → (a ≡ true → b ≡ true) → (c ≡ true → d ≡ true) → (a && c) ≡ true → (b && d) ≡ true
both_stay true b c d first rest h = ap (λ x. x && d) (first refl) ∙ rest h
both_stay false b c d first rest h = cc

all_stay : (a b : Question → Bool) → SaysYesWhere a b → (qs : List Question) → list_all a qs ≡ true → list_all b qs ≡ true
all_stay a b where_yes [] h = h
all_stay a b where_yes (q ∷ qs) h = both_stay (a q) (b q) (list_all a qs) (list_all b qs) (where_yes q) (all_stay a b where_yes qs) h

-- ---- this many accept

counts_stay : (x y : Bool) (m n : ℕ) → (x ≡ true → y ≡ true) → m ≤ n → counted x m ≤ counted y n
counts_stay true true m n h le = omega arith
counts_stay true false m n h le = absurd (cc (h refl))
counts_stay false true m n h le = omega arith
counts_stay false false m n h le = le

no_fewer : (a b : Question → Bool) → SaysYesWhere a b → (qs : List Question) → yes_count a qs ≤ yes_count b qs
no_fewer a b where_yes [] = omega arith
no_fewer a b where_yes (q ∷ qs) = counts_stay (a q) (b q) (yes_count a qs) (yes_count b qs) (where_yes q) (no_fewer a b where_yes qs)

second_stays : (x y : Bool) → x ≡ true → stays x y ≡ true → y ≡ true
second_stays true y h s = s
second_stays false y h s = cc

both_true : (x y : Bool) → (x && y) ≡ true → (x ≡ true) × (y ≡ true)
both_true true y h = (refl, h)
both_true false y h = cc

-- what is yes at a number is yes at each later one, up to the last
stays_yes : (f : ℕ → Bool) (last x y : ℕ) → never_falls f last ≡ true → x ≤ y → y ≤ last → f x ≡ true → f y ≡ true
stays_yes f zero x y falls le below h = subst (λ k. f k ≡ true) (omega arith) h
stays_yes f (suc n) x y falls le below h = elim (eq-or-lt_of_le le) [
  | inl same ↦ subst (λ k. f k ≡ true) same h
  | inr less ↦ elim (eq-or-lt_of_le below) [
    | inl last ↦ subst (λ k. f k ≡ true) (sym last)
        (second_stays (f n) (f (suc n)) (stays_yes f n x n (both_true (never_falls f n) _ falls).0 (omega arith) (omega arith) h) (both_true (never_falls f n) _ falls).1)
    | inr further ↦ stays_yes f n x y (both_true (never_falls f n) _ falls).0 le (omega arith) h
  ]
]

-- if it is `false` at each number below the last, then no `true` is followed by `false`
stays_where_no : (x y : Bool) → x ≡ false → stays x y ≡ true
stays_where_no true y h = cc
stays_where_no false y h = refl

no_before : (f : ℕ → Bool) (last : ℕ) → ((n : ℕ) → n < last → f n ≡ false) → never_falls f last ≡ true
no_before f zero h = refl
no_before f (suc n) h =
    ap (λ x. x && stays (f n) (f (suc n))) (no_before f n (λ k less. h k (omega arith))) ∙ stays_where_no (f n) (f (suc n)) (h n (omega arith))

-- ---- each kind

pub way_grows : (w : Way) → way_says_monotone w ≡ true → Grows w
way_grows (tells name ts) says matching a b where_yes h = h
way_grows (passes_on qs) says matching a b where_yes h = all_stay a b where_yes qs h
way_grows (passes_some os) says matching a b where_yes h = all_stay a b where_yes (somes os) h
way_grows (judges t qs) says matching a b where_yes h =
    let fewer : yes_count a qs ≤ yes_count b qs = no_fewer a b where_yes qs in
    let left : min t.enough (yes_count a qs) ≤ t.enough = min-le_left t.enough (yes_count a qs) in
    let right : min t.enough (yes_count a qs) ≤ yes_count a qs = min-le_right t.enough (yes_count a qs) in
    stays_yes (λ n. is_nil (t.told n)) t.enough (min t.enough (yes_count a qs)) (min t.enough (yes_count b qs)) says
    (le-min left (omega arith)) (min-le_left t.enough (yes_count b qs)) h
way_grows (branches q one other) says matching a b where_yes h = cc
way_grows (asks_match name p text) says matching a b where_yes h = h

-- keywords of kinds that are monotone are monotone
pub ways_grow : {M : Type 0} (way : Bool → M → Subject → Way) (texts : Bool) (m : M) → ((s : Subject) → Grows (way texts m s)) → IsMonotone (words_of way texts) m
ways_grow way texts m grows = record { untold = refl; grows = λ s matches a b where_yes h. grows s matches a b where_yes h }

-- ---- an author's own

as_long : (f : Text → Text) (ts : List Text) → is_nil (map f ts) ≡ is_nil ts
as_long f [] = refl
as_long f (t ∷ ts) = refl

-- the verdict is the same whether texts are covered or not
spoken_holds : (texts : Bool) (w : Way) (matching : Matching) (a : Question → Bool) → way_holds (spoken_way texts w) matching a ≡ way_holds w matching a
spoken_holds texts (tells name ts) matching a = as_long (spoken texts) ts
spoken_holds texts (passes_on qs) matching a = refl
spoken_holds texts (passes_some os) matching a = refl
spoken_holds texts (judges t qs) matching a = as_long (spoken texts) (t.told (min t.enough (yes_count a qs)))
spoken_holds texts (branches q one other) matching a = refl
spoken_holds texts (asks_match name p text) matching a = refl

module _ {M : Type 0} (way : M → Subject → Way) (says : M → Bool) where
  -- each keyword that declares that it is monotone is of a monotone kind for each instance
  abbrev pub EachGrows : Type 0
  EachGrows = (m : M) (s : Subject) → says m ≡ true → Grows (way m s)

  pub own_grow : EachGrows → (texts : Bool) (m : M) → says m ≡ true → IsMonotone (own_words way texts) m
  own_grow grows texts m h = ways_grow (spoken_ways way) texts m
      (λ s matching a b where_yes holds. spoken_holds texts (way m s) matching b ∙ grows m s h matching a b where_yes (sym (spoken_holds texts (way m s) matching a) ∙ holds))

-- a keyword that asks nothing is monotone
pub leaves_grow : {M : Type 0} (called : M → Text) (accepts : M → Subject → Bool) (error_text : M → Subject → Text) → EachGrows (leaf_ways called accepts error_text) (λ m. true)
leaves_grow called accepts error_text m s h = way_grows (leaf_ways called accepts error_text m s) refl

pub tellings_grow : {M : Type 0} (called : M → Text) (error_texts : M → Subject → List Text) → EachGrows (telling_ways called error_texts) (λ m. true)
tellings_grow called error_texts m s h = way_grows (telling_ways called error_texts m s) refl

-- a keyword that requires at least this many refuses fewer
refuses_fewer : (text : ℕ → Text) (least n : ℕ) → n < least → is_nil (unless (nat_le least n) (text n)) ≡ false
refuses_fewer text least n less = ap (λ b. is_nil (unless b (text n))) (lt-leb least n less)

-- each plan that says that it is monotone is monotone
plan_grows : (name : Text) (text : ℕ → Text) (s : Subject) (p : Plan) → plan_says_monotone p ≡ true → Grows (way_by name text s p)
plan_grows name text s (Holds holds) says = way_grows (way_by name text s (Holds holds)) refl
plan_grows name text s (PassesOn asks) says = way_grows (passes_on (asks_of asks s)) refl
plan_grows name text s (AtLeast asks least) says = way_grows (wanting_way name text least None (asks_count asks s) (asks_of asks s))
    (no_before (λ n. is_nil (unless (nat_le least n) (text n))) least (refuses_fewer text least))
plan_grows name text s (Within asks least most) says = absurd (cc says)

-- each keyword that declares that it is monotone has monotone plans
abbrev pub PlansGrow : {M : Type 0} → (M → Subject → Plan) → (M → Bool) → Type 0
PlansGrow {M} plan says = (m : M) (s : Subject) → says m ≡ true → plan_says_monotone (plan m s) ≡ true

pub plans_grow : {M : Type 0} (plan : M → Subject → Plan) (name : M → Text) (text : M → Subject → ℕ → Text) (says : M → Bool) → PlansGrow plan says
    → EachGrows (plan_ways plan name text) says
plans_grow plan name text says grows m s h = plan_grows (name m) (text m s) s (plan m s) (grows m s h)

-- there is no text exactly if the keyword accepts
pub is_told : (b : Bool) (text : Text) → is_nil (unless b text) ≡ b
is_told true text = refl
is_told false text = refl

same_falls : (f g : ℕ → Bool) → ((n : ℕ) → f n ≡ g n) → (n : ℕ) → never_falls f n ≡ never_falls g n
same_falls f g same zero = refl
same_falls f g same (suc n) = ap (λ x. x && stays (f n) (f (suc n))) (same_falls f g same n)
    ∙ (ap (λ x. never_falls g n && stays x (f (suc n))) (same n) ∙ ap (λ x. never_falls g n && stays (g n) x) (same (suc n)))

module _ {M : Type 0} (called : M → Text) (enough : M → ℕ) (shows : M → Bool) (accepts : M → Subject → ℕ → Bool) (error_text : M → Subject → ℕ → Text)
    (question : M → ℕ → Question) (count : M → Subject → ℕ) (says : M → Bool) where
  -- a keyword that judges is monotone if no number at which it accepts is followed by one at which
  -- it refuses, up to `enough`
  pub judges_grow : ((m : M) (s : Subject) → says m ≡ true → never_falls (accepts m s) (enough m) ≡ true)
      → EachGrows (judge_ways called enough shows accepts error_text question count) says
  judges_grow stays_so m s h = way_grows (judge_ways called enough shows accepts error_text question count m s)
      (same_falls (λ n. is_nil (unless (accepts m s n) (error_text m s n))) (accepts m s) (λ n. is_told (accepts m s n) (error_text m s n)) (enough m) ∙ stays_so m s h)
