-- `contains` means what its definition says.
use Rattle.std.proofs.Common.{◌≡◌, ◌∙◌, ◌↔◌, ℕ, zero, suc, ◌+◌, ◌≤◌, ◌++◌, ◌∷◌, [], List, Bool, true, false, Option, Some, None, ap, arith, inl, inr, map, min, nat_le, nat_lt, refl, subst, sym}
use Rattle.std.proofs.Math.Nat.{le-min, min-le_right, min-eq_right}
use Rattle.std.proofs.lemmas.Bool.{le-leb, leb-true, lt-leb, cases_lt}
use Rattle.std.specs.Prelude.{codes, if◌then◌else◌}
use Rattle.theory_definitions.specs.Instance.{Subject, Text}
use Rattle.theory_definitions.specs.Keywords.{Answers, Fault, Question}
use Rattle.theory_definitions.specs.Matching.{Matching}
use Rattle.schema_reports.specs.ReportViews.{spoken}
use Rattle.keyword_authoring.specs.Items.{each_from, item_count}
use Rattle.keyword_authoring.specs.OwnWays.{spoken_way}
use Rattle.keyword_authoring.specs.Plans.{enough_of, is_wanted, wanting_way, way_by}
use Rattle.keyword_authoring.specs.Tallies.{counted, yes_count}
use Rattle.keyword_authoring.specs.Ways.{Way, way_faults, way_holds}
use Rattle.keyword_authoring.specs.declared.planned.Plan.TheVariants.{Holds}
use Rattle.standard_applicators.specs.Containing.{fewer_than, how_many, more_than, rest_of, wanted}
use Rattle.standard_applicators.specs.FittingItems.{IsAtMost, SoManyFit, how_many_fit}
use Rattle.standard_applicators.specs.Meanings.{at_items, schema_at, verdict_in}
use Rattle.standard_applicators.specs.OwnErrors.{OneUnless, own_error}
use Rattle.standard_applicators.proofs.Meant.{nil_unless, one_unless}

-- ---- the number of answers that are yes

one_counted : (b : Bool) (vs : List Bool) → counted b (how_many_fit vs) ≡ how_many_fit (b ∷ vs)
one_counted true vs = omega arith
one_counted false vs = refl

pub yes_fit : (accepts : Question → Bool) (qs : List Question) → yes_count accepts qs ≡ how_many_fit (map accepts qs)
yes_fit accepts [] = refl
yes_fit accepts (q ∷ qs) = ap (counted (accepts q)) (yes_fit accepts qs) ∙ one_counted (accepts q) (map accepts qs)

counted_within : (b : Bool) (m n : ℕ) → m ≤ n → counted b m ≤ suc n
counted_within true m n h = omega arith
counted_within false m n h = omega arith

pub yes_within : (accepts : Question → Bool) (f : ℕ → Question) (i n : ℕ) → yes_count accepts (each_from f i n) ≤ n
yes_within accepts f i zero = omega arith
yes_within accepts f i (suc n) = counted_within (accepts (f i)) (yes_count accepts (each_from f (i + 1) n)) n (yes_within accepts f (i + 1) n)

-- ---- whether that number is within the limits

-- A run stops when it has heard enough answers that are yes: so many it has heard then, if `met` of
-- `count` answers are yes.
abbrev heard : ℕ → Option ℕ → ℕ → ℕ → ℕ
heard least most count met = min (enough_of least most count) met

is_least : (least n : ℕ) → (nat_le least n ≡ true) ↔ (least ≤ n)
is_least least n = (leb-true least n, le-leb least n)

both_wanted : (b : Bool) (least n : ℕ) → (if b then nat_le least n else false) ≡ true → (b ≡ true) × (least ≤ n)
both_wanted true least n h = (refl, leb-true least n h)
both_wanted false least n h = cc

wanted_both : (b : Bool) (least n : ℕ) → b ≡ true → least ≤ n → (if b then nat_le least n else false) ≡ true
wanted_both true least n h le = le-leb least n le
wanted_both false least n h le = cc

pub wanted_fits : (least : ℕ) (most : Option ℕ) (count met : ℕ) → met ≤ count → (is_wanted least most (heard least most count met) ≡ true) ↔ ((least ≤ met) × IsAtMost most met)
wanted_fits least None count met within = (
  (λ h. (omega (arith, leb-true least (min least met) h, min-le_right least met), tt)),
  (λ h. le-leb least (min least met) (le-min (omega arith) h.0)),
)
wanted_fits least (Some most) count met within = (
  (λ h. let parts = both_wanted (nat_le (heard least (Some most) count met) most) least (heard least (Some most) count met) h in
      let under : heard least (Some most) count met ≤ most = leb-true _ most parts.0 in
      (omega (arith, parts.1, min-le_right (enough_of least (Some most) count) met), all_under most count met within under)),
  (λ h. let same : heard least (Some most) count met ≡ met = min-eq_right (le-min (omega (arith, h.1)) within) in
      subst (λ n. is_wanted least (Some most) n ≡ true) (sym same) (wanted_both (nat_le met most) least met (le-leb met most h.1) h.0)),
)
  where
    all_under : (most count met : ℕ) → met ≤ count → min (min (most + 1) count) met ≤ most → met ≤ most
    all_under most count met within under = elim (cases_lt most met) [
      | inl over ↦
          let more : most + 1 ≤ min (min (most + 1) count) met = le-min (le-min (omega arith) (omega (arith, over, within))) (omega (arith, over)) in
          absurd (omega (arith, more, under))
      | inr fits ↦ fits
    ]

pub many_fit : (least : ℕ) (most : Option ℕ) (count met : ℕ) (verdicts : List Bool) → met ≤ count → met ≡ how_many_fit verdicts
    → (is_wanted least most (heard least most count met) ≡ true) ↔ SoManyFit least most verdicts
many_fit least most count met verdicts within is = (
  (λ h. let fits = (wanted_fits least most count met within).0 h in record {
    enough = subst (λ n. least ≤ n) is fits.0;
    not_too_many = subst (IsAtMost most) is fits.1;
  }),
  (λ h. (wanted_fits least most count met within).1 (subst (λ n. least ≤ n) (sym is) h.enough, subst (IsAtMost most) (sym is) h.not_too_many)),
)

-- ---- the beginning of its error's text

same_over : (least most count met : ℕ) → met ≤ count → nat_lt most (heard least (Some most) count met) ≡ nat_lt most met
same_over least most count met within = elim (cases_lt most met) [
  | inl over ↦ le-leb (suc most) (heard least (Some most) count met) (le-min (le-min (omega arith) (omega (arith, over, within))) (omega (arith, over)))
      ∙ sym (le-leb (suc most) met (omega (arith, over)))
  | inr fits ↦ lt-leb (suc most) (heard least (Some most) count met) (omega (arith, fits, min-le_right (min (most + 1) count) met))
      ∙ sym (lt-leb (suc most) met (omega (arith, fits)))
]

pub same_beginning : (least : ℕ) (most : Option ℕ) (count met : ℕ) → met ≤ count → how_many least most (heard least most count met) ≡ how_many least most met
same_beginning least None count met within = refl
same_beginning least (Some most) count met within = ap (λ b. if b then more_than most else fewer_than least) (same_over least most count met within)

-- ---- the keyword

module _ (texts : Bool) (s : Subject) (matches : Matching) (text : ℕ → Text) (least : ℕ) (most : Option ℕ) where
  abbrev asked : List Question
  asked = at_items 0 (item_count s)

  abbrev judging : Way
  judging = spoken_way texts (wanting_way (codes "contains") text least most (item_count s) asked)

  judged_hold : (accepts : Question → Bool) → (way_holds judging matches accepts ≡ true) ↔ SoManyFit least most (map accepts asked)
  judged_hold accepts =
      let met : ℕ = yes_count accepts asked in
      let tells = nil_unless (spoken texts) (is_wanted least most (heard least most (item_count s) met)) (text (heard least most (item_count s) met)) in
      let fits = many_fit least most (item_count s) met (map accepts asked) (yes_within accepts (λ i. schema_at 0 i) 0 (item_count s)) (yes_fit accepts asked) in
      ((λ h. fits.0 (sym tells ∙ h)), (λ h. tells ∙ fits.1 h))

  judged_faults : (answers : Answers) → ((met : ℕ) → met ≤ item_count s → text (heard least most (item_count s) met) ≡ text met)
      → OneUnless (SoManyFit least most (map (verdict_in answers) asked)) (own_error (codes "contains") (spoken texts (text (how_many_fit (map (verdict_in answers) asked)))))
      (way_faults judging matches answers)
  judged_faults answers same =
      let met : ℕ = yes_count (verdict_in answers) asked in
      let within : met ≤ item_count s = yes_within (verdict_in answers) (λ i. schema_at 0 i) 0 (item_count s) in
      let fits = many_fit least most (item_count s) met (map (verdict_in answers) asked) within (yes_fit (verdict_in answers) asked) in
      subst (λ t. OneUnless (SoManyFit least most (map (verdict_in answers) asked)) (own_error (codes "contains") (spoken texts t)) (way_faults judging matches answers))
      (same met within ∙ ap text (yes_fit (verdict_in answers) asked))
      (one_unless (spoken texts) (is_wanted least most (heard least most (item_count s) met)) _ (codes "contains") (text (heard least most (item_count s) met)) fits)

module _ (texts : Bool) (s : Subject) (matches : Matching) where
  -- by whether the instance is a list
  abbrev contains_way : Bool → ℕ → Option ℕ → Way
  contains_way is least most = spoken_way texts (way_by (codes "contains") (λ n. how_many least most n ++ rest_of s) s (if is then wanted least most else Holds true))

  text_same : (least : ℕ) (most : Option ℕ) (met : ℕ) → met ≤ item_count s
      → how_many least most (heard least most (item_count s) met) ++ rest_of s ≡ how_many least most met ++ rest_of s
  text_same least most met within = ap (λ t. t ++ rest_of s) (same_beginning least most (item_count s) met within)

  pub contains_hold : (is : Bool) (least : ℕ) (most : Option ℕ) (accepts : Question → Bool)
      → (way_holds (contains_way is least most) matches accepts ≡ true) ↔ (is ≡ true → SoManyFit least most (map accepts (at_items 0 (item_count s))))
  contains_hold false least most accepts = ((λ h e. absurd (cc e)), (λ h. refl))
  contains_hold true least None accepts = let so = judged_hold texts s matches (λ n. how_many least None n ++ rest_of s) least None accepts in
      ((λ h e. so.0 h), (λ h. so.1 (h refl)))
  contains_hold true least (Some most) accepts = let so = judged_hold texts s matches (λ n. how_many least (Some most) n ++ rest_of s) least (Some most) accepts in
      ((λ h e. so.0 h), (λ h. so.1 (h refl)))

  where_list : (Means : Type 0) (error : Fault) (fs : List Fault) → OneUnless Means error fs → OneUnless (true ≡ true → Means) error fs
  where_list Means error fs h = record { none = λ holds. h.none (holds refl); one = λ refuses. h.one (λ holds. refuses (λ e. holds)) }

  pub contains_faults : (is : Bool) (least : ℕ) (most : Option ℕ) (answers : Answers)
      → OneUnless (is ≡ true → SoManyFit least most (map (verdict_in answers) (at_items 0 (item_count s))))
      (own_error (codes "contains") (spoken texts (how_many least most (how_many_fit (map (verdict_in answers) (at_items 0 (item_count s)))) ++ rest_of s)))
      (way_faults (contains_way is least most) matches answers)
  contains_faults false least most answers = record { none = λ h. refl; one = λ refuses. absurd (refuses (λ e. absurd (cc e))) }
  contains_faults true least None answers = where_list _ _ _ (judged_faults texts s matches (λ n. how_many least None n ++ rest_of s) least None answers (text_same least None))
  contains_faults true least (Some most) answers =
      where_list _ _ _ (judged_faults texts s matches (λ n. how_many least (Some most) n ++ rest_of s) least (Some most) answers (text_same least (Some most)))
