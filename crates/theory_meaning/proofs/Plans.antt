-- If a run of a plan under assumptions meets only matches that are assumed, it speaks for every
-- completion that extends them.
use Rattle.std.proofs.Common.{◌≡◌, List, [], ◌∷◌, ◌++◌, refl, ap, ap₂, cond, sym, ◌∙◌, Bool, true, false, ◌&&◌, ◌||◌, map}
use Rattle.std.specs.List.{filter, list_all, list_any}
use Rattle.std.specs.Prelude.{None, if◌then◌else◌, option_map}
use Rattle.theory_definitions.specs.Instance.{Step}
use Rattle.theory_definitions.specs.Reports.{Error, Outcome, accepted, spans_nothing}
use Rattle.theory_definitions.specs.Matching.{Assumptions}
use Rattle.theory_definitions.specs.Keywords.{Mode, for_verdict, for_first, for_all, for_units}
use Rattle.theory_definitions.specs.Meaning.{both, either_spans, kept}
use Rattle.theory_definitions.specs.Runs.{Looked, Met, each_other_met, first_error, node_met, others_met, plan_met, plan_spanning}
use Rattle.theory_definitions.specs.Laws.{Agrees}
use Rattle.theory_meaning.specs.Members.{AllAssumed, SameIn, SaysAlike}
use Rattle.theory_definitions.proofs.Products.{or_left, or_right}
use Rattle.theory_meaning.proofs.SameTurns.{assumed_front, assumed_back, assumed_both}

-- ---- lists of errors

pub first_stamped : (f : Error → Error) (xs : List Error) → first_error (map f xs) ≡ option_map f (first_error xs)
first_stamped f [] = refl
first_stamped f (x ∷ xs) = refl

pub map_none : {A B : Type 0} (f : A → B) (xs : List A) → map f xs ≡ [] → xs ≡ []
map_none f [] e = refl
map_none f (x ∷ xs) e = absurd (cc e)

first_joined : (xs xs' ys ys' : List Error) → first_error xs ≡ first_error xs' → (xs ≡ [] → first_error ys ≡ first_error ys') → first_error (xs ++ ys) ≡ first_error (xs' ++ ys')
first_joined [] [] ys ys' e k = k refl
first_joined [] (x' ∷ xs') ys ys' e k = absurd (cc e)
first_joined (x ∷ xs) [] ys ys' e k = absurd (cc e)
first_joined (x ∷ xs) (x' ∷ xs') ys ys' e k = e

no_first : (xs : List Error) → None ≡ first_error xs → xs ≡ []
no_first [] e = refl
no_first (x ∷ xs) e = absurd (cc e)

and_none : (xs ys : List Error) → xs ++ ys ≡ [] → (xs ≡ []) × (ys ≡ [])
and_none [] ys e = (refl, e)
and_none (x ∷ xs) ys e = absurd (cc e)

pub agrees_both : (a b : Outcome) → Agrees a → Agrees b → Agrees (both a b)
agrees_both a b p q = (to, from)
  where
    to : (a.verdict && b.verdict) ≡ true → a.errors ++ b.errors ≡ []
    to e = by (a.verdict) refl e
      where
        by : (v : Bool) → a.verdict ≡ v → (v && b.verdict) ≡ true → a.errors ++ b.errors ≡ []
        by true is h = ap₂ (λ xs ys. xs ++ ys) (p.0 is) (q.0 h)
        by false is h = absurd (cc h)

    from : a.errors ++ b.errors ≡ [] → (a.verdict && b.verdict) ≡ true
    from e = let (x, y) = and_none a.errors b.errors e in ap₂ (λ u v. u && v) (p.1 x) (q.1 y)

-- ---- the result in a mode determines the verdict

pub same_itself_in : (mode : Mode) (o : Outcome) → SameIn mode o o
same_itself_in for_verdict o = refl
same_itself_in for_first o = refl
same_itself_in for_all o = refl
same_itself_in for_units o = refl

-- No mode sees what a plan spans.
pub same_kept : (mode : Mode) (a b : Outcome) → SameIn mode a b → SameIn mode (kept a) (kept b)
same_kept for_verdict a b e = e
same_kept for_first a b e = e
same_kept for_all a b e = e
same_kept for_units a b e = e

none_both : (a b : Outcome) → Agrees a → Agrees b → (a.errors ≡ [] → b.errors ≡ []) → (b.errors ≡ [] → a.errors ≡ []) → a.verdict ≡ b.verdict
none_both a b p q to from = by a.verdict b.verdict refl refl
  where
    by : (v u : Bool) → a.verdict ≡ v → b.verdict ≡ u → a.verdict ≡ b.verdict
    by true true e f = e ∙ sym f
    by false false e f = e ∙ sym f
    by true false e f = absurd (cc (q.1 (to (p.0 e)), f))
    by false true e f = absurd (cc (p.1 (from (q.0 f)), e))

pub settled_verdict : (mode : Mode) (a b : Outcome) → Agrees a → Agrees b → SameIn mode a b → a.verdict ≡ b.verdict
settled_verdict for_verdict a b p q e = e
settled_verdict for_first a b p q e = none_both a b p q (λ h. no_first b.errors (sym (ap first_error h) ∙ e)) (λ h. no_first a.errors (sym (ap first_error h) ∙ sym e))
settled_verdict for_all a b p q e = none_both a b p q (λ h. sym e ∙ h) (λ h. e ∙ h)
settled_verdict for_units a b p q e = e

-- ---- an entry of a plan, and a plan

module _ (as' : Assumptions) where
  -- The entry of the run has the outcome `a`, and that of the completion has the outcome `b`; they
  -- give `sa` and `sb` to what the others span. `Alike` says that the others span alike.
  pub record EntrySpeaks (Alike : Type 0) (l : Looked) (a b : Outcome) (sa sb : Step → Bool) : Type 0 where
    pub holds : l.holds ≡ a.verdict
    pub agrees_a : Agrees a
    pub agrees_b : Agrees b
    pub in_mode : (l.is_told ≡ true → Alike) → (mode : Mode) → AllAssumed as' (l.met mode) → SameIn mode a b
    pub verdict : l.is_told ≡ false → AllAssumed as' l.spanning → a.verdict ≡ b.verdict
    pub spans : (l.is_told ≡ false → AllAssumed as' l.spanning) → a.spans ≡ b.spans
    pub others : (l.is_told ≡ false → AllAssumed as' l.spanning) → sa ≡ sb

  pub data Along (Alike : Type 0) : List Looked → Outcome → Outcome → (Step → Bool) → (Step → Bool) → Type 0 where
    ends : Along Alike [] accepted accepted spans_nothing spans_nothing
    goes : {l : Looked} {ls : List Looked} {a b az bz : Outcome} {sa sb oa ob : Step → Bool} → EntrySpeaks Alike l a b sa sb → Along Alike ls az bz oa ob
        → Along Alike (l ∷ ls) (both a az) (both b bz) (either_spans sa oa) (either_spans sb ob)

  module _ (Alike : Type 0) (l : Looked) (ls : List Looked) (a b az bz : Outcome) (sa sb : Step → Bool) (s : EntrySpeaks Alike l a b sa sb) (alike : l.is_told ≡ true → Alike) where
    entry_verdict : AllAssumed as' (l.met for_verdict) → a.verdict ≡ b.verdict
    entry_verdict e = s.in_mode alike for_verdict e

    holds_none : a.verdict ≡ b.verdict → l.holds ≡ true → (a.errors ≡ []) × (b.errors ≡ [])
    holds_none e h = let t : a.verdict ≡ true = sym s.holds ∙ h in (s.agrees_a.0 t, s.agrees_b.0 (sym e ∙ t))

    then_verdict : (v : Bool) → l.holds ≡ v → (AllAssumed as' (plan_met for_verdict ls) → az.verdict ≡ bz.verdict)
        → AllAssumed as' (l.met for_verdict ++ elim v [ true ↦ plan_met for_verdict ls | false ↦ [] ]) → (a.verdict && az.verdict) ≡ (b.verdict && bz.verdict)
    then_verdict true is k e = ap₂ (λ x y. x && y) (entry_verdict (assumed_front as' _ _ e)) (k (assumed_back as' (l.met for_verdict) _ e))
    then_verdict false is k e = let p : a.verdict ≡ false = sym s.holds ∙ is in
        let q : b.verdict ≡ false = sym (entry_verdict (assumed_front as' _ _ e)) ∙ p in
        ap (λ z. z && az.verdict) p ∙ sym (ap (λ z. z && bz.verdict) q)

    then_units : (AllAssumed as' (plan_met for_units ls) → az.verdict ≡ bz.verdict) → AllAssumed as' (l.met for_units ++ plan_met for_units ls) → (a.verdict && az.verdict) ≡ (b.verdict && bz.verdict)
    then_units k e = ap₂ (λ x y. x && y) (s.in_mode alike for_units (assumed_front as' _ _ e)) (k (assumed_back as' (l.met for_units) _ e))

    holds_from_none : a.errors ≡ [] → l.holds ≡ true
    holds_from_none h = s.holds ∙ s.agrees_a.1 h

    then_first : (leaf v : Bool) → l.holds ≡ v → (AllAssumed as' (plan_met for_first ls) → first_error az.errors ≡ first_error bz.errors)
        → AllAssumed as' (elim leaf [
          | true ↦ l.met for_verdict ++ elim v [ true ↦ plan_met for_first ls | false ↦ l.met for_first ]
          | false ↦ l.met for_first ++ elim v [ true ↦ plan_met for_first ls | false ↦ [] ]
        ])
        → first_error (a.errors ++ az.errors) ≡ first_error (b.errors ++ bz.errors)
    then_first true true is k e = let (x, y) = holds_none (entry_verdict (assumed_front as' _ _ e)) is in
        first_joined a.errors b.errors az.errors bz.errors (ap first_error (x ∙ sym y)) (λ h. k (assumed_back as' (l.met for_verdict) _ e))
    then_first true false is k e = first_joined a.errors b.errors az.errors bz.errors (s.in_mode alike for_first (assumed_back as' (l.met for_verdict) _ e)) (λ h. absurd (cc (holds_from_none h, is)))
    then_first false true is k e = first_joined a.errors b.errors az.errors bz.errors (s.in_mode alike for_first (assumed_front as' _ _ e)) (λ h. k (assumed_back as' (l.met for_first) _ e))
    then_first false false is k e = first_joined a.errors b.errors az.errors bz.errors (s.in_mode alike for_first (assumed_front as' _ _ e)) (λ h. absurd (cc (holds_from_none h, is)))

    then_all : (leaf v : Bool) → l.holds ≡ v → (AllAssumed as' (plan_met for_all ls) → az.errors ≡ bz.errors)
        → AllAssumed as' (elim leaf [
          | true ↦ l.met for_verdict ++ (elim v [ true ↦ [] | false ↦ l.met for_all ] ++ plan_met for_all ls)
          | false ↦ l.met for_all ++ plan_met for_all ls
        ])
        → a.errors ++ az.errors ≡ b.errors ++ bz.errors
    then_all true true is k e = let (x, y) = holds_none (entry_verdict (assumed_front as' _ _ e)) is in
        ap₂ (λ xs ys. xs ++ ys) (x ∙ sym y) (k (assumed_back as' (l.met for_verdict) _ e))
    then_all true false is k e = let h : AllAssumed as' (l.met for_all ++ plan_met for_all ls) = assumed_back as' (l.met for_verdict) _ e in
        ap₂ (λ xs ys. xs ++ ys) (s.in_mode alike for_all (assumed_front as' _ _ h)) (k (assumed_back as' (l.met for_all) _ h))
    then_all false v is k e = ap₂ (λ xs ys. xs ++ ys) (s.in_mode alike for_all (assumed_front as' _ _ e)) (k (assumed_back as' (l.met for_all) _ e))

  -- ---- what the entries that are not told meet

  -- What an entry that is not told meets in its run for its span is among what all of them meet.
  other_front : (told : Bool) (xs ys : List Met) → AllAssumed as' ((if told then [] else xs) ++ ys) → told ≡ false → AllAssumed as' xs
  other_front true xs ys e is = absurd (cc is)
  other_front false xs ys e is = assumed_front as' xs ys e

  other_back : (told : Bool) (xs ys : List Met) → AllAssumed as' ((if told then [] else xs) ++ ys) → AllAssumed as' ys
  other_back true xs ys e = e
  other_back false xs ys e = assumed_back as' xs ys e

  abbrev Hold : List Looked → Bool
  Hold ls = list_all (λ l. l.is_told || l.holds) ls

  abbrev Told : List Looked → List Looked
  Told ls = filter (λ l. l.is_told) ls

  both_assumed : (told : Bool) (xs ys : List Met) → (told ≡ false → AllAssumed as' xs) → AllAssumed as' ys → AllAssumed as' ((if told then [] else xs) ++ ys)
  both_assumed true xs ys h k = k
  both_assumed false xs ys h k = assumed_both as' xs ys (h refl) k

  -- If the entries that are not told hold, all of them are run for their spans.
  each_met : (ls : List Looked) → Hold ls ≡ true → AllAssumed as' (others_met ls) → AllAssumed as' (each_other_met ls)
  each_met [] h e = refl
  each_met (l ∷ ls) h e = go l.is_told l.holds h e (each_met ls)
    where
      go : (told holds : Bool) → ((told || holds) && Hold ls) ≡ true → AllAssumed as' (elim told [ true ↦ others_met ls | false ↦ l.spanning ++ elim holds [ true ↦ others_met ls | false ↦ [] ] ])
          → (Hold ls ≡ true → AllAssumed as' (others_met ls) → AllAssumed as' (each_other_met ls)) → AllAssumed as' ((if told then [] else l.spanning) ++ each_other_met ls)
      go true holds h e k = k h e
      go false true h e k = assumed_both as' l.spanning (each_other_met ls) (assumed_front as' l.spanning (others_met ls) e) (k h (assumed_back as' l.spanning (others_met ls) e))
      go false false h e k = absurd (cc h)

  -- ---- what a plan says along with its run

  module _ {Alike : Type 0} where
    -- The run of a plan whose told entries know what the others span.
    plan_in_mode : {ls : List Looked} {a b : Outcome} {oa ob : Step → Bool} (mode : Mode) → (list_any (λ l. l.is_told) ls ≡ true → Alike) → Along Alike ls a b oa ob → AllAssumed as' (plan_met mode ls) → SameIn mode a b
    plan_in_mode mode alike ends e = same_itself_in mode accepted
    plan_in_mode for_verdict alike (goes {l = l} {ls = ls} {a = a} {b = b} {az = az} {bz = bz} {sa = sa} {sb = sb} s rest) e = then_verdict Alike l ls a b az bz sa sb s (λ t. alike (or_left _ _ t)) l.holds refl (plan_in_mode for_verdict (λ t. alike (or_right _ _ t)) rest) e
    plan_in_mode for_first alike (goes {l = l} {ls = ls} {a = a} {b = b} {az = az} {bz = bz} {sa = sa} {sb = sb} s rest) e = then_first Alike l ls a b az bz sa sb s (λ t. alike (or_left _ _ t)) l.is_leaf l.holds refl (plan_in_mode for_first (λ t. alike (or_right _ _ t)) rest) e
    plan_in_mode for_all alike (goes {l = l} {ls = ls} {a = a} {b = b} {az = az} {bz = bz} {sa = sa} {sb = sb} s rest) e = then_all Alike l ls a b az bz sa sb s (λ t. alike (or_left _ _ t)) l.is_leaf l.holds refl (plan_in_mode for_all (λ t. alike (or_right _ _ t)) rest) e
    plan_in_mode for_units alike (goes {l = l} {ls = ls} {a = a} {b = b} {az = az} {bz = bz} {sa = sa} {sb = sb} s rest) e = then_units Alike l ls a b az bz sa sb s (λ t. alike (or_left _ _ t)) (plan_in_mode for_units (λ t. alike (or_right _ _ t)) rest) e

    -- ---- what the others span

    pub others_alike : {ls : List Looked} {a b : Outcome} {oa ob : Step → Bool} → Along Alike ls a b oa ob → AllAssumed as' (each_other_met ls) → oa ≡ ob
    others_alike ends e = refl
    others_alike (goes {l = l} {ls = ls} s rest) e = ap₂ either_spans (s.others (other_front l.is_told l.spanning (each_other_met ls) e)) (others_alike rest (other_back l.is_told l.spanning (each_other_met ls) e))

    parts_span_alike : {ls : List Looked} {a b : Outcome} {oa ob : Step → Bool} → Along Alike ls a b oa ob → AllAssumed as' (each_other_met ls) → a.spans ≡ b.spans
    parts_span_alike ends e = refl
    parts_span_alike (goes {l = l} {ls = ls} s rest) e = ap₂ either_spans (s.spans (other_front l.is_told l.spanning (each_other_met ls) e)) (parts_span_alike rest (other_back l.is_told l.spanning (each_other_met ls) e))

    -- ---- the run of a plan for its span

    -- If one of them fails, both outcomes are a refusal.
    both_refuse : {ls : List Looked} {a b : Outcome} {oa ob : Step → Bool} → Along Alike ls a b oa ob → Hold ls ≡ false → AllAssumed as' (others_met ls) → (a.verdict ≡ false) × (b.verdict ≡ false)
    both_refuse ends h e = absurd (cc h)
    both_refuse (goes {l = l} {ls = ls} {a = a} {b = b} {az = az} {bz = bz} s rest) h e = go l.is_told l.holds refl refl h e (both_refuse rest)
      where
        last_refuses : (x y : Bool) → y ≡ false → (x && y) ≡ false
        last_refuses true y is = is
        last_refuses false y is = refl

        first_refuses : (x y : Bool) → x ≡ false → (x && y) ≡ false
        first_refuses x y is = ap (λ z. z && y) is

        later : (az.verdict ≡ false) × (bz.verdict ≡ false) → ((a.verdict && az.verdict) ≡ false) × ((b.verdict && bz.verdict) ≡ false)
        later r = (last_refuses a.verdict az.verdict r.0, last_refuses b.verdict bz.verdict r.1)

        go : (told holds : Bool) → l.is_told ≡ told → l.holds ≡ holds → ((told || holds) && Hold ls) ≡ false → AllAssumed as' (elim told [ true ↦ others_met ls | false ↦ l.spanning ++ elim holds [ true ↦ others_met ls | false ↦ [] ] ])
            → (Hold ls ≡ false → AllAssumed as' (others_met ls) → (az.verdict ≡ false) × (bz.verdict ≡ false)) → ((a.verdict && az.verdict) ≡ false) × ((b.verdict && bz.verdict) ≡ false)
        go true holds is at h e k = later (k h e)
        go false true is at h e k = later (k h (assumed_back as' l.spanning (others_met ls) e))
        go false false is at h e k =
            let refuses : a.verdict ≡ false = sym s.holds ∙ at in
            let same : a.verdict ≡ b.verdict = s.verdict is (assumed_front as' l.spanning [] e) in
            (first_refuses a.verdict az.verdict refuses, first_refuses b.verdict bz.verdict (sym same ∙ refuses))

    -- If they hold, the told ones decide.
    told_verdict : {ls : List Looked} {a b : Outcome} {oa ob : Step → Bool} → Alike → Along Alike ls a b oa ob → Hold ls ≡ true → AllAssumed as' (others_met ls) → AllAssumed as' (plan_met for_verdict (Told ls)) → a.verdict ≡ b.verdict
    told_verdict alike ends h e t = refl
    told_verdict alike (goes {l = l} {ls = ls} {a = a} {b = b} {az = az} {bz = bz} {sa = sa} {sb = sb} s rest) h e t = go l.is_told l.holds refl refl h e t (told_verdict alike rest)
      where
        go : (told holds : Bool) → l.is_told ≡ told → l.holds ≡ holds → ((told || holds) && Hold ls) ≡ true → AllAssumed as' (elim told [ true ↦ others_met ls | false ↦ l.spanning ++ elim holds [ true ↦ others_met ls | false ↦ [] ] ])
            → AllAssumed as' (plan_met for_verdict (cond told (l ∷ Told ls) (Told ls)))
            → (Hold ls ≡ true → AllAssumed as' (others_met ls) → AllAssumed as' (plan_met for_verdict (Told ls)) → az.verdict ≡ bz.verdict) → (a.verdict && az.verdict) ≡ (b.verdict && bz.verdict)
        go true holds is at h e t k = then_verdict Alike l (Told ls) a b az bz sa sb s (λ u. alike) l.holds refl (k h e) t
        go false true is at h e t k = ap₂ (λ x y. x && y) (s.verdict is (assumed_front as' l.spanning (others_met ls) e)) (k h (assumed_back as' l.spanning (others_met ls) e) t)
        go false false is at h e t k = absurd (cc h)

  -- A run for the units meets what the entries meet.
  pub met_for_units : (ls : List Looked) → AllAssumed as' (node_met for_units ls) → AllAssumed as' (plan_met for_units ls)
  met_for_units ls e = go (list_any (λ l. l.is_told) ls) e
    where
      go : (told : Bool) → AllAssumed as' (elim told [ false ↦ plan_met for_units ls | true ↦ each_other_met ls ++ plan_met for_units ls ]) → AllAssumed as' (plan_met for_units ls)
      go false e = e
      go true e = assumed_back as' (each_other_met ls) _ e

  -- ---- a whole plan, whose told entries are told what its others span

  module _ {ls : List Looked} {a b : Outcome} {oa ob : Step → Bool} (along : Along (oa ≡ ob) ls a b oa ob) where
    pub along_spanning : AllAssumed as' (plan_spanning ls) → SaysAlike (kept a) (kept b)
    along_spanning e = go (Hold ls) refl (assumed_back as' (others_met ls) _ e)
      where
        others : AllAssumed as' (others_met ls)
        others = assumed_front as' (others_met ls) _ e

        go : (hold : Bool) → Hold ls ≡ hold → AllAssumed as' (elim hold [ true ↦ plan_met for_verdict (Told ls) | false ↦ [] ]) → SaysAlike (kept a) (kept b)
        go true is t =
            let each : AllAssumed as' (each_other_met ls) = each_met ls is others in
            let verdict : a.verdict ≡ b.verdict = told_verdict (others_alike along each) along is others t in
            record { verdict = verdict; spans = ap₂ {C = Step → Bool} (λ v f step. v && f step) verdict (parts_span_alike along each) }
        go false is t =
            let refuse : (a.verdict ≡ false) × (b.verdict ≡ false) = both_refuse along is others in
            record { verdict = refuse.0 ∙ sym refuse.1; spans = ap {B = Step → Bool} (λ v step. v && a.spans step) refuse.0 ∙ sym (ap {B = Step → Bool} (λ v step. v && b.spans step) refuse.1) }

    pub along_in_mode : (mode : Mode) → AllAssumed as' (node_met mode ls) → SameIn mode (kept a) (kept b)
    along_in_mode mode e = go (list_any (λ l. l.is_told) ls) refl mode e
      where
        after : (mode : Mode) → AllAssumed as' (each_other_met ls ++ plan_met mode ls) → SameIn mode a b
        after mode e = plan_in_mode mode (λ t. others_alike along (assumed_front as' (each_other_met ls) _ e)) along (assumed_back as' (each_other_met ls) _ e)

        go : (told : Bool) → list_any (λ l. l.is_told) ls ≡ told → (mode : Mode) → AllAssumed as' (elim told [
          | false ↦ plan_met mode ls
          | true ↦ elim mode [ for_verdict ↦ plan_spanning ls | for_first ↦ each_other_met ls ++ plan_met for_first ls | for_all ↦ each_other_met ls ++ plan_met for_all ls | for_units ↦ each_other_met ls ++ plan_met for_units ls ]
        ]) → SameIn mode (kept a) (kept b)
        go false is mode e = same_kept mode a b (plan_in_mode mode (λ t. absurd (cc (is, t))) along e)
        go true is for_verdict e = (along_spanning e).verdict
        go true is for_first e = after for_first e
        go true is for_all e = after for_all e
        go true is for_units e = after for_units e

    -- What the others span, if the run of a told entry is not for a verdict.
    pub others_known : (mode : Mode) → ¬ (mode ≡ for_verdict) → AllAssumed as' (node_met mode ls) → list_any (λ l. l.is_told) ls ≡ true → oa ≡ ob
    others_known mode not e is = others_alike along (go (list_any (λ l. l.is_told) ls) is mode not e)
      where
        go : (told : Bool) → told ≡ true → (mode : Mode) → ¬ (mode ≡ for_verdict) → AllAssumed as' (elim told [
          | false ↦ plan_met mode ls
          | true ↦ elim mode [ for_verdict ↦ plan_spanning ls | for_first ↦ each_other_met ls ++ plan_met for_first ls | for_all ↦ each_other_met ls ++ plan_met for_all ls | for_units ↦ each_other_met ls ++ plan_met for_units ls ]
        ]) → AllAssumed as' (each_other_met ls)
        go false is mode not e = absurd (cc is)
        go true is for_verdict not e = absurd (not refl)
        go true is for_first not e = assumed_front as' (each_other_met ls) _ e
        go true is for_all not e = assumed_front as' (each_other_met ls) _ e
        go true is for_units not e = assumed_front as' (each_other_met ls) _ e
