-- Matches that a run meets, and a completion that takes each match as a run does.
use Rattle.std.proofs.Common.{◌≡◌, ◌∙◌, Bool, true, false, ◌||◌, ◌&&◌, cond, List, [], ◌∷◌, ◌++◌, filter, not, refl, sym, ap, subst}
use Rattle.std.specs.Prelude.{Option, Some, None, filter_map, find, option_map, if◌then◌else◌}
use Rattle.std.specs.List.{cons_option, list_any}
use Rattle.std.proofs.lemmas.Slice.Eq.{bytes_eq-Decides}
use Rattle.theory_definitions.specs.Matching.{Assumed, Assumptions, Completion, Extends, Match, Matcher, Pair, assumed, completed, completion_of, finished, same_pair, unfinished}
use Rattle.theory_definitions.specs.Runs.{Met}
use Rattle.theory_definitions.specs.Unfinished.{Remembered, meet, or_no}
use Rattle.schema_run_context.specs.Matches.{MeetsEach, after_match}

-- ---- what is said of two things, of their equals

pub moved : {A B : Type 0} (P : A → B → Type 0) {x x' : A} {y y' : B} → x ≡ x' → y ≡ y' → P x y → P x' y'
moved P {x} {x'} {y} {y'} e f h = subst (λ a. P a y') e (subst (P x) f h)

-- ---- one after another

pub meets_append : (matcher : Matcher) (xs ys : List Met) (r mid end : Remembered) → MeetsEach matcher r xs mid → MeetsEach matcher mid ys end → MeetsEach matcher r (xs ++ ys) end
meets_append matcher [] ys r mid end h k = subst (λ u. MeetsEach matcher u ys end) (sym h) k
meets_append matcher (x ∷ xs) ys r mid end (reason, is, h) k = (reason, is, meets_append matcher xs ys (meet r (record { met = x; reason = reason })) mid end h k)

pub meets_same : (matcher : Matcher) (r end : Remembered) (xs ys : List Met) → xs ≡ ys → MeetsEach matcher r xs end → MeetsEach matcher r ys end
meets_same matcher r end xs ys e h = subst (λ ms. MeetsEach matcher r ms end) e h

pub after_assumes : (r : Remembered) (m : Met) (o : Match) → (after_match r m o).assumptions ≡ r.assumptions
after_assumes r m (finished b) = refl
after_assumes r m (unfinished reason) = refl

-- ---- the matches that are assumed to come out as a yes, as far as the first assumption of each says

both_left : (a b : Bool) → (a && b) ≡ true → a ≡ true
both_left true b e = refl
both_left false b e = e

both_right : (a b : Bool) → (a && b) ≡ true → b ≡ true
both_right true b e = e
both_right false true e = refl
both_right false false e = e

same_is : (a b : Pair) → same_pair a b ≡ true → a ≡ b
same_is a b e = λ i. record { pattern = (bytes_eq-Decides a.pattern b.pattern).0 (both_left _ _ e) i; subject = (bytes_eq-Decides a.subject b.subject).0 (both_right _ _ e) i }

pub decided : Assumptions → List Pair
decided [] = []
decided (x ∷ as') = cond x.outcome (x.pair ∷ decided as') (filter (λ q. not (same_pair x.pair q)) (decided as'))

abbrev pub deciding : Assumptions → Completion
deciding as' = record { otherwise = false; except = decided as' }

none_left : (a : Pair) (qs : List Pair) → list_any (same_pair a) (filter (λ q. not (same_pair a q)) qs) ≡ false
none_left a [] = refl
none_left a (q ∷ qs) = go (same_pair a q) refl (none_left a qs)
  where
    go : (b : Bool) → same_pair a q ≡ b → list_any (same_pair a) (filter (λ q. not (same_pair a q)) qs) ≡ false → list_any (same_pair a) (cond (not b) (q ∷ filter (λ q. not (same_pair a q)) qs) (filter (λ q. not (same_pair a q)) qs)) ≡ false
    go true is h = h
    go false is h = ap (λ t. t || list_any (same_pair a) (filter (λ q. not (same_pair a q)) qs)) is ∙ h

others_stay : (a p : Pair) (qs : List Pair) → same_pair a p ≡ false → list_any (same_pair a) (filter (λ q. not (same_pair p q)) qs) ≡ list_any (same_pair a) qs
others_stay a p [] e = refl
others_stay a p (q ∷ qs) e = go (same_pair p q) refl (others_stay a p qs e)
  where
    go : (b : Bool) → same_pair p q ≡ b → list_any (same_pair a) (filter (λ q. not (same_pair p q)) qs) ≡ list_any (same_pair a) qs
        → list_any (same_pair a) (cond (not b) (q ∷ filter (λ q. not (same_pair p q)) qs) (filter (λ q. not (same_pair p q)) qs)) ≡ (same_pair a q || list_any (same_pair a) qs)
    go true is h = h ∙ ap (λ t. t || list_any (same_pair a) qs) (sym e ∙ ap (same_pair a) (same_is p q is))
    go false is h = ap (λ t. same_pair a q || t) h

any_decided : (as' : Assumptions) (a : Pair) → list_any (same_pair a) (decided as') ≡ or_no (assumed as' a)
unfolding decided
any_decided [] a = refl
any_decided (x ∷ as') a = go x.outcome refl (same_pair a x.pair) refl (any_decided as' a)
  where
    go : (o : Bool) → x.outcome ≡ o → (b : Bool) → same_pair a x.pair ≡ b → list_any (same_pair a) (decided as') ≡ or_no (assumed as' a)
        → list_any (same_pair a) (cond o (x.pair ∷ decided as') (filter (λ q. not (same_pair x.pair q)) (decided as'))) ≡ or_no (option_map (λ (y : Assumed). y.outcome) (cond b (Some x) (find (λ y. same_pair a y.pair) as')))
    go true io true is h = ap (λ t. t || list_any (same_pair a) (decided as')) is ∙ sym io
    go true io false is h = ap (λ t. t || list_any (same_pair a) (decided as')) is ∙ h
    go false io true is h = ap (λ p. list_any (same_pair a) (filter (λ q. not (same_pair p q)) (decided as'))) (sym (same_is a x.pair is)) ∙ none_left a (decided as') ∙ sym io
    go false io false is h = others_stay a x.pair (decided as') is ∙ h

pub decides : (as' : Assumptions) (a : Pair) → completed (deciding as') a ≡ or_no (assumed as' a)
decides as' a = by (list_any (same_pair a) (decided as')) ∙ any_decided as' a
  where
    by : (b : Bool) → cond b (not false) false ≡ b
    by true = refl
    by false = refl

-- ---- where no match is assumed twice, with an outcome of each

none_assumed : (as' : Assumptions) (a : Pair) → assumed as' a ≡ None → list_any (same_pair a) (filter_map (λ (x : Assumed). if x.outcome then Some x.pair else None) as') ≡ false
none_assumed [] a e = refl
none_assumed (x ∷ as') a e = go (same_pair a x.pair) refl x.outcome e (none_assumed as' a)
  where
    go : (b : Bool) → same_pair a x.pair ≡ b → (o : Bool) → option_map (λ (y : Assumed). y.outcome) (cond b (Some x) (find (λ y. same_pair a y.pair) as')) ≡ None → (assumed as' a ≡ None → list_any (same_pair a) (filter_map (λ (x : Assumed). if x.outcome then Some x.pair else None) as') ≡ false)
        → list_any (same_pair a) (cons_option (cond o (Some x.pair) None) (filter_map (λ (x : Assumed). if x.outcome then Some x.pair else None) as')) ≡ false
    go true is o e h = absurd (cc e)
    go false is true e h = ap (λ t. t || list_any (same_pair a) (filter_map (λ (x : Assumed). if x.outcome then Some x.pair else None) as')) is ∙ h e
    go false is false e h = h e

pub completes_once : (as' : Assumptions) → Extends (completion_of as') as' → (a : Pair) → completed (completion_of as') a ≡ or_no (assumed as' a)
completes_once as' once a = go (assumed as' a) refl
  where
    go : (o : Option Bool) → assumed as' a ≡ o → completed (completion_of as') a ≡ or_no o
    go (Some b) e = once a b e
    go None e = ap (λ t. cond t (not false) false) (none_assumed as' a e)

pub nothing_twice : Extends (completion_of []) []
nothing_twice a b e = absurd (cc e)
