-- Errors that are noted one after the other, and errors of which only the verdict is noted.
use Rattle.std.proofs.Common.{Bool, List, [], ◌∷◌, ◌++◌, ◌≡◌, ◌∙◌, ap, false, length, map, refl, true}
use Rattle.theory_definitions.specs.Instance.{Subject, Text}
use Rattle.theory_definitions.specs.Keywords.{Answer, Fault, for_all, for_first, for_units, for_verdict}
use Rattle.theory_definitions.specs.Keywords as spec
use Rattle.schema_reports.specs.InstanceTexts.{subject_has_float}
use Rattle.schema_reports.specs.ReportViews.{spoken}
use Rattle.schema_traits.specs.KeywordViews.{Tells, is_nil}
use Rattle.schema_traits.specs.declared.keyword.Mode.{Mode}
use Rattle.schema_traits.specs.declared.keyword.Mode.TheVariants as mode
use Rattle.keyword_authoring.specs.Ways.{noted, noted_one, plain, refused, refused_mode}

-- one more error
pub noted_then : {X : Type 0} (f : X → Text) (m : Mode) (name : Text) (a : Answer) (xs : List X) (x : X)
    → noted m name a (map f (xs ++ x ∷ [])) ≡ noted_one m (noted m name a (map f xs)) (spec.own (plain name (f x)))
noted_then f m name a [] x = refl
noted_then f m name a (y ∷ xs) x = noted_then f m name (noted_one m a (spec.own (plain name (f y)))) xs x

refused_again : (m : spec.Mode) (fs : List Fault) → refused_mode (refused_mode m fs) fs ≡ refused_mode m fs
refused_again for_verdict fs = refl
refused_again for_first [] = refl
refused_again for_first (f ∷ fs) = refl
refused_again for_all [] = refl
refused_again for_all (f ∷ fs) = refl
refused_again for_units fs = refl

refused_twice : (a : Answer) → refused (refused a) ≡ refused a
refused_twice a = ap (λ m. record (refused a) { mode = m }) (refused_again a.mode a.errors)

-- the verdict is no, however many errors there are
all_refused : (name : Text) (a : Answer) (ts : List Text) → noted mode.Verdict name (refused a) ts ≡ refused a
all_refused name a [] = refl
all_refused name a (t ∷ ts) = ap (λ b. noted mode.Verdict name b ts) (refused_twice a) ∙ all_refused name a ts

pub told_verdict_alone : (f : Text → Text) (name : Text) (a : Answer) (ts : List Text) → is_nil ts ≡ false → noted mode.Verdict name a (map f ts) ≡ refused a
told_verdict_alone f name a [] h = cc
told_verdict_alone f name a (t ∷ ts) h = all_refused name a (map f ts)

-- nothing is noted if there is nothing to note
pub told_nothing : (f : Text → Text) (m : Mode) (name : Text) (a : Answer) (ts : List Text) → is_nil ts ≡ true → noted m name a (map f ts) ≡ a
told_nothing f m name a [] h = refl
told_nothing f m name a (t ∷ ts) h = cc

-- texts that are not covered are alike if there are as many
unspoken : {X : Type 0} (f : X → Text) (xs : List X) (ts : List Text) → length xs ≡ length ts → map (λ x. spoken false (f x)) xs ≡ map (spoken false) ts
unspoken f [] [] h = refl
unspoken f [] (t ∷ ts) h = cc
unspoken f (x ∷ xs) [] h = cc
unspoken f (x ∷ xs) (t ∷ ts) h = ap (λ us. [] ∷ us) (unspoken f xs ts cc)

spoken_each : {X : Type 0} (f : X → Text) (xs : List X) (ts : List Text) → map f xs ≡ ts → map (λ x. spoken true (f x)) xs ≡ map (spoken true) ts
spoken_each f [] [] h = refl
spoken_each f [] (t ∷ ts) h = cc
spoken_each f (x ∷ xs) [] h = cc
spoken_each f (x ∷ xs) (t ∷ ts) h = let first : f x ≡ t = cc in let rest : map f xs ≡ ts = cc in
    ap (λ u. u ∷ map (λ y. spoken true (f y)) xs) first ∙ ap (λ us. t ∷ us) (spoken_each f xs ts rest)

-- the texts of a keyword's errors, as far as they are covered
pub told_texts : {X : Type 0} (f : X → Text) (is_whole : Bool) (s : Subject) (xs : List X) (ts : List Text) (texts : Bool) → length xs ≡ length ts
    → (is_whole ≡ true → subject_has_float s ≡ false → map f xs ≡ ts) → Tells texts is_whole s → map (λ x. spoken texts (f x)) xs ≡ map (spoken texts) ts
told_texts f is_whole s xs ts true count same tells = spoken_each f xs ts (same (tells.keyword refl) (tells.instance refl))
told_texts f is_whole s xs ts false count same tells = unspoken f xs ts count
