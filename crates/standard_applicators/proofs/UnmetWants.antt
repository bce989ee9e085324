-- The errors of missing members, one after the other.
use Rattle.std.proofs.Common.{◌≡◌, ◌∙◌, ◌∷◌, ◌&&◌, ◌||◌, [], List, Bool, true, false, ap, codes, map, not, refl, sym}
use Rattle.std.specs.List.{list_any}
use Rattle.std.specs.Prelude.{Option, if◌then◌else◌}
use Rattle.theory_definitions.specs.Instance.{Subject, Text}
use Rattle.theory_definitions.specs.Keywords.{Answer, Fault, Question, for_all, for_first, for_units, for_verdict, own}
use Rattle.theory_definitions.specs.Keywords as spec
use Rattle.schema_reports.specs.ReportViews.{spoken}
use Rattle.schema_traits.specs.KeywordViews.{is_nil}
use Rattle.schema_traits.specs.declared.keyword.Mode.{Mode}
use Rattle.schema_traits.specs.declared.keyword.Mode.TheVariants as mode
use Rattle.keyword_authoring.specs.Ways.{noted, noted_one, plain, refused, refused_mode}
use Rattle.keyword_authoring.specs.declared.run.Stage.{Stage}
use Rattle.keyword_authoring.specs.declared.run.Stage.TheVariants.{Begun}
use Rattle.standard_applicators.specs.Courses.{ends_run, left_to_ask, wants_one}
use Rattle.standard_applicators.specs.Wanting.{is_unmet, missing_texts, required_text}

abbrev pub told_texts : Bool → Subject → List (Text × Text) → List Text
told_texts texts s wants = map (spoken texts) (missing_texts wants s)

mode_twice : (m : spec.Mode) (fs : List Fault) → refused_mode (refused_mode m fs) fs ≡ refused_mode m fs
mode_twice for_verdict fs = refl
mode_twice for_first [] = refl
mode_twice for_first (f ∷ fs) = refl
mode_twice for_all [] = refl
mode_twice for_all (f ∷ fs) = refl
mode_twice for_units fs = refl

refused_twice : (a : Answer) → refused (refused a) ≡ refused a
refused_twice a = ap (λ m. record (refused a) { mode = m }) (mode_twice a.mode a.errors)

refused_each : (name : Text) (a : Answer) (ts : List Text) → noted mode.Verdict name (refused a) ts ≡ refused a
refused_each name a [] = refl
refused_each name a (t ∷ ts) = refused_each name (refused a) ts ∙ refused_twice a

module _ (texts : Bool) (s : Subject) where
  pub texts_first : (want : Text × Text) (wants : List (Text × Text)) → is_unmet s want ≡ true
      → told_texts texts s (want ∷ wants) ≡ spoken texts (required_text want) ∷ told_texts texts s wants
  texts_first want wants h = rw h refl

  pub texts_later : (want : Text × Text) (wants : List (Text × Text)) → is_unmet s want ≡ false → told_texts texts s (want ∷ wants) ≡ told_texts texts s wants
  texts_later want wants h = rw h refl

  pub told_unmet : (m : Mode) (a b : Answer) (want : Text × Text) (wants : List (Text × Text)) → is_unmet s want ≡ true
      → b ≡ noted_one m a (own (plain (codes "dependencies") (spoken texts (required_text want))))
      → noted m (codes "dependencies") a (told_texts texts s (want ∷ wants)) ≡ noted m (codes "dependencies") b (told_texts texts s wants)
  told_unmet m a b want wants h e = ap (noted m (codes "dependencies") a) (texts_first want wants h) ∙ ap (λ x. noted m (codes "dependencies") x (told_texts texts s wants)) (sym e)

  module _ (a : Answer) where
    abbrev told_of : List Text → Answer
    told_of ts = noted mode.Verdict (codes "dependencies") a ts

    some_first : (b : Bool) (want : Text × Text) (wants : List (Text × Text)) → is_unmet s want ≡ b
        → (list_any (is_unmet s) wants ≡ true → told_of (told_texts texts s wants) ≡ refused a)
        → (b || list_any (is_unmet s) wants) ≡ true → told_of (told_texts texts s (want ∷ wants)) ≡ refused a
    some_first true want wants e later h = ap told_of (texts_first want wants e) ∙ refused_each (codes "dependencies") a (told_texts texts s wants)
    some_first false want wants e later h = ap told_of (texts_later want wants e) ∙ later h

    -- If a want is unmet, then the verdict is no.
    pub some_unmet : (wants : List (Text × Text)) → list_any (is_unmet s) wants ≡ true → told_of (told_texts texts s wants) ≡ refused a
    some_unmet [] h = cc
    some_unmet (want ∷ wants) h = some_first (is_unmet s want) want wants refl (some_unmet wants) h

    none_first : (b : Bool) (want : Text × Text) (wants : List (Text × Text)) → is_unmet s want ≡ b
        → (list_any (is_unmet s) wants ≡ false → told_of (told_texts texts s wants) ≡ a)
        → (b || list_any (is_unmet s) wants) ≡ false → told_of (told_texts texts s (want ∷ wants)) ≡ a
    none_first true want wants e later h = cc
    none_first false want wants e later h = ap told_of (texts_later want wants e) ∙ later h

    -- If none is unmet, then the answer does not change.
    pub none_unmet : (wants : List (Text × Text)) → list_any (is_unmet s) wants ≡ false → told_of (told_texts texts s wants) ≡ a
    none_unmet [] h = refl
    none_unmet (want ∷ wants) h = none_first (is_unmet s want) want wants refl (none_unmet wants) h

  any_first : (b : Bool) (want : Text × Text) (wants : List (Text × Text)) → is_unmet s want ≡ b → not (is_nil (told_texts texts s wants)) ≡ list_any (is_unmet s) wants
      → not (is_nil (told_texts texts s (want ∷ wants))) ≡ (b || list_any (is_unmet s) wants)
  any_first true want wants e later = ap (λ ts. not (is_nil ts)) (texts_first want wants e)
  any_first false want wants e later = ap (λ ts. not (is_nil ts)) (texts_later want wants e) ∙ later

  -- There is an error to report if and only if a want is unmet.
  pub any_unmet : (wants : List (Text × Text)) → not (is_nil (told_texts texts s wants)) ≡ list_any (is_unmet s) wants
  any_unmet [] = refl
  any_unmet (want ∷ wants) = any_first (is_unmet s want) want wants refl (any_unmet wants)

  -- So a first turn ends the run if one error is enough.
  pub ends_so : (wants : List (Text × Text)) (stage : Stage) (m : Mode) (os : List (Option Question)) (e : Bool) → stage ≡ Begun → wants_one m ≡ true → e ≡ list_any (is_unmet s) wants
      → left_to_ask stage (ends_run m (told_texts texts s wants)) os ≡ (if e then [] else os)
  ends_so wants stage m os e begun one is = ap (λ x. left_to_ask x (ends_run m (told_texts texts s wants)) os) begun
      ∙ ap (λ b. if b && not (is_nil (told_texts texts s wants)) then [] else os) one
      ∙ ap (λ b. if b then [] else os) (any_unmet wants ∙ sym is)
