-- A missing name is reported before those after it. For a verdict it is enough to know whether one
-- is missing.
use Rattle.std.proofs.Common.{◌≡◌, ◌∙◌, ◌∷◌, ◌&&◌, ◌||◌, [], List, Bool, true, false, ap, codes, map, not, refl, sym}
use Rattle.std.specs.List.{list_any}
use Rattle.theory_definitions.specs.Instance.{Subject, Text}
use Rattle.theory_definitions.specs.Keywords.{Answer, Fault, for_all, for_first, for_units, for_verdict, own}
use Rattle.theory_definitions.specs.Keywords as spec
use Rattle.schema_reports.specs.ReportViews.{spoken}
use Rattle.schema_traits.specs.declared.keyword.Mode.{Mode}
use Rattle.schema_traits.specs.declared.keyword.Mode.TheVariants as mode
use Rattle.keyword_authoring.specs.Members.{has_member, is_object}
use Rattle.keyword_authoring.specs.Ways.{noted, noted_one, plain, refused, refused_mode}
use Rattle.standard_basics.specs.Words.{missing, required_text}

pub missing_first : (k : Text) (ks : List Text) (s : Subject) → (is_object s && not (has_member k s)) ≡ true → missing (k ∷ ks) s ≡ k ∷ missing ks s
missing_first k ks s h = rw h refl

pub missing_later : (k : Text) (ks : List Text) (s : Subject) → (is_object s && not (has_member k s)) ≡ false → missing (k ∷ ks) s ≡ missing ks s
missing_later k ks s h = rw h refl

pub told_missing : (texts : Bool) (m : Mode) (a b : Answer) (k : Text) (ks : List Text) (s : Subject) → (is_object s && not (has_member k s)) ≡ true
    → b ≡ noted_one m a (own (plain (codes "required") (spoken texts (required_text k))))
    → noted m (codes "required") a (map (λ k. spoken texts (required_text k)) (missing (k ∷ ks) s)) ≡ noted m (codes "required") b (map (λ k. spoken texts (required_text k)) (missing ks s))
told_missing texts m a b k ks s h e = ap (λ l. noted m (codes "required") a (map (λ k. spoken texts (required_text k)) l)) (missing_first k ks s h)
    ∙ ap (λ x. noted m (codes "required") x (map (λ k. spoken texts (required_text k)) (missing ks s))) (sym e)

mode_twice : (m : spec.Mode) (fs : List Fault) → refused_mode (refused_mode m fs) fs ≡ refused_mode m fs
mode_twice for_verdict fs = refl
mode_twice for_first [] = refl
mode_twice for_first (f ∷ fs) = refl
mode_twice for_all [] = refl
mode_twice for_all (f ∷ fs) = refl
mode_twice for_units fs = refl

refused_twice : (a : Answer) → refused (refused a) ≡ refused a
refused_twice a = ap (λ m. record (refused a) { mode = m }) (mode_twice a.mode a.errors)

refused_each : (name : Text) (a : Answer) (ts : List Text) → noted mode.Verdict name (refused a) ts ≡ refused a
refused_each name a [] = refl
refused_each name a (t ∷ ts) = refused_each name (refused a) ts ∙ refused_twice a

abbrev pub lacks_it : {X : Type 0} → (X → Text) → Subject → X → Bool
lacks_it text_of s k = is_object s && not (has_member (text_of k) s)

module _ {X : Type 0} (text_of : X → Text) (texts : Bool) (s : Subject) (a : Answer) where
  abbrev pub is_lacking : X → Bool
  is_lacking = lacks_it text_of s

  abbrev pub told_of : List Text → Answer
  told_of ks = noted mode.Verdict (codes "required") a (map (λ k. spoken texts (required_text k)) ks)

  lacks_first : (k : X) (ks : List X) (b : Bool) → is_lacking k ≡ b → (list_any is_lacking ks ≡ true → told_of (missing (map text_of ks) s) ≡ refused a)
      → (b || list_any is_lacking ks) ≡ true → told_of (missing (map text_of (k ∷ ks)) s) ≡ refused a
  lacks_first k ks true e later h = ap told_of (missing_first (text_of k) (map text_of ks) s e)
      ∙ refused_each (codes "required") a (map (λ k. spoken texts (required_text k)) (missing (map text_of ks) s))
  lacks_first k ks false e later h = ap told_of (missing_later (text_of k) (map text_of ks) s e) ∙ later h

  -- If a name is missing, then the verdict is no.
  pub lacks_some : (ks : List X) → list_any is_lacking ks ≡ true → told_of (missing (map text_of ks) s) ≡ refused a
  lacks_some [] h = cc
  lacks_some (k ∷ ks) h = lacks_first k ks (is_lacking k) refl (lacks_some ks) h

  has_first : (k : X) (ks : List X) (b : Bool) → is_lacking k ≡ b → (list_any is_lacking ks ≡ false → told_of (missing (map text_of ks) s) ≡ a)
      → (b || list_any is_lacking ks) ≡ false → told_of (missing (map text_of (k ∷ ks)) s) ≡ a
  has_first k ks true e later h = cc
  has_first k ks false e later h = ap told_of (missing_later (text_of k) (map text_of ks) s e) ∙ later h

  -- If none is missing, then the answer does not change.
  pub lacks_none : (ks : List X) → list_any is_lacking ks ≡ false → told_of (missing (map text_of ks) s) ≡ a
  lacks_none [] h = refl
  lacks_none (k ∷ ks) h = has_first k ks (is_lacking k) refl (lacks_none ks) h
