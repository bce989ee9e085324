-- A keyword of one of two types ends at once if it does so in its own type.
use Rattle.std.proofs.Common.{Bool, None, Option, Some, ap, sym, ◌∙◌}
use Rattle.std.specs.Prelude.{IfSome}
use Rattle.theory_definitions.specs.Instance.{Subject}
use Rattle.theory_definitions.specs.Keywords.{Answer, Keywords, for_verdict, no_reply}
use Rattle.schema_traits.specs.AtOnce.{EndsAtOnce}
use Rattle.schema_traits.specs.KeywordViews.{Tells}
use Rattle.keyword_joins.specs.BothLaws.{ShowsAnswer}
use Rattle.keyword_joins.specs.BothWords.{both_words}
use Rattle.keyword_joins.specs.Sides.{by_side}
use Rattle.keyword_joins.specs.declared.both.Both.TheVariants.{First, Second}

-- what a keyword says at once, if it says something
abbrev pub SaysAtOnce : {K R : Type 0} → (Bool → Keywords K R) → (K → Bool) → K → Subject → Option Bool → Type 0
SaysAtOnce words is_whole m s o = IfSome o (λ valid. (texts : Bool) → Tells texts (is_whole m) s → EndsAtOnce (words texts) m s valid)

module _ {M N Q R : Type 0} (one : Bool → Keywords M (Q × Answer)) (other : Bool → Keywords N (R × Answer)) (is_whole_one : M → Bool) (is_whole_other : N → Bool) (s : Subject) where
  first_ends : ShowsAnswer one → (texts : Bool) (m : M) (valid : Bool) → EndsAtOnce (one texts) m s valid → EndsAtOnce (both_words one other texts) (First m) s valid
  first_ends shows texts m valid h =
      let r : Q × Answer = (one texts).turn m s ((one texts).begin m s for_verdict) no_reply in
      record { asks_nothing = h.asks_nothing; says = ap (λ a. a.verdict) (sym (shows texts r.0 r.1)) ∙ h.says }

  second_ends : ShowsAnswer other → (texts : Bool) (m : N) (valid : Bool) → EndsAtOnce (other texts) m s valid → EndsAtOnce (both_words one other texts) (Second m) s valid
  second_ends shows texts m valid h =
      let r : R × Answer = (other texts).turn m s ((other texts).begin m s for_verdict) no_reply in
      record { asks_nothing = h.asks_nothing; says = ap (λ a. a.verdict) (sym (shows texts r.0 r.1)) ∙ h.says }

  pub first_at_once : ShowsAnswer one → (m : M) (o : Option Bool) → SaysAtOnce one is_whole_one m s o
      → SaysAtOnce (both_words one other) (by_side is_whole_one is_whole_other) (First m) s o
  first_at_once shows m None h = h
  first_at_once shows m (Some valid) h = λ texts tells. first_ends shows texts m valid (h texts tells)

  pub second_at_once : ShowsAnswer other → (m : N) (o : Option Bool) → SaysAtOnce other is_whole_other m s o
      → SaysAtOnce (both_words one other) (by_side is_whole_one is_whole_other) (Second m) s o
  second_at_once shows m None h = h
  second_at_once shows m (Some valid) h = λ texts tells. second_ends shows texts m valid (h texts tells)
