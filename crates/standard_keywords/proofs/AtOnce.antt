-- A keyword of one of the families ends at once if it does so in its own type.
use Rattle.std.proofs.Common.{Bool, None, Option, Some, ap, sym, ◌∙◌}
use Rattle.theory_definitions.specs.Instance.{Subject}
use Rattle.theory_definitions.specs.Keywords.{Answer, Keywords, for_verdict, no_reply}
use Rattle.schema_traits.specs.AtOnce.{EndsAtOnce}
use Rattle.keyword_joins.proofs.AtOnce.{SaysAtOnce}
use Rattle.keyword_joins.specs.BothLaws.{ShowsAnswer}
use Rattle.standard_keywords.specs.Families.{by_family}
use Rattle.standard_keywords.specs.FamilyWords.{family_words}
use Rattle.standard_keywords.specs.declared.family.Family.{Family}
use Rattle.standard_keywords.specs.declared.family.Family.TheVariants.{Applicator, Assertion, Basic, Format, PatternProperties}

module _ {MA ML MP MF MB RA RL RP RF RB : Type 0} (assertions : Bool → Keywords MA (RA × Answer)) (applicators : Bool → Keywords ML (RL × Answer)) (patterns : Bool → Keywords MP (RP × Answer)) (formats : Bool → Keywords MF (RF × Answer)) (basics : Bool → Keywords MB (RB × Answer))
    (is_whole_a : MA → Bool) (is_whole_l : ML → Bool) (is_whole_p : MP → Bool) (is_whole_f : MF → Bool) (is_whole_b : MB → Bool) (s : Subject) where
  abbrev words : Bool → Keywords (Family MA ML MP MF MB) (Family RA RL RP RF RB × Answer)
  words = family_words assertions applicators patterns formats basics

  abbrev is_whole : Family MA ML MP MF MB → Bool
  is_whole = by_family is_whole_a is_whole_l is_whole_p is_whole_f is_whole_b

  assertion_ends : ShowsAnswer assertions → (texts : Bool) (m : MA) (valid : Bool) → EndsAtOnce (assertions texts) m s valid → EndsAtOnce (words texts) (Assertion m) s valid
  assertion_ends shows texts m valid h =
      let r : RA × Answer = (assertions texts).turn m s ((assertions texts).begin m s for_verdict) no_reply in
      record { asks_nothing = h.asks_nothing; says = ap (λ a. a.verdict) (sym (shows texts r.0 r.1)) ∙ h.says }

  pub assertion_at_once : ShowsAnswer assertions → (m : MA) (o : Option Bool) → SaysAtOnce assertions is_whole_a m s o → SaysAtOnce words is_whole (Assertion m) s o
  assertion_at_once shows m None h = h
  assertion_at_once shows m (Some valid) h = λ texts tells. assertion_ends shows texts m valid (h texts tells)

  applicator_ends : ShowsAnswer applicators → (texts : Bool) (m : ML) (valid : Bool) → EndsAtOnce (applicators texts) m s valid → EndsAtOnce (words texts) (Applicator m) s valid
  applicator_ends shows texts m valid h =
      let r : RL × Answer = (applicators texts).turn m s ((applicators texts).begin m s for_verdict) no_reply in
      record { asks_nothing = h.asks_nothing; says = ap (λ a. a.verdict) (sym (shows texts r.0 r.1)) ∙ h.says }

  pub applicator_at_once : ShowsAnswer applicators → (m : ML) (o : Option Bool) → SaysAtOnce applicators is_whole_l m s o → SaysAtOnce words is_whole (Applicator m) s o
  applicator_at_once shows m None h = h
  applicator_at_once shows m (Some valid) h = λ texts tells. applicator_ends shows texts m valid (h texts tells)

  pattern_ends : ShowsAnswer patterns → (texts : Bool) (m : MP) (valid : Bool) → EndsAtOnce (patterns texts) m s valid → EndsAtOnce (words texts) (PatternProperties m) s valid
  pattern_ends shows texts m valid h =
      let r : RP × Answer = (patterns texts).turn m s ((patterns texts).begin m s for_verdict) no_reply in
      record { asks_nothing = h.asks_nothing; says = ap (λ a. a.verdict) (sym (shows texts r.0 r.1)) ∙ h.says }

  pub pattern_at_once : ShowsAnswer patterns → (m : MP) (o : Option Bool) → SaysAtOnce patterns is_whole_p m s o → SaysAtOnce words is_whole (PatternProperties m) s o
  pattern_at_once shows m None h = h
  pattern_at_once shows m (Some valid) h = λ texts tells. pattern_ends shows texts m valid (h texts tells)

  format_ends : ShowsAnswer formats → (texts : Bool) (m : MF) (valid : Bool) → EndsAtOnce (formats texts) m s valid → EndsAtOnce (words texts) (Format m) s valid
  format_ends shows texts m valid h =
      let r : RF × Answer = (formats texts).turn m s ((formats texts).begin m s for_verdict) no_reply in
      record { asks_nothing = h.asks_nothing; says = ap (λ a. a.verdict) (sym (shows texts r.0 r.1)) ∙ h.says }

  pub format_at_once : ShowsAnswer formats → (m : MF) (o : Option Bool) → SaysAtOnce formats is_whole_f m s o → SaysAtOnce words is_whole (Format m) s o
  format_at_once shows m None h = h
  format_at_once shows m (Some valid) h = λ texts tells. format_ends shows texts m valid (h texts tells)

  basic_ends : ShowsAnswer basics → (texts : Bool) (m : MB) (valid : Bool) → EndsAtOnce (basics texts) m s valid → EndsAtOnce (words texts) (Basic m) s valid
  basic_ends shows texts m valid h =
      let r : RB × Answer = (basics texts).turn m s ((basics texts).begin m s for_verdict) no_reply in
      record { asks_nothing = h.asks_nothing; says = ap (λ a. a.verdict) (sym (shows texts r.0 r.1)) ∙ h.says }

  pub basic_at_once : ShowsAnswer basics → (m : MB) (o : Option Bool) → SaysAtOnce basics is_whole_b m s o → SaysAtOnce words is_whole (Basic m) s o
  basic_at_once shows m None h = h
  basic_at_once shows m (Some valid) h = λ texts tells. basic_ends shows texts m valid (h texts tells)
