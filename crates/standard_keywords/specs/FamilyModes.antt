-- A keyword of one of the families requests what its own type requests, passes units on as that
-- does, and is monotone if that is.
use Rattle.std.proofs.Common.{◌≡◌, ℕ, zero, suc, Bool, List, true}
use Rattle.theory_definitions.specs.Instance.{Subject, Text}
use Rattle.theory_definitions.specs.Keywords.{Answer, Keywords, Reply, no_reply}
use Rattle.theory_definitions.specs.Remembering.{AlwaysAsksVerdict, EachAsksVerdicts}
use Rattle.theory_meaning.specs.Greatest.{IsMonotone}
use Rattle.theory_meaning.specs.Untold.{NeverTold}
use Rattle.theory_meaning.specs.UnitsLead.{EachHandsUnitsOn}
use Rattle.schema_traits.specs.UnitQuestions.{AlwaysAsksForLess, AsksNoUnits}
use Rattle.standard_keywords.specs.Families.{by_family}
use Rattle.standard_keywords.specs.FamilyWords.{as_run, family_words}
use Rattle.standard_keywords.specs.declared.family.Family.{Family}
use Rattle.standard_keywords.specs.declared.family.Family.TheVariants.{Applicator, Assertion, Basic, Format, PatternProperties}

module _ {MA ML MP MF MB RA RL RP RF RB : Type 0} (assertions : Bool → Keywords MA (RA × Answer)) (applicators : Bool → Keywords ML (RL × Answer)) (patterns : Bool → Keywords MP (RP × Answer)) (formats : Bool → Keywords MF (RF × Answer)) (basics : Bool → Keywords MB (RB × Answer)) where
  abbrev words : Bool → Keywords (Family MA ML MP MF MB) (Family RA RL RP RF RB × Answer)
  words = family_words assertions applicators patterns formats basics

  module _ (texts : Bool) (s : Subject) where
    assertion_for_less : (m : MA) (n : ℕ) (r : RA × Answer) (reply : Reply) → AlwaysAsksForLess (assertions texts) m s n r reply
        → AlwaysAsksForLess (words texts) (Assertion m) s n (as_run Assertion r) reply
    assertion_for_less m zero r reply h = tt
    assertion_for_less m (suc n) r reply h = (h.0, λ next. assertion_for_less m n ((assertions texts).turn m s r reply) next (h.1 next))

    assertion_for_verdict : (m : MA) (n : ℕ) (r : RA × Answer) (reply : Reply) → AlwaysAsksVerdict (assertions texts) m s n r reply
        → AlwaysAsksVerdict (words texts) (Assertion m) s n (as_run Assertion r) reply
    assertion_for_verdict m zero r reply h = tt
    assertion_for_verdict m (suc n) r reply h = (h.0, λ next. assertion_for_verdict m n ((assertions texts).turn m s r reply) next (h.1 next))

    applicator_for_less : (m : ML) (n : ℕ) (r : RL × Answer) (reply : Reply) → AlwaysAsksForLess (applicators texts) m s n r reply
        → AlwaysAsksForLess (words texts) (Applicator m) s n (as_run Applicator r) reply
    applicator_for_less m zero r reply h = tt
    applicator_for_less m (suc n) r reply h = (h.0, λ next. applicator_for_less m n ((applicators texts).turn m s r reply) next (h.1 next))

    applicator_for_verdict : (m : ML) (n : ℕ) (r : RL × Answer) (reply : Reply) → AlwaysAsksVerdict (applicators texts) m s n r reply
        → AlwaysAsksVerdict (words texts) (Applicator m) s n (as_run Applicator r) reply
    applicator_for_verdict m zero r reply h = tt
    applicator_for_verdict m (suc n) r reply h = (h.0, λ next. applicator_for_verdict m n ((applicators texts).turn m s r reply) next (h.1 next))

    pattern_for_less : (m : MP) (n : ℕ) (r : RP × Answer) (reply : Reply) → AlwaysAsksForLess (patterns texts) m s n r reply
        → AlwaysAsksForLess (words texts) (PatternProperties m) s n (as_run PatternProperties r) reply
    pattern_for_less m zero r reply h = tt
    pattern_for_less m (suc n) r reply h = (h.0, λ next. pattern_for_less m n ((patterns texts).turn m s r reply) next (h.1 next))

    pattern_for_verdict : (m : MP) (n : ℕ) (r : RP × Answer) (reply : Reply) → AlwaysAsksVerdict (patterns texts) m s n r reply
        → AlwaysAsksVerdict (words texts) (PatternProperties m) s n (as_run PatternProperties r) reply
    pattern_for_verdict m zero r reply h = tt
    pattern_for_verdict m (suc n) r reply h = (h.0, λ next. pattern_for_verdict m n ((patterns texts).turn m s r reply) next (h.1 next))

    format_for_less : (m : MF) (n : ℕ) (r : RF × Answer) (reply : Reply) → AlwaysAsksForLess (formats texts) m s n r reply
        → AlwaysAsksForLess (words texts) (Format m) s n (as_run Format r) reply
    format_for_less m zero r reply h = tt
    format_for_less m (suc n) r reply h = (h.0, λ next. format_for_less m n ((formats texts).turn m s r reply) next (h.1 next))

    format_for_verdict : (m : MF) (n : ℕ) (r : RF × Answer) (reply : Reply) → AlwaysAsksVerdict (formats texts) m s n r reply
        → AlwaysAsksVerdict (words texts) (Format m) s n (as_run Format r) reply
    format_for_verdict m zero r reply h = tt
    format_for_verdict m (suc n) r reply h = (h.0, λ next. format_for_verdict m n ((formats texts).turn m s r reply) next (h.1 next))

    basic_for_less : (m : MB) (n : ℕ) (r : RB × Answer) (reply : Reply) → AlwaysAsksForLess (basics texts) m s n r reply
        → AlwaysAsksForLess (words texts) (Basic m) s n (as_run Basic r) reply
    basic_for_less m zero r reply h = tt
    basic_for_less m (suc n) r reply h = (h.0, λ next. basic_for_less m n ((basics texts).turn m s r reply) next (h.1 next))

    basic_for_verdict : (m : MB) (n : ℕ) (r : RB × Answer) (reply : Reply) → AlwaysAsksVerdict (basics texts) m s n r reply
        → AlwaysAsksVerdict (words texts) (Basic m) s n (as_run Basic r) reply
    basic_for_verdict m zero r reply h = tt
    basic_for_verdict m (suc n) r reply h = (h.0, λ next. basic_for_verdict m n ((basics texts).turn m s r reply) next (h.1 next))

  pub family_asks_no_units : ((texts : Bool) → AsksNoUnits (assertions texts)) → ((texts : Bool) → AsksNoUnits (applicators texts)) → ((texts : Bool) → AsksNoUnits (patterns texts)) → ((texts : Bool) → AsksNoUnits (formats texts)) → ((texts : Bool) → AsksNoUnits (basics texts)) → (texts : Bool) → AsksNoUnits (words texts)
  family_asks_no_units a l p f b texts (Assertion m) s mode none = assertion_for_less texts s m _ _ no_reply (a texts m s mode none)
  family_asks_no_units a l p f b texts (Applicator m) s mode none = applicator_for_less texts s m _ _ no_reply (l texts m s mode none)
  family_asks_no_units a l p f b texts (PatternProperties m) s mode none = pattern_for_less texts s m _ _ no_reply (p texts m s mode none)
  family_asks_no_units a l p f b texts (Format m) s mode none = format_for_less texts s m _ _ no_reply (f texts m s mode none)
  family_asks_no_units a l p f b texts (Basic m) s mode none = basic_for_less texts s m _ _ no_reply (b texts m s mode none)

  pub family_asks_verdicts : ((texts : Bool) → EachAsksVerdicts (assertions texts)) → ((texts : Bool) → EachAsksVerdicts (applicators texts)) → ((texts : Bool) → EachAsksVerdicts (patterns texts)) → ((texts : Bool) → EachAsksVerdicts (formats texts)) → ((texts : Bool) → EachAsksVerdicts (basics texts)) → (texts : Bool) → EachAsksVerdicts (words texts)
  family_asks_verdicts a l p f b texts (Assertion m) s = assertion_for_verdict texts s m _ _ no_reply (a texts m s)
  family_asks_verdicts a l p f b texts (Applicator m) s = applicator_for_verdict texts s m _ _ no_reply (l texts m s)
  family_asks_verdicts a l p f b texts (PatternProperties m) s = pattern_for_verdict texts s m _ _ no_reply (p texts m s)
  family_asks_verdicts a l p f b texts (Format m) s = format_for_verdict texts s m _ _ no_reply (f texts m s)
  family_asks_verdicts a l p f b texts (Basic m) s = basic_for_verdict texts s m _ _ no_reply (b texts m s)

  pub family_grows : {says_a : MA → Bool} {says_l : ML → Bool} {says_p : MP → Bool} {says_f : MF → Bool} {says_b : MB → Bool}
      → ((texts : Bool) (m : MA) → says_a m ≡ true → IsMonotone (assertions texts) m)
      → ((texts : Bool) (m : ML) → says_l m ≡ true → IsMonotone (applicators texts) m)
      → ((texts : Bool) (m : MP) → says_p m ≡ true → IsMonotone (patterns texts) m)
      → ((texts : Bool) (m : MF) → says_f m ≡ true → IsMonotone (formats texts) m)
      → ((texts : Bool) (m : MB) → says_b m ≡ true → IsMonotone (basics texts) m)
      → (texts : Bool) (m : Family MA ML MP MF MB) → by_family says_a says_l says_p says_f says_b m ≡ true → IsMonotone (words texts) m
  family_grows a l p f b texts (Assertion m) says = let h = a texts m says in record { untold = h.untold; grows = h.grows }
  family_grows a l p f b texts (Applicator m) says = let h = l texts m says in record { untold = h.untold; grows = h.grows }
  family_grows a l p f b texts (PatternProperties m) says = let h = p texts m says in record { untold = h.untold; grows = h.grows }
  family_grows a l p f b texts (Format m) says = let h = f texts m says in record { untold = h.untold; grows = h.grows }
  family_grows a l p f b texts (Basic m) says = let h = b texts m says in record { untold = h.untold; grows = h.grows }

  pub family_never_told : ((texts : Bool) → NeverTold (assertions texts)) → ((texts : Bool) → NeverTold (applicators texts)) → ((texts : Bool) → NeverTold (patterns texts)) → ((texts : Bool) → NeverTold (formats texts)) → ((texts : Bool) → NeverTold (basics texts)) → (texts : Bool) → NeverTold (words texts)
  family_never_told a l p f b texts (Assertion m) = a texts m
  family_never_told a l p f b texts (Applicator m) = l texts m
  family_never_told a l p f b texts (PatternProperties m) = p texts m
  family_never_told a l p f b texts (Format m) = f texts m
  family_never_told a l p f b texts (Basic m) = b texts m

  pub family_hands_units_on : {absorbed_a : MA → List Text} {absorbed_l : ML → List Text} {absorbed_p : MP → List Text} {absorbed_f : MF → List Text} {absorbed_b : MB → List Text}
      → ((texts : Bool) → EachHandsUnitsOn (assertions texts) absorbed_a)
      → ((texts : Bool) → EachHandsUnitsOn (applicators texts) absorbed_l)
      → ((texts : Bool) → EachHandsUnitsOn (patterns texts) absorbed_p)
      → ((texts : Bool) → EachHandsUnitsOn (formats texts) absorbed_f)
      → ((texts : Bool) → EachHandsUnitsOn (basics texts) absorbed_b)
      → (texts : Bool) → EachHandsUnitsOn (words texts) (by_family absorbed_a absorbed_l absorbed_p absorbed_f absorbed_b)
  family_hands_units_on a l p f b texts (Assertion m) s matches answers = let h = a texts m s matches answers in record { own = h.own; absorbed = h.absorbed }
  family_hands_units_on a l p f b texts (Applicator m) s matches answers = let h = l texts m s matches answers in record { own = h.own; absorbed = h.absorbed }
  family_hands_units_on a l p f b texts (PatternProperties m) s matches answers = let h = p texts m s matches answers in record { own = h.own; absorbed = h.absorbed }
  family_hands_units_on a l p f b texts (Format m) s matches answers = let h = f texts m s matches answers in record { own = h.own; absorbed = h.absorbed }
  family_hands_units_on a l p f b texts (Basic m) s matches answers = let h = b texts m s matches answers in record { own = h.own; absorbed = h.absorbed }
