-- A keyword of one of two types requests what its own type requests, passes units on as that does,
-- and is monotone if that is.
use Rattle.std.proofs.Common.{◌≡◌, ℕ, zero, suc, Bool, List, true}
use Rattle.theory_definitions.specs.Instance.{Subject, Text}
use Rattle.theory_definitions.specs.Keywords.{Answer, Keywords, Reply, no_reply}
use Rattle.theory_definitions.specs.Remembering.{AlwaysAsksVerdict, EachAsksVerdicts}
use Rattle.theory_meaning.specs.Greatest.{IsMonotone}
use Rattle.theory_meaning.specs.Untold.{NeverTold}
use Rattle.theory_meaning.specs.UnitsLead.{EachHandsUnitsOn}
use Rattle.schema_traits.specs.UnitQuestions.{AlwaysAsksForLess, AsksNoUnits}
use Rattle.keyword_joins.specs.BothWords.{as_first, as_second, both_words}
use Rattle.keyword_joins.specs.Sides.{by_side}
use Rattle.keyword_joins.specs.declared.both.Both.{Both}
use Rattle.keyword_joins.specs.declared.both.Both.TheVariants.{First, Second}

module _ {M N Q R : Type 0} (one : Bool → Keywords M (Q × Answer)) (other : Bool → Keywords N (R × Answer)) where
  module _ (texts : Bool) (s : Subject) where
    first_for_less : (m : M) (n : ℕ) (r : Q × Answer) (reply : Reply) → AlwaysAsksForLess (one texts) m s n r reply
        → AlwaysAsksForLess (both_words one other texts) (First m) s n (as_first r) reply
    first_for_less m zero r reply h = tt
    first_for_less m (suc n) r reply h = (h.0, λ next. first_for_less m n ((one texts).turn m s r reply) next (h.1 next))

    second_for_less : (m : N) (n : ℕ) (r : R × Answer) (reply : Reply) → AlwaysAsksForLess (other texts) m s n r reply
        → AlwaysAsksForLess (both_words one other texts) (Second m) s n (as_second r) reply
    second_for_less m zero r reply h = tt
    second_for_less m (suc n) r reply h = (h.0, λ next. second_for_less m n ((other texts).turn m s r reply) next (h.1 next))

    first_for_verdict : (m : M) (n : ℕ) (r : Q × Answer) (reply : Reply) → AlwaysAsksVerdict (one texts) m s n r reply
        → AlwaysAsksVerdict (both_words one other texts) (First m) s n (as_first r) reply
    first_for_verdict m zero r reply h = tt
    first_for_verdict m (suc n) r reply h = (h.0, λ next. first_for_verdict m n ((one texts).turn m s r reply) next (h.1 next))

    second_for_verdict : (m : N) (n : ℕ) (r : R × Answer) (reply : Reply) → AlwaysAsksVerdict (other texts) m s n r reply
        → AlwaysAsksVerdict (both_words one other texts) (Second m) s n (as_second r) reply
    second_for_verdict m zero r reply h = tt
    second_for_verdict m (suc n) r reply h = (h.0, λ next. second_for_verdict m n ((other texts).turn m s r reply) next (h.1 next))

  pub both_ask_no_units : ((texts : Bool) → AsksNoUnits (one texts)) → ((texts : Bool) → AsksNoUnits (other texts)) → (texts : Bool) → AsksNoUnits (both_words one other texts)
  both_ask_no_units first second texts (First m) s mode none = first_for_less texts s m _ _ no_reply (first texts m s mode none)
  both_ask_no_units first second texts (Second m) s mode none = second_for_less texts s m _ _ no_reply (second texts m s mode none)

  pub both_ask_verdicts : ((texts : Bool) → EachAsksVerdicts (one texts)) → ((texts : Bool) → EachAsksVerdicts (other texts)) → (texts : Bool) → EachAsksVerdicts (both_words one other texts)
  both_ask_verdicts first second texts (First m) s = first_for_verdict texts s m _ _ no_reply (first texts m s)
  both_ask_verdicts first second texts (Second m) s = second_for_verdict texts s m _ _ no_reply (second texts m s)

  pub both_grow : {says_one : M → Bool} {says_other : N → Bool} → ((texts : Bool) (m : M) → says_one m ≡ true → IsMonotone (one texts) m)
      → ((texts : Bool) (m : N) → says_other m ≡ true → IsMonotone (other texts) m)
      → (texts : Bool) (m : Both M N) → by_side says_one says_other m ≡ true → IsMonotone (both_words one other texts) m
  both_grow first second texts (First m) says = let h = first texts m says in record { untold = h.untold; grows = h.grows }
  both_grow first second texts (Second m) says = let h = second texts m says in record { untold = h.untold; grows = h.grows }

  pub both_never_told : ((texts : Bool) → NeverTold (one texts)) → ((texts : Bool) → NeverTold (other texts)) → (texts : Bool) → NeverTold (both_words one other texts)
  both_never_told first second texts (First m) = first texts m
  both_never_told first second texts (Second m) = second texts m

  pub both_hand_units_on : {absorbs_one : M → List Text} {absorbs_other : N → List Text} → ((texts : Bool) → EachHandsUnitsOn (one texts) absorbs_one)
      → ((texts : Bool) → EachHandsUnitsOn (other texts) absorbs_other)
      → (texts : Bool) → EachHandsUnitsOn (both_words one other texts) (by_side absorbs_one absorbs_other)
  both_hand_units_on first second texts (First m) s matches answers = let h = first texts m s matches answers in record { own = h.own; absorbed = h.absorbed }
  both_hand_units_on first second texts (Second m) s matches answers = let h = second texts m s matches answers in record { own = h.own; absorbed = h.absorbed }
