-- The turns of a keyword's run for its verdict: it asks only for verdicts, whatever the replies
-- are.
use Rattle.std.proofs.Common.{◌≡◌, ◌∙◌, ℕ, zero, suc, ◌<◌, Bool, List, sym, ap, subst, arith}
use Rattle.theory_definitions.specs.Instance.{Subject, Text}
use Rattle.theory_definitions.specs.Keywords.{Answer, Keywords, Mode, Question, Reply, Turn, ask, done, for_verdict, no_reply, truth}
use Rattle.theory_definitions.specs.Remembering.{AlwaysAsksVerdict, AsksVerdict, EachAsksVerdicts}
use Rattle.theory_definitions.specs.Reports.{Outcome, Unit_}
use Rattle.theory_definitions.specs.Turns.{Standing, TurnLaws}
use Rattle.schema_run_steps.specs.ReplyModes.{reply_by}
use Rattle.schema_run_steps.proofs.KeywordTurns.{falls_turned}
use Rattle.theory_runs.specs.UnitStates.{reply_with}
use Rattle.theory_runs.specs.VerdictTurns.{AsksVerdictsOn}

module _ {K R : Type 0} (keywords : Keywords K R) (m : K) (absorbed : List Text) (remaining : Subject → R → ℕ) (can_be : Subject → R → Type 0) (end_of : Standing R → Answer) (Fits : Standing R → Type 0)
    (laws : TurnLaws keywords m absorbed remaining can_be end_of Fits) (s : Subject) where
  abbrev Asks : R → Reply → Type 0
  Asks r reply = AsksVerdictsOn keywords m s (remaining s r) r reply

  pub asks_begun : EachAsksVerdicts keywords → (mode : Mode) → mode ≡ for_verdict → (r : R) → keywords.begin m s mode ≡ r → Asks r no_reply
  asks_begun asks mode wanted r is = subst (λ u. Asks u no_reply) (ap (keywords.begin m s) (sym wanted) ∙ is) (keywords.most_turns m s, laws.bounded s for_verdict, asks m s)

  pub asks_on : (r r' : R) (reply reply' : Reply) (t : Turn) → can_be s r → keywords.turn m s r reply ≡ r' → keywords.step m s r reply ≡ t → ¬ (t ≡ done) → Asks r reply → Asks r' reply'
  asks_on r r' reply reply' t can turn step more (n, low, asks) = go n low asks
    where
      falls : remaining s r' < remaining s r
      falls = falls_turned keywords m absorbed remaining can_be end_of Fits laws s r r' reply t can turn step more

      go : (n : ℕ) → remaining s r < n → AlwaysAsksVerdict keywords m s n r reply → Asks r' reply'
      go zero low asks = absurd (omega (arith, low))
      go (suc n) low asks = (n, omega (arith, low, falls), subst (λ u. AlwaysAsksVerdict keywords m s n u reply') turn (asks.1 reply'))

  pub asked_verdict : (r : R) (reply : Reply) (q : Question) (mode : Mode) → keywords.step m s r reply ≡ ask q mode → Asks r reply → mode ≡ for_verdict
  asked_verdict r reply q mode step (n, low, asks) = go n low asks
    where
      go : (n : ℕ) → remaining s r < n → AlwaysAsksVerdict keywords m s n r reply → mode ≡ for_verdict
      go zero low asks = absurd (omega (arith, low))
      go (suc n) low asks = subst AsksVerdict step asks.0

  -- With a reply that equals the one of the turn.
  pub turned_by : (r r' : R) (reply reply' : Reply) → reply ≡ reply' → keywords.turn m s r reply ≡ r' → keywords.turn m s r reply' ≡ r'
  turned_by r r' reply reply' is turned = ap (keywords.turn m s r) (sym is) ∙ turned

  pub stepped_by : (r : R) (reply reply' : Reply) (t : Turn) → reply ≡ reply' → keywords.step m s r reply ≡ t → keywords.step m s r reply' ≡ t
  stepped_by r reply reply' t is stepped = ap (keywords.step m s r) (sym is) ∙ stepped

-- A verdict that is asked for, as the reply of its mode.
pub verdict_told : (mode wanted : Mode) (b : Bool) (o : Outcome) (u : Unit_) → mode ≡ for_verdict → wanted ≡ for_verdict → truth b ≡ reply_by mode o → truth b ≡ reply_with wanted o u
verdict_told mode wanted b o u is asked says = subst (λ z. truth b ≡ reply_with z o u) (sym asked) (subst (λ z. truth b ≡ reply_by z o) is says)
