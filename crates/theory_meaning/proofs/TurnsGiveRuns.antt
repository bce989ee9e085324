-- The laws of `begin` and of one turn imply that whole runs end rightly.
use Rattle.std.proofs.Common.{arith, ◌≡◌, ℕ, zero, suc, ◌<◌, List, [], refl, sym, subst, ◌∙◌, ◌⊎◌, inl, inr}
use Rattle.std.specs.Prelude.{Bool, Option, Some}
use Rattle.std.specs.List.{list_any}
use Rattle.theory_definitions.specs.Instance.{Subject, Text}
use Rattle.theory_definitions.specs.Reports.{Unit_, report_of}
use Rattle.theory_definitions.specs.Matching.{Matching}
use Rattle.theory_definitions.specs.Keywords.{Question, Marked, Mode, Answers, Reply, no_reply, truth, Turn, ask, match_text, mark, unmark, ecma, done, Answer, Keywords, is_spanned}
use Rattle.theory_definitions.specs.Laws.{Agrees, AnsweredAlike, AlwaysAsksRightly, EndsWithin, KeepsLaws, answer_in, ended, IsRight, EndsRightly}
use Rattle.theory_definitions.specs.Runs.{with_mark, without_last}
use Rattle.theory_definitions.specs.Turns.{FunctionLaws, reply_to, marks_after, Standing, TurnLaws}

module _ {K R : Type 0} (keywords : Keywords K R) (m : K) (absorbed : List Text) (remaining : Subject → R → ℕ) (can_be : Subject → R → Type 0) (end_of : Standing R → Answer) (Fits : Standing R → Type 0)
    (laws : TurnLaws keywords m absorbed remaining can_be end_of Fits) where
  -- A number that decreases with each turn bounds the turns.
  ends_within : (s : Subject) (n : ℕ) (r : R) (reply : Reply) → can_be s r → remaining s r < n → EndsWithin keywords m s n r reply
  ends_within s zero r reply can less = absurd (omega arith)
  ends_within s (suc n) r reply can less = go (laws.falls s r reply can) (λ next fewer. ends_within s n (keywords.turn m s r reply) next (laws.goes_on s r reply can) fewer)
    where
      go : (keywords.step m s r reply ≡ done) ⊎ (remaining s (keywords.turn m s r reply) < remaining s r)
          → ((next : Reply) → remaining s (keywords.turn m s r reply) < n → EndsWithin keywords m s n (keywords.turn m s r reply) next)
          → (keywords.step m s r reply ≡ done) ⊎ ((next : Reply) → EndsWithin keywords m s n (keywords.turn m s r reply) next)
      go (inl stop) again = inl stop
      go (inr fewer) again = inr (λ next. again next (omega arith))

  always_asks : (s : Subject) (n : ℕ) (r : R) (reply : Reply) → can_be s r → AlwaysAsksRightly keywords m s absorbed n r reply
  always_asks s zero r reply can = tt
  always_asks s (suc n) r reply can = (laws.asks s r reply can, λ next. always_asks s n (keywords.turn m s r reply) next (laws.goes_on s r reply can))

  module _ (s : Subject) (matches : Matching) (a : Answers) (u : Question → Unit_) (same : Marked → Marked → Bool) where
    abbrev at : List Marked → R → Reply → Standing R
    at marks r reply = record { subject = s; matches = matches; answers = a; unit_at = u; same = same; marks = marks; state = r; reply = reply }

    abbrev Ended : ℕ → List Marked → R → Reply → Option R
    Ended = ended keywords m s matches a u same

    abbrev To : List Marked → Turn → Reply
    To = reply_to keywords m s matches a u same

    abbrev After : List Marked → Turn → List Marked
    After = marks_after keywords m s matches a u same

    Reaches : ℕ → List Marked → R → Reply → Answer → Type 0
    Reaches n marks r reply end = (r' : R) × (Ended n marks r reply ≡ Some r') × (keywords.answer r' ≡ end)

    reaches : (n : ℕ) (marks : List Marked) (r : R) (reply : Reply) → EndsWithin keywords m s n r reply → Fits (at marks r reply) → Reaches n marks r reply (end_of (at marks r reply))
    unfolding Reaches
    reaches zero marks r reply within fits = absurd within
    reaches (suc n) marks r reply within fits = go (keywords.step m s r reply) refl within (λ marks' again w f. reaches n marks' (keywords.turn m s r reply) again w f)
      where
        on : (t : Turn) → keywords.step m s r reply ≡ t → (t ≡ done → ⊥) → ((again : Reply) → EndsWithin keywords m s n (keywords.turn m s r reply) again)
            → ((marks' : List Marked) (again : Reply) → EndsWithin keywords m s n (keywords.turn m s r reply) again → Fits (at marks' (keywords.turn m s r reply) again)
            → (r' : R) × (Ended n marks' (keywords.turn m s r reply) again ≡ Some r') × (keywords.answer r' ≡ end_of (at marks' (keywords.turn m s r reply) again)))
            → (r' : R) × (Ended n (After marks t) (keywords.turn m s r reply) (To marks t) ≡ Some r') × (keywords.answer r' ≡ end_of (at marks r reply))
        on t is not_done w rec =
            let kept : Fits (at (After marks t) (keywords.turn m s r reply) (To marks t)) × (end_of (at (After marks t) (keywords.turn m s r reply) (To marks t)) ≡ end_of (at marks r reply))
            = subst (λ z. Fits (at (After marks z) (keywords.turn m s r reply) (To marks z)) × (end_of (at (After marks z) (keywords.turn m s r reply) (To marks z)) ≡ end_of (at marks r reply))) is
            (laws.keeps (at marks r reply) fits (λ e. not_done (sym is ∙ e))) in
            let (r', it, right) = rec (After marks t) (To marks t) (w (To marks t)) kept.0 in
            (r', it, right ∙ kept.1)

        go : (t : Turn) → keywords.step m s r reply ≡ t
            → (keywords.step m s r reply ≡ done) ⊎ ((again : Reply) → EndsWithin keywords m s n (keywords.turn m s r reply) again)
            → ((marks' : List Marked) (again : Reply) → EndsWithin keywords m s n (keywords.turn m s r reply) again → Fits (at marks' (keywords.turn m s r reply) again)
            → (r' : R) × (Ended n marks' (keywords.turn m s r reply) again ≡ Some r') × (keywords.answer r' ≡ end_of (at marks' (keywords.turn m s r reply) again)))
            → (r' : R)
            × (◌≡◌ {A = Option R} (elim t [
              | ask q mode ↦ Ended n marks (keywords.turn m s r reply) (answer_in keywords m s matches a u same mode q)
              | match_text b point ↦ Ended n marks (keywords.turn m s r reply) (truth (matches.matches b.pattern b.subject))
              | mark i ↦ Ended n (with_mark same i marks) (keywords.turn m s r reply) (truth (list_any (same i) marks))
              | unmark ↦ Ended n (without_last marks) (keywords.turn m s r reply) no_reply
              | ecma text ↦ Ended n marks (keywords.turn m s r reply) (truth (matches.is_ecma text))
              | is_spanned step ↦ Ended n marks (keywords.turn m s r reply) (truth (matches.spanned step))
              | done ↦ Some (keywords.turn m s r reply)
            ]) (Some r'))
            × (keywords.answer r' ≡ end_of (at marks r reply))
        go done is w rec = (keywords.turn m s r reply, refl, laws.stands (at marks r reply) fits is)
        go t is (inl stop) rec = (keywords.turn m s r reply, by t (sym is ∙ stop), laws.stands (at marks r reply) fits stop)
          where
            by : (t : Turn) → t ≡ done → ◌≡◌ {A = Option R} (elim t [
              | ask q mode ↦ Ended n marks (keywords.turn m s r reply) (answer_in keywords m s matches a u same mode q)
              | match_text b point ↦ Ended n marks (keywords.turn m s r reply) (truth (matches.matches b.pattern b.subject))
              | mark i ↦ Ended n (with_mark same i marks) (keywords.turn m s r reply) (truth (list_any (same i) marks))
              | unmark ↦ Ended n (without_last marks) (keywords.turn m s r reply) no_reply
              | ecma text ↦ Ended n marks (keywords.turn m s r reply) (truth (matches.is_ecma text))
              | is_spanned step ↦ Ended n marks (keywords.turn m s r reply) (truth (matches.spanned step))
              | done ↦ Some (keywords.turn m s r reply)
            ]) (Some (keywords.turn m s r reply))
            by done e = refl
            by (ask q mode) e = absurd (cc e)
            by (match_text b point) e = absurd (cc e)
            by (mark i) e = absurd (cc e)
            by unmark e = absurd (cc e)
            by (ecma text) e = absurd (cc e)
            by (is_spanned step) e = absurd (cc e)
        go (ask q mode) is (inr w) rec = on (ask q mode) is (λ e. absurd (cc e)) w rec
        go (match_text b point) is (inr w) rec = on (match_text b point) is (λ e. absurd (cc e)) w rec
        go (mark i) is (inr w) rec = on (mark i) is (λ e. absurd (cc e)) w rec
        go unmark is (inr w) rec = on unmark is (λ e. absurd (cc e)) w rec
        go (ecma text) is (inr w) rec = on (ecma text) is (λ e. absurd (cc e)) w rec
        go (is_spanned step) is (inr w) rec = on (is_spanned step) is (λ e. absurd (cc e)) w rec

    ends_rightly : (mode : Mode) → ((q : Question) → Agrees (a q)) → ((q : Question) → (report_of (u q)).valid ≡ (a q).verdict) → AnsweredAlike same a → EndsRightly keywords m s matches a u same mode
    unfolding Reaches
    ends_rightly mode agrees valid alike =
        let (fits, right) = laws.begins s mode matches a u same agrees valid alike in
        let within : EndsWithin keywords m s (keywords.most_turns m s) (keywords.begin m s mode) no_reply = ends_within s (keywords.most_turns m s) (keywords.begin m s mode) no_reply (laws.starts s mode) (laws.bounded s mode) in
        let (r, is, stands) = reaches (keywords.most_turns m s) [] (keywords.begin m s mode) no_reply within fits in
        (r, is, subst (IsRight keywords m s matches a u same mode) (sym stands) right)

  -- The laws of turns imply the laws of whole runs.
  pub keeps_of_turns : FunctionLaws keywords m absorbed → KeepsLaws keywords m absorbed
  keeps_of_turns functions = record {
    ends = λ s mode. ends_within s (keywords.most_turns m s) (keywords.begin m s mode) no_reply (laws.starts s mode) (laws.bounded s mode);
    present = functions.present;
    asks = λ s mode. always_asks s (keywords.most_turns m s) (keywords.begin m s mode) no_reply (laws.starts s mode);
    answers = λ s mode matches a u same agrees valid alike. ends_rightly s matches a u same mode agrees valid alike;
    agree = functions.agree;
    units_valid = functions.units_valid;
    holds_reads = functions.holds_reads;
    faults_read = functions.faults_read;
    units_read = functions.units_read;
    spans_read = functions.spans_read;
    spans_stand = functions.spans_stand;
    told_spans = functions.told_spans;
    stands = functions.stands;
    passes = functions.passes;
  }
