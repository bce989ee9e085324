-- A keyword of one of two types keeps the laws that its own type keeps.
use Rattle.std.proofs.Common.{◌≡◌, ◌∙◌, ℕ, ◌<◌, ◌⊎◌, List, Bool, refl, sym, ap₂, subst}
use Rattle.std.specs.Prelude.{Contains}
use Rattle.theory_definitions.specs.Instance.{Subject, Text}
use Rattle.theory_definitions.specs.Reports.{Unit_}
use Rattle.theory_definitions.specs.Matching.{Matching}
use Rattle.theory_definitions.specs.Keywords.{Answer, Answers, Keywords, Marked, Mode, Question, Reply, Turn, ask, done, ecma, for_all, for_first, for_units, for_verdict, mark, match_text, unmark, is_spanned}
use Rattle.theory_definitions.specs.Laws.{AsksRightly, IsRight, first_fault}
use Rattle.theory_definitions.specs.Turns.{FunctionLaws, Standing, TurnLaws, marks_after, next, reply_to, step_at, turned}
use Rattle.keyword_joins.specs.BothWords.{both_can_be, both_ends, both_fits, both_left, both_words, seen}
use Rattle.keyword_joins.specs.Sides.{by_side}
use Rattle.keyword_joins.specs.declared.both.Both.{Both}
use Rattle.keyword_joins.specs.declared.both.Both.TheVariants.{First, Second}

-- ---- two keywords of two types that say the same

module _ {K L Q R : Type 0} (one : Keywords K Q) (k : K) (other : Keywords L R) (l : L) (s : Subject) where
  pub same_asks : one.may_ask k s ≡ other.may_ask l s → (absorbed : List Text) (t : Turn) → AsksRightly one k s absorbed t → AsksRightly other l s absorbed t
  same_asks same absorbed (ask q mode) h = subst (λ qs. Contains qs q) same h
  same_asks same absorbed (match_text a point) h = h
  same_asks same absorbed (mark i) h = tt
  same_asks same absorbed unmark h = tt
  same_asks same absorbed (ecma text) h = tt
  same_asks same absorbed (is_spanned step) h = tt
  same_asks same absorbed done h = tt

  module _ (matches : Matching) (answers : Answers) (unit_at : Question → Unit_) (same : Marked → Marked → Bool) where
    -- the reply to a turn, and the marks after it, do not depend on the keyword
    pub same_reply : (marks : List Marked) (t : Turn) → reply_to one k s matches answers unit_at same marks t ≡ reply_to other l s matches answers unit_at same marks t
    same_reply marks (ask q for_verdict) = refl
    same_reply marks (ask q for_first) = refl
    same_reply marks (ask q for_all) = refl
    same_reply marks (ask q for_units) = refl
    same_reply marks (match_text a point) = refl
    same_reply marks (mark i) = refl
    same_reply marks unmark = refl
    same_reply marks (ecma text) = refl
    same_reply marks (is_spanned step) = refl
    same_reply marks done = refl

    pub same_marks : (marks : List Marked) (t : Turn) → marks_after one k s matches answers unit_at same marks t ≡ marks_after other l s matches answers unit_at same marks t
    same_marks marks (ask q mode) = refl
    same_marks marks (match_text a point) = refl
    same_marks marks (mark i) = refl
    same_marks marks unmark = refl
    same_marks marks (ecma text) = refl
    same_marks marks (is_spanned step) = refl
    same_marks marks done = refl

    pub same_right : one.holds k s matches ≡ other.holds l s matches → one.faults k s matches ≡ other.faults l s matches → one.units k s matches ≡ other.units l s matches
        → (mode : Mode) (a : Answer) → IsRight one k s matches answers unit_at same mode a → IsRight other l s matches answers unit_at same mode a
    same_right holds faults units for_verdict a h = subst (λ f. a.verdict ≡ f (λ q. (answers q).verdict)) holds h
    same_right holds faults units for_first a h = subst (λ f. a.errors ≡ first_fault (f answers)) faults h
    same_right holds faults units for_all a h = subst (λ f. a.errors ≡ f answers) faults h
    same_right holds faults units for_units a h = (subst (λ f. a.gives ≡ f unit_at) units h.0, subst (λ f. a.verdict ≡ f (λ q. (answers q).verdict)) holds h.1)

-- ---- the turns of one of two types

-- the state of a run does not depend on the answer beside it
abbrev pub ShowsAnswer : {M Q : Type 0} → (Bool → Keywords M (Q × Answer)) → Type 0
ShowsAnswer {M} {Q} words = (texts : Bool) (r : Q) (a : Answer) → (words texts).answer (r, a) ≡ a

-- the state of a run after a turn, with these marks and this reply to it
abbrev pub after : {M Q : Type 0} → Keywords M (Q × Answer) → M → Standing (Q × Answer) → List Marked → Reply → Standing (Q × Answer)
after words m x marks reply = record x { marks = marks; state = turned words m x; reply = reply }

module _ {M N Q R : Type 0} (one : Bool → Keywords M (Q × Answer)) (other : Bool → Keywords N (R × Answer))
    (absorbs_one : M → List Text) (absorbs_other : N → List Text)
    (left_one : M → Subject → Q × Answer → ℕ) (left_other : N → Subject → R × Answer → ℕ)
    (can_one : Bool → M → Subject → Q × Answer → Type 0) (can_other : Bool → N → Subject → R × Answer → Type 0)
    (ends_one : Bool → M → Standing (Q × Answer) → Answer) (ends_other : Bool → N → Standing (R × Answer) → Answer)
    (fits_one : Bool → M → Standing (Q × Answer) → Type 0) (fits_other : Bool → N → Standing (R × Answer) → Type 0) where
  abbrev words : Bool → Keywords (Both M N) (Both Q R × Answer)
  words = both_words one other

  abbrev pub Keeps : Bool → Both M N → Type 0
  Keeps texts m = TurnLaws (words texts) m (by_side absorbs_one absorbs_other m) (both_left left_one left_other m) (both_can_be can_one can_other texts m)
      (both_ends ends_one ends_other texts m) (both_fits fits_one fits_other texts m)

  abbrev CanBe : Bool → Both M N → Subject → Both Q R × Answer → Type 0
  CanBe texts m s r = both_can_be can_one can_other texts m s r

  abbrev turns_left : Both M N → Subject → Both Q R × Answer → ℕ
  turns_left m s r = both_left left_one left_other m s r

  -- the same state, with this run in place of its own
  abbrev with_run : Both Q R → Standing (Both Q R × Answer) → Standing (Both Q R × Answer)
  with_run r x = record x { state = (r, x.state.1) }

  abbrev Fits : Bool → Both M N → Standing (Both Q R × Answer) → Type 0
  Fits texts m x = both_fits fits_one fits_other texts m x

  abbrev end_of : Bool → Both M N → Standing (Both Q R × Answer) → Answer
  end_of texts m x = both_ends ends_one ends_other texts m x

  abbrev Kept : Bool → Both M N → Standing (Both Q R × Answer) → Type 0
  Kept texts m x = Fits texts m (next (words texts) m x) × (end_of texts m (next (words texts) m x) ≡ end_of texts m x)

  module _ (texts : Bool) (m : M) (laws : TurnLaws (one texts) m (absorbs_one m) (left_one m) (can_one texts m) (ends_one texts m) (fits_one texts m)) where
    first_goes_on : (s : Subject) (r : Both Q R) (a : Answer) (reply : Reply) → CanBe texts (First m) s (r, a) → CanBe texts (First m) s ((words texts).turn (First m) s (r, a) reply)
    first_goes_on s (First r) a reply can = laws.goes_on s (r, a) reply can
    first_goes_on s (Second r) a reply can = absurd can

    first_falls : (s : Subject) (r : Both Q R) (a : Answer) (reply : Reply) → CanBe texts (First m) s (r, a)
        → ((words texts).step (First m) s (r, a) reply ≡ done) ⊎ (turns_left (First m) s ((words texts).turn (First m) s (r, a) reply) < turns_left (First m) s (r, a))
    first_falls s (First r) a reply can = laws.falls s (r, a) reply can
    first_falls s (Second r) a reply can = absurd can

    first_asks : (s : Subject) (r : Both Q R) (a : Answer) (reply : Reply) → CanBe texts (First m) s (r, a)
        → AsksRightly (words texts) (First m) s (absorbs_one m) ((words texts).step (First m) s (r, a) reply)
    first_asks s (First r) a reply can = same_asks (one texts) m (words texts) (First m) s refl (absorbs_one m) _ (laws.asks s (r, a) reply can)
    first_asks s (Second r) a reply can = absurd can

    first_keeps : (r : Both Q R) (x : Standing (Both Q R × Answer)) → Fits texts (First m) (with_run r x)
        → (step_at (words texts) (First m) (with_run r x) ≡ done → ⊥) → Kept texts (First m) (with_run r x)
    first_keeps (First r) x fits goes =
        let y : Standing (Q × Answer) = seen x r in
        let t : Turn = step_at (one texts) m y in
        subst (λ z. fits_one texts m z × (ends_one texts m z ≡ ends_one texts m y))
        (ap₂ (after (one texts) m y) (same_marks (one texts) m (words texts) (First m) x.subject x.matches x.answers x.unit_at x.same x.marks t)
        (same_reply (one texts) m (words texts) (First m) x.subject x.matches x.answers x.unit_at x.same x.marks t))
        (laws.keeps y fits goes)
    first_keeps (Second r) x fits goes = absurd fits

    first_stands : ShowsAnswer one → (r : Both Q R) (x : Standing (Both Q R × Answer)) → Fits texts (First m) (with_run r x)
        → step_at (words texts) (First m) (with_run r x) ≡ done → (words texts).answer (turned (words texts) (First m) (with_run r x)) ≡ end_of texts (First m) (with_run r x)
    first_stands shows (First r) x fits ends = let t = turned (one texts) m (seen x r) in sym (shows texts t.0 t.1) ∙ laws.stands (seen x r) fits ends
    first_stands shows (Second r) x fits ends = absurd fits

    first_turns : ShowsAnswer one → Keeps texts (First m)
    first_turns shows = record {
      bounded = laws.bounded;
      starts = laws.starts;
      goes_on = λ s r reply can. first_goes_on s r.0 r.1 reply can;
      falls = λ s r reply can. first_falls s r.0 r.1 reply can;
      asks = λ s r reply can. first_asks s r.0 r.1 reply can;
      begins = λ s mode matches a u same agrees valid alike. let begun = laws.begins s mode matches a u same agrees valid alike in
          (begun.0, same_right (one texts) m (words texts) (First m) s matches a u same refl refl refl mode _ begun.1);
      keeps = λ x fits goes. first_keeps x.state.0 x fits goes;
      stands = λ x fits ends. first_stands shows x.state.0 x fits ends;
    }

  module _ (texts : Bool) (m : N) (laws : TurnLaws (other texts) m (absorbs_other m) (left_other m) (can_other texts m) (ends_other texts m) (fits_other texts m)) where
    second_goes_on : (s : Subject) (r : Both Q R) (a : Answer) (reply : Reply) → CanBe texts (Second m) s (r, a) → CanBe texts (Second m) s ((words texts).turn (Second m) s (r, a) reply)
    second_goes_on s (Second r) a reply can = laws.goes_on s (r, a) reply can
    second_goes_on s (First r) a reply can = absurd can

    second_falls : (s : Subject) (r : Both Q R) (a : Answer) (reply : Reply) → CanBe texts (Second m) s (r, a)
        → ((words texts).step (Second m) s (r, a) reply ≡ done) ⊎ (turns_left (Second m) s ((words texts).turn (Second m) s (r, a) reply) < turns_left (Second m) s (r, a))
    second_falls s (Second r) a reply can = laws.falls s (r, a) reply can
    second_falls s (First r) a reply can = absurd can

    second_asks : (s : Subject) (r : Both Q R) (a : Answer) (reply : Reply) → CanBe texts (Second m) s (r, a)
        → AsksRightly (words texts) (Second m) s (absorbs_other m) ((words texts).step (Second m) s (r, a) reply)
    second_asks s (Second r) a reply can = same_asks (other texts) m (words texts) (Second m) s refl (absorbs_other m) _ (laws.asks s (r, a) reply can)
    second_asks s (First r) a reply can = absurd can

    second_keeps : (r : Both Q R) (x : Standing (Both Q R × Answer)) → Fits texts (Second m) (with_run r x)
        → (step_at (words texts) (Second m) (with_run r x) ≡ done → ⊥) → Kept texts (Second m) (with_run r x)
    second_keeps (Second r) x fits goes =
        let y : Standing (R × Answer) = seen x r in
        let t : Turn = step_at (other texts) m y in
        subst (λ z. fits_other texts m z × (ends_other texts m z ≡ ends_other texts m y))
        (ap₂ (after (other texts) m y) (same_marks (other texts) m (words texts) (Second m) x.subject x.matches x.answers x.unit_at x.same x.marks t)
        (same_reply (other texts) m (words texts) (Second m) x.subject x.matches x.answers x.unit_at x.same x.marks t))
        (laws.keeps y fits goes)
    second_keeps (First r) x fits goes = absurd fits

    second_stands : ShowsAnswer other → (r : Both Q R) (x : Standing (Both Q R × Answer)) → Fits texts (Second m) (with_run r x)
        → step_at (words texts) (Second m) (with_run r x) ≡ done → (words texts).answer (turned (words texts) (Second m) (with_run r x)) ≡ end_of texts (Second m) (with_run r x)
    second_stands shows (Second r) x fits ends = let t = turned (other texts) m (seen x r) in sym (shows texts t.0 t.1) ∙ laws.stands (seen x r) fits ends
    second_stands shows (First r) x fits ends = absurd fits

    second_turns : ShowsAnswer other → Keeps texts (Second m)
    second_turns shows = record {
      bounded = laws.bounded;
      starts = laws.starts;
      goes_on = λ s r reply can. second_goes_on s r.0 r.1 reply can;
      falls = λ s r reply can. second_falls s r.0 r.1 reply can;
      asks = λ s r reply can. second_asks s r.0 r.1 reply can;
      begins = λ s mode matches a u same agrees valid alike. let begun = laws.begins s mode matches a u same agrees valid alike in
          (begun.0, same_right (other texts) m (words texts) (Second m) s matches a u same refl refl refl mode _ begun.1);
      keeps = λ x fits goes. second_keeps x.state.0 x fits goes;
      stands = λ x fits ends. second_stands shows x.state.0 x fits ends;
    }

  pub both_turn_laws : ShowsAnswer one → ShowsAnswer other
      → ((texts : Bool) (m : M) → TurnLaws (one texts) m (absorbs_one m) (left_one m) (can_one texts m) (ends_one texts m) (fits_one texts m))
      → ((texts : Bool) (m : N) → TurnLaws (other texts) m (absorbs_other m) (left_other m) (can_other texts m) (ends_other texts m) (fits_other texts m))
      → (texts : Bool) (m : Both M N) → Keeps texts m
  both_turn_laws shows_one shows_other laws_one laws_other texts (First m) = first_turns texts m (laws_one texts m) shows_one
  both_turn_laws shows_one shows_other laws_one laws_other texts (Second m) = second_turns texts m (laws_other texts m) shows_other

-- ---- its functions

pub both_function_laws : {M N Q R : Type 0} (one : Bool → Keywords M (Q × Answer)) (other : Bool → Keywords N (R × Answer)) {absorbs_one : M → List Text} {absorbs_other : N → List Text}
    → ((texts : Bool) (m : M) → FunctionLaws (one texts) m (absorbs_one m)) → ((texts : Bool) (m : N) → FunctionLaws (other texts) m (absorbs_other m))
    → (texts : Bool) (m : Both M N) → FunctionLaws (both_words one other texts) m (by_side absorbs_one absorbs_other m)
both_function_laws one other laws_one laws_other texts (First m) = let laws = laws_one texts m in record {
  present = laws.present;
  agree = laws.agree;
  units_valid = laws.units_valid;
  holds_reads = laws.holds_reads;
  faults_read = laws.faults_read;
  units_read = laws.units_read;
  spans_read = laws.spans_read;
  spans_stand = laws.spans_stand;
  told_spans = laws.told_spans;
  stands = laws.stands;
  passes = laws.passes;
}
both_function_laws one other laws_one laws_other texts (Second m) = let laws = laws_other texts m in record {
  present = laws.present;
  agree = laws.agree;
  units_valid = laws.units_valid;
  holds_reads = laws.holds_reads;
  faults_read = laws.faults_read;
  units_read = laws.units_read;
  spans_read = laws.spans_read;
  spans_stand = laws.spans_stand;
  told_spans = laws.told_spans;
  stands = laws.stands;
  passes = laws.passes;
}
