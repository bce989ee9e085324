-- A keyword of one of the families keeps the laws that its own type keeps.
use Rattle.std.proofs.Common.{◌≡◌, ◌∙◌, ℕ, ◌<◌, ◌⊎◌, List, Bool, refl, sym, ap₂, subst}
use Rattle.theory_definitions.specs.Instance.{Subject, Text}
use Rattle.theory_definitions.specs.Keywords.{Answer, Keywords, Reply, Turn, done}
use Rattle.theory_definitions.specs.Laws.{AsksRightly}
use Rattle.theory_definitions.specs.Turns.{FunctionLaws, Standing, TurnLaws, next, step_at, turned}
use Rattle.keyword_joins.specs.BothLaws.{ShowsAnswer, after, same_asks, same_marks, same_reply, same_right}
use Rattle.keyword_joins.specs.BothWords.{seen}
use Rattle.standard_keywords.specs.Families.{by_family}
use Rattle.standard_keywords.specs.FamilyWords.{family_can_be, family_ends, family_fits, family_left, family_words}
use Rattle.standard_keywords.specs.declared.family.Family.{Family}
use Rattle.standard_keywords.specs.declared.family.Family.TheVariants.{Applicator, Assertion, Basic, Format, PatternProperties}

-- ---- the turns of its runs

module _ {MA ML MP MF MB RA RL RP RF RB : Type 0} (assertions : Bool → Keywords MA (RA × Answer)) (applicators : Bool → Keywords ML (RL × Answer)) (patterns : Bool → Keywords MP (RP × Answer)) (formats : Bool → Keywords MF (RF × Answer)) (basics : Bool → Keywords MB (RB × Answer))
    (absorbed_a : MA → List Text) (absorbed_l : ML → List Text) (absorbed_p : MP → List Text) (absorbed_f : MF → List Text) (absorbed_b : MB → List Text)
    (left_a : MA → Subject → RA × Answer → ℕ) (left_l : ML → Subject → RL × Answer → ℕ) (left_p : MP → Subject → RP × Answer → ℕ) (left_f : MF → Subject → RF × Answer → ℕ) (left_b : MB → Subject → RB × Answer → ℕ)
    (can_a : Bool → MA → Subject → RA × Answer → Type 0) (can_l : Bool → ML → Subject → RL × Answer → Type 0) (can_p : Bool → MP → Subject → RP × Answer → Type 0) (can_f : Bool → MF → Subject → RF × Answer → Type 0) (can_b : Bool → MB → Subject → RB × Answer → Type 0)
    (ends_a : Bool → MA → Standing (RA × Answer) → Answer) (ends_l : Bool → ML → Standing (RL × Answer) → Answer) (ends_p : Bool → MP → Standing (RP × Answer) → Answer) (ends_f : Bool → MF → Standing (RF × Answer) → Answer) (ends_b : Bool → MB → Standing (RB × Answer) → Answer)
    (fits_a : Bool → MA → Standing (RA × Answer) → Type 0) (fits_l : Bool → ML → Standing (RL × Answer) → Type 0) (fits_p : Bool → MP → Standing (RP × Answer) → Type 0) (fits_f : Bool → MF → Standing (RF × Answer) → Type 0) (fits_b : Bool → MB → Standing (RB × Answer) → Type 0) where
  abbrev Shapes : Type 0
  Shapes = Family MA ML MP MF MB

  abbrev Runs : Type 0
  Runs = Family RA RL RP RF RB

  abbrev words : Bool → Keywords Shapes (Runs × Answer)
  words = family_words assertions applicators patterns formats basics

  abbrev pub Keeps : Bool → Shapes → Type 0
  Keeps texts m = TurnLaws (words texts) m (by_family absorbed_a absorbed_l absorbed_p absorbed_f absorbed_b m) (family_left left_a left_l left_p left_f left_b m) (family_can_be can_a can_l can_p can_f can_b texts m)
      (family_ends ends_a ends_l ends_p ends_f ends_b texts m) (family_fits fits_a fits_l fits_p fits_f fits_b texts m)

  abbrev CanBe : Bool → Shapes → Subject → Runs × Answer → Type 0
  CanBe texts m s r = family_can_be can_a can_l can_p can_f can_b texts m s r

  abbrev turns_left : Shapes → Subject → Runs × Answer → ℕ
  turns_left m s r = family_left left_a left_l left_p left_f left_b m s r

  -- the same state, with this run in place of its own
  abbrev with_run : Runs → Standing (Runs × Answer) → Standing (Runs × Answer)
  with_run r x = record x { state = (r, x.state.1) }

  abbrev Fits : Bool → Shapes → Standing (Runs × Answer) → Type 0
  Fits texts m x = family_fits fits_a fits_l fits_p fits_f fits_b texts m x

  abbrev end_of : Bool → Shapes → Standing (Runs × Answer) → Answer
  end_of texts m x = family_ends ends_a ends_l ends_p ends_f ends_b texts m x

  abbrev Kept : Bool → Shapes → Standing (Runs × Answer) → Type 0
  Kept texts m x = Fits texts m (next (words texts) m x) × (end_of texts m (next (words texts) m x) ≡ end_of texts m x)

  module _ (texts : Bool) (m : MA) (laws : TurnLaws (assertions texts) m (absorbed_a m) (left_a m) (can_a texts m) (ends_a texts m) (fits_a texts m)) where
    assertion_goes_on : (s : Subject) (r : Runs) (a : Answer) (reply : Reply) → CanBe texts (Assertion m) s (r, a) → CanBe texts (Assertion m) s ((words texts).turn (Assertion m) s (r, a) reply)
    assertion_goes_on s (Assertion r) a reply can = laws.goes_on s (r, a) reply can
    assertion_goes_on s r a reply can = absurd can

    assertion_falls : (s : Subject) (r : Runs) (a : Answer) (reply : Reply) → CanBe texts (Assertion m) s (r, a)
        → ((words texts).step (Assertion m) s (r, a) reply ≡ done) ⊎ (turns_left (Assertion m) s ((words texts).turn (Assertion m) s (r, a) reply) < turns_left (Assertion m) s (r, a))
    assertion_falls s (Assertion r) a reply can = laws.falls s (r, a) reply can
    assertion_falls s r a reply can = absurd can

    assertion_asks : (s : Subject) (r : Runs) (a : Answer) (reply : Reply) → CanBe texts (Assertion m) s (r, a)
        → AsksRightly (words texts) (Assertion m) s (absorbed_a m) ((words texts).step (Assertion m) s (r, a) reply)
    assertion_asks s (Assertion r) a reply can = same_asks (assertions texts) m (words texts) (Assertion m) s refl (absorbed_a m) _ (laws.asks s (r, a) reply can)
    assertion_asks s r a reply can = absurd can

    assertion_keeps : (r : Runs) (x : Standing (Runs × Answer)) → Fits texts (Assertion m) (with_run r x)
        → (step_at (words texts) (Assertion m) (with_run r x) ≡ done → ⊥) → Kept texts (Assertion m) (with_run r x)
    assertion_keeps (Assertion r) x fits goes =
        let y : Standing (RA × Answer) = seen x r in
        let t : Turn = step_at (assertions texts) m y in
        subst (λ z. fits_a texts m z × (ends_a texts m z ≡ ends_a texts m y))
        (ap₂ (after (assertions texts) m y) (same_marks (assertions texts) m (words texts) (Assertion m) x.subject x.matches x.answers x.unit_at x.same x.marks t)
        (same_reply (assertions texts) m (words texts) (Assertion m) x.subject x.matches x.answers x.unit_at x.same x.marks t))
        (laws.keeps y fits goes)
    assertion_keeps r x fits goes = absurd fits

    assertion_stands : ShowsAnswer assertions → (r : Runs) (x : Standing (Runs × Answer)) → Fits texts (Assertion m) (with_run r x)
        → step_at (words texts) (Assertion m) (with_run r x) ≡ done → (words texts).answer (turned (words texts) (Assertion m) (with_run r x)) ≡ end_of texts (Assertion m) (with_run r x)
    assertion_stands shows (Assertion r) x fits ends = let t = turned (assertions texts) m (seen x r) in sym (shows texts t.0 t.1) ∙ laws.stands (seen x r) fits ends
    assertion_stands shows r x fits ends = absurd fits

    assertion_turns : ShowsAnswer assertions → Keeps texts (Assertion m)
    assertion_turns shows = record {
      bounded = laws.bounded;
      starts = laws.starts;
      goes_on = λ s r reply can. assertion_goes_on s r.0 r.1 reply can;
      falls = λ s r reply can. assertion_falls s r.0 r.1 reply can;
      asks = λ s r reply can. assertion_asks s r.0 r.1 reply can;
      begins = λ s mode matches a u same agrees valid alike. let begun = laws.begins s mode matches a u same agrees valid alike in
          (begun.0, same_right (assertions texts) m (words texts) (Assertion m) s matches a u same refl refl refl mode _ begun.1);
      keeps = λ x fits goes. assertion_keeps x.state.0 x fits goes;
      stands = λ x fits ends. assertion_stands shows x.state.0 x fits ends;
    }

  module _ (texts : Bool) (m : ML) (laws : TurnLaws (applicators texts) m (absorbed_l m) (left_l m) (can_l texts m) (ends_l texts m) (fits_l texts m)) where
    applicator_goes_on : (s : Subject) (r : Runs) (a : Answer) (reply : Reply) → CanBe texts (Applicator m) s (r, a) → CanBe texts (Applicator m) s ((words texts).turn (Applicator m) s (r, a) reply)
    applicator_goes_on s (Applicator r) a reply can = laws.goes_on s (r, a) reply can
    applicator_goes_on s r a reply can = absurd can

    applicator_falls : (s : Subject) (r : Runs) (a : Answer) (reply : Reply) → CanBe texts (Applicator m) s (r, a)
        → ((words texts).step (Applicator m) s (r, a) reply ≡ done) ⊎ (turns_left (Applicator m) s ((words texts).turn (Applicator m) s (r, a) reply) < turns_left (Applicator m) s (r, a))
    applicator_falls s (Applicator r) a reply can = laws.falls s (r, a) reply can
    applicator_falls s r a reply can = absurd can

    applicator_asks : (s : Subject) (r : Runs) (a : Answer) (reply : Reply) → CanBe texts (Applicator m) s (r, a)
        → AsksRightly (words texts) (Applicator m) s (absorbed_l m) ((words texts).step (Applicator m) s (r, a) reply)
    applicator_asks s (Applicator r) a reply can = same_asks (applicators texts) m (words texts) (Applicator m) s refl (absorbed_l m) _ (laws.asks s (r, a) reply can)
    applicator_asks s r a reply can = absurd can

    applicator_keeps : (r : Runs) (x : Standing (Runs × Answer)) → Fits texts (Applicator m) (with_run r x)
        → (step_at (words texts) (Applicator m) (with_run r x) ≡ done → ⊥) → Kept texts (Applicator m) (with_run r x)
    applicator_keeps (Applicator r) x fits goes =
        let y : Standing (RL × Answer) = seen x r in
        let t : Turn = step_at (applicators texts) m y in
        subst (λ z. fits_l texts m z × (ends_l texts m z ≡ ends_l texts m y))
        (ap₂ (after (applicators texts) m y) (same_marks (applicators texts) m (words texts) (Applicator m) x.subject x.matches x.answers x.unit_at x.same x.marks t)
        (same_reply (applicators texts) m (words texts) (Applicator m) x.subject x.matches x.answers x.unit_at x.same x.marks t))
        (laws.keeps y fits goes)
    applicator_keeps r x fits goes = absurd fits

    applicator_stands : ShowsAnswer applicators → (r : Runs) (x : Standing (Runs × Answer)) → Fits texts (Applicator m) (with_run r x)
        → step_at (words texts) (Applicator m) (with_run r x) ≡ done → (words texts).answer (turned (words texts) (Applicator m) (with_run r x)) ≡ end_of texts (Applicator m) (with_run r x)
    applicator_stands shows (Applicator r) x fits ends = let t = turned (applicators texts) m (seen x r) in sym (shows texts t.0 t.1) ∙ laws.stands (seen x r) fits ends
    applicator_stands shows r x fits ends = absurd fits

    applicator_turns : ShowsAnswer applicators → Keeps texts (Applicator m)
    applicator_turns shows = record {
      bounded = laws.bounded;
      starts = laws.starts;
      goes_on = λ s r reply can. applicator_goes_on s r.0 r.1 reply can;
      falls = λ s r reply can. applicator_falls s r.0 r.1 reply can;
      asks = λ s r reply can. applicator_asks s r.0 r.1 reply can;
      begins = λ s mode matches a u same agrees valid alike. let begun = laws.begins s mode matches a u same agrees valid alike in
          (begun.0, same_right (applicators texts) m (words texts) (Applicator m) s matches a u same refl refl refl mode _ begun.1);
      keeps = λ x fits goes. applicator_keeps x.state.0 x fits goes;
      stands = λ x fits ends. applicator_stands shows x.state.0 x fits ends;
    }

  module _ (texts : Bool) (m : MP) (laws : TurnLaws (patterns texts) m (absorbed_p m) (left_p m) (can_p texts m) (ends_p texts m) (fits_p texts m)) where
    pattern_goes_on : (s : Subject) (r : Runs) (a : Answer) (reply : Reply) → CanBe texts (PatternProperties m) s (r, a) → CanBe texts (PatternProperties m) s ((words texts).turn (PatternProperties m) s (r, a) reply)
    pattern_goes_on s (PatternProperties r) a reply can = laws.goes_on s (r, a) reply can
    pattern_goes_on s r a reply can = absurd can

    pattern_falls : (s : Subject) (r : Runs) (a : Answer) (reply : Reply) → CanBe texts (PatternProperties m) s (r, a)
        → ((words texts).step (PatternProperties m) s (r, a) reply ≡ done) ⊎ (turns_left (PatternProperties m) s ((words texts).turn (PatternProperties m) s (r, a) reply) < turns_left (PatternProperties m) s (r, a))
    pattern_falls s (PatternProperties r) a reply can = laws.falls s (r, a) reply can
    pattern_falls s r a reply can = absurd can

    pattern_asks : (s : Subject) (r : Runs) (a : Answer) (reply : Reply) → CanBe texts (PatternProperties m) s (r, a)
        → AsksRightly (words texts) (PatternProperties m) s (absorbed_p m) ((words texts).step (PatternProperties m) s (r, a) reply)
    pattern_asks s (PatternProperties r) a reply can = same_asks (patterns texts) m (words texts) (PatternProperties m) s refl (absorbed_p m) _ (laws.asks s (r, a) reply can)
    pattern_asks s r a reply can = absurd can

    pattern_keeps : (r : Runs) (x : Standing (Runs × Answer)) → Fits texts (PatternProperties m) (with_run r x)
        → (step_at (words texts) (PatternProperties m) (with_run r x) ≡ done → ⊥) → Kept texts (PatternProperties m) (with_run r x)
    pattern_keeps (PatternProperties r) x fits goes =
        let y : Standing (RP × Answer) = seen x r in
        let t : Turn = step_at (patterns texts) m y in
        subst (λ z. fits_p texts m z × (ends_p texts m z ≡ ends_p texts m y))
        (ap₂ (after (patterns texts) m y) (same_marks (patterns texts) m (words texts) (PatternProperties m) x.subject x.matches x.answers x.unit_at x.same x.marks t)
        (same_reply (patterns texts) m (words texts) (PatternProperties m) x.subject x.matches x.answers x.unit_at x.same x.marks t))
        (laws.keeps y fits goes)
    pattern_keeps r x fits goes = absurd fits

    pattern_stands : ShowsAnswer patterns → (r : Runs) (x : Standing (Runs × Answer)) → Fits texts (PatternProperties m) (with_run r x)
        → step_at (words texts) (PatternProperties m) (with_run r x) ≡ done → (words texts).answer (turned (words texts) (PatternProperties m) (with_run r x)) ≡ end_of texts (PatternProperties m) (with_run r x)
    pattern_stands shows (PatternProperties r) x fits ends = let t = turned (patterns texts) m (seen x r) in sym (shows texts t.0 t.1) ∙ laws.stands (seen x r) fits ends
    pattern_stands shows r x fits ends = absurd fits

    pattern_turns : ShowsAnswer patterns → Keeps texts (PatternProperties m)
    pattern_turns shows = record {
      bounded = laws.bounded;
      starts = laws.starts;
      goes_on = λ s r reply can. pattern_goes_on s r.0 r.1 reply can;
      falls = λ s r reply can. pattern_falls s r.0 r.1 reply can;
      asks = λ s r reply can. pattern_asks s r.0 r.1 reply can;
      begins = λ s mode matches a u same agrees valid alike. let begun = laws.begins s mode matches a u same agrees valid alike in
          (begun.0, same_right (patterns texts) m (words texts) (PatternProperties m) s matches a u same refl refl refl mode _ begun.1);
      keeps = λ x fits goes. pattern_keeps x.state.0 x fits goes;
      stands = λ x fits ends. pattern_stands shows x.state.0 x fits ends;
    }

  module _ (texts : Bool) (m : MF) (laws : TurnLaws (formats texts) m (absorbed_f m) (left_f m) (can_f texts m) (ends_f texts m) (fits_f texts m)) where
    format_goes_on : (s : Subject) (r : Runs) (a : Answer) (reply : Reply) → CanBe texts (Format m) s (r, a) → CanBe texts (Format m) s ((words texts).turn (Format m) s (r, a) reply)
    format_goes_on s (Format r) a reply can = laws.goes_on s (r, a) reply can
    format_goes_on s r a reply can = absurd can

    format_falls : (s : Subject) (r : Runs) (a : Answer) (reply : Reply) → CanBe texts (Format m) s (r, a)
        → ((words texts).step (Format m) s (r, a) reply ≡ done) ⊎ (turns_left (Format m) s ((words texts).turn (Format m) s (r, a) reply) < turns_left (Format m) s (r, a))
    format_falls s (Format r) a reply can = laws.falls s (r, a) reply can
    format_falls s r a reply can = absurd can

    format_asks : (s : Subject) (r : Runs) (a : Answer) (reply : Reply) → CanBe texts (Format m) s (r, a)
        → AsksRightly (words texts) (Format m) s (absorbed_f m) ((words texts).step (Format m) s (r, a) reply)
    format_asks s (Format r) a reply can = same_asks (formats texts) m (words texts) (Format m) s refl (absorbed_f m) _ (laws.asks s (r, a) reply can)
    format_asks s r a reply can = absurd can

    format_keeps : (r : Runs) (x : Standing (Runs × Answer)) → Fits texts (Format m) (with_run r x)
        → (step_at (words texts) (Format m) (with_run r x) ≡ done → ⊥) → Kept texts (Format m) (with_run r x)
    format_keeps (Format r) x fits goes =
        let y : Standing (RF × Answer) = seen x r in
        let t : Turn = step_at (formats texts) m y in
        subst (λ z. fits_f texts m z × (ends_f texts m z ≡ ends_f texts m y))
        (ap₂ (after (formats texts) m y) (same_marks (formats texts) m (words texts) (Format m) x.subject x.matches x.answers x.unit_at x.same x.marks t)
        (same_reply (formats texts) m (words texts) (Format m) x.subject x.matches x.answers x.unit_at x.same x.marks t))
        (laws.keeps y fits goes)
    format_keeps r x fits goes = absurd fits

    format_stands : ShowsAnswer formats → (r : Runs) (x : Standing (Runs × Answer)) → Fits texts (Format m) (with_run r x)
        → step_at (words texts) (Format m) (with_run r x) ≡ done → (words texts).answer (turned (words texts) (Format m) (with_run r x)) ≡ end_of texts (Format m) (with_run r x)
    format_stands shows (Format r) x fits ends = let t = turned (formats texts) m (seen x r) in sym (shows texts t.0 t.1) ∙ laws.stands (seen x r) fits ends
    format_stands shows r x fits ends = absurd fits

    format_turns : ShowsAnswer formats → Keeps texts (Format m)
    format_turns shows = record {
      bounded = laws.bounded;
      starts = laws.starts;
      goes_on = λ s r reply can. format_goes_on s r.0 r.1 reply can;
      falls = λ s r reply can. format_falls s r.0 r.1 reply can;
      asks = λ s r reply can. format_asks s r.0 r.1 reply can;
      begins = λ s mode matches a u same agrees valid alike. let begun = laws.begins s mode matches a u same agrees valid alike in
          (begun.0, same_right (formats texts) m (words texts) (Format m) s matches a u same refl refl refl mode _ begun.1);
      keeps = λ x fits goes. format_keeps x.state.0 x fits goes;
      stands = λ x fits ends. format_stands shows x.state.0 x fits ends;
    }

  module _ (texts : Bool) (m : MB) (laws : TurnLaws (basics texts) m (absorbed_b m) (left_b m) (can_b texts m) (ends_b texts m) (fits_b texts m)) where
    basic_goes_on : (s : Subject) (r : Runs) (a : Answer) (reply : Reply) → CanBe texts (Basic m) s (r, a) → CanBe texts (Basic m) s ((words texts).turn (Basic m) s (r, a) reply)
    basic_goes_on s (Basic r) a reply can = laws.goes_on s (r, a) reply can
    basic_goes_on s r a reply can = absurd can

    basic_falls : (s : Subject) (r : Runs) (a : Answer) (reply : Reply) → CanBe texts (Basic m) s (r, a)
        → ((words texts).step (Basic m) s (r, a) reply ≡ done) ⊎ (turns_left (Basic m) s ((words texts).turn (Basic m) s (r, a) reply) < turns_left (Basic m) s (r, a))
    basic_falls s (Basic r) a reply can = laws.falls s (r, a) reply can
    basic_falls s r a reply can = absurd can

    basic_asks : (s : Subject) (r : Runs) (a : Answer) (reply : Reply) → CanBe texts (Basic m) s (r, a)
        → AsksRightly (words texts) (Basic m) s (absorbed_b m) ((words texts).step (Basic m) s (r, a) reply)
    basic_asks s (Basic r) a reply can = same_asks (basics texts) m (words texts) (Basic m) s refl (absorbed_b m) _ (laws.asks s (r, a) reply can)
    basic_asks s r a reply can = absurd can

    basic_keeps : (r : Runs) (x : Standing (Runs × Answer)) → Fits texts (Basic m) (with_run r x)
        → (step_at (words texts) (Basic m) (with_run r x) ≡ done → ⊥) → Kept texts (Basic m) (with_run r x)
    basic_keeps (Basic r) x fits goes =
        let y : Standing (RB × Answer) = seen x r in
        let t : Turn = step_at (basics texts) m y in
        subst (λ z. fits_b texts m z × (ends_b texts m z ≡ ends_b texts m y))
        (ap₂ (after (basics texts) m y) (same_marks (basics texts) m (words texts) (Basic m) x.subject x.matches x.answers x.unit_at x.same x.marks t)
        (same_reply (basics texts) m (words texts) (Basic m) x.subject x.matches x.answers x.unit_at x.same x.marks t))
        (laws.keeps y fits goes)
    basic_keeps r x fits goes = absurd fits

    basic_stands : ShowsAnswer basics → (r : Runs) (x : Standing (Runs × Answer)) → Fits texts (Basic m) (with_run r x)
        → step_at (words texts) (Basic m) (with_run r x) ≡ done → (words texts).answer (turned (words texts) (Basic m) (with_run r x)) ≡ end_of texts (Basic m) (with_run r x)
    basic_stands shows (Basic r) x fits ends = let t = turned (basics texts) m (seen x r) in sym (shows texts t.0 t.1) ∙ laws.stands (seen x r) fits ends
    basic_stands shows r x fits ends = absurd fits

    basic_turns : ShowsAnswer basics → Keeps texts (Basic m)
    basic_turns shows = record {
      bounded = laws.bounded;
      starts = laws.starts;
      goes_on = λ s r reply can. basic_goes_on s r.0 r.1 reply can;
      falls = λ s r reply can. basic_falls s r.0 r.1 reply can;
      asks = λ s r reply can. basic_asks s r.0 r.1 reply can;
      begins = λ s mode matches a u same agrees valid alike. let begun = laws.begins s mode matches a u same agrees valid alike in
          (begun.0, same_right (basics texts) m (words texts) (Basic m) s matches a u same refl refl refl mode _ begun.1);
      keeps = λ x fits goes. basic_keeps x.state.0 x fits goes;
      stands = λ x fits ends. basic_stands shows x.state.0 x fits ends;
    }

  pub family_turn_laws : ShowsAnswer assertions → ShowsAnswer applicators → ShowsAnswer patterns → ShowsAnswer formats → ShowsAnswer basics
      → ((texts : Bool) (m : MA) → TurnLaws (assertions texts) m (absorbed_a m) (left_a m) (can_a texts m) (ends_a texts m) (fits_a texts m))
      → ((texts : Bool) (m : ML) → TurnLaws (applicators texts) m (absorbed_l m) (left_l m) (can_l texts m) (ends_l texts m) (fits_l texts m))
      → ((texts : Bool) (m : MP) → TurnLaws (patterns texts) m (absorbed_p m) (left_p m) (can_p texts m) (ends_p texts m) (fits_p texts m))
      → ((texts : Bool) (m : MF) → TurnLaws (formats texts) m (absorbed_f m) (left_f m) (can_f texts m) (ends_f texts m) (fits_f texts m))
      → ((texts : Bool) (m : MB) → TurnLaws (basics texts) m (absorbed_b m) (left_b m) (can_b texts m) (ends_b texts m) (fits_b texts m))
      → (texts : Bool) (m : Shapes) → Keeps texts m
  family_turn_laws shows_a shows_l shows_p shows_f shows_b laws_a laws_l laws_p laws_f laws_b texts (Assertion m) = assertion_turns texts m (laws_a texts m) shows_a
  family_turn_laws shows_a shows_l shows_p shows_f shows_b laws_a laws_l laws_p laws_f laws_b texts (Applicator m) = applicator_turns texts m (laws_l texts m) shows_l
  family_turn_laws shows_a shows_l shows_p shows_f shows_b laws_a laws_l laws_p laws_f laws_b texts (PatternProperties m) = pattern_turns texts m (laws_p texts m) shows_p
  family_turn_laws shows_a shows_l shows_p shows_f shows_b laws_a laws_l laws_p laws_f laws_b texts (Format m) = format_turns texts m (laws_f texts m) shows_f
  family_turn_laws shows_a shows_l shows_p shows_f shows_b laws_a laws_l laws_p laws_f laws_b texts (Basic m) = basic_turns texts m (laws_b texts m) shows_b

-- ---- its functions

pub family_function_laws : {MA ML MP MF MB RA RL RP RF RB : Type 0} (assertions : Bool → Keywords MA (RA × Answer)) (applicators : Bool → Keywords ML (RL × Answer)) (patterns : Bool → Keywords MP (RP × Answer)) (formats : Bool → Keywords MF (RF × Answer)) (basics : Bool → Keywords MB (RB × Answer))
    {absorbed_a : MA → List Text} {absorbed_l : ML → List Text} {absorbed_p : MP → List Text} {absorbed_f : MF → List Text} {absorbed_b : MB → List Text}
    → ((texts : Bool) (m : MA) → FunctionLaws (assertions texts) m (absorbed_a m))
    → ((texts : Bool) (m : ML) → FunctionLaws (applicators texts) m (absorbed_l m))
    → ((texts : Bool) (m : MP) → FunctionLaws (patterns texts) m (absorbed_p m))
    → ((texts : Bool) (m : MF) → FunctionLaws (formats texts) m (absorbed_f m))
    → ((texts : Bool) (m : MB) → FunctionLaws (basics texts) m (absorbed_b m))
    → (texts : Bool) (m : Family MA ML MP MF MB) → FunctionLaws (family_words assertions applicators patterns formats basics texts) m (by_family absorbed_a absorbed_l absorbed_p absorbed_f absorbed_b m)
family_function_laws assertions applicators patterns formats basics laws_a laws_l laws_p laws_f laws_b texts (Assertion m) = let laws = laws_a texts m in record {
  present = laws.present;
  agree = laws.agree;
  units_valid = laws.units_valid;
  holds_reads = laws.holds_reads;
  faults_read = laws.faults_read;
  units_read = laws.units_read;
  spans_read = laws.spans_read;
  spans_stand = laws.spans_stand;
  told_spans = laws.told_spans;
  stands = laws.stands;
  passes = laws.passes;
}
family_function_laws assertions applicators patterns formats basics laws_a laws_l laws_p laws_f laws_b texts (Applicator m) = let laws = laws_l texts m in record {
  present = laws.present;
  agree = laws.agree;
  units_valid = laws.units_valid;
  holds_reads = laws.holds_reads;
  faults_read = laws.faults_read;
  units_read = laws.units_read;
  spans_read = laws.spans_read;
  spans_stand = laws.spans_stand;
  told_spans = laws.told_spans;
  stands = laws.stands;
  passes = laws.passes;
}
family_function_laws assertions applicators patterns formats basics laws_a laws_l laws_p laws_f laws_b texts (PatternProperties m) = let laws = laws_p texts m in record {
  present = laws.present;
  agree = laws.agree;
  units_valid = laws.units_valid;
  holds_reads = laws.holds_reads;
  faults_read = laws.faults_read;
  units_read = laws.units_read;
  spans_read = laws.spans_read;
  spans_stand = laws.spans_stand;
  told_spans = laws.told_spans;
  stands = laws.stands;
  passes = laws.passes;
}
family_function_laws assertions applicators patterns formats basics laws_a laws_l laws_p laws_f laws_b texts (Format m) = let laws = laws_f texts m in record {
  present = laws.present;
  agree = laws.agree;
  units_valid = laws.units_valid;
  holds_reads = laws.holds_reads;
  faults_read = laws.faults_read;
  units_read = laws.units_read;
  spans_read = laws.spans_read;
  spans_stand = laws.spans_stand;
  told_spans = laws.told_spans;
  stands = laws.stands;
  passes = laws.passes;
}
family_function_laws assertions applicators patterns formats basics laws_a laws_l laws_p laws_f laws_b texts (Basic m) = let laws = laws_b texts m in record {
  present = laws.present;
  agree = laws.agree;
  units_valid = laws.units_valid;
  holds_reads = laws.holds_reads;
  faults_read = laws.faults_read;
  units_read = laws.units_read;
  spans_read = laws.spans_read;
  spans_stand = laws.spans_stand;
  told_spans = laws.told_spans;
  stands = laws.stands;
  passes = laws.passes;
}
