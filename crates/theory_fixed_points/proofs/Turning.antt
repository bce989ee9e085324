-- The run of a keyword for the verdict, whose questions a solver answers: how it begins, continues
-- after each turn, and ends.
use Rattle.std.proofs.Common.{◌≡◌, ◌∙◌, ℕ, ◌&&◌, ◌||◌, Bool, true, false, List, [], refl, sym, subst, ap, true≢false}
use Rattle.std.specs.Prelude.{None, Option, Some}
use Rattle.theory_definitions.specs.Instance.{Place, Subject, Text}
use Rattle.theory_definitions.specs.Reports.{Outcome, accepted}
use Rattle.theory_definitions.specs.Keywords.{Answer, Below, Marked, Question, Reply, Turn, done, for_verdict, no_reply}
use Rattle.theory_definitions.specs.Laws.{Agrees, AnsweredAlike, IsRight}
use Rattle.theory_definitions.specs.Turns.{Standing, TurnLaws, marks_after, next, reply_to}
use Rattle.theory_definitions.specs.Guarded.{Children, NodeEdge, node_child, node_keyword, same_edge}
use Rattle.theory_meaning.specs.Numbered.{subject_in}
use Rattle.theory_meaning.proofs.Alike.{EdgesAlike, children_alike}
use Rattle.theory_meaning.specs.Greatest.{IsMonotone}
use Rattle.theory_fixed_points.specs.Under.{EdgeAnswers, Solving, IsSolvable}
use Rattle.theory_fixed_points.specs.Found.{Found, Grows}
use Rattle.theory_fixed_points.specs.Stages.{Consistent, Fits as FitsFound, FormTells, IsStaged, child_by, edges_by}
use Rattle.theory_fixed_points.specs.Turning.{EndsBy, Given, TurnsBy, answers_by, matches_here, outcome_with, stands_by, subject_here, units_by}
use Rattle.theory_fixed_points.proofs.Between.{lean_none}
use Rattle.theory_fixed_points.proofs.Says.{consistent_grows, consistent_with, fits_consistent, with_now_consistent}

outcome_verdict : (b : Bool) → (outcome_with b).verdict ≡ b
outcome_verdict true = refl
outcome_verdict false = refl

outcome_agrees : (b : Bool) → Agrees (outcome_with b)
outcome_agrees true = (λ is. refl, λ is. refl)
outcome_agrees false = (λ is. absurd (true≢false (sym is)), λ is. absurd (let f : ⊥ = cc is in f))

module _ {K R : Type 0} (w : Solving K R) (p : Place) (given : Given w p) (es : Children) where
  asked_verdict : (o : Option NodeEdge) (b : Below)
      → (let x : Outcome = elim o [ None ↦ accepted | Some e ↦ outcome_with (given e b) ] in x.verdict) ≡ (elim o [ None ↦ true | Some e ↦ given e b ])
  asked_verdict None b = refl
  asked_verdict (Some e) b = outcome_verdict (given e b)

  -- The outcome of a question has the verdict of the child.
  pub answer_verdict : (q : Question) → (answers_by w p given es q).verdict ≡ child_by w p given es q
  answer_verdict q = asked_verdict (node_child es q.child) q.below

  pub answers_agree : (q : Question) → Agrees (answers_by w p given es q)
  answers_agree q = go (node_child es q.child)
    where
      go : (o : Option NodeEdge) → Agrees (elim o [ None ↦ accepted | Some e ↦ outcome_with (given e q.below) ])
      go None = (λ is. refl, λ is. refl)
      go (Some e) = outcome_agrees (given e q.below)

  -- Marked children of the same number that are guarded alike have the same answers.
  answers_alike : (f : Found) (leans : Bool) → Consistent w p f leans given → AnsweredAlike (same_edge es) (answers_by w p given es)
  answers_alike f leans consistent = children_alike w.keywords w.matcher w.nodes (subject_in w.instance) es (λ e b. outcome_with (given e b)) alike
    where
      alike : EdgesAlike (λ e b. outcome_with (given e b))
      alike a b same guards below = ap (λ c. (outcome_with c).verdict) (consistent.alike a b below same guards)

module _ {K R : Type 0} (w : Solving K R) (solvable : IsSolvable w) (p : Place) (m : K) (absorbed : List Text) (remaining : Subject → R → ℕ) (can_be : Subject → R → Type 0) (end_of : Standing R → Answer) (Fits : Standing R → Type 0)
    (laws : TurnLaws w.keywords m absorbed remaining can_be end_of Fits) (es : Children) where
  -- ---- at its start, with no marks

  pub begins_by : (f : Found) → TurnsBy w p f false m end_of Fits es [] (w.keywords.begin m (subject_here w p) for_verdict) no_reply
  begins_by f given consistent =
      let h = laws.begins (subject_here w p) for_verdict (matches_here w p) (answers_by w p given es) (units_by w p given es) (same_edge es)
      (answers_agree w p given es) (λ q. refl) (answers_alike w p given es f false consistent) in
      record { fits = h.0; right = h.1 }

  -- ---- after a turn that asks for something, if the reply is the true one for all answers that
  -- agree with the replies so far, and the marks are those after the turn

  pub turned_by : (f g : Found) → Grows p f g → (l k : Bool) → (l ≡ true → k ≡ true) → (marks marks' : List Marked) (r : R) (reply reply' : Reply) (t : Turn)
      → w.keywords.step m (subject_here w p) r reply ≡ t → ¬ (t ≡ done)
      → ((given : Given w p) → Consistent w p g k given → marks_after w.keywords m (subject_here w p) (matches_here w p) (answers_by w p given es) (units_by w p given es) (same_edge es) marks t ≡ marks')
      → ((given : Given w p) → Consistent w p g k given → reply_to w.keywords m (subject_here w p) (matches_here w p) (answers_by w p given es) (units_by w p given es) (same_edge es) marks t ≡ reply')
      → TurnsBy w p f l m end_of Fits es marks r reply → TurnsBy w p g k m end_of Fits es marks' (w.keywords.turn m (subject_here w p) r reply) reply'
  turned_by f g grew l k less marks marks' r reply reply' t is more held told way given consistent =
      let was : EndsBy w p m end_of Fits es marks r reply given = way given (consistent_grows w p f g grew l k less given consistent) in
      let st : Standing R = stands_by w p given es marks r reply in
      let k = laws.keeps st was.fits (λ d. more (sym is ∙ d)) in
      let holds = ap (marks_after w.keywords m (subject_here w p) (matches_here w p) (answers_by w p given es) (units_by w p given es) (same_edge es) marks) is ∙ held given consistent in
      let replied = ap (reply_to w.keywords m (subject_here w p) (matches_here w p) (answers_by w p given es) (units_by w p given es) (same_edge es) marks) is ∙ told given consistent in
      let there : next w.keywords m st ≡ stands_by w p given es marks' (w.keywords.turn m (subject_here w p) r reply) reply'
      = λ i. record { subject = subject_here w p; matches = matches_here w p; answers = answers_by w p given es; unit_at = units_by w p given es; same = same_edge es; marks = holds i; state = w.keywords.turn m (subject_here w p) r reply; reply = replied i } in
      record {
        fits = subst Fits there k.0;
        right = subst (IsRight w.keywords m (subject_here w p) (matches_here w p) (answers_by w p given es) (units_by w p given es) (same_edge es) for_verdict) (sym k.1 ∙ ap end_of there) was.right;
      }

  -- ---- at its end: the answer of the run is what the keyword says with all these answers

  ends_by : (f : Found) (l : Bool) (marks : List Marked) (r : R) (reply : Reply) → w.keywords.step m (subject_here w p) r reply ≡ done
      → TurnsBy w p f l m end_of Fits es marks r reply → (given : Given w p) → Consistent w p f l given
      → w.keywords.holds m (subject_here w p) (matches_here w p) (child_by w p given es) ≡ (w.keywords.answer (w.keywords.turn m (subject_here w p) r reply)).verdict
  ends_by f l marks r reply is way given consistent =
      let was : EndsBy w p m end_of Fits es marks r reply given = way given consistent in
      let k = laws.stands (stands_by w p given es marks r reply) was.fits is in
      sym (ap (λ (a : Answer). a.verdict) k ∙ was.right ∙ ap (w.keywords.holds m (subject_here w p) (matches_here w p)) (λ j q. answer_verdict w p given es q j))

  -- More yeses among the answers of edges are more yeses among the answers to questions.
  child_more : (a b : Given w p) → ((e : NodeEdge) (d : Below) → a e d ≡ true → b e d ≡ true) → (q : Question) → child_by w p a es q ≡ true → child_by w p b es q ≡ true
  child_more a b h q = go (node_child es q.child)
    where
      go : (o : Option NodeEdge) → (elim o [ None ↦ true | Some e ↦ a e q.below ]) ≡ true → (elim o [ None ↦ true | Some e ↦ b e q.below ]) ≡ true
      go None is = refl
      go (Some e) is = h e q.below is

  -- So it is what the keyword says. It is provisional if one of the yeses in the replies was, which
  -- is allowed only for a monotone keyword: a no of it stays a no with fewer yeses.
  pub ended_by : (f : Found) → IsStaged w f → (l : Bool) → (l ≡ true → IsMonotone w.keywords m) → (marks : List Marked) (r : R) (reply : Reply) → w.keywords.step m (subject_here w p) r reply ≡ done
      → TurnsBy w p f l m end_of Fits es marks r reply
      → FormTells w p f (node_keyword m es) (w.keywords.answer (w.keywords.turn m (subject_here w p) r reply)).verdict l
  ended_by f staged l monotone marks r reply is way = go (w.keywords.answer (w.keywords.turn m (subject_here w p) r reply)).verdict l refl refl
    where
      found : Bool
      found = (w.keywords.answer (w.keywords.turn m (subject_here w p) r reply)).verdict

      by_all : (answers : EdgeAnswers) → FitsFound f l answers → w.keywords.holds m (subject_here w p) (matches_here w p) (child_by w p (edges_by w p answers) es) ≡ (w.keywords.answer (w.keywords.turn m (subject_here w p) r reply)).verdict
      by_all answers fits = ends_by f l marks r reply is way (edges_by w p answers) (fits_consistent w p solvable f l answers fits)

      no_less : l ≡ true → (w.keywords.answer (w.keywords.turn m (subject_here w p) r reply)).verdict ≡ false → (answers : EdgeAnswers) → FitsFound f false answers
          → w.keywords.holds m (subject_here w p) (matches_here w p) (child_by w p (edges_by w p answers) es) ≡ false
      no_less leans says answers fits = refused _ (λ holds. true≢false (
          sym ((monotone leans).grows (subject_here w p) (matches_here w p) (child_by w p (edges_by w p answers) es) (child_by w p (consistent_with w p solvable f answers) es)
          (child_more (edges_by w p answers) (consistent_with w p solvable f answers) (λ e d yes. or_first _ _ yes)) holds)
          ∙ ends_by f l marks r reply is way (consistent_with w p solvable f answers) (subst (λ k. Consistent w p f k (consistent_with w p solvable f answers)) (sym leans) (with_now_consistent w p solvable f staged answers fits))
          ∙ says))
        where
          refused : (b : Bool) → ¬ (b ≡ true) → b ≡ false
          refused true h = absurd (h refl)
          refused false h = refl

          or_first : (a b : Bool) → a ≡ true → (a || b) ≡ true
          or_first true b h = refl
          or_first false b h = absurd (true≢false (sym h))

      go : (v k : Bool) → (w.keywords.answer (w.keywords.turn m (subject_here w p) r reply)).verdict ≡ v → l ≡ k → FormTells w p f (node_keyword m es) (w.keywords.answer (w.keywords.turn m (subject_here w p) r reply)).verdict l
      go true k says leans answers fits = by_all answers (subst (λ v. FitsFound f (v && l) answers) says fits)
      go false true says leans answers fits = no_less leans says answers (subst (λ v. FitsFound f (v && l) answers) says fits) ∙ sym says
      go false false says leans answers fits = by_all answers (subst (λ k. FitsFound f k answers) (sym leans) (lean_none f _ answers fits))

  -- A run that is done at its first turn.
  pub at_once_by : (f : Found) → IsStaged w f → (valid : Bool) → w.keywords.step m (subject_here w p) (w.keywords.begin m (subject_here w p) for_verdict) no_reply ≡ done
      → (w.keywords.answer (w.keywords.turn m (subject_here w p) (w.keywords.begin m (subject_here w p) for_verdict) no_reply)).verdict ≡ valid
      → FormTells w p f (node_keyword m es) valid false
  at_once_by f staged valid asks_nothing says = subst (λ v. FormTells w p f (node_keyword m es) v false) says
      (ended_by f staged false (λ is. absurd (true≢false (sym is))) [] (w.keywords.begin m (subject_here w p) for_verdict) no_reply asks_nothing (begins_by f))
