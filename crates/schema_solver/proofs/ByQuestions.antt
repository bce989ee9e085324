-- A keyword that asks its questions up front, in each reading of texts: how it begins, goes on after each answer, and ends.
use Rattle.std.proofs.Common.{◌≡◌, ◌∙◌, ◌||◌, ◌&&◌, not, Bool, true, false, List, [], ◌∷◌, ℕ, refl, sym, subst, ap, true≢false}
use Rattle.std.proofs.lemmas.Bool.{or_right}
use Rattle.serde_json.specs.View.{view}
use Rattle.theory_definitions.specs.Instance.{Place, Subject, Text}
use Rattle.theory_definitions.specs.Guarded.{Children, node_keyword}
use Rattle.theory_definitions.specs.Keywords.{Question}
use Rattle.theory_definitions.specs.Matching.{Matching, completed, completion_of, finished, matching, settled}
use Rattle.theory_meaning.specs.Numbered.{Ranked, subject_in}
use Rattle.schema_traits.specs.KeywordViews.{Tells as MayTell}
use Rattle.schema_traits.specs.declared.asking.Asking.{Asking}
use Rattle.schema_traits.specs.declared.asking.Asking.TheVariants as asking
use Rattle.schema_traits.specs.Questions.{SaysByQuestions, answers_say, puts_questions}
use Rattle.schema_run_steps.specs.NodeRuns.{HasForm}
use Rattle.schema_run_steps.proofs.NodeRuns.{stands_in}
use Rattle.theory_fixed_points.specs.NodesSay.{KeepsUntold}
use Rattle.theory_fixed_points.specs.Under.{EdgeAnswers, Solving}
use Rattle.theory_fixed_points.specs.Stages.{ChildTells, Fits, FormTells, child_by, edges_by}
use Rattle.theory_fixed_points.proofs.Between.{grows_fits, lean_less}
use Rattle.theory_fixed_points.proofs.Says.{fits_consistent}
use Rattle.schema_solver_state.specs.Contexts.{Solver, found_of}
use Rattle.schema_traits.proofs.AnswersSay.{first_as_it_has_to, first_otherwise, none_say}
use Rattle.schema_solver.specs.Needs.{SaysByTheRest}
use Rattle.schema_solver.specs.Solving.{Goes, InEach, MaySolve, Setting, solving_in}
use Rattle.schema_solver.proofs.Turned.{solvable_in, tells_there}

-- ---- what answers say, by the first of them

module _ (accepts : Question → Bool) (q : Question) (rest : List Question) where
  later_otherwise : (all : Bool) → answers_say all accepts rest ≡ not all → answers_say all accepts (q ∷ rest) ≡ not all
  later_otherwise true is = no_after (accepts q) _ is
    where
      no_after : (a b : Bool) → b ≡ false → (a && b) ≡ false
      no_after true b h = h
      no_after false b h = refl
  later_otherwise false is = or_right (accepts q) _ is

-- ---- if a "valid" is provisional

first_leans : (all l k : Bool) → (all && l) ≡ true → (all && (l || k)) ≡ true
first_leans true true k is = refl
first_leans true false k is = absurd (true≢false (sym is))
first_leans false l k is = is

last_leans : (all l k : Bool) → (all && k) ≡ true → (all && (l || k)) ≡ true
last_leans true true k is = refl
last_leans true false k is = is
last_leans false l k is = is

leans_twice : (all l : Bool) → (all && l) ≡ true → (all && (all && l)) ≡ true
leans_twice true l is = is
leans_twice false l is = is

-- ---- the questions

-- an asking puts questions unless turns say the verdict, or a match does
pub puts_unless : (a : Asking) → ¬ (a ≡ asking.ByTurns) → ((pattern : _) (text : _) → ¬ (a ≡ asking.Match pattern text)) → puts_questions a ≡ true
puts_unless asking.ByTurns turns matches = absurd (turns refl)
puts_unless (asking.Match pattern text) turns matches = absurd (matches pattern text refl)
puts_unless a turns matches = refl

module _ {K R : Type 0} (g : Setting K R) (c : Solver) (s : Subject) (p : Place) (i : ℕ) (may : MaySolve g c s p i) (m : K) (es : Children) (form : HasForm g.nodes i (node_keyword m es)) where
  pub questions_begin : (all : Bool) (qs : List Question) → SaysByQuestions g.words g.is_whole s m all qs → InEach g (view c.root) (λ texts w. SaysByTheRest w p (found_of c) m es all false qs)
  questions_begin all qs says texts tells = record {
    same = λ answers fits. here (matching g.matcher (completion_of [])) (child_by w p (edges_by w p answers) es);
    ends = λ answers other. here (matching g.matcher (completion_of [])) (child_by w p (edges_by w p answers) es) ∙ other;
  }
    where
      w : Solving K R
      w = solving_in g (view c.root) texts

      here : (matching : Matching) (accepts : Question → Bool) → (g.words texts).holds m (subject_in (view c.root) p) matching accepts ≡ answers_say all accepts qs
      here = subst (λ z. (matching : Matching) (accepts : Question → Bool) → (g.words texts).holds m z matching accepts ≡ answers_say all accepts qs)
          (sym (stands_in (view c.root) p s may.stands)) (says texts (tells_there g c s p i m es may form texts tells))

  pub match_says : (pattern text : Text) (b : Bool) → g.matcher.is_match pattern text ≡ finished b
      → ((texts : Bool) → MayTell texts (g.is_whole m) s → (matching : Matching) (accepts : Question → Bool) → (g.words texts).holds m s matching accepts ≡ matching.matches pattern text)
      → InEach g (view c.root) (λ texts w. FormTells w p (found_of c) (node_keyword m es) b false)
  match_says pattern text b is says texts tells answers fits =
      here (matching g.matcher (completion_of [])) (child_by w p (edges_by w p answers) es)
      ∙ ap (settled (completed (completion_of []) (record { pattern = pattern; subject = text }))) is
    where
      w : Solving K R
      w = solving_in g (view c.root) texts

      here : (matching : Matching) (accepts : Question → Bool) → (g.words texts).holds m (subject_in (view c.root) p) matching accepts ≡ matching.matches pattern text
      here = subst (λ z. (matching : Matching) (accepts : Question → Bool) → (g.words texts).holds m z matching accepts ≡ matching.matches pattern text)
          (sym (stands_in (view c.root) p s may.stands)) (says texts (tells_there g c s p i m es may form texts tells))

-- ---- after an answer

module _ {K R : Type 0} (g : Setting K R) (laws : (texts : Bool) → KeepsUntold (g.words texts)) (ranked : Ranked g.nodes g.count) (p : Place) (c d : Solver) (went : Goes g p c d)
    (m : K) (es : Children) (all l : Bool) (q : Question) (rest : List Question)
    (so_far : InEach g (view c.root) (λ texts w. SaysByTheRest w p (found_of c) m es all l (q ∷ rest)))
    (b k : Bool) (says : InEach g (view d.root) (λ texts w. ChildTells w p (found_of d) es q b k)) where
  said_before : InEach g (view d.root) (λ texts w. SaysByTheRest w p (found_of c) m es all l (q ∷ rest))
  said_before = subst (λ u. InEach g (view u) (λ texts w. SaysByTheRest w p (found_of c) m es all l (q ∷ rest))) (sym went.root) so_far

  answered : InEach g (view d.root) (λ texts w. (answers : EdgeAnswers) → Fits (found_of d) (b && k) answers → child_by w p (edges_by w p answers) es q ≡ b)
  answered texts tells answers fits =
      let w : Solving K R = solving_in g (view d.root) texts in
      says texts tells (edges_by w p answers) (fits_consistent w p (solvable_in g laws ranked (view d.root) texts) (found_of d) (b && k) answers fits)

  -- if it was as it has to be
  pub question_goes_on : b ≡ all → InEach g (view d.root) (λ texts w. SaysByTheRest w p (found_of d) m es all (l || k) rest)
  question_goes_on is texts tells =
      let w : Solving K R = solving_in g (view d.root) texts in
      let was : SaysByTheRest w p (found_of c) m es all l (q ∷ rest) = said_before texts tells in
      record {
        same = λ answers fits.
            was.same answers (grows_fits p (found_of c) (found_of d) went.grew (all && l) (all && (l || k)) (first_leans all l k) answers fits)
            ∙ first_as_it_has_to (child_by w p (edges_by w p answers) es) q rest all
            (answered texts tells answers (lean_less (found_of d) (b && k) (all && (l || k)) answers (λ leans. last_leans all l k (ap (λ b. b && k) (sym is) ∙ leans)) fits) ∙ is);
        ends = λ answers other. was.ends answers (later_otherwise (child_by w p (edges_by w p answers) es) q rest all other);
      }

  -- and if it was not
  pub question_ends : b ≡ not all → InEach g (view d.root) (λ texts w. FormTells w p (found_of d) (node_keyword m es) b k)
  question_ends is texts tells answers fits =
      let w : Solving K R = solving_in g (view d.root) texts in
      let was : SaysByTheRest w p (found_of c) m es all l (q ∷ rest) = said_before texts tells in
      was.ends answers (first_otherwise (child_by w p (edges_by w p answers) es) q rest all (answered texts tells answers fits ∙ is)) ∙ sym is

-- ---- if none is left

pub questions_end : {K R : Type 0} (g : Setting K R) (c : Solver) (p : Place) (m : K) (es : Children) (all l : Bool)
    → InEach g (view c.root) (λ texts w. SaysByTheRest w p (found_of c) m es all l []) → InEach g (view c.root) (λ texts w. FormTells w p (found_of c) (node_keyword m es) all (all && l))
questions_end {K = K} {R = R} g c p m es all l so_far texts tells answers fits =
    let w : Solving K R = solving_in g (view c.root) texts in
    (so_far texts tells).same answers (lean_less (found_of c) (all && l) (all && (all && l)) answers (leans_twice all l) fits)
    ∙ none_say all (child_by w p (edges_by w p answers) es)
