-- A keyword that asks its questions up front, in each reading: how it begins, continues after each
-- answer, and ends; and that it meets no match.
use Rattle.std.proofs.Common.{◌≡◌, ◌∙◌, ◌<◌, ◌≤◌, not, Bool, List, [], ◌∷◌, ℕ, sym, subst, ap}
use Rattle.serde_json.specs.Data.{Data}
use Rattle.theory_definitions.specs.Instance.{Text}
use Rattle.theory_definitions.specs.Guarded.{Children, node_keyword}
use Rattle.theory_definitions.specs.Keywords.{Question, for_verdict}
use Rattle.theory_definitions.specs.Matching.{Matching, completed, finished, matching, settled}
use Rattle.theory_meaning.specs.Numbered.{left, subject_in}
use Rattle.schema_traits.specs.KeywordViews.{Tells, reply_of}
use Rattle.schema_traits.specs.MatcherViews.{FinishesEach}
use Rattle.schema_traits.specs.declared.keyword.Reply.TheVariants as told
use Rattle.schema_traits.specs.Questions.{SaysByQuestions, answers_say}
use Rattle.schema_traits.proofs.AnswersSay.{first_as_it_has_to, first_otherwise, none_say}
use Rattle.schema_run_context.specs.Matches.{settling}
use Rattle.schema_run_context.specs.Progress.{Context, busy_at}
use Rattle.schema_run_context.proofs.Matches.{meets_same, moved}
use Rattle.schema_run_steps.specs.Askings.{Asking as Asked}
use Rattle.schema_run_steps.specs.NodeRuns.{ChildReplies, HasForm, Reading, Reads, child_says}
use Rattle.schema_run_steps.specs.ReplyModes.{accepts, reply_by}
use Rattle.schema_run_steps.proofs.NodeParts.{tells_keyword}
use Rattle.theory_runs.specs.NodeMeets.{ChildMeets, reading}
use Rattle.theory_runs.specs.RunStates.{ChildSays, FormSays, Keeps, MeetsChild, MeetsForm, Setting, busy, settled_by}
use Rattle.theory_runs.proofs.Finishing.{child_meets_none, form_meets_none}
use Rattle.theory_runs.proofs.Verdicts.{keyword_replies}

module _ {K R : Type 0} (g : Setting K R) (q : Asked) (c : Context) (i : ℕ) (m : K) (es : Children) where
  -- In each reading in which the subject is at the place, at a sufficient depth.
  abbrev InEach : (Reading → Type 0) → Type 0
  InEach fact = (x : Reading) → Reads g.is_whole g.nodes g.count (settled_by g q c) q.place q.subject x → left g.nodes g.count i q.subject (busy g q c) ≤ x.depth → fact x

  abbrev accepts_in : Reading → Question → Bool
  accepts_in x k = (child_says g.words g.nodes x q.path q.place (busy g q c) es k).verdict

  -- The result of the keyword is determined by the answers to the remaining questions.
  abbrev pub SaysByTheRest : Bool → List Question → Type 0
  SaysByTheRest all rest = InEach (λ x. (g.words x.texts).holds m q.subject (matching x.matcher x.completion) (accepts_in x) ≡ answers_say all (accepts_in x) rest)

  -- What is remembered of matches is unchanged.
  abbrev pub MeetsNothing : Context → Type 0
  MeetsNothing c' = (texts : Bool) (root : Data) (depth : ℕ) → Reads g.is_whole g.nodes g.count (settled_by g q c) q.place q.subject (reading (settled_by g q c) texts root depth) → left g.nodes g.count i q.subject (busy g q c) ≤ depth
      → c.remembered ≡ c'.remembered

  -- ---- the matches that are met

  module _ (finishes : FinishesEach g.matcher) where
    pub meets_on : (c1 c2 : Context) → Keeps c c1 → MeetsNothing c1 → (k : Question) → MeetsChild g q c1 c2 i es k → MeetsNothing c2
    meets_on c1 c2 keeps nothing k met texts root depth reads l =
        let here = (moved (λ es' as'. ChildMeets g.words g.is_whole g.nodes g.count (settling g.matcher as') q.mode q.path q.place (busy_at q.place es') q.subject c1.remembered c2.remembered i es k) keeps.in_progress keeps.assumptions met) texts root depth reads l in
        nothing texts root depth reads l
        ∙ meets_same g.matcher c1.remembered c2.remembered _ [] (child_meets_none g.matcher finishes (g.words texts) g.nodes (subject_in root) c.remembered.assumptions depth q.path q.place (busy g q c) es k q.mode) here

    pub met_none : (c' : Context) (name : Text) → MeetsNothing c' → MeetsForm g q c c' i name (node_keyword m es)
    met_none c' name nothing texts root depth reads l =
        meets_same g.matcher c.remembered c'.remembered [] _ (sym (form_meets_none g.matcher finishes (g.words texts) g.nodes (subject_in root) c.remembered.assumptions depth i q.path q.place (busy g q c) name (node_keyword m es) q.mode)) (nothing texts root depth reads l)

  -- ---- how it begins, and what a match says

  module _ (known : i < g.count) (form : HasForm g.nodes i (node_keyword m es)) where
    tells_in : InEach (λ x. Tells x.texts (g.is_whole m) q.subject)
    tells_in x reads l = tells_keyword g.is_whole g.nodes g.count (settled_by g q c) q.place q.subject x i m es known reads form

    pub questions_begin : (all : Bool) (rest : List Question) → SaysByQuestions g.words g.is_whole q.subject m all rest → SaysByTheRest all rest
    questions_begin all rest says x reads l = says x.texts (tells_in x reads l) (matching x.matcher x.completion) (accepts_in x)

    pub match_says : (wanted : q.mode ≡ for_verdict) (name pattern text : Text) (b : Bool) → g.matcher.is_match pattern text ≡ finished b
        → ((texts : Bool) → Tells texts (g.is_whole m) q.subject → (matching : Matching) (accepts : Question → Bool) → (g.words texts).holds m q.subject matching accepts ≡ matching.matches pattern text)
        → FormSays g q c i name (node_keyword m es) (told.Truth b)
    match_says wanted name pattern text b is says =
        keyword_replies q.mode wanted g.words g.is_whole g.nodes g.count (settled_by g q c) q.path q.place (busy g q c) q.subject i name m es b (λ x reads l.
        let answer = settled (completed x.completion (record { pattern = pattern; subject = text })) in
        sym (says x.texts (tells_in x reads l) (matching x.matcher x.completion) (accepts_in x) ∙ ap (λ z. answer (z.is_match pattern text)) reads.matcher ∙ ap answer is))

  -- ---- after an answer

  module _ (wanted : q.mode ≡ for_verdict) where
    answered : (c1 : Context) → Keeps c c1 → (k : Question) (b : Bool) → ChildSays g q c1 i es k (told.Truth b) → InEach (λ x. accepts_in x k ≡ b)
    answered c1 keeps k b says x reads l =
        let here = (moved (λ es' as'. ChildReplies g.words g.is_whole g.nodes g.count (settling g.matcher as') q.mode q.path q.place (busy_at q.place es') q.subject i es k (told.Truth b)) keeps.in_progress keeps.assumptions says) x reads l in
        sym (ap accepts (subst (λ mode. reply_of x.texts (told.Truth b) ≡ reply_by mode (child_says g.words g.nodes x q.path q.place (busy g q c) es k)) wanted here.same))

    -- If the answer is the required one, the run continues.
    pub question_goes_on : (c1 : Context) → Keeps c c1 → (all : Bool) (k : Question) (rest : List Question) → SaysByTheRest all (k ∷ rest) → (b : Bool) → ChildSays g q c1 i es k (told.Truth b) → b ≡ all → SaysByTheRest all rest
    question_goes_on c1 keeps all k rest so_far b says is x reads l =
        so_far x reads l ∙ first_as_it_has_to (accepts_in x) k rest all (answered c1 keeps k b says x reads l ∙ is)

    -- If it is not, the run ends.
    pub question_ends : (c1 : Context) → Keeps c c1 → (all : Bool) (k : Question) (rest : List Question) → SaysByTheRest all (k ∷ rest) → (b : Bool) → ChildSays g q c1 i es k (told.Truth b) → b ≡ not all
        → (name : Text) → FormSays g q c i name (node_keyword m es) (told.Truth b)
    question_ends c1 keeps all k rest so_far b says is name =
        keyword_replies q.mode wanted g.words g.is_whole g.nodes g.count (settled_by g q c) q.path q.place (busy g q c) q.subject i name m es b (λ x reads l.
        is ∙ sym (so_far x reads l ∙ first_otherwise (accepts_in x) k rest all (answered c1 keeps k b says x reads l ∙ is)))

    -- If no question is left, the run ends.
    pub questions_end : (all : Bool) → SaysByTheRest all [] → (name : Text) → FormSays g q c i name (node_keyword m es) (told.Truth all)
    questions_end all so_far name =
        keyword_replies q.mode wanted g.words g.is_whole g.nodes g.count (settled_by g q c) q.path q.place (busy g q c) q.subject i name m es all (λ x reads l.
        sym (so_far x reads l ∙ none_say all (accepts_in x)))
