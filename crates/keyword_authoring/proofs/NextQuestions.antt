-- The next question, if there is one.
use Rattle.std.proofs.Common.{map, ℕ, zero, suc, drop, add-zero, ◌≡◌, ◌∙◌, ◌≤◌, ◌+◌, Bool, true, false, List, [], ◌∷◌, Option, None, length, ap, sym, refl, arith}
use Rattle.theory_definitions.specs.Instance.{Subject, Text}
use Rattle.theory_definitions.specs.Keywords.{Answer, Question, Reply, Turn}
use Rattle.keyword_authoring.specs.declared.run.Stage.TheVariants.{Asked, Begun, Counted, Ended}
use Rattle.keyword_authoring.specs.declared.run.Stage.{Stage}
use Rattle.schema_traits.specs.declared.keyword.Mode.{Mode}
use Rattle.std.proofs.lemmas.List.{drop-map}
use Rattle.schema_traits.proofs.Drops.{drop_past}
use Rattle.keyword_authoring.specs.Somes.{first_some, question_of, some_from}
use Rattle.keyword_authoring.specs.declared.run.Progress.{Progress}
use Rattle.keyword_authoring.specs.Ways.{answer_after, asked, goes_on, next_if, next_some, nth, passes_on, passes_some, stage_at, stage_some, way_step, way_turn}
use Rattle.keyword_authoring.specs.Asking.{IsNext, IsNextFrom, nth_at, some_at, stage_of}
use Rattle.keyword_authoring.specs.Members.{members_from}

pub nth-past : (i : ℕ) (qs : List Question) → length qs ≤ i → nth i qs ≡ None
nth-past zero [] h = refl
nth-past (suc i) [] h = refl
nth-past zero (q ∷ qs) h = absurd (omega arith)
nth-past (suc i) (q ∷ qs) h = nth-past i qs (omega arith)

next_if-none : (b : Bool) → next_if b None ≡ None
next_if-none true = refl
next_if-none false = refl

-- there are no more questions
pub ended_at_limit : (qs : List Question) (i : ℕ) (r : Reply) → length qs ≤ i → IsNext qs (Asked i) r None
ended_at_limit qs i r h = let none : next_if (goes_on r) (nth (i + 1) qs) ≡ None = ap (next_if (goes_on r)) (nth-past (i + 1) qs (omega arith)) ∙ next_if-none (goes_on r) in
    record { stage_is = λ m. ap (stage_at (i + 1)) none; step_is = λ m. ap (asked m) none }

-- a turn that goes to this position
pub turned : (qs : List Question) (run after : Progress) (a b : Answer) (r : Reply) (place : Option ℕ) → IsNext qs run.stage r place
    → after ≡ record run { stage = stage_of qs place } → b ≡ answer_after (passes_on qs) run.mode run.stage a r → way_turn (passes_on qs) (run, a) r ≡ (after, b)
turned qs run after a b r place is_next goes answers =
    ap (λ stage. (record run { stage = stage }, answer_after (passes_on qs) run.mode run.stage a r)) (is_next.stage_is run.mode)
    ∙ (ap (λ p. (p, answer_after (passes_on qs) run.mode run.stage a r)) (sym goes) ∙ ap (λ x. (after, x)) (sym answers))

pub stepped : (qs : List Question) (run : Progress) (a : Answer) (r : Reply) (place : Option ℕ) (step : Turn) → IsNext qs run.stage r place
    → step ≡ asked run.mode (nth_at qs place) → way_step (passes_on qs) (run, a) r ≡ step
stepped qs run a r place step is_next asks = is_next.step_is run.mode ∙ sym asks

-- ---- if some are present

next_some-none : (b : Bool) → next_some b None ≡ None
next_some-none true = refl
next_some-none false = refl

past_none : (os : List (Option Question)) (i : ℕ) → length os ≤ i → some_from (i + 1) os ≡ None
past_none os i h = ap (first_some (i + 1)) (drop_past os (i + 1) (omega arith))

pub some_ended_at_limit : (os : List (Option Question)) (i : ℕ) (r : Reply) → length os ≤ i → IsNextFrom os (Asked i) r None
some_ended_at_limit os i r h = let none : next_some (goes_on r) (some_from (i + 1) os) ≡ None = ap (next_some (goes_on r)) (past_none os i h) ∙ next_some-none (goes_on r) in
    record { stage_is = λ m. ap stage_some none; step_is = λ m. ap (λ o. asked m (question_of o)) none }

-- the run takes replies as any run that passes on answers does
same_answer : (os : List (Option Question)) (qs : List Question) (m : Mode) (stage : Stage) (a : Answer) (r : Reply) → answer_after (passes_some os) m stage a r ≡ answer_after (passes_on qs) m stage a r
same_answer os qs m Begun a r = refl
same_answer os qs m (Asked i) a r = refl
same_answer os qs m (Counted i n) a r = refl
same_answer os qs m Ended a r = refl

-- a turn that goes to the first that is present
pub some_turned : (os : List (Option Question)) (run after : Progress) (a b : Answer) (r : Reply) (start : Option ℕ) → IsNextFrom os run.stage r start
    → after ≡ record run { stage = stage_some (some_at os start) } → b ≡ answer_after (passes_on []) run.mode run.stage a r → way_turn (passes_some os) (run, a) r ≡ (after, b)
some_turned os run after a b r start is_next goes answers =
    ap (λ stage. (record run { stage = stage }, answer_after (passes_some os) run.mode run.stage a r)) (is_next.stage_is run.mode)
    ∙ (ap (λ p. (p, answer_after (passes_some os) run.mode run.stage a r)) (sym goes) ∙ ap (λ x. (after, x)) (same_answer os [] run.mode run.stage a r ∙ sym answers))

pub some_stepped : (os : List (Option Question)) (run : Progress) (a : Answer) (r : Reply) (start : Option ℕ) (step : Turn) → IsNextFrom os run.stage r start
    → step ≡ asked run.mode (question_of (some_at os start)) → way_step (passes_some os) (run, a) r ≡ step
some_stepped os run a r start step is_next asks = is_next.step_is run.mode ∙ sym asks

pub length-members : (i : ℕ) (ks : List Text) (s : Subject) → length (members_from i ks s) ≡ length ks
length-members i [] s = refl
length-members i (k ∷ ks) s = ap (λ n. suc n) (length-members (i + 1) ks s)

-- the members from a number on
one_on : (i n : ℕ) → (i + 1) + n ≡ i + suc n
one_on i n = omega arith

pub members-drop : (n i : ℕ) (ks : List Text) (s : Subject) → drop n (members_from i ks s) ≡ members_from (i + n) (drop n ks) s
members-drop zero i ks s = ap (λ j. members_from j ks s) (sym (add-zero i))
members-drop (suc n) i [] s = refl
members-drop (suc n) i (k ∷ ks) s = members-drop n (i + 1) ks s ∙ ap (λ j. members_from j (drop n ks) s) (one_on i n)

pub members_from_drop : {X : Type 0} (f : X → Text) (n : ℕ) (xs : List X) (s : Subject) → drop n (members_from 0 (map f xs) s) ≡ members_from n (map f (drop n xs)) s
members_from_drop f n xs s = members-drop n 0 (map f xs) s ∙ (ap (λ j. members_from j (drop n (map f xs)) s) (from_none n) ∙ ap (λ ks. members_from n ks s) (drop-map f n xs))
  where
    from_none : (n : ℕ) → 0 + n ≡ n
    from_none n = omega arith
