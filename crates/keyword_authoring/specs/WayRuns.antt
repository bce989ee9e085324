-- The runs of a kind end with the answer that the kind defines: the laws turn by turn.
use Rattle.std.proofs.Common.{◌≡◌, ◌∙◌, ℕ, zero, suc, ◌+◌, ◌<◌, ◌&&◌, ◌⊎◌, ◌++◌, ◌∷◌, [], List, Bool, true, false, Option, Some, None, refl, sym, ap, ap₂, inl, inr, arith, length, drop, map, ◌-◌, append_assoc, append-nil, add-one, min, subst, ◌≤◌}
use Rattle.std.specs.List.{list_all}
use Rattle.std.specs.Prelude.{flat_map, if◌then◌else◌, nat_le, not}
use Rattle.std.proofs.lemmas.Bool.{leb-true}
use Rattle.theory_definitions.specs.Instance.{Text}
use Rattle.theory_definitions.specs.Reports.{Unit_, Error, report_of}
use Rattle.theory_definitions.specs.Matching.{Matching, Pair}
use Rattle.theory_definitions.specs.Keywords.{Answer, Answers, Fault, Gives, MatchPoint, Question, Reply, Turn, all_of_it, ask, done, first_of_it, for_all, for_first, for_units, for_verdict, match_text, own, passed, truth, unit_of_it}
use Rattle.theory_definitions.specs.Keywords as spec
use Rattle.theory_definitions.specs.Laws.{first_fault}
use Rattle.theory_definitions.specs.Runs.{first_error}
use Rattle.schema_traits.specs.KeywordViews.{is_nil, mode_of, no_gives, option_list, with_errors, fresh}
use Rattle.schema_traits.specs.declared.keyword.Mode.{Mode}
use Rattle.schema_traits.specs.declared.keyword.Mode.TheVariants as mode
use Rattle.keyword_authoring.specs.declared.run.Stage.{Stage}
use Rattle.keyword_authoring.specs.declared.run.Stage.TheVariants.{Begun, Asked, Counted, Ended}
use Rattle.keyword_authoring.specs.Ways.{Way, asks_match, described, evaluated, is_matched, match_point, unless, tells, passes_on, passes_some, judges, branches, branch, branch_number, chosen, counted_at, given, judged_at, plain, way_holds, way_faults, way_units, refused, with_first, noted, with_unit, taken, goes_on, nth, asked, stage_at, stage_some, next_if, next_some, step_at, stage_after, answer_after, mode_from, way_left, way_turns, left_of}
use Rattle.std.proofs.lemmas.List.{drop-drop}
use Rattle.keyword_authoring.specs.Somes.{first_some, question_of, some_from, somes}
use Rattle.keyword_authoring.specs.Tallies.{Tally, asked_in, counted, in_evaluation, is_settled, says_yes, tallied, told_by, wants_units, with_child, with_inside, yes_count}

-- the true reply to a question in a mode
abbrev pub reply_for : Mode → Answers → (Question → Unit_) → Question → Reply
reply_for mode.Verdict a u q = truth (a q).verdict
reply_for mode.First a u q = first_of_it (first_error (a q).errors)
reply_for mode.All a u q = all_of_it (a q).errors
reply_for mode.Evaluate a u q = unit_of_it (u q)

abbrev pub either : Bool → Answer → Answer → Answer
either true a b = a
either false a b = b

-- the answer after these questions, in order
abbrev pub led : (Question → Reply) → Answer → List Question → Answer
led reply a [] = a
led reply a (q ∷ qs) = either (goes_on (reply q)) (led reply (taken a (reply q)) qs) (taken a (reply q))

-- the answer of a run that judges after these questions, with this many accepted before
abbrev pub judged_on : Tally → Bool → (Question → Reply) → Mode → ℕ → Answer → List Question → Answer
judged_on t units reply m n a [] = noted m t.name a (t.told n)
judged_on t units reply m n a (q ∷ qs) = either (is_settled units t.enough (tallied t.enough (reply q) n))
    (noted m t.name (with_child a (reply q)) (t.told (tallied t.enough (reply q) n)))
    (judged_on t units reply m (tallied t.enough (reply q) n) (with_child a (reply q)) qs)

-- the true replies: to a question by the mode in which it is asked, and whether a pattern matches a
-- text
pub record Replies : Type 0 where
  pub to_question : Mode → Question → Reply
  pub to_match : Pair → Bool

-- the true replies by matches, answers and units
abbrev pub replies_by : Matching → Answers → (Question → Unit_) → Replies
replies_by matching answers u = record { to_question = λ m. reply_for m answers u; to_match = is_matched matching }

-- the true replies to a run that judges
abbrev pub judge_replies : Tally → Replies → Mode → Question → Reply
judge_replies t replies m = replies.to_question (asked_in (wants_units t m))

-- the answer with which a run ends
abbrev pub end_at : Way → Replies → Mode → Stage → Answer → Answer
end_at (tells name ts) replies m Begun a = noted m name a ts
end_at (tells name ts) replies m (Asked i) a = a
end_at (tells name ts) replies m (Counted i n) a = a
end_at (tells name ts) replies m Ended a = a
end_at (passes_on qs) replies m Begun a = led (replies.to_question m) a qs
end_at (passes_on qs) replies m (Asked i) a = led (replies.to_question m) a (drop i qs)
end_at (passes_on qs) replies m (Counted i n) a = a
end_at (passes_on qs) replies m Ended a = a
end_at (passes_some os) replies m Begun a = led (replies.to_question m) a (somes os)
end_at (passes_some os) replies m (Asked i) a = led (replies.to_question m) a (somes (drop i os))
end_at (passes_some os) replies m (Counted i n) a = a
end_at (passes_some os) replies m Ended a = a
end_at (judges t qs) replies m Begun a = judged_on t (wants_units t m) (judge_replies t replies m) m 0 a qs
end_at (judges t qs) replies m (Asked i) a = a
end_at (judges t qs) replies m (Counted i n) a = judged_on t (wants_units t m) (judge_replies t replies m) m n a (drop i qs)
end_at (judges t qs) replies m Ended a = a
end_at (branches q one other) replies m Begun a = led (replies.to_question m) a (branch (says_yes (replies.to_question mode.Verdict q)) one other)
end_at (branches q one other) replies m (Asked zero) a = led (replies.to_question m) a (branch (says_yes (replies.to_question mode.Verdict q)) one other)
end_at (branches q one other) replies m (Asked (suc zero)) a = led (replies.to_question m) a (option_list one)
end_at (branches q one other) replies m (Asked (suc (suc i))) a = led (replies.to_question m) a (option_list other)
end_at (branches q one other) replies m (Counted i n) a = a
end_at (branches q one other) replies m Ended a = a
end_at (asks_match name p text) replies m Begun a = noted m name a (unless (replies.to_match p) text)
end_at (asks_match name p text) replies m (Asked i) a = noted m name a (unless (replies.to_match p) text)
end_at (asks_match name p text) replies m (Counted i n) a = a
end_at (asks_match name p text) replies m Ended a = a

-- the last reply is the true one
abbrev pub fits_at : Way → Replies → Mode → Stage → Reply → Type 0
fits_at (tells name ts) replies m stage r = Unit {0}
fits_at (passes_on qs) replies m Begun r = Unit {0}
fits_at (passes_on qs) replies m (Asked i) r = (q : Question) × (nth i qs ≡ Some q) × (r ≡ replies.to_question m q)
fits_at (passes_on qs) replies m (Counted i n) r = Unit {0}
fits_at (passes_on qs) replies m Ended r = Unit {0}
fits_at (passes_some os) replies m Begun r = Unit {0}
fits_at (passes_some os) replies m (Asked i) r = (q : Question) × (rest : List (Option Question)) × (drop i os ≡ Some q ∷ rest) × (r ≡ replies.to_question m q)
fits_at (passes_some os) replies m (Counted i n) r = Unit {0}
fits_at (passes_some os) replies m Ended r = Unit {0}
fits_at (judges t qs) replies m Begun r = Unit {0}
fits_at (judges t qs) replies m (Asked i) r = Unit {0}
fits_at (judges t qs) replies m (Counted i n) r = (q : Question) × (nth i qs ≡ Some q) × (r ≡ judge_replies t replies m q)
fits_at (judges t qs) replies m Ended r = Unit {0}
fits_at (branches q one other) replies m Begun r = Unit {0}
fits_at (branches q one other) replies m (Asked zero) r = r ≡ replies.to_question mode.Verdict q
fits_at (branches q one other) replies m (Asked (suc zero)) r = (p : Question) × (one ≡ Some p) × (r ≡ replies.to_question m p)
fits_at (branches q one other) replies m (Asked (suc (suc i))) r = (p : Question) × (other ≡ Some p) × (r ≡ replies.to_question m p)
fits_at (branches q one other) replies m (Counted i n) r = Unit {0}
fits_at (branches q one other) replies m Ended r = Unit {0}
fits_at (asks_match name p text) replies m Begun r = Unit {0}
fits_at (asks_match name p text) replies m (Asked i) r = r ≡ truth (replies.to_match p)
fits_at (asks_match name p text) replies m (Counted i n) r = Unit {0}
fits_at (asks_match name p text) replies m Ended r = Unit {0}

nth-drop_suc : (i : ℕ) (qs : List Question) (q : Question) → nth i qs ≡ Some q → drop i qs ≡ q ∷ drop (suc i) qs
nth-drop_suc zero [] q h = cc
nth-drop_suc (suc i) [] q h = cc
nth-drop_suc zero (p ∷ qs) q h = let e : p ≡ q = cc in ap (λ x. x ∷ qs) e
nth-drop_suc (suc i) (p ∷ qs) q h = nth-drop_suc i qs q h

nth-drop : (i : ℕ) (qs : List Question) (q : Question) → nth i qs ≡ Some q → drop i qs ≡ q ∷ drop (i + 1) qs
nth-drop i qs q h = nth-drop_suc i qs q h ∙ ap (λ n. q ∷ drop n qs) (sym (add-one i))

drop-none : (i : ℕ) (qs : List Question) → nth i qs ≡ None → drop i qs ≡ []
drop-none zero [] h = refl
drop-none (suc i) [] h = refl
drop-none zero (p ∷ qs) h = cc
drop-none (suc i) (p ∷ qs) h = drop-none i qs h

nth-within : (i : ℕ) (qs : List Question) (q : Question) → nth i qs ≡ Some q → i < length qs
nth-within zero [] q h = cc
nth-within (suc i) [] q h = cc
nth-within zero (p ∷ qs) q h = omega arith
nth-within (suc i) (p ∷ qs) q h = let r : i < length qs = nth-within i qs q h in omega arith

-- a question that is present leads on by its reply
led_at : (reply : Question → Reply) (a : Answer) (i : ℕ) (qs : List Question) (q : Question) → nth i qs ≡ Some q
    → led reply a (drop i qs) ≡ either (goes_on (reply q)) (led reply (taken a (reply q)) (drop (i + 1) qs)) (taken a (reply q))
led_at reply a i qs q h = ap (led reply a) (nth-drop i qs q h)

-- ---- questions of which some are present

-- the number of a pair that is found
abbrev number_found : ℕ × Question → ℕ
number_found x = x.0

abbrev asked_found : ℕ × Question → Question
asked_found x = x.1

one_pair : (x y : ℕ × Question) → Some x ≡ Some y → x ≡ y
one_pair x y h = cc

-- what is found is present, and nothing before it is
found : (i : ℕ) (xs : List (Option Question)) (j : ℕ) (q : Question) → first_some i xs ≡ Some (j, q)
    → (k : ℕ) × (rest : List (Option Question)) × (j ≡ i + k) × (drop k xs ≡ Some q ∷ rest) × (somes xs ≡ q ∷ somes rest)
found i [] j q h = cc
found i (None ∷ xs) j q h = later i xs j q (found (i + 1) xs j q h)
  where
    later : (i : ℕ) (xs : List (Option Question)) (j : ℕ) (q : Question) → ((k : ℕ) × (rest : List (Option Question)) × (j ≡ (i + 1) + k) × (drop k xs ≡ Some q ∷ rest) × (somes xs ≡ q ∷ somes rest))
        → (k : ℕ) × (rest : List (Option Question)) × (j ≡ i + k) × (drop k (None ∷ xs) ≡ Some q ∷ rest) × (somes xs ≡ q ∷ somes rest)
    later i xs j q (k, rest, e, d, s) = (suc k, rest, omega (arith, e), d, s)
found i (Some p ∷ xs) j q h = let e : p ≡ q = ap asked_found (one_pair (i, p) (j, q) h) in let is : i ≡ j = ap number_found (one_pair (i, p) (j, q) h) in
    (0, xs, omega (arith, is), ap (λ x. Some x ∷ xs) e, ap (λ x. x ∷ somes xs) e)

found_none : (i : ℕ) (xs : List (Option Question)) → first_some i xs ≡ None → somes xs ≡ []
found_none i [] h = refl
found_none i (None ∷ xs) h = found_none (i + 1) xs h
found_none i (Some p ∷ xs) h = cc

within_some : (i : ℕ) (os : List (Option Question)) (x : Option Question) (rest : List (Option Question)) → drop i os ≡ x ∷ rest → i < length os
within_some zero [] x rest h = cc
within_some (suc i) [] x rest h = cc
within_some zero (y ∷ os) x rest h = omega arith
within_some (suc i) (y ∷ os) x rest h = let r : i < length os = within_some i os x rest h in omega arith

rest_suc : (i : ℕ) (os : List (Option Question)) (x : Option Question) (rest : List (Option Question)) → drop i os ≡ x ∷ rest → drop (suc i) os ≡ rest
rest_suc zero [] x rest h = cc
rest_suc (suc i) [] x rest h = cc
rest_suc zero (y ∷ os) x rest h = let e : os ≡ rest = cc in e
rest_suc (suc i) (y ∷ os) x rest h = rest_suc i os x rest h

rest_after : (i : ℕ) (os : List (Option Question)) (x : Option Question) (rest : List (Option Question)) → drop i os ≡ x ∷ rest → drop (i + 1) os ≡ rest
rest_after i os x rest h = ap (λ n. drop n os) (add-one i) ∙ rest_suc i os x rest h

-- what is found from a number on
record IsFound (os : List (Option Question)) (i j : ℕ) (q : Question) : Type 0 where
  pub rest : List (Option Question)
  pub here : drop j os ≡ Some q ∷ rest
  pub same : somes (drop i os) ≡ somes (drop j os)
  pub after : i ≤ j
  pub within : j < length os

found_from : (i : ℕ) (os : List (Option Question)) (j : ℕ) (q : Question) → some_from i os ≡ Some (j, q) → IsFound os i j q
found_from i os j q h = from (found i (drop i os) j q h)
  where
    from : ((k : ℕ) × (rest : List (Option Question)) × (j ≡ i + k) × (drop k (drop i os) ≡ Some q ∷ rest) × (somes (drop i os) ≡ q ∷ somes rest)) → IsFound os i j q
    from (k, rest, e, d, s) =
        let here : drop j os ≡ Some q ∷ rest = ap (λ n. drop n os) e ∙ (sym (drop-drop k i os) ∙ d) in
        record { rest = rest; here = here; same = s ∙ sym (ap somes here); after = omega (arith, e); within = within_some j os (Some q) rest here }

-- a question that is present leads on by its reply
led_some : (reply : Question → Reply) (a : Answer) (i : ℕ) (os : List (Option Question)) (q : Question) (rest : List (Option Question)) → drop i os ≡ Some q ∷ rest
    → led reply a (somes (drop i os)) ≡ either (goes_on (reply q)) (led reply (taken a (reply q)) (somes (drop (i + 1) os))) (taken a (reply q))
led_some reply a i os q rest h = ap (λ xs. led reply a (somes xs)) h
    ∙ ap (λ xs. either (goes_on (reply q)) (led reply (taken a (reply q)) (somes xs)) (taken a (reply q))) (sym (rest_after i os (Some q) rest h))

-- ---- each turn takes a run nearer to its end

falls_some_begun : (os : List (Option Question)) (m : Mode) (o : Option (ℕ × Question)) → (asked m (question_of o) ≡ done) ⊎ (left_of (length os) (stage_some o) < length os + 1)
falls_some_begun os m None = inl refl
falls_some_begun os m (Some (j, q)) = inr (omega arith)

falls_some : (os : List (Option Question)) (m : Mode) (i : ℕ) (b : Bool) (o : Option (ℕ × Question)) → some_from (i + 1) os ≡ o
    → (asked m (question_of (next_some b o)) ≡ done) ⊎ (left_of (length os) (stage_some (next_some b o)) < length os - i)
falls_some os m i false o h = inl refl
falls_some os m i true None h = inl refl
falls_some os m i true (Some (j, q)) h = let f : IsFound os (i + 1) j q = found_from (i + 1) os j q h in inr (omega (arith, f.after, f.within))

falls_begun : (qs : List Question) (m : Mode) → (asked m (nth 0 qs) ≡ done) ⊎ (way_left (passes_on qs) (stage_at 0 (nth 0 qs)) < length qs + 1)
falls_begun [] m = inl refl
falls_begun (q ∷ qs) m = inr (omega arith)

falls_asked : (qs : List Question) (m : Mode) (i : ℕ) (b : Bool) (o : Option Question) → nth (i + 1) qs ≡ o
    → (asked m (next_if b o) ≡ done) ⊎ (way_left (passes_on qs) (stage_at (i + 1) (next_if b o)) < length qs - i)
falls_asked qs m i false o h = inl refl
falls_asked qs m i true None h = inl refl
falls_asked qs m i true (Some q) h = let within : i + 1 < length qs = nth-within (i + 1) qs q h in inr (omega arith)

falls_judging : (qs : List Question) (m : Mode) → (asked m (nth 0 qs) ≡ done) ⊎ (left_of (length qs) (counted_at 0 0 (nth 0 qs)) < length qs + 1)
falls_judging [] m = inl refl
falls_judging (q ∷ qs) m = inr (omega arith)

falls_counted : (qs : List Question) (m : Mode) (i n : ℕ) (b : Bool) (o : Option Question) → nth (i + 1) qs ≡ o
    → (asked m (next_if b o) ≡ done) ⊎ (left_of (length qs) (counted_at (i + 1) n (next_if b o)) < length qs - i)
falls_counted qs m i n false o h = inl refl
falls_counted qs m i n true None h = inl refl
falls_counted qs m i n true (Some q) h = let within : i + 1 < length qs = nth-within (i + 1) qs q h in inr (omega arith)

falls_branch : (n : ℕ) (m : Mode) (b : Bool) (one other : Option Question) → 0 < n
    → (asked m (chosen b one other) ≡ done) ⊎ (left_of n (stage_at (branch_number b) (chosen b one other)) < n - 0)
falls_branch n m true None other h = inl refl
falls_branch n m true (Some p) other h = inr (omega arith)
falls_branch n m false one None h = inl refl
falls_branch n m false one (Some p) h = inr (omega arith)

pub way_falls : (w : Way) (m : Mode) (stage : Stage) (r : Reply) → (step_at w m stage r ≡ done) ⊎ (way_left w (stage_after w m stage r) < way_left w stage)
way_falls (tells name ts) m stage r = inl refl
way_falls (passes_on qs) m Begun r = falls_begun qs m
way_falls (passes_on qs) m (Asked i) r = falls_asked qs m i (goes_on r) (nth (i + 1) qs) refl
way_falls (passes_on qs) m (Counted i n) r = inl refl
way_falls (passes_on qs) m Ended r = inl refl
way_falls (passes_some os) m Begun r = falls_some_begun os m (some_from 0 os)
way_falls (passes_some os) m (Asked i) r = falls_some os m i (goes_on r) (some_from (i + 1) os) refl
way_falls (passes_some os) m (Counted i n) r = inl refl
way_falls (passes_some os) m Ended r = inl refl
way_falls (judges t qs) m Begun r = falls_judging qs (asked_in (wants_units t m))
way_falls (judges t qs) m (Asked i) r = inl refl
way_falls (judges t qs) m (Counted i n) r = falls_counted qs (asked_in (wants_units t m)) i (tallied t.enough r n) (not (is_settled (wants_units t m) t.enough (tallied t.enough r n))) (nth (i + 1) qs) refl
way_falls (judges t qs) m Ended r = inl refl
way_falls (branches q one other) m Begun r = inr (omega arith)
way_falls (branches q one other) m (Asked zero) r = falls_branch (length (q ∷ (option_list one ++ option_list other))) m (says_yes r) one other (omega arith)
way_falls (branches q one other) m (Asked (suc i)) r = inl refl
way_falls (branches q one other) m (Counted i n) r = inl refl
way_falls (branches q one other) m Ended r = inl refl
way_falls (asks_match name p text) m Begun r = inr (omega arith)
way_falls (asks_match name p text) m (Asked i) r = inl refl
way_falls (asks_match name p text) m (Counted i n) r = inl refl
way_falls (asks_match name p text) m Ended r = inl refl

pub way_bounded : (w : Way) → way_left w Begun < way_turns w
way_bounded w = omega arith

-- ---- a turn whose reply is the true one keeps the end

pub record Keeps (w : Way) (replies : Replies) (m : Mode) (stage : Stage) (a : Answer) (r next : Reply) : Type 0 where
  pub fits : fits_at w replies m (stage_after w m stage r) next
  pub ends : end_at w replies m (stage_after w m stage r) (answer_after w m stage a r) ≡ end_at w replies m stage a

-- the next reply is the true one to the step
abbrev pub IsTrueNext : Replies → Turn → Reply → Type 0
IsTrueNext replies step next = (q : Question) (m : Mode) → step ≡ ask q (mode_of m) → next ≡ replies.to_question m q

-- the next reply is the true one to a step that requests a match
abbrev pub IsTrueMatch : Replies → Turn → Reply → Type 0
IsTrueMatch replies step next = (p : Pair) (point : MatchPoint) → step ≡ match_text p point → next ≡ truth (replies.to_match p)

keeps_begun : (qs : List Question) (replies : Replies) (m : Mode) (a : Answer) (r next : Reply) → (asked m (nth 0 qs) ≡ done → ⊥)
    → IsTrueNext replies (asked m (nth 0 qs)) next → Keeps (passes_on qs) replies m Begun a r next
keeps_begun [] replies m a r next h f = absurd (h refl)
keeps_begun (q ∷ qs) replies m a r next h f = record { fits = (q, refl, f q m refl); ends = refl }

asked_kept : (qs : List Question) (replies : Replies) (m : Mode) (i : ℕ) (a : Answer) (q : Question) (next : Reply) (b : Bool) (o : Option Question)
    → nth i qs ≡ Some q → b ≡ goes_on (replies.to_question m q) → nth (i + 1) qs ≡ o
    → (asked m (next_if b o) ≡ done → ⊥) → IsTrueNext replies (asked m (next_if b o)) next
    → fits_at (passes_on qs) replies m (stage_at (i + 1) (next_if b o)) next × (end_at (passes_on qs) replies m (stage_at (i + 1) (next_if b o)) (taken a (replies.to_question m q)) ≡ led (replies.to_question m) a (drop i qs))
asked_kept qs replies m i a q next false o here goes later h f = absurd (h refl)
asked_kept qs replies m i a q next true None here goes later h f = absurd (h refl)
asked_kept qs replies m i a q next true (Some p) here goes later h f =
    ((p, later, f p m refl), sym (led_at (replies.to_question m) a i qs q here ∙ ap (λ b. either b (led (replies.to_question m) (taken a (replies.to_question m q)) (drop (i + 1) qs)) (taken a (replies.to_question m q))) (sym goes)))

keeps_asked : (qs : List Question) (replies : Replies) (m : Mode) (i : ℕ) (a : Answer) (r next : Reply) → fits_at (passes_on qs) replies m (Asked i) r
    → (step_at (passes_on qs) m (Asked i) r ≡ done → ⊥) → IsTrueNext replies (step_at (passes_on qs) m (Asked i) r) next
    → Keeps (passes_on qs) replies m (Asked i) a r next
keeps_asked qs replies m i a r next (q, here, true_reply) h f =
    let parts : fits_at (passes_on qs) replies m (stage_at (i + 1) (next_if (goes_on r) (nth (i + 1) qs))) next × (end_at (passes_on qs) replies m (stage_at (i + 1) (next_if (goes_on r) (nth (i + 1) qs))) (taken a (replies.to_question m q)) ≡ led (replies.to_question m) a (drop i qs))
    = asked_kept qs replies m i a q next (goes_on r) (nth (i + 1) qs) here (ap goes_on true_reply) refl h f in
    record { fits = parts.0; ends = ap (λ x. end_at (passes_on qs) replies m (stage_at (i + 1) (next_if (goes_on r) (nth (i + 1) qs))) (taken a x)) true_reply ∙ parts.1 }

keeps_some_begun : (os : List (Option Question)) (replies : Replies) (m : Mode) (a : Answer) (r next : Reply) → (asked m (question_of (some_from 0 os)) ≡ done → ⊥)
    → IsTrueNext replies (asked m (question_of (some_from 0 os))) next → Keeps (passes_some os) replies m Begun a r next
keeps_some_begun os replies m a r next h f = let parts : fits_at (passes_some os) replies m (stage_some (some_from 0 os)) next × (end_at (passes_some os) replies m (stage_some (some_from 0 os)) a ≡ led (replies.to_question m) a (somes os))
    = begun (some_from 0 os) refl h f in
    record { fits = parts.0; ends = parts.1 }
  where
    begun : (o : Option (ℕ × Question)) → some_from 0 os ≡ o → (asked m (question_of o) ≡ done → ⊥) → IsTrueNext replies (asked m (question_of o)) next
        → fits_at (passes_some os) replies m (stage_some o) next × (end_at (passes_some os) replies m (stage_some o) a ≡ led (replies.to_question m) a (somes os))
    begun None e h f = absurd (h refl)
    begun (Some (j, q)) e h f = let is : IsFound os 0 j q = found_from 0 os j q e in
        ((q, is.rest, is.here, f q m refl), ap (led (replies.to_question m) a) (sym is.same))

some_kept : (os : List (Option Question)) (replies : Replies) (m : Mode) (i : ℕ) (a : Answer) (q : Question) (rest : List (Option Question)) (next : Reply) (b : Bool) (o : Option (ℕ × Question))
    → drop i os ≡ Some q ∷ rest → b ≡ goes_on (replies.to_question m q) → some_from (i + 1) os ≡ o
    → (asked m (question_of (next_some b o)) ≡ done → ⊥) → IsTrueNext replies (asked m (question_of (next_some b o))) next
    → fits_at (passes_some os) replies m (stage_some (next_some b o)) next
    × (end_at (passes_some os) replies m (stage_some (next_some b o)) (taken a (replies.to_question m q)) ≡ led (replies.to_question m) a (somes (drop i os)))
some_kept os replies m i a q rest next false o here goes later h f = absurd (h refl)
some_kept os replies m i a q rest next true None here goes later h f = absurd (h refl)
some_kept os replies m i a q rest next true (Some (j, p)) here goes later h f = let is : IsFound os (i + 1) j p = found_from (i + 1) os j p later in (
  (p, is.rest, is.here, f p m refl),
  sym (led_some (replies.to_question m) a i os q rest here
      ∙ (ap (λ b. either b (led (replies.to_question m) (taken a (replies.to_question m q)) (somes (drop (i + 1) os))) (taken a (replies.to_question m q))) (sym goes)
      ∙ ap (led (replies.to_question m) (taken a (replies.to_question m q))) is.same)),
)

keeps_some : (os : List (Option Question)) (replies : Replies) (m : Mode) (i : ℕ) (a : Answer) (r next : Reply) → fits_at (passes_some os) replies m (Asked i) r
    → (step_at (passes_some os) m (Asked i) r ≡ done → ⊥) → IsTrueNext replies (step_at (passes_some os) m (Asked i) r) next
    → Keeps (passes_some os) replies m (Asked i) a r next
keeps_some os replies m i a r next (q, rest, here, true_reply) h f =
    let parts : fits_at (passes_some os) replies m (stage_some (next_some (goes_on r) (some_from (i + 1) os))) next
    × (end_at (passes_some os) replies m (stage_some (next_some (goes_on r) (some_from (i + 1) os))) (taken a (replies.to_question m q)) ≡ led (replies.to_question m) a (somes (drop i os)))
    = some_kept os replies m i a q rest next (goes_on r) (some_from (i + 1) os) here (ap goes_on true_reply) refl h f in
    record { fits = parts.0; ends = ap (λ x. end_at (passes_some os) replies m (stage_some (next_some (goes_on r) (some_from (i + 1) os))) (taken a x)) true_reply ∙ parts.1 }

-- a question that is present is counted
judged_here : (t : Tally) (units : Bool) (reply : Question → Reply) (m : Mode) (n : ℕ) (a : Answer) (i : ℕ) (qs : List Question) (q : Question) → nth i qs ≡ Some q
    → judged_on t units reply m n a (drop i qs) ≡ either (is_settled units t.enough (tallied t.enough (reply q) n))
    (noted m t.name (with_child a (reply q)) (t.told (tallied t.enough (reply q) n)))
    (judged_on t units reply m (tallied t.enough (reply q) n) (with_child a (reply q)) (drop (i + 1) qs))
judged_here t units reply m n a i qs q h = ap (judged_on t units reply m n a) (nth-drop i qs q h)

keeps_judging : (t : Tally) (qs : List Question) (replies : Replies) (m : Mode) (a : Answer) (r next : Reply) → (asked (asked_in (wants_units t m)) (nth 0 qs) ≡ done → ⊥)
    → IsTrueNext replies (asked (asked_in (wants_units t m)) (nth 0 qs)) next → Keeps (judges t qs) replies m Begun a r next
keeps_judging t [] replies m a r next h f = absurd (h refl)
keeps_judging t (q ∷ qs) replies m a r next h f = record { fits = (q, refl, f q (asked_in (wants_units t m)) refl); ends = refl }

counted_kept : (t : Tally) (qs : List Question) (replies : Replies) (m : Mode) (i n : ℕ) (a : Answer) (q : Question) (next : Reply) (s : Bool) (o : Option Question)
    → nth i qs ≡ Some q → s ≡ is_settled (wants_units t m) t.enough (tallied t.enough (judge_replies t replies m q) n) → nth (i + 1) qs ≡ o
    → (asked (asked_in (wants_units t m)) (next_if (not s) o) ≡ done → ⊥) → IsTrueNext replies (asked (asked_in (wants_units t m)) (next_if (not s) o)) next
    → fits_at (judges t qs) replies m (counted_at (i + 1) (tallied t.enough (judge_replies t replies m q) n) (next_if (not s) o)) next
    × (end_at (judges t qs) replies m (counted_at (i + 1) (tallied t.enough (judge_replies t replies m q) n) (next_if (not s) o))
    (judged_at t m (tallied t.enough (judge_replies t replies m q) n) (with_child a (judge_replies t replies m q)) (next_if (not s) o))
    ≡ judged_on t (wants_units t m) (judge_replies t replies m) m n a (drop i qs))
counted_kept t qs replies m i n a q next true o here settled later h f = absurd (h refl)
counted_kept t qs replies m i n a q next false None here settled later h f = absurd (h refl)
counted_kept t qs replies m i n a q next false (Some p) here settled later h f = (
  (p, later, f p (asked_in (wants_units t m)) refl),
  sym (judged_here t (wants_units t m) (judge_replies t replies m) m n a i qs q here
      ∙ ap (λ s. either s (noted m t.name (with_child a (judge_replies t replies m q)) (t.told (tallied t.enough (judge_replies t replies m q) n)))
      (judged_on t (wants_units t m) (judge_replies t replies m) m (tallied t.enough (judge_replies t replies m q) n) (with_child a (judge_replies t replies m q)) (drop (i + 1) qs))) (sym settled)),
)

-- a turn of a run that judges, by its reply
abbrev pub counted_stage : Tally → List Question → Mode → ℕ → ℕ → Reply → Stage
counted_stage t qs m i n r = stage_after (judges t qs) m (Counted i n) r

abbrev pub counted_answer : Tally → List Question → Mode → ℕ → ℕ → Answer → Reply → Answer
counted_answer t qs m i n a r = answer_after (judges t qs) m (Counted i n) a r

keeps_counted : (t : Tally) (qs : List Question) (replies : Replies) (m : Mode) (i n : ℕ) (a : Answer) (r next : Reply) → fits_at (judges t qs) replies m (Counted i n) r
    → (step_at (judges t qs) m (Counted i n) r ≡ done → ⊥) → IsTrueNext replies (step_at (judges t qs) m (Counted i n) r) next
    → Keeps (judges t qs) replies m (Counted i n) a r next
keeps_counted t qs replies m i n a r next (q, here, true_reply) h f =
    subst (λ x. (step_at (judges t qs) m (Counted i n) x ≡ done → ⊥) → IsTrueNext replies (step_at (judges t qs) m (Counted i n) x) next → Keeps (judges t qs) replies m (Counted i n) a x next)
    (sym true_reply) kept h f
  where
    kept : (step_at (judges t qs) m (Counted i n) (judge_replies t replies m q) ≡ done → ⊥) → IsTrueNext replies (step_at (judges t qs) m (Counted i n) (judge_replies t replies m q)) next
        → Keeps (judges t qs) replies m (Counted i n) a (judge_replies t replies m q) next
    kept h f =
        let parts : fits_at (judges t qs) replies m (counted_stage t qs m i n (judge_replies t replies m q)) next
        × (end_at (judges t qs) replies m (counted_stage t qs m i n (judge_replies t replies m q)) (counted_answer t qs m i n a (judge_replies t replies m q)) ≡ judged_on t (wants_units t m) (judge_replies t replies m) m n a (drop i qs))
        = counted_kept t qs replies m i n a q next (is_settled (wants_units t m) t.enough (tallied t.enough (judge_replies t replies m q) n)) (nth (i + 1) qs) here refl refl h f in
        record { fits = parts.0; ends = parts.1 }

branch_kept : (q : Question) (one other : Option Question) (replies : Replies) (m : Mode) (a : Answer) (next : Reply) (b : Bool) → b ≡ says_yes (replies.to_question mode.Verdict q)
    → (asked m (chosen b one other) ≡ done → ⊥) → IsTrueNext replies (asked m (chosen b one other)) next
    → fits_at (branches q one other) replies m (stage_at (branch_number b) (chosen b one other)) next
    × (end_at (branches q one other) replies m (stage_at (branch_number b) (chosen b one other)) a ≡ led (replies.to_question m) a (branch (says_yes (replies.to_question mode.Verdict q)) one other))
branch_kept q None other replies m a next true says h f = absurd (h refl)
branch_kept q (Some p) other replies m a next true says h f = ((p, refl, f p m refl), ap (λ b. led (replies.to_question m) a (branch b (Some p) other)) says)
branch_kept q one None replies m a next false says h f = absurd (h refl)
branch_kept q one (Some p) replies m a next false says h f = ((p, refl, f p m refl), ap (λ b. led (replies.to_question m) a (branch b one (Some p))) says)

keeps_branch : (q : Question) (one other : Option Question) (replies : Replies) (m : Mode) (a : Answer) (r next : Reply) → r ≡ replies.to_question mode.Verdict q
    → (asked m (chosen (says_yes r) one other) ≡ done → ⊥) → IsTrueNext replies (asked m (chosen (says_yes r) one other)) next → Keeps (branches q one other) replies m (Asked 0) a r next
keeps_branch q one other replies m a r next true_reply h f =
    let parts : fits_at (branches q one other) replies m (stage_at (branch_number (says_yes r)) (chosen (says_yes r) one other)) next
    × (end_at (branches q one other) replies m (stage_at (branch_number (says_yes r)) (chosen (says_yes r) one other)) a ≡ led (replies.to_question m) a (branch (says_yes (replies.to_question mode.Verdict q)) one other))
    = branch_kept q one other replies m a next (says_yes r) (ap says_yes true_reply) h f in
    record { fits = parts.0; ends = parts.1 }

pub way_keeps : (w : Way) (replies : Replies) (m : Mode) (stage : Stage) (a : Answer) (r next : Reply) → fits_at w replies m stage r
    → (step_at w m stage r ≡ done → ⊥) → IsTrueNext replies (step_at w m stage r) next → IsTrueMatch replies (step_at w m stage r) next
    → Keeps w replies m stage a r next
way_keeps (tells name ts) replies m stage a r next fits h f g = absurd (h refl)
way_keeps (passes_on qs) replies m Begun a r next fits h f g = keeps_begun qs replies m a r next h f
way_keeps (passes_on qs) replies m (Asked i) a r next fits h f g = keeps_asked qs replies m i a r next fits h f
way_keeps (passes_on qs) replies m (Counted i n) a r next fits h f g = absurd (h refl)
way_keeps (passes_on qs) replies m Ended a r next fits h f g = absurd (h refl)
way_keeps (passes_some os) replies m Begun a r next fits h f g = keeps_some_begun os replies m a r next h f
way_keeps (passes_some os) replies m (Asked i) a r next fits h f g = keeps_some os replies m i a r next fits h f
way_keeps (passes_some os) replies m (Counted i n) a r next fits h f g = absurd (h refl)
way_keeps (passes_some os) replies m Ended a r next fits h f g = absurd (h refl)
way_keeps (judges t qs) replies m Begun a r next fits h f g = keeps_judging t qs replies m a r next h f
way_keeps (judges t qs) replies m (Asked i) a r next fits h f g = absurd (h refl)
way_keeps (judges t qs) replies m (Counted i n) a r next fits h f g = keeps_counted t qs replies m i n a r next fits h f
way_keeps (judges t qs) replies m Ended a r next fits h f g = absurd (h refl)
way_keeps (branches q one other) replies m Begun a r next fits h f g = record { fits = f q mode.Verdict refl; ends = refl }
way_keeps (branches q one other) replies m (Asked zero) a r next fits h f g = keeps_branch q one other replies m a r next fits h f
way_keeps (branches q one other) replies m (Asked (suc i)) a r next fits h f g = absurd (h refl)
way_keeps (branches q one other) replies m (Counted i n) a r next fits h f g = absurd (h refl)
way_keeps (branches q one other) replies m Ended a r next fits h f g = absurd (h refl)
way_keeps (asks_match name p text) replies m Begun a r next fits h f g = record { fits = g p (match_point m p.pattern) refl; ends = refl }
way_keeps (asks_match name p text) replies m (Asked i) a r next fits h f g = absurd (h refl)
way_keeps (asks_match name p text) replies m (Counted i n) a r next fits h f g = absurd (h refl)
way_keeps (asks_match name p text) replies m Ended a r next fits h f g = absurd (h refl)

-- ---- at `done` the answer is the one at the end

stands_begun : (qs : List Question) (reply : Question → Reply) (m : Mode) (a : Answer) → asked m (nth 0 qs) ≡ done → a ≡ led reply a qs
stands_begun [] reply m a h = refl
stands_begun (q ∷ qs) reply m a h = cc

asked_stands : (qs : List Question) (reply : Question → Reply) (m : Mode) (i : ℕ) (a : Answer) (q : Question) (b : Bool) (o : Option Question)
    → nth i qs ≡ Some q → b ≡ goes_on (reply q) → nth (i + 1) qs ≡ o → asked m (next_if b o) ≡ done → taken a (reply q) ≡ led reply a (drop i qs)
asked_stands qs reply m i a q false o here goes later h = sym (led_at reply a i qs q here ∙ ap (λ b. either b (led reply (taken a (reply q)) (drop (i + 1) qs)) (taken a (reply q))) (sym goes))
asked_stands qs reply m i a q true None here goes later h =
    sym (led_at reply a i qs q here ∙ (ap (λ b. either b (led reply (taken a (reply q)) (drop (i + 1) qs)) (taken a (reply q))) (sym goes)
    ∙ ap (led reply (taken a (reply q))) (drop-none (i + 1) qs later)))
asked_stands qs reply m i a q true (Some p) here goes later h = cc

stands_asked : (qs : List Question) (replies : Replies) (m : Mode) (i : ℕ) (a : Answer) (r : Reply) → fits_at (passes_on qs) replies m (Asked i) r
    → step_at (passes_on qs) m (Asked i) r ≡ done → taken a r ≡ led (replies.to_question m) a (drop i qs)
stands_asked qs replies m i a r (q, here, true_reply) h = ap (taken a) true_reply ∙ asked_stands qs (replies.to_question m) m i a q (goes_on r) (nth (i + 1) qs) here (ap goes_on true_reply) refl h

stands_some_begun : (os : List (Option Question)) (reply : Question → Reply) (m : Mode) (a : Answer) (o : Option (ℕ × Question)) → some_from 0 os ≡ o → asked m (question_of o) ≡ done → a ≡ led reply a (somes os)
stands_some_begun os reply m a None e h = ap (led reply a) (sym (found_none 0 os e))
stands_some_begun os reply m a (Some (j, q)) e h = cc

some_stands : (os : List (Option Question)) (reply : Question → Reply) (m : Mode) (i : ℕ) (a : Answer) (q : Question) (rest : List (Option Question)) (b : Bool) (o : Option (ℕ × Question))
    → drop i os ≡ Some q ∷ rest → b ≡ goes_on (reply q) → some_from (i + 1) os ≡ o → asked m (question_of (next_some b o)) ≡ done → taken a (reply q) ≡ led reply a (somes (drop i os))
some_stands os reply m i a q rest false o here goes later h =
    sym (led_some reply a i os q rest here ∙ ap (λ b. either b (led reply (taken a (reply q)) (somes (drop (i + 1) os))) (taken a (reply q))) (sym goes))
some_stands os reply m i a q rest true None here goes later h =
    sym (led_some reply a i os q rest here ∙ (ap (λ b. either b (led reply (taken a (reply q)) (somes (drop (i + 1) os))) (taken a (reply q))) (sym goes)
    ∙ ap (led reply (taken a (reply q))) (found_none (i + 1) (drop (i + 1) os) later)))
some_stands os reply m i a q rest true (Some (j, p)) here goes later h = cc

stands_some : (os : List (Option Question)) (replies : Replies) (m : Mode) (i : ℕ) (a : Answer) (r : Reply) → fits_at (passes_some os) replies m (Asked i) r
    → step_at (passes_some os) m (Asked i) r ≡ done → taken a r ≡ led (replies.to_question m) a (somes (drop i os))
stands_some os replies m i a r (q, rest, here, true_reply) h = ap (taken a) true_reply
    ∙ some_stands os (replies.to_question m) m i a q rest (goes_on r) (some_from (i + 1) os) here (ap goes_on true_reply) refl h

stands_judging : (t : Tally) (qs : List Question) (replies : Replies) (m : Mode) (a : Answer) → asked (asked_in (wants_units t m)) (nth 0 qs) ≡ done
    → judged_at t m 0 a (nth 0 qs) ≡ judged_on t (wants_units t m) (judge_replies t replies m) m 0 a qs
stands_judging t [] replies m a h = refl
stands_judging t (q ∷ qs) replies m a h = cc

counted_stands : (t : Tally) (qs : List Question) (replies : Replies) (m : Mode) (i n : ℕ) (a : Answer) (q : Question) (s : Bool) (o : Option Question)
    → nth i qs ≡ Some q → s ≡ is_settled (wants_units t m) t.enough (tallied t.enough (judge_replies t replies m q) n) → nth (i + 1) qs ≡ o
    → asked (asked_in (wants_units t m)) (next_if (not s) o) ≡ done
    → judged_at t m (tallied t.enough (judge_replies t replies m q) n) (with_child a (judge_replies t replies m q)) (next_if (not s) o)
    ≡ judged_on t (wants_units t m) (judge_replies t replies m) m n a (drop i qs)
counted_stands t qs replies m i n a q true o here settled later h = sym (judged_here t (wants_units t m) (judge_replies t replies m) m n a i qs q here
    ∙ ap (λ s. either s (noted m t.name (with_child a (judge_replies t replies m q)) (t.told (tallied t.enough (judge_replies t replies m q) n)))
    (judged_on t (wants_units t m) (judge_replies t replies m) m (tallied t.enough (judge_replies t replies m q) n) (with_child a (judge_replies t replies m q)) (drop (i + 1) qs))) (sym settled))
counted_stands t qs replies m i n a q false None here settled later h = sym (judged_here t (wants_units t m) (judge_replies t replies m) m n a i qs q here
    ∙ (ap (λ s. either s (noted m t.name (with_child a (judge_replies t replies m q)) (t.told (tallied t.enough (judge_replies t replies m q) n)))
    (judged_on t (wants_units t m) (judge_replies t replies m) m (tallied t.enough (judge_replies t replies m q) n) (with_child a (judge_replies t replies m q)) (drop (i + 1) qs))) (sym settled)
    ∙ ap (judged_on t (wants_units t m) (judge_replies t replies m) m (tallied t.enough (judge_replies t replies m q) n) (with_child a (judge_replies t replies m q))) (drop-none (i + 1) qs later)))
counted_stands t qs replies m i n a q false (Some p) here settled later h = cc

stands_counted : (t : Tally) (qs : List Question) (replies : Replies) (m : Mode) (i n : ℕ) (a : Answer) (r : Reply) → fits_at (judges t qs) replies m (Counted i n) r
    → step_at (judges t qs) m (Counted i n) r ≡ done → counted_answer t qs m i n a r ≡ judged_on t (wants_units t m) (judge_replies t replies m) m n a (drop i qs)
stands_counted t qs replies m i n a r (q, here, true_reply) h =
    subst (λ x. step_at (judges t qs) m (Counted i n) x ≡ done → counted_answer t qs m i n a x ≡ judged_on t (wants_units t m) (judge_replies t replies m) m n a (drop i qs))
    (sym true_reply)
    (λ e. counted_stands t qs replies m i n a q (is_settled (wants_units t m) t.enough (tallied t.enough (judge_replies t replies m q) n)) (nth (i + 1) qs) here refl refl e) h

branch_stands : (one other : Option Question) (replies : Replies) (m : Mode) (a : Answer) (b c : Bool) → b ≡ c → asked m (chosen b one other) ≡ done → a ≡ led (replies.to_question m) a (branch c one other)
branch_stands None other replies m a true c says h = ap (λ b. led (replies.to_question m) a (branch b None other)) says
branch_stands (Some p) other replies m a true c says h = cc
branch_stands one None replies m a false c says h = ap (λ b. led (replies.to_question m) a (branch b one None)) says
branch_stands one (Some p) replies m a false c says h = cc

either_same : (b : Bool) (a : Answer) → a ≡ either b a a
either_same true a = refl
either_same false a = refl

stands_branch : (o : Option Question) (replies : Replies) (m : Mode) (a : Answer) (r : Reply) → ((p : Question) × (o ≡ Some p) × (r ≡ replies.to_question m p)) → taken a r ≡ led (replies.to_question m) a (option_list o)
stands_branch o replies m a r (p, there, true_reply) = ap (taken a) true_reply ∙ (either_same (goes_on (replies.to_question m p)) (taken a (replies.to_question m p)) ∙ ap (λ o. led (replies.to_question m) a (option_list o)) (sym there))

pub way_stands : (w : Way) (replies : Replies) (m : Mode) (stage : Stage) (a : Answer) (r : Reply) → fits_at w replies m stage r
    → step_at w m stage r ≡ done → answer_after w m stage a r ≡ end_at w replies m stage a
way_stands (tells name ts) replies m Begun a r fits h = refl
way_stands (tells name ts) replies m (Asked i) a r fits h = refl
way_stands (tells name ts) replies m (Counted i n) a r fits h = refl
way_stands (tells name ts) replies m Ended a r fits h = refl
way_stands (passes_on qs) replies m Begun a r fits h = stands_begun qs (replies.to_question m) m a h
way_stands (passes_on qs) replies m (Asked i) a r fits h = stands_asked qs replies m i a r fits h
way_stands (passes_on qs) replies m (Counted i n) a r fits h = refl
way_stands (passes_on qs) replies m Ended a r fits h = refl
way_stands (passes_some os) replies m Begun a r fits h = stands_some_begun os (replies.to_question m) m a (some_from 0 os) refl h
way_stands (passes_some os) replies m (Asked i) a r fits h = stands_some os replies m i a r fits h
way_stands (passes_some os) replies m (Counted i n) a r fits h = refl
way_stands (passes_some os) replies m Ended a r fits h = refl
way_stands (judges t qs) replies m Begun a r fits h = stands_judging t qs replies m a h
way_stands (judges t qs) replies m (Asked i) a r fits h = refl
way_stands (judges t qs) replies m (Counted i n) a r fits h = stands_counted t qs replies m i n a r fits h
way_stands (judges t qs) replies m Ended a r fits h = refl
way_stands (branches q one other) replies m Begun a r fits h = cc
way_stands (branches q one other) replies m (Asked zero) a r fits h = branch_stands one other replies m a (says_yes r) (says_yes (replies.to_question mode.Verdict q)) (ap says_yes fits) h
way_stands (branches q one other) replies m (Asked (suc zero)) a r fits h = stands_branch one replies m a r fits
way_stands (branches q one other) replies m (Asked (suc (suc i))) a r fits h = stands_branch other replies m a r fits
way_stands (branches q one other) replies m (Counted i n) a r fits h = refl
way_stands (branches q one other) replies m Ended a r fits h = refl
way_stands (asks_match name p text) replies m Begun a r fits h = cc
way_stands (asks_match name p text) replies m (Asked i) a r fits h = ap (λ x. noted m name a (unless (says_yes x) text)) fits
way_stands (asks_match name p text) replies m (Counted i n) a r fits h = refl
way_stands (asks_match name p text) replies m Ended a r fits h = refl

-- ---- the end is the one that the kind says

noted_kept : (name : Text) (ts : List Text) (a : Answer) (f : Fault) (fs : List Fault) → a.errors ≡ f ∷ fs → noted mode.First name a ts ≡ a
noted_kept name [] a f fs h = refl
noted_kept name (t ∷ ts) a f fs h = ap (λ es. noted mode.First name (with_first a es (own (plain name t))) ts) h ∙ noted_kept name ts a f fs h

noted_first : (k : spec.Mode) (name : Text) (ts : List Text) → (noted mode.First name (fresh k) ts).errors ≡ first_fault (map (λ t. own (plain name t)) ts)
noted_first k name [] = refl
noted_first k name (t ∷ ts) = ap (λ a. a.errors) (noted_kept name ts (with_errors for_first (own (plain name t) ∷ [])) (own (plain name t)) [] refl)

noted_all : (name : Text) (ts : List Text) (a : Answer) → (noted mode.All name a ts).errors ≡ a.errors ++ map (λ t. own (plain name t)) ts
noted_all name [] a = sym (append-nil a.errors)
noted_all name (t ∷ ts) a = noted_all name ts (with_errors for_all (a.errors ++ own (plain name t) ∷ [])) ∙ append_assoc a.errors (own (plain name t) ∷ []) (map (λ t. own (plain name t)) ts)

noted_no : (name : Text) (ts : List Text) (a : Answer) → a.verdict ≡ false → (noted mode.Verdict name a ts).verdict ≡ false
noted_no name [] a h = h
noted_no name (t ∷ ts) a h = noted_no name ts (refused a) refl

noted_verdict : (name : Text) (ts : List Text) (a : Answer) → a.verdict ≡ true → (noted mode.Verdict name a ts).verdict ≡ is_nil ts
noted_verdict name [] a h = h
noted_verdict name (t ∷ ts) a h = noted_no name ts (refused a) refl

-- in an evaluation the errors are in the unit
and_false : (b : Bool) → false ≡ (b && false)
and_false true = refl
and_false false = refl

and_true : (b : Bool) → b ≡ b && true
and_true true = refl
and_true false = refl

evaluated_gives : (name : Text) (ts : List Text) (a : Answer) → (noted mode.Evaluate name a ts).gives ≡ record a.gives { valid = a.gives.valid && is_nil ts; errors = a.gives.errors ++ map (described name) ts }
evaluated_gives name [] a = ap₂ (λ v es. record a.gives { valid = v; errors = es }) (and_true a.gives.valid) (sym (append-nil a.gives.errors))
evaluated_gives name (t ∷ ts) a = evaluated_gives name ts (evaluated a (own (plain name t)))
    ∙ ap₂ (λ v es. record a.gives { valid = v; errors = es }) (and_false a.gives.valid) (append_assoc a.gives.errors (described name t ∷ []) (map (described name) ts))

evaluated_no : (name : Text) (ts : List Text) (a : Answer) → a.verdict ≡ false → (noted mode.Evaluate name a ts).verdict ≡ false
evaluated_no name [] a h = h
evaluated_no name (t ∷ ts) a h = evaluated_no name ts (evaluated a (own (plain name t))) refl

evaluated_verdict : (name : Text) (ts : List Text) (a : Answer) → a.verdict ≡ true → (noted mode.Evaluate name a ts).verdict ≡ is_nil ts
evaluated_verdict name [] a h = h
evaluated_verdict name (t ∷ ts) a h = evaluated_no name ts (evaluated a (own (plain name t))) refl

-- questions in verdict mode: the first no ends the run
verdict_step : (reply : Question → Reply) (a : Answer) (qs : List Question) (b all : Bool) → (led reply a qs).verdict ≡ all
    → (either b (led reply (taken a (truth b)) qs) (taken a (truth b))).verdict ≡ (b && all)
verdict_step reply a qs true all h = h
verdict_step reply a qs false all h = refl

led_verdict : (answers : Answers) (u : Question → Unit_) (qs : List Question) (a : Answer) → a.verdict ≡ true
    → (led (reply_for mode.Verdict answers u) a qs).verdict ≡ list_all (λ q. (answers q).verdict) qs
led_verdict answers u [] a h = h
led_verdict answers u (q ∷ qs) a h = verdict_step (reply_for mode.Verdict answers u) a qs (answers q).verdict _ (led_verdict answers u qs a h)

-- in first mode the first error ends the run
first_step : (reply : Question → Reply) (a : Answer) (qs : List Question) (es : List Error) (fs : List Fault) → a.errors ≡ [] → (led reply a qs).errors ≡ first_fault fs
    → (either (goes_on (first_of_it (first_error es))) (led reply (taken a (first_of_it (first_error es))) qs) (taken a (first_of_it (first_error es)))).errors ≡ first_fault (map passed es ++ fs)
first_step reply a qs [] fs none h = h
first_step reply a qs (e ∷ es) fs none h = ap (λ gs. (with_first a gs (passed e)).errors) none

led_first : (answers : Answers) (u : Question → Unit_) (qs : List Question) (a : Answer) → a.errors ≡ []
    → (led (reply_for mode.First answers u) a qs).errors ≡ first_fault (flat_map (λ q. map passed (answers q).errors) qs)
led_first answers u [] a none = none
led_first answers u (q ∷ qs) a none = first_step (reply_for mode.First answers u) a qs (answers q).errors _ none (led_first answers u qs a none)

-- in all mode every error is passed on
led_all : (answers : Answers) (u : Question → Unit_) (qs : List Question) (a : Answer)
    → (led (reply_for mode.All answers u) a qs).errors ≡ a.errors ++ flat_map (λ q. map passed (answers q).errors) qs
led_all answers u [] a = sym (append-nil a.errors)
led_all answers u (q ∷ qs) a = led_all answers u qs (with_errors for_all (a.errors ++ map passed (answers q).errors)) ∙ append_assoc a.errors (map passed (answers q).errors) _

valid_step : (b accepted all : Bool) → (if b then accepted else false) && all ≡ accepted && (b && all)
valid_step true accepted all = refl
valid_step false true all = refl
valid_step false false all = refl

-- in an evaluation every unit becomes a child
led_gives : (answers : Answers) (u : Question → Unit_) (qs : List Question) (a : Answer)
    → (led (reply_for mode.Evaluate answers u) a qs).gives ≡ record a.gives { valid = a.gives.valid && list_all (λ q. (report_of (u q)).valid) qs; children = a.gives.children ++ map u qs }
led_gives answers u [] a = ap₂ (λ v us. record a.gives { valid = v; children = us }) (and_true a.gives.valid) (sym (append-nil a.gives.children))
led_gives answers u (q ∷ qs) a = led_gives answers u qs (with_unit a (u q))
    ∙ ap₂ (λ v us. record a.gives { valid = v; children = us }) (valid_step (report_of (u q)).valid a.gives.valid (list_all (λ q. (report_of (u q)).valid) qs)) (append_assoc a.gives.children (u q ∷ []) (map u qs))

led_valid : (answers : Answers) (u : Question → Unit_) → ((q : Question) → (report_of (u q)).valid ≡ (answers q).verdict) → (qs : List Question) (a : Answer)
    → (led (reply_for mode.Evaluate answers u) a qs).verdict ≡ (a.verdict && list_all (λ q. (answers q).verdict) qs)
led_valid answers u valid [] a = and_true a.verdict
led_valid answers u valid (q ∷ qs) a = led_valid answers u valid qs (with_unit a (u q)) ∙ (valid_step (report_of (u q)).valid a.verdict (list_all (λ q. (answers q).verdict) qs)
    ∙ ap (λ b. a.verdict && (b && list_all (λ q. (answers q).verdict) qs)) (valid q))

-- ---- counting

-- further accepted questions change nothing once there are enough
sum_up : (e n k : ℕ) (b : Bool) → n ≤ e → min e (min e (counted b n) + k) ≡ min e (n + counted b k)
sum_up e n k true h = omega arith
sum_up e n k false h = omega arith

counted_within : (e n : ℕ) → min e n ≤ e
counted_within e n = omega arith

full_sum : (e n k : ℕ) → e ≤ n → n ≤ e → n ≡ min e (n + k)
full_sum e n k h l = omega arith

zero_sum : (e n : ℕ) → n ≤ e → n ≡ min e (n + 0)
zero_sum e n h = omega arith

settled_same : (t : Tally) (m : Mode) (a rest : Answer) (n k : ℕ) (s : Bool) → s ≡ nat_le t.enough n → n ≤ t.enough
    → rest ≡ noted m t.name a (t.told (min t.enough (n + k))) → either s (noted m t.name a (t.told n)) rest ≡ noted m t.name a (t.told (min t.enough (n + k)))
settled_same t m a rest n k true s l h = ap (λ x. noted m t.name a (t.told x)) (full_sum t.enough n k (leb-true t.enough n (sym s)) l)
settled_same t m a rest n k false s l h = h

-- if verdicts are asked, the errors depend on how many accept
judged_verdicts : (t : Tally) (answers : Answers) (u : Question → Unit_) (m : Mode) (qs : List Question) (n : ℕ) (a : Answer) → n ≤ t.enough
    → judged_on t false (reply_for mode.Verdict answers u) m n a qs ≡ noted m t.name a (t.told (min t.enough (n + yes_count (λ q. (answers q).verdict) qs)))
judged_verdicts t answers u m [] n a l = ap (λ x. noted m t.name a (t.told x)) (zero_sum t.enough n l)
judged_verdicts t answers u m (q ∷ qs) n a l =
    settled_same t m a _ (min t.enough (counted (answers q).verdict n)) (yes_count (λ q. (answers q).verdict) qs) _ refl (counted_within t.enough _)
    (judged_verdicts t answers u m qs (min t.enough (counted (answers q).verdict n)) a (counted_within t.enough _))
    ∙ ap (λ x. noted m t.name a (t.told x)) (sum_up t.enough n (yes_count (λ q. (answers q).verdict) qs) (answers q).verdict l)

-- if units are asked, they also become children
abbrev pub with_children : Bool → Gives → List Unit_ → Answer
with_children v g us = in_evaluation v (record g { children = g.children ++ us })

judged_units : (t : Tally) (answers : Answers) (u : Question → Unit_) (m : Mode) (qs : List Question) (n : ℕ) (v : Bool) (g : Gives) → n ≤ t.enough
    → judged_on t true (reply_for mode.Evaluate answers u) m n (in_evaluation v g) qs ≡ noted m t.name (with_children v g (map u qs)) (t.told (min t.enough (n + yes_count (λ q. (report_of (u q)).valid) qs)))
judged_units t answers u m [] n v g l = ap (λ x. noted m t.name (in_evaluation v g) (t.told x)) (zero_sum t.enough n l)
    ∙ ap (λ us. noted m t.name (in_evaluation v (record g { children = us })) (t.told (min t.enough (n + 0)))) (sym (append-nil g.children))
judged_units t answers u m (q ∷ qs) n v g l =
    judged_units t answers u m qs (min t.enough (counted (report_of (u q)).valid n)) v (with_inside g (u q)) (counted_within t.enough _)
    ∙ (ap (λ us. noted m t.name (in_evaluation v (record g { children = us })) (t.told (min t.enough (min t.enough (counted (report_of (u q)).valid n) + yes_count (λ q. (report_of (u q)).valid) qs)))) (append_assoc g.children (u q ∷ []) (map u qs))
    ∙ ap (λ x. noted m t.name (with_children v g (u q ∷ map u qs)) (t.told x)) (sum_up t.enough n (yes_count (λ q. (report_of (u q)).valid) qs) (report_of (u q)).valid l))

same_count : (a b : Question → Bool) → ((q : Question) → a q ≡ b q) → (qs : List Question) → yes_count a qs ≡ yes_count b qs
same_count a b h [] = refl
same_count a b h (q ∷ qs) = ap (λ x. counted x (yes_count a qs)) (h q) ∙ ap (counted (b q)) (same_count a b h qs)

from_zero : (n : ℕ) → 0 + n ≡ n
from_zero n = omega arith

-- from the beginning
judged_fresh : (k : spec.Mode) (t : Tally) (answers : Answers) (u : Question → Unit_) (m : Mode) (qs : List Question)
    → judged_on t false (reply_for mode.Verdict answers u) m 0 (fresh k) qs ≡ noted m t.name (fresh k) (told_by t (λ q. (answers q).verdict) qs)
judged_fresh k t answers u m qs = judged_verdicts t answers u m qs 0 (fresh k) (omega arith) ∙ ap (λ x. noted m t.name (fresh k) (t.told (min t.enough x))) (from_zero _)

judged_given : (t : Tally) (answers : Answers) (u : Question → Unit_) → ((q : Question) → (report_of (u q)).valid ≡ (answers q).verdict) → (m : Mode) (qs : List Question)
    → judged_on t true (reply_for mode.Evaluate answers u) m 0 (fresh for_units) qs ≡ noted m t.name (with_children true no_gives (map u qs)) (told_by t (λ q. (answers q).verdict) qs)
judged_given t answers u valid m qs = judged_units t answers u m qs 0 true no_gives (omega arith)
    ∙ ap (λ x. noted m t.name (with_children true no_gives (map u qs)) (t.told (min t.enough x))) (from_zero _ ∙ same_count (λ q. (report_of (u q)).valid) (λ q. (answers q).verdict) valid qs)

judged_evaluation : (t : Tally) (answers : Answers) (u : Question → Unit_) → ((q : Question) → (report_of (u q)).valid ≡ (answers q).verdict) → (qs : List Question) (b : Bool)
    → judged_on t b (reply_for (asked_in b) answers u) mode.Evaluate 0 (fresh for_units) qs ≡ noted mode.Evaluate t.name (with_children true no_gives (given b u qs)) (told_by t (λ q. (answers q).verdict) qs)
judged_evaluation t answers u valid qs true = judged_given t answers u valid mode.Evaluate qs
judged_evaluation t answers u valid qs false = judged_fresh for_units t answers u mode.Evaluate qs

-- the end that is wanted, by mode
abbrev pub IsEnd : Way → Matching → Answers → (Question → Unit_) → spec.Mode → Answer → Type 0
IsEnd w matching answers u for_verdict a = a.verdict ≡ way_holds w matching (λ q. (answers q).verdict)
IsEnd w matching answers u for_first a = a.errors ≡ first_fault (way_faults w matching answers)
IsEnd w matching answers u for_all a = a.errors ≡ way_faults w matching answers
IsEnd w matching answers u for_units a = (a.gives ≡ way_units w matching u) × (a.verdict ≡ way_holds w matching (λ q. (answers q).verdict))

nil_unless : (b : Bool) (text : Text) → is_nil (unless b text) ≡ b
nil_unless true text = refl
nil_unless false text = refl

pub way_ends : (w : Way) (matching : Matching) (answers : Answers) (u : Question → Unit_) → ((q : Question) → (report_of (u q)).valid ≡ (answers q).verdict) → (m : spec.Mode)
    → IsEnd w matching answers u m (end_at w (replies_by matching answers u) (mode_from m) Begun (fresh m))
way_ends (tells name ts) matching answers u valid for_verdict = noted_verdict name ts (fresh for_verdict) refl
way_ends (tells name ts) matching answers u valid for_first = noted_first for_first name ts
way_ends (tells name ts) matching answers u valid for_all = noted_all name ts (fresh for_all)
way_ends (tells name ts) matching answers u valid for_units =
    (evaluated_gives name ts (fresh for_units), evaluated_verdict name ts (fresh for_units) refl)
way_ends (passes_on qs) matching answers u valid for_verdict = led_verdict answers u qs (fresh for_verdict) refl
way_ends (passes_on qs) matching answers u valid for_first = led_first answers u qs (fresh for_first) refl
way_ends (passes_on qs) matching answers u valid for_all = led_all answers u qs (fresh for_all)
way_ends (passes_on qs) matching answers u valid for_units = (led_gives answers u qs (fresh for_units), led_valid answers u valid qs (fresh for_units))
way_ends (passes_some os) matching answers u valid for_verdict = led_verdict answers u (somes os) (fresh for_verdict) refl
way_ends (passes_some os) matching answers u valid for_first = led_first answers u (somes os) (fresh for_first) refl
way_ends (passes_some os) matching answers u valid for_all = led_all answers u (somes os) (fresh for_all)
way_ends (passes_some os) matching answers u valid for_units = (led_gives answers u (somes os) (fresh for_units), led_valid answers u valid (somes os) (fresh for_units))
way_ends (judges t qs) matching answers u valid for_verdict = ap (λ a. a.verdict) (judged_fresh for_verdict t answers u mode.Verdict qs) ∙ noted_verdict t.name (told_by t (λ q. (answers q).verdict) qs) (fresh for_verdict) refl
way_ends (judges t qs) matching answers u valid for_first = ap (λ a. a.errors) (judged_fresh for_first t answers u mode.First qs) ∙ noted_first for_first t.name (told_by t (λ q. (answers q).verdict) qs)
way_ends (judges t qs) matching answers u valid for_all = ap (λ a. a.errors) (judged_fresh for_all t answers u mode.All qs) ∙ noted_all t.name (told_by t (λ q. (answers q).verdict) qs) (fresh for_all)
way_ends (judges t qs) matching answers u valid for_units = (
  ap (λ a. a.gives) (judged_evaluation t answers u valid qs t.shows) ∙ (evaluated_gives t.name (told_by t (λ q. (answers q).verdict) qs) (with_children true no_gives (given t.shows u qs))
      ∙ ap (λ n. record no_gives { valid = is_nil (t.told (min t.enough n)); children = given t.shows u qs; errors = map (described t.name) (t.told (min t.enough n)) }) (sym (same_count (λ q. (report_of (u q)).valid) (λ q. (answers q).verdict) valid qs))),
  ap (λ a. a.verdict) (judged_evaluation t answers u valid qs t.shows) ∙ evaluated_verdict t.name (told_by t (λ q. (answers q).verdict) qs) (with_children true no_gives (given t.shows u qs)) refl,
)
way_ends (branches q one other) matching answers u valid for_verdict = led_verdict answers u (branch (answers q).verdict one other) (fresh for_verdict) refl
way_ends (branches q one other) matching answers u valid for_first = led_first answers u (branch (answers q).verdict one other) (fresh for_first) refl
way_ends (branches q one other) matching answers u valid for_all = led_all answers u (branch (answers q).verdict one other) (fresh for_all)
way_ends (branches q one other) matching answers u valid for_units = (
  led_gives answers u (branch (answers q).verdict one other) (fresh for_units)
      ∙ ap (λ b. record no_gives { valid = list_all (λ p. (report_of (u p)).valid) (branch b one other); children = map u (branch b one other) }) (sym (valid q)),
  led_valid answers u valid (branch (answers q).verdict one other) (fresh for_units),
)
way_ends (asks_match name p text) matching answers u valid for_verdict = noted_verdict name (unless (is_matched matching p) text) (fresh for_verdict) refl ∙ nil_unless (is_matched matching p) text
way_ends (asks_match name p text) matching answers u valid for_first = noted_first for_first name (unless (is_matched matching p) text)
way_ends (asks_match name p text) matching answers u valid for_all = noted_all name (unless (is_matched matching p) text) (fresh for_all)
way_ends (asks_match name p text) matching answers u valid for_units = (
  evaluated_gives name (unless (is_matched matching p) text) (fresh for_units) ∙ ap (λ v. record no_gives { valid = v; errors = map (described name) (unless (is_matched matching p) text) }) (nil_unless (is_matched matching p) text),
  evaluated_verdict name (unless (is_matched matching p) text) (fresh for_units) refl ∙ nil_unless (is_matched matching p) text,
)

-- any reply fits a run that begins
pub fits_begun : (w : Way) (replies : Replies) (m : Mode) (r : Reply) → fits_at w replies m Begun r
fits_begun (tells name ts) replies m r = tt
fits_begun (passes_on qs) replies m r = tt
fits_begun (passes_some os) replies m r = tt
fits_begun (judges t qs) replies m r = tt
fits_begun (branches q one other) replies m r = tt
fits_begun (asks_match name p text) replies m r = tt
