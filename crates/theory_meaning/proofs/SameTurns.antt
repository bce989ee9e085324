-- If the run of a keyword under assumptions meets only matches that are assumed, it takes the same
-- turns as under every completion that extends them.
use Rattle.std.proofs.Common.{◌≡◌, ℕ, zero, suc, List, [], ◌∷◌, ◌++◌, refl, ap, sym, subst, ◌∙◌, Bool, true, false, not, cond, map}
use Rattle.std.specs.Prelude.{Option, Some, None, find, is_some}
use Rattle.std.specs.List.{list_any}
use Rattle.theory_definitions.specs.Instance.{Step, Text, Subject}
use Rattle.theory_definitions.specs.Reports.{Error, Unit_, report_of, Outcome}
use Rattle.theory_definitions.specs.Matching.{Match, finished, unfinished, Matcher, Matching, beside, matching, settled, Completion, completed, Assumptions, assumed, completion_of, Extends}
use Rattle.theory_definitions.specs.Keywords.{Marked, Question, Mode, for_verdict, for_first, for_all, for_units, Fault, Reply, no_reply, truth, first_of_it, all_of_it, unit_of_it, Turn, ask, match_text, mark, unmark, ecma, done, Keywords, is_spanned}
use Rattle.theory_definitions.specs.Meaning.{Where, keyword_outcome, fault_error}
use Rattle.theory_definitions.specs.Runs.{Met, site_at, Run, first_error, reply_in, turns, keyword_met, with_mark, without_last}
use Rattle.theory_definitions.specs.Laws.{Agrees, AnsweredAlike, first_fault, answer_in, ended, IsRight, KeepsLaws}
use Rattle.theory_meaning.specs.Members.{AllAssumed, SameIn, Speaks}

-- ---- the first of mapped errors

pub first_mapped : (f : Fault → Error) (xs : List Fault) → first_error (map f xs) ≡ first_error (map f (first_fault xs))
first_mapped f [] = refl
first_mapped f (x ∷ xs) = refl

-- ---- matches that are met and assumed

none-front : {A : Type 0} (p : A → Bool) (xs ys : List A) → find p (xs ++ ys) ≡ None → find p xs ≡ None
none-front p [] ys e = refl
none-front {A} p (x ∷ xs) ys e = go (p x) e (none-front p xs ys)
  where
    go : (b : Bool) → cond b (Some x) (find p (xs ++ ys)) ≡ None → (find p (xs ++ ys) ≡ None → find p xs ≡ None) → cond b (Some x) (find p xs) ≡ None
    go true h k = h
    go false h k = k h

none-back : {A : Type 0} (p : A → Bool) (xs ys : List A) → find p (xs ++ ys) ≡ None → find p ys ≡ None
none-back p [] ys e = e
none-back {A} p (x ∷ xs) ys e = go (p x) e (none-back p xs ys)
  where
    go : (b : Bool) → cond b (Some x) (find p (xs ++ ys)) ≡ None → (find p (xs ++ ys) ≡ None → find p ys ≡ None) → find p ys ≡ None
    go true h k = absurd (cc h)
    go false h k = k h

pub assumed_front : (as' : Assumptions) (xs ys : List Met) → AllAssumed as' (xs ++ ys) → AllAssumed as' xs
assumed_front as' xs ys e = none-front (λ m. not (is_some (assumed as' m.pair))) xs ys e

pub assumed_back : (as' : Assumptions) (xs ys : List Met) → AllAssumed as' (xs ++ ys) → AllAssumed as' ys
assumed_back as' xs ys e = none-back (λ m. not (is_some (assumed as' m.pair))) xs ys e

none-both : {A : Type 0} (p : A → Bool) (xs ys : List A) → find p xs ≡ None → find p ys ≡ None → find p (xs ++ ys) ≡ None
none-both p [] ys e h = h
none-both {A} p (x ∷ xs) ys e h = go (p x) e (λ k. none-both p xs ys k h)
  where
    go : (b : Bool) → cond b (Some x) (find p xs) ≡ None → (find p xs ≡ None → find p (xs ++ ys) ≡ None) → cond b (Some x) (find p (xs ++ ys)) ≡ None
    go true is k = absurd (cc is)
    go false is k = k is

pub assumed_both : (as' : Assumptions) (xs ys : List Met) → AllAssumed as' xs → AllAssumed as' ys → AllAssumed as' (xs ++ ys)
assumed_both as' xs ys e h = none-both (λ m. not (is_some (assumed as' m.pair))) xs ys e h

-- The first of the list is assumed.
pub assumed_head : (as' : Assumptions) (m : Met) (ms : List Met) → AllAssumed as' (m ∷ ms) → (b : Bool) × (assumed as' m.pair ≡ Some b)
assumed_head as' m ms e = go (assumed as' m.pair) refl e
  where
    go : (o : Option Bool) → assumed as' m.pair ≡ o → cond (not (is_some o)) (Some m) (find (λ x. not (is_some (assumed as' x.pair))) ms) ≡ None → (b : Bool) × (assumed as' m.pair ≡ Some b)
    go None is h = absurd (cc h)
    go (Some b) is h = (b, is)

assumed_tail : (as' : Assumptions) (m : Met) (ms : List Met) → AllAssumed as' (m ∷ ms) → AllAssumed as' ms
assumed_tail as' m ms e = assumed_back as' (m ∷ []) ms e

module _ {K R : Type 0} (keywords : Keywords K R) (matcher : Matcher) (as' : Assumptions) (c : Completion) (mine : Extends (completion_of as') as') (ext : Extends c as')
    (x : Where) (s : Subject) (run_of : Question → Run) (a1 a2 : Question → Outcome) (u1 u2 : Question → Unit_) (others : Step → Bool) (same : Marked → Marked → Bool) (name : Text) (m : K)
    (o_is : (q : Question) → (run_of q).outcome tt ≡ a1 q) (u_is : (q : Question) → (run_of q).units tt ≡ u1 q)
    (speaks : (q : Question) → Speaks as' (run_of q) (a2 q) (u2 q)) (alike_1 : AnsweredAlike same a1) (alike_2 : AnsweredAlike same a2) where
  abbrev WhenAssumed : Matching
  WhenAssumed = beside others (matching matcher (completion_of as'))

  abbrev WhenCompleted : Matching
  WhenCompleted = beside others (matching matcher c)

  reply_1 : (mode : Mode) (q : Question) → reply_in mode (run_of q) ≡ answer_in keywords m s WhenAssumed a1 u1 same mode q
  reply_1 for_verdict q = ap (λ o. truth o.verdict) (o_is q)
  reply_1 for_first q = ap (λ o. first_of_it (first_error o.errors)) (o_is q)
  reply_1 for_all q = ap (λ o. all_of_it o.errors) (o_is q)
  reply_1 for_units q = ap unit_of_it (u_is q)

  reply_2 : (mode : Mode) (q : Question) → AllAssumed as' ((run_of q).met mode) → reply_in mode (run_of q) ≡ answer_in keywords m s WhenCompleted a2 u2 same mode q
  reply_2 for_verdict q e = ap truth ((speaks q).in_mode for_verdict e)
  reply_2 for_first q e = ap first_of_it ((speaks q).in_mode for_first e)
  reply_2 for_all q e = ap all_of_it ((speaks q).in_mode for_all e)
  reply_2 for_units q e = ap unit_of_it ((speaks q).units e)

  abbrev Ended1 : ℕ → List Marked → R → Reply → Option R
  Ended1 = ended keywords m s WhenAssumed a1 u1 same

  abbrev Ended2 : ℕ → List Marked → R → Reply → Option R
  Ended2 = ended keywords m s WhenCompleted a2 u2 same

  abbrev MetIn : ℕ → List Marked → R → Reply → List Met
  MetIn = turns keywords matcher as' x s run_of others same name m

  same_ends : (n : ℕ) (marks : List Marked) (r : R) (reply : Reply) → AllAssumed as' (MetIn n marks r reply) → Ended1 n marks r reply ≡ Ended2 n marks r reply
  same_ends zero marks r reply e = refl
  same_ends (suc n) marks r reply e = go (keywords.step m s r reply) (λ marks' next. same_ends n marks' (keywords.turn m s r reply) next) e
    where
      go : (t : Turn)
          → ((marks' : List Marked) (next : Reply) → AllAssumed as' (MetIn n marks' (keywords.turn m s r reply) next) → Ended1 n marks' (keywords.turn m s r reply) next ≡ Ended2 n marks' (keywords.turn m s r reply) next)
          → AllAssumed as' (elim t [
            | ask q mode ↦ let child = run_of q in child.met mode ++ MetIn n marks (keywords.turn m s r reply) (reply_in mode child)
            | match_text a point ↦ elim (matcher.is_match a.pattern a.subject) [
              | finished b ↦ MetIn n marks (keywords.turn m s r reply) (truth b)
              | unfinished reason ↦ record { pair = a; site = site_at x name point } ∷ MetIn n marks (keywords.turn m s r reply) (truth (completed (completion_of as') a))
            ]
            | mark i ↦ MetIn n (with_mark same i marks) (keywords.turn m s r reply) (truth (list_any (same i) marks))
            | unmark ↦ MetIn n (without_last marks) (keywords.turn m s r reply) no_reply
            | ecma text ↦ MetIn n marks (keywords.turn m s r reply) (truth (matcher.is_ecma text))
            | is_spanned step ↦ MetIn n marks (keywords.turn m s r reply) (truth (others step))
            | done ↦ []
          ])
          → ◌≡◌ {A = Option R} (elim t [
            | ask q mode ↦ Ended1 n marks (keywords.turn m s r reply) (answer_in keywords m s WhenAssumed a1 u1 same mode q)
            | match_text a point ↦ Ended1 n marks (keywords.turn m s r reply) (truth (WhenAssumed.matches a.pattern a.subject))
            | mark i ↦ Ended1 n (with_mark same i marks) (keywords.turn m s r reply) (truth (list_any (same i) marks))
            | unmark ↦ Ended1 n (without_last marks) (keywords.turn m s r reply) no_reply
            | ecma text ↦ Ended1 n marks (keywords.turn m s r reply) (truth (WhenAssumed.is_ecma text))
            | is_spanned step ↦ Ended1 n marks (keywords.turn m s r reply) (truth (WhenAssumed.spanned step))
            | done ↦ Some (keywords.turn m s r reply)
          ])
          (elim t [
            | ask q mode ↦ Ended2 n marks (keywords.turn m s r reply) (answer_in keywords m s WhenCompleted a2 u2 same mode q)
            | match_text a point ↦ Ended2 n marks (keywords.turn m s r reply) (truth (WhenCompleted.matches a.pattern a.subject))
            | mark i ↦ Ended2 n (with_mark same i marks) (keywords.turn m s r reply) (truth (list_any (same i) marks))
            | unmark ↦ Ended2 n (without_last marks) (keywords.turn m s r reply) no_reply
            | ecma text ↦ Ended2 n marks (keywords.turn m s r reply) (truth (WhenCompleted.is_ecma text))
            | is_spanned step ↦ Ended2 n marks (keywords.turn m s r reply) (truth (WhenCompleted.spanned step))
            | done ↦ Some (keywords.turn m s r reply)
          ])
      go (ask q mode) rest h =
          let here : AllAssumed as' ((run_of q).met mode) = assumed_front as' _ _ h in
          let after : AllAssumed as' (MetIn n marks (keywords.turn m s r reply) (reply_in mode (run_of q))) = assumed_back as' ((run_of q).met mode) _ h in
          ap (Ended1 n marks (keywords.turn m s r reply)) (sym (reply_1 mode q))
          ∙ (rest marks (reply_in mode (run_of q)) after
          ∙ ap (Ended2 n marks (keywords.turn m s r reply)) (reply_2 mode q here))
      go (match_text a point) rest h = by_match (matcher.is_match a.pattern a.subject) h
        where
          by_match : (t : Match)
              → AllAssumed as' (elim t [
                | finished b ↦ MetIn n marks (keywords.turn m s r reply) (truth b)
                | unfinished reason ↦ record { pair = a; site = site_at x name point } ∷ MetIn n marks (keywords.turn m s r reply) (truth (completed (completion_of as') a))
              ])
              → Ended1 n marks (keywords.turn m s r reply) (truth (settled (completed (completion_of as') a) t)) ≡ Ended2 n marks (keywords.turn m s r reply) (truth (settled (completed c a) t))
          by_match (finished b) k = rest marks (truth b) k
          by_match (unfinished reason) k =
              let (b, is) = assumed_head as' (record { pair = a; site = site_at x name point }) _ k in
              rest marks (truth (completed (completion_of as') a)) (assumed_tail as' (record { pair = a; site = site_at x name point }) _ k)
              ∙ ap (λ z. Ended2 n marks (keywords.turn m s r reply) (truth z)) (mine a b is ∙ sym (ext a b is))
      go (mark i) rest h = rest (with_mark same i marks) (truth (list_any (same i) marks)) h
      go unmark rest h = rest (without_last marks) no_reply h
      go (ecma text) rest h = rest marks (truth (matcher.is_ecma text)) h
      go (is_spanned step) rest h = rest marks (truth (others step)) h
      go done rest h = refl

  module _ (absorbed : List Text) (laws : KeepsLaws keywords m absorbed) where
    agrees_1 : (q : Question) → Agrees (a1 q)
    agrees_1 q = subst Agrees (o_is q) (speaks q).run_agrees

    valid_1 : (q : Question) → (report_of (u1 q)).valid ≡ (a1 q).verdict
    valid_1 q = sym (ap (λ u. (report_of u).valid) (u_is q)) ∙ ((speaks q).run_valid ∙ ap (λ o. o.verdict) (o_is q))

    -- The answer is right for the run and for the completion.
    both_right : (mode : Mode) → AllAssumed as' (keyword_met keywords matcher as' x s run_of others same name m mode)
        → (r : R) × IsRight keywords m s WhenAssumed a1 u1 same mode (keywords.answer r) × IsRight keywords m s WhenCompleted a2 u2 same mode (keywords.answer r)
    both_right mode e =
        let (r, is, right) = laws.answers s mode WhenAssumed a1 u1 same agrees_1 valid_1 alike_1 in
        let (t, is', right') = laws.answers s mode WhenCompleted a2 u2 same (λ q. (speaks q).agrees) (λ q. (speaks q).valid) alike_2 in
        let one : ◌≡◌ {A = Option R} (Some r) (Some t) = sym is ∙ (same_ends (keywords.most_turns m s) [] (keywords.begin m s mode) no_reply e ∙ is') in
        (r, right, subst (λ z. IsRight keywords m s WhenCompleted a2 u2 same mode (keywords.answer z)) (sym (ap (λ o. elim o [ Some z ↦ z | None ↦ r ]) one)) right')

    pub same_verdict : AllAssumed as' (keyword_met keywords matcher as' x s run_of others same name m for_verdict)
        → keywords.holds m s WhenAssumed (λ q. (a1 q).verdict) ≡ keywords.holds m s WhenCompleted (λ q. (a2 q).verdict)
    same_verdict e = let (r, one, two) = both_right for_verdict e in sym one ∙ two

    pub same_first : AllAssumed as' (keyword_met keywords matcher as' x s run_of others same name m for_first)
        → first_fault (keywords.faults m s WhenAssumed a1) ≡ first_fault (keywords.faults m s WhenCompleted a2)
    same_first e = let (r, one, two) = both_right for_first e in sym one ∙ two

    pub same_faults : AllAssumed as' (keyword_met keywords matcher as' x s run_of others same name m for_all)
        → keywords.faults m s WhenAssumed a1 ≡ keywords.faults m s WhenCompleted a2
    same_faults e = let (r, one, two) = both_right for_all e in sym one ∙ two

    pub same_units : AllAssumed as' (keyword_met keywords matcher as' x s run_of others same name m for_units)
        → (keywords.units m s WhenAssumed u1 ≡ keywords.units m s WhenCompleted u2) × (keywords.holds m s WhenAssumed (λ q. (a1 q).verdict) ≡ keywords.holds m s WhenCompleted (λ q. (a2 q).verdict))
    same_units e = let (r, one, two) = both_right for_units e in (sym one.0 ∙ two.0, sym one.1 ∙ two.1)

    pub keyword_same : (mode : Mode) → AllAssumed as' (keyword_met keywords matcher as' x s run_of others same name m mode)
        → SameIn mode (keyword_outcome keywords x name m s WhenAssumed a1) (keyword_outcome keywords x name m s WhenCompleted a2)
    keyword_same for_verdict e = same_verdict e
    keyword_same for_first e = first_mapped (fault_error x name) _ ∙ (ap (λ fs. first_error (map (fault_error x name) fs)) (same_first e) ∙ sym (first_mapped (fault_error x name) _))
    keyword_same for_all e = ap (map (fault_error x name)) (same_faults e)
    keyword_same for_units e = (same_units e).1
