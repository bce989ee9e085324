-- The outcome, the units and the matches of a keyword depend only on the answers to questions that
-- it may ask.
use Rattle.std.proofs.Common.{◌≡◌, ℕ, zero, suc, List, [], ◌∷◌, ◌++◌, refl, ap, ◌∙◌, Bool, false, ap₂, true, arith, ◌||◌}
use Rattle.std.specs.Prelude.{All, Contains, None, Option, Some, flat_map}
use Rattle.std.proofs.lemmas.List.Elements.{All-contains, All-head, All-tail, Contains-append_left, Contains-append_right}
use Rattle.std.specs.List.{list_any}
use Rattle.theory_definitions.specs.Instance.{Text, Subject, Step}
use Rattle.theory_definitions.specs.Reports.{Unit_, Outcome, spans_nothing}
use Rattle.theory_definitions.specs.Matching.{Assumptions, Match, Matcher, Matching, completed, completion_of, finished, unfinished}
use Rattle.theory_definitions.specs.Keywords.{Keywords, Marked, Mode, Question, Reply, Turn, ask, done, ecma, mark, match_text, no_reply, truth, unmark, is_spanned, Span, child_at, child_here, chosen, chosen_here, every, for_verdict, of_child, of_choice, one, one_accepted, one_matched, same_question, span_asked, span_questions}
use Rattle.theory_definitions.specs.Meaning.{Where}
use Rattle.theory_definitions.specs.Units.{given_units, keyword_units}
use Rattle.theory_definitions.specs.Runs.{Met, Run, keyword_met, reply_in, site_at, turns, with_mark, without_last, once, option_met, run_accepts, span_met, spanning_met, without_verdict}
use Rattle.theory_definitions.specs.Laws.{AlwaysAsksRightly, AsksRightly}
use Rattle.theory_meaning.proofs.Reading.{Reads}
use Rattle.theory_meaning.proofs.Local.{each_asked}

-- ---- the matches that the turns of a keyword meet

module _ {K R : Type 0} (keywords : Keywords K R) (matcher : Matcher) (as' : Assumptions) (x : Where) (s : Subject) (others : Step → Bool) (same : Marked → Marked → Bool) (name : Text) (m : K) where
  abbrev one_turn : (Question → Run) → (List Marked → Reply → List Met) → List Marked → Turn → List Met
  one_turn run_of rest marks t = elim t [
    | ask q mode ↦ let child = run_of q in child.met mode ++ rest marks (reply_in mode child)
    | match_text a point ↦ elim (matcher.is_match a.pattern a.subject) [
      | finished b ↦ rest marks (truth b)
      | unfinished reason ↦ record { pair = a; site = site_at x name point } ∷ rest marks (truth (completed (completion_of as') a))
    ]
    | mark i ↦ rest (with_mark same i marks) (truth (list_any (same i) marks))
    | unmark ↦ rest (without_last marks) no_reply
    | ecma text ↦ rest marks (truth (matcher.is_ecma text))
    | is_spanned step ↦ rest marks (truth (others step))
    | done ↦ []
  ]

  module _ (absorbed : List Text) (f g : Question → Run) (alike : (q : Question) → Contains (keywords.may_ask m s) q → f q ≡ g q) where
    match_same : (o : Match) (a b : Bool → List Met) (c d : List Met) (u : Met) → ((t : Bool) → a t ≡ b t) → c ≡ d
        → ◌≡◌ {A = List Met} (elim o [ finished t ↦ a t | unfinished reason ↦ u ∷ c ]) (elim o [ finished t ↦ b t | unfinished reason ↦ u ∷ d ])
    match_same (finished t) a b c d u p q = p t
    match_same (unfinished r) a b c d u p q = ap (λ l. u ∷ l) q

    turn_same : (rest rest' : List Marked → Reply → List Met) → ((marks : List Marked) (reply : Reply) → rest marks reply ≡ rest' marks reply)
        → (marks : List Marked) (t : Turn) → AsksRightly keywords m s absorbed t → one_turn f rest marks t ≡ one_turn g rest' marks t
    turn_same rest rest' h marks (ask q mode) is = ap (λ r. r.met mode ++ rest marks (reply_in mode r)) (alike q is) ∙ ap (λ l. (g q).met mode ++ l) (h marks (reply_in mode (g q)))
    turn_same rest rest' h marks (match_text a point) is = match_same (matcher.is_match a.pattern a.subject) (λ b. rest marks (truth b)) (λ b. rest' marks (truth b)) _ _ _ (λ t. h marks (truth t)) (h marks _)
    turn_same rest rest' h marks (mark i) is = h (with_mark same i marks) _
    turn_same rest rest' h marks unmark is = h _ no_reply
    turn_same rest rest' h marks (ecma text) is = h marks _
    turn_same rest rest' h marks (is_spanned step) is = h marks _
    turn_same rest rest' h marks done is = refl

    pub turns_same : (n : ℕ) (marks : List Marked) (r : R) (reply : Reply) → AlwaysAsksRightly keywords m s absorbed n r reply
        → turns keywords matcher as' x s f others same name m n marks r reply ≡ turns keywords matcher as' x s g others same name m n marks r reply
    turns_same zero marks r reply a = refl
    turns_same (suc n) marks r reply a = turn_same _ _ (λ marks' reply'. turns_same n marks' (keywords.turn m s r reply) reply' (a.1 reply')) marks (keywords.step m s r reply) a.0

-- ---- a keyword

module _ {K R : Type 0} (keywords : Keywords K R) (reads : Reads keywords) (x : Where) (name : Text) (m : K) (s : Subject) where
  pub units_read : (matches : Matching) (f g : Question → Unit_) → ((q : Question) → Contains (keywords.may_ask m s) q → f q ≡ g q) → keyword_units keywords x name m s matches f ≡ keyword_units keywords x name m s matches g
  units_read matches f g h = let qs : List Question = keywords.may_ask m s in
      ap (given_units x name) (reads.units_read m s matches _ _ (each_asked _ qs h))

  pub met_reads : (matcher : Matcher) (as' : Assumptions) (others : Step → Bool) (same : Marked → Marked → Bool) (mode : Mode) (f g : Question → Run) → ((q : Question) → Contains (keywords.may_ask m s) q → f q ≡ g q)
      → keyword_met keywords matcher as' x s f others same name m mode ≡ keyword_met keywords matcher as' x s g others same name m mode
  met_reads matcher as' others same mode f g h = turns_same keywords matcher as' x s others same name m (reads.absorbs m) f g h (keywords.most_turns m s) [] (keywords.begin m s mode) no_reply (reads.asks m s mode)

-- ---- a keyword that is run for what it spans

module _ {K R : Type 0} (keywords : Keywords K R) (matcher : Matcher) (as' : Assumptions) (x : Where) (s : Subject) (same : Marked → Marked → Bool) (name : Text) (m : K) (f g : Question → Run) (qs : List Question) (alike : (q : Question) → Contains qs q → f q ≡ g q) where
  abbrev Inside : List Question → Type 0
  Inside xs = (q : Question) → Contains xs q → Contains qs q

  accepts_same : (q : Question) → Contains qs q → run_accepts keywords matcher as' x s f same name m q ≡ run_accepts keywords matcher as' x s g same name m q
  accepts_same q is = ap (λ (r : Run). let o : Outcome = r.outcome tt in o.verdict) (alike q is)

  option_same : (i : Option ℕ) → Inside (chosen_here i) → option_met keywords matcher as' x s f same name m i ≡ option_met keywords matcher as' x s g same name m i
  option_same None inside = refl
  option_same (Some i) inside = ap (λ (r : Run). r.spanning) (alike (child_here i) (inside (child_here i) (zero, omega arith, refl)))

  chosen_same : (verdict : Bool) (first second : Option ℕ) → Inside (chosen_here first ++ chosen_here second)
      → option_met keywords matcher as' x s f same name m (chosen verdict first second) ≡ option_met keywords matcher as' x s g same name m (chosen verdict first second)
  chosen_same true first second inside = option_same first (λ q is. inside q (Contains-append_left (chosen_here first) (chosen_here second) q is))
  chosen_same false first second inside = option_same second (λ q is. inside q (Contains-append_right (chosen_here first) (chosen_here second) q is))

  span_same : (p : Span) → Inside (span_questions p) → span_met keywords matcher as' x s f same name m p ≡ span_met keywords matcher as' x s g same name m p
  span_same every inside = refl
  span_same (one step) inside = refl
  span_same (one_matched a point step) inside = refl
  span_same (one_accepted i step) inside = ap (λ (r : Run). r.met for_verdict) (alike (child_at i step) (inside (child_at i step) (zero, omega arith, refl)))
  span_same (of_child i) inside = ap (λ (r : Run). r.spanning) (alike (child_here i) (inside (child_here i) (zero, omega arith, refl)))
  span_same (of_choice i first second) inside =
      let known = inside (child_here i) (zero, omega arith, refl) in
      ap₂ (λ (xs : List Met) ys. xs ++ ys) (ap (λ (r : Run). r.spanning) (alike (child_here i) known))
      (ap (λ v. option_met keywords matcher as' x s f same name m (chosen v first second)) (accepts_same (child_here i) known)
      ∙ chosen_same (run_accepts keywords matcher as' x s g same name m (child_here i)) first second (λ q is. inside q (Contains-append_right (child_here i ∷ []) (chosen_here first ++ chosen_here second) q is)))

  asked_same : (p : Span) → Inside (span_questions p) → span_asked (run_accepts keywords matcher as' x s f same name m) p ≡ span_asked (run_accepts keywords matcher as' x s g same name m) p
  asked_same every inside = refl
  asked_same (one step) inside = refl
  asked_same (one_matched a point step) inside = refl
  asked_same (one_accepted i step) inside = refl
  asked_same (of_child i) inside = refl
  asked_same (of_choice i first second) inside = ap (λ v. child_here i ∷ chosen_here (chosen v first second)) (accepts_same (child_here i) (inside (child_here i) (zero, omega arith, refl)))

  abbrev EachInside : List Span → Type 0
  EachInside ps = All (λ p. All (Contains qs) (span_questions p)) ps

  first_inside : (p : Span) (ps : List Span) → EachInside (p ∷ ps) → Inside (span_questions p)
  first_inside p ps h q is = All-contains (Contains qs) (span_questions p) q (All-head (λ p. All (Contains qs) (span_questions p)) p ps h) is

  later_inside : (p : Span) (ps : List Span) → EachInside (p ∷ ps) → EachInside ps
  later_inside p ps h = All-tail (λ p. All (Contains qs) (span_questions p)) p ps h

  spans_met_same : (ps : List Span) → EachInside ps → flat_map (span_met keywords matcher as' x s f same name m) ps ≡ flat_map (span_met keywords matcher as' x s g same name m) ps
  spans_met_same [] h = refl
  spans_met_same (p ∷ ps) h = ap₂ (λ (xs : List Met) ys. xs ++ ys) (span_same p (first_inside p ps h)) (spans_met_same ps (later_inside p ps h))

  is_asked_same : (q : Question) (ps : List Span) → EachInside ps
      → list_any (λ p. list_any (same_question q) (span_asked (run_accepts keywords matcher as' x s f same name m) p)) ps
      ≡ list_any (λ p. list_any (same_question q) (span_asked (run_accepts keywords matcher as' x s g same name m) p)) ps
  is_asked_same q [] h = refl
  is_asked_same q (p ∷ ps) h = ap₂ (λ a b. a || b) (ap (list_any (same_question q)) (asked_same p (first_inside p ps h))) (is_asked_same q ps (later_inside p ps h))

  pub once_same : EachInside (keywords.spans m s) → (q : Question) → Contains qs q → once keywords matcher as' x s f same name m q ≡ once keywords matcher as' x s g same name m q
  once_same h q is = ap₂ without_verdict (is_asked_same q (keywords.spans m s) h) (alike q is)

module _ {K R : Type 0} (keywords : Keywords K R) (reads : Reads keywords) (x : Where) (name : Text) (m : K) (s : Subject) where
  pub spanning_reads : (matcher : Matcher) (as' : Assumptions) (same : Marked → Marked → Bool) (f g : Question → Run) → ((q : Question) → Contains (keywords.may_ask m s) q → f q ≡ g q)
      → spanning_met keywords matcher as' x s f same name m ≡ spanning_met keywords matcher as' x s g same name m
  spanning_reads matcher as' same f g h = ap₂ (λ (xs : List Met) ys. xs ++ ys)
      (spans_met_same keywords matcher as' x s same name m f g (keywords.may_ask m s) h (keywords.spans m s) (reads.spans_read m s))
      (met_reads keywords reads x name m s matcher as' spans_nothing same for_verdict _ _ (once_same keywords matcher as' x s same name m f g (keywords.may_ask m s) h (reads.spans_read m s)))
