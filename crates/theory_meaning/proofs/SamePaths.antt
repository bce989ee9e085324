-- The run of a question for its verdict is the same with each evaluation path, except for the paths
-- of the sites that it meets.
use Rattle.std.proofs.Common.{◌≡◌, ℕ, zero, suc, ◌==◌, Bool, true, false, List, [], ◌∷◌, ◌++◌, refl, subst, sym, ap, ap₂, cond, ◌||◌}
use Rattle.std.specs.Prelude.{Option, Some, None, if◌then◌else◌, is_some, ◌&&◌, flat_map}
use Rattle.std.specs.List.{filter, list_all, list_any}
use Rattle.theory_definitions.specs.Instance.{Text, Place, Subject, Step}
use Rattle.theory_definitions.specs.Matching.{Assumptions, Match, Matcher, completed, completion_of, finished, unfinished}
use Rattle.theory_definitions.specs.Keywords.{Below, Keywords, Marked, Question, Reply, Turn, ask, done, ecma, for_verdict, here, mark, match_text, no_reply, truth, unmark, is_spanned, Span, child_at, child_here, chosen, every, of_child, of_choice, one, one_accepted, one_matched, same_question, span_asked}
use Rattle.theory_definitions.specs.Reports.{Outcome, spans_nothing}
use Rattle.theory_definitions.specs.Meaning.{Where, place_below, told_of}
use Rattle.theory_definitions.specs.Runs.{Met, Run, no_run, plan_met, reply_in, site_at, turns, with_mark, without_last, Looked, is_asked, node_met, once, option_met, others_met, plan_spanning, run_accepts, span_met, spanning_met, without_verdict}
use Rattle.theory_definitions.specs.Guarded.{NodeEdge, NodeForm, NodePart, NodePlan, Nodes, guarded_node, guarded_within, node_always, node_asked, node_at, node_child, node_keyword, node_looked, node_never, node_part_met, node_reference, node_these, progress_below, same_edge, yes_run, node_looked_at, node_others, node_part_spanning, node_told}
use Rattle.theory_meaning.proofs.Alike.{node_alike, others_alike, part_alike, verdict_by_any_path}
use Rattle.theory_meaning.specs.Members.{SaysAlike}
use Rattle.theory_meaning.proofs.SpansRead.{}
use Rattle.theory_definitions.specs.Remembering.{AlwaysAsksVerdict, AsksVerdict, EachAsksVerdicts, PathsKeepRuns, PathsKeepVerdicts, SameMets, SameRuns}

pub same_append : (xs xs' ys ys' : List Met) → SameMets xs xs' → SameMets ys ys' → SameMets (xs ++ ys) (xs' ++ ys')
same_append [] [] ys ys' h k = k
same_append (x ∷ xs) (x' ∷ xs') ys ys' h k = (h.0, same_append xs xs' ys ys' h.1 k)
same_append [] (x' ∷ xs') ys ys' h k = absurd h
same_append (x ∷ xs) [] ys ys' h k = absurd h

same_located : {A : Type 0} (b : Bool) (x y : A) → is_some (if b then Some x else None) ≡ is_some (if b then Some y else None)
same_located true x y = refl
same_located false x y = refl

-- The rest of the run, if the verdict is yes.
same_rest : (b b' : Bool) (xs ys : List Met) → b ≡ b' → SameMets xs ys → SameMets (elim b [ true ↦ xs | false ↦ [] ]) (elim b' [ true ↦ ys | false ↦ [] ])
same_rest b b' xs ys e h = subst (λ (t : Bool). SameMets (elim b [ true ↦ xs | false ↦ [] ]) (elim t [ true ↦ ys | false ↦ [] ])) e (at b)
  where
    at : (t : Bool) → SameMets (elim t [ true ↦ xs | false ↦ [] ]) (elim t [ true ↦ ys | false ↦ [] ])
    at true = h
    at false = tt

-- ---- a keyword's turns

module _ {K R : Type 0} (keywords : Keywords K R) (matcher : Matcher) (as' : Assumptions) (x y : Where) (s : Subject) (f g : Question → Run) (others : Step → Bool) (same : Marked → Marked → Bool) (name : Text) (m : K)
    (alike : (q : Question) → SameRuns (f q) (g q)) where
  abbrev One : ℕ → List Marked → R → Reply → List Met
  One = turns keywords matcher as' x s f others same name m

  abbrev Other : ℕ → List Marked → R → Reply → List Met
  Other = turns keywords matcher as' y s g others same name m

  pub same_turns : (n : ℕ) (marks : List Marked) (r : R) (reply : Reply) → AlwaysAsksVerdict keywords m s n r reply → SameMets (One n marks r reply) (Other n marks r reply)
  same_turns zero marks r reply h = tt
  same_turns (suc n) marks r reply h = go (keywords.turn m s r reply) (keywords.step m s r reply) h.0 (λ marks' next. same_turns n marks' (keywords.turn m s r reply) next (h.1 next))
    where
      go : (r' : R) (t : Turn) → AsksVerdict t
          → ((marks' : List Marked) (next : Reply) → SameMets (One n marks' r' next) (Other n marks' r' next))
          → SameMets (elim t [
            | ask q mode ↦ let child = f q in child.met mode ++ One n marks r' (reply_in mode child)
            | match_text a point ↦ elim (matcher.is_match a.pattern a.subject) [
              | finished b ↦ One n marks r' (truth b)
              | unfinished reason ↦ record { pair = a; site = site_at x name point } ∷ One n marks r' (truth (completed (completion_of as') a))
            ]
            | mark i ↦ One n (with_mark same i marks) r' (truth (list_any (same i) marks))
            | unmark ↦ One n (without_last marks) r' no_reply
            | ecma text ↦ One n marks r' (truth (matcher.is_ecma text))
            | is_spanned step ↦ One n marks r' (truth (others step))
            | done ↦ []
          ])
          (elim t [
            | ask q mode ↦ let child = g q in child.met mode ++ Other n marks r' (reply_in mode child)
            | match_text a point ↦ elim (matcher.is_match a.pattern a.subject) [
              | finished b ↦ Other n marks r' (truth b)
              | unfinished reason ↦ record { pair = a; site = site_at y name point } ∷ Other n marks r' (truth (completed (completion_of as') a))
            ]
            | mark i ↦ Other n (with_mark same i marks) r' (truth (list_any (same i) marks))
            | unmark ↦ Other n (without_last marks) r' no_reply
            | ecma text ↦ Other n marks r' (truth (matcher.is_ecma text))
            | is_spanned step ↦ Other n marks r' (truth (others step))
            | done ↦ []
          ])
      go r' (ask q mode) e rest =
          let after : SameMets (One n marks r' (truth ((f q).outcome tt).verdict)) (Other n marks r' (truth ((g q).outcome tt).verdict))
          = subst (λ b. SameMets (One n marks r' (truth ((f q).outcome tt).verdict)) (Other n marks r' (truth b))) (alike q).verdict (rest marks (truth ((f q).outcome tt).verdict)) in
          subst (λ w. SameMets ((f q).met w ++ One n marks r' (reply_in w (f q))) ((g q).met w ++ Other n marks r' (reply_in w (g q)))) (sym e)
          (same_append ((f q).met for_verdict) ((g q).met for_verdict) _ _ (alike q).met after)
      go r' (match_text a point) e rest = by_match (matcher.is_match a.pattern a.subject)
        where
          by_match : (t : Match)
              → SameMets (elim t [
                | finished b ↦ One n marks r' (truth b)
                | unfinished reason ↦ record { pair = a; site = site_at x name point } ∷ One n marks r' (truth (completed (completion_of as') a))
              ])
              (elim t [
                | finished b ↦ Other n marks r' (truth b)
                | unfinished reason ↦ record { pair = a; site = site_at y name point } ∷ Other n marks r' (truth (completed (completion_of as') a))
              ])
          by_match (finished b) = rest marks (truth b)
          by_match (unfinished reason) = ((refl, same_located point.located _ _), rest marks (truth (completed (completion_of as') a)))
      go r' (mark i) e rest = rest (with_mark same i marks) (truth (list_any (same i) marks))
      go r' unmark e rest = rest (without_last marks) no_reply
      go r' (ecma text) e rest = rest marks (truth (matcher.is_ecma text))
      go r' (is_spanned step) e rest = rest marks (truth (others step))
      go r' done e rest = tt

-- ---- a keyword that is run for what it spans

module _ {K R : Type 0} (keywords : Keywords K R) (matcher : Matcher) (as' : Assumptions) (x y : Where) (s : Subject) (f g : Question → Run) (same : Marked → Marked → Bool) (name : Text) (m : K)
    (asks : AlwaysAsksVerdict keywords m s (keywords.most_turns m s) (keywords.begin m s for_verdict) no_reply) (alike : (q : Question) → SameRuns (f q) (g q)) where
  without_alike : (b : Bool) (r r' : Run) → SameRuns r r' → SameRuns (without_verdict b r) (without_verdict b r')
  without_alike true r r' h = record { verdict = h.verdict; met = tt; spans = h.spans; spanning = h.spanning }
  without_alike false r r' h = h

  once_alike : (q : Question) → SameRuns (once keywords matcher as' x s f same name m q) (once keywords matcher as' y s g same name m q)
  once_alike q =
      let asked : is_asked keywords matcher as' x s f same name m q ≡ is_asked keywords matcher as' y s g same name m q
      = ap (λ (accepts : Question → Bool). list_any (λ p. list_any (same_question q) (span_asked accepts p)) (keywords.spans m s)) (λ j r. (alike r).verdict j) in
      subst (λ b. SameRuns (without_verdict (is_asked keywords matcher as' x s f same name m q) (f q)) (without_verdict b (g q))) asked (without_alike (is_asked keywords matcher as' x s f same name m q) (f q) (g q) (alike q))

  option_same : (i : Option ℕ) → SameMets (option_met keywords matcher as' x s f same name m i) (option_met keywords matcher as' y s g same name m i)
  option_same None = tt
  option_same (Some i) = (alike (child_here i)).spanning

  span_same : (p : Span) → SameMets (span_met keywords matcher as' x s f same name m p) (span_met keywords matcher as' y s g same name m p)
  span_same every = tt
  span_same (one step) = tt
  span_same (one_matched a point step) = by_match (matcher.is_match a.pattern a.subject)
    where
      by_match : (t : Match) → SameMets (elim t [ finished b ↦ [] | unfinished reason ↦ record { pair = a; site = site_at x name point } ∷ [] ]) (elim t [ finished b ↦ [] | unfinished reason ↦ record { pair = a; site = site_at y name point } ∷ [] ])
      by_match (finished b) = tt
      by_match (unfinished reason) = ((refl, same_located point.located _ _), tt)
  span_same (one_accepted i step) = (alike (child_at i step)).met
  span_same (of_child i) = (alike (child_here i)).spanning
  span_same (of_choice i first second) = same_append _ _ _ _ (alike (child_here i)).spanning
      (subst (λ v. SameMets (option_met keywords matcher as' x s f same name m (chosen (run_accepts keywords matcher as' x s f same name m (child_here i)) first second)) (option_met keywords matcher as' y s g same name m (chosen v first second)))
      (alike (child_here i)).verdict (option_same (chosen (run_accepts keywords matcher as' x s f same name m (child_here i)) first second)))

  spans_same : (ps : List Span) → SameMets (flat_map (span_met keywords matcher as' x s f same name m) ps) (flat_map (span_met keywords matcher as' y s g same name m) ps)
  spans_same [] = tt
  spans_same (p ∷ ps) = same_append _ _ _ _ (span_same p) (spans_same ps)

  pub spanning_same : SameMets (spanning_met keywords matcher as' x s f same name m) (spanning_met keywords matcher as' y s g same name m)
  spanning_same = same_append _ _ _ _ (spans_same (keywords.spans m s))
      (same_turns keywords matcher as' x y s (once keywords matcher as' x s f same name m) (once keywords matcher as' y s g same name m) spans_nothing same name m once_alike (keywords.most_turns m s) [] (keywords.begin m s for_verdict) no_reply asks)

-- ---- a plan

-- Two entries that hold alike and are told alike, and whose runs for the verdict and for the span
-- meet the same matches.
record LookedAlike (a b : Looked) : Type 0 where
  is_told : a.is_told ≡ b.is_told
  holds : a.holds ≡ b.holds
  met : SameMets (a.met for_verdict) (b.met for_verdict)
  spanning : SameMets a.spanning b.spanning

abbrev AllAlike : List Looked → List Looked → Type 0
AllAlike [] [] = Unit {0}
AllAlike (a ∷ ls) (b ∷ ms) = LookedAlike a b × AllAlike ls ms
AllAlike [] (b ∷ ms) = ⊥
AllAlike (a ∷ ls) [] = ⊥

same_either : (b b' : Bool) (xs ys us vs : List Met) → b ≡ b' → SameMets xs ys → SameMets us vs → SameMets (elim b [ true ↦ xs | false ↦ us ]) (elim b' [ true ↦ ys | false ↦ vs ])
same_either b b' xs ys us vs e h k = subst (λ (t : Bool). SameMets (elim b [ true ↦ xs | false ↦ us ]) (elim t [ true ↦ ys | false ↦ vs ])) e (at b)
  where
    at : (t : Bool) → SameMets (elim t [ true ↦ xs | false ↦ us ]) (elim t [ true ↦ ys | false ↦ vs ])
    at true = h
    at false = k

verdicts_met : (ls ms : List Looked) → AllAlike ls ms → SameMets (plan_met for_verdict ls) (plan_met for_verdict ms)
verdicts_met [] [] h = tt
verdicts_met (a ∷ ls) (b ∷ ms) h = same_append (a.met for_verdict) (b.met for_verdict) _ _ h.0.met (same_rest _ _ _ _ h.0.holds (verdicts_met ls ms h.1))
verdicts_met [] (b ∷ ms) h = absurd h
verdicts_met (a ∷ ls) [] h = absurd h

others_same_met : (ls ms : List Looked) → AllAlike ls ms → SameMets (others_met ls) (others_met ms)
others_same_met [] [] h = tt
others_same_met (a ∷ ls) (b ∷ ms) h = same_either _ _ _ _ _ _ h.0.is_told (others_same_met ls ms h.1) (same_append a.spanning b.spanning _ _ h.0.spanning (same_rest _ _ _ _ h.0.holds (others_same_met ls ms h.1)))
others_same_met [] (b ∷ ms) h = absurd h
others_same_met (a ∷ ls) [] h = absurd h

told_alike : (ls ms : List Looked) → AllAlike ls ms → AllAlike (filter (λ x. x.is_told) ls) (filter (λ x. x.is_told) ms)
told_alike [] [] h = tt
told_alike (a ∷ ls) (b ∷ ms) h = subst (λ (t : Bool). AllAlike (cond a.is_told (a ∷ filter (λ x. x.is_told) ls) (filter (λ x. x.is_told) ls)) (cond t (b ∷ filter (λ x. x.is_told) ms) (filter (λ x. x.is_told) ms))) h.0.is_told (at a.is_told (told_alike ls ms h.1))
  where
    at : (t : Bool) → AllAlike (filter (λ x. x.is_told) ls) (filter (λ x. x.is_told) ms) → AllAlike (cond t (a ∷ filter (λ x. x.is_told) ls) (filter (λ x. x.is_told) ls)) (cond t (b ∷ filter (λ x. x.is_told) ms) (filter (λ x. x.is_told) ms))
    at true rest = (h.0, rest)
    at false rest = rest
told_alike [] (b ∷ ms) h = absurd h
told_alike (a ∷ ls) [] h = absurd h

hold_alike : (ls ms : List Looked) → AllAlike ls ms → list_all (λ x. x.is_told || x.holds) ls ≡ list_all (λ x. x.is_told || x.holds) ms
hold_alike [] [] h = refl
hold_alike (a ∷ ls) (b ∷ ms) h = ap₂ ◌&&◌ (ap₂ (λ s t. s || t) h.0.is_told h.0.holds) (hold_alike ls ms h.1)
hold_alike [] (b ∷ ms) h = absurd h
hold_alike (a ∷ ls) [] h = absurd h

some_told : (ls ms : List Looked) → AllAlike ls ms → list_any (λ x. x.is_told) ls ≡ list_any (λ x. x.is_told) ms
some_told [] [] h = refl
some_told (a ∷ ls) (b ∷ ms) h = ap₂ (λ s t. s || t) h.0.is_told (some_told ls ms h.1)
some_told [] (b ∷ ms) h = absurd h
some_told (a ∷ ls) [] h = absurd h

plan_spanning_met : (ls ms : List Looked) → AllAlike ls ms → SameMets (plan_spanning ls) (plan_spanning ms)
plan_spanning_met ls ms h = same_append _ _ _ _ (others_same_met ls ms h)
    (same_rest _ _ _ _ (hold_alike ls ms h) (verdicts_met (filter (λ x. x.is_told) ls) (filter (λ x. x.is_told) ms) (told_alike ls ms h)))

node_verdict_met : (ls ms : List Looked) → AllAlike ls ms → SameMets (node_met for_verdict ls) (node_met for_verdict ms)
node_verdict_met ls ms h = same_either _ _ _ _ _ _ (some_told ls ms h) (plan_spanning_met ls ms h) (verdicts_met ls ms h)

-- ---- the run of a node, given the answers of its edges

module _ {K R : Type 0} (keywords : Keywords K R) (matcher : Matcher) (nodes : Nodes K) (subject_of : Place → Subject) (as' : Assumptions) (i : ℕ) (path path' : Text) (p : Place) (f g : NodeEdge → Below → Run) where
  abbrev told : (NodeEdge → Below → Run) → NodeEdge → Below → Outcome
  told h e b = (h e b).outcome tt

  module _ (asks : EachAsksVerdicts keywords) (alike : (e : NodeEdge) (b : Below) → SameRuns (f e b) (g e b)) where
    outcomes : (e : NodeEdge) (b : Below) → SaysAlike (told f e b) (told g e b)
    outcomes e b = record { verdict = (alike e b).verdict; spans = (alike e b).spans }

    option_alike : (o : Option NodeEdge) (b : Below) → SameRuns (elim o [ None ↦ no_run | Some e ↦ f e b ]) (elim o [ None ↦ no_run | Some e ↦ g e b ])
    option_alike None b = record { verdict = refl; met = tt; spans = refl; spanning = tt }
    option_alike (Some e) b = alike e b

    part_met : (others : Step → Bool) (name : Text) (form : NodeForm K)
        → SameMets (node_part_met keywords matcher nodes subject_of as' i path p f others name form for_verdict) (node_part_met keywords matcher nodes subject_of as' i path' p g others name form for_verdict)
    part_met others name (node_keyword m es) = same_turns keywords matcher as' (node_at keywords matcher nodes subject_of i path p) (node_at keywords matcher nodes subject_of i path' p) (subject_of p)
        (node_asked keywords matcher nodes subject_of no_run es f) (node_asked keywords matcher nodes subject_of no_run es g) others (same_edge es) name m (λ q. option_alike (node_child es q.child) q.below)
        (keywords.most_turns m (subject_of p)) [] (keywords.begin m (subject_of p) for_verdict) no_reply (asks m (subject_of p))
    part_met others name (node_reference e) = (alike e here).met

    part_spanning : (name : Text) (form : NodeForm K) → SameMets (node_part_spanning keywords matcher nodes subject_of as' i path p f name form) (node_part_spanning keywords matcher nodes subject_of as' i path' p g name form)
    part_spanning name (node_keyword m es) = spanning_same keywords matcher as' (node_at keywords matcher nodes subject_of i path p) (node_at keywords matcher nodes subject_of i path' p) (subject_of p)
        (node_asked keywords matcher nodes subject_of no_run es f) (node_asked keywords matcher nodes subject_of no_run es g) (same_edge es) name m (asks m (subject_of p)) (λ q. option_alike (node_child es q.child) q.below)
    part_spanning name (node_reference e) = (alike e here).spanning

    looked_alike : (others : Step → Bool) (xs : List (NodePart K)) → AllAlike (node_looked keywords matcher nodes subject_of as' i path p f others xs) (node_looked keywords matcher nodes subject_of as' i path' p g others xs)
    looked_alike others [] = tt
    looked_alike others (x ∷ xs) = let t = told_of others (node_told keywords x.form) in (
      record {
        is_told = refl;
        holds = (part_alike keywords matcher nodes subject_of (completion_of as') i path path' p (told f) (told g) outcomes t x.name x.form).verdict;
        met = part_met t x.name x.form;
        spanning = part_spanning x.name x.form;
      },
      looked_alike others xs,
    )

    looked_at_alike : (xs : List (NodePart K)) → AllAlike (node_looked_at keywords matcher nodes subject_of as' i path p f xs) (node_looked_at keywords matcher nodes subject_of as' i path' p g xs)
    looked_at_alike xs = subst (λ o. AllAlike (node_looked_at keywords matcher nodes subject_of as' i path p f xs) (node_looked keywords matcher nodes subject_of as' i path' p g o xs))
        (others_alike keywords matcher nodes subject_of (completion_of as') i path path' p (told f) (told g) outcomes xs) (looked_alike (node_others keywords matcher nodes subject_of (completion_of as') i path p (told f) xs) xs)

    plan_meets : (answer : List Looked → List Met) → ((ls ms : List Looked) → AllAlike ls ms → SameMets (answer ls) (answer ms)) → (o : NodePlan K)
        → SameMets (elim o [ node_always ↦ [] | node_never ↦ [] | node_these xs ↦ answer (node_looked_at keywords matcher nodes subject_of as' i path p f xs) ])
        (elim o [ node_always ↦ [] | node_never ↦ [] | node_these xs ↦ answer (node_looked_at keywords matcher nodes subject_of as' i path' p g xs) ])
    plan_meets answer same node_always = tt
    plan_meets answer same node_never = tt
    plan_meets answer same (node_these xs) = same _ _ (looked_at_alike xs)

    pub node_runs_alike : SameRuns (guarded_node keywords matcher nodes subject_of as' i path p f) (guarded_node keywords matcher nodes subject_of as' i path' p g)
    node_runs_alike = let says = node_alike keywords matcher nodes subject_of (completion_of as') i path path' p (told f) (told g) outcomes in record {
      verdict = says.verdict;
      met = plan_meets (node_met for_verdict) node_verdict_met (nodes.entries i);
      spans = says.spans;
      spanning = plan_meets plan_spanning plan_spanning_met (nodes.entries i);
    }

-- ---- at each depth

module _ {X : Type 0} (yes : ℕ → Text → Place → X) (node : ℕ → Text → Place → (NodeEdge → Below → X) → X) (Same : X → X → Type 0) (base : (i : ℕ) (path path' : Text) (p : Place) → Same (yes i path p) (yes i path' p))
    (step : (i : ℕ) (path path' : Text) (p : Place) (f g : NodeEdge → Below → X) → ((e : NodeEdge) (b : Below) → Same (f e b) (g e b)) → Same (node i path p f) (node i path' p g)) where
  by_guard : (h t : Bool) (x x' y y' z z' : X) → Same x x' → Same y y' → Same z z'
      → Same (elim h [ false ↦ x | true ↦ elim t [ true ↦ z | false ↦ y ] ]) (elim h [ false ↦ x' | true ↦ elim t [ true ↦ z' | false ↦ y' ] ])
  by_guard false t x x' y y' z z' k l w = k
  by_guard true true x x' y y' z z' k l w = w
  by_guard true false x x' y y' z z' k l w = l

  within_same : (n i : ℕ) (path path' : Text) (p : Place) (busy : List ℕ) → Same (guarded_within yes node n i path p busy) (guarded_within yes node n i path' p busy)
  within_same zero i path path' p busy = base i path path' p
  within_same (suc n) i path path' p busy = step i path path' p _ _ (λ e b. by_guard e.guarded (list_any (λ j. j == e.node) (progress_below busy b)) _ _ _ _ _ _
      (within_same n e.node (path ++ e.path) (path' ++ e.path) (place_below p b) (progress_below busy b))
      (within_same n e.node (path ++ e.path) (path' ++ e.path) (place_below p b) (e.node ∷ progress_below busy b))
      (base e.node (path ++ e.path) (path' ++ e.path) (place_below p b)))

module _ {K R : Type 0} (keywords : Keywords K R) where
  pub paths_keep_verdicts : PathsKeepVerdicts keywords
  paths_keep_verdicts matcher nodes subject_of c n i path path' p busy = verdict_by_any_path keywords matcher nodes subject_of c n i path path' p busy

  pub paths_keep_runs : PathsKeepRuns keywords
  paths_keep_runs asks matcher nodes subject_of as' n i path path' p busy =
      within_same (yes_run nodes) (guarded_node keywords matcher nodes subject_of as') SameRuns (λ j q q' r. record { verdict = refl; met = tt; spans = refl; spanning = tt })
      (λ j q q' r f g h. node_runs_alike keywords matcher nodes subject_of as' j q q' r f g asks h) n i path path' p busy
