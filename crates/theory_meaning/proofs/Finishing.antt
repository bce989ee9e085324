-- A run meets only matches that the matcher leaves unfinished. If the matcher finishes every match,
-- the first run decides.
use Rattle.std.proofs.Common.{◌≡◌, ℕ, zero, suc, ◌==◌, Bool, List, [], ◌∷◌, ◌++◌, refl, ap, sym, ◌∙◌, arith}
use Rattle.std.specs.Prelude.{All, Option, Some, None, find, is_some, not, flat_map}
use Rattle.std.specs.List.{list_any}
use Rattle.std.proofs.lemmas.List.Elements.{All-cons, All-append, All-contains}
use Rattle.serde_json.specs.Data.{Data}
use Rattle.theory_definitions.specs.Instance.{Place, Subject, Text, Step}
use Rattle.theory_definitions.specs.Matching.{Assumptions, Match, Matcher, Pair, assumed, completed, completion_of, finished, unfinished}
use Rattle.theory_definitions.specs.Keywords.{Below, Keywords, Marked, MatchPoint, Mode, Question, Reply, Turn, ask, done, ecma, for_verdict, here, mark, match_text, no_reply, truth, unmark, is_spanned, Span, child_at, child_here, chosen, every, of_child, of_choice, one, one_accepted, one_matched}
use Rattle.theory_definitions.specs.Parts.{Parts}
use Rattle.theory_definitions.specs.Plan.{Edge, Form, Key, Part, Plan, always, child, height, keyword, never, plan, reference, reference_edge, same_child, these}
use Rattle.theory_definitions.specs.Meaning.{Where, asked, at, place_below, subject, within, form_told, others_span, told_of}
use Rattle.theory_definitions.specs.Runs.{Looked, Met, Run, looked, no_run, part_met, reply_in, run, run_node, site_at, turns, with_mark, without_last, is_asked, looked_at, node_met, once, option_met, part_spanning, plan_spanning, run_accepts, span_met, spanning_met}
use Rattle.theory_definitions.specs.Cover.{Call, Sense, mode_of, plain}
use Rattle.theory_definitions.specs.Guarded.{NodeEdge, NodeForm, NodePart, NodePlan, Nodes, guarded_node, guarded_sense, guarded_within, node_always, node_asked, node_at, node_child, node_keyword, node_looked, node_never, node_part_met, node_reference, node_these, progress_below, same_edge, yes_run, node_looked_at, node_others, node_part_spanning, node_told}
use Rattle.theory_definitions.specs.Reports.{spans_nothing}
use Rattle.theory_meaning.specs.Members.{Finishes, IsUnfinished}
use Rattle.theory_meaning.proofs.PlanMet.{EachHas, RunHas, both_have, either_has, node_has, nothing, plan_spanning_has, without_verdict_has}
use Rattle.theory_meaning.specs.Promises.{DecidesAtOnce, FinishingDecides, MeetsUnfinished, NodesFinishingDecide, NodesMeetUnfinished, PlainMeetsUnfinished}
use Rattle.theory_meaning.specs.Deciding.{finished_decides}

module _ (matcher : Matcher) where
  abbrev Each : List Met → Type 0
  Each = All (IsUnfinished matcher)

  abbrev pub RunMeets : Run → Type 0
  RunMeets = RunHas (IsUnfinished matcher)

  no_run_meets : RunMeets no_run
  no_run_meets = record { each = λ mode. nothing (IsUnfinished matcher); spanning = nothing (IsUnfinished matcher) }

  -- ---- a keyword

  module _ {K R : Type 0} (keywords : Keywords K R) (as' : Assumptions) (x : Where) (s : Subject) (run_of : Question → Run) (others : Step → Bool) (same : Marked → Marked → Bool) (name : Text) (m : K)
      (all_meet : (q : Question) → RunMeets (run_of q)) where
    abbrev MetIn : ℕ → List Marked → R → Reply → List Met
    MetIn = turns keywords matcher as' x s run_of others same name m

    turns_meet : (n : ℕ) (marks : List Marked) (r : R) (reply : Reply) → Each (MetIn n marks r reply)
    turns_meet zero marks r reply = nothing (IsUnfinished matcher)
    turns_meet (suc n) marks r reply = go (keywords.step m s r reply) (λ marks' next. turns_meet n marks' (keywords.turn m s r reply) next)
      where
        matched : (a : Pair) (point : MatchPoint) (is : Match) → matcher.is_match a.pattern a.subject ≡ is → ((next : Reply) → Each (MetIn n marks (keywords.turn m s r reply) next))
            → Each (elim is [
              | finished b ↦ MetIn n marks (keywords.turn m s r reply) (truth b)
              | unfinished reason ↦ record { pair = a; site = site_at x name point } ∷ MetIn n marks (keywords.turn m s r reply) (truth (completed (completion_of as') a))
            ])
        matched a point (finished b) e rest = rest (truth b)
        matched a point (unfinished reason) e rest = All-cons (IsUnfinished matcher) (record { pair = a; site = site_at x name point }) _ (reason, e) (rest (truth (completed (completion_of as') a)))

        go : (t : Turn) → ((marks' : List Marked) (next : Reply) → Each (MetIn n marks' (keywords.turn m s r reply) next))
            → Each (elim t [
              | ask q mode ↦ let child = run_of q in child.met mode ++ MetIn n marks (keywords.turn m s r reply) (reply_in mode child)
              | match_text a point ↦ elim (matcher.is_match a.pattern a.subject) [
                | finished b ↦ MetIn n marks (keywords.turn m s r reply) (truth b)
                | unfinished reason ↦ record { pair = a; site = site_at x name point } ∷ MetIn n marks (keywords.turn m s r reply) (truth (completed (completion_of as') a))
              ]
              | mark i ↦ MetIn n (with_mark same i marks) (keywords.turn m s r reply) (truth (list_any (same i) marks))
              | unmark ↦ MetIn n (without_last marks) (keywords.turn m s r reply) no_reply
              | ecma text ↦ MetIn n marks (keywords.turn m s r reply) (truth (matcher.is_ecma text))
              | is_spanned step ↦ MetIn n marks (keywords.turn m s r reply) (truth (others step))
              | done ↦ []
            ])
        go (ask q mode) rest = All-append (IsUnfinished matcher) ((run_of q).met mode) _ ((all_meet q).each mode) (rest marks (reply_in mode (run_of q)))
        go (match_text a point) rest = matched a point (matcher.is_match a.pattern a.subject) refl (rest marks)
        go (mark i) rest = rest (with_mark same i marks) (truth (list_any (same i) marks))
        go unmark rest = rest (without_last marks) no_reply
        go (ecma text) rest = rest marks (truth (matcher.is_ecma text))
        go (is_spanned step) rest = rest marks (truth (others step))
        go done rest = nothing (IsUnfinished matcher)

  -- ---- a keyword that is run for what it spans

  module _ {K R : Type 0} (keywords : Keywords K R) (as' : Assumptions) (x : Where) (s : Subject) (run_of : Question → Run) (same : Marked → Marked → Bool) (name : Text) (m : K)
      (all_meet : (q : Question) → RunMeets (run_of q)) where
    option_meets : (i : Option ℕ) → Each (option_met keywords matcher as' x s run_of same name m i)
    option_meets None = nothing (IsUnfinished matcher)
    option_meets (Some i) = (all_meet (child_here i)).spanning

    match_meets : (a : Pair) (point : MatchPoint) (is : Match) → matcher.is_match a.pattern a.subject ≡ is
        → Each (elim is [ finished b ↦ [] | unfinished reason ↦ record { pair = a; site = site_at x name point } ∷ [] ])
    match_meets a point (finished b) e = nothing (IsUnfinished matcher)
    match_meets a point (unfinished reason) e = All-cons (IsUnfinished matcher) (record { pair = a; site = site_at x name point }) [] (reason, e) (nothing (IsUnfinished matcher))

    span_meets : (p : Span) → Each (span_met keywords matcher as' x s run_of same name m p)
    span_meets every = nothing (IsUnfinished matcher)
    span_meets (one step) = nothing (IsUnfinished matcher)
    span_meets (one_matched a point step) = match_meets a point (matcher.is_match a.pattern a.subject) refl
    span_meets (one_accepted i step) = (all_meet (child_at i step)).each for_verdict
    span_meets (of_child i) = (all_meet (child_here i)).spanning
    span_meets (of_choice i first second) = both_have (IsUnfinished matcher) _ _ (all_meet (child_here i)).spanning (option_meets (chosen (run_accepts keywords matcher as' x s run_of same name m (child_here i)) first second))

    spans_meet : (ps : List Span) → Each (flat_map (span_met keywords matcher as' x s run_of same name m) ps)
    spans_meet [] = nothing (IsUnfinished matcher)
    spans_meet (p ∷ ps) = both_have (IsUnfinished matcher) _ _ (span_meets p) (spans_meet ps)

    spanning_meets : Each (spanning_met keywords matcher as' x s run_of same name m)
    spanning_meets = both_have (IsUnfinished matcher) _ _ (spans_meet (keywords.spans m s))
        (turns_meet keywords as' x s (once keywords matcher as' x s run_of same name m) spans_nothing same name m
        (λ q. without_verdict_has (IsUnfinished matcher) (is_asked keywords matcher as' x s run_of same name m q) (run_of q) (all_meet q)) (keywords.most_turns m s) [] (keywords.begin m s for_verdict) no_reply)

  -- ---- numbered nodes

  module _ {K R : Type 0} (keywords : Keywords K R) (nodes : Nodes K) (subject_of : Place → Subject) (as' : Assumptions) where
    module _ (i : ℕ) (path : Text) (p : Place) (go : NodeEdge → Below → Run) (all_meet : (e : NodeEdge) (b : Below) → RunMeets (go e b)) where
      pub child_meets : (o : Option NodeEdge) (b : Below) → RunMeets (elim o [ None ↦ no_run | Some e ↦ go e b ])
      child_meets None b = no_run_meets
      child_meets (Some e) b = all_meet e b

      pub form_meets : (others : Step → Bool) (name : Text) (form : NodeForm K) (mode : Mode) → Each (node_part_met keywords matcher nodes subject_of as' i path p go others name form mode)
      form_meets others name (node_keyword m es) mode =
          turns_meet keywords as' (node_at keywords matcher nodes subject_of i path p) (subject_of p) (node_asked keywords matcher nodes subject_of no_run es go) others (same_edge es) name m
          (λ q. child_meets (node_child es q.child) q.below) (keywords.most_turns m (subject_of p)) [] (keywords.begin m (subject_of p) mode) no_reply
      form_meets others name (node_reference e) mode = (all_meet e here).each mode

      form_spans : (name : Text) (form : NodeForm K) → Each (node_part_spanning keywords matcher nodes subject_of as' i path p go name form)
      form_spans name (node_keyword m es) = spanning_meets keywords as' (node_at keywords matcher nodes subject_of i path p) (subject_of p) (node_asked keywords matcher nodes subject_of no_run es go) (same_edge es) name m
          (λ q. child_meets (node_child es q.child) q.below)
      form_spans name (node_reference e) = (all_meet e here).spanning

      looked_meet : (others : Step → Bool) (xs : List (NodePart K)) → EachHas (IsUnfinished matcher) (node_looked keywords matcher nodes subject_of as' i path p go others xs)
      looked_meet others [] = tt
      looked_meet others (x ∷ xs) = (form_meets (told_of others (node_told keywords x.form)) x.name x.form, form_spans x.name x.form, looked_meet others xs)

      node_meets : RunMeets (guarded_node keywords matcher nodes subject_of as' i path p go)
      node_meets = record { each = λ mode. by (node_met mode) (node_has (IsUnfinished matcher) mode) (nodes.entries i); spanning = by plan_spanning (plan_spanning_has (IsUnfinished matcher)) (nodes.entries i) }
        where
          by : (answer : List Looked → List Met) → ((ls : List Looked) → EachHas (IsUnfinished matcher) ls → Each (answer ls))
              → (o : NodePlan K) → Each (elim o [ node_always ↦ [] | node_never ↦ [] | node_these xs ↦ answer (node_looked_at keywords matcher nodes subject_of as' i path p go xs) ])
          by answer has node_always = nothing (IsUnfinished matcher)
          by answer has node_never = nothing (IsUnfinished matcher)
          by answer has (node_these xs) = has (node_looked_at keywords matcher nodes subject_of as' i path p go xs) (looked_meet (node_others keywords matcher nodes subject_of (completion_of as') i path p (λ e b. (go e b).outcome tt) xs) xs)

    pub yes_meets : (i : ℕ) (path : Text) (p : Place) → RunMeets (yes_run nodes i path p)
    yes_meets i path p = record { each = λ mode. nothing (IsUnfinished matcher); spanning = nothing (IsUnfinished matcher) }

    pub within_meets : (n i : ℕ) (path : Text) (p : Place) (busy : List ℕ) → RunMeets (guarded_within (yes_run nodes) (guarded_node keywords matcher nodes subject_of as') n i path p busy)
    within_meets zero i path p busy = yes_meets i path p
    within_meets (suc n) i path p busy = node_meets i path p _ (λ e b. either_has (IsUnfinished matcher) e.guarded
        (either_has (IsUnfinished matcher) (list_any (λ j. j == e.node) (progress_below busy b)) (yes_meets e.node (path ++ e.path) (place_below p b)) (within_meets n e.node (path ++ e.path) (place_below p b) (e.node ∷ progress_below busy b)))
        (within_meets n e.node (path ++ e.path) (place_below p b) (progress_below busy b)))

  none_met : Finishes matcher → (ms : List Met) → Each ms → ms ≡ []
  none_met finishes [] h = refl
  none_met finishes (m ∷ ms) h =
      let (reason, left) = All-contains (IsUnfinished matcher) (m ∷ ms) m h (zero, omega arith, refl) in
      let (b, is) = finishes m.pair.pattern m.pair.subject in
      absurd (cc (sym left ∙ is))

  at_once : (v : Sense) → Finishes matcher → MeetsUnfinished matcher v → DecidesAtOnce v
  at_once v finishes meets =
      let none : (call : Call) (as' : Assumptions) → v.meets call as' ≡ [] = λ call as'. none_met finishes (v.meets call as') (meets call as') in
      record {
        meets_none = none;
        decides = λ limit call some. finished_decides v limit call (ap (find (λ (m : Met). not (is_some (assumed [] m.pair)))) (none call [])) some;
      }

-- ---- the plain runs of a schema

module _ {S K R : Type 0} (w : Parts S K R) (instance : Data) (as' : Assumptions) where
  abbrev Meets : Run → Type 0
  Meets = RunMeets w.matcher

  module _ (k : Key S) (path : Text) (p : Place) (run_of : Edge S → Place → Run) (all_meet : (e : Edge S) (q : Place) → Meets (run_of e q)) where
    edge_meets : (o : Option (Edge S)) (q : Place) → Meets (elim o [ None ↦ no_run | Some e ↦ run_of e q ])
    edge_meets None q = no_run_meets w.matcher
    edge_meets (Some e) q = all_meet e q

    plain_form_meets : (others : Step → Bool) (name : Text) (form : Form K) (mode : Mode) → Each w.matcher (part_met w instance as' k path p run_of others name form mode)
    plain_form_meets others name (keyword m requests absorbed) mode =
        turns_meet w.matcher w.keywords as' (at w instance k path p) (subject w instance p) (asked w instance no_run k name requests p run_of) others (same_child w k name requests) name m
        (λ q. edge_meets (child w k name requests q.child) (place_below p q.below)) (w.keywords.most_turns m (subject w instance p)) [] (w.keywords.begin m (subject w instance p) mode) no_reply
    plain_form_meets others name (reference kind text) mode = (edge_meets (reference_edge w k name kind text) p).each mode

    plain_form_spans : (name : Text) (form : Form K) → Each w.matcher (part_spanning w instance as' k path p run_of name form)
    plain_form_spans name (keyword m requests absorbed) = spanning_meets w.matcher w.keywords as' (at w instance k path p) (subject w instance p) (asked w instance no_run k name requests p run_of) (same_child w k name requests) name m
        (λ q. edge_meets (child w k name requests q.child) (place_below p q.below))
    plain_form_spans name (reference kind text) = (edge_meets (reference_edge w k name kind text) p).spanning

    plain_looked_meet : (others : Step → Bool) (xs : List (Part K)) → EachHas (IsUnfinished w.matcher) (looked w instance as' k path p run_of others xs)
    plain_looked_meet others [] = tt
    plain_looked_meet others (x ∷ xs) = (plain_form_meets (told_of others (form_told w.keywords x.form)) x.name x.form, plain_form_spans x.name x.form, plain_looked_meet others xs)

    plain_node_meets : Meets (run_node w instance as' k path p run_of)
    plain_node_meets = record { each = λ mode. by (node_met mode) (node_has (IsUnfinished w.matcher) mode) (plan w k); spanning = by plan_spanning (plan_spanning_has (IsUnfinished w.matcher)) (plan w k) }
      where
        by : (answer : List Looked → List Met) → ((ls : List Looked) → EachHas (IsUnfinished w.matcher) ls → Each w.matcher (answer ls))
            → (o : Plan K) → Each w.matcher (elim o [ always ↦ [] | never ↦ [] | these xs ↦ answer (looked_at w instance as' k path p run_of xs) ])
        by answer has always = nothing (IsUnfinished w.matcher)
        by answer has never = nothing (IsUnfinished w.matcher)
        by answer has (these xs) = has (looked_at w instance as' k path p run_of xs) (plain_looked_meet (others_span w instance (completion_of as') k path p (λ e q. (run_of e q).outcome tt) xs) xs)

  plain_within_meets : (across : Key S → Text → Place → Run) → ((k : Key S) (path : Text) (p : Place) → Meets (across k path p))
      → (h : ℕ) (k : Key S) (path : Text) (p : Place) → Meets (within w instance no_run (run_node w instance as') across h k path p)
  plain_within_meets across all_meet zero k path p = no_run_meets w.matcher
  plain_within_meets across all_meet (suc h) k path p = plain_node_meets k path p _ (λ e q. either_has (IsUnfinished w.matcher) e.is_reference
      (all_meet e.key (path ++ e.path) q) (plain_within_meets across all_meet h e.key (path ++ e.path) q))

  run_meets : (n : ℕ) (k : Key S) (path : Text) (p : Place) → Meets (run w instance as' n k path p)
  run_meets zero k path p = plain_within_meets (λ k' path' p'. no_run) (λ k' path' p'. no_run_meets w.matcher) (height w k) k path p
  run_meets (suc n) k path p = plain_within_meets (run w instance as' n) (run_meets n) (height w k) k path p

pub plain_meets : {S K R : Type 0} (w : Parts S K R) → PlainMeetsUnfinished w
plain_meets w instance n root call as' = (run_meets w instance as' n root [] []).each (mode_of call as')

pub plain_decides : {S K R : Type 0} (w : Parts S K R) → FinishingDecides w
plain_decides w finishes instance n root = at_once w.matcher (plain w instance n root) finishes (plain_meets w instance n root)

pub nodes_meet : {K R : Type 0} (keywords : Keywords K R) → NodesMeetUnfinished keywords
nodes_meet keywords matcher nodes subject_of n i call as' = (within_meets matcher keywords nodes subject_of as' n i [] [] []).each (mode_of call as')

pub nodes_decide : {K R : Type 0} (keywords : Keywords K R) → NodesFinishingDecide keywords
nodes_decide keywords matcher finishes nodes subject_of n i = at_once matcher (guarded_sense keywords matcher nodes subject_of n i) finishes (nodes_meet keywords matcher nodes subject_of n i)
