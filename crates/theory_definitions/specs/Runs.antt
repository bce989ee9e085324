-- A plain run of a mode takes the turns of the keywords in the order of the plan, and meets
-- unfinished matches on the way.
use Rattle.std.specs.List.{filter, list_all, list_any}
use Rattle.std.specs.Prelude.{Bool, List, None, Option, Some, [], false, if◌then◌else◌, suc, true, flat_map, unwrap_or, zero, ℕ, ⊤, ◌++◌, ◌||◌, ◌∷◌}
use Rattle.serde_json.specs.Data.{Data}
use Rattle.theory_definitions.specs.Instance.{Place, Step, Subject, Text}
use Rattle.theory_definitions.specs.Pointer.{joined}
use Rattle.theory_definitions.specs.Reports.{Error, Outcome, Unit_, accepted, spans_nothing}
use Rattle.theory_definitions.specs.Matching.{Assumptions, Matcher, Pair, completed, completion_of, finished, unfinished}
use Rattle.theory_definitions.specs.Keywords.{Keywords, Marked, MatchPoint, Mode, Question, Reply, Span, child_at, child_here, chosen, every, of_child, of_choice, one, one_accepted, one_matched, same_question, span_asked, all_of_it, ask, done, ecma, first_of_it, for_all, for_first, for_units, for_verdict, is_spanned, mark, match_text, no_reply, truth, unit_of_it, unmark}
use Rattle.theory_definitions.specs.Parts.{Parts}
use Rattle.theory_definitions.specs.Plan.{Edge, Form, Key, Part, always, keyword, never, plan, reference, same_child, these}
use Rattle.theory_definitions.specs.Meaning.{Where, asked, at, form_told, others_span, outcome_of, part_outcome, referred_to, subject, told_of, unfolded}
use Rattle.theory_definitions.specs.Units.{no_unit, unit_of}

-- Where a match was requested: the schema path, the evaluation path and the place if they are
-- reported, and the pattern as the schema writes it.
pub record Site : Type 0 where
  pub schema_path : Text
  pub located : Option (Text × Place)
  pub pattern : Option Text

-- An unfinished match, and the site at which it was met.
pub record Met : Type 0 where
  pub pair : Pair
  pub site : Site

-- A run: its outcome, its units, and the unfinished matches that it meets in each mode.
pub record Run : Type 0 where
  pub outcome : ⊤ → Outcome
  pub units : ⊤ → Unit_
  pub met : Mode → List Met
  -- what it meets where it is run for what it spans, besides for its verdict
  pub spanning : List Met

-- The first error, if there is one.
abbrev pub first_error : List Error → Option Error
first_error [] = None
first_error (e ∷ es) = Some e

-- The reply that a run makes to a question of a mode.
abbrev pub reply_in : Mode → Run → Reply
reply_in for_verdict r = truth (r.outcome tt).verdict
reply_in for_first r = first_of_it (first_error (r.outcome tt).errors)
reply_in for_all r = all_of_it (r.outcome tt).errors
reply_in for_units r = unit_of_it (r.units tt)

-- The site of a match that a keyword requests.
abbrev pub site_at : Where → Text → MatchPoint → Site
site_at x name m = let name' = unwrap_or m.spot.absorbed name in record {
  schema_path = joined x.location name' ++ m.spot.path;
  located = if m.located then Some (joined x.path name' ++ m.spot.path, x.place ++ m.spot.below) else None;
  pattern = m.pattern;
}

-- The marks of a run after it sets a mark, the latest first. A mark that is there already is not
-- added again; `same` says which marks have the same key.
abbrev pub with_mark : (Marked → Marked → Bool) → Marked → List Marked → List Marked
with_mark same i marks = if list_any (same i) marks then marks else i ∷ marks

-- The marks of a run after it removes its latest mark, if it has one.
abbrev pub without_last : List Marked → List Marked
without_last [] = []
without_last (i ∷ marks) = marks

-- The turns of a keyword's run, with the marks that it sets; `same` says which marks have the same
-- key, and `others` what the other keywords span.
module _ {K R : Type 0} (keywords : Keywords K R) (matcher : Matcher) (as' : Assumptions) (x : Where) (s : Subject) (run_of : Question → Run) (others : Step → Bool) (same : Marked → Marked → Bool) (name : Text) (m : K) where
  -- The unfinished matches that the run meets in its next n turns.
  abbrev pub turns : ℕ → List Marked → R → Reply → List Met
  turns zero marks r reply = []
  turns (suc n) marks r reply =
      let r' = keywords.turn m s r reply in
      elim (keywords.step m s r reply) [
        | ask q mode ↦ let child = run_of q in child.met mode ++ turns n marks r' (reply_in mode child)
        | match_text a point ↦ elim (matcher.is_match a.pattern a.subject) [
          | finished b ↦ turns n marks r' (truth b)
          | unfinished reason ↦ record { pair = a; site = site_at x name point } ∷ turns n marks r' (truth (completed (completion_of as') a))
        ]
        | mark i ↦ turns n (with_mark same i marks) r' (truth (list_any (same i) marks))
        | unmark ↦ turns n (without_last marks) r' no_reply
        | ecma text ↦ turns n marks r' (truth (matcher.is_ecma text))
        | is_spanned step ↦ turns n marks r' (truth (others step))
        | done ↦ []
      ]

  -- The unfinished matches that the whole run of a keyword meets.
  abbrev pub keyword_met : Mode → List Met
  keyword_met mode = turns (keywords.most_turns m s) [] (keywords.begin m s mode) no_reply

-- The run, which meets nothing for a verdict if its verdict is known.
abbrev pub without_verdict : Bool → Run → Run
without_verdict true r = record r { met = λ mode. elim mode [ for_verdict ↦ [] | for_first ↦ r.met for_first | for_all ↦ r.met for_all | for_units ↦ r.met for_units ] }
without_verdict false r = r

-- A run for what a keyword spans first asks its children what they span or whether they accept, and
-- requests the matches on which a span depends. Then it takes the turns for the verdict, which do not
-- ask those children for a verdict again.
module _ {K R : Type 0} (keywords : Keywords K R) (matcher : Matcher) (as' : Assumptions) (x : Where) (s : Subject) (run_of : Question → Run) (same : Marked → Marked → Bool) (name : Text) (m : K) where
  -- The verdict of the run of a question.
  abbrev pub run_accepts : Question → Bool
  run_accepts q = let child = run_of q in (child.outcome tt).verdict

  -- What a child's run for its span meets, if there is a child.
  abbrev pub option_met : Option ℕ → List Met
  option_met None = []
  option_met (Some i) = (run_of (child_here i)).spanning

  -- What the run meets for one span.
  abbrev pub span_met : Span → List Met
  span_met every = []
  span_met (one step) = []
  span_met (one_matched a point step) = elim (matcher.is_match a.pattern a.subject) [ finished b ↦ [] | unfinished reason ↦ record { pair = a; site = site_at x name point } ∷ [] ]
  span_met (one_accepted i step) = (run_of (child_at i step)).met for_verdict
  span_met (of_child i) = (run_of (child_here i)).spanning
  span_met (of_choice i first second) = (run_of (child_here i)).spanning ++ option_met (chosen (run_accepts (child_here i)) first second)

  -- The question was asked for a span.
  abbrev pub is_asked : Question → Bool
  is_asked q = list_any (λ p. list_any (same_question q) (span_asked run_accepts p)) (keywords.spans m s)

  -- The run of a question, which meets nothing for a verdict if it was asked for a span.
  abbrev pub once : Question → Run
  once q = without_verdict (is_asked q) (run_of q)

  -- The unfinished matches that the run for what the keyword spans meets.
  abbrev pub spanning_met : List Met
  spanning_met = flat_map span_met (keywords.spans m s) ++ keyword_met keywords matcher as' x s once spans_nothing same name m for_verdict

-- An entry of a plan: whether it is a leaf, whether it is told what the others span, whether it
-- holds, what its run meets in each mode, and what its run for its span meets.
pub record Looked : Type 0 where
  pub is_leaf : Bool
  pub is_told : Bool
  pub holds : Bool
  pub met : Mode → List Met
  pub spanning : List Met

-- The unfinished matches that the run of a plan meets. If errors are wanted, a leaf is first run
-- for its verdict, and for its errors only if the verdict is no.
abbrev pub plan_met : Mode → List Looked → List Met
plan_met mode [] = []
plan_met mode (x ∷ xs) = elim mode [
  | for_units ↦ x.met for_units ++ plan_met mode xs
  | for_verdict ↦ x.met for_verdict ++ elim x.holds [ true ↦ plan_met mode xs | false ↦ [] ]
  | for_first ↦ elim x.is_leaf [
    | true ↦ x.met for_verdict ++ elim x.holds [ true ↦ plan_met mode xs | false ↦ x.met for_first ]
    | false ↦ x.met for_first ++ elim x.holds [ true ↦ plan_met mode xs | false ↦ [] ]
  ]
  | for_all ↦ elim x.is_leaf [
    | true ↦ x.met for_verdict ++ (elim x.holds [ true ↦ [] | false ↦ x.met for_all ] ++ plan_met mode xs)
    | false ↦ x.met for_all ++ plan_met mode xs
  ]
]

-- What the entries that are not told meet in runs for their spans, up to the first that fails.
abbrev pub others_met : List Looked → List Met
others_met [] = []
others_met (x ∷ xs) = elim x.is_told [ true ↦ others_met xs | false ↦ x.spanning ++ elim x.holds [ true ↦ others_met xs | false ↦ [] ] ]

-- What all entries that are not told meet in runs for their spans. If more than a verdict is wanted,
-- all of them are run, since each error of a told entry depends on them.
abbrev pub each_other_met : List Looked → List Met
each_other_met xs = flat_map (λ x. if x.is_told then [] else x.spanning) xs

-- What the run for the span of a plan meets: if the entries that are not told hold, the told ones are
-- run for their verdicts.
abbrev pub plan_spanning : List Looked → List Met
plan_spanning xs = others_met xs ++ elim (list_all (λ x. x.is_told || x.holds) xs) [ true ↦ plan_met for_verdict (filter (λ x. x.is_told) xs) | false ↦ [] ]

-- What the run of a plan meets. A plan with a told entry is first run for what the others span, and
-- its verdict takes no more.
abbrev pub node_met : Mode → List Looked → List Met
node_met mode xs = elim (list_any (λ x. x.is_told) xs) [
  | false ↦ plan_met mode xs
  | true ↦ elim mode [ for_verdict ↦ plan_spanning xs | for_first ↦ each_other_met xs ++ plan_met for_first xs | for_all ↦ each_other_met xs ++ plan_met for_all xs | for_units ↦ each_other_met xs ++ plan_met for_units xs ]
]

-- A run that accepts and meets nothing.
abbrev pub no_run : Run
no_run = record { outcome = λ t. accepted; units = λ t. no_unit; met = λ m. []; spanning = [] }

module _ {S K R : Type 0} (w : Parts S K R) (instance : Data) (as' : Assumptions) where
  -- The unfinished matches that the run of one keyword or reference meets.
  abbrev pub part_met : Key S → Text → Place → (Edge S → Place → Run) → (Step → Bool) → Text → Form K → Mode → List Met
  part_met k path p run_of others name (keyword m requests absorbed) mode = keyword_met w.keywords w.matcher as' (at w instance k path p) (subject w instance p) (asked w instance no_run k name requests p run_of) others (same_child w k name requests) name m mode
  part_met k path p run_of others name (reference kind text) mode = (referred_to w instance no_run k name kind text p run_of).met mode

  -- What its run for its span meets.
  abbrev pub part_spanning : Key S → Text → Place → (Edge S → Place → Run) → Text → Form K → List Met
  part_spanning k path p run_of name (keyword m requests absorbed) = spanning_met w.keywords w.matcher as' (at w instance k path p) (subject w instance p) (asked w instance no_run k name requests p run_of) (same_child w k name requests) name m
  part_spanning k path p run_of name (reference kind text) = (referred_to w instance no_run k name kind text p run_of).spanning

  -- The entries of a plan, with what their runs meet, if the others span these steps.
  abbrev pub looked : Key S → Text → Place → (Edge S → Place → Run) → (Step → Bool) → List (Part K) → List Looked
  looked k path p run_of others [] = []
  looked k path p run_of others (x ∷ xs) = record {
    is_leaf = x.is_leaf;
    is_told = form_told w.keywords x.form;
    holds = (part_outcome w instance (completion_of as') k path p (λ e q. (run_of e q).outcome tt) (told_of others (form_told w.keywords x.form)) x.name x.form).verdict;
    met = part_met k path p run_of (told_of others (form_told w.keywords x.form)) x.name x.form;
    spanning = part_spanning k path p run_of x.name x.form;
  } ∷ looked k path p run_of others xs

  -- The entries of a plan, with what their runs meet.
  abbrev pub looked_at : Key S → Text → Place → (Edge S → Place → Run) → List (Part K) → List Looked
  looked_at k path p run_of xs = looked k path p run_of (others_span w instance (completion_of as') k path p (λ e q. (run_of e q).outcome tt) xs) xs

  -- The run of a schema at a place, given the runs of its children.
  abbrev pub run_node : Key S → Text → Place → (Edge S → Place → Run) → Run
  run_node k path p run_of = record {
    outcome = λ t. outcome_of w instance (completion_of as') k path p (λ e q. (run_of e q).outcome tt);
    units = λ t. unit_of w instance (completion_of as') k path p (λ e q. (run_of e q).outcome tt) (λ e q. (run_of e q).units tt);
    met = λ mode. elim (plan w k) [ always ↦ [] | never ↦ [] | these xs ↦ node_met mode (looked_at k path p run_of xs) ];
    spanning = elim (plan w k) [ always ↦ [] | never ↦ [] | these xs ↦ plan_spanning (looked_at k path p run_of xs) ];
  }

  -- The run of a key with references followed n deep.
  abbrev pub run : ℕ → Key S → Text → Place → Run
  run = unfolded w instance no_run run_node
