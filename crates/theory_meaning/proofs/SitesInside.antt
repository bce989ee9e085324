-- The sites that a run over numbered nodes reports lie inside the instance.
use Rattle.std.proofs.Common.{◌≡◌, ℕ, zero, suc, ◌==◌, Bool, true, false, cond, List, [], ◌∷◌, ◌++◌, refl, ap, subst, arith}
use Rattle.std.specs.Prelude.{All, Option, Some, None, unwrap_or, Contains, flat_map}
use Rattle.std.specs.List.{list_any}
use Rattle.std.proofs.lemmas.List.Elements.{All-nil, All-cons, All-append, All-contains, All-head, All-tail, Contains-append_left, Contains-append_right}
use Rattle.serde_json.specs.Data.{Data}
use Rattle.theory_definitions.specs.Instance.{Place, Subject, Text, Step}
use Rattle.theory_definitions.specs.Matching.{Assumptions, Match, Matcher, completed, completion_of, finished, unfinished}
use Rattle.theory_definitions.specs.Keywords.{Below, Keywords, MatchPoint, Marked, Mode, Question, Reply, Turn, ask, done, ecma, for_verdict, here, mark, match_text, no_reply, truth, unmark, is_spanned, Span, child_at, child_here, chosen, chosen_here, every, of_child, of_choice, one, one_accepted, one_matched, span_questions}
use Rattle.theory_definitions.specs.Meaning.{Where, place_below, told_of}
use Rattle.theory_definitions.specs.Runs.{Looked, Met, Run, Site, no_run, reply_in, site_at, turns, with_mark, without_last, is_asked, node_met, once, option_met, plan_spanning, run_accepts, span_met, spanning_met}
use Rattle.theory_definitions.specs.Cover.{Call, mode_of}
use Rattle.theory_definitions.specs.Laws.{AlwaysAsksRightly, AsksRightly, EachKeeps, IsPresent, KeepsLaws, SpotInside, steps_below, SpanInside}
use Rattle.theory_definitions.specs.Guarded.{NodeEdge, NodeForm, NodePart, NodePlan, Nodes, guarded_node, guarded_sense, guarded_within, node_always, node_asked, node_at, node_child, node_keyword, node_looked, node_never, node_part_met, node_reference, node_these, progress_below, same_edge, yes_run, node_looked_at, node_others, node_part_spanning, node_told}
use Rattle.theory_definitions.specs.Reports.{spans_nothing}
use Rattle.theory_meaning.specs.Numbered.{subject_in}
use Rattle.theory_meaning.proofs.PlanMet.{EachHas, RunHas, both_have, either_has, node_has, nothing, plan_spanning_has, without_verdict_has}
use Rattle.theory_meaning.proofs.ErrorsLead.{Stands, stands_at, stands_below}

module _ (instance : Data) where
  -- If a site has a place, the instance has a value or a name there.
  abbrev pub SiteStands : Site → Type 0
  SiteStands site = (path : Text) (place : Place) → site.located ≡ Some (path, place) → Stands instance place

  abbrev pub MetInside : Met → Type 0
  MetInside m = SiteStands m.site

  abbrev RunInside : Run → Type 0
  RunInside = RunHas MetInside

  no_run_inside : RunInside no_run
  no_run_inside = record { each = λ mode. nothing MetInside; spanning = nothing MetInside }

  located_stands : (b : Bool) (text path : Text) (q place : Place) → Stands instance q → ◌≡◌ {A = Option (Text × Place)} (cond b (Some (text, q)) None) (Some (path, place)) → Stands instance place
  located_stands true text path q place h e = subst (Stands instance) (ap (λ (o : Option (Text × Place)). (unwrap_or o (text, q)).1) e) h
  located_stands false text path q place h e = absurd (cc e)

  -- ---- a keyword

  module _ {K R : Type 0} (keywords : Keywords K R) (matcher : Matcher) (as' : Assumptions) (x : Where) (there : Stands instance x.place) (run_of : Question → Run) (others : Step → Bool) (same : Marked → Marked → Bool) (name : Text) (m : K)
      (absorbed : List Text) (laws : KeepsLaws keywords m absorbed)
      (inside : (q : Question) → Stands instance (place_below x.place q.below) → RunInside (run_of q)) where
    abbrev s : Subject
    s = subject_in instance x.place

    abbrev MetIn : ℕ → List Marked → R → Reply → List Met
    MetIn = turns keywords matcher as' x s run_of others same name m

    site_stands : (point : MatchPoint) → SpotInside s absorbed point.spot → SiteStands (site_at x name point)
    site_stands point h path place e = located_stands point.located _ path (x.place ++ point.spot.below) place (stands_below instance x.place point.spot.below there h.0) e

    turns_inside : (n : ℕ) (marks : List Marked) (r : R) (reply : Reply) → AlwaysAsksRightly keywords m s absorbed n r reply → All MetInside (MetIn n marks r reply)
    turns_inside zero marks r reply right = All-nil MetInside
    turns_inside (suc n) marks r reply right = go (keywords.step m s r reply) right.0 (λ marks' next. turns_inside n marks' (keywords.turn m s r reply) next (right.1 next))
      where
        matched : (a : Match) (marks' : List Marked) (met : Met) → MetInside met → ((next : Reply) → All MetInside (MetIn n marks' (keywords.turn m s r reply) next))
            → All MetInside (elim a [
              | finished b ↦ MetIn n marks' (keywords.turn m s r reply) (truth b)
              | unfinished reason ↦ met ∷ MetIn n marks' (keywords.turn m s r reply) (truth (completed (completion_of as') met.pair))
            ])
        matched (finished b) marks' met h rest = rest (truth b)
        matched (unfinished reason) marks' met h rest = All-cons MetInside met _ h (rest (truth (completed (completion_of as') met.pair)))

        go : (t : Turn) → AsksRightly keywords m s absorbed t → ((marks' : List Marked) (next : Reply) → All MetInside (MetIn n marks' (keywords.turn m s r reply) next))
            → All MetInside (elim t [
              | ask q mode ↦ let child = run_of q in child.met mode ++ MetIn n marks (keywords.turn m s r reply) (reply_in mode child)
              | match_text a point ↦ elim (matcher.is_match a.pattern a.subject) [
                | finished b ↦ MetIn n marks (keywords.turn m s r reply) (truth b)
                | unfinished reason ↦ record { pair = a; site = site_at x name point } ∷ MetIn n marks (keywords.turn m s r reply) (truth (completed (completion_of as') a))
              ]
              | mark i ↦ MetIn n (with_mark same i marks) (keywords.turn m s r reply) (truth (list_any (same i) marks))
              | unmark ↦ MetIn n (without_last marks) (keywords.turn m s r reply) no_reply
              | ecma text ↦ MetIn n marks (keywords.turn m s r reply) (truth (matcher.is_ecma text))
              | is_spanned step ↦ MetIn n marks (keywords.turn m s r reply) (truth (others step))
              | done ↦ []
            ])
        go (ask q mode) may rest = All-append MetInside ((run_of q).met mode) _
            ((inside q (stands_at instance x.place q.below there (All-contains (λ q'. IsPresent s (steps_below q'.below)) (keywords.may_ask m s) q (laws.present s) may))).each mode) (rest marks (reply_in mode (run_of q)))
        go (match_text a point) h rest = matched (matcher.is_match a.pattern a.subject) marks (record { pair = a; site = site_at x name point }) (site_stands point h) (rest marks)
        go (mark i) h rest = rest (with_mark same i marks) (truth (list_any (same i) marks))
        go unmark h rest = rest (without_last marks) no_reply
        go (ecma text) h rest = rest marks (truth (matcher.is_ecma text))
        go (is_spanned step) h rest = rest marks (truth (others step))
        go done h rest = nothing MetInside

  -- ---- a keyword that is run for what it spans

  module _ {K R : Type 0} (keywords : Keywords K R) (matcher : Matcher) (as' : Assumptions) (x : Where) (there : Stands instance x.place) (run_of : Question → Run) (same : Marked → Marked → Bool) (name : Text) (m : K)
      (absorbed : List Text) (laws : KeepsLaws keywords m absorbed)
      (inside : (q : Question) → Stands instance (place_below x.place q.below) → RunInside (run_of q)) where
    abbrev here_subject : Subject
    here_subject = subject_in instance x.place

    asked_inside : (q : Question) → Contains (keywords.may_ask m here_subject) q → RunInside (run_of q)
    asked_inside q may = inside q (stands_at instance x.place q.below there (All-contains (λ q'. IsPresent here_subject (steps_below q'.below)) (keywords.may_ask m here_subject) q (laws.present here_subject) may))

    abbrev Inside : List Question → Type 0
    Inside qs = (q : Question) → Contains qs q → Contains (keywords.may_ask m here_subject) q

    option_inside : (i : Option ℕ) → Inside (chosen_here i) → All MetInside (option_met keywords matcher as' x here_subject run_of same name m i)
    option_inside None h = nothing MetInside
    option_inside (Some i) h = (asked_inside (child_here i) (h (child_here i) (zero, omega arith, refl))).spanning

    chosen_inside : (verdict : Bool) (first second : Option ℕ) → Inside (chosen_here first ++ chosen_here second) → All MetInside (option_met keywords matcher as' x here_subject run_of same name m (chosen verdict first second))
    chosen_inside true first second h = option_inside first (λ q is. h q (Contains-append_left (chosen_here first) (chosen_here second) q is))
    chosen_inside false first second h = option_inside second (λ q is. h q (Contains-append_right (chosen_here first) (chosen_here second) q is))

    match_inside : (a : Match) (met : Met) → MetInside met → All MetInside (elim a [ finished b ↦ [] | unfinished reason ↦ met ∷ [] ])
    match_inside (finished b) met h = nothing MetInside
    match_inside (unfinished reason) met h = All-cons MetInside met [] h (nothing MetInside)

    span_inside : (p : Span) → Inside (span_questions p) → SpanInside here_subject absorbed p → All MetInside (span_met keywords matcher as' x here_subject run_of same name m p)
    span_inside every h s = nothing MetInside
    span_inside (one step) h s = nothing MetInside
    span_inside (one_matched a point step) h s = match_inside (matcher.is_match a.pattern a.subject) (record { pair = a; site = site_at x name point })
        (λ path place e. located_stands point.located _ path (x.place ++ point.spot.below) place (stands_below instance x.place point.spot.below there s.0) e)
    span_inside (one_accepted i step) h s = (asked_inside (child_at i step) (h (child_at i step) (zero, omega arith, refl))).each for_verdict
    span_inside (of_child i) h s = (asked_inside (child_here i) (h (child_here i) (zero, omega arith, refl))).spanning
    span_inside (of_choice i first second) h s = both_have MetInside _ _ (asked_inside (child_here i) (h (child_here i) (zero, omega arith, refl))).spanning
        (chosen_inside (run_accepts keywords matcher as' x here_subject run_of same name m (child_here i)) first second (λ q is. h q (Contains-append_right (child_here i ∷ []) (chosen_here first ++ chosen_here second) q is)))

    spans_inside : (ps : List Span) → All (λ p. All (Contains (keywords.may_ask m here_subject)) (span_questions p)) ps → All (SpanInside here_subject absorbed) ps
        → All MetInside (flat_map (span_met keywords matcher as' x here_subject run_of same name m) ps)
    spans_inside [] h s = nothing MetInside
    spans_inside (p ∷ ps) h s = both_have MetInside _ _
        (span_inside p (λ q is. All-contains (Contains (keywords.may_ask m here_subject)) (span_questions p) q (All-head (λ p. All (Contains (keywords.may_ask m here_subject)) (span_questions p)) p ps h) is) (All-head (SpanInside here_subject absorbed) p ps s))
        (spans_inside ps (All-tail (λ p. All (Contains (keywords.may_ask m here_subject)) (span_questions p)) p ps h) (All-tail (SpanInside here_subject absorbed) p ps s))

    spanning_inside : All MetInside (spanning_met keywords matcher as' x here_subject run_of same name m)
    spanning_inside = both_have MetInside _ _ (spans_inside (keywords.spans m here_subject) (laws.spans_read here_subject) (laws.spans_stand here_subject))
        (turns_inside keywords matcher as' x there (once keywords matcher as' x here_subject run_of same name m) spans_nothing same name m absorbed laws
        (λ q at_q. without_verdict_has MetInside (is_asked keywords matcher as' x here_subject run_of same name m q) (run_of q) (inside q at_q)) (keywords.most_turns m here_subject) [] (keywords.begin m here_subject for_verdict) no_reply (laws.asks here_subject for_verdict))

  -- ---- numbered nodes

  module _ {K R : Type 0} (keywords : Keywords K R) (each : EachKeeps keywords) (matcher : Matcher) (nodes : Nodes K) (as' : Assumptions) where
    module _ (i : ℕ) (path : Text) (p : Place) (there : Stands instance p) (go : NodeEdge → Below → Run) (inside : (e : NodeEdge) (b : Below) → Stands instance (place_below p b) → RunInside (go e b)) where
      edge_inside : (o : Option NodeEdge) (b : Below) → Stands instance (place_below p b) → RunInside (elim o [ None ↦ no_run | Some e ↦ go e b ])
      edge_inside None b at_b = no_run_inside
      edge_inside (Some e) b at_b = inside e b at_b

      form_inside : (others : Step → Bool) (name : Text) (form : NodeForm K) (mode : Mode) → All MetInside (node_part_met keywords matcher nodes (subject_in instance) as' i path p go others name form mode)
      form_inside others name (node_keyword m es) mode =
          let (absorbed, laws) = each m in
          turns_inside keywords matcher as' (node_at keywords matcher nodes (subject_in instance) i path p) there (node_asked keywords matcher nodes (subject_in instance) no_run es go) others (same_edge es) name m absorbed laws
          (λ q at_q. edge_inside (node_child es q.child) q.below at_q) (keywords.most_turns m (subject_in instance p)) [] (keywords.begin m (subject_in instance p) mode) no_reply (laws.asks (subject_in instance p) mode)
      form_inside others name (node_reference e) mode = (inside e here there).each mode

      form_spans : (name : Text) (form : NodeForm K) → All MetInside (node_part_spanning keywords matcher nodes (subject_in instance) as' i path p go name form)
      form_spans name (node_keyword m es) =
          let (absorbed, laws) = each m in
          spanning_inside keywords matcher as' (node_at keywords matcher nodes (subject_in instance) i path p) there (node_asked keywords matcher nodes (subject_in instance) no_run es go) (same_edge es) name m absorbed laws
          (λ q at_q. edge_inside (node_child es q.child) q.below at_q)
      form_spans name (node_reference e) = (inside e here there).spanning

      each_inside : (others : Step → Bool) (xs : List (NodePart K)) → EachHas MetInside (node_looked keywords matcher nodes (subject_in instance) as' i path p go others xs)
      each_inside others [] = tt
      each_inside others (x ∷ xs) = (form_inside (told_of others (node_told keywords x.form)) x.name x.form, form_spans x.name x.form, each_inside others xs)

      node_inside : RunInside (guarded_node keywords matcher nodes (subject_in instance) as' i path p go)
      node_inside = record { each = λ mode. by (node_met mode) (node_has MetInside mode) (nodes.entries i); spanning = by plan_spanning (plan_spanning_has MetInside) (nodes.entries i) }
        where
          by : (answer : List Looked → List Met) → ((ls : List Looked) → EachHas MetInside ls → All MetInside (answer ls))
              → (o : NodePlan K) → All MetInside (elim o [ node_always ↦ [] | node_never ↦ [] | node_these xs ↦ answer (node_looked_at keywords matcher nodes (subject_in instance) as' i path p go xs) ])
          by answer has node_always = nothing MetInside
          by answer has node_never = nothing MetInside
          by answer has (node_these xs) = has (node_looked_at keywords matcher nodes (subject_in instance) as' i path p go xs) (each_inside (node_others keywords matcher nodes (subject_in instance) (completion_of as') i path p (λ e b. (go e b).outcome tt) xs) xs)

    yes_inside : (i : ℕ) (path : Text) (p : Place) → RunInside (yes_run nodes i path p)
    yes_inside i path p = record { each = λ mode. nothing MetInside; spanning = nothing MetInside }

    within_inside : (n i : ℕ) (path : Text) (p : Place) (busy : List ℕ) → Stands instance p → RunInside (guarded_within (yes_run nodes) (guarded_node keywords matcher nodes (subject_in instance) as') n i path p busy)
    within_inside zero i path p busy there = yes_inside i path p
    within_inside (suc n) i path p busy there = node_inside i path p there _ (λ e b at_b. either_has MetInside e.guarded
        (either_has MetInside (list_any (λ j. j == e.node) (progress_below busy b)) (yes_inside e.node (path ++ e.path) (place_below p b)) (within_inside n e.node (path ++ e.path) (place_below p b) (e.node ∷ progress_below busy b) at_b))
        (within_inside n e.node (path ++ e.path) (place_below p b) (progress_below busy b) at_b))

  -- Each site that a run of a call reports lies inside the instance.
  pub sites_inside : {K R : Type 0} (keywords : Keywords K R) → EachKeeps keywords → (matcher : Matcher) (nodes : Nodes K) (n root : ℕ) (call : Call) (as' : Assumptions)
      → All MetInside ((guarded_sense keywords matcher nodes (subject_in instance) n root).meets call as')
  sites_inside keywords each matcher nodes n root call as' = (within_inside keywords each matcher nodes as' n root [] [] [] refl).each (mode_of call as')
