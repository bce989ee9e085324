-- What a run remembers of verdicts, from one step to the next.
use Rattle.std.proofs.Common.{◌≡◌, ◌∙◌, ◌+◌, ◌≤◌, ◌<◌, ◌==◌, ◌∷◌, ◌++◌, ℕ, zero, suc, Bool, true, false, List, [], length, get_or, map, refl, sym, ap, subst, arith, ⊎_elim}
use Rattle.std.specs.Prelude.{Option, Some, None}
use Rattle.std.specs.List.{list_any}
use Rattle.theory_definitions.specs.Keywords.{Mode, for_verdict}
use Rattle.theory_definitions.specs.Matching.{Match}
use Rattle.theory_definitions.specs.Runs.{Met}
use Rattle.theory_definitions.specs.Guarded.{NodeEdge, NodeForm, NodePart, NodePlan, Nodes, node_reference, node_these}
use Rattle.theory_definitions.specs.Remembering.{EachAsksVerdicts}
use Rattle.theory_definitions.specs.Unfinished.{Remembered}
use Rattle.schema_run_context.specs.Matches.{after_match, settling}
use Rattle.theory_runs.specs.NodeMeets.{NodeMeets}
use Rattle.schema_run_steps.specs.NodeRuns.{NodeReplies}
use Rattle.schema_run_context.specs.Progress.{Context, busy_at}
use Rattle.theory_runs.specs.RightVerdicts.{AreRight, IsRightVerdict, Layout}
use Rattle.schema_run_steps.specs.Askings.{Asking}
use Rattle.theory_runs.specs.RunStates.{EdgeRemembers, EdgeSays, FormRemembers, GoesOn, Keeps, MeetsEdge, MeetsNode, NodeRemembers, NodeSays, PartsRemember, RemembersRightly, Setting, StaysRight}
use Rattle.schema_run_context.specs.Verdicts.{MayKeep, Remembers, is_alone, least_visits, one_more, read_verdict, verdict_of}
use Rattle.schema_traits.specs.declared.keyword.Reply as code
use Rattle.schema_traits.specs.declared.keyword.Reply.TheVariants as told
use Rattle.schema_run_context.proofs.Matches.{after_assumes}
use Rattle.theory_runs.proofs.RightVerdicts.{alone_entered, alone_is_none, computed_right, kept_or_not, read_alone, read_entered, read_meets, read_replies, right_after_match, right_kept}
use Rattle.theory_runs.proofs.NodeMeets.{meets_entered}
use Rattle.schema_run_steps.proofs.NodeRuns.{edge_entered}
use Rattle.schema_run_context.proofs.Pairs.{busy-pushed, snoc_first}

-- If nothing has changed, then nothing except the work has.
but_for_work : (c c' : Context) → c' ≡ c → c' ≡ record c { work = c'.work }
but_for_work c c' e = subst (λ (z : Context). z ≡ record c { work = z.work }) (sym e) refl

module _ {K R : Type 0} (g : Setting K R) (layout : Layout) where
  -- Nothing that matters has changed.
  pub right_same : (c c' : Context) → c'.remembered ≡ c.remembered → c'.verdicts ≡ c.verdicts → RemembersRightly g layout c → RemembersRightly g layout c'
  right_same c c' e f h =
      subst (λ vs. AreRight g.words g.is_whole g.nodes g.count g.matcher c'.remembered.assumptions c'.remembered layout vs) (sym f)
      (subst (λ r. AreRight g.words g.is_whole g.nodes g.count g.matcher r.assumptions r layout c.verdicts) (sym e) h)

  -- A match was requested.
  pub right_matched : (c c' : Context) (m : Met) (answer : Match) → g.matcher.is_match m.pair.pattern m.pair.subject ≡ answer → c'.verdicts ≡ c.verdicts
      → c'.remembered ≡ after_match c.remembered m answer → RemembersRightly g layout c → RemembersRightly g layout c'
  right_matched c c' m answer is f e h =
      let after = after_match c.remembered m answer in
      let met = right_after_match g.words g.is_whole g.nodes g.count g.matcher c.remembered.assumptions c.remembered layout c.verdicts m answer is h in
      let met' : AreRight g.words g.is_whole g.nodes g.count g.matcher after.assumptions after layout c.verdicts
      = subst (λ as'. AreRight g.words g.is_whole g.nodes g.count g.matcher as' after layout c.verdicts) (sym (after_assumes c.remembered m answer)) met in
      subst (λ vs. AreRight g.words g.is_whole g.nodes g.count g.matcher c'.remembered.assumptions c'.remembered layout vs) (sym f)
      (subst (λ r. AreRight g.words g.is_whole g.nodes g.count g.matcher r.assumptions r layout c.verdicts) (sym e) met')

-- ---- the entries of a node with only one entry, the one at work

pub alone_remembers : {A B K : Type 0} (q : Asking) (f : A → B) (g : B → NodePart K) (xs : List A) (i : ℕ) (x : A) → i < length xs → x ≡ get_or xs i x → (c before after : Context) (r : code.Reply)
    → (i ≡ 0 → before ≡ c) → FormRemembers q before after (g (f x)).form r → PartsRemember q c after (map g (map f xs)) r
alone_remembers q f g [] i x l is c before after r first h = absurd (omega (arith, l))
alone_remembers q f g (a ∷ b ∷ xs) i x l is c before after r first h = λ y only. absurd (let z : ⊥ = cc in z)
alone_remembers q f g (a ∷ []) (suc i) x l is c before after r first h = absurd (omega (arith, l))
alone_remembers {A = A} q f g (a ∷ []) zero x l is c before after r first h = λ y only e form.
    let h' = subst (λ z. FormRemembers q z after (g (f x)).form r) (first refl) h in
    let is_y : g (f a) ≡ y = cc in
    h' e (ap (λ (z : A). (g (f z)).form) is ∙ ap (λ z. z.form) is_y ∙ form)

-- After all entries are done: there was only one, or there is none.
pub ended_remembers : {A B K : Type 0} (q : Asking) (f : A → B) (g : B → NodePart K) (xs : List A) (i : ℕ) → length xs ≤ i → (c after : Context) (r : code.Reply)
    → (0 < i → PartsRemember q c after (map g (map f xs)) r) → PartsRemember q c after (map g (map f xs)) r
ended_remembers q f g [] i l c after r h = λ y only. absurd (let z : ⊥ = cc in z)
ended_remembers q f g (a ∷ xs) i l c after r h = h (omega (arith, l))

-- A reference.
pub reference_remembers : {K : Type 0} (q : Asking) (c after : Context) (e : NodeEdge) (form : NodeForm K) (r : code.Reply) → form ≡ node_reference e → EdgeRemembers q c after e r → FormRemembers q c after form r
reference_remembers {K = K} q c after e form r is h = λ e' is'. subst (λ z. EdgeRemembers q c after z r) (reference_same e e' (sym is ∙ is')) h
  where
    reference_same : (a b : NodeEdge) → ◌≡◌ {A = NodeForm K} (node_reference a) (node_reference b) → a ≡ b
    reference_same a b h = cc

-- A node, by its plan.
pub planned_remembers : {K : Type 0} (q : Asking) (c after : Context) (nodes : Nodes K) (i : ℕ) (xs : List (NodePart K)) (r : code.Reply) → nodes.entries i ≡ node_these xs → PartsRemember q c after xs r → NodeRemembers q c after nodes i r
planned_remembers {K = K} q c after nodes i xs r plan h = λ ys is.
    let same : xs ≡ ys = parts_same xs ys (sym plan ∙ is) in
    subst (λ z. PartsRemember q c after z r) same h
  where
    parts_same : (xs ys : List (NodePart K)) → ◌≡◌ {A = NodePlan K} (node_these xs) (node_these ys) → xs ≡ ys
    parts_same xs ys h = cc

-- ---- a guarded edge whose pair is not in progress

module _ {K R : Type 0} (g : Setting K R) (q : Asking) (e : NodeEdge) (c : Context) (guarded : e.guarded ≡ true) (free : list_any (λ i. i == e.node) (busy_at q.place c.in_progress) ≡ false) where
  -- The question that is asked across it.
  abbrev pub asked_across : Asking
  asked_across = record { subject = q.subject; place = q.place; path = q.path ++ e.path; mode = q.mode }

  abbrev Here : List ℕ → Mode → code.Reply → Type 0
  Here busy mode r = NodeReplies g.words g.is_whole g.nodes g.count (settling g.matcher c.remembered.assumptions) mode (q.path ++ e.path) q.place busy q.subject e.node r

  abbrev MeetsHere : List ℕ → Mode → Remembered → Remembered → Type 0
  MeetsHere busy mode old new = NodeMeets g.words g.is_whole g.nodes g.count (settling g.matcher c.remembered.assumptions) mode (q.path ++ e.path) q.place busy q.subject old new e.node

  busy_now : (c1 : Context) → c1.in_progress ≡ c.in_progress ++ (e.node, q.place) ∷ [] → busy_at q.place c1.in_progress ≡ e.node ∷ busy_at q.place c.in_progress
  busy_now c1 pairs = ap (busy_at q.place) pairs ∙ busy-pushed q.place e.node c.in_progress

  alone_now : (c1 : Context) → c1.in_progress ≡ c.in_progress ++ (e.node, q.place) ∷ [] → is_alone e.node q.place c1.in_progress ≡ true → busy_at q.place c.in_progress ≡ []
  alone_now c1 pairs alone = alone_is_none e.node q.place c.in_progress (sym (alone_entered e.node q.place c.in_progress) ∙ sym (ap (is_alone e.node q.place) pairs) ∙ alone) free

  pub pairs_back : (c1 c5 : Context) → c1.in_progress ≡ c.in_progress ++ (e.node, q.place) ∷ [] → c1.in_progress ≡ c5.in_progress ++ (e.node, q.place) ∷ [] → c5.in_progress ≡ c.in_progress
  pairs_back c1 c5 pairs left = (snoc_first c5.in_progress c.in_progress (e.node, q.place) (e.node, q.place) (sym left ∙ pairs)).0

  -- ---- what is computed after the pair is entered

  module _ (c2 : Context) (pairs : c2.in_progress ≡ c.in_progress ++ (e.node, q.place) ∷ []) (met : c2.remembered ≡ c.remembered) where
    said_here : (r : code.Reply) → NodeSays g asked_across c2 e.node r → Here (e.node ∷ busy_at q.place c.in_progress) q.mode r
    said_here r says =
        subst (λ b. Here b q.mode r) (busy_now c2 pairs)
        (subst (λ z. NodeReplies g.words g.is_whole g.nodes g.count (settling g.matcher z.assumptions) q.mode (q.path ++ e.path) q.place (busy_at q.place c2.in_progress) q.subject e.node r) met says)

    met_here : (c3 : Context) → MeetsNode g asked_across c2 c3 e.node → MeetsHere (e.node ∷ busy_at q.place c.in_progress) q.mode c.remembered c3.remembered
    met_here c3 meets =
        subst (λ b. MeetsHere b q.mode c.remembered c3.remembered) (busy_now c2 pairs)
        (subst (λ z. NodeMeets g.words g.is_whole g.nodes g.count (settling g.matcher z.assumptions) q.mode (q.path ++ e.path) q.place (busy_at q.place c2.in_progress) q.subject z c3.remembered e.node) met meets)

    pub computed_says : (r : code.Reply) → NodeSays g asked_across c2 e.node r → EdgeSays g q c e r
    computed_says r says = edge_entered g.words g.is_whole g.nodes g.count (settling g.matcher c.remembered.assumptions) q.subject (busy_at q.place c.in_progress) e q.mode q.path q.place r guarded free (said_here r says)

    pub computed_meets : (c3 c5 : Context) → MeetsNode g asked_across c2 c3 e.node → c5.remembered ≡ c3.remembered → MeetsEdge g q c c5 e
    computed_meets c3 c5 meets met5 = meets_entered g.words g.is_whole g.nodes g.count (settling g.matcher c.remembered.assumptions) q.subject (busy_at q.place c.in_progress) e q.mode q.path q.place c.remembered c5.remembered guarded free
        (subst (MeetsHere (e.node ∷ busy_at q.place c.in_progress) q.mode c.remembered) (sym met5) (met_here c3 meets))

    pub computed_stays : (c3 c5 : Context) → c2.verdicts ≡ c.verdicts → StaysRight g asked_across c2 c3 → c5.remembered ≡ c3.remembered → c5.verdicts ≡ c3.verdicts → StaysRight g q c c5
    computed_stays c3 c5 read stays met5 read5 layout laid right = right_same g layout c3 c5 met5 read5 (stays layout laid (right_same g layout c c2 met read right))

  -- ---- for the verdict

  module _ (wanted : q.mode ≡ for_verdict) where
    -- A verdict that is read.

    module _ (c1 c5 : Context) (v : Bool) (pairs : c1.in_progress ≡ c.in_progress ++ (e.node, q.place) ∷ []) (read : c1.verdicts ≡ c.verdicts) (found : read_verdict e.node q.place c1 ≡ Some v) where
      pub read_now : read_verdict e.node q.place c ≡ Some v
      read_now = sym (read_entered e.node q.place c c1 pairs read) ∙ found

      none_busy : busy_at q.place c.in_progress ≡ []
      none_busy = alone_is_none e.node q.place c.in_progress (read_alone e.node q.place c v read_now).0 free

      its_right : GoesOn g q c → IsRightVerdict g.words g.is_whole g.nodes g.count g.matcher c.remembered.assumptions c.remembered e.node q.place q.subject v
      its_right (layout, laid, right) =
          subst (λ z. IsRightVerdict g.words g.is_whole g.nodes g.count g.matcher c.remembered.assumptions c.remembered e.node q.place z v) laid.here
          (right e.node q.place v (read_alone e.node q.place c v read_now).1)

      pub read_says : GoesOn g q c → EdgeSays g q c e (told.Truth v)
      read_says goes_on =
          let said : Here (e.node ∷ []) for_verdict (told.Truth v) = read_replies g.words g.is_whole g.nodes g.count g.matcher c.remembered.assumptions c.remembered e.node q.place q.subject v (its_right goes_on) (q.path ++ e.path) (told.Truth v) (λ texts. refl) refl in
          let said' : Here (e.node ∷ busy_at q.place c.in_progress) q.mode (told.Truth v) = subst (λ m. Here (e.node ∷ busy_at q.place c.in_progress) m (told.Truth v)) (sym wanted) (subst (λ b. Here (e.node ∷ b) for_verdict (told.Truth v)) (sym none_busy) said) in
          edge_entered g.words g.is_whole g.nodes g.count (settling g.matcher c.remembered.assumptions) q.subject (busy_at q.place c.in_progress) e q.mode q.path q.place (told.Truth v) guarded free said'

      pub read_meets_edge : GoesOn g q c → c5.remembered ≡ c.remembered → MeetsEdge g q c c5 e
      read_meets_edge goes_on met =
          let here : MeetsHere (e.node ∷ []) for_verdict c.remembered c.remembered = read_meets g.words g.is_whole g.nodes g.count g.matcher c.remembered.assumptions c.remembered e.node q.place q.subject v (its_right goes_on) (q.path ++ e.path) in
          let here' : MeetsHere (e.node ∷ busy_at q.place c.in_progress) q.mode c.remembered c5.remembered
          = subst (MeetsHere (e.node ∷ busy_at q.place c.in_progress) q.mode c.remembered) (sym met) (subst (λ m. MeetsHere (e.node ∷ busy_at q.place c.in_progress) m c.remembered c.remembered) (sym wanted) (subst (λ b. MeetsHere (e.node ∷ b) for_verdict c.remembered c.remembered) (sym none_busy) here)) in
          meets_entered g.words g.is_whole g.nodes g.count (settling g.matcher c.remembered.assumptions) q.subject (busy_at q.place c.in_progress) e q.mode q.path q.place c.remembered c5.remembered guarded free here'

      some_same : (a b : Bool) → ◌≡◌ {A = Option Bool} (Some a) (Some b) → a ≡ b
      some_same a b h = cc

      pub read_remembers : c5 ≡ c → EdgeRemembers q c c5 e (told.Truth v)
      read_remembers same mode guarded' free' = record {
        verdict = v;
        told = λ texts. refl;
        read = λ v' h. (some_same v' v (sym h ∙ read_now), but_for_work c c5 same);
        counted = λ none. absurd (cc (sym none ∙ read_now));
        kept = λ none may. absurd (cc (sym none ∙ read_now));
      }

    -- A verdict that is computed, and kept if it may be.

    module _ (c1 c2 c3 c4 c5 : Context) (mark : ℕ) (v : Bool) (pairs : c2.in_progress ≡ c.in_progress ++ (e.node, q.place) ∷ []) (met : c2.remembered ≡ c.remembered)
        (says : NodeSays g asked_across c2 e.node (told.Truth v)) (meets : MeetsNode g asked_across c2 c3 e.node) (keeps : Keeps c2 c3) (asks : (texts : Bool) → EachAsksVerdicts (g.words texts))
        (kept : MayKeep e.node q.place q.subject mark c3 → Remembers e.node q.place v c3.verdicts c4.verdicts) where
      pairs3 : c3.in_progress ≡ c.in_progress ++ (e.node, q.place) ∷ []
      pairs3 = keeps.in_progress ∙ pairs

      -- The kept verdict is right.
      kept_right : MayKeep e.node q.place q.subject mark c3 → IsRightVerdict g.words g.is_whole g.nodes g.count g.matcher c3.remembered.assumptions c3.remembered e.node q.place q.subject v
      kept_right may =
          let none = alone_now c3 pairs3 may.alone in
          let said : Here (e.node ∷ []) for_verdict (told.Truth v) = subst (λ b. Here (e.node ∷ b) for_verdict (told.Truth v)) none (subst (λ m. Here (e.node ∷ busy_at q.place c.in_progress) m (told.Truth v)) wanted (said_here c2 pairs met (told.Truth v) says)) in
          let here : MeetsHere (e.node ∷ []) for_verdict c.remembered c3.remembered = subst (λ b. MeetsHere (e.node ∷ b) for_verdict c.remembered c3.remembered) none (subst (λ m. MeetsHere (e.node ∷ busy_at q.place c.in_progress) m c.remembered c3.remembered) wanted (met_here c2 pairs met c3 meets)) in
          let right = computed_right g.words g.is_whole g.nodes g.count g.matcher asks c.remembered.assumptions c.remembered c3.remembered e.node q.place q.subject (q.path ++ e.path) (told.Truth v) v (λ texts. refl) said here in
          subst (λ z. IsRightVerdict g.words g.is_whole g.nodes g.count g.matcher z c3.remembered e.node q.place q.subject v) (sym (keeps.assumptions ∙ ap (λ (z : Remembered). z.assumptions) met)) right

      pub kept_stays : c2.verdicts ≡ c.verdicts → StaysRight g asked_across c2 c3 → (¬ MayKeep e.node q.place q.subject mark c3 → c4 ≡ c3) → c4.remembered ≡ c3.remembered
          → c5.remembered ≡ c4.remembered → c5.verdicts ≡ c4.verdicts → StaysRight g q c c5
      kept_stays read stays few met4 met5 read5 layout laid right =
          let right3 = stays layout laid (right_same g layout c c2 met read right) in
          let with_kept : MayKeep e.node q.place q.subject mark c3 → RemembersRightly g layout c4 = λ may.
          subst (λ z. AreRight g.words g.is_whole g.nodes g.count g.matcher z.assumptions z layout c4.verdicts) (sym met4)
          (right_kept g.words g.is_whole g.nodes g.count g.matcher c3.remembered.assumptions c3.remembered layout c3.verdicts c4.verdicts e.node q.place v (kept may)
          (subst (λ z. IsRightVerdict g.words g.is_whole g.nodes g.count g.matcher c3.remembered.assumptions c3.remembered e.node q.place z v) (sym laid.here) (kept_right may)) right3) in
          let right4 = ⊎_elim with_kept (λ no. subst (RemembersRightly g layout) (sym (few no)) right3) (kept_or_not e.node q.place q.subject mark c3) in
          right_same g layout c4 c5 met5 read5 right4

      pub kept_remembers : c1.in_progress ≡ c.in_progress ++ (e.node, q.place) ∷ [] → c1.verdicts ≡ c.verdicts → read_verdict e.node q.place c1 ≡ None → mark ≡ c.visits → c5.in_progress ≡ c.in_progress
          → c5.visits ≡ c3.visits → one_more c.visits ≤ c3.visits → c5.verdicts ≡ c4.verdicts → EdgeRemembers q c c5 e (told.Truth v)
      kept_remembers pairs1 read1 none at_mark back visits more read5 mode guarded' free' =
          let none_read : read_verdict e.node q.place c ≡ None = sym (read_entered e.node q.place c c1 pairs1 read1) ∙ none in
          record {
            verdict = v;
            told = λ texts. refl;
            read = λ v h. absurd (cc (sym none_read ∙ h));
            counted = λ none'. subst (λ z. one_more c.visits ≤ z) (sym visits) more;
            kept = λ none' may.
                let may3 : MayKeep e.node q.place q.subject mark c3 = record {
                  container = may.container;
                  alone = ap (is_alone e.node q.place) pairs3 ∙ alone_entered e.node q.place c.in_progress ∙ sym (ap (is_alone e.node q.place) back) ∙ may.alone;
                  enough = subst (λ z. z + least_visits ≤ c3.visits) (sym at_mark) (subst (λ z. c.visits + least_visits ≤ z) visits may.enough);
                } in
                ap (verdict_of e.node q.place) read5 ∙ (kept may3).its;
          }
