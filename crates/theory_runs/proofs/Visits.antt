-- How many guarded visits a run for the verdict counts, from one step to the next.
use Rattle.std.proofs.Common.{◌≡◌, ◌∙◌, ◌≤◌, ◌<◌, ◌==◌, ◌∷◌, ◌++◌, ℕ, zero, suc, Bool, true, false, List, [], length, get_or, map, refl, sym, ap, subst, arith}
use Rattle.std.specs.Prelude.{Option, Some, None}
use Rattle.std.specs.List.{list_any}
use Rattle.theory_definitions.specs.Keywords.{for_verdict}
use Rattle.theory_definitions.specs.Guarded.{Children, NodeEdge, NodeForm, NodePart, NodePlan, Nodes, node_always, node_keyword, node_never, node_reference}
use Rattle.schema_run_context.specs.Progress.{Context, busy_at}
use Rattle.schema_run_context.specs.Verdicts.{one_more, read_verdict}
use Rattle.schema_run_steps.specs.Askings.{Asking}
use Rattle.theory_runs.specs.Visits.{EachLeadsNowhere, EdgeCounts, EdgeTakes, FormCounts, FormLeadsNowhere, FormTakes, LeadsNowhere, NodeCounts, PartsCount, PlanCounts, PlanTakes, TakesAcross, more_visits}

module _ {K : Type 0} (nodes : Nodes K) (q : Asking) where
  -- ---- forms and plans

  -- No visit is counted if none is made.
  none_more : (c c' : Context) (n : ℕ) → c'.visits ≡ c.visits → n ≡ 0 → c'.visits ≡ more_visits n c.visits
  none_more c c' n same none = same ∙ ap (λ k. more_visits k c.visits) (sym none)

  pub keyword_counts : (c c' : Context) (m : K) (es : Children) → (LeadsNowhere es → c'.visits ≡ c.visits) → FormCounts nodes q c c' (node_keyword m es)
  keyword_counts c c' m es quiet = λ mode depth n takes. none_more c c' n (quiet takes.0) takes.1

  pub planned_counts : (c c' : Context) (i : ℕ) (plan : NodePlan K) → nodes.entries i ≡ plan → PlanCounts nodes q c c' plan → NodeCounts nodes q c c' i
  planned_counts c c' i plan is h = subst (PlanCounts nodes q c c') (sym is) h

  pub always_counts : (c c' : Context) (i : ℕ) → nodes.entries i ≡ node_always → c'.visits ≡ c.visits → NodeCounts nodes q c c' i
  always_counts c c' i is same = planned_counts c c' i node_always is (λ mode depth n takes. none_more c c' n same takes)

  pub never_counts : (c c' : Context) (i : ℕ) → nodes.entries i ≡ node_never → c'.visits ≡ c.visits → NodeCounts nodes q c c' i
  never_counts c c' i is same = planned_counts c c' i node_never is (λ mode depth n takes. none_more c c' n same takes)

  -- ---- entries, one after another

  nowhere_takes : (takes : NodeEdge → ℕ → Type 0) (form : NodeForm K) → FormLeadsNowhere form → FormTakes takes form 0
  nowhere_takes takes (node_keyword m es) h = (h, refl)
  nowhere_takes takes (node_reference e) h = absurd h

  module _ {A B : Type 0} (f : A → B) (g : B → NodePart K) where
    leads_nowhere_at : (xs : List A) (i : ℕ) (x : A) → i < length xs → x ≡ get_or xs i x → EachLeadsNowhere (map g (map f xs)) → FormLeadsNowhere (g (f x)).form
    leads_nowhere_at [] i x l is h = absurd (omega (arith, l))
    leads_nowhere_at (a ∷ xs) zero x l is h = subst (λ z. FormLeadsNowhere (g (f z)).form) (sym is) h.0
    leads_nowhere_at (a ∷ xs) (suc i) x l is h = leads_nowhere_at xs i x (omega (arith, l)) is h.1

    pub next_counts : (xs : List A) (i : ℕ) (x : A) → i < length xs → x ≡ get_or xs i x → (c before after : Context) → (i ≡ 0 → before ≡ c) → (0 < i → PartsCount nodes q c before (map g (map f xs)))
        → FormCounts nodes q before after (g (f x)).form → PartsCount nodes q c after (map g (map f xs))
    next_counts [] i x l is c before after first so_far h = absurd (omega (arith, l))
    next_counts (a ∷ xs) zero x l is c before after first so_far h = λ mode depth n takes.
        let at_first = subst (λ z. FormCounts nodes q z after (g (f x)).form) (first refl) h in
        subst (λ z. FormCounts nodes q c after (g (f z)).form) is at_first mode depth n takes.0
    next_counts (a ∷ xs) (suc i) x l is c before after first so_far h = λ mode depth n takes.
        let nowhere = leads_nowhere_at xs i x (omega (arith, l)) is takes.1 in
        h mode depth 0 (nowhere_takes _ (g (f x)).form nowhere) ∙ so_far (omega arith) mode depth n takes

    pub ended_counts : (xs : List A) (i : ℕ) → length xs ≤ i → (c after : Context) → (i ≡ 0 → after ≡ c) → (0 < i → PartsCount nodes q c after (map g (map f xs))) → PartsCount nodes q c after (map g (map f xs))
    ended_counts [] zero l c after first so_far = λ mode depth n takes. none_more c after n (ap (λ (z : Context). z.visits) (first refl)) takes
    ended_counts (a ∷ xs) zero l c after first so_far = absurd (omega (arith, l))
    ended_counts xs (suc i) l c after first so_far = so_far (omega arith)

  -- ---- edges

  module _ (c : Context) (e : NodeEdge) where
    abbrev Busy : Bool
    Busy = list_any (λ i. i == e.node) (busy_at q.place c.in_progress)

    abbrev On : ℕ → ℕ → Type 0
    On depth = PlanTakes (EdgeTakes nodes q.place c.verdicts depth c.in_progress) (nodes.entries e.node)

    abbrev Entered : ℕ → ℕ → Type 0
    Entered depth = PlanTakes (EdgeTakes nodes q.place c.verdicts depth (c.in_progress ++ (e.node, q.place) ∷ [])) (nodes.entries e.node)

    abbrev Taken : Bool → Bool → Option Bool → ℕ → ℕ → Type 0
    Taken guarded busy read depth n = TakesAcross guarded busy read (On depth) (Entered depth) n

    by_depth : (c' : Context) → (q.mode ≡ for_verdict → (depth n : ℕ) → Taken e.guarded Busy (read_verdict e.node q.place c) depth n → c'.visits ≡ more_visits n c.visits) → EdgeCounts nodes q c c' e
    by_depth c' h = λ mode depth n takes. go mode depth n takes
      where
        go : q.mode ≡ for_verdict → (depth n : ℕ) → EdgeTakes nodes q.place c.verdicts depth c.in_progress e n → c'.visits ≡ more_visits n c.visits
        go mode zero n takes = absurd takes
        go mode (suc depth) n takes = h mode depth n takes

    pub free_counts : (c' : Context) → e.guarded ≡ false → NodeCounts nodes q c c' e.node → EdgeCounts nodes q c c' e
    free_counts c' free h = by_depth c' (λ mode depth n takes. h mode depth n (subst (λ z. Taken z Busy (read_verdict e.node q.place c) depth n) free takes))

    pub busy_counts : (c' : Context) → e.guarded ≡ true → Busy ≡ true → c'.visits ≡ c.visits → EdgeCounts nodes q c c' e
    busy_counts c' guarded busy same = by_depth c' (λ mode depth n takes.
        let at_guarded = subst (λ z. Taken z Busy (read_verdict e.node q.place c) depth n) guarded takes in
        none_more c c' n same (subst (λ z. Taken true z (read_verdict e.node q.place c) depth n) busy at_guarded))

    pub read_counts : (c' : Context) (v : Bool) → e.guarded ≡ true → Busy ≡ false → read_verdict e.node q.place c ≡ Some v → c'.visits ≡ c.visits → EdgeCounts nodes q c c' e
    read_counts c' v guarded free read same = by_depth c' (λ mode depth n takes.
        let at_guarded = subst (λ z. Taken z Busy (read_verdict e.node q.place c) depth n) guarded takes in
        let at_free = subst (λ z. Taken true z (read_verdict e.node q.place c) depth n) free at_guarded in
        none_more c c' n same (subst (λ z. Taken true false z depth n) read at_free))

    pub computed_counts : (c2 c3 c' : Context) → e.guarded ≡ true → Busy ≡ false → read_verdict e.node q.place c ≡ None → c2.in_progress ≡ c.in_progress ++ (e.node, q.place) ∷ [] → c2.verdicts ≡ c.verdicts
        → c2.visits ≡ one_more c.visits → NodeCounts nodes q c2 c3 e.node → c'.visits ≡ c3.visits → EdgeCounts nodes q c c' e
    computed_counts c2 c3 c' guarded free none pairs read counted h visits = by_depth c' (λ mode depth n takes.
        let at_guarded = subst (λ z. Taken z Busy (read_verdict e.node q.place c) depth n) guarded takes in
        let at_free = subst (λ z. Taken true z (read_verdict e.node q.place c) depth n) free at_guarded in
        let (m, is, inner) = subst (λ z. Taken true false z depth n) none at_free in
        let inner' = subst (λ es. PlanTakes (EdgeTakes nodes q.place c.verdicts depth es) (nodes.entries e.node) m) (sym pairs) inner in
        let inner2 = subst (λ vs. PlanTakes (EdgeTakes nodes q.place vs depth c2.in_progress) (nodes.entries e.node) m) (sym read) inner' in
        visits ∙ h mode depth m inner2 ∙ ap (more_visits m) counted ∙ ap (λ k. more_visits k c.visits) (sym is))
