-- What frames give, as tasks and frames are added.
use Rattle.std.proofs.Common.{◌≡◌, List, [], ◌∷◌, ◌++◌, length, append_assoc, append-nil, refl, ap, sym, ◌∙◌}
use Rattle.std.specs.Prelude.{◌⊎◌}
use Rattle.std.proofs.Common.{inl, inr}
use Rattle.std.proofs.lemmas.Grind.{flat_map-append}
use Rattle.pattern_backtracking.specs.declared.frames.Task.{Task}
use Rattle.pattern_backtracking.specs.declared.frames.Frame.{Frame}
use Rattle.pattern_trees.specs.Matching.{Chars, State}
use Rattle.pattern_backtracking.specs.Counting.{step, gives, Trace, after, onward, stepping, ended}
use Rattle.pattern_backtracking.specs.Piles.{state, done, runs, whole, frame_trace, pile_trace}

pub pile-push : (s : Chars) (fs : List Frame) (f : Frame) → pile_trace s (fs ++ f ∷ []) ≡ frame_trace s f ++ pile_trace s fs
unfolding pile_trace
pile-push s [] f = sym (append-nil (frame_trace s f))
pile-push s (g ∷ gs) f =
    ap (λ e. e ++ frame_trace s g) (pile-push s gs f) ∙ append_assoc (frame_trace s f) (pile_trace s gs) (frame_trace s g)

runs-append : (s : Chars) (ts : List Task) (e d : Trace) → runs s ts (e ++ d) ≡ runs s ts e ++ runs s ts d
unfolding runs
runs-append s [] e d = refl
runs-append s (t ∷ ts) e d =
    ap (after (stepping (done s t))) (runs-append s ts e d) ∙ flat_map-append (onward (stepping (done s t))) (runs s ts e) (runs s ts d)

pub whole-append : (s : Chars) (ts : List Task) (e d : Trace) → whole s ts (e ++ d) ≡ whole s ts e ++ whole s ts d
unfolding whole
whole-append s ts e d = ap (after ended) (runs-append s ts e d) ∙ flat_map-append (onward ended) (runs s ts e) (runs s ts d)

runs-none : (s : Chars) (ts : List Task) → runs s ts [] ≡ []
unfolding runs
runs-none s [] = refl
runs-none s (t ∷ ts) = ap (after (stepping (done s t))) (runs-none s ts)

pub whole-none : (s : Chars) (ts : List Task) → whole s ts [] ≡ []
unfolding whole
whole-none s ts = ap (after ended) (runs-none s ts)

runs-step : (s : Chars) (ts : List Task) (e : Trace) → runs s ts (step ∷ e) ≡ step ∷ runs s ts e
unfolding runs
runs-step s [] e = refl
runs-step s (t ∷ ts) e = ap (after (stepping (done s t))) (runs-step s ts e)

-- a step comes before what follows it
pub whole-step : (s : Chars) (ts : List Task) (e : Trace) → whole s ts (step ∷ e) ≡ step ∷ whole s ts e
unfolding whole
whole-step s ts e = ap (after ended) (runs-step s ts e)

runs-snoc : (s : Chars) (ts : List Task) (t : Task) (e : Trace) → runs s (ts ++ t ∷ []) e ≡ runs s ts (after (stepping (done s t)) e)
unfolding runs
runs-snoc s [] t e = refl
runs-snoc s (u ∷ ts) t e = ap (after (stepping (done s u))) (runs-snoc s ts t e)

pub whole-snoc : (s : Chars) (ts : List Task) (t : Task) (e : Trace) → whole s (ts ++ t ∷ []) e ≡ whole s ts (after (stepping (done s t)) e)
unfolding whole
whole-snoc s ts t e = ap (after ended) (runs-snoc s ts t e)

pub whole-one : (s : Chars) (ts : List Task) (t : Task) (x : State) → whole s (ts ++ t ∷ []) (gives x ∷ []) ≡ whole s ts (step ∷ done s t x)
whole-one s ts t x = whole-snoc s ts t (gives x ∷ []) ∙ ap (whole s ts) (append-nil (step ∷ done s t x))

pub pushed-task : (s : Chars) (ts us : List Task) (t : Task) (e rest : Trace) → us ≡ ts ++ t ∷ [] → whole s us e ++ rest ≡ whole s ts (after (stepping (done s t)) e) ++ rest
pushed-task s ts us t e rest h = ap (λ vs. whole s vs e ++ rest) h ∙ ap (λ d. d ++ rest) (whole-snoc s ts t e)

pub pushed-one : (s : Chars) (ts us : List Task) (t : Task) (x : State) (rest : Trace) → us ≡ ts ++ t ∷ [] → whole s us (gives x ∷ []) ++ rest ≡ whole s ts (step ∷ done s t x) ++ rest
pushed-one s ts us t x rest h = ap (λ vs. whole s vs (gives x ∷ []) ++ rest) h ∙ ap (λ d. d ++ rest) (whole-one s ts t x)

pub nothing : (s : Chars) (ts : List Task) (e rest : Trace) → e ≡ [] → rest ≡ whole s ts e ++ rest
nothing s ts e rest h = ap (λ d. d ++ rest) (sym (whole-none s ts)) ∙ ap (λ d. whole s ts d ++ rest) (sym h)

pub in-turn : (s : Chars) (ts : List Task) (e d rest mid new : Trace) → mid ≡ whole s ts d ++ rest → new ≡ whole s ts e ++ mid → new ≡ whole s ts (e ++ d) ++ rest
in-turn s ts e d rest mid new h k =
    k ∙ ap (λ b. whole s ts e ++ b) h ∙ sym (append_assoc (whole s ts e) (whole s ts d) rest) ∙ ap (λ b. b ++ rest) (sym (whole-append s ts e d))

pub same-whole : (s : Chars) (ts : List Task) (e d rest : Trace) → e ≡ d → whole s ts e ++ rest ≡ whole s ts d ++ rest
same-whole s ts e d rest h = ap (λ b. whole s ts b ++ rest) h

pub pile-start : (s : Chars) (ts : List Task) (fs : List Frame) (e : Trace) → ts ≡ [] → fs ≡ [] → whole s ts e ++ pile_trace s fs ≡ after ended e
unfolding whole runs pile_trace
pile-start s ts fs e h k = ap (λ us. whole s us e ++ pile_trace s fs) h ∙ ap (λ gs. after ended e ++ pile_trace s gs) k ∙ append-nil (after ended e)

pub pile-empty : (s : Chars) → pile_trace s [] ≡ []
unfolding pile_trace
pile-empty s = refl

pub pile-found : (s : Chars) (fs gs : List Frame) (f : Frame) → gs ≡ fs ++ f ∷ [] → f.tasks.items ≡ [] →
    pile_trace s gs ≡ step ∷ (gives (state f.place f.captures.items) ∷ pile_trace s fs)
unfolding whole runs
pile-found s fs gs f e d =
    ap (pile_trace s) e ∙ pile-push s fs f ∙ ap (λ ts. whole s ts (gives (state f.place f.captures.items) ∷ []) ++ pile_trace s fs) d

pub pile-task : (s : Chars) (fs gs : List Frame) (f : Frame) (ts : List Task) (t : Task) → gs ≡ fs ++ f ∷ [] → f.tasks.items ≡ ts ++ t ∷ [] →
    pile_trace s gs ≡ step ∷ (whole s ts (done s t (state f.place f.captures.items)) ++ pile_trace s fs)
pile-task s fs gs f ts t e d =
    ap (pile_trace s) e ∙ pile-push s fs f
    ∙ pushed-one s ts f.tasks.items t (state f.place f.captures.items) (pile_trace s fs) d
    ∙ ap (λ b. b ++ pile_trace s fs) (whole-step s ts (done s t (state f.place f.captures.items)))

pub none-left : {A : Type 0} (xs : List A) → length xs ≡ 0 → xs ≡ []
none-left [] e = refl
none-left (x ∷ xs) e = cc

-- tasks at a state begin with a step, if there are any
Begins : Trace → State → Type 0
Begins e x = (e ≡ gives x ∷ []) ⊎ ((d : Trace) × (e ≡ step ∷ d))

begins-more : (s : Chars) (t : Task) (e : Trace) (x : State) → Begins e x → Begins (after (stepping (done s t)) e) x
unfolding Begins
begins-more s t e x (inl h) = inr (done s t x ++ [], ap (after (stepping (done s t))) h)
begins-more s t e x (inr (d, h)) = inr (after (stepping (done s t)) d, ap (after (stepping (done s t))) h)

runs-begin : (s : Chars) (ts : List Task) (x : State) → Begins (runs s ts (gives x ∷ [])) x
unfolding runs Begins
runs-begin s [] x = inl refl
runs-begin s (t ∷ ts) x = begins-more s t (runs s ts (gives x ∷ [])) x (runs-begin s ts x)

begins-whole : (e : Trace) (x : State) → Begins e x → (d : Trace) × (after ended e ≡ step ∷ d)
unfolding Begins
begins-whole e x (inl h) = (gives x ∷ [], ap (after ended) h)
begins-whole e x (inr (d, h)) = (after ended d, ap (after ended) h)

whole-begins : (s : Chars) (ts : List Task) (x : State) → (d : Trace) × (whole s ts (gives x ∷ []) ≡ step ∷ d)
unfolding whole
whole-begins s ts x = begins-whole (runs s ts (gives x ∷ [])) x (runs-begin s ts x)

pub pile-begins : (s : Chars) (fs gs : List Frame) (f : Frame) → gs ≡ fs ++ f ∷ [] → (d : Trace) × (pile_trace s gs ≡ step ∷ d)
pile-begins s fs gs f e =
    let b : (d : Trace) × (frame_trace s f ≡ step ∷ d) = whole-begins s f.tasks.items (state f.place f.captures.items) in
    (b.0 ++ pile_trace s fs, ap (pile_trace s) e ∙ pile-push s fs f ∙ ap (λ d. d ++ pile_trace s fs) b.1)
