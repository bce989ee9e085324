-- Without its steps, what a node gives is what ECMA-262 says: so a search that ends says whether there is a match.
use Rattle.std.proofs.Common.{◌≡◌, ℕ, zero, suc, ◌+◌, ◌-◌, ◌<◌, ◌≤◌, Bool, true, false, List, [], ◌∷◌, ◌++◌, length, refl, ap, sym, ◌∙◌, arith}
use Rattle.std.specs.Prelude.{if◌then◌else◌, nat_eq, ◌||◌, Option, Some, None, map}
use Rattle.std.specs.List.{flat_map}
use Rattle.std.proofs.lemmas.List.Concat.{flat_map_single}
use Rattle.pattern_trees.specs.declared.tree.Turns.{Turns}
use Rattle.pattern_trees.specs.declared.tree.Look.{Look}
use Rattle.pattern_trees.specs.Nodes.{Node, Nothing, OneOf, At, Reference, Group, Around, Times, Pair, Choice}
use Rattle.pattern_trees.specs.Matching.{Chars, Captures, State, results, repeated, ordered, around_results, then_at, pair_results, closed, is_idle, is_spent, fewer, fresh, found_from, is_some_in, nothing_captured}
use Rattle.pattern_backtracking.specs.Counting.{step, gives, Trace, after, stepping, ended, then_gives, sought, ordered_trace, repeated_trace, pair_trace, entered, whole_trace, Ending, found_at, none_left, at_limit, within, decided_on, decided_from, needed, needed_from}

pub got : Trace → List State
got [] = []
got (step ∷ e) = got e
got (gives x ∷ e) = x ∷ got e

got-append : (e d : Trace) → got (e ++ d) ≡ got e ++ got d
unfolding got
got-append [] d = refl
got-append (step ∷ e) d = got-append e d
got-append (gives x ∷ e) d = ap (λ xs. x ∷ xs) (got-append e d)

got-after : (f : State → Trace) (r : State → List State) → ((x : State) → got (f x) ≡ r x) → (e : Trace) → got (after f e) ≡ flat_map r (got e)
unfolding got
got-after f r h [] = refl
got-after f r h (step ∷ e) = got-after f r h e
got-after f r h (gives x ∷ e) = got-append (f x) (after f e) ∙ ap (λ xs. xs ++ got (after f e)) (h x) ∙ ap (λ xs. r x ++ xs) (got-after f r h e)

got-ended : (e : Trace) → got (after ended e) ≡ got e
unfolding got
got-ended [] = refl
got-ended (step ∷ e) = got-ended e
got-ended (gives x ∷ e) = ap (λ xs. x ∷ xs) (got-ended e)

got-then : (cs : Captures) (o : Option ℕ) → got (then_gives cs o) ≡ then_at cs o
unfolding got
got-then cs None = refl
got-then cs (Some i) = refl

got-if : (b : Bool) (e d : Trace) → got (if b then e else d) ≡ (if b then got e else got d)
got-if true e d = refl
got-if false e d = refl

sought-if : (b : Bool) (x y : State) → got (if b then gives y ∷ [] else []) ≡ (if b then y ∷ [] else [])
unfolding got
sought-if true x y = refl
sought-if false x y = refl

missed-if : (b : Bool) (x : State) → got (if b then [] else gives x ∷ []) ≡ (if b then [] else x ∷ [])
unfolding got
missed-if true x = refl
missed-if false x = refl

got-sought : (look : Look) (x : State) (e : Trace) → got (sought look x e) ≡ around_results look x (got e)
unfolding got
got-sought look x [] = missed-if look.wanted x
got-sought look x (step ∷ e) = got-sought look x e
got-sought look x (gives y ∷ e) = sought-if look.wanted x (record { place = x.place; captures = y.captures })

got-ordered : (t : Turns) (more : Trace) (x : State) → got (ordered_trace t more x) ≡ ordered t (got more) x
unfolding got
got-ordered t more x =
    got-if (nat_eq t.min 0) (if t.greedy then more ++ gives x ∷ [] else gives x ∷ more) more
    ∙ ap (λ xs. if nat_eq t.min 0 then xs else got more) (got-if t.greedy (more ++ gives x ∷ []) (gives x ∷ more)
    ∙ ap (λ xs. if t.greedy then xs else x ∷ got more) (got-append more (gives x ∷ [])))

-- turns give the same where their bodies do
got-repeated : (f : State → Trace) (r : State → List State) → ((x : State) → got (f x) ≡ r x) → (left : ℕ) (t : Turns) (x : State) →
    got (repeated_trace f left t x) ≡ repeated r left t x
unfolding got
got-repeated f r h zero t x = refl
got-repeated f r h (suc left) t x =
    got-if (is_spent t.max) (gives x ∷ []) (ordered_trace t (after (λ y. step ∷ (if is_idle t x.place y then [] else repeated_trace f left (fewer t) y)) (f (fresh t x))) x)
    ∙ ap (λ xs. if is_spent t.max then x ∷ [] else xs) (
    got-ordered t (after (λ y. step ∷ (if is_idle t x.place y then [] else repeated_trace f left (fewer t) y)) (f (fresh t x))) x
    ∙ ap (λ xs. ordered t xs x) (
    got-after (λ y. step ∷ (if is_idle t x.place y then [] else repeated_trace f left (fewer t) y)) (λ y. if is_idle t x.place y then [] else repeated r left (fewer t) y)
    (λ y. got-if (is_idle t x.place y) [] (repeated_trace f left (fewer t) y) ∙ ap (λ xs. if is_idle t x.place y then [] else xs) (got-repeated f r h left (fewer t) y))
    (f (fresh t x))
    ∙ ap (flat_map (λ y. if is_idle t x.place y then [] else repeated r left (fewer t) y)) (h (fresh t x))))

got-pair : (f g : State → Trace) (q r : State → List State) → ((x : State) → got (f x) ≡ q x) → ((x : State) → got (g x) ≡ r x) → (ahead : Bool) (x : State) →
    got (pair_trace f g ahead x) ≡ pair_results q r ahead x
got-pair f g q r h k true x = got-after g r k (f x) ∙ ap (flat_map r) (h x)
got-pair f g q r h k false x = got-after f q h (g x) ∙ ap (flat_map q) (k x)

got-closed : (k : ℕ) (ahead : Bool) (i : ℕ) (e : Trace) → got (after (λ y. step ∷ gives (closed k ahead i y) ∷ []) e) ≡ map (closed k ahead i) (got e)
unfolding got
got-closed k ahead i e = got-after (λ y. step ∷ gives (closed k ahead i y) ∷ []) (λ y. closed k ahead i y ∷ []) (λ y. refl) e ∙ flat_map_single (closed k ahead i) (got e)

pub got-entered : (a : Node) (ahead : Bool) (s : Chars) (x : State) → got (entered a ahead s x) ≡ results a ahead s x
unfolding got
got-entered Nothing ahead s x = refl
got-entered (OneOf spans) ahead s x = got-then x.captures _
got-entered (At edge) ahead s x = got-then x.captures _
got-entered (Reference k) ahead s x = got-then x.captures _
got-entered (Group k a) ahead s x = got-closed k ahead x.place (stepping (entered a ahead s) x) ∙ ap (map (closed k ahead x.place)) (got-entered a ahead s x)
got-entered (Around look a) ahead s x =
    got-sought look x (after ended (stepping (entered a look.ahead s) x))
    ∙ ap (around_results look x) (got-ended (stepping (entered a look.ahead s) x) ∙ got-entered a look.ahead s x)
got-entered (Times t a) ahead s x = got-repeated (stepping (entered a ahead s)) (results a ahead s) (λ y. got-entered a ahead s y) (t.min + length s) t x
got-entered (Pair a b) ahead s x =
    got-pair (stepping (entered a ahead s)) (stepping (entered b ahead s)) (results a ahead s) (results b ahead s) (λ y. got-entered a ahead s y) (λ y. got-entered b ahead s y) ahead x
got-entered (Choice a b) ahead s x =
    got-append (stepping (entered a ahead s) x) (stepping (entered b ahead s) x)
    ∙ ap (λ xs. xs ++ got (entered b ahead s x)) (got-entered a ahead s x) ∙ ap (λ xs. results a ahead s x ++ xs) (got-entered b ahead s x)

pub got-whole : (a : Node) (ahead : Bool) (s : Chars) (x : State) → got (whole_trace a ahead s x) ≡ results a ahead s x
unfolding got
got-whole a ahead s x = got-ended (stepping (entered a ahead s) x) ∙ got-entered a ahead s x

-- what an ending says of the results
Told : Ending → List State → Type 0
Told (found_at x n) xs = is_some_in xs ≡ true
Told (none_left n) xs = xs ≡ []
Told at_limit xs = Unit {0}

told-within : (n : ℕ) (e : Trace) → Told (within n e) (got e)
unfolding Told got
told-within zero [] = refl
told-within (suc n) [] = refl
told-within zero (gives x ∷ e) = refl
told-within (suc n) (gives x ∷ e) = refl
told-within zero (step ∷ e) = tt
told-within (suc n) (step ∷ e) = told-within n e

told-on : (later : ℕ → Option Bool) (f : Bool) → ((n : ℕ) (b : Bool) → later n ≡ Some b → b ≡ f) → (v : Ending) (xs : List State) (b : Bool) →
    Told v xs → decided_on later v ≡ Some b → b ≡ (is_some_in xs || f)
unfolding Told
told-on later f h (found_at x n) xs b e d = let p : b ≡ true = cc in p ∙ ap (λ c. c || f) (sym e)
told-on later f h (none_left n) xs b e d = h n b d ∙ ap (λ ys. is_some_in ys || f) (sym e)
told-on later f h at_limit xs b e d = cc

-- a search that ends says whether there is a match
pub told-decided : (a : Node) (g : ℕ) (s : Chars) (k i n : ℕ) (b : Bool) → decided_from a g s k i n ≡ Some b → b ≡ found_from a g s k i
unfolding decided_from
told-decided a g s zero i n b e = cc
told-decided a g s (suc k) i n b e =
    told-on (decided_from a g s k (i + 1)) (found_from a g s k (i + 1)) (λ m c h. told-decided a g s k (i + 1) m c h)
    (within n (whole_trace a true s (nothing_captured g i))) (got (whole_trace a true s (nothing_captured g i))) b
    (told-within n (whole_trace a true s (nothing_captured g i))) e
    ∙ ap (λ xs. is_some_in xs || found_from a g s k (i + 1)) (got-whole a true s (nothing_captured g i))

counted-step : (a : Node) (g : ℕ) (s : Chars) (n k m : ℕ) → k < n →
    decided_from a g s (n - k) k m ≡ decided_on (decided_from a g s (n - (k + 1)) (k + 1)) (within m (whole_trace a true s (nothing_captured g k)))
unfolding decided_from
counted-step a g s n k m h =
    let e : n - k ≡ suc (n - (k + 1)) = omega arith in
    ap (λ j. decided_from a g s j k m) e

pub counted-found : (a : Node) (g : ℕ) (s : Chars) (n k m j : ℕ) (x : State) → k < n → within m (whole_trace a true s (nothing_captured g k)) ≡ found_at x j →
    decided_from a g s (n - k) k m ≡ Some true
counted-found a g s n k m j x h e = counted-step a g s n k m h ∙ ap (decided_on (decided_from a g s (n - (k + 1)) (k + 1))) e

pub counted-limit : (a : Node) (g : ℕ) (s : Chars) (n k m : ℕ) → k < n → within m (whole_trace a true s (nothing_captured g k)) ≡ at_limit →
    decided_from a g s (n - k) k m ≡ None
counted-limit a g s n k m h e = counted-step a g s n k m h ∙ ap (decided_on (decided_from a g s (n - (k + 1)) (k + 1))) e

pub counted-next : (a : Node) (g : ℕ) (s : Chars) (n k m j : ℕ) → k < n → within m (whole_trace a true s (nothing_captured g k)) ≡ none_left j →
    decided_from a g s (n - k) k m ≡ decided_from a g s (n - (k + 1)) (k + 1) j
counted-next a g s n k m j h e = counted-step a g s n k m h ∙ ap (decided_on (decided_from a g s (n - (k + 1)) (k + 1))) e

pub counted-over : (a : Node) (g : ℕ) (s : Chars) (n k m : ℕ) → n ≤ k → decided_from a g s (n - k) k m ≡ Some false
unfolding decided_from
counted-over a g s n k m h =
    let e : n - k ≡ zero = omega arith in
    ap (λ j. decided_from a g s j k m) e

-- what an ending says of the steps needed
Spent : ℕ → ℕ → Ending → Type 0
Spent n k (found_at x m) = Unit {0}
Spent n k (none_left m) = n ≡ k + m
Spent n k at_limit = n < k

spent-more : (n k : ℕ) (v : Ending) → Spent n k v → Spent (suc n) (suc k) v
unfolding Spent
spent-more n k (found_at x m) h = tt
spent-more n k (none_left m) h = omega arith
spent-more n k at_limit h = omega arith

spent-within : (n : ℕ) (e : Trace) → Spent n (needed e) (within n e)
unfolding Spent
spent-within zero [] = refl
spent-within (suc n) [] = omega arith
spent-within zero (gives x ∷ e) = tt
spent-within (suc n) (gives x ∷ e) = tt
spent-within zero (step ∷ e) = omega arith
spent-within (suc n) (step ∷ e) = spent-more n (needed e) (within n e) (spent-within n e)

enough-on : (later : ℕ → Option Bool) (n k r : ℕ) → ((m : ℕ) → r ≤ m → later m ≡ None → ⊥) → (v : Ending) → Spent n k v → k + r ≤ n → decided_on later v ≡ None → ⊥
unfolding Spent
enough-on later n k r h (found_at x m) q l e = cc
enough-on later n k r h (none_left m) q l e = h m (omega arith) e
enough-on later n k r h at_limit q l e = omega arith

-- with enough steps a search ends
pub enough-decided : (a : Node) (g : ℕ) (s : Chars) (k i n : ℕ) → needed_from a g s k i ≤ n → decided_from a g s k i n ≡ None → ⊥
unfolding decided_from needed_from
enough-decided a g s zero i n l e = cc
enough-decided a g s (suc k) i n l e =
    enough-on (decided_from a g s k (i + 1)) n (needed (whole_trace a true s (nothing_captured g i))) (needed_from a g s k (i + 1)) (λ m l d. enough-decided a g s k (i + 1) m l d)
    (within n (whole_trace a true s (nothing_captured g i))) (spent-within n (whole_trace a true s (nothing_captured g i))) l e
