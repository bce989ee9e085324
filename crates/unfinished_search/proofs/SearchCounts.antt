-- The numbers of runs and results in a tree.
use Rattle.std.proofs.Common.{◌≡◌, ℕ, ◌+◌, ◌*◌, ◌<◌, List, [], ◌∷◌, ◌++◌, true, false, sym, ◌∙◌, ap, refl, arith, length, append_assoc}
use Rattle.std.proofs.lemmas.List.{length-append}
use Rattle.theory_definitions.specs.Matching.{Assumptions}
use Rattle.theory_definitions.specs.Cover.{assuming}
use Rattle.theory_definitions.specs.Unfinished.{Remembered}
use Rattle.theory_meaning.specs.Search.{BranchesAreNew, Cut, HandsBack, Tree, Whole, all_yes, branch, ends, lists_of, member, results_of, runs, unrun, waiting}
use Rattle.theory_meaning.proofs.TakenApart.{takes_apart}

pub runs_and_waiting : {T : Type 0} (tree : Tree T) → runs tree + waiting tree + 1 ≡ 2 * ends tree
runs_and_waiting unrun = refl
runs_and_waiting (member r result) = refl
runs_and_waiting (branch r f a b) = omega (arith, runs_and_waiting a, runs_and_waiting b)

results_count : {T : Type 0} (tree : Tree T) → waiting tree ≡ 0 → length (results_of tree) ≡ ends tree
results_count unrun w = absurd (omega arith)
results_count (member r result) w = refl
results_count (branch r f a b) w = length-append (results_of a) (results_of b) ∙ omega (arith, results_count a (omega arith), results_count b (omega arith))

lists_count : {T : Type 0} (as' : Assumptions) (tree : Tree T) → waiting tree ≡ 0 → length (lists_of as' tree) ≡ ends tree
lists_count as' unrun w = absurd (omega arith)
lists_count as' (member r result) w = refl
lists_count as' (branch r f a b) w =
    length-append (lists_of (assuming f.met false as') a) (lists_of (assuming f.met true as') b)
    ∙ omega (arith, lists_count (assuming f.met false as') a (omega arith), lists_count (assuming f.met true as') b (omega arith))

-- the last member, which assumes a yes wherever the list that it grows from does
last_list : {T : Type 0} (as' : Assumptions) (tree : Tree T) → waiting tree ≡ 0
    → (others : List Assumptions) × (last : Assumptions) × (lists_of as' tree ≡ others ++ last ∷ []) × (all_yes as' ≡ true → all_yes last ≡ true)
last_list as' unrun w = absurd (omega arith)
last_list as' (member r result) w = ([], as', refl, λ e. e)
last_list as' (branch r f a b) w =
    let (others, last, is, yes_everywhere) = last_list (assuming f.met true as') b (omega arith) in
    let front = lists_of (assuming f.met false as') a in
    (front ++ others, last, ap (λ z. front ++ z) is ∙ sym (append_assoc front others (last ∷ [])), yes_everywhere)

module _ {S T : Type 0} (Step : S → Remembered → Remembered → T → S → Type 0) (first : Remembered) (start : S) (limit : ℕ) where
  pub is_whole : (tree : Tree T) → waiting tree ≡ 0 → (HandsBack Step start → BranchesAreNew first.assumptions tree) → Whole Step first start limit tree
  is_whole tree w new = let (others, last, is, yes_everywhere) = last_list first.assumptions tree w in record {
    none_waits = w;
    runs_are = omega (arith, runs_and_waiting tree);
    results_are = results_count tree w;
    counted = lists_count first.assumptions tree w;
    others = others;
    last = last;
    lists_are = is;
    last_yes = yes_everywhere;
    apart = λ back. takes_apart first.assumptions tree (new back) w;
  }

  pub is_cut : (tree : Tree T) → 0 < waiting tree → runs tree ≡ limit → Cut Step first start limit tree
  is_cut tree w r = record { some_wait = w; runs_are = r; many = omega (arith, runs_and_waiting tree) }
