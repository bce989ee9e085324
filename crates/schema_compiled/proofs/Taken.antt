-- What the runs of a call take of its budget: the first one, and those of a search.
use Rattle.std.proofs.Common.{◌≡◌, ◌∙◌, ◌+◌, ◌<◌, ◌≤◌, inl, zero, suc, ℕ, Bool, [], ◌∷◌, true, None, arith, length, refl, sym, ap, subst}
use Rattle.std.specs.Prelude.{IfSome, Option, Some, find, is_some, not, option_map}
use Rattle.serde_json.specs.Data.{Data}
use Rattle.theory_definitions.specs.Cover.{Call, branch_at, mode_of, whole}
use Rattle.theory_definitions.specs.Guarded.{guarded_sense}
use Rattle.theory_definitions.specs.Matching.{assumed}
use Rattle.theory_definitions.specs.Runs.{Met}
use Rattle.theory_definitions.specs.Unfinished.{Failure, Remembered, starting}
use Rattle.theory_meaning.specs.Members.{Finishes}
use Rattle.theory_meaning.specs.Numbered.{left, subject_in}
use Rattle.theory_meaning.specs.Search.{Uses}
use Rattle.theory_meaning.specs.Searched.{Reaches, here, next}
use Rattle.theory_meaning.proofs.Finishing.{nodes_decide}
use Rattle.schema_node_table.specs.NodeTable.{numbered}
use Rattle.schema_run_context.specs.Works.{Asks, Budget, Spends, allowed, down_to}
use Rattle.schema_run_context.proofs.Matches.{nothing_twice}
use Rattle.theory_runs.proofs.Spending.{asks_spends, spends_none, spends_on}
use Rattle.unfinished_search.specs.RunCounts.{MakesFurther, MakesRuns}
use Rattle.schema_compiled.proofs.Remembers.{remembers_of}
use Rattle.schema_traits.specs.declared.keyword.Validate.{Ghosts as KeywordMembers}
use Rattle.schema_traits.specs.declared.matcher.Matcher.{Ghosts as MatcherMembers}
use Rattle.schema_compiled.specs.Asked.{RunMeets}
use Rattle.schema_compiled.specs.Program.{FromSomeDepth, Program, Speaks}
use Rattle.schema_compiled.specs.Taken.{MakesRunsWithin, TakesByRuns}

-- so many uses of a run, each of which asks a node at least
uses_take : {S X Y : Type 0} (Use : S → X → Y → S → Type 0) (work : S → Budget) → ((s : S) (x : X) (y : Y) (s' : S) → Use s x y s' → Asks (work s) (work s'))
    → (start : S) (n : ℕ) (end : S) → Uses Use start n end → (work start).limited ≡ true → ((work end).limited ≡ true) × ((work end).left + n ≤ (work start).left)
uses_take Use work asks start zero end same limited = subst (λ s. ((work s).limited ≡ true) × ((work s).left + 0 ≤ (work start).left)) same (limited, omega arith)
uses_take Use work asks start (suc n) end (s, x, y, uses, step) limited =
    let (still, before) = uses_take Use work asks start n s uses limited in
    let one = asks s x y end step in
    let fewer = one.fewer still in
    (one.limited ∙ still, omega (arith, before, fewer))

module _ {C Run K M : Type 0} (keywords : KeywordMembers C Run K) (matchers : MatcherMembers M) (p : Program C M) (instance : Data) (call : Call) where
  -- what is taken before the runs that are counted
  pub takes_after : (old before new : Budget) → Spends old before → TakesByRuns keywords matchers p instance call before new → TakesByRuns keywords matchers p instance call old new
  takes_after old before new spends takes = record {
    spends = spends_on old before new spends takes.spends;
    runs = λ limited texts speaks.
        let (deep, are) = takes.runs (spends.limited ∙ limited) texts speaks in
        (deep, λ n more. let (further, makes, fewer) = are n more in (further, makes, let less = spends.left in omega (arith, fewer, less)));
  }

  -- the first run meets no unfinished match: there is no other
  abbrev MeetsNone : Type 0
  MeetsNone = (texts : Bool) → Speaks keywords.shape keywords.words keywords.is_whole matchers.matching p instance texts → (n : ℕ) → left (numbered keywords.shape p.nodes) (length p.nodes) p.root (subject_in instance []) [] < n
      → branch_at (guarded_sense (keywords.words texts) (matchers.matching p.matcher) (numbered keywords.shape p.nodes) (subject_in instance) n p.root) call [] ≡ None

  takes_one : (old new : Budget) → 1 ≤ p.runs → MeetsNone → Spends old new → TakesByRuns keywords matchers p instance call old new
  takes_one old new some none spends = record {
    spends = spends;
    runs = λ limited texts speaks. (
      suc (left (numbered keywords.shape p.nodes) (length p.nodes) p.root (subject_in instance []) []),
      λ n more. (
        0,
        inl (([] ∷ [], whole (none texts speaks n (omega (arith, more))), omega (arith, some)), refl),
        let less = spends.left in omega (arith, less),
      ),
    );
  }

  pub takes_first : (old new : Budget) (r : Remembered) → 1 ≤ p.runs → RunMeets keywords matchers p instance (mode_of call []) (starting []) r → r.unassumed ≡ None → Spends old new → TakesByRuns keywords matchers p instance call old new
  takes_first old new r some met none = takes_one old new some (λ texts speaks n enough.
      let h = remembers_of (matchers.matching p.matcher) (guarded_sense (keywords.words texts) (matchers.matching p.matcher) (numbered keywords.shape p.nodes) (subject_in instance) n p.root) call [] r refl (met texts speaks nothing_twice n enough) in
      sym h.first ∙ ap (option_map (λ (f : Failure). f.met)) none)

  -- nor if the matcher finishes every match
  pub takes_finished : (old new : Budget) → 1 ≤ p.runs → Finishes (matchers.matching p.matcher) → Spends old new → TakesByRuns keywords matchers p instance call old new
  takes_finished old new some finishes = takes_one old new some (λ texts speaks n enough.
      ap (find (λ (m : Met). not (is_some (assumed [] m.pair)))) ((nodes_decide (keywords.words texts) (matchers.matching p.matcher) finishes (numbered keywords.shape p.nodes) (subject_in instance) n p.root).meets_none call []))

  -- the runs of a search, whose states hold what is left of the budget
  module _ {S T : Type 0} (Step : S → Remembered → Remembered → T → S → Type 0) (work : S → Budget) (asks : (s : S) (x r : Remembered) (t : T) (s' : S) → Step s x r t s' → Asks (work s) (work s')) (start : S) where
    reached_spends : (s : S) → Reaches Step start s → Spends (work start) (work s)
    reached_spends _ here = spends_none (work start)
    reached_spends _ (next s x r t s' at step) = spends_on (work start) (work s) (work s') (reached_spends s at) (asks_spends (work s) (work s') (asks s x r t s' step))

    pub takes_searched : (end : S) → Reaches Step start end
        → ((texts : Bool) → Speaks keywords.shape keywords.words keywords.is_whole matchers.matching p instance texts → (n : ℕ) → left (numbered keywords.shape p.nodes) (length p.nodes) p.root (subject_in instance []) [] < n
        → MakesFurther (guarded_sense (keywords.words texts) (matchers.matching p.matcher) (numbered keywords.shape p.nodes) (subject_in instance) n p.root) p.runs call Step start end)
        → TakesByRuns keywords matchers p instance call (work start) (work end)
    takes_searched end reaches makes = record {
      spends = reached_spends end reaches;
      runs = λ limited texts speaks. (
        suc (left (numbered keywords.shape p.nodes) (length p.nodes) p.root (subject_in instance []) []),
        λ n more.
            let (further, uses, are) = makes texts speaks n (omega (arith, more)) in
            (further, are, (uses_take (λ s x (y : Remembered × T) s'. Step s x y.0 y.1 s') work (λ s x y s' step. asks s x y.0 y.1 s' step) start further end uses limited).1),
      );
    }

-- what is taken of a budget of the validator's limit is within this limit
pub runs_within : {C Run K M X : Type 0} (keywords : KeywordMembers C Run K) (matchers : MatcherMembers M) (p : Program C M) (instance : Data) (call : Call) (old new : Budget) (answer : X)
    → old ≡ down_to p.depth (allowed p.work) → TakesByRuns keywords matchers p instance call old new → MakesRunsWithin call keywords matchers p instance answer
runs_within keywords matchers p instance call old new answer given takes = go p.work given
  where
    go : (o : Option ℕ) → old ≡ down_to p.depth (allowed o)
        → IfSome o (λ limit. FromSomeDepth keywords.shape keywords.words keywords.is_whole matchers.matching p instance (λ texts v. (n : ℕ) × MakesRuns v p.runs call (suc n) × (n ≤ limit)))
    go None is = tt
    go (Some limit) is = λ texts speaks.
        let (deep, are) = takes.runs (ap (λ (w : Budget). w.limited) is) texts speaks in
        (deep, λ n more. let (further, makes, fewer) = are n more in (further, makes, let all = ap (λ (w : Budget). w.left) is in omega (arith, fewer, all)))
