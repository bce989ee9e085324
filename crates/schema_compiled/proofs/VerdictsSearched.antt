-- The result and the steps of a search over the nodes' verdicts.
use Rattle.std.proofs.Common.{◌≡◌, ◌<◌, ℕ, Bool, false, suc, [], arith, length}
use Rattle.std.specs.Prelude.{Err, IfOk, Ok, Result}
use Rattle.serde_json.specs.Data.{Data}
use Rattle.theory_definitions.specs.Cover.{Call, Sense, is_valid}
use Rattle.theory_definitions.specs.Keywords.{for_verdict}
use Rattle.theory_definitions.specs.Laws.{EachKeeps}
use Rattle.theory_definitions.specs.Matching.{Assumptions}
use Rattle.theory_definitions.specs.Unfinished.{Remembered, starting}
use Rattle.theory_meaning.specs.Headline.{VerdictSays}
use Rattle.theory_meaning.specs.Members.{Follows, verdict_of}
use Rattle.theory_meaning.specs.Numbered.{left, subject_in}
use Rattle.theory_meaning.specs.Searched.{IsRunOf, Reaches}
use Rattle.schema_node_table.specs.NodeTable.{numbered}
use Rattle.schema_run_context.specs.Works.{Asks, Budget}
use Rattle.schema_run_context.proofs.Matches.{nothing_twice}
use Rattle.unfinished_search.specs.RunCounts.{MakesFurther}
use Rattle.schema_compiled.proofs.Searches.{follows, reached_has, sense, verdict_runs}
use Rattle.schema_traits.specs.declared.keyword.Validate.{Ghosts as KeywordMembers}
use Rattle.schema_traits.specs.declared.matcher.Matcher.{Ghosts as MatcherMembers}
use Rattle.schema_compiled.specs.Asked.{DecidesFromSomeDepth, RunDecides, RunMeets}
use Rattle.schema_compiled.specs.Program.{Program, Speaks}
use Rattle.schema_compiled.specs.Taken.{TakesByRuns}
use Rattle.schema_compiled.proofs.Taken.{takes_searched}

-- what is known of a verdict that a search found, and of the state that it leaves
pub record IsSearched {C Run K M S : Type 0} (keywords : KeywordMembers C Run K) (matchers : MatcherMembers M) (p : Program C M) (instance : Data) (Has : S → Type 0) (work : S → Budget) (start end : S) (valid : Bool) : Type 0 where
  pub decides : DecidesFromSomeDepth keywords matchers p instance valid
  pub takes : TakesByRuns keywords matchers p instance is_valid (work start) (work end)
  pub has : Has end

module _ {C Run K M : Type 0} (keywords : KeywordMembers C Run K) (matchers : MatcherMembers M) (p : Program C M) (instance : Data) (each : (texts : Bool) → EachKeeps (keywords.words texts)) where
  -- a search by a closure whose states have what the first one has and hold what is left of the budget, each of whose steps from there is a
  -- run for the verdict
  module _ {S : Type 0} (Step : S → Remembered → Remembered → Bool → S → Type 0) (start : S) (Has : S → Type 0) (begins : Has start)
      (keeps : (s : S) (given r : Remembered) (b : Bool) (end : S) → Has s → Step s given r b end → Has end)
      (work : S → Budget) (asks : (s : S) (given r : Remembered) (b : Bool) (end : S) → Step s given r b end → Asks (work s) (work end))
      (first : Remembered) (none : first.assumptions ≡ []) (met : RunMeets keywords matchers p instance for_verdict (starting []) first)
      (told : (s : S) (as' : Assumptions) (r : Remembered) (b : Bool) (end : S) → Has s → Step s (starting as') r b end
      → RunDecides keywords matchers p instance as' b × RunMeets keywords matchers p instance for_verdict (starting as') r) where
    abbrev sense_at : Bool → ℕ → Sense
    sense_at texts n = sense (keywords.words texts) (each texts) (matchers.matching p.matcher) (numbered keywords.shape p.nodes) instance p.root n

    is_run : (texts : Bool) → Speaks keywords.shape keywords.words keywords.is_whole matchers.matching p instance texts → (n : ℕ) → left (numbered keywords.shape p.nodes) (length p.nodes) p.root (subject_in instance []) [] < n
        → IsRunOf (sense_at texts n) is_valid Step first start (λ (b : Bool). b) (verdict_of (sense_at texts n))
    is_run texts speaks n enough = verdict_runs (keywords.words texts) (each texts) (matchers.matching p.matcher) (numbered keywords.shape p.nodes) instance p.root n Step start Has begins keeps
        (λ (b : Bool). b) first none (met texts speaks nothing_twice n enough)
        (λ s as' r b end has step once. let h = told s as' r b end has step in (h.0 texts speaks once n enough, h.1 texts speaks once n enough))

    pub is_searched : {E : Type 0} (result : Result Bool E) (end : S) (most : ℕ) → most ≡ p.runs
        → ((v : Sense) (call : Call) → Follows v → IsRunOf v call Step first start (λ (b : Bool). b) (verdict_of v) → IfOk result (λ b. VerdictSays v most call b))
        → ((v : Sense) (call : Call) → IsRunOf v call Step first start (λ (b : Bool). b) (verdict_of v) → IfOk result (λ _. MakesFurther v most call Step start end))
        → IfOk result (λ _. Reaches Step start end)
        → IfOk result (IsSearched keywords matchers p instance Has work start end)
    is_searched (Err e) end most same says makes reaches = tt
    is_searched (Ok b) end most same says_most makes_most reaches =
        let says = rw same at says_most in
        let makes = rw same at makes_most in
        record {
          decides = λ texts speaks. (
            suc (left (numbered keywords.shape p.nodes) (length p.nodes) p.root (subject_in instance []) []),
            λ n more. says (sense_at texts n) is_valid (follows (keywords.words texts) (each texts) (matchers.matching p.matcher) (numbered keywords.shape p.nodes) instance p.root n) (is_run texts speaks n (omega (arith, more))),
          );
          takes = takes_searched keywords matchers p instance is_valid Step work asks start end reaches (λ texts speaks n enough. makes (sense_at texts n) is_valid (is_run texts speaks n enough));
          has = reached_has (keywords.words false) (each false) (matchers.matching p.matcher) (numbered keywords.shape p.nodes) instance p.root 0 Step start Has begins keeps end reaches;
        }
