-- How much of its budget a call takes for its runs.
use Rattle.std.specs.Prelude.{IfSome, ℕ, suc, true, ◌+◌, ◌≡◌, ◌≤◌}
use Rattle.serde_json.specs.Data.{Data}
use Rattle.theory_definitions.specs.Cover.{Call}
use Rattle.schema_run_context.specs.Works.{Budget, Spends}
use Rattle.unfinished_search.specs.RunCounts.{MakesRuns}
use Rattle.schema_traits.specs.declared.keyword.Validate.{Ghosts as KeywordMembers}
use Rattle.schema_traits.specs.declared.matcher.Matcher.{Ghosts as MatcherMembers}
use Rattle.schema_compiled.specs.Program.{FromSomeDepth, Program}

-- C is a keyword of the code, K what is known of it, M a matcher of the code
module _ {C Run K M : Type 0} (keywords : KeywordMembers C Run K) (matchers : MatcherMembers M) (p : Program C M) (instance : Data) (call : Call) (old new : Budget) where
  -- no more is left than before. If there is a limit, what is left is less by at least one for each
  -- run after the first; what the nodes say from some depth on determines how many runs these are
  pub record TakesByRuns : Type 0 where
    pub spends : Spends old new
    pub runs : old.limited ≡ true → FromSomeDepth keywords.shape keywords.words keywords.is_whole matchers.matching p instance (λ texts v. (n : ℕ) × MakesRuns v p.runs call (suc n) × (new.left + n ≤ old.left))

-- if the validator has a limit on steps, the call makes no more runs after the first than the limit
-- says, whatever its answer is
abbrev pub MakesRunsWithin : {C Run K M X : Type 0} → Call → KeywordMembers C Run K → MatcherMembers M → Program C M → Data → X → Type 0
MakesRunsWithin call keywords matchers p instance answer = IfSome p.work (λ limit.
    FromSomeDepth keywords.shape keywords.words keywords.is_whole matchers.matching p instance (λ texts v. (n : ℕ) × MakesRuns v p.runs call (suc n) × (n ≤ limit)))
