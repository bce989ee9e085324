-- What the members of a cover say, and so what the four calls answer if they decide.
use Rattle.std.specs.Prelude.{All, Contains, List, None, Option, Some, [], length, map, suc, ℕ, ◌*◌, ◌+◌, ◌++◌, ◌^◌, ◌<◌, ◌↔◌, ◌∷◌, ◌≡◌, ◌≤◌, ◌⊎◌}
use Rattle.serde_json.specs.Data.{Data}
use Rattle.theory_definitions.specs.Instance.{Place, Subject}
use Rattle.theory_definitions.specs.Reports.{Error}
use Rattle.theory_definitions.specs.Matching.{Assumptions, Completion, Extends, Matcher, Pair, completion_of}
use Rattle.theory_definitions.specs.Keywords.{Keywords}
use Rattle.theory_definitions.specs.Parts.{Parts}
use Rattle.theory_definitions.specs.Plan.{Key}
use Rattle.theory_definitions.specs.Meaning.{unfold_}
use Rattle.theory_definitions.specs.Units.{plain_units}
use Rattle.theory_definitions.specs.Runs.{Met, first_error, run}
use Rattle.theory_definitions.specs.Cover.{Call, Cover, Decides, IsRun, Sense, branch_at, evaluate, iter_errors, plain, validate}
use Rattle.theory_meaning.specs.Shared.{EachAccepts, Kept, Shared}
use Rattle.theory_definitions.specs.Laws.{EachKeeps}
use Rattle.theory_definitions.specs.Guarded.{Nodes, guarded_sense}
use Rattle.theory_meaning.specs.Headline.{ErrorsSay, FirstSays, FirstShared, IsFailure, Lists, VerdictSays}
use Rattle.theory_meaning.specs.Depths.{AtEachDepth}
use Rattle.theory_meaning.specs.Members.{BranchesAmong, ExtendsAt, Finishes, Follows, IsUnfinished, Partly, RunsAre, Speaks, StandOnce, all_accept, is_nil, listed, shared_with}

module _ {S K R : Type 0} (w : Parts S K R) where
  -- A plain run under assumptions speaks, in each mode, for every completion that extends them.
  abbrev pub RunsSpeak : Type 0
  RunsSpeak = AtEachDepth w (λ instance root n. (as' : Assumptions) (c : Completion) → Extends (completion_of as') as' → Extends c as'
      → Speaks as' (run w instance as' n root [] []) (unfold_ w instance c n root [] []) (plain_units w instance c n root [] []))

  -- If the first run of `evaluate` meets no unfinished match, its units are the plain ones under
  -- every completion.
  abbrev pub UnitsArePlain : Type 0
  UnitsArePlain = AtEachDepth w (λ instance root n. branch_at (plain w instance n root) evaluate [] ≡ None
      → (c : Completion) → (run w instance [] n root [] []).units tt ≡ plain_units w instance c n root [] [])

  -- The plain sense of a schema behaves like a plain run.
  abbrev pub PlainFollows : Type 0
  PlainFollows = AtEachDepth w (λ instance root n. Follows (plain w instance n root))

-- So does the sense of numbered nodes, whether questions return or not.
abbrev pub NodesFollow : {K R : Type 0} → Keywords K R → Type 0
NodesFollow {K} keywords = EachKeeps keywords → (matcher : Matcher) (nodes : Nodes K) (subject_of : Place → Subject) (n i : ℕ)
    → Follows (guarded_sense keywords matcher nodes subject_of n i)

-- If the first run of the call meets an unfinished match, this error is a failure of the call,
-- which makes at most `most` runs.
abbrev pub FailsWith : Sense → ℕ → Call → Error → Type 0
FailsWith v most call e = (m : Met) → branch_at v call [] ≡ Some m → IsFailure v most call e

-- The members of a call that decides within the limit; the last one assumes a yes everywhere.
abbrev pub AreMembers : Sense → ℕ → Call → List Assumptions → Assumptions → Type 0
AreMembers v limit call others last = Cover v call [] (others ++ last ∷ []) × (2 * length (others ++ last ∷ []) ≤ limit + 1)

-- The verdict of a call that decides is yes if and only if every member accepts.
abbrev pub VerdictOfMembers : Type 0
VerdictOfMembers = (v : Sense) → Follows v → (limit : ℕ) (call : Call) (ms : List Assumptions) → Cover v call [] ms → 2 * length ms ≤ limit + 1 → VerdictSays v limit call (all_accept v ms)

-- The shared errors are those errors of the last member that every other member has too.
abbrev pub SharedOfMembers : Type 0
SharedOfMembers = (v : Sense) → Follows v → (others : List Assumptions) (last : Assumptions) → Cover v iter_errors [] (others ++ last ∷ []) → Shared v (shared_with v others last)

-- The members yield the errors of `iter_errors`.
abbrev pub ErrorsOfMembers : Type 0
ErrorsOfMembers = (v : Sense) → Follows v → (others : List Assumptions) (last : Assumptions) (failure : Error) (limit : ℕ) → AreMembers v limit iter_errors others last → FailsWith v limit iter_errors failure
    → ErrorsSay v limit (listed v others last failure)

-- The members yield the error of `validate`.
abbrev pub FirstOfMembers : Type 0
FirstOfMembers = (v : Sense) → Follows v → (others : List Assumptions) (last : Assumptions) (failure : Error) (limit : ℕ) → AreMembers v limit validate others last → FailsWith v limit validate failure
    → FirstSays v limit (first_error (listed v others last failure))

-- The members yield the verdict of `evaluate`.
abbrev pub EvaluationOfMembers : Type 0
EvaluationOfMembers = (v : Sense) → Follows v → (others : List Assumptions) (last : Assumptions) (failure : Error) (limit : ℕ) → AreMembers v limit evaluate others last → FailsWith v limit evaluate failure
    → VerdictSays v limit evaluate (is_nil (listed v others last failure))

-- A call has only one cover, so it does not decide if that cover takes more runs than the limit.
abbrev pub OneCover : Type 0
OneCover = (v : Sense) (call : Call) (ms ns : List Assumptions) → Cover v call [] ms → Cover v call [] ns → ms ≡ ns

-- A call does not decide if a part of its cover takes more runs than the limit.
abbrev pub UndecidedPast : Type 0
UndecidedPast = (v : Sense) (call : Call) (limit n : ℕ) → Partly v call [] n → limit + 1 < 2 * n → ¬ (Decides v limit call)

-- Whether a call decides within a limit is itself decidable.
abbrev pub DecidesOrNot : Type 0
DecidesOrNot = (v : Sense) (limit : ℕ) (call : Call) → Decides v limit call ⊎ ¬ (Decides v limit call)

-- A larger limit decides what a smaller one decides.
abbrev pub LargerDecides : Type 0
LargerDecides = (v : Sense) (limit larger : ℕ) (call : Call) → limit ≤ larger → Decides v limit call → Decides v larger call

-- If the first run branches on no match, that run decides under every limit that allows a run. This
-- is so if the matcher finishes every match that the run meets.
abbrev pub FinishedDecides : Type 0
FinishedDecides = (v : Sense) (limit : ℕ) (call : Call) → branch_at v call [] ≡ None → 1 ≤ limit → Decides v limit call

-- Each match that a run of the sense meets is one that the matcher leaves unfinished.
abbrev pub MeetsUnfinished : Matcher → Sense → Type 0
MeetsUnfinished matcher v = (call : Call) (as' : Assumptions) → All (IsUnfinished matcher) (v.meets call as')

-- No run meets an unfinished match, so the first run of a call decides under every limit that
-- allows a run.
pub record DecidesAtOnce (v : Sense) : Type 0 where
  pub meets_none : (call : Call) (as' : Assumptions) → v.meets call as' ≡ []
  pub decides : (limit : ℕ) (call : Call) → 1 ≤ limit → Decides v limit call

-- If the matcher finishes every match, the plain runs of a schema decide at once.
abbrev pub FinishingDecides : {S K R : Type 0} → Parts S K R → Type 0
FinishingDecides {S} w = Finishes w.matcher → (instance : Data) (n : ℕ) (root : Key S) → DecidesAtOnce (plain w instance n root)

-- So do runs over numbered nodes, whether questions return or not.
abbrev pub NodesFinishingDecide : {K R : Type 0} → Keywords K R → Type 0
NodesFinishingDecide {K} keywords = (matcher : Matcher) → Finishes matcher → (nodes : Nodes K) (subject_of : Place → Subject) (n i : ℕ)
    → DecidesAtOnce (guarded_sense keywords matcher nodes subject_of n i)

-- The plain runs of a schema meet only matches that the matcher leaves unfinished.
abbrev pub PlainMeetsUnfinished : {S K R : Type 0} → Parts S K R → Type 0
PlainMeetsUnfinished {S} w = (instance : Data) (n : ℕ) (root : Key S) → MeetsUnfinished w.matcher (plain w instance n root)

-- So do runs over numbered nodes.
abbrev pub NodesMeetUnfinished : {K R : Type 0} → Keywords K R → Type 0
NodesMeetUnfinished {K} keywords = (matcher : Matcher) (nodes : Nodes K) (subject_of : Place → Subject) (n i : ℕ)
    → MeetsUnfinished matcher (guarded_sense keywords matcher nodes subject_of n i)

-- A call whose runs branch only on k pairs decides if its limit is at least 2 ^ (k + 1) - 1.
abbrev pub PairsDecide : Type 0
PairsDecide = (v : Sense) (call : Call) (pairs : List Pair) → BranchesAmong v call pairs → (limit : ℕ) → 2 ^ suc (length pairs) ≤ limit + 1 → Decides v limit call

-- If `validate` decides, its answer is none if and only if every completion accepts.
abbrev pub NoneWhereAccepted : Type 0
NoneWhereAccepted = (v : Sense) → Follows v → (limit : ℕ) (o : Option Error) → FirstSays v limit o → Decides v limit validate → (o ≡ None) ↔ EachAccepts v

-- No error is listed if and only if every completion accepts.
abbrev pub NoneListed : Type 0
NoneListed = (v : Sense) → Follows v → (most : ℕ) (call : Call) (es : List Error) → Lists v most call es → (es ≡ []) ↔ EachAccepts v

-- The first shared error is the head of the shared errors.
abbrev pub FirstIsHead : Type 0
FirstIsHead = (v : Sense) (errors kept : List Error) (o : Option Error) → Kept v errors kept → FirstShared v errors o → o ≡ first_error kept

-- Each completion extends exactly one member of a cover.
abbrev pub OneMember : Type 0
OneMember = (v : Sense) (call : Call) (ms : List Assumptions) → Cover v call [] ms → (c : Completion) → (i : ℕ) × ExtendsAt c ms i × ((j : ℕ) → ExtendsAt c ms j → j ≡ i)

-- A cover of L members takes 2 L - 1 runs.
abbrev pub RunsOfCover : Type 0
RunsOfCover = (v : Sense) (call : Call) (ms : List Assumptions) → Cover v call [] ms → (runs : List Assumptions) × RunsAre v call runs × (length runs + 1 ≡ 2 * length ms)

-- A call branches on distinct pairs: no list of a run contains a pair twice, so the completion of
-- the list extends it.
abbrev pub PairsDiffer : Type 0
PairsDiffer = (v : Sense) (call : Call) (as' : Assumptions) → IsRun v call as' → StandOnce (map (λ a. a.pair) as') × Extends (completion_of as') as'

-- A member is the list of a run that does not branch.
abbrev pub MembersRun : Type 0
MembersRun = (v : Sense) (call : Call) (ms : List Assumptions) → Cover v call [] ms → (m : Assumptions) → Contains ms m → IsRun v call m × (branch_at v call m ≡ None)

-- So no member contains a pair twice, and the completion of a member extends it.
abbrev pub MembersDiffer : Type 0
MembersDiffer = (v : Sense) (call : Call) (ms : List Assumptions) → Cover v call [] ms → (m : Assumptions) → Contains ms m → StandOnce (map (λ a. a.pair) m) × Extends (completion_of m) m
