-- If every keyword is monotone, what a number says under guards is the greatest solution of its
-- key, whichever edges are guarded.
use Rattle.std.specs.Prelude.{Bool, Decides, List, None, Option, Some, [], length, map, slice_get, true, ℕ, ◌<◌, ◌↔◌, ◌≡◌, ◌≤◌}
use Rattle.serde_json.specs.Data.{Data}
use Rattle.theory_definitions.specs.Instance.{Place, Text}
use Rattle.theory_definitions.specs.Reports.{Error}
use Rattle.theory_definitions.specs.Matching.{Completion}
use Rattle.theory_definitions.specs.Parts.{Parts}
use Rattle.theory_definitions.specs.Plan.{Key}
use Rattle.theory_definitions.specs.Meaning.{subject}
use Rattle.theory_definitions.specs.Cover.{Call, Sense, iter_errors, validate}
use Rattle.theory_definitions.specs.Laws.{EachKeeps}
use Rattle.theory_definitions.specs.Guarded.{Nodes}
use Rattle.theory_meaning.specs.Shared.{EachAccepts}
use Rattle.theory_meaning.specs.Headline.{ErrorsSay, FirstSays, Guardedly, Plainly, VerdictSays}
use Rattle.theory_meaning.specs.Greatest as by_keys
use Rattle.theory_meaning.specs.Members.{Finishes}
use Rattle.theory_meaning.specs.Reach.{Reached}
use Rattle.theory_meaning.specs.Numbered.{AreNumbered, IsNumber, MakersAskBelow, Numbers, Ranked, ValuesInside, guarded_says, left}
use Rattle.theory_fixed_points.specs.Solutions.{AcceptsEach, AcceptsGreatest, EachIsMonotone, IsLargest, Pairs, SaysGreatest}
use Rattle.theory_fixed_points.specs.NodesSay.{AreMonotone}

-- The calls of a number, which make at most `limit` runs.
module _ {S K R : Type 0} (w : Parts S K R) (nodes : Nodes K) (instance : Data) (i : ℕ) (root : Key S) (limit : ℕ) where
  -- A fact about what the number says from some depth on.
  abbrev pub FromSomeDepth : (Sense → Type 0) → Type 0
  FromSomeDepth fact = Guardedly w.keywords w.matcher nodes (subject w instance) i fact

  -- If the calls answer as the headline says, then those that decide answer yes if and only if the
  -- greatest solutions accept. `is_valid` and an evaluation answer yes by their verdict, `validate`
  -- and `iter_errors` by finding no error.
  abbrev pub CallsSayGreatest : Type 0
  CallsSayGreatest = ((call : Call) (valid : Bool) → FromSomeDepth (λ v. VerdictSays v limit call valid) → FromSomeDepth (λ v. SaysGreatest w root instance v limit call (valid ≡ true)))
      × ((first : Option Error) → FromSomeDepth (λ v. FirstSays v limit first) → FromSomeDepth (λ v. SaysGreatest w root instance v limit validate (first ≡ None)))
      × ((errors : List Error) → FromSomeDepth (λ v. ErrorsSay v limit errors) → FromSomeDepth (λ v. SaysGreatest w root instance v limit iter_errors (errors ≡ [])))

  -- If the calls answer as the headline says, each of them answers yes if and only if the greatest
  -- solutions accept.
  abbrev pub CallsFinish : Type 0
  CallsFinish = ((call : Call) (valid : Bool) → FromSomeDepth (λ v. VerdictSays v limit call valid) → (valid ≡ true) ↔ AcceptsEach w root instance)
      × ((first : Option Error) → FromSomeDepth (λ v. FirstSays v limit first) → (first ≡ None) ↔ AcceptsEach w root instance)
      × ((errors : List Error) → FromSomeDepth (λ v. ErrorsSay v limit errors) → (errors ≡ []) ↔ AcceptsEach w root instance)

module _ {S K R : Type 0} (w : Parts S K R) (keys : Numbers S) (nodes : Nodes K) where
  -- The conditions: numbers stand for keys, unguarded edges lead to a lower rank, and each keyword
  -- keeps its laws and is monotone.
  abbrev pub WhereMonotone : Type 0 → Type 0
  WhereMonotone fact = EachKeeps w.keywords → ((a b : S) → Decides (w.resolver.same_state a b) (a ≡ b)) → AreNumbered w keys nodes → Ranked nodes (length keys) → AreMonotone w.keywords nodes (length keys) → fact

  -- At every sufficient depth, what a number says at a place with no pair in progress is the
  -- greatest solution of its key.
  abbrev pub NumbersSayGreatest : Type 0
  NumbersSayGreatest = WhereMonotone ((root : Key S) (instance : Data) (c : Completion) (i : ℕ) (k : Key S) (path : Text) (p : Place) → Reached w root k → IsNumber keys i k
      → (n : ℕ) → left nodes (length keys) i (subject w instance p) [] < n
      → ((guarded_says w instance nodes (length keys) c n i path p []).verdict ≡ true) ↔ AcceptsGreatest w root instance c k p)

  -- If every key that the root reaches has a number, one of the sets that stand by themselves
  -- contains every pair that any of them contains.
  abbrev pub LargestStands : Type 0
  LargestStands = WhereMonotone ((root : Key S) → ((k : Key S) → Reached w root k → (i : ℕ) × IsNumber keys i k) → (instance : Data) (c : Completion)
      → (accepts : Pairs w root instance c) × IsLargest w root instance c accepts)

  -- Sets of keys, each with its location, base and start, accept the same as sets of targets.
  abbrev pub KeysAcceptAlike : Type 0
  KeysAcceptAlike = WhereMonotone ((root : Key S) (instance : Data) (c : Completion) (i : ℕ) (k : Key S) (p : Place) → Reached w root k → IsNumber keys i k
      → by_keys.AcceptsGreatest w instance c k p ↔ AcceptsGreatest w root instance c k p)

  -- From some depth on, nodes accept an instance under every completion if and only if the greatest
  -- solutions do.
  abbrev pub NumbersAcceptGreatest : Type 0
  NumbersAcceptGreatest = WhereMonotone ((instance : Data) (i : ℕ) (root : Key S) → IsNumber keys i root
      → Guardedly w.keywords w.matcher nodes (subject w instance) i (λ v. EachAccepts v ↔ AcceptsEach w root instance))

  -- So a call that answers its nodes as the headline says, and decides within its limit, answers
  -- yes if and only if the greatest solutions accept.
  abbrev pub GreatestAnswers : Type 0
  GreatestAnswers = WhereMonotone ((instance : Data) (i : ℕ) (root : Key S) → IsNumber keys i root → (limit : ℕ) → CallsSayGreatest w nodes instance i root limit)

  -- If the matcher finishes every match, every call that makes a run answers so.
  abbrev pub FinishingAnswers : Type 0
  FinishingAnswers = WhereMonotone (Finishes w.matcher → (instance : Data) (i : ℕ) (root : Key S) → IsNumber keys i root → (limit : ℕ) → 1 ≤ limit → CallsFinish w nodes instance i root limit)

  -- If no chain of questions returns, the greatest solution accepts if and only if the plain
  -- meaning does.
  abbrev pub PlainIsGreatest : Type 0
  PlainIsGreatest = WhereMonotone (ValuesInside w → MakersAskBelow w.table → (instance : Data) (i : ℕ) (root : Key S) → IsNumber keys i root
      → Plainly w root instance (λ v. EachAccepts v ↔ AcceptsEach w root instance))

-- Numbers of keys that a root reaches have monotone keywords if every keyword of a reached key is
-- monotone.
abbrev pub NumbersAreMonotone : {S K R : Type 0} → Parts S K R → List (Key S) → Nodes K → Type 0
NumbersAreMonotone {S} w keys nodes = AreNumbered w (map Some keys) nodes → (root : Key S) → ((i : ℕ) (k : Key S) → slice_get keys i ≡ Some k → Reached w root k)
    → EachIsMonotone w root → AreMonotone w.keywords nodes (length keys)

-- ---- numbers of the keys that a root reaches, as a compiler produces them

module _ {S K R : Type 0} (w : Parts S K R) (keys : List (Key S)) (nodes : Nodes K) where
  -- The conditions: numbers stand for keys that the root reaches, unguarded edges lead to a lower
  -- rank, and each keyword keeps its laws and, if it belongs to a reached key, is monotone.
  abbrev pub WhereEachIsMonotone : (Key S → Type 0) → Type 0
  WhereEachIsMonotone fact = EachKeeps w.keywords → ((a b : S) → Decides (w.resolver.same_state a b) (a ≡ b)) → AreNumbered w (map Some keys) nodes → Ranked nodes (length keys)
      → (root : Key S) → ((i : ℕ) (k : Key S) → slice_get keys i ≡ Some k → Reached w root k) → EachIsMonotone w root → fact root

  -- The calls that decide answer yes if and only if the greatest solutions accept.
  abbrev pub ReachedAnswer : Type 0
  ReachedAnswer = WhereEachIsMonotone (λ root. (instance : Data) (i : ℕ) → slice_get keys i ≡ Some root → (limit : ℕ) → CallsSayGreatest w nodes instance i root limit)

  -- If the matcher finishes every match, every call that makes a run answers so.
  abbrev pub ReachedFinish : Type 0
  ReachedFinish = WhereEachIsMonotone (λ root. Finishes w.matcher → (instance : Data) (i : ℕ) → slice_get keys i ≡ Some root → (limit : ℕ) → 1 ≤ limit → CallsFinish w nodes instance i root limit)

  -- If every key that the root reaches has a number, there is a largest set.
  abbrev pub ReachedStand : Type 0
  ReachedStand = WhereEachIsMonotone (λ root. ((k : Key S) → Reached w root k → (i : ℕ) × (slice_get keys i ≡ Some k)) → (instance : Data) (c : Completion)
      → (accepts : Pairs w root instance c) × IsLargest w root instance c accepts)
