-- The questions that a keyword declares up front for its run for the verdict, and how the verdict
-- follows from the answers and from matches.
use Rattle.std.specs.List.{list_all, list_any}
use Rattle.std.specs.Prelude.{Bool, List, [], false, is_some, length, map, min, not, string_bytes, suc, true, zero, ℕ, ◌&&◌, ◌+◌, ◌-◌, ◌||◌, ◌∷◌, ◌≡◌}
use Rattle.serde_json.specs.Data.{array, object}
use Rattle.serde_json.specs.View.{items_view, members_view}
use Rattle.theory_definitions.specs.Instance.{Subject, Text, a_value, after_step, to_item, to_member, to_name}
use Rattle.theory_definitions.specs.Keywords.{Keywords, Question, down, here}
use Rattle.theory_definitions.specs.Matching.{Matching}
use Rattle.schema_traits.specs.declared.asking.Asking.{Asking}
use Rattle.schema_traits.specs.declared.asking.Asking.TheVariants as asking

-- the question of a child at the keyword's own place, at an item and at a member, and of the first
-- child at a name
abbrev pub child_here : ℕ → Question
child_here i = record { child = i; below = here }

abbrev pub child_at : ℕ → ℕ → Question
child_at i k = record { child = i; below = down (to_item k) }

abbrev pub child_below : ℕ → Text → Question
child_below i k = record { child = i; below = down (to_member k) }

abbrev pub first_at_name : Text → Question
first_at_name k = record { child = 0; below = down (to_name k) }

-- the given count of consecutive numbers, starting at i
abbrev pub numbers_from : ℕ → ℕ → List ℕ
numbers_from i zero = []
numbers_from i (suc n) = i ∷ numbers_from (i + 1) n

-- each child accepts the member with its name, if there is one
abbrev pub all_at_names : (Question → Bool) → Subject → ℕ → List Text → Bool
all_at_names accepts s i [] = true
all_at_names accepts s i (k ∷ ks) = (not (is_some (after_step (to_member k) s)) || accepts (child_below i k)) && all_at_names accepts s (i + 1) ks

-- the verdict by the answers to the questions about a subject, and by matches; it says nothing if
-- turns decide the verdict
abbrev pub asked_holds : Asking → Subject → Matching → (Question → Bool) → Bool
asked_holds asking.ByTurns s matching accepts = true
asked_holds (asking.Each n) s matching accepts = list_all accepts (map child_here (numbers_from 0 n))
asked_holds (asking.One n) s matching accepts = list_any accepts (map child_here (numbers_from 0 n))
asked_holds (asking.Items before items) s matching accepts = list_all (λ k. accepts (child_at 0 k)) (numbers_from before (length items.now - before))
asked_holds (asking.Listed n items) s matching accepts = list_all (λ k. accepts (child_at k k)) (numbers_from 0 (min n (length items.now)))
asked_holds (asking.Members names ms) s matching accepts = all_at_names accepts s 0 names.now
asked_holds (asking.Names ms) s matching accepts = list_all (λ e. accepts (first_at_name (string_bytes e.0))) ms.now.entries
asked_holds (asking.Match pattern text) s matching accepts = matching.matches pattern.now text.now

-- whether the questions are declared up front, and not left to turns
abbrev pub tells_at_once : Asking → Bool
tells_at_once asking.ByTurns = false
tells_at_once a = true

-- the items and the members that it holds are those of the subject
abbrev pub AreOwn : Asking → Subject → Type 0
AreOwn (asking.Items before items) s = s ≡ a_value (array (items_view items.now))
AreOwn (asking.Listed n items) s = s ≡ a_value (array (items_view items.now))
AreOwn (asking.Members names ms) s = s ≡ a_value (object (members_view ms.now.entries))
AreOwn (asking.Names ms) s = s ≡ a_value (object (members_view ms.now.entries))
AreOwn a s = Unit {0}

-- the keyword accepts exactly if the answers and the matches say so
pub record HoldsAsTold {K R : Type 0} (keywords : Keywords K R) (m : K) (s : Subject) (a : Asking) : Type 0 where
  pub own : AreOwn a s
  pub says : tells_at_once a ≡ true → (matching : Matching) (accepts : Question → Bool) → keywords.holds m s matching accepts ≡ asked_holds a s matching accepts
