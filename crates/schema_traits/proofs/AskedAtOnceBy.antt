-- The verdict of an asking, by its questions.
use Rattle.std.proofs.Common.{[], ap, cond, false, is_some, length, min, not, refl, string_bytes, sym, true, ℕ, Bool, List, ◌&&◌, ◌+◌, ◌-◌, ◌||◌, ◌∷◌, ◌≡◌}
use Rattle.std.proofs.lemmas.List.Folds.{list_all-map}
use Rattle.std.specs.List.{list_all, list_any}
use Rattle.theory_definitions.specs.Instance.{Subject, Text, after_step, to_member}
use Rattle.theory_definitions.specs.Keywords.{Question}
use Rattle.theory_definitions.specs.Matching.{Matching}
use Rattle.schema_traits.specs.AskedAtOnce.{all_at_names, asked_holds, child_at, child_below, first_at_name, numbers_from}
use Rattle.schema_traits.specs.declared.asking.Asking.{Asking}
use Rattle.schema_traits.specs.declared.asking.Asking.TheVariants as asking
use Rattle.schema_traits.specs.Questions.{asks_for_all, at_names, puts_questions, questions_of}

names_alike : (accepts : Question → Bool) (s : Subject) (i : ℕ) (ks : List Text) → all_at_names accepts s i ks ≡ list_all accepts (at_names s i ks)
names_alike accepts s i [] = refl
names_alike accepts s i (k ∷ ks) =
    let go : (b : Bool) → ((not b || accepts (child_below i k)) && all_at_names accepts s (i + 1) ks) ≡ list_all accepts (cond b (child_below i k ∷ at_names s (i + 1) ks) (at_names s (i + 1) ks)) = elim [
      | true ↦ ap (λ c. accepts (child_below i k) && c) (names_alike accepts s (i + 1) ks)
      | false ↦ names_alike accepts s (i + 1) ks
    ] in
    go (is_some (after_step (to_member k) s))

-- if all must accept, then the verdict is that each question is accepted
pub asked_all : (a : Asking) (s : Subject) (matching : Matching) (accepts : Question → Bool) → puts_questions a ≡ true → asks_for_all a ≡ true
    → asked_holds a s matching accepts ≡ list_all accepts (questions_of a s)
asked_all asking.ByTurns s matching accepts puts all = cc
asked_all (asking.Each n) s matching accepts puts all = refl
asked_all (asking.One n) s matching accepts puts all = cc
asked_all (asking.Items before items) s matching accepts puts all = sym (list_all-map accepts (child_at 0) (numbers_from before (length items.now - before)))
asked_all (asking.Listed n items) s matching accepts puts all = sym (list_all-map accepts (λ k. child_at k k) (numbers_from 0 (min n (length items.now))))
asked_all (asking.Members names ms) s matching accepts puts all = names_alike accepts s 0 names.now
asked_all (asking.Names ms) s matching accepts puts all = sym (list_all-map accepts (λ e. first_at_name (string_bytes e.0)) ms.now.entries)
asked_all (asking.Match pattern text) s matching accepts puts all = cc

-- if one must accept, then the verdict is that one question is accepted
pub asked_one : (a : Asking) (s : Subject) (matching : Matching) (accepts : Question → Bool) → asks_for_all a ≡ false
    → asked_holds a s matching accepts ≡ list_any accepts (questions_of a s)
asked_one asking.ByTurns s matching accepts one = cc
asked_one (asking.Each n) s matching accepts one = cc
asked_one (asking.One n) s matching accepts one = refl
asked_one (asking.Items before items) s matching accepts one = cc
asked_one (asking.Listed n items) s matching accepts one = cc
asked_one (asking.Members names ms) s matching accepts one = cc
asked_one (asking.Names ms) s matching accepts one = cc
asked_one (asking.Match pattern text) s matching accepts one = cc
