-- Which runs ask their children for units.
use Rattle.std.specs.Prelude.{zero, suc, ℕ, ◌≡◌}
use Rattle.theory_definitions.specs.Instance.{Subject}
use Rattle.theory_definitions.specs.Keywords.{Keywords, Mode, Reply, Turn, ask, for_units, no_reply}

-- a turn asks no child for its units
abbrev pub AsksForLess : Turn → Type 0
AsksForLess (ask q mode) = ¬ (mode ≡ for_units)
AsksForLess _ = Unit {0}

module _ {K R : Type 0} (keywords : Keywords K R) (m : K) (s : Subject) where
  -- none of the next n turns asks for units, whatever the replies
  abbrev pub AlwaysAsksForLess : ℕ → R → Reply → Type 0
  AlwaysAsksForLess zero r reply = Unit {0}
  AlwaysAsksForLess (suc n) r reply = AsksForLess (keywords.step m s r reply) × ((next : Reply) → AlwaysAsksForLess n (keywords.turn m s r reply) next)

-- a run that is not for units asks no child for its units
abbrev pub AsksNoUnits : {K R : Type 0} → Keywords K R → Type 0
AsksNoUnits {K} keywords = (m : K) (s : Subject) (mode : Mode) → ¬ (mode ≡ for_units) → AlwaysAsksForLess keywords m s (keywords.most_turns m s) (keywords.begin m s mode) no_reply
