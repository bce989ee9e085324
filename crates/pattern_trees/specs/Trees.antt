-- The relation that a pattern stands for if it has no back reference. That it is ECMA-262's definition
-- then is proved in proofs/Matched.
use Rattle.std.specs.Prelude.{◌≡◌, ℕ, ◌-◌, ◌⊎◌, List, [], ◌∷◌, option_map}
use Rattle.pattern_trees.specs.Patterns.{Pattern, Empty, One, Then, Either, Repeat, At, Look, IsWithin}
use Rattle.pattern_trees.specs.Nodes.{Node}
use Rattle.pattern_trees.specs.Nodes as node
use Rattle.pattern_trees.specs.Matching.{State}

-- groups leave no trace in it, and a back reference matches nothing
abbrev pub pattern_of : Node → Pattern
pattern_of node.Nothing = Empty
pattern_of (node.OneOf spans) = One spans
pattern_of (node.At edge) = At edge
pattern_of (node.Reference k) = One []
pattern_of (node.Group k a) = pattern_of a
pattern_of (node.Around look a) = Look look.ahead look.wanted (pattern_of a)
pattern_of (node.Times t a) = Repeat t.min (option_map (λ most. most - t.min) t.max) (pattern_of a)
pattern_of (node.Pair a b) = Then (pattern_of a) (pattern_of b)
pattern_of (node.Choice a b) = Either (pattern_of a) (pattern_of b)

-- a pattern without back references, whose quantifiers have their numbers in order
abbrev pub IsPlain : Node → Type 0
IsPlain node.Nothing = Unit {0}
IsPlain (node.OneOf spans) = Unit {0}
IsPlain (node.At edge) = Unit {0}
IsPlain (node.Reference k) = ⊥
IsPlain (node.Group k a) = IsPlain a
IsPlain (node.Around look a) = IsPlain a
IsPlain (node.Times t a) = IsWithin t.min t.max × IsPlain a
IsPlain (node.Pair a b) = IsPlain a × IsPlain b
IsPlain (node.Choice a b) = IsPlain a × IsPlain b

-- a result lies at the position
abbrev pub Has : ℕ → List State → Type 0
Has j [] = ⊥
Has j (y ∷ ys) = (y.place ≡ j) ⊎ Has j ys

abbrev pub Iff : Type 0 → Type 0 → Type 0
Iff P Q = (P → Q) × (Q → P)
