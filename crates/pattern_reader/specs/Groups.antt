-- Which groups a pattern has, and their names.
use Rattle.std.specs.Prelude.{ℕ, ◌+◌, Bool, true, false, not, ◌&&◌, ◌||◌, ◌==◌, List, [], ◌∷◌, ◌++◌, Option, Some, None, option_map, option_and_then, map, if◌then◌else◌}
use Rattle.pattern_trees.specs.Nodes.{Node, Reference, Pair}
use Rattle.pattern_characters.specs.Characters.{Text, after, starts, clamped}
use Rattle.pattern_characters.specs.Names.{name}
use Rattle.pattern_reader.specs.declared.groups.GroupName.{GroupName}
use Rattle.pattern_reader.specs.declared.groups.Place.{Place}

-- the names of the groups in order, and none for a group without one
abbrev pub Names : Type 0
Names = List (Option Text)

-- the names as the code has them
abbrev pub name_of : GroupName → Option Text
name_of n = option_map (λ v. v.items) n.name

abbrev pub names_of : List GroupName → Names
names_of names = map name_of names

-- the name, if one follows `<` and none of the signs of a lookbehind
abbrev pub named_group : Option Text → Names
named_group None = []
named_group (Some text) =
    if starts (λ c. (c == 61) || (c == 33)) text then [] else option_map (λ p. p.0) (name text) ∷ []

-- the group that begins after this opening bracket, if it captures; where other engines' spellings are read, ?P< begins a name too
abbrev pub group_after : Bool → Text → Names
group_after extended [] = None ∷ []
group_after extended (c ∷ rest) =
    if c == 63 then
    (if extended && starts (λ d. d == 80) rest then named_group (option_and_then (after 60) (after 80 rest))
    else named_group (after 60 rest))
    else None ∷ []

-- after a backslash, or in a class, brackets begin no group
abbrev pub next_place : Place → ℕ → Place
next_place p c =
    if p.escaped then record { escaped = false; in_class = p.in_class }
    else record { escaped = c == 92; in_class = if p.in_class then not (c == 93) else (c == 91) }

abbrev pub opens : Place → ℕ → Bool
opens p c = not p.escaped && not p.in_class && (c == 40)

abbrev pub group_if : Bool → Bool → Text → Names
group_if extended begins text = if begins then group_after extended text else []

-- CountLeftCapturingParensWithin (22.2.1.2) and their names, of the text itself
unfoldable pub groups_from : Bool → Place → Text → Names
groups_from extended p [] = []
groups_from extended p (c ∷ rest) = group_if extended (opens p c) rest ++ groups_from extended (next_place p c) rest

abbrev pub at_first : Place
at_first = record { escaped = false; in_class = false }

unfoldable pub groups_of : Bool → Text → Names
groups_of extended text = groups_from extended at_first text

-- two texts are the same
unfoldable pub same_text : Text → Text → Bool
same_text [] [] = true
same_text [] (d ∷ ds) = false
same_text (c ∷ cs) [] = false
same_text (c ∷ cs) (d ∷ ds) = (c == d) && same_text cs ds

abbrev pub is_named : Text → Option Text → Bool
is_named wanted None = false
is_named wanted (Some n) = same_text wanted n

-- some group has a name
unfoldable pub has_names : Names → Bool
has_names [] = false
has_names (None ∷ names) = has_names names
has_names (Some n ∷ names) = true

-- some group has this name
unfoldable pub has_name : Text → Names → Bool
has_name wanted [] = false
has_name wanted (n ∷ names) = if is_named wanted n then true else has_name wanted names

abbrev pub with_reference : Bool → Node → ℕ → Node
with_reference named so_far k = if named then Pair so_far (Reference k) else so_far

-- references to the groups of a name, from a number on, after those so far: no more than one of them has captured (22.2.2.9, \k GroupName)
unfoldable pub references : Text → ℕ → Node → Names → Node
references wanted k so_far [] = so_far
references wanted k so_far (n ∷ names) = references wanted (clamped (k + 1)) (with_reference (is_named wanted n) so_far k) names
