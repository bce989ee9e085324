-- What a text means as a pattern (ECMA-262, 22.2.1 and B.1.2): a character or a production at a time, with the groups that are open.
use Rattle.std.specs.Prelude.{ℕ, suc, ◌+◌, ◌-◌, Bool, true, false, not, ◌&&◌, ◌||◌, ◌==◌, nat_le, List, [], ◌∷◌, length, Option, Some, None, option_map, if◌then◌else◌, Result, Ok, Err}
use Rattle.pattern_trees.specs.Nodes.{Node, Nothing, OneOf, At, Reference, Group, Around, Times, Pair, Choice}
use Rattle.pattern_trees.specs.declared.tree.Edge.TheVariants.{TextStart, TextEnd, LineStart, LineEnd, WordEdge, NoWordEdge}
use Rattle.pattern_trees.specs.declared.tree.Edge.{Edge}
use Rattle.pattern_characters.specs.Characters.{Text, ◌>>=◌, or_fault, is_between, after, number, clamped}
use Rattle.pattern_characters.specs.Classes.{class}
use Rattle.pattern_characters.specs.Counts.{braces, count}
use Rattle.pattern_characters.specs.Escapes.{member}
use Rattle.pattern_characters.specs.Names.{name}
use Rattle.pattern_reader.specs.Groups.{Names, groups_of, has_names, has_name, references, is_named}
use Rattle.pattern_reader.specs.Openings.{opening, no_flags}
use Rattle.pattern_characters.specs.Sets.{member_node, dot_node}
use Rattle.pattern_reader.specs.States.{State, Term, start, next_alternative, body, with_atom, with_edge, with_top, opened, closed, repeated}
use Rattle.pattern_characters.specs.declared.faults.Fault.{Fault}
use Rattle.pattern_characters.specs.declared.faults.Fault.TheVariants.{LoneBracket, BadEscape, NoSuchGroup, NoSuchName, BadName, OpenGroup, SameName, ReferenceIgnoringCase}
use Rattle.pattern_reader.specs.declared.errors.Refusal.{Refusal}
use Rattle.pattern_reader.specs.declared.errors.ReadError.{ReadError}
use Rattle.pattern_characters.specs.declared.parts.Count.{Count}
use Rattle.pattern_characters.specs.declared.parts.Flags.{Flags}
use Rattle.pattern_characters.specs.declared.parts.Grammar.{Grammar}
use Rattle.pattern_characters.specs.declared.parts.Member.TheVariants.{One}
use Rattle.pattern_reader.specs.declared.parts.Opening.{Opening}
use Rattle.pattern_reader.specs.declared.parts.Opening.TheVariants as opens
use Rattle.pattern_reader.specs.declared.parts.Wrap.TheVariants as wrap

abbrev pub kept_once : Term → Term
kept_once t = record t { repeatable = false }

-- flags that hold up to the end of the innermost group; no quantifier after them applies to what stands before them
abbrev pub with_flags : Flags → State → State
with_flags f s = with_top (record (s.top) { flags = f; last = option_map kept_once s.top.last }) s

unfoldable pub begun : State → Opening → Result State Fault
begun s opens.Capture = opened (wrap.Capture s.groups) true s.top.flags s
begun s (opens.Plain f) = opened wrap.Plain false f s
begun s (opens.Around look) = opened (wrap.Around look) false s.top.flags s
begun s (opens.Inline f) = Ok (with_flags f s)

-- an opening bracket, and what follows it
unfoldable pub group : Grammar → State → Text → Result (State × Text) Fault
group g s rest = do
  o ← opening g s.top.flags rest
  new ← begun s o.0
  Ok (new, o.1)

abbrev pub lazy : Count → State → Text → Option Text → Result (State × Text) Fault
lazy c s rest None = repeated c true s >>= λ new. Ok (new, rest)
lazy c s rest (Some more) = repeated c false s >>= λ new. Ok (new, more)

-- ? makes a quantifier lazy
unfoldable pub quantified : Count → State → Text → Result (State × Text) Fault
quantified c s rest = lazy c s rest (after 63 rest)

unfoldable pub literal : ℕ → State → State
literal c s = with_atom (member_node s.top.flags (One c)) s

-- { that begins no quantifier stands for itself in the older grammar (B.1.2, ExtendedPatternCharacter)
unfoldable pub braced : Grammar → State → Text → Option (Count × Text) → Result (State × Text) Fault
braced g s rest None = if g.strict then Err LoneBracket else Ok (literal 123 s, rest)
braced g s rest (Some p) = quantified p.0 s p.1

-- a back reference; under the flag i it is not supported
unfoldable pub referred : Node → State → Text → Result (State × Text) Fault
referred a s rest = if s.top.flags.ignore_case then Err ReferenceIgnoringCase else Ok (with_atom a s, rest)

-- the set of an escape
unfoldable pub escaped_set : Grammar → State → Text → Result (State × Text) Fault
escaped_set g s text = do
  m ← member g false text
  Ok (with_atom (member_node s.top.flags m.0) s, m.1)

-- \k GroupName
unfoldable pub named_reference : Names → State → Text → Result (State × Text) Fault
named_reference names s text = do
  angle ← or_fault BadName (after 60 text)
  p ← or_fault BadName (name angle)
  if has_name p.0 names then referred (references p.0 0 Nothing names) s p.1 else Err NoSuchName

-- \ DecimalEscape: the number of a group, or in the older grammar another escape
unfoldable pub numbered : Grammar → State → Text → Option (ℕ × Text) → Result (State × Text) Fault
numbered g s text None = escaped_set g s text
numbered g s text (Some p) =
    if nat_le p.0 g.groups then referred (Reference (p.0 - 1)) s p.1
    else if g.strict then Err NoSuchGroup
    else escaped_set g s text

-- \b \B, and as other engines have them \A, \z and \Z
abbrev pub edge_of : Grammar → ℕ → Option Edge
edge_of g c =
    if c == 98 then Some WordEdge
    else if c == 66 then Some NoWordEdge
    else if g.extended && (c == 65) then Some TextStart
    else if g.extended && ((c == 122) || (c == 90)) then Some TextEnd
    else None

unfoldable pub or_edge : Grammar → Names → State → ℕ → Text → Option Edge → Result (State × Text) Fault
or_edge g names s c rest (Some edge) = Ok (with_edge g edge s, rest)
or_edge g names s c rest None =
    if (c == 107) && (g.strict || g.named) then named_reference names s rest
    else if is_between 49 57 c then numbered g s (c ∷ rest) (number (c ∷ rest))
    else escaped_set g s (c ∷ rest)

-- AtomEscape or an Assertion, after its backslash
unfoldable pub escape : Grammar → Names → State → Text → Result (State × Text) Fault
escape g names s [] = Err BadEscape
escape g names s (c ∷ rest) = or_edge g names s c rest (edge_of g c)

unfoldable pub class_atom : Grammar → State → Text → Result (State × Text) Fault
class_atom g s text = do
  p ← class g s.top.flags text
  Ok (with_atom (OneOf p.0) s, p.1)

-- * + ?
abbrev pub sign_count : ℕ → Count
sign_count c = if c == 42 then count 0 None else if c == 43 then count 1 None else count 0 (Some 1)

-- a character that stands for itself: with the flag u none of ] and }
unfoldable pub itself : Grammar → State → ℕ → Text → Result (State × Text) Fault
itself g s c rest = if g.strict && ((c == 93) || (c == 125)) then Err LoneBracket else Ok (literal c s, rest)

unfoldable pub closing : Grammar → State → Text → Result (State × Text) Fault
closing g s rest = closed g s >>= λ new. Ok (new, rest)

abbrev pub line_start : Flags → Edge
line_start f = if f.multiline then LineStart else TextStart

abbrev pub line_end : Flags → Edge
line_end f = if f.multiline then LineEnd else TextEnd

-- one step: a bar, a bracket, an assertion, an atom or a quantifier
unfoldable pub step : Grammar → Names → State → ℕ → Text → Result (State × Text) Fault
step g names s c rest =
    if c == 124 then Ok (with_top (next_alternative s.top) s, rest)
    else if c == 40 then group g s rest
    else if c == 41 then closing g s rest
    else if c == 94 then Ok (with_edge g (line_start s.top.flags) s, rest)
    else if c == 36 then Ok (with_edge g (line_end s.top.flags) s, rest)
    else if c == 46 then Ok (with_atom (dot_node s.top.flags) s, rest)
    else if c == 91 then class_atom g s rest
    else if c == 92 then escape g names s rest
    else if (c == 42) || (c == 43) || (c == 63) then quantified (sign_count c) s rest
    else if c == 123 then braced g s rest (braces rest)
    else itself g s c rest

abbrev pub refusal : {A : Type 0} → Fault → ℕ → Result A Refusal
refusal e left = Err (record { fault = e; left = left })

abbrev pub if_closed : {A : Type 0} → State → List A → Result State Refusal
if_closed s [] = Ok s
if_closed s (l ∷ ls) = refusal OpenGroup 0

abbrev pub ended : State → Result State Refusal
ended s = if_closed s s.around

abbrev pub then_on : (State → Text → Result State Refusal) → ℕ → Result (State × Text) Fault → Result State Refusal
then_on more left (Err e) = refusal e left
then_on more left (Ok p) = more p.0 p.1

-- step by step to the end: each takes a character or more, so there are no more than there are characters
unfoldable pub read_from : Text → Grammar → Names → State → Text → Result State Refusal
read_from [] g names s text = ended s
read_from (one ∷ steps) g names s [] = ended s
read_from (one ∷ steps) g names s (c ∷ rest) = then_on (λ new more. read_from steps g names new more) (suc (length rest)) (step g names s c rest)

-- a node has the group of a number
abbrev pub has_group : ℕ → Node → Bool
has_group k Nothing = false
has_group k (OneOf spans) = false
has_group k (At edge) = false
has_group k (Reference j) = false
has_group k (Group j a) = if j == k then true else has_group k a
has_group k (Around look a) = has_group k a
has_group k (Times t a) = has_group k a
has_group k (Pair a b) = if has_group k a then true else has_group k b
has_group k (Choice a b) = if has_group k a then true else has_group k b

-- each of two nodes has one of two groups
abbrev pub divide : ℕ → ℕ → Node → Node → Bool
divide k j a b = (has_group k a && has_group j b) || (has_group j a && has_group k b)

-- two groups are in two alternatives of a disjunction, so that they never both take part in a match (22.2.1.3, MightBothParticipate)
abbrev pub apart : ℕ → ℕ → Node → Bool
apart k j Nothing = false
apart k j (OneOf spans) = false
apart k j (At edge) = false
apart k j (Reference i) = false
apart k j (Group i a) = apart k j a
apart k j (Around look a) = apart k j a
apart k j (Times t a) = apart k j a
apart k j (Pair a b) = if apart k j a then true else apart k j b
apart k j (Choice a b) = if divide k j a b then true else (if apart k j a then true else apart k j b)

abbrev pub is_same_name : Option Text → Option Text → Bool
is_same_name None n = false
is_same_name (Some m) n = is_named m n

-- a group has the name of a further one, from a number on, that may take part in a match with it
unfoldable pub clash_with : Option Text → ℕ → Node → ℕ → Names → Bool
clash_with m k a j [] = false
clash_with m k a j (n ∷ names) = if is_same_name m n && not (apart k j a) then true else clash_with m k a (clamped (j + 1)) names

-- two groups of one name, from a number on, may both take part in a match
unfoldable pub clash : ℕ → Node → Names → Bool
clash k a [] = false
clash k a (n ∷ names) = if clash_with n k a (clamped (k + 1)) names then true else clash (clamped (k + 1)) a names

-- a reading: a node, and the number of its groups
pub record Reading : Type 0 where
  pub node : Node
  pub groups : ℕ

abbrev pub grammar : Bool → Bool → Names → Grammar
grammar strict extended names = record { strict = strict; extended = extended; named = has_names names; groups = length names }

-- what the state at the end stands for
abbrev pub finished : Names → Result State Refusal → Result Reading Refusal
finished names (Err e) = Err e
finished names (Ok s) =
    if clash 0 (body s.top) names then refusal SameName 0
    else Ok (record { node = body s.top; groups = s.groups })

-- what a text means by one of the grammars
unfoldable pub read_by : Bool → Bool → Text → Result Reading Refusal
read_by strict extended text =
    let names = groups_of extended text in finished names (read_from text (grammar strict extended names) names (start no_flags) text)

abbrev pub or_older : Result Reading Refusal → Result Reading Refusal → Result Reading Refusal
or_older (Ok r) older = Ok r
or_older (Err e) older = older

-- what a text means: by the grammar with the flag u, or else by the older one, both with the spellings of other engines;
-- the older one has the texts of the other too, so it says why a text is of neither
unfoldable pub read : Text → Result Reading Refusal
read text = or_older (read_by true true text) (read_by false true text)

-- the reading, or why there is none and at which character
abbrev pub located : Text → Result Reading Refusal → Result Reading ReadError
located text (Ok r) = Ok r
located text (Err e) = Err (record { fault = e.fault; position = length text - e.left })

-- the standard itself has the text, by one of its grammars
unfoldable pub is_ecma : Text → Bool
is_ecma text = is_read (or_older (read_by true false text) (read_by false false text))
  where
    is_read : Result Reading Refusal → Bool
    is_read (Ok r) = true
    is_read (Err e) = false
