-- What stands while a pattern is read: the groups that are open, and what each has so far.
use Rattle.std.specs.Prelude.{ℕ, ◌+◌, ◌-◌, Bool, true, false, not, ◌&&◌, ◌||◌, ◌==◌, nat_le, List, [], ◌∷◌, length, Option, Some, None, if◌then◌else◌, Result, Ok, Err}
use Rattle.pattern_trees.specs.Nodes.{Node, Nothing, Group, Around, Times, Pair, Choice}
use Rattle.pattern_trees.specs.declared.tree.Edge.{Edge}
use Rattle.pattern_trees.specs.declared.tree.Turns.{Turns}
use Rattle.pattern_characters.specs.Characters.{clamped}
use Rattle.pattern_characters.specs.Counts.{in_order}
use Rattle.pattern_characters.specs.declared.faults.Fault.{Fault}
use Rattle.pattern_characters.specs.declared.faults.Fault.TheVariants.{NothingToRepeat, NumbersOutOfOrder, NoGroupToClose, TooDeep, TooManyGroups}
use Rattle.pattern_characters.specs.declared.parts.Count.{Count}
use Rattle.pattern_characters.specs.declared.parts.Flags.{Flags}
use Rattle.pattern_characters.specs.declared.parts.Grammar.{Grammar}
use Rattle.pattern_reader.specs.Edges.{edge_node}
use Rattle.pattern_reader.specs.declared.parts.Wrap.{Wrap}
use Rattle.pattern_reader.specs.declared.parts.Wrap.TheVariants as wrap

-- Nodes to be joined, the last one first, each with its rank. How pairs of them are nested makes no difference to what they match: two of
-- one rank become one of the next, so that a long row of nodes makes no deep one.
abbrev pub Parts : Type 0
Parts = List (ℕ × Node)

abbrev pub join : Bool → Node → Node → Node
join beside a b = if beside then Choice a b else Pair a b

-- the parts with one more node behind them
unfoldable pub added : Bool → ℕ → Node → Parts → Parts
added beside rank a [] = (rank, a) ∷ []
added beside rank a (p ∷ parts) =
    if p.0 == rank then added beside (clamped (rank + 1)) (join beside p.1 a) parts else (rank, a) ∷ p ∷ parts

unfoldable pub joined_to : Bool → Node → Parts → Node
joined_to beside a [] = a
joined_to beside a (p ∷ parts) = joined_to beside (join beside p.1 a) parts

-- all of them, one after the other or one beside the other
abbrev pub joined : Bool → Parts → Node
joined beside [] = Nothing
joined beside (p ∷ parts) = joined_to beside p.1 parts

-- the term that was read last, to which a quantifier would apply
pub record Term : Type 0 where
  pub node : Node
  -- the number of groups before it
  pub before : ℕ
  -- whether it may be repeated
  pub repeatable : Bool

-- a group that is open, or the pattern itself
pub record Level : Type 0 where
  -- what it becomes when it is closed
  pub wrap : Wrap
  -- the number of groups before it
  pub before : ℕ
  pub flags : Flags
  -- the alternatives before this one
  pub others : Parts
  -- the terms of this one but the last
  pub terms : Parts
  pub last : Option Term

-- the innermost group that is open, those around it from the innermost on, and the number of groups so far
pub record State : Type 0 where
  pub top : Level
  pub around : List Level
  pub groups : ℕ

abbrev pub level : Wrap → ℕ → Flags → Level
level w before f = record { wrap = w; before = before; flags = f; others = []; terms = []; last = None }

abbrev pub start : Flags → State
start f = record { top = level wrap.Plain 0 f; around = []; groups = 0 }

abbrev pub all_terms : Parts → Option Term → Parts
all_terms parts None = parts
all_terms parts (Some t) = added false 0 t.node parts

-- an alternative's terms, one after the other
abbrev pub alternative : Level → Node
alternative l = joined false (all_terms l.terms l.last)

-- Disjunction :: Alternative | Disjunction: the next alternative begins
abbrev pub next_alternative : Level → Level
next_alternative l = record l { others = added true 0 (alternative l) l.others; terms = []; last = None }

-- the alternatives of a level, one beside the other
abbrev pub body : Level → Node
body l = joined true (added true 0 (alternative l) l.others)

-- Alternative :: Alternative Term
abbrev pub with_term : Node → ℕ → Bool → Level → Level
with_term a before repeatable l = record l {
  terms = all_terms l.terms l.last;
  last = Some (record { node = a; before = before; repeatable = repeatable });
}

abbrev pub with_top : Level → State → State
with_top l s = record s { top = l }

-- an atom that is no group
abbrev pub with_atom : Node → State → State
with_atom a s = with_top (with_term a s.groups true s.top) s

-- Assertion: in other engines' spelling it may be repeated
abbrev pub with_edge : Grammar → Edge → State → State
with_edge g edge s = with_top (with_term (edge_node s.top.flags edge) s.groups g.extended s.top) s

-- there may be 65,535 groups
abbrev pub with_group : Bool → ℕ → Option ℕ
with_group captures groups = if captures then (if nat_le 65535 groups then None else Some (groups + 1)) else Some groups

abbrev pub opened_to : Wrap → Flags → State → Option ℕ → Result State Fault
opened_to w f s None = Err TooManyGroups
opened_to w f s (Some groups) = Ok (record { top = level w s.groups f; around = s.top ∷ s.around; groups = groups })

-- 250 groups may be open
unfoldable pub opened : Wrap → Bool → Flags → State → Result State Fault
opened w captures f s = if nat_le 250 (length s.around) then Err TooDeep else opened_to w f s (with_group captures s.groups)

abbrev pub wrapped : Wrap → Node → Node
wrapped wrap.Plain a = a
wrapped (wrap.Capture k) a = Group k a
wrapped (wrap.Around look) a = Around look a

-- a group may be repeated; a lookahead in the older grammar (B.1.2, QuantifiableAssertion), in other engines' spelling each lookaround
abbrev pub is_repeatable : Grammar → Wrap → Bool
is_repeatable g wrap.Plain = true
is_repeatable g (wrap.Capture k) = true
is_repeatable g (wrap.Around look) = g.extended || (not g.strict && look.ahead)

abbrev pub closed_to : Grammar → ℕ → Level → List Level → Result State Fault
closed_to g groups top [] = Err NoGroupToClose
closed_to g groups top (l ∷ around) =
    Ok (record {
      top = with_term (wrapped top.wrap (body top)) top.before (is_repeatable g top.wrap) l;
      around = around;
      groups = groups;
    })

-- a closing bracket
unfoldable pub closed : Grammar → State → Result State Fault
closed g s = closed_to g s.groups s.top s.around

-- Term :: Atom Quantifier (22.2.2.3)
abbrev pub turns : Count → Bool → ℕ → ℕ → Turns
turns c greedy before groups = record { min = c.min; max = c.max; greedy = greedy; groups_before = before; group_count = groups - before }

abbrev pub repeated_term : Count → Bool → ℕ → Term → Term
repeated_term c greedy groups t = record { node = Times (turns c greedy t.before groups) t.node; before = t.before; repeatable = false }

abbrev pub with_last : Term → Level → Level
with_last t l = record l { last = Some t }

abbrev pub repeated_last : Count → Bool → State → Option Term → Result State Fault
repeated_last c greedy s None = Err NothingToRepeat
repeated_last c greedy s (Some t) =
    if not t.repeatable then Err NothingToRepeat
    else if not (in_order c) then Err NumbersOutOfOrder
    else Ok (with_top (with_last (repeated_term c greedy s.groups t) s.top) s)

unfoldable pub repeated : Count → Bool → State → Result State Fault
repeated c greedy s = repeated_last c greedy s s.top.last
