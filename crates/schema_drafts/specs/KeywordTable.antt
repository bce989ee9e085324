-- The keywords of the standard. For each: its name, its priority, whether it is a leaf (it looks at
-- the instance itself and applies no subschema), and for each draft the vocabulary that it needs
-- and its form. (Core 2020-12, 8.1.2, 10 and 11; Validation 2020-12, 6 to 9; Core and Validation
-- 2019-09; drafts 4, 6 and 7)
use Rattle.std.specs.List.{list_all}
use Rattle.std.specs.Prelude.{Bool, List, None, Option, Some, [], bytes_eq, codes, false, find, if◌then◌else◌, length, nat_le, nat_lt, not, option_and_then, option_map, true, ℕ, ◌&&◌, ◌||◌, ◌∷◌, ◌≡◌}
use Rattle.theory_definitions.specs.Instance.{Text}
use Rattle.theory_definitions.specs.Making.{Builtin}
use Rattle.theory_definitions.specs.Drafts.{Draft, Vocabularies, Vocabulary, applicator_vocabulary, content_vocabulary, core_vocabulary, draft_2019_09, draft_2020_12, draft_4, draft_6, draft_7, draft_unknown, has_vocabulary, same_vocabulary, unevaluated_vocabulary, validation_vocabulary}

-- a keyword's form: its usual meaning; the meaning that draft 4 defines; or an annotation, which
-- asserts nothing
pub data Form : Type 0 where
  plain_form draft_4_form annotating_form : Form

-- how a draft supports a keyword: the vocabulary that it needs, if any, and the keyword's form
pub record Support : Type 0 where
  pub need : Option Vocabulary
  pub form : Form

-- a row of the table; the column of a draft without the keyword is `None`
pub record Row : Type 0 where
  pub name : Text
  pub priority : ℕ
  pub is_leaf : Bool
  pub draft_4 : Option Support
  pub draft_6 : Option Support
  pub draft_7 : Option Support
  pub draft_2019_09 : Option Support
  pub draft_2020_12 : Option Support

abbrev pub row : Text → ℕ → Bool → Option Support → Option Support → Option Support → Option Support → Option Support → Row
row name priority is_leaf d4 d6 d7 d19 d20 = record { name = name; priority = priority; is_leaf = is_leaf; draft_4 = d4; draft_6 = d6; draft_7 = d7; draft_2019_09 = d19; draft_2020_12 = d20 }

-- the words that fill the table's columns
abbrev pub absent : Option Support
absent = None

abbrev pub free : Option Support
free = Some (record { need = None; form = plain_form })

abbrev pub legacy : Option Support
legacy = Some (record { need = None; form = draft_4_form })

abbrev pub validation : Option Support
validation = Some (record { need = Some validation_vocabulary; form = plain_form })

abbrev pub applicator : Option Support
applicator = Some (record { need = Some applicator_vocabulary; form = plain_form })

abbrev pub unevaluated : Option Support
unevaluated = Some (record { need = Some unevaluated_vocabulary; form = plain_form })

abbrev pub content : Option Support
content = Some (record { need = Some content_vocabulary; form = annotating_form })

-- the columns are: name, priority, leaf, and the drafts 4, 6, 7, 2019-09 and 2020-12
abbrev pub keyword_table : List Row
keyword_table =
    row (codes "type") 1 true legacy validation validation validation validation ∷
    row (codes "const") 5 true absent validation validation validation validation ∷
    row (codes "enum") 6 true validation validation validation validation validation ∷
    row (codes "minimum") 10 true legacy validation validation validation validation ∷
    row (codes "maximum") 11 true legacy validation validation validation validation ∷
    row (codes "exclusiveMinimum") 12 true absent validation validation validation validation ∷
    row (codes "exclusiveMaximum") 13 true absent validation validation validation validation ∷
    row (codes "multipleOf") 14 true validation validation validation validation validation ∷
    row (codes "minLength") 20 true validation validation validation validation validation ∷
    row (codes "maxLength") 21 true validation validation validation validation validation ∷
    row (codes "minItems") 22 true validation validation validation validation validation ∷
    row (codes "maxItems") 23 true validation validation validation validation validation ∷
    row (codes "minProperties") 24 true validation validation validation validation validation ∷
    row (codes "maxProperties") 25 true validation validation validation validation validation ∷
    row (codes "required") 26 true validation validation validation validation validation ∷
    row (codes "dependentRequired") 27 true absent absent absent validation validation ∷
    row (codes "pattern") 30 true validation validation validation validation validation ∷
    row (codes "format") 31 true free free free free free ∷
    row (codes "contentEncoding") 32 true absent free free content content ∷
    row (codes "contentMediaType") 33 true absent free free content content ∷
    row (codes "contentSchema") 34 false absent absent absent content content ∷
    row (codes "uniqueItems") 35 true validation validation validation validation validation ∷
    row (codes "properties") 40 false applicator applicator applicator applicator applicator ∷
    row (codes "patternProperties") 41 false applicator applicator applicator applicator applicator ∷
    row (codes "additionalProperties") 42 false applicator applicator applicator applicator applicator ∷
    row (codes "propertyNames") 43 false absent applicator applicator applicator applicator ∷
    row (codes "items") 44 false applicator applicator applicator applicator applicator ∷
    row (codes "prefixItems") 45 false absent absent absent absent applicator ∷
    row (codes "additionalItems") 46 false applicator applicator applicator applicator applicator ∷
    row (codes "contains") 47 false absent applicator applicator applicator applicator ∷
    row (codes "dependencies") 48 false applicator applicator applicator applicator applicator ∷
    row (codes "dependentSchemas") 49 false absent absent absent applicator applicator ∷
    row (codes "allOf") 50 false applicator applicator applicator applicator applicator ∷
    row (codes "anyOf") 51 false applicator applicator applicator applicator applicator ∷
    row (codes "oneOf") 52 false applicator applicator applicator applicator applicator ∷
    row (codes "not") 53 false applicator applicator applicator applicator applicator ∷
    row (codes "if") 54 false absent absent applicator applicator applicator ∷
    row (codes "unevaluatedProperties") 60 false absent absent absent applicator unevaluated ∷
    row (codes "unevaluatedItems") 61 false absent absent absent applicator unevaluated ∷
    row (codes "$ref") 70 false free free free free free ∷
    row (codes "$recursiveRef") 71 false absent absent absent free absent ∷
    row (codes "$dynamicRef") 72 false absent absent absent absent free ∷
    []

-- the column of a draft; an unknown draft counts as 2020-12
abbrev pub support_in : Draft → Row → Option Support
support_in draft_4 r = r.draft_4
support_in draft_6 r = r.draft_6
support_in draft_7 r = r.draft_7
support_in draft_2019_09 r = r.draft_2019_09
support_in draft_2020_12 r = r.draft_2020_12
support_in draft_unknown r = r.draft_2020_12

abbrev pub row_named : Text → Option Row
row_named name = find (λ r. bytes_eq r.name name) keyword_table

-- how a draft supports the keyword with this name
abbrev pub support_of : Draft → Text → Option Support
support_of draft name = option_and_then (support_in draft) (row_named name)

-- drafts 4, 6 and 7, which have no vocabularies
abbrev pub is_before_2019_09 : Draft → Bool
is_before_2019_09 draft_4 = true
is_before_2019_09 draft_6 = true
is_before_2019_09 draft_7 = true
is_before_2019_09 _ = false

-- before 2019-09 every vocabulary is in force; from then on the core vocabulary always is, and any
-- other if it is in the set
abbrev pub is_in_force : Draft → Vocabularies → Vocabulary → Bool
is_in_force draft vocabularies v = is_before_2019_09 draft || (same_vocabulary v core_vocabulary || has_vocabulary vocabularies v)

abbrev pub is_met : Draft → Vocabularies → Option Vocabulary → Bool
is_met draft vocabularies None = true
is_met draft vocabularies (Some v) = is_in_force draft vocabularies v

pub record Entry : Type 0 where
  pub name : Text
  pub form : Form

abbrev pub entry_by : Draft → Vocabularies → Text → Support → Option Entry
entry_by draft vocabularies name s = if is_met draft vocabularies s.need then Some (record { name = name; form = s.form }) else None

-- the keyword with this name and its form, if the draft has it and its vocabulary is in force
abbrev pub entry_of : Draft → Vocabularies → Text → Option Entry
entry_of draft vocabularies name = option_and_then (entry_by draft vocabularies name) (support_of draft name)

abbrev pub builtin_of : Row → Builtin
builtin_of r = record { name = r.name; priority = r.priority; is_leaf = r.is_leaf }

abbrev pub builtin_by : Entry → Option Builtin
builtin_by e = option_map builtin_of (row_named e.name)

-- the name, priority and leaf in the row of the keyword with this name, if the draft has it
abbrev pub builtin_in : Draft → Vocabularies → Text → Option Builtin
builtin_in draft vocabularies name = option_and_then builtin_by (entry_of draft vocabularies name)

-- ---- keywords by their names, the standard's and custom ones

pub data Named : Type 0 where
  builtin_name custom_name : Text → Named

abbrev pub name_text : Named → Text
name_text (builtin_name name) = name
name_text (custom_name name) = name

-- the priority of a keyword; custom keywords come last
abbrev pub priority_of : Named → Option ℕ
priority_of (builtin_name name) = option_map (λ r. r.priority) (row_named name)
priority_of (custom_name name) = Some 80

abbrev pub leaf_of : Named → Option Bool
leaf_of (builtin_name name) = option_map (λ r. r.is_leaf) (row_named name)
leaf_of (custom_name name) = Some false

-- ---- the laws of the table

-- a leaf is a keyword with a priority below 40 other than `contentSchema`
abbrev pub is_rightly_leaf : Row → Bool
is_rightly_leaf r = if r.is_leaf then not (nat_le 40 r.priority) && not (bytes_eq r.name (codes "contentSchema")) else nat_le 40 r.priority || bytes_eq r.name (codes "contentSchema")

-- each row has a lower priority than those after it, and a name of its own
abbrev pub is_in_order : List Row → Bool
is_in_order [] = true
is_in_order (r ∷ rows) = list_all (λ s. nat_lt r.priority s.priority && not (bytes_eq r.name s.name)) rows && is_in_order rows

abbrev pub LeavesAreCheap : Type 0
LeavesAreCheap = list_all is_rightly_leaf keyword_table ≡ true

abbrev pub RowsAreInOrder : Type 0
RowsAreInOrder = is_in_order keyword_table ≡ true

abbrev pub HasFortyTwoRows : Type 0
HasFortyTwoRows = length keyword_table ≡ 42
