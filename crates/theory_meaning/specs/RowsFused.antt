-- A worked row of a fused keyword: `items` checks `type` and `minItems` too, and reports a unit for
-- each of the three.
use Rattle.std.specs.List.{list_all}
use Rattle.std.specs.Prelude.{Bool, List, None, Option, Some, [], bytes_eq, codes, decimal, false, flat_map, if◌then◌else◌, is_some, map, nat_le, true, unwrap_or, ℕ, ⊤, ◌&&◌, ◌++◌, ◌+◌, ◌==◌, ◌∷◌, ◌≡◌}
use Rattle.serde_json.specs.Data.{Data, Items, Members, array, item, member, no_items, no_members, number, object, unsigned}
use Rattle.theory_definitions.specs.Instance.{Place, Subject, Text, a_value, member_of, to_item, to_member}
use Rattle.theory_definitions.specs.Pointer.{pointer_to}
use Rattle.theory_definitions.specs.Reports.{Described, Error, Unit_, report_of, unit, units_of}
use Rattle.theory_definitions.specs.Drafts.{draft_2020_12}
use Rattle.theory_definitions.specs.Matching.{Completion, Matching}
use Rattle.theory_definitions.specs.Resolving.{Resolver}
use Rattle.theory_definitions.specs.Making.{Builtin, Script, Table, a_keyword, nothing, then_compile, then_end}
use Rattle.theory_definitions.specs.Keywords.{Answers, Fault, Gives, Keywords, Question, all_valid, done, down, for_verdict, own, passed}
use Rattle.theory_definitions.specs.Parts.{Parts}
use Rattle.theory_definitions.specs.Plan.{Key}
use Rattle.theory_meaning.specs.Root.{key_at}
use Rattle.theory_definitions.specs.Meaning.{unfold_}
use Rattle.theory_definitions.specs.Units.{plain_units}
use Rattle.theory_meaning.specs.RowsWorked.{entrance_of, item_count, shown, text, text_of, text_or_none, tiny_matcher, tiny_resolver}
use Rattle.theory_meaning.specs.Rows.{refused_by, string_schema}

-- ---- the keyword type: `type` for texts, and one keyword for `type` of arrays, `minItems` and
-- `items`

-- The keywords of the row; a number is the least number of items.
pub data Fused : Type 0 where
  a_text : Fused
  a_list : ℕ → Fused

abbrev pub is_list : Subject → Bool
is_list (a_value (array ds)) = true
is_list _ = false

abbrev pub items_of : Subject → Items
items_of (a_value (array ds)) = ds
items_of _ = no_items

-- Questions to the only child at each item, from index i on.
abbrev pub items_from : ℕ → Items → List Question
items_from i no_items = []
items_from i (item d ds) = record { child = 0; below = down (to_item i) } ∷ items_from (i + 1) ds

abbrev pub fused_questions : Fused → Subject → List Question
fused_questions a_text x = []
fused_questions (a_list n) x = items_from 0 (items_of x)

-- If the subject is an array, it has at least n items.
abbrev pub has_least : ℕ → Subject → Bool
has_least n (a_value (array ds)) = nat_le n (item_count ds)
has_least n _ = true

abbrev pub fused_holds : Fused → Subject → Matching → (Question → Bool) → Bool
fused_holds a_text x m v = is_some (text_of x)
fused_holds (a_list n) x m v = is_list x && (has_least n x && list_all v (fused_questions (a_list n) x))

-- ---- its errors: those of `type`, `minItems` and `items`, in this order

-- An error with this name and text, unless the keyword holds.
abbrev pub described : Bool → Text → Text → List Described
described holds name words = if holds then [] else record { name = name; text = words } ∷ []

abbrev pub type_text : Text → Subject → Text
type_text name x = shown x ++ (codes " is not of type \"" ++ (name ++ codes "\""))

abbrev pub least_text : ℕ → Subject → Text
least_text n x = shown x ++ (codes " has less than " ++ (decimal n ++ (if n == 1 then codes " item" else codes " items")))

-- An error at the keyword itself, or at one that it absorbs.
abbrev pub fault_at : Option Text → Described → Fault
fault_at absorbed d = own (record { spot = record { absorbed = absorbed; path = []; below = [] }; name = d.name; text = d.text })

abbrev pub type_errors : Subject → List Described
type_errors x = described (is_list x) (codes "type") (type_text (codes "array") x)

abbrev pub least_errors : ℕ → Subject → List Described
least_errors n x = described (has_least n x) (codes "minItems") (least_text n x)

abbrev pub text_errors : Subject → List Described
text_errors x = described (is_some (text_of x)) (codes "type") (type_text (codes "string") x)

abbrev pub fused_faults : Fused → Subject → Matching → Answers → List Fault
fused_faults a_text x m a = map (fault_at None) (text_errors x)
fused_faults (a_list n) x m a = map (fault_at (Some (codes "type"))) (type_errors x) ++ (map (fault_at (Some (codes "minItems"))) (least_errors n x) ++ flat_map (λ q. map passed (a q).errors) (fused_questions (a_list n) x))

-- ---- its units: `items` has the units of the items and their verdict, and the two absorbed
-- keywords have their own

abbrev pub fused_units : Fused → Subject → Matching → (Question → Unit_) → Gives
fused_units a_text x m u = record { valid = is_some (text_of x); children = []; annotations = None; errors = text_errors x; absorbed = [] }
fused_units (a_list n) x m u = record {
  valid = list_all (λ q. (report_of (u q)).valid) (fused_questions (a_list n) x);
  children = map u (fused_questions (a_list n) x);
  annotations = None;
  errors = [];
  absorbed = record { name = codes "type"; valid = is_list x; children = []; annotations = None; errors = type_errors x }
      ∷ record { name = codes "minItems"; valid = has_least n x; children = []; annotations = None; errors = least_errors n x }
      ∷ [];
}

-- ---- its runs by turns are not used here

abbrev pub fused_words : Keywords Fused ⊤
fused_words = record {
  texts = true;
  may_ask = fused_questions;
  spans = λ k x. [];
  is_told = λ k. false;
  holds = fused_holds;
  faults = fused_faults;
  units = fused_units;
  most_turns = λ k x. 1;
  begin = λ k x mode. tt;
  turn = λ k x r reply. r;
  step = λ k x r reply. done;
  answer = λ r. record { mode = for_verdict; verdict = true; errors = []; gives = record { valid = true; children = []; annotations = None; errors = []; absorbed = [] } };
}

-- ---- the table: `items` beside `minItems` and `"type": "array"` becomes the fused keyword, and
-- the other two become no keyword

abbrev pub least_of : Option Data → ℕ
least_of (Some (number (unsigned n))) = n
least_of _ = 0

abbrev pub fused_script : Text → Members → Script Fused
fused_script name ms = if bytes_eq name (codes "items") then then_compile (to_member name ∷ []) (then_end (a_keyword (a_list (least_of (member_of (codes "minItems") ms))) (codes "type" ∷ codes "minItems" ∷ [])))
    else (if bytes_eq name (codes "type") && bytes_eq (unwrap_or (text_or_none (member_of name ms)) []) (codes "string") then then_end (a_keyword a_text []) else then_end nothing)

abbrev pub fused_entry : Text → Option Builtin
fused_entry name = if bytes_eq name (codes "type") then Some (record { name = name; priority = 1; is_leaf = true })
    else (if bytes_eq name (codes "minItems") then Some (record { name = name; priority = 22; is_leaf = true })
    else (if bytes_eq name (codes "items") then Some (record { name = name; priority = 44; is_leaf = false }) else None))

abbrev pub fused_table : Table Fused
fused_table = record { owns = λ name. false; builtin = λ draft vocabularies name. fused_entry name; script = λ custom name ms draft vocabularies formats. fused_script name ms }

abbrev pub fused_resolver : Data → Resolver Text
fused_resolver schema = record (tiny_resolver schema) { is_known_keyword = λ draft name. is_some (fused_entry name) }

abbrev pub fused_parts : Data → Parts Text Fused ⊤
fused_parts schema = record { resolver = fused_resolver schema; table = fused_table; matcher = tiny_matcher []; keywords = fused_words; draft = None; base = None; formats = None; declared = [] }

-- ---- the row

-- {"type": "array", "minItems": 2, "items": {"type": "string"}}, in the order of the names
abbrev pub fused_schema : Data
fused_schema = object (member (codes "items") string_schema (member (codes "minItems") (number (unsigned 2)) (member (codes "type") (text (codes "array")) no_members)))

abbrev pub fused_root : Key Text
fused_root = key_at (fused_parts fused_schema) (entrance_of fused_schema) draft_2020_12

-- ["a"]
abbrev pub one_text : Data
one_text = array (item (text (codes "a")) no_items)

abbrev pub less_text : Text
less_text = codes "[\"a\"] has less than 2 items"

-- A unit of the row, for a keyword or a schema, at a place.
abbrev pub row_unit : Bool → Place → Text → List Described → List Unit_ → Unit_
row_unit valid place path errors children = unit (record { valid = valid; instance_location = pointer_to place; evaluation_path = path; schema_path = path; absolute = None; annotations = None; errors = errors }) (units_of children)

abbrev pub row_units : Unit_
row_units = row_unit false [] [] [] (
    row_unit true [] (codes "/type") [] []
    ∷ row_unit false [] (codes "/minItems") (record { name = codes "minItems"; text = less_text } ∷ []) []
    ∷ row_unit true [] (codes "/items") [] (row_unit true (to_item 0 ∷ []) (codes "/items") [] (row_unit true (to_item 0 ∷ []) (codes "/items/type") [] [] ∷ []) ∷ [])
    ∷ []
    )

-- `type` and `items` are valid; `minItems` is not, and has its text.
abbrev pub FusedHasUnits : Type 0
FusedHasUnits = (n : ℕ) (c : Completion) → plain_units (fused_parts fused_schema) one_text c n fused_root [] [] ≡ row_units

abbrev pub less_error : Error
less_error = record { place = []; schema_path = codes "/minItems"; evaluation_path = codes "/minItems"; absolute = None; name = codes "minItems"; text = less_text }

-- There is one error, at `minItems`.
abbrev pub FusedHasOneError : Type 0
FusedHasOneError = (n : ℕ) (c : Completion) → unfold_ (fused_parts fused_schema) one_text c n fused_root [] [] ≡ refused_by less_error

-- On every instance, the keyword's own unit and the absorbed ones are valid if and only if the
-- keyword holds.
abbrev pub FusedKeepsUnits : Type 0
FusedKeepsUnits = (m : Fused) (s : Subject) (matches : Matching) (u : Question → Unit_) → all_valid (fused_units m s matches u) ≡ fused_holds m s matches (λ q. (report_of (u q)).valid)
