-- The units of a schema at a place, with every reference resolved afresh, in the order of the
-- schema's plan. (Core 2020-12, 12.4)
use Rattle.std.specs.List.{list_all}
use Rattle.std.specs.Prelude.{Bool, List, None, Option, Some, [], bytes_eq, codes, false, filter, flat_map, if◌then◌else◌, map, nat_le, not, true, ℕ, ◌++◌, ◌∷◌}
use Rattle.serde_json.specs.Data.{Data, Members, member, no_members, object}
use Rattle.theory_definitions.specs.Instance.{Place, Step, Subject, Text, member_of}
use Rattle.theory_definitions.specs.Pointer.{joined, pointer_to}
use Rattle.theory_definitions.specs.Reports.{Described, Outcome, Unit_, accepted, children_of, report_of, unit, units_of}
use Rattle.theory_definitions.specs.Drafts.{ref_stands_alone}
use Rattle.theory_definitions.specs.Matching.{Completion, Matching, beside, matching}
use Rattle.theory_definitions.specs.Keywords.{Gives, Keywords, Named, Question}
use Rattle.theory_definitions.specs.Parts.{Parts}
use Rattle.theory_definitions.specs.Plan.{Edge, Form, Key, Part, always, keyword, never, part, plan, reference, schema_of, these}
use Rattle.theory_definitions.specs.Meaning.{Where, asked, at, false_text, form_told, others_span, outcome_of, referred_to, subject, told_of, unfolded}

-- A valid unit with nothing in it.
abbrev pub no_unit : Unit_
no_unit = unit (record { valid = true; instance_location = []; evaluation_path = []; schema_path = []; absolute = None; annotations = None; errors = [] }) (units_of [])

-- The outcome of a schema, with its unit.
pub record Valued : Type 0 where
  pub outcome : Outcome
  pub units : Unit_

-- An accepting outcome, and a valid unit with nothing in it.
abbrev pub no_valued : Valued
no_valued = record { outcome = accepted; units = no_unit }

-- The unit of a keyword, or of an absorbed keyword.
abbrev pub keyword_unit : Where → Named → Unit_
keyword_unit x a = unit (record {
  valid = a.valid;
  instance_location = pointer_to x.place;
  evaluation_path = joined x.path a.name;
  schema_path = joined x.location a.name;
  absolute = x.absolute (joined x.location a.name);
  annotations = a.annotations;
  errors = a.errors;
}) (units_of a.children)

-- The own unit of a keyword, and the units that it absorbs, each with the name of its keyword.
abbrev pub PartUnits : Type 0
PartUnits = Unit_ × List (Text × Unit_)

-- The units of a keyword, made from the result of its evaluation.
abbrev pub given_units : Where → Text → Gives → PartUnits
given_units x name g = (
  keyword_unit x (record { name = name; valid = g.valid; children = g.children; annotations = g.annotations; errors = g.errors }),
  map (λ a. (a.name, keyword_unit x a)) g.absorbed,
)

-- The units of a keyword, given the units of its questions.
abbrev pub keyword_units : {K R : Type 0} → Keywords K R → Where → Text → K → Subject → Matching → (Question → Unit_) → PartUnits
keyword_units keywords x name m s matches answers = given_units x name (keywords.units m s matches answers)

-- The unit of a reference: that of its target, at the evaluation path of the reference.
abbrev pub reference_units : Where → Text → Unit_ → PartUnits
reference_units x name u = (unit (record (report_of u) { evaluation_path = joined x.path name }) (children_of u), [])

-- The units of an entry of a plan, with the priority of the entry.
pub record Entry : Type 0 where
  pub priority : ℕ
  pub units : PartUnits

-- The absorbed keyword is `type`.
abbrev pub is_type : Text × Unit_ → Bool
is_type a = bytes_eq a.0 (codes "type")

-- The own units of the entries, with the absorbed counts before the first entry of priority 22 or
-- more. A count is an absorbed unit that is not one of `type`, such as that of `minItems`.
abbrev pub in_order : List Unit_ → List Entry → List Unit_
in_order counts [] = counts
in_order counts (x ∷ xs) = if nat_le 22 x.priority then counts ++ (x.units.0 ∷ map (λ y. y.units.0) xs) else x.units.0 ∷ in_order counts xs

-- The units of all entries: the absorbed `type` first, and the absorbed counts before the first
-- entry of priority 22 or more.
abbrev pub entry_units : List Entry → List Unit_
entry_units xs = let absorbed = flat_map (λ x. x.units.1) xs in
    map (λ a. a.1) (filter is_type absorbed) ++ in_order (map (λ a. a.1) (filter (λ a. not (is_type a)) absorbed)) xs

-- The unit of a whole schema.
abbrev pub schema_unit : Where → Bool → Option Data → List Described → List Unit_ → Unit_
schema_unit x valid annotations errors children = unit (record { valid = valid; instance_location = pointer_to x.place; evaluation_path = x.path; schema_path = x.location; absolute = x.absolute x.location; annotations = annotations; errors = errors }) (units_of children)

-- The unit of a `true` schema.
abbrev pub true_unit : Where → Unit_
true_unit x = schema_unit x true None [] []

-- The unit of a `false` schema.
abbrev pub false_unit : Bool → Where → Subject → Unit_
false_unit texts x s = schema_unit x false None (record { name = codes "falseSchema"; text = false_text texts s } ∷ []) []

-- The unit of a schema with these entries; it is valid if all their units are.
abbrev pub plan_unit : Where → Option Data → List Entry → Unit_
plan_unit x annotations xs = schema_unit x (list_all (λ u. (report_of u).valid) (entry_units xs)) annotations [] (entry_units xs)

-- The names that a part of a plan absorbs.
abbrev pub absorbed_by : {K : Type 0} → Option (Part K) → List Text
absorbed_by None = []
absorbed_by (Some p) = elim p.form [ keyword m requests absorbed ↦ absorbed | reference kind text ↦ [] ]

-- The members without the one of this name. A name occurs once in an object.
abbrev pub without_name : Text → Members → Members
without_name k no_members = no_members
without_name k (member l d ms) = if bytes_eq k l then ms else member l d (without_name k ms)

-- The members without those of these names.
abbrev pub without : List Text → Members → Members
without [] ms = ms
without (k ∷ ks) ms = without ks (without_name k ms)

-- The members as an object, if there are any.
abbrev pub object_of : Members → Option Data
object_of no_members = None
object_of (member name value rest) = Some (object (member name value rest))

module _ {S K R : Type 0} (w : Parts S K R) where
  -- The members that no keyword is made from, and whose names the draft does not know.
  abbrev pub unknown : Key S → Members → Members → Members
  unknown k whole no_members = no_members
  unknown k whole (member name value rest) = elim (part w k whole name value) [
    | Some p ↦ unknown k whole rest
    | None ↦ if w.resolver.is_known_keyword k.target.draft name then unknown k whole rest else member name value (unknown k whole rest)
  ]

  -- The names that the keywords of these members absorb.
  abbrev pub absorbed_in : Key S → Members → Members → List Text
  absorbed_in k whole no_members = []
  absorbed_in k whole (member name value rest) = absorbed_by (part w k whole name value) ++ absorbed_in k whole rest

  -- The members that become annotations. The value of an absorbed name belongs to the keyword that
  -- absorbs it.
  abbrev pub annotating : Key S → Members → Members
  annotating k ms = without (absorbed_in k ms ms) (unknown k ms ms)

  -- The annotations of a schema object. A `$ref` that replaces the keywords beside it leaves none.
  abbrev pub object_annotations : Key S → Members → Option Data
  object_annotations k ms = elim (if ref_stands_alone k.target.draft then member_of (codes "$ref") ms else None) [ Some value ↦ None | None ↦ object_of (annotating k ms) ]

  -- The annotations of a schema.
  abbrev pub annotations_of : Key S → Option Data
  annotations_of k = elim (schema_of w k) [ object ms ↦ object_annotations k ms | _ ↦ None ]

module _ {S K R : Type 0} (w : Parts S K R) (instance : Data) where
  module _ (c : Completion) where
    -- The units of one keyword or reference of a plan, if the others span these steps.
    abbrev pub part_units : Key S → Text → Place → (Edge S → Place → Unit_) → (Step → Bool) → Text → Form K → PartUnits
    part_units k path p ask others name (keyword m requests absorbed) = keyword_units w.keywords (at w instance k path p) name m (subject w instance p) (beside others (matching w.matcher c)) (asked w instance no_unit k name requests p ask)
    part_units k path p ask others name (reference kind text) = reference_units (at w instance k path p) name (referred_to w instance no_unit k name kind text p ask)

    -- The entries of a plan with their units.
    abbrev pub entries_of : Key S → Text → Place → (Edge S → Place → Unit_) → (Step → Bool) → List (Part K) → List Entry
    entries_of k path p ask others [] = []
    entries_of k path p ask others (x ∷ xs) = record { priority = x.priority; units = part_units k path p ask (told_of others (form_told w.keywords x.form)) x.name x.form } ∷ entries_of k path p ask others xs

    -- The unit of a schema at a place, given the outcomes and the units of its children.
    abbrev pub unit_of : Key S → Text → Place → (Edge S → Place → Outcome) → (Edge S → Place → Unit_) → Unit_
    unit_of k path p says ask = elim (plan w k) [ always ↦ true_unit (at w instance k path p) | never ↦ false_unit w.keywords.texts (at w instance k path p) (subject w instance p) | these xs ↦ plan_unit (at w instance k path p) (annotations_of w k) (entries_of k path p ask (others_span w instance c k path p says xs) xs) ]

    -- Both together.
    abbrev pub valued_of : Key S → Text → Place → (Edge S → Place → Valued) → Valued
    valued_of k path p ask = record { outcome = outcome_of w instance c k path p (λ e q. (ask e q).outcome); units = unit_of k path p (λ e q. (ask e q).outcome) (λ e q. (ask e q).units) }

    -- The tree of units with references followed n deep.
    abbrev pub plain_units : ℕ → Key S → Text → Place → Unit_
    plain_units n k path p = (unfolded w instance no_valued valued_of n k path p).units
