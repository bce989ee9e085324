-- A tiny keyword type, resolver, table and matcher for the worked rows: enough to compute by hand
-- what the definitions say of small schemas. Texts are ASCII here, so a text is as long as its
-- bytes.
use Rattle.std.specs.List.{ends_with, list_all, list_any}
use Rattle.std.specs.Prelude.{Bool, Err, List, None, Ok, Option, Result, Some, [], bytes_eq, codes, decimal, false, filter, flat_map, if◌then◌else◌, is_none, is_some, length, map, nat_le, not, suc, true, unwrap_or, zero, ℕ, ◌++◌, ◌+◌, ◌==◌, ◌||◌, ◌∷◌}
use Rattle.json.specs.Print.{quoted}
use Rattle.serde_json.specs.Data.{Data, Items, Members, array, item, member, no_items, no_members, null, number, object, string, unsigned}
use Rattle.serde_json.specs.Written.{compact_text}
use Rattle.theory_definitions.specs.Instance.{Place, Subject, Text, a_name, a_value, after_step, member_of, subject_at, to_item, to_member}
use Rattle.theory_definitions.specs.Reports.{Unit_, report_of}
use Rattle.theory_definitions.specs.Drafts.{SchemaPlace, at_path, draft_2020_12}
use Rattle.theory_definitions.specs.Matching.{Matcher, Matching, finished, limit, unfinished}
use Rattle.theory_definitions.specs.Resolving.{Entrance, Found, Resolver}
use Rattle.theory_definitions.specs.Making.{Builtin, Script, Table, a_keyword, refused, then_compile, then_end}
use Rattle.theory_definitions.specs.Keywords.{Answers, Fault, Gives, Keywords, Mode, Question, Reply, Turn, ask, done, down, first_of_it, for_first, for_units, for_verdict, here, match_text, own, passed, truth}
use Rattle.theory_definitions.specs.Parts.{Parts}
use Rattle.theory_definitions.specs.Plan.{Key, fragment}
use Rattle.theory_meaning.specs.Root.{key_at}

-- ---- the keyword type

-- The keywords of the rows: `type`, `maxLength`, `required`, `pattern`, `properties`, `allOf`,
-- `anyOf` and `not`.
pub data Word : Type 0 where
  is_string : Word
  has_most : ℕ → Word
  requires_members : List Text → Word
  has_pattern : Text → Word
  has_properties : List Text → Word
  is_all_of : ℕ → Word
  is_any_of : ℕ → Word
  is_not : Data → Word

-- The text of a subject, if it is a text.
abbrev pub text_of : Subject → Option Text
text_of (a_name t) = Some t
text_of (a_value (string t)) = Some t
text_of (a_value _) = None

abbrev pub members_of : Subject → Members
members_of (a_value (object ms)) = ms
members_of _ = no_members

abbrev pub is_object : Subject → Bool
is_object (a_value (object ms)) = true
is_object _ = false

-- The text by which a message shows a subject.
abbrev pub shown : Subject → Text
shown (a_value d) = compact_text d
shown (a_name t) = quoted t

-- Questions at the keyword's own place to n children, from number i on.
abbrev pub children_from : ℕ → ℕ → List Question
children_from zero i = []
children_from (suc n) i = record { child = i; below = here } ∷ children_from n (i + 1)

-- Questions to the children of those properties that are present, the first of which is child i.
abbrev pub children_at : ℕ → List Text → Members → List Question
children_at i [] ms = []
children_at i (k ∷ ks) ms = (if is_some (member_of k ms) then record { child = i; below = down (to_member k) } ∷ [] else []) ++ children_at (i + 1) ks ms

-- The questions that a keyword may ask.
abbrev pub questions_of : Word → Subject → List Question
questions_of (has_properties ks) x = children_at 0 ks (members_of x)
questions_of (is_all_of n) x = children_from n 0
questions_of (is_any_of n) x = children_from n 0
questions_of (is_not schema) x = children_from 1 0
questions_of _ x = []

-- The names that are not among the members.
abbrev pub missing : List Text → Members → List Text
missing ks ms = filter (λ k. is_none (member_of k ms)) ks

abbrev pub is_empty : List Text → Bool
is_empty [] = true
is_empty (k ∷ ks) = false

-- Whether a keyword holds.
abbrev pub word_holds : Word → Subject → Matching → (Question → Bool) → Bool
word_holds is_string x m v = is_some (text_of x)
word_holds (has_most n) x m v = elim (text_of x) [ None ↦ true | Some t ↦ nat_le (length t) n ]
word_holds (requires_members ks) x m v = not (is_object x) || is_empty (missing ks (members_of x))
word_holds (has_pattern p) x m v = elim (text_of x) [ None ↦ true | Some t ↦ m.matches p t ]
word_holds (has_properties ks) x m v = list_all v (questions_of (has_properties ks) x)
word_holds (is_all_of n) x m v = list_all v (children_from n 0)
word_holds (is_any_of n) x m v = list_any v (children_from n 0)
word_holds (is_not schema) x m v = not (list_all v (children_from 1 0))

-- An error at the keyword itself.
abbrev pub own_fault : Text → Text → Fault
own_fault name text = own (record { spot = record { absorbed = None; path = []; below = [] }; name = name; text = text })

abbrev pub unless : Bool → Fault → List Fault
unless b f = if b then [] else f ∷ []

abbrev pub most_text : ℕ → Text
most_text n = if n == 1 then codes "1 character" else decimal n ++ codes " characters"

-- The faults of a keyword that has errors of its own, depending on whether it holds.
abbrev pub own_faults : Word → Subject → Bool → List Fault
own_faults is_string x b = unless b (own_fault (codes "type") (shown x ++ codes " is not of type \"string\""))
own_faults (has_most n) x b = unless b (own_fault (codes "maxLength") (shown x ++ (codes " is longer than " ++ most_text n)))
own_faults (requires_members ks) x b = if b then [] else map (λ k. own_fault (codes "required") (quoted k ++ codes " is a required property")) (missing ks (members_of x))
own_faults (has_pattern p) x b = unless b (own_fault (codes "pattern") (shown x ++ (codes " does not match " ++ quoted p)))
own_faults (is_any_of n) x b = unless b (own_fault (codes "anyOf") (shown x ++ codes " is not valid under any of the schemas listed in the 'anyOf' keyword"))
own_faults (is_not schema) x b = unless b (own_fault (codes "not") (compact_text schema ++ (codes " is not allowed for " ++ shown x)))
own_faults (has_properties ks) x b = []
own_faults (is_all_of n) x b = []

-- The keyword passes on the errors of its children, and has none of its own.
abbrev pub passes_on : Word → Bool
passes_on (has_properties ks) = true
passes_on (is_all_of n) = true
passes_on _ = false

-- The faults of a keyword.
abbrev pub word_faults : Word → Subject → Matching → Answers → List Fault
word_faults k x m a = elim (passes_on k) [
  | true ↦ flat_map (λ q. map passed (a q).errors) (questions_of k x)
  | false ↦ own_faults k x (word_holds k x m (λ q. (a q).verdict))
]

-- The questions whose units are inside the keyword's own unit.
abbrev pub kept_units : Word → Subject → List Question
kept_units (is_not schema) x = []
kept_units k x = questions_of k x

-- The result of a keyword's evaluation.
abbrev pub word_units : Word → Subject → Matching → (Question → Unit_) → Gives
word_units k x m u = record {
  valid = word_holds k x m (λ q. (report_of (u q)).valid);
  children = map u (kept_units k x);
  annotations = None;
  errors = flat_map (λ f. elim f [ own o ↦ record { name = o.name; text = o.text } ∷ [] | passed e ↦ [] ]) (own_faults k x (word_holds k x m (λ q. (report_of (u q)).valid)));
  absorbed = [];
}

-- ---- runs by turns: the first turn asks the first child, and each further turn asks the next

-- The phase of a run: before its first turn, or after it.
pub data Phase : Type 0 where
  starting asking : Phase

-- The state of a run: its mode, its phase, and the questions that are left after the first turn.
pub record Running : Type 0 where
  pub mode : Mode
  pub phase : Phase
  pub left : List Question

-- The mode in which a keyword asks its children.
abbrev pub asks_in : Word → Mode → Mode
asks_in (is_not schema) mode = for_verdict
asks_in (is_any_of n) for_units = for_units
asks_in (is_any_of n) mode = for_verdict
asks_in _ mode = mode

-- The reply decides, so that no further question is asked.
abbrev pub is_enough : Word → Mode → Reply → Bool
is_enough (is_any_of n) for_units reply = false
is_enough (is_any_of n) mode (truth b) = b
is_enough k for_verdict (truth b) = not b
is_enough k for_first (first_of_it o) = is_some o
is_enough _ _ _ = false

-- The evaluation path and the place of a match are reported, except in a run for the verdict.
abbrev pub is_located : Mode → Bool
is_located for_verdict = false
is_located _ = true

-- The questions after the first one.
abbrev pub after_first : List Question → List Question
after_first [] = []
after_first (q ∷ qs) = qs

-- The next state of a run.
abbrev pub next_of : Word → Subject → Running → Reply → Running
next_of k x r reply = elim r.phase [ starting ↦ record r { phase = asking; left = after_first (questions_of k x) } | asking ↦ record r { left = after_first r.left } ]

-- The turn that asks the first of these questions, or ends the run if there is none.
abbrev pub ask_first : Word → Mode → List Question → Turn
ask_first k mode [] = done
ask_first k mode (q ∷ qs) = ask q (asks_in k mode)

-- The next turn of a run.
abbrev pub step_of : Word → Subject → Running → Reply → Turn
step_of (has_pattern p) x r reply = elim r.phase [
  | starting ↦ elim (text_of x) [
    | None ↦ done
    | Some t ↦ match_text (record { pattern = p; subject = t }) (record { spot = record { absorbed = None; path = []; below = [] }; located = is_located r.mode; pattern = Some p })
  ]
  | asking ↦ done
]
step_of k x r reply = elim r.phase [
  | starting ↦ ask_first k r.mode (questions_of k x)
  | asking ↦ if is_enough k r.mode reply then done else ask_first k r.mode r.left
]

-- The answer of a run is a dummy: only the laws read it, and nothing that is computed here does.
abbrev pub words : Keywords Word Running
words = record {
  texts = true;
  may_ask = questions_of;
  spans = λ k x. [];
  is_told = λ k. false;
  holds = word_holds;
  faults = word_faults;
  units = word_units;
  most_turns = λ k x. 20;
  begin = λ k x mode. record { mode = mode; phase = starting; left = [] };
  turn = next_of;
  step = step_of;
  answer = λ r. record { mode = r.mode; verdict = true; errors = []; gives = record { valid = true; children = []; annotations = None; errors = []; absorbed = [] } };
}

-- ---- the table

abbrev pub names_of : Members → List Text
names_of no_members = []
names_of (member k d ms) = k ∷ names_of ms

abbrev pub item_count : Items → ℕ
item_count no_items = 0
item_count (item d ds) = item_count ds + 1

abbrev pub texts_of : Items → List Text
texts_of no_items = []
texts_of (item d ds) = elim d [ string t ↦ t ∷ texts_of ds | _ ↦ texts_of ds ]

-- The paths of the items of a member, the first of which has index i.
abbrev pub item_paths : Text → ℕ → Items → List Place
item_paths name i no_items = []
item_paths name i (item d ds) = (to_member name ∷ to_item i ∷ []) ∷ item_paths name (i + 1) ds

-- A maker that requests the schemas at these paths, and makes the keyword.
abbrev pub gives_word : Word → List Place → Script Word
gives_word k [] = then_end (a_keyword k [])
gives_word k (path ∷ paths) = then_compile path (gives_word k paths)

-- A refusal: the keyword does not take values of this form.
abbrev pub no_word : Script Word
no_word = then_end (refused true (record { instance = null; instance_path = []; schema_path = []; evaluation_path = []; absolute = None; name = []; text = codes "shape" }))

-- The script of the maker of a member, by the member's name and value.
abbrev pub word_made : Text → Data → Script Word
word_made name (array ds) = if bytes_eq name (codes "allOf") then gives_word (is_all_of (item_count ds)) (item_paths name 0 ds)
    else (if bytes_eq name (codes "anyOf") then gives_word (is_any_of (item_count ds)) (item_paths name 0 ds)
    else (if bytes_eq name (codes "required") then gives_word (requires_members (texts_of ds)) [] else no_word))
word_made name (string t) = if bytes_eq name (codes "pattern") then gives_word (has_pattern t) []
    else (if bytes_eq name (codes "type") then (if bytes_eq t (codes "string") then gives_word is_string [] else no_word) else no_word)
word_made name (number (unsigned n)) = if bytes_eq name (codes "maxLength") then gives_word (has_most n) [] else no_word
word_made name (object ms) = if bytes_eq name (codes "properties") then gives_word (has_properties (names_of ms)) (map (λ k. to_member name ∷ to_member k ∷ []) (names_of ms))
    else (if bytes_eq name (codes "not") then gives_word (is_not (object ms)) ((to_member name ∷ []) ∷ []) else no_word)
word_made name _ = no_word

-- A keyword whose priority is below 40 is a leaf.
abbrev pub entry : Text → ℕ → Option Builtin
entry name n = Some (record { name = name; priority = n; is_leaf = not (nat_le 40 n) })

abbrev pub entry_of : Text → Option Builtin
entry_of name = if bytes_eq name (codes "type") then entry name 1 else (if bytes_eq name (codes "maxLength") then entry name 21 else (if bytes_eq name (codes "required") then entry name 26
    else (if bytes_eq name (codes "pattern") then entry name 30 else (if bytes_eq name (codes "properties") then entry name 40 else (if bytes_eq name (codes "allOf") then entry name 50
    else (if bytes_eq name (codes "anyOf") then entry name 51 else (if bytes_eq name (codes "not") then entry name 53 else (if bytes_eq name (codes "$ref") then entry name 70 else None))))))))

abbrev pub word_table : Table Word
word_table = record { owns = λ name. false; builtin = λ draft vocabularies name. entry_of name; script = λ custom name ms draft vocabularies formats. word_made name (unwrap_or (member_of name ms) null) }

-- ---- the resolver, over one document; its state is the URI of the resource

-- The steps to the segments of a pointer; `now` is the start of the first segment.
abbrev pub segments : Text → Text → Place
segments now [] = to_member now ∷ []
segments now (x ∷ xs) = if x == 47 then to_member now ∷ segments [] xs else segments (now ++ x ∷ []) xs

-- The place that a pointer leads to, through members only.
abbrev pub steps_of : Text → Place
steps_of [] = []
steps_of (x ∷ xs) = segments [] xs

abbrev pub data_of : Option Subject → Option Data
data_of (Some (a_value d)) = Some d
data_of _ = None

abbrev pub value_at : Data → Place → Option Data
value_at d p = data_of (subject_at d p)

abbrev pub text_or_none : Option Data → Option Text
text_or_none (Some (string t)) = Some t
text_or_none _ = None

-- The identifier of a schema.
abbrev pub id_of : Data → Option Text
id_of (object ms) = text_or_none (member_of (codes "$id") ms)
id_of _ = None

-- The URI of the innermost resource on a path.
abbrev pub resource_on : Text → Option Subject → Place → Text
resource_on base (Some (a_value d)) [] = unwrap_or (id_of d) base
resource_on base (Some (a_value d)) (s ∷ p) = resource_on (unwrap_or (id_of d) base) (after_step s (a_value d)) p
resource_on base _ p = base

abbrev pub root_base : Text
root_base = codes "json-schema:///"

-- The target at a place of the schema, if there is a value.
abbrev pub found_at : Data → Place → Result (Found Text) Text
found_at schema p = elim (value_at schema p) [
  | None ↦ Err (codes "nothing there")
  | Some v ↦ Ok (record { place = record { document = 0; path = p }; state = resource_on root_base (Some (a_value schema)) p; draft = draft_2020_12 })
]

abbrev pub has_id : Text → Data → Bool
has_id uri d = elim (id_of d) [ Some id ↦ bytes_eq uri id | None ↦ false ]

-- Where the resource with a URI begins, through members only.
abbrev mutual
  pub resource_below : Text → Data → Option Place
  resource_below uri (object ms) = if has_id uri (object ms) then Some [] else resource_among uri ms
  resource_below uri _ = None

  pub resource_among : Text → Members → Option Place
  resource_among uri no_members = None
  resource_among uri (member name d ms) = elim (resource_below uri d) [ Some p ↦ Some (to_member name ∷ p) | None ↦ resource_among uri ms ]

-- The subschemas in `$defs` and `properties`.
abbrev pub subschemas_in : SchemaPlace → Members → List SchemaPlace
subschemas_in p no_members = []
subschemas_in p (member name (object ms) rest) = (if bytes_eq name (codes "$defs") || bytes_eq name (codes "properties") then map (λ k. at_path p (to_member name ∷ to_member k ∷ [])) (names_of ms) else []) ++ subschemas_in p rest
subschemas_in p (member name _ rest) = subschemas_in p rest

abbrev pub object_members : Option Data → Members
object_members (Some (object ms)) = ms
object_members _ = no_members

-- The URI that a reference's text stands for: the base if the text is empty, the base followed by
-- the text if the text is a fragment, and otherwise the text itself.
abbrev pub uri_meant : Text → Text → Text
uri_meant base [] = base
uri_meant base (x ∷ text) = if x == 35 then base ++ x ∷ text else x ∷ text

abbrev pub tiny_resolver : Data → Resolver Text
tiny_resolver schema = record {
  same_state = bytes_eq;
  value = λ p. value_at schema p.path;
  root = λ base. Some (record { place = record { document = 0; path = [] }; state = base });
  lookup = λ state text dynamic. found_at schema (steps_of (fragment text));
  lookup_recursive = λ state. found_at schema [];
  in_subresource = λ state draft p. Ok (elim (value_at schema p.path) [ None ↦ state | Some v ↦ unwrap_or (id_of v) state ]);
  resolve_uri = λ state text. Ok (uri_meant state text);
  base_uri = λ state. state;
  resource_root = λ state. record { document = 0; path = unwrap_or (resource_below state schema) [] };
  find_vocabularies = λ state draft p. [];
  detect = λ draft v. draft;
  draft_for = λ v. Ok draft_2020_12;
  id = λ draft v. id_of v;
  subresources_of = λ draft p. subschemas_in p (object_members (value_at schema p.path));
  is_known_keyword = λ draft name. is_some (entry_of name) || bytes_eq name (codes "$defs") || bytes_eq name (codes "$id");
}

-- A match of a pattern in the list stays unfinished. Any other pattern matches the texts that end
-- with it.
abbrev pub tiny_matcher : List Text → Matcher
tiny_matcher unfinished_ones = record { is_match = λ p t. if list_any (bytes_eq p) unfinished_ones then unfinished (limit (codes "Error executing regex: Max limit for backtracking count exceeded")) else finished (ends_with (λ x y. x == y) t p); is_ecma = λ t. true }

-- The parts for a schema, with the list of patterns whose matches stay unfinished.
abbrev pub worked_parts : List Text → Data → Parts Text Word Running
worked_parts unfinished_ones schema = record { resolver = tiny_resolver schema; table = word_table; matcher = tiny_matcher unfinished_ones; keywords = words; draft = None; base = None; formats = None; declared = [] }

-- ---- short forms

abbrev pub one_member : Text → Data → Data
one_member k d = object (member k d no_members)

abbrev pub two_members : Text → Data → Text → Data → Data
two_members k d l e = object (member k d (member l e no_members))

abbrev pub text : Text → Data
text t = string t

abbrev pub ref_to : Text → Data
ref_to target = one_member (codes "$ref") (text target)

abbrev pub entrance_of : Data → Entrance Text
entrance_of schema = record { place = record { document = 0; path = [] }; state = unwrap_or (id_of schema) root_base }

-- The key of the schema's root.
abbrev pub root_of : List Text → Data → Key Text
root_of unfinished_ones schema = key_at (worked_parts unfinished_ones schema) (entrance_of schema) draft_2020_12
