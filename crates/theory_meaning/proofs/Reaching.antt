-- Questions are asked only of keys that are reached.
use Rattle.std.proofs.Common.{◌≡◌, ℕ, zero, suc, ◌||◌, Bool, true, false, cond, List, [], ◌∷◌, ◌++◌, map, refl, subst, ap, arith}
use Rattle.std.specs.Prelude.{Contains, Option, Some, None, option_map, filter_map, flat_map, codes, nat_le}
use Rattle.std.specs.List.{list_any, cons_option}
use Rattle.std.proofs.lemmas.List.Elements.{Contains-append_left, Contains-append_right}
use Rattle.serde_json.specs.Data.{Data, null, boolean, number, string, array, object, Members, no_members, member}
use Rattle.theory_definitions.specs.Instance.{Text, member_of}
use Rattle.theory_definitions.specs.Parts.{Parts}
use Rattle.theory_definitions.specs.Keywords.{Question}
use Rattle.theory_definitions.specs.Making.{Request, Making, Made, a_keyword, nothing, refused, Builtin}
use Rattle.theory_definitions.specs.Plan.{Target, Key, Part, Form, keyword, reference, Reference, to_ref, reference_named, Plan, always, never, these, Edge, plan, plan_of, plan_alone, parts, part, builtin_part, part_made, reference_part, making, option_list, sorted, placed, requested, child, reference_edge, is_self, schema_of, same_target, same_key}
use Rattle.theory_definitions.specs.Drafts.{ref_stands_alone}
use Rattle.theory_definitions.specs.Meaning.{subject, place_below}
use Rattle.theory_meaning.specs.Returns.{Asked, part_questions, questions, LeadsTo, stays, asks}
use Rattle.theory_meaning.specs.Reach.{maker_edges, reference_edges, builtin_edges, members_edges, asked_edges, asked_for, Reached, at_first, asked_by, IsReach, targets_of}
use Rattle.theory_meaning.specs.Paths.{part_edges}
use Rattle.theory_meaning.proofs.Questions.{later}
use Rattle.theory_meaning.proofs.Settles.{picked}
use Rattle.theory_definitions.proofs.Products.{both_left, in_either, or_left, or_right}

In : {A : Type 0} → List A → List A → Type 0
In {A} xs ys = (x : A) → Contains xs x → Contains ys x

none_in : {A P : Type 0} (x : A) → Contains [] x → P
none_in x (i, is, at_i) = absurd (omega arith)

contains_map : {A B : Type 0} (f : A → B) (xs : List A) (x : A) → Contains xs x → Contains (map f xs) (f x)
contains_map f [] x c = none_in x c
contains_map {B = B} f (y ∷ xs) x (zero, is, at_i) = (zero, omega arith, ap f at_i)
contains_map f (y ∷ xs) x (suc i, is, at_i) = later (f y) (map f xs) (f x) (contains_map f xs x (i, omega arith, at_i))

module _ {S K R : Type 0} (w : Parts S K R) (k : Key S) where
  abbrev AllIn : List (Edge S) → List (Part K) → Type 0
  AllIn es [] = Unit {0}
  AllIn es (x ∷ xs) = In (part_edges w k x.name x.form) es × AllIn es xs

  abbrev OneIn : List (Edge S) → Option (Part K) → Type 0
  OneIn es None = Unit {0}
  OneIn es (Some x) = In (part_edges w k x.name x.form) es

  in_more_right : (es fs : List (Edge S)) (xs : List (Part K)) → AllIn fs xs → AllIn (es ++ fs) xs
  unfolding In
  in_more_right es fs [] h = tt
  in_more_right es fs (x ∷ xs) h = (λ e c. Contains-append_right es fs e (h.0 e c), in_more_right es fs xs h.1)

  joined_in : (es fs : List (Edge S)) (o : Option (Part K)) (xs : List (Part K)) → OneIn es o → AllIn fs xs → AllIn (es ++ fs) (option_list o ++ xs)
  unfolding In
  joined_in es fs None xs h t = in_more_right es fs xs t
  joined_in es fs (Some x) xs h t = (λ e c. Contains-append_left es fs e (h e c), in_more_right es fs xs t)

  placed_in : (es : List (Edge S)) (x : Part K) (xs : List (Part K)) → In (part_edges w k x.name x.form) es → AllIn es xs → AllIn es (placed x xs)
  placed_in es x [] h t = (h, tt)
  placed_in es x (y ∷ ys) h t = go (nat_le x.priority y.priority) (placed_in es x ys h t.1)
    where
      go : (b : Bool) → AllIn es (placed x ys) → AllIn es (cond b (x ∷ y ∷ ys) (y ∷ placed x ys))
      go true r = (h, t)
      go false r = (t.0, r)

  sorted_in : (es : List (Edge S)) (xs : List (Part K)) → AllIn es xs → AllIn es (sorted xs)
  sorted_in es [] t = tt
  sorted_in es (x ∷ xs) t = placed_in es x (sorted xs) t.0 (sorted_in es xs t.1)

  made_in : (name : Text) (n : ℕ) (leaf : Bool) (m : Making K) → OneIn (maker_edges w k name m) (part_made w name n leaf m)
  unfolding In
  made_in name n leaf m = go m.ends
    where
      go : (e : Made K) → OneIn (maker_edges w k name m) (elim e [ a_keyword meaning absorbed ↦ Some (record { name = name; priority = n; is_leaf = leaf; form = keyword meaning m.requests absorbed }) | nothing ↦ None | refused told error ↦ None ])
      go (a_keyword meaning absorbed) = λ e c. c
      go nothing = tt
      go (refused told error) = tt

  reference_in : (name : Text) (n : ℕ) (kind : Reference) (value : Data) → OneIn (reference_edges w k name kind value) (reference_part w k name n kind value)
  unfolding In
  reference_in name n kind (string text) = go (is_self w k kind text)
    where
      go : (b : Bool) → OneIn (cond b [] (option_list (reference_edge w k name kind text))) (cond b None (Some (record { name = name; priority = n; is_leaf = false; form = reference kind text })))
      go true = tt
      go false = λ e c. c
  reference_in name n kind null = tt
  reference_in name n kind (boolean b) = tt
  reference_in name n kind (number b) = tt
  reference_in name n kind (array b) = tt
  reference_in name n kind (object b) = tt

  builtin_in : (whole : Members) (name : Text) (value : Data) → OneIn (builtin_edges w k whole name value) (builtin_part w k whole name value)
  builtin_in whole name value = go (w.table.builtin k.target.draft k.target.vocabularies name) (reference_named name)
    where
      go : (o : Option Builtin) (r : Option Reference)
          → OneIn (elim o [ None ↦ [] | Some b ↦ elim r [ Some kind ↦ reference_edges w k name kind value | None ↦ maker_edges w k name (making w k whole false name) ] ])
          (elim o [ None ↦ None | Some b ↦ elim r [ Some kind ↦ reference_part w k name b.priority kind value | None ↦ part_made w name b.priority b.is_leaf (making w k whole false name) ] ])
      go None r = tt
      go (Some b) (Some kind) = reference_in name b.priority kind value
      go (Some b) None = made_in name b.priority b.is_leaf (making w k whole false name)

  part_in : (whole : Members) (name : Text) (value : Data)
      → OneIn (elim (w.table.owns name) [ true ↦ maker_edges w k name (making w k whole true name) | false ↦ builtin_edges w k whole name value ]) (part w k whole name value)
  part_in whole name value = go (w.table.owns name)
    where
      go : (b : Bool) → OneIn (elim b [ true ↦ maker_edges w k name (making w k whole true name) | false ↦ builtin_edges w k whole name value ])
          (elim b [ true ↦ part_made w name 80 false (making w k whole true name) | false ↦ builtin_part w k whole name value ])
      go true = made_in name 80 false (making w k whole true name)
      go false = builtin_in whole name value

  parts_in : (whole ms : Members) → AllIn (members_edges w k whole ms) (parts w k whole ms)
  parts_in whole no_members = tt
  parts_in whole (member name value rest) = joined_in _ (members_edges w k whole rest) (part w k whole name value) (parts w k whole rest) (part_in whole name value) (parts_in whole rest)

  abbrev PlanIn : List (Edge S) → Plan K → Type 0
  PlanIn es always = Unit {0}
  PlanIn es never = Unit {0}
  PlanIn es (these xs) = AllIn es xs

  alone_in : (es : List (Edge S)) (o : Option (Part K)) → OneIn es o → PlanIn es (plan_alone w o)
  alone_in es None h = tt
  alone_in es (Some x) h = (h, tt)

  abbrev asked_by_data : Data → List (Edge S)
  asked_by_data d = elim d [
    | object ms ↦ elim (cond (ref_stands_alone k.target.draft) (member_of (codes "$ref") ms) None) [ Some value ↦ reference_edges w k (codes "$ref") to_ref value | None ↦ members_edges w k ms ms ]
    | _ ↦ []
  ]

  plan_in : (d : Data) → PlanIn (asked_by_data d) (plan_of w k d)
  plan_in null = tt
  plan_in (boolean true) = tt
  plan_in (boolean false) = tt
  plan_in (number n) = tt
  plan_in (string s) = tt
  plan_in (array ds) = tt
  plan_in (object ms) = go (cond (ref_stands_alone k.target.draft) (member_of (codes "$ref") ms) None)
    where
      go : (o : Option Data) → PlanIn (elim o [ Some value ↦ reference_edges w k (codes "$ref") to_ref value | None ↦ members_edges w k ms ms ])
          (elim o [ Some value ↦ plan_alone w (reference_part w k (codes "$ref") 70 to_ref value) | None ↦ these (sorted (parts w k ms ms)) ])
      go (Some value) = alone_in _ _ (reference_in (codes "$ref") 70 to_ref value)
      go None = sorted_in _ (parts w k ms ms) (parts_in ms ms)

-- ---- questions

module _ {S K R : Type 0} (w : Parts S K R) (instance : Data) (a : Asked w instance) where
  abbrev KeysIn : List (Edge S) → List (Asked w instance) → Type 0
  KeysIn es [] = Unit {0}
  KeysIn es (c ∷ cs) = Contains (map (λ edge. edge.key) es) c.key × KeysIn es cs

  append_keys : (es : List (Edge S)) (xs ys : List (Asked w instance)) → KeysIn es xs → KeysIn es ys → KeysIn es (xs ++ ys)
  append_keys es [] ys h t = t
  append_keys es (x ∷ xs) ys h t = (h.0, append_keys es xs ys h.1 t)

  each_key : (es : List (Edge S)) (cs : List (Asked w instance)) → KeysIn es cs → (c : Asked w instance) → Contains cs c → Contains (map (λ edge. edge.key) es) c.key
  each_key es [] h c is = none_in c is
  each_key es (x ∷ cs) h c (zero, is, at_i) = subst (λ (y : Asked w instance). Contains (map (λ edge. edge.key) es) y.key) at_i h.0
  each_key es (x ∷ cs) h c (suc i, is, at_i) = each_key es cs h.1 c (i, omega arith, at_i)

  keyword_keys : (es : List (Edge S)) (name : Text) (requests : List Request) → In (filter_map (requested w a.key name) requests) es → (qs : List Question)
      → KeysIn es (filter_map (λ q. option_map (λ edge. record { key = edge.key; path = a.path ++ edge.path; place = place_below a.place q.below }) (child w a.key name requests q.child)) qs)
  unfolding In
  keyword_keys es name requests h [] = tt
  keyword_keys es name requests h (q ∷ qs) = go (child w a.key name requests q.child) (λ e is. h e (picked (requested w a.key name) requests q.child e is)) _ (keyword_keys es name requests h qs)
    where
      go : (o : Option (Edge S)) → ((e : Edge S) → o ≡ Some e → Contains es e) → (cs : List (Asked w instance)) → KeysIn es cs
          → KeysIn es (cons_option (option_map (λ edge. record { key = edge.key; path = a.path ++ edge.path; place = place_below a.place q.below }) o) cs)
      go None f cs t = t
      go (Some e) f cs t = (contains_map (λ edge. edge.key) es e (f e refl), t)

  form_keys : (es : List (Edge S)) (name : Text) (x : Form K) → In (part_edges w a.key name x) es → KeysIn es (part_questions w instance a name x)
  unfolding In
  form_keys es name (keyword m requests absorbed) h = keyword_keys es name requests h (w.keywords.may_ask m (subject w instance a.place))
  form_keys es name (reference kind text) h = go (reference_edge w a.key name kind text) h
    where
      go : (o : Option (Edge S)) → In (option_list o) es → KeysIn es (elim o [ None ↦ [] | Some edge ↦ record { key = edge.key; path = a.path ++ edge.path; place = a.place } ∷ [] ])
      go None f = tt
      go (Some e) f = (contains_map (λ edge. edge.key) es e (f e (zero, omega arith, refl)), tt)

  parts_keys : (es : List (Edge S)) (xs : List (Part K)) → AllIn w a.key es xs → KeysIn es (flat_map (λ x. part_questions w instance a x.name x.form) xs)
  parts_keys es [] h = tt
  parts_keys es (x ∷ xs) h = append_keys es (part_questions w instance a x.name x.form) _ (form_keys es x.name x.form h.0) (parts_keys es xs h.1)

  plan_keys : (es : List (Edge S)) (o : Plan K) → PlanIn w a.key es o → KeysIn es (elim o [ always ↦ [] | never ↦ [] | these xs ↦ flat_map (λ x. part_questions w instance a x.name x.form) xs ])
  plan_keys es always h = tt
  plan_keys es never h = tt
  plan_keys es (these xs) h = parts_keys es xs h

  -- A question leads to a key that a maker requests.
  pub question_asked : (c : Asked w instance) → Contains (questions w instance a) c → Contains (asked_for w a.key) c.key
  question_asked c q = each_key (asked_edges w a.key) (questions w instance a) (plan_keys (asked_edges w a.key) (plan w a.key) (plan_in w a.key (schema_of w a.key))) c q

module _ {S K R : Type 0} (w : Parts S K R) (instance : Data) (root : Key S) where
  pub leads_reached : (a b : Asked w instance) → Reached w root a.key → LeadsTo w instance a b → Reached w root b.key
  leads_reached a b h stays = h
  leads_reached a b h (asks {b = c} q l) = leads_reached c b (asked_by h (question_asked w instance a c q)) l

  any_target : (a : Key S) (keys : List (Key S)) → list_any (same_key w a) keys ≡ true → list_any (λ l. same_target w a.target l.target) keys ≡ true
  any_target a [] e = e
  any_target a (l ∷ keys) e = go (same_key w a l) refl e (any_target a keys)
    where
      go : (b : Bool) → same_key w a l ≡ b → (b || list_any (same_key w a) keys) ≡ true → (list_any (same_key w a) keys ≡ true → list_any (λ l'. same_target w a.target l'.target) keys ≡ true)
          → (same_target w a.target l.target || list_any (λ l'. same_target w a.target l'.target) keys) ≡ true
      go true s k f = or_left (same_target w a.target l.target) _ (both_left _ _ (both_left _ _ (both_left _ _ s)))
      go false s k f = or_right (same_target w a.target l.target) _ (f k)

  -- A target that is the same as that of one of the keys is the same as one in the list, which
  -- contains each target once.
  among : ((a b c : Target S) → same_target w a b ≡ true → same_target w b c ≡ true → same_target w a c ≡ true)
      → (t : Target S) (keys : List (Key S)) → list_any (λ l. same_target w t l.target) keys ≡ true → list_any (same_target w t) (targets_of w keys) ≡ true
  among through t [] e = absurd (cc e)
  among through t (l ∷ keys) e = go (list_any (same_target w l.target) (targets_of w keys)) refl (λ h. among through t keys h)
    where
      onto : (ts : List (Target S)) → same_target w t l.target ≡ true → list_any (same_target w l.target) ts ≡ true → list_any (same_target w t) ts ≡ true
      onto [] s f = absurd (cc f)
      onto (x ∷ ts) s f = in_either (same_target w l.target x) (list_any (same_target w l.target) ts) (λ h. or_left (same_target w t x) _ (through t l.target x s h)) (λ h. or_right (same_target w t x) _ (onto ts s h)) f

      go : (b : Bool) → list_any (same_target w l.target) (targets_of w keys) ≡ b → (list_any (λ l'. same_target w t l'.target) keys ≡ true → list_any (same_target w t) (targets_of w keys) ≡ true)
          → list_any (same_target w t) (cond b (targets_of w keys) (l.target ∷ targets_of w keys)) ≡ true
      go true is rest = in_either (same_target w t l.target) (list_any (λ l'. same_target w t l'.target) keys) (λ s. onto (targets_of w keys) s is) rest e
      go false is rest = in_either (same_target w t l.target) (list_any (λ l'. same_target w t l'.target) keys) (λ s. or_left (same_target w t l.target) _ s) (λ h. or_right (same_target w t l.target) _ (rest h)) e

  at_keys : (keys : List (Key S)) → IsReach w root keys → (a : Asked w instance) → LeadsTo w instance (record { key = root; path = []; place = [] }) a
      → list_any (λ l. same_target w a.key.target l.target) keys ≡ true
  at_keys keys reach a l = any_target a.key keys (reach.whole a.key (leads_reached (record { key = root; path = []; place = [] }) a at_first l))

  pub at_targets : ((a b c : Target S) → same_target w a b ≡ true → same_target w b c ≡ true → same_target w a c ≡ true)
      → (keys : List (Key S)) → IsReach w root keys → (a : Asked w instance) → LeadsTo w instance (record { key = root; path = []; place = [] }) a
      → list_any (same_target w a.key.target) (targets_of w keys) ≡ true
  at_targets through keys reach a l = among through a.key.target keys (at_keys keys reach a l)
