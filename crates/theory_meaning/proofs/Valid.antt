-- A unit is valid if and only if its verdict is yes, and a verdict is yes if and only if there is
-- no error.
use Rattle.std.proofs.Common.{◌≡◌, List, [], ◌∷◌, ◌++◌, refl, ap, ap₂, sym, ◌∙◌, Bool, true, false, not, cond, ◌&&◌, map}
use Rattle.std.specs.Prelude.{Option, Some, None, filter, flat_map, nat_le, ◌↔◌}
use Rattle.std.specs.List.{list_all}
use Rattle.std.proofs.lemmas.List.Folds.{list_all-append, list_all-map}
use Rattle.serde_json.specs.Data.{Data}
use Rattle.theory_definitions.specs.Instance.{Text, Place, Step}
use Rattle.theory_definitions.specs.Reports.{Error, Unit_, report_of, Outcome, accepted, spans_nothing}
use Rattle.theory_definitions.specs.Parts.{Parts}
use Rattle.theory_definitions.specs.Making.{Request}
use Rattle.theory_definitions.specs.Matching.{Completion, matching, beside}
use Rattle.theory_definitions.specs.Keywords.{Gives, Named, Question, all_valid}
use Rattle.theory_definitions.specs.Plan.{Key, Edge, Part, Form, keyword, reference, Plan, always, never, these, plan, child, reference_edge}
use Rattle.theory_definitions.specs.Meaning.{Where, at, both, subject, asked, part_outcome, parts_outcome, outcome_of, false_outcome, kept, form_told, others_span, told_of}
use Rattle.theory_definitions.specs.Units.{Entry, PartUnits, given_units, part_units, entries_of, entry_units, unit_of, no_unit, in_order, is_type, keyword_unit, annotations_of, true_unit, false_unit, plan_unit}
use Rattle.theory_definitions.specs.Laws.{Agrees, KeepsLaws}
use Rattle.theory_meaning.proofs.Plans.{agrees_both, map_none}

abbrev pub is_valid_unit : Unit_ → Bool
is_valid_unit u = (report_of u).valid

swapped : (a b d : Bool) → (b && (a && d)) ≡ (a && (b && d))
swapped true true d = refl
swapped true false d = refl
swapped false true d = refl
swapped false false d = refl

all-in_order : (p : Unit_ → Bool) (counts : List Unit_) (xs : List Entry) → list_all p (in_order counts xs) ≡ (list_all p counts && list_all p (map (λ y. y.units.0) xs))
all-in_order p counts [] = go (list_all p counts)
  where
    go : (b : Bool) → b ≡ (b && true)
    go true = refl
    go false = refl
all-in_order p counts (x ∷ xs) = go (nat_le 22 x.priority) (all-in_order p counts xs)
  where
    go : (b : Bool) → list_all p (in_order counts xs) ≡ (list_all p counts && list_all p (map (λ y. y.units.0) xs))
        → list_all p (cond b (counts ++ (x.units.0 ∷ map (λ y. y.units.0) xs)) (x.units.0 ∷ in_order counts xs)) ≡ (list_all p counts && (p x.units.0 && list_all p (map (λ y. y.units.0) xs)))
    go true h = list_all-append p counts (x.units.0 ∷ map (λ y. y.units.0) xs)
    go false h = ap (λ z. p x.units.0 && z) h ∙ swapped (list_all p counts) (p x.units.0) (list_all p (map (λ y. y.units.0) xs))

abbrev pub held : Text × Unit_ → Bool
held a = (report_of a.1).valid

both_swapped : (h r a b : Bool) → ((h && r) && (a && b)) ≡ ((a && h) && (r && b))
both_swapped false r true b = refl
both_swapped false r false b = refl
both_swapped true false true b = refl
both_swapped true false false b = refl
both_swapped true true true b = refl
both_swapped true true false b = refl

and_assoc : (a b d : Bool) → ((a && b) && d) ≡ (a && (b && d))
and_assoc true b d = refl
and_assoc false b d = refl

pub and_true : (a : Bool) → (a && true) ≡ a
and_true true = refl
and_true false = refl

-- A property holds of all elements if and only if it holds of those that pass a test and of those
-- that do not.
parted : (q : Text × Unit_ → Bool) (units : List (Text × Unit_)) → (list_all held (filter q units) && list_all held (filter (λ a. not (q a)) units)) ≡ list_all held units
parted q [] = refl
parted q (x ∷ xs) = go (q x) (parted q xs)
  where
    go : (b : Bool) → (list_all held (filter q xs) && list_all held (filter (λ a. not (q a)) xs)) ≡ list_all held xs
        → (list_all held (cond b (x ∷ filter q xs) (filter q xs)) && list_all held (cond (not b) (x ∷ filter (λ a. not (q a)) xs) (filter (λ a. not (q a)) xs))) ≡ (held x && list_all held xs)
    go true h = and_assoc (held x) _ _ ∙ ap (λ z. held x && z) h
    go false h = swapped (held x) (list_all held (filter q xs)) (list_all held (filter (λ a. not (q a)) xs)) ∙ ap (λ z. held x && z) h

-- An entry's own unit and the absorbed ones are valid if and only if the entry's verdict is yes.
pub record EntryValid (x : PartUnits) (o : Outcome) : Type 0 where
  pub all : (is_valid_unit x.0 && list_all held x.1) ≡ o.verdict

pub data EntriesValid : List Entry → Outcome → Type 0 where
  none_left : EntriesValid [] accepted
  one_more : {x : Entry} {xs : List Entry} {o os : Outcome} → EntryValid x.units o → EntriesValid xs os → EntriesValid (x ∷ xs) (both o os)

each_valid : {xs : List Entry} {o : Outcome} → EntriesValid xs o → (list_all held (flat_map (λ x. x.units.1) xs) && list_all is_valid_unit (map (λ y. y.units.0) xs)) ≡ o.verdict
each_valid none_left = refl
each_valid (one_more {x = x} {xs = xs} {o = o} {os = os} e es) =
    ap (λ z. z && (is_valid_unit x.units.0 && list_all is_valid_unit (map (λ y. y.units.0) xs))) (list_all-append held x.units.1 (flat_map (λ y. y.units.1) xs))
    ∙ both_swapped (list_all held x.units.1) (list_all held (flat_map (λ y. y.units.1) xs)) (is_valid_unit x.units.0) (list_all is_valid_unit (map (λ y. y.units.0) xs))
    ∙ ap₂ (λ u v. u && v) e.all (each_valid es)

-- The units of all entries are valid if and only if each entry's verdict is yes.
pub entries_valid : {xs : List Entry} {o : Outcome} → EntriesValid xs o → list_all is_valid_unit (entry_units xs) ≡ o.verdict
entries_valid {xs} {o} valid =
    let absorbed : List (Text × Unit_) = flat_map (λ x. x.units.1) xs in
    let own : Bool = list_all is_valid_unit (map (λ y. y.units.0) xs) in
    let types : List Unit_ = map (λ (a : Text × Unit_). a.1) (filter is_type absorbed) in
    let others : List Unit_ = map (λ (a : Text × Unit_). a.1) (filter (λ a. not (is_type a)) absorbed) in
    list_all-append is_valid_unit types (in_order others xs)
    ∙ (ap (λ z. list_all is_valid_unit types && z) (all-in_order is_valid_unit others xs)
    ∙ (sym (and_assoc (list_all is_valid_unit types) (list_all is_valid_unit others) own)
    ∙ (ap (λ z. z && own) (ap₂ (λ a b. a && b) (list_all-map is_valid_unit (λ (a : Text × Unit_). a.1) (filter is_type absorbed)) (list_all-map is_valid_unit (λ (a : Text × Unit_). a.1) (filter (λ a. not (is_type a)) absorbed)) ∙ parted is_type absorbed)
    ∙ each_valid valid)))

-- The result of a keyword's evaluation, as its units.
pub given_valid : (x : Where) (name : Text) (g : Gives) → (is_valid_unit (given_units x name g).0 && list_all held (given_units x name g).1) ≡ all_valid g
given_valid x name g = ap (λ z. g.valid && z) (list_all-map held (λ (a : Named). (a.name, keyword_unit x a)) g.absorbed)

pub mapped_agrees : {A : Type 0} (f : A → Error) (v : Bool) (xs : List A) (ss : Step → Bool) → ((v ≡ true) ↔ (xs ≡ [])) → Agrees (record { verdict = v; errors = map f xs; spans = ss })
mapped_agrees f v xs ss h = (λ e. ap (map f) (h.0 e), λ e. h.1 (map_none f xs e))

module _ {S K R : Type 0} (w : Parts S K R) (instance : Data) (absorbs : K → List Text) (laws : (m : K) → KeepsLaws w.keywords m (absorbs m))
    (c : Completion) (k : Key S) (path : Text) (p : Place) (g : Edge S → Place → Outcome) (u : Edge S → Place → Unit_)
    (agrees : (e : Edge S) (q : Place) → Agrees (g e q)) (valid : (e : Edge S) (q : Place) → (report_of (u e q)).valid ≡ (g e q).verdict) where
  option_agrees : (o : Option (Edge S)) (q : Place) → Agrees (elim o [ None ↦ accepted | Some e ↦ g e q ])
  option_agrees None q = (λ e. refl, λ e. refl)
  option_agrees (Some e) q = agrees e q

  option_valid : (o : Option (Edge S)) (q : Place) → (report_of (elim o [ None ↦ no_unit | Some e ↦ u e q ])).valid ≡ (let x : Outcome = elim o [ None ↦ accepted | Some e ↦ g e q ] in x.verdict)
  option_valid None q = refl
  option_valid (Some e) q = valid e q

  asked_agrees : (name : Text) (requests : List Request) (q : Question) → Agrees (asked w instance accepted k name requests p g q)
  asked_agrees name requests q = option_agrees (child w k name requests q.child) _

  asked_valid : (name : Text) (requests : List Request) (q : Question) → (report_of (asked w instance no_unit k name requests p u q)).valid ≡ (asked w instance accepted k name requests p g q).verdict
  asked_valid name requests q = option_valid (child w k name requests q.child) _

  pub part_agrees : (others : Step → Bool) (name : Text) (form : Form K) → Agrees (part_outcome w instance c k path p g others name form)
  part_agrees others name (keyword m requests absorbed) = mapped_agrees _ _ _ spans_nothing ((laws m).agree (subject w instance p) (beside others (matching w.matcher c)) (asked w instance accepted k name requests p g) (asked_agrees name requests))
  part_agrees others name (reference kind text) = mapped_agrees _ _ _ spans_nothing (option_agrees (reference_edge w k name kind text) p)

  parts_agree : (others : Step → Bool) (xs : List (Part K)) → Agrees (parts_outcome w instance c k path p g others xs)
  parts_agree others [] = (λ e. refl, λ e. refl)
  parts_agree others (x ∷ xs) = let told = told_of others (form_told w.keywords x.form) in
      agrees_both (part_outcome w instance c k path p g told x.name x.form) (parts_outcome w instance c k path p g others xs) (part_agrees told x.name x.form) (parts_agree others xs)

  pub form_valid : (others : Step → Bool) (name : Text) (form : Form K) → EntryValid (part_units w instance c k path p u others name form) (part_outcome w instance c k path p g others name form)
  form_valid others name (keyword m requests absorbed) =
      let answers : Question → Unit_ = asked w instance no_unit k name requests p u in
      record {
        all = given_valid (at w instance k path p) name (w.keywords.units m (subject w instance p) (beside others (matching w.matcher c)) answers)
            ∙ ((laws m).units_valid (subject w instance p) (beside others (matching w.matcher c)) answers
            ∙ ap (w.keywords.holds m (subject w instance p) (beside others (matching w.matcher c))) (λ i q. asked_valid name requests q i));
      }
  form_valid others name (reference kind text) = record { all = and_true _ ∙ option_valid (reference_edge w k name kind text) p }

  parts_valid : (others : Step → Bool) (xs : List (Part K)) → EntriesValid (entries_of w instance c k path p u others xs) (parts_outcome w instance c k path p g others xs)
  parts_valid others [] = none_left
  parts_valid others (x ∷ xs) = one_more (form_valid (told_of others (form_told w.keywords x.form)) x.name x.form) (parts_valid others xs)

  pub node_agrees : Agrees (outcome_of w instance c k path p g)
  node_agrees = go (plan w k)
    where
      go : (o : Plan K) → Agrees (elim o [ always ↦ accepted | never ↦ false_outcome w.keywords.texts (at w instance k path p) (subject w instance p) | these xs ↦ kept (parts_outcome w instance c k path p g (others_span w instance c k path p g xs) xs) ])
      go always = (λ e. refl, λ e. refl)
      go never = (λ e. absurd (cc e), λ e. absurd (cc e))
      go (these xs) = parts_agree (others_span w instance c k path p g xs) xs

  pub node_valid : (report_of (unit_of w instance c k path p g u)).valid ≡ (outcome_of w instance c k path p g).verdict
  node_valid = go (plan w k)
    where
      go : (o : Plan K) → (report_of (elim o
          [ always ↦ true_unit (at w instance k path p) | never ↦ false_unit w.keywords.texts (at w instance k path p) (subject w instance p) | these xs ↦ plan_unit (at w instance k path p) (annotations_of w k) (entries_of w instance c k path p u (others_span w instance c k path p g xs) xs) ])).valid
          ≡ (let x : Outcome = elim o [ always ↦ accepted | never ↦ false_outcome w.keywords.texts (at w instance k path p) (subject w instance p) | these xs ↦ kept (parts_outcome w instance c k path p g (others_span w instance c k path p g xs) xs) ] in x.verdict)
      go always = refl
      go never = refl
      go (these xs) = entries_valid (parts_valid (others_span w instance c k path p g xs) xs)
