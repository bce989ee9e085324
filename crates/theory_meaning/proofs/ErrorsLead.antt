-- Errors of the plain meaning point at a keyword and at a value.
use Rattle.std.proofs.Common.{◌≡◌, ℕ, zero, suc, Bool, true, false, List, [], ◌∷◌, ◌++◌, refl, sym, subst, ◌∙◌, ap, arith}
use Rattle.std.specs.Prelude.{All, Contains, Option, Some, None, option_and_then, is_some, unwrap_or, flat_map}
use Rattle.std.proofs.lemmas.List.{append_assoc, append-nil}
use Rattle.std.proofs.lemmas.List.Elements.{All-nil, All-cons, All-map, All-append, All-weaker, All-contains, All-contains_itself}
use Rattle.serde_json.specs.Data.{Data, null, boolean, number, string, array, object}
use Rattle.theory_definitions.specs.Instance.{Text, Place, Subject, a_value, after_step, subject_from, subject_at, Step}
use Rattle.theory_definitions.specs.Pointer.{joined, pointer_to}
use Rattle.theory_definitions.specs.Reports.{Error, Outcome, accepted}
use Rattle.theory_definitions.specs.Parts.{Parts}
use Rattle.theory_definitions.specs.Matching.{Completion, Matching, matching, beside}
use Rattle.theory_definitions.specs.Making.{Request}
use Rattle.theory_definitions.specs.Keywords.{Answers, Below, here, down, Question, Own, Fault, own, passed}
use Rattle.theory_definitions.specs.Plan.{Key, Edge, Part, Form, is_refused, keyword, reference, Plan, always, never, these, plan, plan_of, child, requested, reference_edge, height, schema_of, scripted, absolute_of}
use Rattle.theory_definitions.specs.Meaning.{subject, at, place_below, stamped, fault_error, false_error, false_outcome, asked, referred_to, keyword_outcome, part_outcome, parts_outcome, outcome_of, within, unfold_, kept, form_told, others_span, told_of}
use Rattle.theory_definitions.specs.Laws.{IsPresent, steps_below, SpotInside, StandsInside, PassesUnchanged, KeepsLaws}
use Rattle.theory_meaning.specs.Paths.{Walks, stands, goes, part_edges, names}
use Rattle.theory_meaning.specs.Numbered.{subject_in}
use Rattle.theory_meaning.specs.ErrorsLead.{EachKeepsAbsorbing, MakesAbsorbing, innermost, keyword_location, IsPartOf, Passes, begins, passes, EndsIn, PointsAt, ErrorsLead}
use Rattle.theory_meaning.proofs.Questions.{later, in_flat_map}
use Rattle.theory_meaning.proofs.Settles.{picked}
use Rattle.theory_meaning.proofs.SameOutcome.{in_option_list}
use Rattle.theory_meaning.proofs.Makings.{ends_until}
use Rattle.theory_meaning.proofs.PlanForms.{EachForm, PlanForms, plan_forms}

-- ---- places

abbrev pub Stands : Data → Place → Type 0
Stands instance p = is_some (subject_at instance p) ≡ true

-- Whatever is present at a subject is present below its place.
from_joined : (p q : Place) (x y : Subject) → subject_from p x ≡ Some y → is_some (subject_from q y) ≡ true → is_some (subject_from (p ++ q) x) ≡ true
from_joined [] q x y e h = subst (λ (o : Option Subject). is_some (option_and_then (subject_from q) o) ≡ true) (sym e) h
from_joined (s ∷ p) q x y e h = go (after_step s x) (λ z. from_joined p q z y) e
  where
    go : (o : Option Subject) → ((z : Subject) → subject_from p z ≡ Some y → is_some (subject_from q y) ≡ true → is_some (subject_from (p ++ q) z) ≡ true)
        → option_and_then (subject_from p) o ≡ Some y → is_some (option_and_then (subject_from (p ++ q)) o) ≡ true
    go None f e' = absurd (let b : ⊥ = cc in b)
    go (Some z) f e' = f z e' h

pub stands_below : (instance : Data) (p q : Place) → Stands instance p → IsPresent (subject_in instance p) q → Stands instance (p ++ q)
stands_below instance p q there h = go (subject_at instance p) refl there h
  where
    go : (o : Option Subject) → subject_at instance p ≡ o → is_some o ≡ true → is_some (subject_from q (unwrap_or o (a_value null))) ≡ true → Stands instance (p ++ q)
    go None e i h' = absurd (let b : ⊥ = cc in b)
    go (Some y) e i h' = from_joined p q (a_value instance) y e h'

pub stands_at : (instance : Data) (p : Place) (b : Below) → Stands instance p → IsPresent (subject_in instance p) (steps_below b) → Stands instance (place_below p b)
stands_at instance p here there h = there
stands_at instance p (down s) there h = stands_below instance p (s ∷ []) there h

-- ---- stamps

abbrev or_else : Option Text → Option Text → Option Text
or_else a b = elim a [ None ↦ b | Some x ↦ Some x ]

-- An error that is passed on twice has the inner location, or else the outer one.
stamped_twice : (a : Option Text) (as' : List (Option Text)) (e : Error) → stamped (innermost as') (stamped a e) ≡ stamped (innermost (a ∷ as')) e
stamped_twice a as' e = λ j. record e { absolute = go e.absolute a j }
  where
    go : (o b : Option Text) → ◌≡◌ {A = Option Text} (or_else (or_else o b) (innermost as')) (elim o [ None ↦ innermost (b ∷ as') | Some x ↦ Some x ])
    go None None = refl
    go None (Some y) = refl
    go (Some x) b = refl

stamped_never : (e : Error) → stamped None e ≡ e
stamped_never e = λ j. record e { absolute = go e.absolute j }
  where
    go : (o : Option Text) → ◌≡◌ {A = Option Text} (elim o [ None ↦ None | Some x ↦ Some x ]) o
    go None = refl
    go (Some x) = refl

-- ---- parts

each_form : {K : Type 0} (P : Form K → Type 0) (xs : List (Part K)) → EachForm P xs → (x : Part K) → Contains xs x → P x.form
each_form P [] h x (i, is, at_i) = absurd (omega arith)
each_form P (y ∷ ys) h x (zero, is, at_i) = subst (λ z. P z.form) at_i h.0
each_form P (y ∷ ys) h x (suc i, is, at_i) = each_form P ys h.1 x (i, omega arith, at_i)

module _ {S K R : Type 0} (w : Parts S K R) (absorbs : K → List Text) where
  abbrev pub Absorbing : Form K → Type 0
  Absorbing (keyword m requests absorbed) = absorbed ≡ absorbs m
  Absorbing (reference kind text) = Unit {0}

  pub absorbing : MakesAbsorbing absorbs w.table → (k : Key S) (d : Data) → PlanForms Absorbing (plan_of w k d)
  absorbing makers k null = tt
  absorbing makers k (boolean true) = tt
  absorbing makers k (boolean false) = tt
  absorbing makers k (number n) = tt
  absorbing makers k (string s) = tt
  absorbing makers k (array ds) = tt
  absorbing makers k (object ms) = plan_forms w k ms Absorbing (λ kind text. tt) (λ custom name m absorbed e. makers custom name ms _ _ _ _ m absorbed (ends_until (is_refused w k) (scripted w k ms custom name).requests (scripted w k ms custom name).ends m absorbed e))

-- A part of a target absorbs the same names as its keyword.
pub absorbs_its : {S K R : Type 0} (w : Parts S K R) (absorbs : K → List Text) → MakesAbsorbing absorbs w.table → (k : Key S) (xs : List (Part K)) → plan w k ≡ these xs
    → (x : Part K) → Contains xs x → (m : K) (requests : List Request) (absorbed : List Text) → x.form ≡ keyword m requests absorbed → absorbed ≡ absorbs m
absorbs_its w absorbs makers k xs is_plan x in_xs m requests absorbed is_form =
    let forms : EachForm (Absorbing w absorbs) xs = subst (PlanForms (Absorbing w absorbs)) is_plan (absorbing w absorbs makers k (schema_of w k)) in
    subst (Absorbing w absorbs) is_form (each_form (Absorbing w absorbs) xs forms x in_xs)

abbrev absorbed_by : {K : Type 0} → Form K → List Text
absorbed_by form = elim form [ keyword m requests absorbed ↦ absorbed | reference kind text ↦ [] ]

abbrev IsAbsorbed : List Text → Option Text → Type 0
IsAbsorbed absorbed o = elim o [ None ↦ Unit {0} | Some name ↦ Contains absorbed name ]

-- ---- paths

module _ {S K R : Type 0} (w : Parts S K R) (root : Key S) where
  abbrev EdgesOf : Key S → Plan K → List (Edge S)
  EdgesOf k o = elim o [ always ↦ [] | never ↦ [] | these xs ↦ flat_map (λ x. part_edges w k x.name x.form) xs ]

  edge_of : (k : Key S) (o : Plan K) (x : Part K) (edge : Edge S) → IsPartOf w o x → Contains (part_edges w k x.name x.form) edge → Contains (EdgesOf k o) edge
  edge_of k always x edge h c = absurd h
  edge_of k never x edge h c = absurd h
  edge_of k (these xs) x edge h c = in_flat_map (λ y. part_edges w k y.name y.form) xs x edge h c

  walks_of : {path : Text} {k : Key S} {locations : List (Option Text)} → Passes w root path k locations → Walks w root path k
  walks_of begins = stands
  walks_of (passes {k = k} x edge way is c) = goes edge (walks_of way) (edge_of k (plan w k) x edge is c)

  abbrev RestOf : Text → Plan K → Type 0
  RestOf rest o = elim o [ always ↦ ⊥ | never ↦ rest ≡ [] | these xs ↦ (name : Text) × (path : Place) × (Contains (flat_map (names w) xs) name) × (rest ≡ joined [] name ++ pointer_to path) ]

  rest_of : (k : Key S) (rest : Text) (location : Option Text) (o : Plan K) → EndsIn w k rest location o → RestOf rest o
  rest_of k rest location always h = absurd h
  rest_of k rest location never h = h.0
  rest_of k rest location (these xs) (x, name, path, in_xs, in_names, is, at_location) = (name, path, in_flat_map (names w) xs x name in_xs in_names, is)

  -- ---- errors of one target to which the path leads

  module _ (instance : Data) where
    -- The error points at a keyword and at a value, after the keywords on the path have added their
    -- absolute locations.
    abbrev pub Leading : List (Option Text) → Error → Type 0
    Leading locations e = PointsAt w root instance (stamped (innermost locations) e)

    module _ (path : Text) (k : Key S) (locations : List (Option Text)) (way : Passes w root path k locations) (p : Place) (there : Stands instance p) where
      here_leads : (rest : Text) (location : Option Text) → EndsIn w k rest location (plan w k) → (e : Error) → e.evaluation_path ≡ path ++ rest → e.schema_path ≡ k.location ++ rest
          → Stands instance e.place → e.absolute ≡ location → Leading locations e
      here_leads rest location ends e at_path at_schema at_place is = record {
        key = k;
        rest = rest;
        leads = record { front = path; walks = walks_of way; ends = rest_of k rest location (plan w k) ends; is = at_path };
        schema_path = at_schema;
        present = at_place;
        location = location;
        above = locations;
        way = way;
        ends = ends;
        absolute = ap (λ (o : Option Text). elim o [ None ↦ innermost locations | Some a ↦ Some a ]) is;
      }

      pub false_leads : plan w k ≡ never → Leading locations (false_error w.keywords.texts (at w instance k path p) (subject_in instance p))
      false_leads is = here_leads [] (absolute_of w k k.location) (subst (EndsIn w k [] (absolute_of w k k.location)) (sym is) (refl, refl)) _ (sym (append-nil path)) (sym (append-nil k.location)) there refl

      module _ (xs : List (Part K)) (is_plan : plan w k ≡ these xs) (x : Part K) (in_xs : Contains xs x) where
        pub is_part : IsPartOf w (plan w k) x
        is_part = subst (λ o. IsPartOf w o x) (sym is_plan) in_xs

        -- An error that passes through the keyword has its own absolute location, or else the
        -- keyword's.
        passed_leads : (e : Error) → Leading (keyword_location w k x.name ∷ locations) e → Leading locations (stamped (keyword_location w k x.name) e)
        passed_leads e h = subst (PointsAt w root instance) (sym (stamped_twice (keyword_location w k x.name) locations e)) h

        pub each_passed : (es : List Error) → All (Leading (keyword_location w k x.name ∷ locations)) es → All (λ e. Leading locations (stamped (keyword_location w k x.name) e)) es
        each_passed es h = All-weaker (Leading (keyword_location w k x.name ∷ locations)) (λ e. Leading locations (stamped (keyword_location w k x.name) e)) passed_leads es h

        module _ (m : K) (requests : List Request) (absorbed : List Text) (is_form : x.form ≡ keyword m requests absorbed) where
          is_name : (o : Option Text) → IsAbsorbed absorbed o → Contains (names w x) (unwrap_or o x.name)
          is_name None h = (zero, omega arith, refl)
          is_name (Some name) h = subst (λ (form : Form K). Contains (x.name ∷ absorbed_by form) name) (sym is_form) (later x.name absorbed name h)

          going_on : (front name : Text) (steps : Place) (below : Text) → below ≡ pointer_to steps → joined front name ++ below ≡ front ++ (joined [] name ++ pointer_to steps)
          going_on front name steps below e = append_assoc front (joined [] name) below ∙ ap (λ t. front ++ (joined [] name ++ t)) e

          -- An error of the keyword's own.
          own_leads : (o : Own) → SpotInside (subject_in instance p) absorbed o.spot → Leading locations (fault_error (at w instance k path p) x.name (own o))
          own_leads o (present, (steps, is_path), in_absorbed) =
              let name : Text = unwrap_or o.spot.absorbed x.name in
              here_leads (joined [] name ++ pointer_to steps) (keyword_location w k name)
              (subst (EndsIn w k (joined [] name ++ pointer_to steps) (keyword_location w k name)) (sym is_plan) (x, name, steps, in_xs, is_name o.spot.absorbed in_absorbed, refl, refl))
              (fault_error (at w instance k path p) x.name (own o))
              (going_on path name steps o.spot.path is_path) (going_on k.location name steps o.spot.path is_path)
              (stands_below instance p o.spot.below there present) refl

          fault_leads : (answers : Answers) → ((q : Question) → Contains (w.keywords.may_ask m (subject_in instance p)) q → All (Leading (keyword_location w k x.name ∷ locations)) (answers q).errors)
              → (f : Fault) → StandsInside (subject_in instance p) absorbed f → PassesUnchanged answers (w.keywords.may_ask m (subject_in instance p)) f → Leading locations (fault_error (at w instance k path p) x.name f)
          fault_leads answers h (own o) inside unchanged = own_leads o inside
          fault_leads answers h (passed e) inside (q, may, in_answer) = passed_leads e (All-contains (Leading (keyword_location w k x.name ∷ locations)) (answers q).errors e (h q may) in_answer)

          -- If the errors that answer its questions lead, so do its own.
          pub keyword_leads : KeepsLaws w.keywords m absorbed → (matches : Matching) (answers : Answers)
              → ((q : Question) → Contains (w.keywords.may_ask m (subject_in instance p)) q → Stands instance (place_below p q.below) → All (Leading (keyword_location w k x.name ∷ locations)) (answers q).errors)
              → All (Leading locations) (keyword_outcome w.keywords (at w instance k path p) x.name m (subject_in instance p) matches answers).errors
          keyword_leads laws matches answers h =
              let s : Subject = subject_in instance p in
              let fs : List Fault = w.keywords.faults m s matches answers in
              All-map (Leading locations) (fault_error (at w instance k path p) x.name) fs
              (All-weaker (Contains fs) (λ f. Leading locations (fault_error (at w instance k path p) x.name f))
              (λ f in_fs. fault_leads answers (λ q may. h q may (stands_at instance p q.below there (All-contains (λ q'. IsPresent s (steps_below q'.below)) (w.keywords.may_ask m s) q (laws.present s) may)))
              f (All-contains (StandsInside s absorbed) fs f (laws.stands s matches answers) in_fs) (All-contains (PassesUnchanged answers (w.keywords.may_ask m s)) fs f (laws.passes s matches answers) in_fs))
              fs (All-contains_itself fs))

-- ---- all errors of a target, if the errors that answer its questions lead

module _ {S K R : Type 0} (w : Parts S K R) (absorbs : K → List Text) (laws : EachKeepsAbsorbing w.keywords absorbs) (makers : MakesAbsorbing absorbs w.table) (root : Key S) (instance : Data) where
  -- A keyword that a maker makes keeps its laws, for the names that its part absorbs.
  pub keeps : (k : Key S) (xs : List (Part K)) → plan w k ≡ these xs → (x : Part K) → Contains xs x → (m : K) (requests : List Request) (absorbed : List Text) → x.form ≡ keyword m requests absorbed
      → KeepsLaws w.keywords m absorbed
  keeps k xs is_plan x in_xs m requests absorbed is_form =
      subst (KeepsLaws w.keywords m) (sym (absorbs_its w absorbs makers k xs is_plan x in_xs m requests absorbed is_form)) (laws m)

  -- Each error of the answer leads, after these locations.
  abbrev pub AllLead : List (Option Text) → Outcome → Type 0
  AllLead locations o = All (Leading w root instance locations) o.errors

  module _ (c : Completion) where
    module _ (path : Text) (k : Key S) (locations : List (Option Text)) (way : Passes w root path k locations) (p : Place) (there : Stands instance p) (ask : Edge S → Place → Outcome)
        (answers : (x : Part K) (edge : Edge S) (q : Place) → Passes w root (path ++ edge.path) edge.key (keyword_location w k x.name ∷ locations) → Stands instance q → AllLead (keyword_location w k x.name ∷ locations) (ask edge q)) where
      module _ (xs : List (Part K)) (is_plan : plan w k ≡ these xs) where
        edge_leads : (x : Part K) → Contains xs x → (o : Option (Edge S)) (q : Place) → Stands instance q → ((edge : Edge S) → o ≡ Some edge → Contains (part_edges w k x.name x.form) edge)
            → AllLead (keyword_location w k x.name ∷ locations) (elim o [ None ↦ accepted | Some edge ↦ ask edge q ])
        edge_leads x in_xs None q at_q h = All-nil (Leading w root instance (keyword_location w k x.name ∷ locations))
        edge_leads x in_xs (Some edge) q at_q h = answers x edge q (passes x edge way (is_part w root instance path k locations way p there xs is_plan x in_xs) (h edge refl)) at_q

        form_leads : (others : Step → Bool) (x : Part K) → Contains xs x → (form : Form K) → x.form ≡ form → AllLead locations (part_outcome w instance c k path p ask others x.name form)
        form_leads others x in_xs (keyword m requests absorbed) is = keyword_leads w root instance path k locations way p there xs is_plan x in_xs m requests absorbed is (keeps k xs is_plan x in_xs m requests absorbed is)
            (beside others (matching w.matcher c)) (asked w instance accepted k x.name requests p ask)
            (λ q may at_q. edge_leads x in_xs (child w k x.name requests q.child) (place_below p q.below) at_q
            (λ edge e. subst (λ form. Contains (part_edges w k x.name form) edge) (sym is) (picked (requested w k x.name) requests q.child edge e)))
        form_leads others x in_xs (reference kind text) is =
            let o : Outcome = referred_to w instance accepted k x.name kind text p ask in
            All-map (Leading w root instance locations) (stamped (keyword_location w k x.name)) o.errors
            (each_passed w root instance path k locations way p there xs is_plan x in_xs o.errors
            (edge_leads x in_xs (reference_edge w k x.name kind text) p there (λ edge e. subst (λ form. Contains (part_edges w k x.name form) edge) (sym is) (in_option_list (reference_edge w k x.name kind text) edge e))))

        parts_lead : (others : Step → Bool) (ys : List (Part K)) → ((y : Part K) → Contains ys y → Contains xs y) → AllLead locations (parts_outcome w instance c k path p ask others ys)
        parts_lead others [] h = All-nil (Leading w root instance locations)
        parts_lead others (y ∷ ys) h =
            let told = told_of others (form_told w.keywords y.form) in
            let a : Outcome = part_outcome w instance c k path p ask told y.name y.form in
            let b : Outcome = parts_outcome w instance c k path p ask others ys in
            All-append (Leading w root instance locations) a.errors b.errors (form_leads told y (h y (zero, omega arith, refl)) y.form refl) (parts_lead others ys (λ z is. h z (later y ys z is)))

      plan_leads : (o : Plan K) → plan w k ≡ o → AllLead locations (elim o [ always ↦ accepted | never ↦ false_outcome w.keywords.texts (at w instance k path p) (subject w instance p) | these xs ↦ kept (parts_outcome w instance c k path p ask (others_span w instance c k path p ask xs) xs) ])
      plan_leads always is = All-nil (Leading w root instance locations)
      plan_leads never is = All-cons (Leading w root instance locations) _ [] (false_leads w root instance path k locations way p there is) (All-nil (Leading w root instance locations))
      plan_leads (these xs) is = parts_lead xs is (others_span w instance c k path p ask xs) xs (λ y in_xs. in_xs)

      outcome_leads : AllLead locations (outcome_of w instance c k path p ask)
      outcome_leads = plan_leads (plan w k) refl

    -- ---- the plain meaning at any depth

    abbrev Always : (Key S → Text → Place → Outcome) → Type 0
    Always say = (path : Text) (k : Key S) (locations : List (Option Text)) → Passes w root path k locations → (p : Place) → Stands instance p → AllLead locations (say k path p)

    by_kind : (b : Bool) (locations : List (Option Text)) (x y : Outcome) → AllLead locations x → AllLead locations y → AllLead locations (elim b [ true ↦ x | false ↦ y ])
    by_kind true locations x y f g = f
    by_kind false locations x y f g = g

    within_leads : (across : Key S → Text → Place → Outcome) → Always across → (h : ℕ) → Always (within w instance accepted (outcome_of w instance c) across h)
    within_leads across f zero path k locations way p there = All-nil (Leading w root instance locations)
    within_leads across f (suc h) path k locations way p there =
        let say : Key S → Text → Place → Outcome = within w instance accepted (outcome_of w instance c) across h in
        outcome_leads path k locations way p there
        (λ edge q. elim edge.is_reference [ true ↦ across edge.key (path ++ edge.path) q | false ↦ say edge.key (path ++ edge.path) q ])
        (λ x edge q way' at_q. by_kind edge.is_reference (keyword_location w k x.name ∷ locations) (across edge.key (path ++ edge.path) q) (say edge.key (path ++ edge.path) q)
        (f (path ++ edge.path) edge.key (keyword_location w k x.name ∷ locations) way' q at_q)
        (within_leads across f h (path ++ edge.path) edge.key (keyword_location w k x.name ∷ locations) way' q at_q))

    unfolding_leads : (n : ℕ) → Always (unfold_ w instance c n)
    unfolding_leads zero path k = within_leads (λ k' path' p'. accepted) (λ path' k' locations way p there. All-nil (Leading w root instance locations)) (height w k) path k
    unfolding_leads (suc n) path k = within_leads (unfold_ w instance c n) (unfolding_leads n) (height w k) path k

  -- At the root no keyword is on the path.
  pub at_root : (o : Outcome) → AllLead [] o → All (PointsAt w root instance) o.errors
  at_root o h = All-weaker (Leading w root instance []) (PointsAt w root instance) (λ e. subst (PointsAt w root instance) (stamped_never e)) o.errors h

  pub plain_leads : (c : Completion) (n : ℕ) → All (PointsAt w root instance) (unfold_ w instance c n root [] []).errors
  plain_leads c n = at_root (unfold_ w instance c n root [] []) (unfolding_leads c n [] root [] begins [] refl)

pub errors_lead : {S K R : Type 0} (w : Parts S K R) (absorbs : K → List Text) → ErrorsLead w absorbs
errors_lead w absorbs laws makers instance c n root = plain_leads w absorbs laws makers root instance c n
