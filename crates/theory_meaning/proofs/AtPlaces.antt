-- Questions are asked only at places of the instance.
use Rattle.std.proofs.Common.{◌≡◌, ℕ, zero, suc, ◌+◌, ◌==◌, ◌&&◌, ◌||◌, Bool, true, false, cond, List, [], ◌∷◌, ◌++◌, map, refl, sym, subst, ◌∙◌, ap, arith, true≢false}
use Rattle.std.specs.Prelude.{Contains, Option, Some, None, is_some, option_and_then, option_map, unwrap_or, All, filter_map, flat_map, bytes_eq}
use Rattle.std.specs.List.{list_any, cons_option}
use Rattle.std.proofs.lemmas.List.Elements.{All-head, All-tail}
use Rattle.serde_json.specs.Data.{Data, null, boolean, number, string, array, object, Items, no_items, item, Members, no_members, member}
use Rattle.theory_definitions.specs.Instance.{Text, Place, Step, to_member, to_item, to_name, Subject, a_value, a_name, member_of, item_of, after_step, subject_from, subject_at, places, item_places, member_places, same_step, same_place}
use Rattle.theory_definitions.specs.Parts.{Parts}
use Rattle.theory_definitions.specs.Keywords.{Below, here, down, Question}
use Rattle.theory_definitions.specs.Making.{Request}
use Rattle.theory_definitions.specs.Plan.{Key, Edge, Part, Form, keyword, reference, Plan, always, never, these, plan, child, reference_edge}
use Rattle.theory_definitions.specs.Meaning.{subject, place_below}
use Rattle.theory_meaning.specs.Returns.{Asked, part_questions, questions, LeadsTo, stays, asks}
use Rattle.theory_definitions.specs.Laws.{IsPresent, steps_below}
use Rattle.theory_definitions.proofs.Products.{or_left, or_right, any-append_left, any-append_right, both_true}
use Rattle.theory_meaning.proofs.Reading.{Reads}
use Rattle.theory_meaning.proofs.Falls.{from_below}
use Rattle.theory_meaning.proofs.Simulates.{same_number}

any_map : (s t : Step) (p : Place) (ps : List Place) → same_step s t ≡ true → list_any (same_place p) ps ≡ true → list_any (same_place (s ∷ p)) (map (λ q. t ∷ q) ps) ≡ true
any_map s t p [] e h = absurd (true≢false (sym h))
any_map s t p (q ∷ ps) e h = go (same_place p q) h (any_map s t p ps e)
  where
    go : (b : Bool) → (b || list_any (same_place p) ps) ≡ true → (list_any (same_place p) ps ≡ true → list_any (same_place (s ∷ p)) (map (λ r. t ∷ r) ps) ≡ true)
        → ((same_step s t && b) || list_any (same_place (s ∷ p)) (map (λ r. t ∷ r) ps)) ≡ true
    go true k f = or_left (same_step s t && true) _ (both_true _ _ e refl)
    go false k f = or_right (same_step s t && false) _ (f k)

in_members : (k : Text) (p : Place) (ms : Members) (d : Data) → member_of k ms ≡ Some d → list_any (same_place p) (places d) ≡ true → list_any (same_place (to_member k ∷ p)) (member_places ms) ≡ true
in_members k p no_members d e h = absurd (let f : ⊥ = cc in f)
in_members k p (member l v rest) d e h = go (bytes_eq k l) refl e (λ r. in_members k p rest d r h)
  where
    some_is : ◌≡◌ {A = Option Data} (Some v) (Some d) → v ≡ d
    some_is q = ap (λ o. elim o [ Some x ↦ x | None ↦ v ]) q

    go : (b : Bool) → bytes_eq k l ≡ b → cond b (Some v) (member_of k rest) ≡ Some d → (member_of k rest ≡ Some d → list_any (same_place (to_member k ∷ p)) (member_places rest) ≡ true)
        → list_any (same_place (to_member k ∷ p)) (map (λ q. to_member l ∷ q) (places v) ++ member_places rest) ≡ true
    go true s q f = any-append_left (same_place (to_member k ∷ p)) (map (λ q. to_member l ∷ q) (places v)) (member_places rest) (any_map (to_member k) (to_member l) p (places v) s (subst (λ x. list_any (same_place p) (places x) ≡ true) (sym (some_is q)) h))
    go false s q f = any-append_right (same_place (to_member k ∷ p)) (map (λ q. to_member l ∷ q) (places v)) (member_places rest) (f q)

in_names : (k : Text) (ms : Members) (d : Data) → member_of k ms ≡ Some d → list_any (same_place (to_name k ∷ [])) (member_places ms) ≡ true
in_names k no_members d e = absurd (let f : ⊥ = cc in f)
in_names k (member l v rest) d e = go (bytes_eq k l) e (in_names k rest d)
  where
    go : (b : Bool) → cond b (Some v) (member_of k rest) ≡ Some d → (member_of k rest ≡ Some d → list_any (same_place (to_name k ∷ [])) (member_places rest) ≡ true)
        → ((b && true) || list_any (same_place (to_name k ∷ [])) (map (λ q. to_member l ∷ q) (places v) ++ member_places rest)) ≡ true
    go true q f = refl
    go false q f = any-append_right (same_place (to_name k ∷ [])) (map (λ q. to_member l ∷ q) (places v)) (member_places rest) (f q)

in_items : (n m : ℕ) (p : Place) (ds : Items) (d : Data) → item_of n ds ≡ Some d → list_any (same_place p) (places d) ≡ true → list_any (same_place (to_item (m + n) ∷ p)) (item_places m ds) ≡ true
in_items n m p no_items d e h = absurd (let f : ⊥ = cc in f)
in_items zero m p (item v ds) d e h = any-append_left (same_place (to_item (m + zero) ∷ p)) (map (λ q. to_item m ∷ q) (places v)) (item_places (m + 1) ds)
    (any_map (to_item (m + zero)) (to_item m) p (places v) (let i : m + zero ≡ m = omega arith in ap (λ u. u == m) i ∙ same_number m) (subst (λ x. list_any (same_place p) (places x) ≡ true) (sym (ap (λ o. elim o [ Some x ↦ x | None ↦ v ]) e)) h))
in_items (suc n) m p (item v ds) d e h = any-append_right (same_place (to_item (m + suc n) ∷ p)) (map (λ q. to_item m ∷ q) (places v)) (item_places (m + 1) ds)
    (let i : m + 1 + n ≡ m + suc n = omega arith in subst (λ u. list_any (same_place (to_item u ∷ p)) (item_places (m + 1) ds) ≡ true) i (in_items n (m + 1) p ds d e h))

stuck : {P : Type 0} → ◌≡◌ {A = Bool} false true → P
stuck e = absurd (true≢false (sym e))

name_ends : (p : Place) (k : Text) → is_some (subject_from p (a_name k)) ≡ true → p ≡ []
name_ends [] k h = refl
name_ends (s ∷ p) k h = stuck h

abbrev There : Place → Data → Type 0
There p d = is_some (subject_from p (a_value d)) ≡ true → list_any (same_place p) (places d) ≡ true

member_case : (k : Text) (p : Place) (ms : Members) (o : Option Data) → member_of k ms ≡ o → ((d : Data) → There p d)
    → is_some (option_and_then (subject_from p) (option_and_then (λ d. Some (a_value d)) o)) ≡ true → list_any (same_place (to_member k ∷ p)) (member_places ms) ≡ true
member_case k p ms None e f h = stuck h
member_case k p ms (Some d) e f h = in_members k p ms d e (f d h)

name_case : (k : Text) (p : Place) (ms : Members) (o : Option Data) → member_of k ms ≡ o
    → is_some (option_and_then (subject_from p) (option_and_then (λ d. Some (a_name k)) o)) ≡ true → list_any (same_place (to_name k ∷ p)) (member_places ms) ≡ true
name_case k p ms None e h = stuck h
name_case k p ms (Some d) e h = subst (λ q. list_any (same_place (to_name k ∷ q)) (member_places ms) ≡ true) (sym (name_ends p k h)) (in_names k ms d e)

item_case : (n : ℕ) (p : Place) (ds : Items) (o : Option Data) → item_of n ds ≡ o → ((d : Data) → There p d)
    → is_some (option_and_then (subject_from p) (option_and_then (λ d. Some (a_value d)) o)) ≡ true → list_any (same_place (to_item n ∷ p)) (item_places 0 ds) ≡ true
item_case n p ds None e f h = stuck h
item_case n p ds (Some d) e f h = let i : 0 + n ≡ n = omega arith in subst (λ u. list_any (same_place (to_item u ∷ p)) (item_places 0 ds) ≡ true) i (in_items n 0 p ds d e (f d h))

-- A place with a value or a name is a place of the instance.
pub is_place : (p : Place) (d : Data) → There p d
is_place [] null h = refl
is_place [] (boolean b) h = refl
is_place [] (number b) h = refl
is_place [] (string b) h = refl
is_place [] (array b) h = refl
is_place [] (object b) h = refl
is_place (to_member k ∷ p) (object ms) h = member_case k p ms (member_of k ms) refl (is_place p) h
is_place (to_name k ∷ p) (object ms) h = name_case k p ms (member_of k ms) refl h
is_place (to_item n ∷ p) (array ds) h = item_case n p ds (item_of n ds) refl (is_place p) h
is_place (to_member k ∷ p) null h = stuck h
is_place (to_member k ∷ p) (boolean b) h = stuck h
is_place (to_member k ∷ p) (number b) h = stuck h
is_place (to_member k ∷ p) (string b) h = stuck h
is_place (to_member k ∷ p) (array b) h = stuck h
is_place (to_name k ∷ p) null h = stuck h
is_place (to_name k ∷ p) (boolean b) h = stuck h
is_place (to_name k ∷ p) (number b) h = stuck h
is_place (to_name k ∷ p) (string b) h = stuck h
is_place (to_name k ∷ p) (array b) h = stuck h
is_place (to_item k ∷ p) null h = stuck h
is_place (to_item k ∷ p) (boolean b) h = stuck h
is_place (to_item k ∷ p) (number b) h = stuck h
is_place (to_item k ∷ p) (string b) h = stuck h
is_place (to_item k ∷ p) (object b) h = stuck h

module _ {S K R : Type 0} (w : Parts S K R) (instance : Data) (reads : Reads w.keywords) where
  Stands : Place → Type 0
  Stands p = is_some (subject_at instance p) ≡ true

  below_stands : (p : Place) (b : Below) → Stands p → IsPresent (subject w instance p) (steps_below b) → Stands (place_below p b)
  unfolding Stands
  below_stands p here h is = h
  below_stands p (down s) h is = subst (λ o. is_some o ≡ true) (sym (from_below p s (a_value instance))) (go (subject_at instance p) h is)
    where
      go : (o : Option Subject) → is_some o ≡ true → IsPresent (unwrap_or o (a_value null)) (s ∷ []) → is_some (option_and_then (after_step s) o) ≡ true
      go None e k = stuck e
      go (Some x) e k = last (after_step s x) k
        where
          last : (o : Option Subject) → is_some (option_and_then (subject_from []) o) ≡ true → is_some o ≡ true
          last None e' = stuck e'
          last (Some y) e' = refl

  abbrev EachStands : List (Asked w instance) → Type 0
  EachStands [] = Unit {0}
  EachStands (a ∷ as') = Stands a.place × EachStands as'

  append_stands : (xs ys : List (Asked w instance)) → EachStands xs → EachStands ys → EachStands (xs ++ ys)
  append_stands [] ys h t = t
  append_stands (x ∷ xs) ys h t = (h.0, append_stands xs ys h.1 t)

  each : (as' : List (Asked w instance)) → EachStands as' → (c : Asked w instance) → Contains as' c → Stands c.place
  each [] h c (i, is, at_i) = absurd (omega arith)
  each (a ∷ as') h c (zero, is, at_i) = subst (λ (x : Asked w instance). Stands x.place) at_i h.0
  each (a ∷ as') h c (suc i, is, at_i) = each as' h.1 c (i, omega arith, at_i)

  module _ (a : Asked w instance) (stands : Stands a.place) where
    question_of : Text → List Request → Question → Option (Asked w instance)
    question_of name requests q = option_map (λ edge. record { key = edge.key; path = a.path ++ edge.path; place = place_below a.place q.below }) (child w a.key name requests q.child)

    keyword_stands : (name : Text) (requests : List Request) (qs : List Question) → All (λ q. IsPresent (subject w instance a.place) (steps_below q.below)) qs → EachStands (filter_map (question_of name requests) qs)
    unfolding question_of
    keyword_stands name requests [] h = tt
    keyword_stands name requests (q ∷ qs) h = go (child w a.key name requests q.child) (below_stands a.place q.below stands (All-head (λ q'. IsPresent (subject w instance a.place) (steps_below q'.below)) q qs h))
        (keyword_stands name requests qs (All-tail (λ q'. IsPresent (subject w instance a.place) (steps_below q'.below)) q qs h))
      where
        go : (o : Option (Edge S)) → Stands (place_below a.place q.below) → EachStands (filter_map (question_of name requests) qs)
            → EachStands (cons_option (option_map (λ edge. record { key = edge.key; path = a.path ++ edge.path; place = place_below a.place q.below }) o) (filter_map (question_of name requests) qs))
        go None f t = t
        go (Some e) f t = (f, t)

    form_stands : (name : Text) (x : Form K) → EachStands (part_questions w instance a name x)
    unfolding question_of
    form_stands name (keyword m requests absorbed) = keyword_stands name requests (w.keywords.may_ask m (subject w instance a.place)) (reads.present m (subject w instance a.place))
    form_stands name (reference kind text) = go (reference_edge w a.key name kind text)
      where
        go : (o : Option (Edge S)) → EachStands (elim o [ None ↦ [] | Some edge ↦ record { key = edge.key; path = a.path ++ edge.path; place = a.place } ∷ [] ])
        go None = tt
        go (Some e) = (stands, tt)

    parts_stand : (xs : List (Part K)) → EachStands (flat_map (λ x. part_questions w instance a x.name x.form) xs)
    parts_stand [] = tt
    parts_stand (x ∷ xs) = append_stands (part_questions w instance a x.name x.form) _ (form_stands x.name x.form) (parts_stand xs)

    questions_stand : (o : Plan K) → EachStands (elim o [ always ↦ [] | never ↦ [] | these xs ↦ flat_map (λ x. part_questions w instance a x.name x.form) xs ])
    questions_stand always = tt
    questions_stand never = tt
    questions_stand (these xs) = parts_stand xs

  leads_stand : (a b : Asked w instance) → Stands a.place → LeadsTo w instance a b → Stands b.place
  leads_stand a b h stays = h
  leads_stand a b h (asks {b = c} q l) = leads_stand c b (each (questions w instance a) (questions_stand a h (plan w a.key)) c q) l

  pub at_places : (k : Key S) (a : Asked w instance) → LeadsTo w instance (record { key = k; path = []; place = [] }) a → list_any (same_place a.place) (places instance) ≡ true
  unfolding Stands
  at_places k a l = is_place a.place instance (leads_stand (record { key = k; path = []; place = [] }) a refl l)
