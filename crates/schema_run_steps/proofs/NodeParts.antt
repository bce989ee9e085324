-- The code's entries beside the parts of a plan, and what holds no fraction.
use Rattle.std.proofs.Common.{◌≡◌, ◌∙◌, ℕ, zero, suc, ◌<◌, Bool, true, false, cond, List, [], ◌∷◌, length, get_or, map, refl, sym, ap, subst, arith, true≢false}
use Rattle.std.specs.Prelude.{All, Contains, Option, Some, None, option_map, option_and_then, slice_get, unwrap_or, filter_map, flat_map, bytes_eq, ◌||◌}
use Rattle.std.specs.List.{cons_option}
use Rattle.std.proofs.lemmas.List.Elements.{All-contains, Contains-append_left, Contains-append_right}
use Rattle.serde_json.specs.Data.{Data, Items, Members, array, boolean, item, member, no_items, no_members, null, number, object, string}
use Rattle.serde_json.specs.Written.{has_float, items_have_float, members_have_float}
use Rattle.theory_definitions.specs.Instance.{Place, Step, Subject, Text, a_name, a_value, after_step, item_of, member_of, subject_at, subject_from, to_item, to_member, to_name}
use Rattle.schema_reports.specs.InstanceTexts.{subject_has_float}
use Rattle.theory_definitions.specs.Guarded.{Children, NodeEdge, NodePlan, Nodes, form_edges, node_always, node_at, node_edges, node_keyword, node_reference}
use Rattle.theory_meaning.specs.Numbered.{subject_in}
use Rattle.theory_definitions.specs.Keywords.{Keywords, Mode}
use Rattle.theory_definitions.specs.Meaning.{false_outcome}
use Rattle.theory_definitions.specs.Pointer.{joined}
use Rattle.schema_reports.specs.ReportViews.{BorrowsItsPlace}
use Rattle.schema_traits.specs.FaultViews.{errors_in}
use Rattle.schema_traits.specs.declared.keyword.Reply as code
use Rattle.schema_run_steps.proofs.NodeRuns.{stands_in, where_is}
use Rattle.schema_traits.specs.KeywordViews.{Tells, reply_of}
use Rattle.schema_node_table.specs.NodeTable.{absolute_in, NodeEntry, numbered, plan_in, shaped}
use Rattle.theory_meaning.specs.Fractions.{IsWholeWord, form_words, node_words}
use Rattle.schema_run_context.specs.Matches.{Settling}
use Rattle.schema_run_steps.specs.Askings.{entry_where}
use Rattle.schema_run_steps.specs.ReplyModes.{reply_by}
use Rattle.schema_run_steps.specs.NodeRuns.{HasChildren, HasForm, Reading, Reads, Replies}

-- ---- lists

pub later : {A : Type 0} (x : A) (xs : List A) (y : A) → Contains xs y → Contains (x ∷ xs) y
later x xs y (i, is, at_i) = (suc i, omega arith, at_i)

in_flat_map : {A B : Type 0} (f : A → List B) (xs : List A) (x : A) (y : B) → Contains xs x → Contains (f x) y → Contains (flat_map f xs) y
in_flat_map f [] x y (i, is, at_i) k = absurd (omega arith)
in_flat_map f (z ∷ zs) x y (zero, is, at_i) k = Contains-append_left (f z) _ y (subst (λ u. Contains (f u) y) (sym at_i) k)
in_flat_map f (z ∷ zs) x y (suc i, is, at_i) k = Contains-append_right (f z) _ y (in_flat_map f zs x y (i, omega arith, at_i) k)

picked : {A B : Type 0} (h : A → Option B) (xs : List A) (i : ℕ) (y : B) → option_and_then h (slice_get xs i) ≡ Some y → Contains (filter_map h xs) y
picked h [] i y e = absurd (let f : ⊥ = cc in f)
picked {B = B} h (x ∷ xs) zero y e = subst (λ (o : Option B). Contains (cons_option o (filter_map h xs)) y) (sym e) (zero, omega arith, refl)
picked {B = B} h (x ∷ xs) (suc i) y e = go (h x) (picked h xs i y e)
  where
    go : (o : Option B) → Contains (filter_map h xs) y → Contains (cons_option o (filter_map h xs)) y
    go None k = k
    go (Some u) k = later u _ y k

pub part_at : {A B C : Type 0} (f : A → B) (g : B → C) (xs : List A) (i : ℕ) (x : A) → i < length xs → x ≡ get_or xs i x → Contains (map g (map f xs)) (g (f x))
part_at f g [] i x h e = absurd (omega arith)
part_at f g (y ∷ ys) zero x h e = (0, omega arith, ap (λ z. g (f z)) (sym e))
part_at f g (y ∷ ys) (suc i) x h e = later (g (f y)) (map g (map f ys)) (g (f x)) (part_at f g ys i x (omega arith) e)

-- ---- the plan of a number

pub plan_is : {K S : Type 0} (shape : K → S) (ns : List (NodeEntry K)) (i : ℕ) (n : NodeEntry K) (plan : NodePlan K) → slice_get ns i ≡ Some n → n.plan ≡ Some plan → (numbered shape ns).entries i ≡ shaped shape plan
plan_is shape ns i n plan e f = ap (λ o. shaped shape (plan_in o)) e ∙ ap (λ o. shaped shape (unwrap_or o node_always)) f

-- a node without a form accepts
pub plan_none : {K S : Type 0} (shape : K → S) (ns : List (NodeEntry K)) (i : ℕ) (n : NodeEntry K) → slice_get ns i ≡ Some n → n.plan ≡ None → (numbered shape ns).entries i ≡ node_always
plan_none shape ns i n e f = ap (λ o. shaped shape (plan_in o)) e ∙ ap (λ o. shaped shape (unwrap_or o node_always)) f

module _ {K : Type 0} (nodes : Nodes K) (i : ℕ) where
  pub reference_edge : (e : NodeEdge) → HasForm nodes i (node_reference e) → Contains (node_edges (nodes.entries i)) e
  reference_edge e (xs, is, y, in_xs, f) = subst (λ o. Contains (node_edges o) e) (sym is) (in_flat_map (λ y. form_edges y.form) xs y e in_xs (subst (λ o. Contains (form_edges o) e) (sym f) (zero, omega arith, refl)))

  pub keyword_children : (m : K) (es : Children) → HasForm nodes i (node_keyword m es) → HasChildren nodes i es
  keyword_children m es (xs, is, y, in_xs, f) q e at_q =
      subst (λ o. Contains (node_edges o) e) (sym is) (in_flat_map (λ y. form_edges y.form) xs y e in_xs (subst (λ o. Contains (form_edges o) e) (sym f) (picked (λ o. o) es q e at_q)))

  pub keyword_in : (m : K) (es : Children) → HasForm nodes i (node_keyword m es) → Contains (node_words (nodes.entries i)) m
  keyword_in m es (xs, is, y, in_xs, f) =
      subst (λ o. Contains (node_words o) m) (sym is) (in_flat_map (λ y. form_words y.form) xs y m in_xs (subst (λ o. Contains (form_words o) m) (sym f) (zero, omega arith, refl)))

-- ---- what contains no fraction contains none below

or_left : (a b : Bool) → (a || b) ≡ false → a ≡ false
or_left true b h = absurd (true≢false h)
or_left false b h = refl

or_right : (a b : Bool) → (a || b) ≡ false → b ≡ false
or_right true b h = absurd (true≢false h)
or_right false b h = h

member_plain : (k : Text) (ms : Members) (d : Data) → member_of k ms ≡ Some d → members_have_float ms ≡ false → has_float d ≡ false
member_plain k no_members d e h = absurd (let q : ⊥ = cc in q)
member_plain k (member l c ms) d e h = go (bytes_eq k l) (λ q. member_plain k ms d q (or_right (has_float c) _ h)) e
  where
    go : (b : Bool) → (member_of k ms ≡ Some d → has_float d ≡ false) → cond b (Some c) (member_of k ms) ≡ Some d → has_float d ≡ false
    go true f q = let r : c ≡ d = cc in sym (ap has_float r) ∙ or_left (has_float c) _ h
    go false f q = f q

item_plain : (i : ℕ) (ds : Items) (d : Data) → item_of i ds ≡ Some d → items_have_float ds ≡ false → has_float d ≡ false
item_plain i no_items d e h = absurd (let q : ⊥ = cc in q)
item_plain zero (item c ds) d e h = let r : c ≡ d = cc in sym (ap has_float r) ∙ or_left (has_float c) _ h
item_plain (suc i) (item c ds) d e h = item_plain i ds d e (or_right (has_float c) _ h)

value_plain : (o : Option Data) (y : Subject) → ((d : Data) → o ≡ Some d → has_float d ≡ false) → option_and_then (λ d. Some (a_value d)) o ≡ Some y → subject_has_float y ≡ false
value_plain None y f h = absurd (let q : ⊥ = cc in q)
value_plain (Some d) y f h = let r : a_value d ≡ y = cc in sym (ap subject_has_float r) ∙ f d refl

name_plain : (k : Text) (o : Option Data) (y : Subject) → option_and_then (λ d. Some (a_name k)) o ≡ Some y → subject_has_float y ≡ false
name_plain k None y h = absurd (let q : ⊥ = cc in q)
name_plain k (Some d) y h = let r : a_name k ≡ y = cc in sym (ap subject_has_float r)

nowhere : {P : Type 0} (y : Subject) → ◌≡◌ {A = Option Subject} None (Some y) → P
nowhere y h = absurd (let q : ⊥ = cc in q)

step_plain : (s : Step) (x y : Subject) → after_step s x ≡ Some y → subject_has_float x ≡ false → subject_has_float y ≡ false
step_plain (to_member k) (a_value (object ms)) y e h = value_plain (member_of k ms) y (λ d q. member_plain k ms d q h) e
step_plain (to_name k) (a_value (object ms)) y e h = name_plain k (member_of k ms) y e
step_plain (to_item n) (a_value (array ds)) y e h = value_plain (item_of n ds) y (λ d q. item_plain n ds d q h) e
step_plain (to_member k) (a_name j) y e h = nowhere y e
step_plain (to_name k) (a_name j) y e h = nowhere y e
step_plain (to_item n) (a_name j) y e h = nowhere y e
step_plain (to_member k) (a_value null) y e h = nowhere y e
step_plain (to_member k) (a_value (boolean b)) y e h = nowhere y e
step_plain (to_member k) (a_value (number b)) y e h = nowhere y e
step_plain (to_member k) (a_value (string b)) y e h = nowhere y e
step_plain (to_member k) (a_value (array b)) y e h = nowhere y e
step_plain (to_name k) (a_value null) y e h = nowhere y e
step_plain (to_name k) (a_value (boolean b)) y e h = nowhere y e
step_plain (to_name k) (a_value (number b)) y e h = nowhere y e
step_plain (to_name k) (a_value (string b)) y e h = nowhere y e
step_plain (to_name k) (a_value (array b)) y e h = nowhere y e
step_plain (to_item n) (a_value null) y e h = nowhere y e
step_plain (to_item n) (a_value (boolean b)) y e h = nowhere y e
step_plain (to_item n) (a_value (number b)) y e h = nowhere y e
step_plain (to_item n) (a_value (string b)) y e h = nowhere y e
step_plain (to_item n) (a_value (object b)) y e h = nowhere y e

place_plain : (p : Place) (x y : Subject) → subject_from p x ≡ Some y → subject_has_float x ≡ false → subject_has_float y ≡ false
place_plain [] x y e h = let r : x ≡ y = cc in sym (ap subject_has_float r) ∙ h
place_plain (s ∷ p) x y e h = go (after_step s x) (λ z q. step_plain s x z q h) (λ z q. place_plain p z y q) e
  where
    go : (o : Option Subject) → ((z : Subject) → o ≡ Some z → subject_has_float z ≡ false) → ((z : Subject) → subject_from p z ≡ Some y → subject_has_float z ≡ false → subject_has_float y ≡ false)
        → option_and_then (subject_from p) o ≡ Some y → subject_has_float y ≡ false
    go None f g q = nowhere y q
    go (Some z) f g q = g z q (f z refl)

pub plain_there : {K : Type 0} (is_whole : K → Bool) (nodes : Nodes K) (count : ℕ) (w : Settling) (p : Place) (s : Subject) (x : Reading) → Reads is_whole nodes count w p s x → x.texts ≡ true → subject_has_float s ≡ false
plain_there is_whole nodes count w p s x reads t = place_plain p (a_value x.root) s reads.stands (reads.tells.instance t)

-- if a reading compares texts, then the texts of a keyword of the table are compared
pub tells_keyword : {K : Type 0} (is_whole : K → Bool) (nodes : Nodes K) (count : ℕ) (w : Settling) (p : Place) (s : Subject) (x : Reading) (i : ℕ) (m : K) (es : Children) → i < count → Reads is_whole nodes count w p s x → HasForm nodes i (node_keyword m es) → Tells x.texts (is_whole m) s
tells_keyword is_whole nodes count w p s x i m es l reads form = record {
  keyword = λ t. All-contains (IsWholeWord is_whole) (node_words (nodes.entries i)) m (reads.tells.keywords t i l) (keyword_in nodes i m es form);
  instance = λ t. plain_there is_whole nodes count w p s x reads t;
}

-- ---- the location of a node

pub absolute_is : {K S : Type 0} (shape : K → S) (ns : List (NodeEntry K)) (i : ℕ) (n : NodeEntry K) (name : Text) → slice_get ns i ≡ Some n
    → (numbered shape ns).absolute i (joined ((numbered shape ns).location i) name) ≡ absolute_in n (joined n.location name)
absolute_is shape ns i n name e = ap (λ o. unwrap_or (option_map (λ n. absolute_in n (joined (unwrap_or (option_map (λ n. n.location) o) []) name)) o) None) e

pub replies_refused : {K S R : Type 0} (shape : K → S) (ns : List (NodeEntry K)) (words : Bool → Keywords S R) (x : Reading) (mode : Mode) (path : Text) (p : Place) (s : Subject) (i : ℕ) (n : NodeEntry K) (r : code.Reply) → slice_get ns i ≡ Some n
    → (words x.texts).texts ≡ x.texts → subject_at x.root p ≡ Some s → reply_of x.texts r ≡ reply_by mode (false_outcome x.texts (entry_where n path p) s) → All (BorrowsItsPlace x.root) (errors_in r)
    → Replies x mode r (false_outcome (words x.texts).texts (node_at (words x.texts) x.matcher (numbered shape ns) (subject_in x.root) i path p) (subject_in x.root p))
replies_refused shape ns words x mode path p s i n r e t at_p same borrows =
    let a = where_is shape ns (words x.texts) x.matcher (subject_in x.root) i n path p e in
    let b = stands_in x.root p s at_p in
    let o = ap (λ texts. false_outcome texts (entry_where n path p) s) (sym t) ∙ ap (λ w. false_outcome (words x.texts).texts w s) (sym a) ∙ ap (false_outcome (words x.texts).texts (node_at (words x.texts) x.matcher (numbered shape ns) (subject_in x.root) i path p)) (sym b) in
    record { same = same ∙ ap (reply_by mode) o; borrows = borrows }
