-- The result computed over a table of nodes agrees with the property of each of its numbers.
use Rattle.std.proofs.Common.{◌≡◌, ◌∷◌, ◌&&◌, ◌+◌, ◌∙◌, ℕ, Bool, false, true, List, [], Option, Some, ap, refl, sym, subst, inl, inr, arith, map, length, take, get_or}
use Rattle.std.specs.Prelude.{All, flat_map, option_map, slice_get, slice_index_or, unwrap_or}
use Rattle.std.specs.List.{list_all}
use Rattle.std.proofs.lemmas.List.Concat.{flat_map-cons}
use Rattle.std.proofs.lemmas.List.Folds.{list_all-append, list_all-map, list_all_at, list_all_more}
use Rattle.std.proofs.lemmas.List.Sums.{AllPass-from_list_all, list_all-from_AllPass}
use Rattle.std.proofs.lemmas.Option.{get_or_from_slice_get, slice_get-get_or, slice_get_cases, slice_get_within}
use Rattle.theory_definitions.specs.Guarded.{NodeForm, NodePart, NodePlan, node_always, node_keyword, node_never, node_reference, node_these}
use Rattle.theory_meaning.specs.Fractions.{AreWhole, form_words, node_words}
use Rattle.schema_node_table.specs.NodeTable.{NodeEntry, numbered, plan_in, shaped, shaped_form, shaped_part}
use Rattle.schema_node_table.specs.NodeViews.{entry_of, form_of, node_of, plan_of}
use Rattle.schema_node_table.specs.declared.node.Entry.{Entry}
use Rattle.schema_node_table.specs.declared.node.Node.{Node}
use Rattle.schema_node_table.specs.declared.node.NodeForm.{NodeForm as CodeForm}
use Rattle.meta_checker.specs.Shown.{form_is_whole, node_is_whole, table_is_whole}

flat : {A B : Type 0} (p : B → Bool) (f : A → List B) (xs : List A) → list_all p (flat_map f xs) ≡ list_all (λ x. list_all p (f x)) xs
flat p f [] = refl
flat p f (x ∷ xs) = ap (list_all p) (flat_map-cons f x xs) ∙ list_all-append p (f x) (flat_map f xs) ∙ ap (λ b. list_all p (f x) && b) (flat p f xs)

-- the entries of a node, one by one
pub entries_say : {K : Type 0} (says : K → Bool) (es : List (Entry K))
    → list_all (λ (e : Entry K). form_is_whole says (form_of e.form)) es ≡ list_all says (node_words (node_these (map entry_of es)))
entries_say {K} says es =
    sym (flat says (λ (x : NodePart K). form_words x.form) (map entry_of es) ∙ list_all-map (λ (x : NodePart K). form_is_whole says x.form) entry_of es)

-- the node that has this form
pub form_in : {K : Type 0} (says : K → Bool) (n : Node K) (form : CodeForm K) → n.form ≡ Some form → node_is_whole says (node_of n) ≡ list_all says (node_words (plan_of form))
form_in says n form is = ap (λ f. list_all says (node_words (unwrap_or (option_map plan_of f) node_always))) is

-- one node of the table fails the test
pub one_says_no : {K : Type 0} (says : K → Bool) (ns : List (NodeEntry K)) (i : ℕ) (n : NodeEntry K) → slice_get ns i ≡ Some n → node_is_whole says n ≡ false → table_is_whole says ns ≡ false
one_says_no says ns i n there is = list_all_at (node_is_whole says) ns i n (slice_get_within ns i n there) (ap (node_is_whole says) (get_or_from_slice_get ns i n n there) ∙ is)

-- the first nodes of a table, and one more
pub one_more_says : {K : Type 0} (says : K → Bool) (ns : List (NodeEntry K)) (i : ℕ) (n : NodeEntry K) → slice_get ns i ≡ Some n → node_is_whole says n ≡ true → table_is_whole says (take i ns) ≡ true → table_is_whole says (take (i + 1) ns) ≡ true
one_more_says says ns i n there is before =
    list_all_more (node_is_whole says) ns i n (slice_get_within ns i n there)
    ∙ ap (λ b. b && node_is_whole says (get_or ns i n)) before
    ∙ ap (node_is_whole says) (get_or_from_slice_get ns i n n there)
    ∙ is

-- ---- the facts about keywords at their places

module _ {K S : Type 0} (shape : K → S) where
  shaped_form_words : (form : NodeForm K) → form_words (shaped_form shape form) ≡ map shape (form_words form)
  shaped_form_words (node_keyword m es) = refl
  shaped_form_words (node_reference e) = refl

  shaped_says : (says : S → Bool) (plan : NodePlan K) → list_all says (node_words (shaped shape plan)) ≡ list_all (λ k. says (shape k)) (node_words plan)
  shaped_says says node_always = refl
  shaped_says says node_never = refl
  shaped_says says (node_these xs) = go xs where
    each : (x : NodePart K) → list_all says (form_words (shaped_form shape x.form)) ≡ list_all (λ k. says (shape k)) (form_words x.form)
    each x = ap (list_all says) (shaped_form_words x.form) ∙ list_all-map says shape (form_words x.form)

    go : (xs : List (NodePart K)) → list_all says (flat_map (λ (y : NodePart S). form_words y.form) (map (shaped_part shape) xs)) ≡ list_all (λ k. says (shape k)) (flat_map (λ (y : NodePart K). form_words y.form) xs)
    go [] = refl
    go (x ∷ xs) =
        ap (list_all says) (flat_map-cons (λ (y : NodePart S). form_words y.form) (shaped_part shape x) (map (shaped_part shape) xs))
        ∙ list_all-append says (form_words (shaped_form shape x.form)) (flat_map (λ (y : NodePart S). form_words y.form) (map (shaped_part shape) xs))
        ∙ ap (λ b. b && list_all says (flat_map (λ (y : NodePart S). form_words y.form) (map (shaped_part shape) xs))) (each x)
        ∙ ap (λ b. list_all (λ k. says (shape k)) (form_words x.form) && b) (go xs)
        ∙ sym (list_all-append (λ k. says (shape k)) (form_words x.form) (flat_map (λ (y : NodePart K). form_words y.form) xs))
        ∙ sym (ap (list_all (λ k. says (shape k))) (flat_map-cons (λ (y : NodePart K). form_words y.form) x xs))

  module _ (says : S → Bool) (ns : List (NodeEntry K)) where
    at_number : Option (NodeEntry K) → Type 0
    at_number n = All (λ m. says m ≡ true) (node_words (shaped shape (plan_in n)))

    pub each_from_table : table_is_whole (λ k. says (shape k)) ns ≡ true → AreWhole says (numbered shape ns) (length ns)
    unfolding at_number
    each_from_table all i l = elim (slice_get_cases ns i).1 [
      | inl h ↦ subst at_number (sym h.2) (AllPass-from_list_all says (node_words (shaped shape (plan_in (Some h.0))))
          (shaped_says says (plan_in (Some h.0)) ∙ subst (λ n. node_is_whole (λ k. says (shape k)) n ≡ true) h.3 (AllPass-from_list_all (node_is_whole (λ k. says (shape k))) ns all i h.0 l)))
      | inr h ↦ absurd (omega (arith, l, h.0))
    ]

    pub table_from_each : AreWhole says (numbered shape ns) (length ns) → table_is_whole (λ k. says (shape k)) ns ≡ true
    unfolding at_number
    table_from_each each = list_all-from_AllPass (node_is_whole (λ k. says (shape k))) ns (λ i d l.
        sym (shaped_says says (plan_in (Some (slice_index_or ns i d))))
        ∙ list_all-from_AllPass says (node_words (shaped shape (plan_in (Some (slice_index_or ns i d))))) (subst at_number (slice_get-get_or ns i d l) (each i l)))
