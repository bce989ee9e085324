-- The result of the questions that a keyword asks up front says whether the keyword holds.
use Rattle.std.proofs.Common.{◌≡◌, ◌∙◌, ◌&&◌, ◌+◌, ◌-◌, ◌||◌, ◌∷◌, [], Bool, List, ap, arith, false, length, map, min, not, refl, string_bytes, true, ℕ}
use Rattle.std.proofs.lemmas.List.Folds.{list_all-map}
use Rattle.std.specs.List.{list_all, list_any}
use Rattle.serde_json.specs.Data.{array, object}
use Rattle.serde_json.specs.View.{items_view, members_view}
use Rattle.serde_json.specs.declared.value.Value.{Value}
use Rattle.serde_json.proofs.Views.{Entry}
use Rattle.theory_definitions.specs.Instance.{Subject, Text, a_value}
use Rattle.theory_definitions.specs.Keywords.{Question, down}
use Rattle.theory_definitions.specs.Instance as instance
use Rattle.theory_definitions.specs.Matching.{Matching}
use Rattle.schema_traits.specs.AskedAtOnce.{all_at_names, child_at, first_at_name, numbers_from}
use Rattle.schema_traits.specs.AskedAtOnce as asked
use Rattle.schema_traits.specs.KeywordViews.{is_nil}
use Rattle.keyword_authoring.specs.Items.{child_here, each_from}
use Rattle.keyword_authoring.specs.Members.{at_name, has_member, members_from, names_in, only_if, subject_names}
use Rattle.keyword_authoring.specs.Somes.{somes, with_some}
use Rattle.keyword_authoring.specs.Tallies.{counted, yes_count}
use Rattle.keyword_authoring.specs.Ways.{way_holds}
use Rattle.keyword_authoring.proofs.AskedAlike.{each_at_its_own, first_at_each, numbered_alike}
use Rattle.schema_applicators.specs.ApplicatorShape.{has_all_of, has_any_of}
use Rattle.schema_applicators.specs.Words.{if_none}
use Rattle.standard_basics.specs.BasicShape.{applies, has_items, has_prefix_items, has_properties, has_property_names}
use Rattle.standard_basics.specs.Words.{way}

min_one : (n : ℕ) → min 1 (n + 1) ≡ 1
min_one n = omega arith

-- Nothing is reported if one of the questions is accepted.
any_told : (text : Text) (accepts : Question → Bool) (qs : List Question) → is_nil (if_none text (min 1 (yes_count accepts qs))) ≡ list_any accepts qs
any_told text accepts [] = refl
any_told text accepts (q ∷ qs) = by (accepts q) (any_told text accepts qs)
  where
    by : (b : Bool) → is_nil (if_none text (min 1 (yes_count accepts qs))) ≡ list_any accepts qs
        → is_nil (if_none text (min 1 (counted b (yes_count accepts qs)))) ≡ (b || list_any accepts qs)
    by true h = ap (λ n. is_nil (if_none text n)) (min_one (yes_count accepts qs))
    by false h = h

members_hold : (accepts : Question → Bool) (s : Subject) (i : ℕ) (ks : List Text) → list_all accepts (somes (members_from i ks s)) ≡ all_at_names accepts s i ks
members_hold accepts s i [] = refl
members_hold accepts s i (k ∷ ks) = by (has_member k s) (members_hold accepts s (i + 1) ks)
  where
    by : (b : Bool) → list_all accepts (somes (members_from (i + 1) ks s)) ≡ all_at_names accepts s (i + 1) ks
        → list_all accepts (with_some (only_if b (record { child = i; below = down (instance.to_member k) })) (somes (members_from (i + 1) ks s)))
        ≡ ((not b || accepts (record { child = i; below = down (instance.to_member k) })) && all_at_names accepts s (i + 1) ks)
    by true h = ap (λ x. accepts (record { child = i; below = down (instance.to_member k) }) && x) h
    by false h = h

names_hold : (accepts : Question → Bool) (es : List Entry) → list_all accepts (map at_name (names_in (members_view es))) ≡ list_all (λ e. accepts (first_at_name (string_bytes e.0))) es
names_hold accepts [] = refl
names_hold accepts (e ∷ es) = ap (λ b. accepts (at_name (string_bytes e.0)) && b) (names_hold accepts es)

module _ (texts : Bool) (s : Subject) (matching : Matching) (accepts : Question → Bool) where
  pub each_asked : (n : ℕ) → way_holds (way texts (applies (has_all_of n)) s) matching accepts ≡ list_all accepts (map asked.child_here (numbers_from 0 n))
  each_asked n = ap (list_all accepts) (numbered_alike child_here 0 n)

  pub one_asked : (n : ℕ) → way_holds (way texts (applies (has_any_of n)) s) matching accepts ≡ list_any accepts (map asked.child_here (numbers_from 0 n))
  one_asked n = any_told _ accepts (each_from child_here 0 n) ∙ ap (list_any accepts) (numbered_alike child_here 0 n)

  pub members_asked : (ks : List Text) → way_holds (way texts (has_properties ks) s) matching accepts ≡ all_at_names accepts s 0 ks
  members_asked ks = members_hold accepts s 0 ks

  module _ (items : List Value) (is : s ≡ a_value (array (items_view items))) where
    pub items_asked : (n : ℕ) → way_holds (way texts (has_items n) s) matching accepts ≡ list_all (λ k. accepts (child_at 0 k)) (numbers_from n (length items - n))
    items_asked n = ap (list_all accepts) (first_at_each s items is n) ∙ list_all-map accepts (child_at 0) (numbers_from n (length items - n))

    pub listed_asked : (n : ℕ) → way_holds (way texts (has_prefix_items n) s) matching accepts ≡ list_all (λ k. accepts (child_at k k)) (numbers_from 0 (min n (length items)))
    listed_asked n = ap (list_all accepts) (each_at_its_own s items is n) ∙ list_all-map accepts (λ k. child_at k k) (numbers_from 0 (min n (length items)))

  pub names_asked : (es : List Entry) → s ≡ a_value (object (members_view es)) → way_holds (way texts has_property_names s) matching accepts ≡ list_all (λ e. accepts (first_at_name (string_bytes e.0))) es
  names_asked es is = ap (λ t. list_all accepts (map at_name (subject_names t))) is ∙ names_hold accepts es
