-- The worked rows, by computation.
use Rattle.std.proofs.Common.{ℕ, arith, refl, subst, sym, ◌∙◌, true≢false}
use Rattle.std.specs.Prelude.{[], Bool, List, codes, slice_index_or, true, ◌&&◌, ◌≡◌, ◌∷◌}
use Rattle.std.specs.List.{list_any}
use Rattle.std.proofs.lemmas.Slice.Eq.{bytes_eq-Decides}
use Rattle.std.specs.Fmt.{digits}
use Rattle.std.specs.Str.Lossy.{utf8_lossy, utf8_valid_len}
use Rattle.std.specs.Str.{chars, is_utf8}
use lib.Utf8.{encode}
use Rattle.percent_encoding.specs.Percent.{percent_decode}
use Rattle.serde_json.specs.Data.{Data}
use Rattle.theory_definitions.specs.Instance.{Place, Text, same_place}
use Rattle.theory_definitions.specs.Matching.{Completion, all_match, completion_of}
use Rattle.theory_definitions.specs.Plan.{Key, Target, same_target}
use Rattle.theory_definitions.proofs.Products.{both_left, both_right, in_either}
use Rattle.theory_meaning.specs.Greatest.{accepts_by}
use Rattle.theory_meaning.specs.Reach.{Reached, asked_by, asked_for, at_first}
use Rattle.theory_meaning.specs.Rows.{pattern}
use Rattle.theory_meaning.specs.RowsWorked.{worked_parts, root_of, text}
use Rattle.theory_meaning.proofs.SameRun.{place_is}
use Rattle.theory_fixed_points.specs.Solutions.{StandsByItself}
use Rattle.theory_fixed_points.proofs.NumbersSay.{one_target_accepts, same_target_is}
use Rattle.theory_fixed_points.specs.Cycles.{AllAndMatchRefuses, AnyOrMatchAccepts, TwoAcceptText, TwoRefuseNumber, root_and_match, two_schema}

module _ (unfinished_ones : List Text) (schema : Data) where
  -- The key at this position among those that the makers of a key request.
  abbrev next : Key Text → ℕ → Key Text
  next k i = slice_index_or (asked_for (worked_parts unfinished_ones schema) k) i k

  abbrev among : List (Key Text) → Target Text → Bool
  among ls t = list_any (λ (l : Key Text). same_target (worked_parts unfinished_ones schema) t l.target) ls

  -- These keys, at the root place.
  abbrev at_root : List (Key Text) → Target Text → Place → Bool
  at_root ls t p = same_place p [] && among ls t

  module _ (instance : Data) (c : Completion) (ls : List (Key Text)) where
    abbrev Does : Key Text → Type 0
    Does k = accepts_by (worked_parts unfinished_ones schema) instance c (λ l q. at_root ls l.target q) k [] ≡ true

    abbrev EachDoes : List (Key Text) → Type 0
    EachDoes [] = Unit {0}
    EachDoes (l ∷ more) = Does l × EachDoes more

    one_does : (k : Key Text) (more : List (Key Text)) → EachDoes more → among more k.target ≡ true → Does k
    one_does k [] each is = absurd (true≢false (sym is))
    one_does k (l ∷ more) each is = in_either (same_target (worked_parts unfinished_ones schema) k.target l.target) (among more k.target)
        (λ same. one_target_accepts (worked_parts unfinished_ones schema) instance c (at_root ls) k l (same_target_is (worked_parts unfinished_ones schema) bytes_eq-Decides k.target l.target same) [] ∙ each.0)
        (λ later. one_does k more each.1 later)
        is

    -- The set of these keys stands by itself if each of them accepts, given that they all do.
    stand : EachDoes ls → StandsByItself (worked_parts unfinished_ones schema) (root_of unfinished_ones schema) instance c (at_root ls)
    stand each k reached p is =
        let place : [] ≡ p = sym (place_is p [] (both_left _ _ is)) in
        subst (λ q. accepts_by (worked_parts unfinished_ones schema) instance c (λ l r. at_root ls l.target r) k q ≡ true) place (one_does k ls each (both_right _ _ is))

-- ---- two schemas that refer to each other

abbrev two_0 : Key Text
two_0 = root_of [] two_schema

abbrev two_1 : Key Text
two_1 = next [] two_schema two_0 0

abbrev two_2 : Key Text
two_2 = next [] two_schema two_1 0

abbrev two_3 : Key Text
two_3 = next [] two_schema two_2 0

abbrev two_4 : Key Text
two_4 = next [] two_schema two_3 0

abbrev two_keys : List (Key Text)
two_keys = two_0 ∷ two_1 ∷ two_2 ∷ two_3 ∷ two_4 ∷ []

pub two_accept_text : TwoAcceptText
unfolding digits percent_decode utf8_lossy utf8_valid_len is_utf8 chars encode
two_accept_text c = (at_root [] two_schema two_keys, stand [] two_schema (text (codes "a")) c two_keys (refl, (refl, (refl, (refl, (refl, tt))))), refl)

pub two_refuse_number : TwoRefuseNumber
unfolding digits percent_decode utf8_lossy utf8_valid_len is_utf8 chars encode
two_refuse_number each =
    let (accepts, stands, at) = each all_match in
    let at_1 : accepts two_1.target [] ≡ true = both_left _ _ (stands two_0 at_first [] at) in
    let reached_1 : Reached (worked_parts [] two_schema) two_0 two_1 = asked_by at_first (0, omega arith, refl) in
    let at_2 : accepts two_2.target [] ≡ true = both_left _ _ (both_left _ _ (stands two_1 reached_1 [] at_1)) in
    let reached_2 : Reached (worked_parts [] two_schema) two_0 two_2 = asked_by reached_1 (0, omega arith, refl) in
    let at_3 : accepts two_3.target [] ≡ true = both_left _ _ (stands two_2 reached_2 [] at_2) in
    let reached_3 : Reached (worked_parts [] two_schema) two_0 two_3 = asked_by reached_2 (0, omega arith, refl) in
    true≢false (sym (stands two_3 reached_3 [] at_3))

-- ---- the root beside a match that stays unfinished

abbrev any_0 : Key Text
any_0 = root_of (pattern ∷ []) (root_and_match (codes "anyOf"))

abbrev any_keys : List (Key Text)
any_keys = any_0 ∷ next (pattern ∷ []) (root_and_match (codes "anyOf")) any_0 0 ∷ []

pub any_or_match_accepts : AnyOrMatchAccepts
unfolding digits percent_decode utf8_lossy utf8_valid_len is_utf8 chars encode
any_or_match_accepts c = (at_root (pattern ∷ []) (root_and_match (codes "anyOf")) any_keys, stand (pattern ∷ []) (root_and_match (codes "anyOf")) (text (codes "abc")) c any_keys (refl, (refl, tt)), refl)

abbrev all_0 : Key Text
all_0 = root_of (pattern ∷ []) (root_and_match (codes "allOf"))

abbrev all_2 : Key Text
all_2 = next (pattern ∷ []) (root_and_match (codes "allOf")) all_0 1

pub all_and_match_refuses : AllAndMatchRefuses
unfolding digits percent_decode utf8_lossy utf8_valid_len is_utf8 chars encode
all_and_match_refuses each =
    let (accepts, stands, at) = each (completion_of []) in
    let at_2 : accepts all_2.target [] ≡ true = both_left _ _ (both_right _ _ (both_left _ _ (stands all_0 at_first [] at))) in
    let reached_2 : Reached (worked_parts (pattern ∷ []) (root_and_match (codes "allOf"))) all_0 all_2 = asked_by at_first (1, omega arith, refl) in
    true≢false (sym (stands all_2 reached_2 [] at_2))
