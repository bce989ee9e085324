-- The worked rows, by computation.
use Rattle.std.proofs.Common.{refl, subst, sym, ◌∙◌, true≢false}
use Rattle.std.specs.Prelude.{[], Bool, None, Some, codes, true, ◌&&◌, ◌≡◌, ◌||◌, ◌∷◌}
use Rattle.std.proofs.lemmas.Slice.Eq.{bytes_eq-Decides}
use Rattle.std.specs.Fmt.{digits}
use Rattle.std.specs.Str.Lossy.{utf8_lossy, utf8_valid_len}
use Rattle.std.specs.Str.{chars, is_utf8}
use lib.Utf8.{encode}
use Rattle.percent_encoding.specs.Percent.{percent_decode}
use Rattle.serde_json.specs.Data.{Data}
use Rattle.theory_definitions.specs.Instance.{Place, Text, same_place, to_item, to_member}
use Rattle.theory_definitions.specs.Matching.{Completion}
use Rattle.theory_definitions.specs.Making.{compile}
use Rattle.theory_definitions.specs.Plan.{Key, Target, child, same_target}
use Rattle.theory_definitions.proofs.Products.{both_left, both_right, in_either}
use Rattle.theory_meaning.specs.Greatest.{accepts_by}
use Rattle.theory_meaning.specs.Reach.{at_first}
use Rattle.theory_meaning.specs.RowsWorked.{worked_parts, root_of}
use Rattle.theory_meaning.proofs.SameRun.{place_is}
use Rattle.theory_fixed_points.specs.Rows.{AllAcceptsText, AllComesBack, AllRefusesNumber, AnyAcceptsNumber, AnyComesBack, IsAccepted, all_schema, any_schema}
use Rattle.theory_fixed_points.proofs.NumbersSay.{one_target_accepts, same_target_is}

-- The key of the first subschema of a keyword.
abbrev first_of : Data → Text → Key Text
first_of schema name = elim (child (worked_parts [] schema) (root_of [] schema) name (compile (to_member name ∷ to_item 0 ∷ []) ∷ []) 0) [ None ↦ root_of [] schema | Some edge ↦ edge.key ]

module _ (schema : Data) (other : Key Text) where
  -- The root and another key, at the root place.
  abbrev both_at_root : Target Text → Place → Bool
  both_at_root t p = same_place p [] && (same_target (worked_parts [] schema) t (root_of [] schema).target || same_target (worked_parts [] schema) t other.target)

  -- The set of these two pairs stands by itself if each accepts, given that both do.
  both_accept : (instance : Data) → ((c : Completion) → accepts_by (worked_parts [] schema) instance c (λ l q. both_at_root l.target q) (root_of [] schema) [] ≡ true)
      → ((c : Completion) → accepts_by (worked_parts [] schema) instance c (λ l q. both_at_root l.target q) other [] ≡ true)
      → both_at_root (root_of [] schema).target [] ≡ true → IsAccepted schema instance
  both_accept instance root_does other_does at c = (
    both_at_root,
    (λ k reached p is.
        let place : [] ≡ p = sym (place_is p [] (both_left _ _ is)) in
        subst (λ q. accepts_by (worked_parts [] schema) instance c (λ l r. both_at_root l.target r) k q ≡ true) place
        (in_either (same_target (worked_parts [] schema) k.target (root_of [] schema).target) (same_target (worked_parts [] schema) k.target other.target)
        (λ same. by k (root_of [] schema) same (root_does c)) (λ same. by k other same (other_does c)) (both_right _ _ is))),
    at,
  )
    where
      by : (k l : Key Text) → same_target (worked_parts [] schema) k.target l.target ≡ true → accepts_by (worked_parts [] schema) instance c (λ l r. both_at_root l.target r) l [] ≡ true
          → accepts_by (worked_parts [] schema) instance c (λ l r. both_at_root l.target r) k [] ≡ true
      by k l same does = one_target_accepts (worked_parts [] schema) instance c both_at_root k l (same_target_is (worked_parts [] schema) bytes_eq-Decides k.target l.target same) [] ∙ does

pub any_comes_back : AnyComesBack
any_comes_back = refl

pub any_accepts_number : AnyAcceptsNumber
unfolding digits percent_decode utf8_lossy utf8_valid_len is_utf8 chars encode
any_accepts_number = both_accept any_schema (first_of any_schema (codes "anyOf")) _ (λ c. refl) (λ c. refl) refl

pub all_comes_back : AllComesBack
all_comes_back = refl

pub all_refuses_number : AllRefusesNumber
unfolding digits percent_decode utf8_lossy utf8_valid_len is_utf8 chars encode
all_refuses_number c (accepts, stands, at) = true≢false (sym (stands (root_of [] all_schema) at_first [] at))

pub all_accepts_text : AllAcceptsText
unfolding digits percent_decode utf8_lossy utf8_valid_len is_utf8 chars encode
all_accepts_text = both_accept all_schema (first_of all_schema (codes "allOf")) _ (λ c. refl) (λ c. refl) refl
