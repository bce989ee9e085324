-- Texts that are no pointers, and texts without their fragments.
use Rattle.std.proofs.Common.{◌≡◌, ◌≢◌, ◌<◌, ◌+◌, ◌==◌, ℕ, suc, Bool, true, false, cond, not, [], ◌∷◌, None, length, take, refl, sym, ap}
use Rattle.std.proofs.Common.{◌∙◌, arith, ne_eqb}
use Rattle.std.specs.Prelude.{if◌then◌else◌}
use Rattle.std.specs.List.{position_or_len}
use Rattle.serde_json.specs.Data.{Data}
use Rattle.theory_definitions.specs.Instance.{Text}
use Rattle.standard_subschemas.specs.SubschemaRules.{without_fragment}
use Rattle.standard_subschemas.specs.DocumentPointers.{path_of_pointer}

pub no_path : (t : Text) (d : Data) → 0 < length t → ((rest : Text) → t ≢ 47 ∷ rest) → path_of_pointer t d ≡ None
no_path [] d some h = absurd (omega arith)
no_path (x ∷ xs) d some h = rw (ne_eqb x 47 (λ e. h xs (ap (λ y. y ∷ xs) e)))

-- the text before the first `#`, by recursion
abbrev begin : Text → Text
begin [] = []
begin (x ∷ xs) = if x == 35 then [] else x ∷ begin xs

abbrev before : Text → ℕ
before t = position_or_len (λ x. x == 35) t

begins : (t : Text) → without_fragment t ≡ begin t
begins [] = refl
begins (x ∷ xs) =
    let go : (b : Bool) → take (cond (not b) (1 + before xs) 0) (x ∷ xs) ≡ cond b [] (x ∷ begin xs)
    = elim [
      | true ↦ refl
      | false ↦ ap (λ n. take n (x ∷ xs)) (let e : 1 + before xs ≡ suc (before xs) = omega arith in e)
          ∙ ap (λ ys. x ∷ ys) (begins xs)
    ] in
    go (x == 35)

begin_again : (t : Text) → begin (begin t) ≡ begin t
begin_again [] = refl
begin_again (x ∷ xs) =
    let go : (b : Bool) → (x == 35) ≡ b → begin (cond b [] (x ∷ begin xs)) ≡ cond b [] (x ∷ begin xs)
    = elim [ true ↦ λ e. refl | false ↦ λ e. rw e (ap (λ ys. x ∷ ys) (begin_again xs)) ] in
    go (x == 35) refl

-- a text without its fragment has no fragment
pub no_fragment_left : (t : Text) → without_fragment (without_fragment t) ≡ without_fragment t
no_fragment_left t = ap without_fragment (begins t) ∙ begins (begin t) ∙ begin_again t ∙ sym (begins t)
