-- The path of the URI of a path is the path.
use Rattle.std.proofs.Common.{◌≡◌, ◌∙◌, ◌<◌, ◌==◌, ◌++◌, ◌∷◌, [], ℕ, All, Bool, None, Some, ap, ap₂, arith, codes, drop, false, inl, inr, length, refl, subst, sym, take, true}
use Rattle.std.specs.Prelude.{IsUtf8}
use Rattle.std.specs.List.{list_any, position_or_len}
use Rattle.std.specs.Str.Lossy.{utf8_lossy}
use Rattle.std.proofs.lemmas.Bool.{cases_Bool}
use Rattle.std.proofs.lemmas.Bool.Decides.{Decides-eqb, nat_tests}
use Rattle.std.proofs.lemmas.List.{drop_all, take_all}
use Rattle.std.proofs.lemmas.List.Sums.{position_or_len_is}
use Rattle.std.proofs.lemmas.Str.{utf8_lossy-IsUtf8}
use Rattle.percent_encoding.specs.AsciiSet.{should_percent_encode}
use Rattle.percent_encoding.specs.Percent.{percent_decode, percent_encode}
use Rattle.percent_encoding.proofs.PercentLemmas.{All-percent_encode, IsEscapeByte, percent_encode_kept, round_trip}
use Rattle.theory_definitions.specs.Instance.{Text}
use Rattle.uri_references.specs.Components.{Components, Found, components, query_in, with_query}
use Rattle.schema_files.specs.FileUris.{is_rooted, path_in, path_of_uri, uri_of_path}
use Rattle.schema_files.specs.declared.file_uris.TheConstants.{ESCAPED}

abbrev ends_path : ℕ → Bool
ends_path b = list_any (λ m. m == b) (codes "?#")

abbrev GoesOn : ℕ → Type 0
GoesOn b = ends_path b ≡ false

mark_escaped : (should_percent_encode ESCAPED 63 ≡ true) × (should_percent_encode ESCAPED 35 ≡ true)
unfolding should_percent_encode
mark_escaped = (refl, refl)

slash_kept : should_percent_encode ESCAPED 47 ≡ false
unfolding should_percent_encode
slash_kept = refl

kept_goes_on : (b : ℕ) → should_percent_encode ESCAPED b ≡ false → GoesOn b
kept_goes_on b kept = elim (cases_Bool (63 == b)) [
  | inl same ↦ absurd (let one : 63 ≡ b = (Decides-eqb 63 b).0 same in
      let e : true ≡ false = sym mark_escaped.0 ∙ ap (should_percent_encode ESCAPED) one ∙ kept in cc)
  | inr other ↦ elim (cases_Bool (35 == b)) [
    | inl same ↦ absurd (let one : 35 ≡ b = (Decides-eqb 35 b).0 same in
        let e : true ≡ false = sym mark_escaped.1 ∙ ap (should_percent_encode ESCAPED) one ∙ kept in cc)
    | inr another ↦ rw (other, another) refl
  ]
]

escape_goes_on : (b : ℕ) → IsEscapeByte b → GoesOn b
escape_goes_on b h = grind (arith, nat_tests)

goes_on : (bs : Text) → All GoesOn (percent_encode ESCAPED bs)
goes_on bs = All-percent_encode GoesOn ESCAPED bs kept_goes_on escape_goes_on

path_length : (t : Text) → All GoesOn t → position_or_len ends_path t ≡ length t
path_length t h = position_or_len_is ends_path t (length t) 0 (omega arith) (λ k l. h k 0 l) (λ l. absurd (omega arith))

path_whole : (t : Text) → All GoesOn t → take (position_or_len ends_path t) t ≡ t
path_whole t h = take_all _ t (omega (arith, path_length t h))

rest_none : (t : Text) → All GoesOn t → drop (position_or_len ends_path t) t ≡ []
rest_none t h = drop_all _ t (omega (arith, path_length t h))

abbrev of_file : Text → Components
of_file path = record { scheme = Some (codes "file"); authority = Some []; path = path; query = None; fragment = None }

abbrev scheme_found : Text → Found
scheme_found t = record { component = Some (codes "file"); left = 47 ∷ 47 ∷ t }

abbrev authority_found : Text → Found
authority_found t = record { component = Some []; left = t }

file_components : (e : Text) → All GoesOn (47 ∷ e) → components (codes "file://" ++ 47 ∷ e) ≡ of_file (47 ∷ e)
file_components e h =
    ap₂ (λ p r. with_query (scheme_found (47 ∷ e)) (authority_found (47 ∷ e)) p (query_in r)) (path_whole (47 ∷ e) h) (rest_none (47 ∷ e) h)

file_path : (t e : Text) → t ≡ 47 ∷ e → All GoesOn t → path_of_uri (codes "file://" ++ t) ≡ Some (utf8_lossy (percent_decode t))
file_path t e is h =
    let all : All GoesOn (47 ∷ e) = subst (All GoesOn) is h in
    rw is (ap path_in (file_components e all))

pub returns : (path : Text) → All (λ b. b < 256) path → IsUtf8 path → is_rooted path ≡ true → path_of_uri (uri_of_path path) ≡ Some path
returns [] small utf8 rooted = cc
returns (c ∷ cs) small utf8 rooted =
    let slash : c ≡ 47 = (Decides-eqb c 47).0 rooted in
    let kept : should_percent_encode ESCAPED c ≡ false = ap (should_percent_encode ESCAPED) slash ∙ slash_kept in
    let begins : percent_encode ESCAPED (c ∷ cs) ≡ 47 ∷ percent_encode ESCAPED cs =
    percent_encode_kept ESCAPED c cs kept ∙ ap (λ d. d ∷ percent_encode ESCAPED cs) slash in
    let decoded : percent_decode (percent_encode ESCAPED (c ∷ cs)) ≡ c ∷ cs = round_trip ESCAPED (c ∷ cs) refl small in
    file_path (percent_encode ESCAPED (c ∷ cs)) (percent_encode ESCAPED cs) begins (goes_on (c ∷ cs))
    ∙ ap (λ t. Some (utf8_lossy t)) decoded ∙ ap Some (utf8_lossy-IsUtf8 (c ∷ cs) utf8)
