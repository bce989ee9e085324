-- An authority in normal form, by its user information.
use Rattle.std.proofs.Common.{◌≡◌, ◌∙◌, ◌<◌, ◌++◌, ap, append_assoc, arith, codes, cond, length, sym}
use Rattle.std.specs.List.{after_first, before_first, position_or_len}
use Rattle.std.proofs.lemmas.Bool.{le-ltb, lt-ltb}
use Rattle.uri_references.specs.Components.{Text}
use Rattle.uri_references.specs.Normal.{ends_user, lower, normal_authority}

module _ (a : Text) where
  abbrev front : Text
  front = before_first ends_user a

  abbrev back : Text
  back = after_first ends_user a

  with_user : position_or_len ends_user a < length a → normal_authority a ≡ front ++ codes "@" ++ lower back
  with_user h = ap (λ b. cond b (front ++ codes "@" ++ lower back) (lower a)) (lt-ltb (position_or_len ends_user a) (length a) h)

  pub without_user : position_or_len ends_user a ≡ length a → normal_authority a ≡ lower a
  without_user e = ap (λ b. cond b (front ++ codes "@" ++ lower back) (lower a))
      (le-ltb (position_or_len ends_user a) (length a) (omega arith))

  -- the text after its three parts are appended
  pub user_pushed : (old user host first second third : Text) → position_or_len ends_user a < length a → user ≡ front → host ≡ back
      → first ≡ old ++ user → second ≡ first ++ codes "@" → third ≡ second ++ lower host → third ≡ old ++ normal_authority a
  user_pushed old user host first second third within is_user is_host is_first is_second is_third =
      is_third ∙ ap (λ t. t ++ lower host) (is_second ∙ ap (λ t. t ++ codes "@") is_first)
      ∙ ap (λ t. t ++ lower host) (append_assoc old user (codes "@")) ∙ append_assoc old (user ++ codes "@") (lower host)
      ∙ ap (λ t. old ++ ((t ++ codes "@") ++ lower host)) is_user ∙ ap (λ t. old ++ ((front ++ codes "@") ++ lower t)) is_host
      ∙ ap (λ t. old ++ t) (sym (with_user within))
