-- Addresses of electronic mail: Mailbox. (RFC 5321, sections 4.1.2, 4.1.3 and 4.5.3.1; RFC 5322,
-- section 3.2.3) If `wide` is true, they are internationalized: atext, qtextSMTP and labels may
-- have characters outside ASCII too. (RFC 6531, section 3.3) A label with such characters, a
-- U-label, has no further conditions.
use Rattle.std.specs.Prelude.{Bool, None, Option, Some, [], codes, drop, false, if◌then◌else◌, length, nat_le, not, option_and_then, take, true, ◌&&◌, ◌-◌, ◌==◌, ◌||◌, ◌∷◌, ℕ}
use Rattle.std.specs.List.{list_all, list_any}
use Rattle.std.specs.Str.{str_eq_ignore_ascii_case}
use Rattle.text_formats.specs.Addresses.{is_mail_ipv4, is_mail_ipv6}
use Rattle.text_formats.specs.Characters.{Text, is_between, is_digit, is_letter}
use Rattle.text_formats.specs.Cutting.{after, cut, is_empty, parts}
use Rattle.text_formats.specs.Hostnames.{is_label}

-- atext
abbrev pub is_atom_character : Bool → ℕ → Bool
is_atom_character wide c = is_letter c || is_digit c || list_any (λ m. m == c) (codes "!#$%&'*+-/=?^_`{|}~") || (wide && nat_le 128 c)

-- Atom = 1*atext
abbrev pub is_atom : Bool → Text → Bool
is_atom wide t = not (is_empty t) && list_all (is_atom_character wide) t

-- qtextSMTP = %d32-33 / %d35-91 / %d93-126
abbrev pub is_quoted_character : Bool → ℕ → Bool
is_quoted_character wide c = is_between 32 33 c || is_between 35 91 c || is_between 93 126 c || (wide && nat_le 128 c)

-- the text after the quotation mark that closes a Quoted-string: *( qtextSMTP / "\" %d32-126 )
-- DQUOTE
abbrev pub after_quoted : Bool → Text → Option Text
after_quoted wide [] = None
after_quoted wide (c ∷ []) = if c == 34 then Some [] else None
after_quoted wide (c ∷ d ∷ cs) =
    if c == 34 then Some (d ∷ cs)
    else if c == 92 then (if is_between 32 126 d then after_quoted wide cs else None)
    else if is_quoted_character wide c then after_quoted wide (d ∷ cs)
    else None

-- the text after Dot-string "@", where Dot-string = Atom *("." Atom)
abbrev pub after_dot_string : Bool → Option (Text × Text) → Option Text
after_dot_string wide None = None
after_dot_string wide (Some p) = if list_all (is_atom wide) (parts 46 p.0) then Some p.1 else None

-- the text after Local-part "@", where Local-part = Dot-string / Quoted-string
abbrev pub after_local_part : Bool → Text → Option Text
after_local_part wide [] = None
after_local_part wide (c ∷ cs) =
    if c == 34 then option_and_then (after 64) (after_quoted wide cs)
    else after_dot_string wide (cut 64 (c ∷ cs))

-- IPv4-address-literal / IPv6-address-literal; the only tag in use is `IPv6:`, which has no case,
-- as the texts of a grammar have none (RFC 5234, section 2.3)
abbrev pub is_literal : Text → Bool
is_literal t = is_mail_ipv4 t || (str_eq_ignore_ascii_case (take 5 t) (codes "IPv6:") && is_mail_ipv6 (drop 5 t))

abbrev pub is_literal_before : Option (Text × Text) → Bool
is_literal_before None = false
is_literal_before (Some p) = is_literal p.0 && is_empty p.1

-- Domain / address-literal, where Domain = sub-domain *("." sub-domain), and a literal is in
-- brackets
abbrev pub is_domain : Bool → Text → Bool
is_domain wide [] = false
is_domain wide (c ∷ cs) = if c == 91 then is_literal_before (cut 93 cs) else list_all (is_label wide) (parts 46 (c ∷ cs))

-- the part before "@" has at most 64 octets, and the domain at most 255
abbrev pub is_mailbox_with : Bool → Text → Option Text → Bool
is_mailbox_with wide t None = false
is_mailbox_with wide t (Some domain) = nat_le (length t - length domain) 65 && nat_le (length domain) 255 && is_domain wide domain

-- Mailbox = Local-part "@" ( Domain / address-literal )
abbrev pub is_mailbox : Bool → Text → Bool
is_mailbox wide t = is_mailbox_with wide t (after_local_part wide t)

abbrev pub is_email : Text → Bool
is_email t = is_mailbox false t

abbrev pub is_idn_email : Text → Bool
is_idn_email t = is_mailbox true t
