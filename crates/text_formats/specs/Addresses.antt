-- Addresses of the Internet Protocol: IPv4address and IPv6address. (RFC 3986, section 3.2.2; RFC
-- 4291, section 2.2) In mail the same are IPv4-address-literal and IPv6-addr. (RFC 5321, section
-- 4.1.3)
use Rattle.std.specs.Prelude.{Bool, List, None, Option, Some, [], ◌==◌, count_by, drop, false, if◌then◌else◌, length, nat_le, option_map, take, true, ◌&&◌, ◌*◌, ◌+◌, ◌∷◌, ℕ}
use Rattle.std.specs.List.{list_all}
use Rattle.text_formats.specs.Characters.{Text, is_digit, is_hex_digit, value}
use Rattle.text_formats.specs.Cutting.{is_empty, parts}
use Rattle.text_formats.specs.declared.addresses.Ending.{Ending}
use Rattle.text_formats.specs.declared.addresses.Ending.TheVariants.{Group, Ipv4, MailIpv4}

-- dec-octet: a number from 0 to 255 in decimal digits, without a leading zero
abbrev pub is_octet : Text → Bool
is_octet [] = false
is_octet (a ∷ []) = is_digit a
is_octet (a ∷ b ∷ []) = is_digit a && is_digit b && nat_le 1 (value a)
is_octet (a ∷ b ∷ c ∷ []) = is_digit a && is_digit b && is_digit c && nat_le 1 (value a) && nat_le (100 * value a + 10 * value b + value c) 255
is_octet (a ∷ b ∷ c ∷ d ∷ more) = false

-- IPv4address = dec-octet "." dec-octet "." dec-octet "." dec-octet
abbrev pub is_ipv4 : Text → Bool
is_ipv4 t = (count_by (λ c. c == 46) t == 3) && list_all is_octet (parts 46 t)

-- Snum = 1*3DIGIT, from 0 to 255
abbrev pub is_snum : Text → Bool
is_snum [] = false
is_snum (a ∷ []) = is_digit a
is_snum (a ∷ b ∷ []) = is_digit a && is_digit b
is_snum (a ∷ b ∷ c ∷ []) = is_digit a && is_digit b && is_digit c && nat_le (100 * value a + 10 * value b + value c) 255
is_snum (a ∷ b ∷ c ∷ d ∷ more) = false

-- IPv4-address-literal = Snum 3("." Snum)
abbrev pub is_mail_ipv4 : Text → Bool
is_mail_ipv4 t = (count_by (λ c. c == 46) t == 3) && list_all is_snum (parts 46 t)

-- h16 = 1*4HEXDIG
abbrev pub is_group : Text → Bool
is_group t = nat_le 1 (length t) && nat_le (length t) 4 && list_all is_hex_digit t

-- the last part may be this text, if it is no group
abbrev pub may_end : Ending → Text → Bool
may_end Group p = false
may_end Ipv4 p = is_ipv4 p
may_end MailIpv4 p = is_mail_ipv4 p

-- the number of groups of 16 bits in the last part: one, or two for an IPv4 address, if one is
-- allowed
abbrev pub last_groups : Ending → Text → Option ℕ
last_groups ending p = if is_group p then Some 1 else if may_end ending p then Some 2 else None

-- the number of groups of 16 bits in the parts between colons
abbrev pub groups : Ending → List Text → Option ℕ
groups ending [] = None
groups ending (p ∷ []) = last_groups ending p
groups ending (p ∷ q ∷ ps) = if is_group p then option_map (λ n. n + 1) (groups ending (q ∷ ps)) else None

-- the same, but an empty text is also allowed, and has no groups
abbrev pub groups_if_any : Ending → Text → Option ℕ
groups_if_any ending t = if is_empty t then Some 0 else groups ending (parts 58 t)

-- the index of the first `::`, counted from n
abbrev pub gap_from : ℕ → Text → Option ℕ
gap_from n [] = None
gap_from n (c ∷ []) = None
gap_from n (c ∷ d ∷ cs) = if (c == 58) && (d == 58) then Some n else gap_from (n + 1) (d ∷ cs)

abbrev pub is_eight : Option ℕ → Bool
is_eight None = false
is_eight (Some n) = n == 8

-- both sides of `::` together have at most this many groups
abbrev pub have_at_most : ℕ → Option ℕ → Option ℕ → Bool
have_at_most most None right = false
have_at_most most (Some m) None = false
have_at_most most (Some m) (Some n) = nat_le (m + n) most

-- eight groups, or at most as many as given if `::` replaces the missing ones; an IPv4 address may
-- replace the last two
abbrev pub is_ipv6_with : Ending → ℕ → Text → Option ℕ → Bool
is_ipv6_with ending most t None = is_eight (groups_if_any ending t)
is_ipv6_with ending most t (Some n) = have_at_most most (groups_if_any Group (take n t)) (groups_if_any ending (drop (n + 2) t))

-- `::` replaces one group at least
abbrev pub is_ipv6 : Text → Bool
is_ipv6 t = is_ipv6_with Ipv4 7 t (gap_from 0 t)

-- `::` replaces two groups at least
abbrev pub is_mail_ipv6 : Text → Bool
is_mail_ipv6 t = is_ipv6_with MailIpv4 6 t (gap_from 0 t)
