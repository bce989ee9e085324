-- Quantifiers (22.2.1, Quantifier).
use Rattle.std.specs.Prelude.{ℕ, Bool, true, nat_le, Option, Some, None, option_map, option_and_then}
use Rattle.pattern_characters.specs.Characters.{Text, after, number}
use Rattle.pattern_characters.specs.declared.parts.Count.{Count}

abbrev pub count : ℕ → Option ℕ → Count
count least most = record { min = least; max = most }

-- , and then a number or none
abbrev pub after_comma : ℕ → Text → Option (Count × Text)
after_comma least rest = option_map (λ q. (count least q.0, q.1)) (most (number rest))
  where
    most : Option (ℕ × Text) → Option (Option ℕ × Text)
    most None = Some (None, rest)
    most (Some p) = Some (Some p.0, p.1)

-- the rest of {n} {n,} {n,m} after the first number, up to the brace
abbrev pub after_least : ℕ → Text → Option (Count × Text)
after_least least text = comma (after 44 text)
  where
    comma : Option Text → Option (Count × Text)
    comma None = Some (count least (Some least), text)
    comma (Some rest) = after_comma least rest

-- {n} {n,} {n,m}, after the opening brace
unfoldable pub braces : Text → Option (Count × Text)
braces text = option_and_then (λ p. option_map (λ rest. (p.0, rest)) (after 125 p.1)) (option_and_then (λ p. after_least p.0 p.1) (number text))

-- the numbers are in order
abbrev pub in_order : Count → Bool
in_order c = at_most c.max
  where
    at_most : Option ℕ → Bool
    at_most None = true
    at_most (Some most) = nat_le c.min most
