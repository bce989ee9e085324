-- Templates of URIs: URI-Template, of any level. (RFC 6570, section 2) The operators that the RFC
-- reserves for extensions, `=`, `,`, `!`, `@` and `|`, are allowed: its grammar has them, as
-- op-reserve. A processor that does not know an operator reports an error of expansion (section 3),
-- and no template is expanded here.
use Rattle.std.specs.Prelude.{Bool, None, Option, Some, [], codes, false, if◌then◌else◌, length, nat_le, not, true, ◌&&◌, ◌==◌, ◌∷◌, ℕ}
use Rattle.std.specs.List.{list_all, list_any}
use Rattle.std.specs.Str.{chars}
use Rattle.text_formats.specs.Characters.{Text, is_between, is_digit}
use Rattle.text_formats.specs.Cutting.{cut, is_empty, parts}
use Rattle.text_formats.specs.Iris.{is_of_query}
use Rattle.text_formats.specs.Uris.{is_made}
use Rattle.text_formats.specs.declared.uris.Class.TheVariants.{Literal, Variable}

-- no dot is first, last or beside another dot
abbrev pub are_dots_apart : Text → Bool
are_dots_apart [] = false
are_dots_apart (c ∷ []) = not (c == 46)
are_dots_apart (c ∷ d ∷ cs) = not (c == 46) && (if d == 46 then are_dots_apart cs else are_dots_apart (d ∷ cs))

-- varname = varchar *( ["."] varchar ), where varchar = ALPHA / DIGIT / "_" / pct-encoded
abbrev pub is_name : Text → Bool
is_name t = is_made false Variable t && are_dots_apart t

-- max-length = %x31-39 0*3DIGIT
abbrev pub is_max_length : Text → Bool
is_max_length [] = false
is_max_length (c ∷ cs) = is_between 49 57 c && nat_le (length cs) 3 && list_all is_digit cs

-- varname [ explode ], where explode = "*"
abbrev pub is_exploded : Text → Option (Text × Text) → Bool
is_exploded t None = is_name t
is_exploded t (Some p) = is_name p.0 && is_empty p.1

-- varname prefix, where prefix = ":" max-length
abbrev pub is_variable_with : Text → Option (Text × Text) → Bool
is_variable_with t None = is_exploded t (cut 42 t)
is_variable_with t (Some p) = is_name p.0 && is_max_length p.1

-- varspec = varname [ modifier-level4 ], where modifier-level4 = prefix / explode
abbrev pub is_variable : Text → Bool
is_variable t = is_variable_with t (cut 58 t)

-- operator = op-level2 / op-level3 / op-reserve
abbrev pub is_operator : ℕ → Bool
is_operator c = list_any (λ m. m == c) (codes "+#./;?&=,!@|")

-- the text after [ operator ]
abbrev pub past_operator : Text → Text
past_operator [] = []
past_operator (c ∷ cs) = if is_operator c then cs else c ∷ cs

-- [ operator ] variable-list, where variable-list = varspec *( "," varspec )
abbrev pub are_variables : Text → Bool
are_variables t = list_all is_variable (parts 44 (past_operator t))

-- the text after the brace that opens an expression = "{" [ operator ] variable-list "}", and
-- *literals
abbrev pub is_expression_end : Option (Text × Text) → Bool
is_expression_end None = false
is_expression_end (Some p) = are_variables p.0 && is_made true Literal p.1

abbrev pub is_after_brace : Text → Bool
is_after_brace t = is_expression_end (cut 125 t)

-- *literals, and after each opening brace the end of an expression and *literals; no literal
-- contains an opening brace
abbrev pub is_cut_as_template : Text → Option (Text × Text) → Bool
is_cut_as_template t None = is_made true Literal t
is_cut_as_template t (Some p) = is_made true Literal p.0 && list_all is_after_brace (parts 123 p.1)

-- URI-Template = *( literals / expression ); a character outside ASCII, which only a literal may
-- have, is in ucschar or iprivate
abbrev pub is_template : Text → Bool
is_template t = is_cut_as_template t (cut 123 t) && list_all is_of_query (chars t)
