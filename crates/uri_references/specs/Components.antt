-- A reference has five components: a scheme before `:`, an authority after `//`, a path, a query
-- after `?` and a fragment after `#`. Only the path is always present. (RFC 3986, section 3 and
-- appendix B)
use Rattle.std.specs.Prelude.{Bool, List, None, Option, Some, [], codes, drop, if◌then◌else◌, option_and_then, take, ℕ, ◌++◌, ◌==◌, ◌∷◌}
use Rattle.std.specs.List.{list_any, position_or_len}
use Rattle.uri_references.specs.declared.components.Component.{Component}
use Rattle.uri_references.specs.declared.components.Component.TheVariants.{Authority, Path, Query, Scheme}

abbrev pub Text : Type 0
Text = List ℕ

pub record Components : Type 0 where
  pub scheme : Option Text
  pub authority : Option Text
  pub path : Text
  pub query : Option Text
  pub fragment : Option Text

-- the marks that end a component
abbrev pub ends : Component → ℕ → Bool
ends Scheme c = list_any (λ m. m == c) (codes ":/?#")
ends Authority c = list_any (λ m. m == c) (codes "/?#")
ends Path c = list_any (λ m. m == c) (codes "?#")
ends Query c = list_any (λ m. m == c) (codes "#")

-- a text up to the first mark that ends the component
abbrev pub before : Component → Text → Text
before k t = take (position_or_len (ends k) t) t

-- a text from that mark on
abbrev pub rest : Component → Text → Text
rest k t = drop (position_or_len (ends k) t) t

-- the text after its first byte, if that is the mark
abbrev pub after_mark : ℕ → Text → Option Text
after_mark m [] = None
after_mark m (c ∷ cs) = if c == m then Some cs else None

-- a component, if there is one, and the text that follows it
pub record Found : Type 0 where
  pub component : Option Text
  pub left : Text

-- a scheme has at least one character (`:` is 58)
abbrev pub scheme_or : Text → Text → Option Text → Found
scheme_or t s None = record { component = None; left = t }
scheme_or t [] (Some u) = record { component = None; left = t }
scheme_or t (c ∷ cs) (Some u) = record { component = Some (c ∷ cs); left = u }

abbrev pub scheme_in : Text → Found
scheme_in t = scheme_or t (before Scheme t) (after_mark 58 (rest Scheme t))

-- the component up to its end, if the mark before it was found
abbrev pub up_to_end : Component → Text → Option Text → Found
up_to_end k t None = record { component = None; left = t }
up_to_end k t (Some u) = record { component = Some (before k u); left = rest k u }

-- two slashes come before an authority (`/` is 47)
abbrev pub authority_in : Text → Found
authority_in t = up_to_end Authority t (option_and_then (after_mark 47) (after_mark 47 t))

-- a query follows `?` (63), and a fragment follows `#` (35)
abbrev pub query_in : Text → Found
query_in t = up_to_end Query t (after_mark 63 t)

abbrev pub with_query : Found → Found → Text → Found → Components
with_query s a p q = record {
  scheme = s.component;
  authority = a.component;
  path = p;
  query = q.component;
  fragment = after_mark 35 q.left;
}

abbrev pub with_authority : Found → Found → Components
with_authority s a = with_query s a (before Path a.left) (query_in (rest Path a.left))

abbrev pub with_scheme : Found → Components
with_scheme s = with_authority s (authority_in s.left)

abbrev pub components : Text → Components
components t = with_scheme (scheme_in t)

-- a component between two texts, or nothing if there is no component
abbrev pub around : Text → Option Text → Text → Text
around front None back = []
around front (Some t) back = front ++ t ++ back

-- the text of components (RFC 3986, section 5.3)
abbrev pub composed : Components → Text
composed c = around [] c.scheme (codes ":") ++ around (codes "//") c.authority [] ++ c.path ++ around (codes "?") c.query []
    ++ around (codes "#") c.fragment []
